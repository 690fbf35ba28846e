-- The rows of the join of a body make the kept instances of the alternative.
use Rattle.std.proofs.Common.{
  ℕ,
  ◌≡◌,
  ◌≤◌,
  ◌<◌,
  ◌+◌,
  inl,
  inr,
  Bool,
  true,
  false,
  cond,
  List,
  [],
  ◌∷◌,
  ◌++◌,
  length,
  length-append,
  map,
  get_or,
  set,
  take,
  append_assoc,
  refl,
  sym,
  ◌∙◌,
  ap,
  subst,
  arith,
  Option,
}
use Rattle.std.proofs.lemmas.List.{append-nil, map-append}
use Rattle.rules_clauses.specs.declared.numbered.Span.{Span}
use Rattle.statement.specs.Clause.{Atom, Alternative}
use Rattle.statement.specs.Dependence.{IsAmong}
use Rattle.ground_join.specs.declared.joining.Column.{Column}
use Rattle.ground_join.specs.declared.joining.Level.{Level}
use Rattle.ground_join.specs.declared.buckets.Buckets.{Buckets}
use Rattle.rules.specs.Drafts.{Numbered, alternative_of}
use Rattle.rules_clauses.specs.Marks as marks
use Rattle.rules_clauses.specs.Store.{Data}
use Rattle.statement.specs.declared.ground_fault.GroundFault.{GroundFault}
use Rattle.statement.specs.declared.ground_fault.GroundFault.TheVariants.{TooMany, NoMemory}
use Rattle.ground_terms.specs.Arena.{Held}
use Rattle.rules_clauses.specs.Numbers.{BeginsWith}
use Rattle.ground_terms.specs.Atoms.{AreAtoms, WordTerms, HasGrown}
use Rattle.statement.specs.Kept.{Kept}
use Rattle.ground_rows.specs.Instances.{IsRow, instance_by, instances_by}
use Rattle.ground_join.specs.Buckets.{AreBucketed, first_tried}
use Rattle.ground_join.specs.Joining.{joined, found, left_below, AreLevels, level_at}
use Rattle.ground_terms.specs.Keys.{trees}
use Rattle.ground_matching.specs.Levels.{Pools, with_body, no_pools, AreReady}
use Rattle.statement.specs.Listing.{Instance, instance_of, all_pass, passing, kept_of}
use Rattle.statement.specs.Matching.{Binding, map_of}
use Rattle.ground_matching.specs.Places.{names_in_places}
use Rattle.ground_rows.specs.Progress.{Adds, IsOver}
use Rattle.ground_matching.specs.Standing.{bindings}
use Rattle.statement.specs.Substitution.{Map}
use Rattle.std.proofs.Common.{set}
use Rattle.std.proofs.lemmas.List.{length-set, length-take-le}
use Rattle.ground_matching.proofs.Facts.{body_rows}
use Rattle.ground_join.proofs.Facts.{bucketed_read, none_before, begin, level_long}
use Rattle.ground_terms.proofs.Facts.{atoms_front, trees_front, grown_more}
use Rattle.ground_rows.proofs.ListingSteps.{adds_none, adds_both, adds_count}
use Rattle.ground_terms.proofs.Facts.{grown_itself}
use Rattle.ground_join.specs.Tail.{IsTail}
use Rattle.ground_rows.proofs.RowAtoms.{map_stays}
use Rattle.ground_join.proofs.TailFacts.{first_left}

pub passing_append : (rules : List Alternative) (atoms : List Atom) (is js : List Instance)
    → passing rules atoms (is ++ js) ≡ passing rules atoms is ++ passing rules atoms js
passing_append rules atoms [] js = refl
passing_append rules atoms (i ∷ is) js = go (all_pass rules atoms i.body) (passing_append rules atoms is js)
  where
    go : (b : Bool) → passing rules atoms (is ++ js) ≡ passing rules atoms is ++ passing rules atoms js
        → cond b (i ∷ passing rules atoms (is ++ js)) (passing rules atoms (is ++ js)) ≡ cond b (i ∷ passing rules atoms is) (passing rules atoms is)
        ++ passing rules atoms js
    go true e = ap (λ (l : List Instance). i ∷ l) e
    go false e = e

maps_both : (d : Data) (place : ℕ) (n : Numbered) (keys : List (List ℕ)) (places : List (Option ℕ)) (vss : List (List ℕ))
    → map (λ bs. instance_of place (alternative_of d n) (map_of bs)) (map (λ vs. bindings (trees d.words keys) (names_in_places d.words places) vs) vss) ≡
    instances_by d place n keys places vss
maps_both d place n keys places [] = refl
maps_both d place n keys places (vs ∷ vss) = ap (λ (is : List Instance). instance_by d place n keys places vs ∷ is)
    (maps_both d place n keys places vss)

-- the kept instances are those of the rows that pass
pub kept_rows : (rules : List Alternative) (d : Data) (place : ℕ) (n : Numbered) (keys : List (List ℕ)) (numbers : List ℕ) (ranges : List Span)
    → AreReady d keys numbers ranges
    → marks.AreInside n.variables.from d n.body → (atoms : List Atom) → AreAtoms (trees d.words keys) numbers atoms
    → (j : Pools) → j ≡ with_body d n.variables.from keys numbers ranges n.body no_pools
    → kept_of rules atoms place (alternative_of d n) ≡ passing rules atoms (instances_by d place n keys j.places (joined j.columns j.cells j.levels))
kept_rows rules d place n keys numbers ranges r i atoms a j e =
    let f = with_body d n.variables.from keys numbers ranges n.body no_pools in
    ap (λ (bss : List (List Binding)). passing rules atoms (map (λ bs. instance_of place (alternative_of d n) (map_of bs)) bss))
    (body_rows d n.variables.from keys numbers ranges r n.body i atoms a)
    ∙ ap (λ (is : List Instance). passing rules atoms is) (maps_both d place n keys f.places (joined f.columns f.cells f.levels))
    ∙ ap (λ (p : Pools). passing rules atoms (instances_by d place n keys p.places (joined p.columns p.cells p.levels))) (sym e)

-- an instance stays what it is while terms grow
pub instance_stays : (d : Data) (place : ℕ) (n : Numbered) (old new : List (List ℕ)) (places : List (Option ℕ)) (values : List ℕ) → BeginsWith old new
    → IsRow d old places values
    → instance_by d place n new places values ≡ instance_by d place n old places values
instance_stays d place n old new places values f r =
    ap (λ (m : Map). instance_of place (alternative_of d n) m) (map_stays d old new places values f r.below)

-- the instances of the rows so far were added, and some rows are left
pub record AddingRows (rules : List Alternative) (d : Data) (place : ℕ) (n : Numbered) (places : List (Option ℕ)) (numbers : List ℕ)
    (first now : Held) (before after : List Kept) (all rest : List (List ℕ)) : Type 0 where
  pub grown : HasGrown d.words first now
  pub done : List (List ℕ)
  pub split : all ≡ done ++ rest
  pub adds : (atoms : List Atom) → AreAtoms (trees d.words first.keys) numbers atoms
      → Adds rules atoms d.words first now before after (passing rules atoms (instances_by d place n first.keys places done))

module _ (rules : List Alternative) (d : Data) (place : ℕ) (n : Numbered) (places : List (Option ℕ)) (numbers : List ℕ) where
  pub rows_begin : (held : Held) (found : List Kept) (all : List (List ℕ)) → WordTerms d.words held
      → AddingRows rules d place n places numbers held held found found all all
  rows_begin held found all t =
      record { grown = grown_itself d.words held t; done = []; split = refl; adds = λ atoms a. adds_none rules atoms d.words held found t }

  one_more : (keys : List (List ℕ)) (atoms : List Atom) (done rest : List (List ℕ))
      → passing rules atoms (instances_by d place n keys places (done ++ rest)) ≡ passing rules atoms (instances_by d place n keys places done) ++
      passing rules atoms (instances_by d place n keys places rest)
  one_more keys atoms done rest =
      ap (λ (is : List Instance). passing rules atoms is) (map-append (λ vs. instance_by d place n keys places vs) done rest)
      ∙ passing_append rules atoms (instances_by d place n keys places done) (instances_by d place n keys places rest)

  -- the loop goes on behind one more row
  pub rows_next : (first now new : Held) (before after more : List Kept) (all rest : List (List ℕ)) (vs : List ℕ) → IsRow d first.keys places vs
      → AddingRows rules d place n places numbers first now before after all (vs ∷ rest) → HasGrown d.words now new
      → ((atoms : List Atom) → AreAtoms (trees d.words now.keys) numbers atoms
      → Adds rules atoms d.words now new after more (passing rules atoms (instance_by d place n now.keys places vs ∷ [])))
      → AddingRows rules d place n places numbers first new before more all rest
  rows_next first now new before after more all rest vs r s g step = record {
    grown = grown_more d.words first now new s.grown g;
    done = s.done ++ vs ∷ [];
    split = s.split ∙ sym (append_assoc s.done (vs ∷ []) rest);
    adds = λ atoms a.
        let own = step atoms (atoms_front (trees d.words first.keys) (trees d.words now.keys) numbers atoms
        (trees_front d.words first.keys now.keys s.grown.front) a) in
        let same = instance_stays d place n first.keys now.keys places vs s.grown.front r in
        subst (λ (is : List Instance). Adds rules atoms d.words first new before more is) (sym (one_more first.keys atoms s.done (vs ∷ [])))
        (adds_both rules atoms d.words first now new before after more _ _ (s.adds atoms a)
        (subst (λ (i : Instance). Adds rules atoms d.words now new after more (passing rules atoms (i ∷ []))) same own));
  }

  -- rows none of which makes a kept instance
  pub none_pass : (keys : List (List ℕ)) (atoms : List Atom) (rows : List (List ℕ))
      → ((vs : List ℕ) → IsAmong vs rows → passing rules atoms (instance_by d place n keys places vs ∷ []) ≡ [])
      → passing rules atoms (instances_by d place n keys places rows) ≡ []
  none_pass keys atoms [] f = refl
  none_pass keys atoms (vs ∷ rows) f =
      one_more keys atoms (vs ∷ []) rows
      ∙ ap (λ (is : List Instance). is ++ passing rules atoms (instances_by d place n keys places rows)) (f vs (inl refl))
      ∙ none_pass keys atoms rows (λ ws m. f ws (inr m))

  -- the loop passes over such rows
  pub rows_skip : (first now : Held) (before after : List Kept) (all xs ys : List (List ℕ))
      → AddingRows rules d place n places numbers first now before after all (xs ++ ys)
      → ((atoms : List Atom) → AreAtoms (trees d.words first.keys) numbers atoms
      → passing rules atoms (instances_by d place n first.keys places xs) ≡ [])
      → AddingRows rules d place n places numbers first now before after all ys
  rows_skip first now before after all xs ys s none = record {
    grown = s.grown;
    done = s.done ++ xs;
    split = s.split ∙ sym (append_assoc s.done xs ys);
    adds = λ atoms a.
        let old = passing rules atoms (instances_by d place n first.keys places s.done) in
        subst (λ (is : List Instance). Adds rules atoms d.words first now before after is)
        (sym (one_more first.keys atoms s.done xs ∙ ap (λ (is : List Instance). old ++ is) (none atoms a) ∙ append-nil old))
        (s.adds atoms a);
  }

  -- a limit that one row passes is passed by all
  pub rows_over : (first now : Held) (before after : List Kept) (most k m : ℕ) → k ≡ length before → m ≡ length after
      → (all rest : List (List ℕ)) (vs : List ℕ) (e : GroundFault) → IsRow d first.keys places vs
      → AddingRows rules d place n places numbers first now before after all (vs ∷ rest)
      → ((atoms : List Atom) → AreAtoms (trees d.words now.keys) numbers atoms
      → IsOver most (m + length (passing rules atoms (instance_by d place n now.keys places vs ∷ []))) e)
      → (atoms : List Atom) → AreAtoms (trees d.words first.keys) numbers atoms
      → IsOver most (k + length (passing rules atoms (instances_by d place n first.keys places all))) e
  rows_over first now before after most k m k_is m_is all rest vs NoMemory r s over atoms a = tt
  rows_over first now before after most k m k_is m_is all rest vs (TooMany x) r s over atoms a =
      let o = over atoms (atoms_front (trees d.words first.keys) (trees d.words now.keys) numbers atoms
      (trees_front d.words first.keys now.keys s.grown.front) a) in
      let h = o.0 in
      let same = ap (λ (i : Instance). length (passing rules atoms (i ∷ []))) (instance_stays d place n first.keys now.keys places vs s.grown.front r)
      in
      let counted = adds_count rules atoms d.words first now before after _ (s.adds atoms a) in
      let whole = ap (λ (rows : List (List ℕ)). length (passing rules atoms (instances_by d place n first.keys places rows))) s.split
      ∙ ap length (one_more first.keys atoms s.done (vs ∷ rest))
      ∙ length-append (passing rules atoms (instances_by d place n first.keys places s.done)) _ in
      let behind = ap length (one_more first.keys atoms (vs ∷ []) rest)
      ∙ length-append (passing rules atoms (instance_by d place n first.keys places vs ∷ [])) _ in
      (omega (arith, h, same, counted, whole, behind, k_is, m_is), o.1)

  -- the instances of all rows were added
  pub rows_end : (first now : Held) (before after : List Kept) (all rest : List (List ℕ)) → rest ≡ []
      → AddingRows rules d place n places numbers first now before after all rest
      → (atoms : List Atom) → AreAtoms (trees d.words first.keys) numbers atoms
      → Adds rules atoms d.words first now before after (passing rules atoms (instances_by d place n first.keys places all))
  rows_end first now before after all rest e s atoms a =
      subst (λ (rows : List (List ℕ)). Adds rules atoms d.words first now before after
      (passing rules atoms (instances_by d place n first.keys places rows)))
      (sym (s.split ∙ ap (λ (rows : List (List ℕ)). s.done ++ rows) e ∙ append-nil s.done)) (s.adds atoms a)

  -- each row that is left is one of all
  left_row : (P : List ℕ → Type 0) (done rest : List (List ℕ)) (vs : List ℕ) → ((ws : List ℕ) → IsAmong ws (done ++ (vs ∷ rest)) → P ws) → P vs
  left_row P [] rest vs f = f vs (inl refl)
  left_row P (w ∷ done) rest vs f = left_row P done rest vs (λ ws m. f ws (inr m))

  pub row_here : (P : List ℕ → Type 0) (first now : Held) (before after : List Kept) (all rest : List (List ℕ)) (vs : List ℕ)
      → ((ws : List ℕ) → IsAmong ws all → P ws)
      → AddingRows rules d place n places numbers first now before after all (vs ∷ rest) → P vs
  row_here P first now before after all rest vs f s = left_row P s.done rest vs
      (subst (λ (rows : List (List ℕ)). (ws : List ℕ) → IsAmong ws rows → P ws) s.split f)

  -- the loop over the rows of a join
  pub record Going (first now : Held) (before after : List Kept) (columns : List Column) (cells : List ℕ) (levels : List Level)
      (behind values : List ℕ) (variables walked bound active : ℕ) : Type 0 where
    pub adding : AddingRows rules d place n places numbers first now before after (joined columns cells levels)
        (found (left_below columns cells levels behind values active))
    pub within : active ≤ walked
    pub behind_same : length behind ≡ walked
    pub values_same : length values ≡ variables
    pub tail : IsTail columns cells levels walked bound values

  pub going_begins : (held : Held) (fs : List Kept) (columns : List Column) (cells : List ℕ) (levels : List Level) (buckets : List Buckets)
      (behind values : List ℕ) (variables walked bound : ℕ) (b : Buckets) (first : ℕ) → WordTerms d.words held
      → AreLevels columns cells levels variables → AreBucketed columns cells levels buckets → 0 < length levels → length behind ≡ length levels
      → length values ≡ variables → IsTail columns cells levels walked bound values
      → b ≡ get_or buckets 0 b → (0 < (level_at levels 0).rows → first ≡ first_tried columns (level_at levels 0) b.first.items values)
      → Going held held fs fs columns cells levels (take walked (set behind 0 first)) values variables walked bound 1
  going_begins held fs columns cells levels buckets behind values variables walked bound b first t w bucketed some same full tail b_is first_is =
      let none = none_before columns cells (level_at levels 0) b.first.items b.next.items values first
      (bucketed_read columns cells levels buckets 0 b bucketed some b_is)
      (level_long columns cells levels variables w 0 values full some) first_is in
      let long : length (set behind 0 first) ≡ length levels = length-set behind 0 first ∙ same in
      record {
        adding = subst (λ (rows : List (List ℕ)). AddingRows rules d place n places numbers held held fs fs (joined columns cells levels) rows)
            (begin columns cells levels variables w behind values first some same none
            ∙ sym (ap (λ (xs : List (Option (List ℕ))). found xs) (first_left columns cells levels (set behind 0 first) values walked tail.some)))
            (rows_begin held fs (joined columns cells levels) t);
        within = tail.some;
        behind_same = length-take-le walked (set behind 0 first) (let h = tail.within in omega (arith, h, long));
        values_same = full;
        tail = tail;
      }

  pub adding_at : (first now : Held) (before after : List Kept) (all xs ys : List (List ℕ)) → xs ≡ ys
      → AddingRows rules d place n places numbers first now before after all xs → AddingRows rules d place n places numbers first now before after all
      ys
  adding_at first now before after all xs ys e s = subst
      (λ (rows : List (List ℕ)). AddingRows rules d place n places numbers first now before after all rows) e s

  -- the same of the error that is handed on
  pub rows_wrong : (first now : Held) (before after : List Kept) (most k m : ℕ) → k ≡ length before → m ≡ length after
      → (all rest : List (List ℕ)) (vs : List ℕ) (e f : GroundFault) → f ≡ e → IsRow d first.keys places vs
      → AddingRows rules d place n places numbers first now before after all (vs ∷ rest)
      → ((atoms : List Atom) → AreAtoms (trees d.words now.keys) numbers atoms
      → IsOver most (m + length (passing rules atoms (instance_by d place n now.keys places vs ∷ []))) e)
      → (atoms : List Atom) → AreAtoms (trees d.words first.keys) numbers atoms
      → IsOver most (k + length (passing rules atoms (instances_by d place n first.keys places all))) f
  rows_wrong first now before after most k m k_is m_is all rest vs e f same r s over atoms a =
      subst (λ (x : GroundFault). IsOver most (k + length (passing rules atoms (instances_by d place n first.keys places all))) x) (sym same)
      (rows_over first now before after most k m k_is m_is all rest vs e r s over atoms a)
