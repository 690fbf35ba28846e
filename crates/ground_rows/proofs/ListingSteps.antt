-- One step of the listing by numbers after the other.
use Rattle.std.proofs.Common.{
  zero-add,
  ℕ,
  zero,
  suc,
  ◌<◌,
  ◌≤◌,
  ◌+◌,
  ◌-◌,
  Bool,
  true,
  false,
  cond,
  ◌≡◌,
  List,
  [],
  ◌∷◌,
  ◌++◌,
  length,
  length-append,
  map,
  drop,
  get_or,
  nat_eq,
  nat_lt,
  eqb-true,
  eq-eqb,
  append_assoc,
  refl,
  sym,
  ap,
  subst,
  ◌∙◌,
  arith,
  Some,
  Result,
  Ok,
  Err,
  IfErr,
}
use Rattle.std.specs.Prelude.{slice_range, IsErrAnd}
use Rattle.std.proofs.lemmas.List.{length-map, get_or-map, length-drop, drop-drop}
use Rattle.std.proofs.lemmas.Bool.{ne_eqb}
use Rattle.rules_clauses.specs.declared.numbered.Alternative as memory
use Rattle.rules_clauses.specs.declared.numbered.Atom as memory_atom
use Rattle.rules_clauses.specs.declared.signatures.Signature.{Signature}
use Rattle.rules_clauses.specs.Adding.{AreDifferentSignatures, HaveNames}
use Rattle.statement.specs.Clause.{Atom, Alternative, Relation, relation_of, relation_eq}
use Rattle.rules.specs.Drafts.{numbered, alternative_of}
use Rattle.rules_clauses.specs.Marks.{IsInside, NumbersBelow}
use Rattle.rules_clauses.specs.Numbers as names
use Rattle.rules.specs.RuleSets.{IsWhole, AreWhole, rules_of}
use Rattle.rules_clauses.specs.Signatures.{signature_at}
use Rattle.rules_clauses.specs.Store.{Data, relation_at, stated_atom, terms_before}
use Rattle.rules_clauses.proofs.Facts.{count_trees-length, terms_of_inside}
use Rattle.rules_profile.proofs.Facts.{relation_eq_yes, relation_eq_self}
use Rattle.statement.specs.declared.ground_fault.GroundFault.{GroundFault}
use Rattle.statement.specs.declared.ground_fault.GroundFault.TheVariants.{TooMany, NoMemory}
use Rattle.statement.specs.declared.excess.Excess.TheVariants.{Text}
use Rattle.ground_instances.specs.declared.entry.Entry.{Entry}
use Rattle.ground_instances.specs.declared.found_list.FoundList.{FoundList}
use Rattle.ground_terms.specs.Arena.{Held, sizes_of}
use Rattle.ground_terms.specs.Atoms.{AreAtoms, with_numbers, WordTerms, HasGrown}
use Rattle.ground_rows.specs.Founds.{AreFound, AreFoundShort, AreAllBelow, head_numbers}
use Rattle.ground_instances.specs.Lists.{numbers_of_list, entry_heads}
use Rattle.statement.specs.Kept.{Kept}
use Rattle.ground_rows.specs.Heads.{heads_among, HeadsChained}
use Rattle.rules_clauses.specs.Numbers.{NamesDiffer}
use Rattle.ground_terms.specs.Keys.{term_at, trees, AreDifferentTerms}
use Rattle.statement.specs.Limits.{where_true, has_long_text}
use Rattle.statement.specs.Most.{Limits, limits}
use Rattle.statement.specs.Listing.{Instance, Listing, heads, with_atoms, list_relation, listing, kept_of, kept_of_relation}
use Rattle.ground_rows.specs.Progress.{Adds, IsOver, IsListed, ReadAlike, some_long, excess_at, IsFaultOf}
use Rattle.ground_terms.proofs.Facts.{trees_front, atoms_front, with_same, same_test, nat_eq_self, different, length_trees, grown_itself, grown_more, inside}
use Rattle.ground_instances.proofs.KeptFacts.{many_numbers, new_heads}
use Rattle.ground_rows.proofs.FoundLemmas.{heads_below, found_front, found_append, found_count, head_atoms}
use Rattle.ground_rows.proofs.LongTexts.{long_trees}
use Rattle.ground_rows.proofs.LongHeads.{short_front, short_append, short_none, short_count, long_alike, found_exact}
use Rattle.std.proofs.lemmas.Bool.Decides.{nat_tests}

append_nil : {A : Type 0} (xs : List A) → xs ++ [] ≡ xs
append_nil [] = refl
append_nil {A} (x ∷ xs) = ap (λ (l : List A). x ∷ l) (append_nil xs)

-- what holds of the error that was given
pub err_given : {T E : Type 0} (r : Result T E) (P Q : E → Type 0) → IsErrAnd r P → ((e : E) → P e → Q e) → IfErr r Q
err_given (Ok x) P Q h more = absurd h
err_given (Err e) P Q h more = more e h

-- Relations by number.

same_relations : (d : Data) → names.NamesDiffer d.words → AreDifferentSignatures d.signatures → HaveNames d → (i j : ℕ) → i < length d.signatures
    → j < length d.signatures → relation_at d i ≡ relation_at d j → i ≡ j
same_relations d words signatures there i j h k e =
    let s : Signature = signature_at d.signatures i in
    let t : Signature = signature_at d.signatures j in
    let w : s.word ≡ t.word = words s.word t.word (there i h) (there j k) (ap (λ (r : Relation). r.word) e) in
    let a : s.arity ≡ t.arity = ap (λ (r : Relation). r.arity) e in
    signatures i j h k (ap (λ (x : ℕ). let g : Signature = record { word = x; arity = s.arity } in g) w
    ∙ ap (λ (x : ℕ). let g : Signature = record { word = t.word; arity = x } in g) a)

-- the relation of an atom in memory
pub relation_inside : (d : Data) (from : ℕ) (a : memory_atom.Atom) → IsInside from d a → relation_of (stated_atom d from a) ≡ relation_at d a.relation
relation_inside d from a i =
    let n = count_trees-length (terms_before d from (slice_range d.parts a.terms.from a.terms.to) []) ∙ terms_of_inside from d a i in
    λ x. record { word = (relation_at d a.relation).word; arity = n x }

-- relations are the same exactly where their numbers are
pub relation_test : (d : Data) → names.NamesDiffer d.words → AreDifferentSignatures d.signatures → HaveNames d → (from : ℕ) (a : memory_atom.Atom)
    → IsInside from d a → (r : ℕ) → r < length d.signatures
    → relation_eq (relation_of (stated_atom d from a)) (relation_at d r) ≡ nat_eq a.relation r
relation_test d words signatures there from a i r h =
    ap (λ (p : Relation). relation_eq p (relation_at d r)) (relation_inside d from a i)
    ∙ same_test (relation_eq (relation_at d a.relation) (relation_at d r)) (nat_eq a.relation r)
    (λ t. subst (λ (n : ℕ). nat_eq a.relation n ≡ true)
    (same_relations d words signatures there a.relation r i.relation h (relation_eq_yes (relation_at d a.relation) (relation_at d r) t))
    (nat_eq_self a.relation))
    (λ t. subst (λ (n : ℕ). relation_eq (relation_at d a.relation) (relation_at d n) ≡ true) (eqb-true a.relation r t)
    (relation_eq_self (relation_at d a.relation)))

module _ (rules : List Alternative) (atoms : List Atom) (words : List (List ℕ)) where
  pub adds_none : (held : Held) (found : List Kept) → WordTerms words held → Adds rules atoms words held held found found []
  adds_none held found t = record {
    grown = grown_itself words held t;
    more = [];
    same = sym (append_nil found);
    are = short_none rules atoms (trees words held.keys);
  }

  pub adds_both : (a b c : Held) (f g h : List Kept) (is js : List Instance) → Adds rules atoms words a b f g is → Adds rules atoms words b c g h js
      → Adds rules atoms words a c f h (is ++ js)
  adds_both a b c f g h is js s t = record {
    grown = grown_more words a b c s.grown t.grown;
    more = s.more ++ t.more;
    same = t.same ∙ ap (λ (l : List Kept). l ++ t.more) s.same ∙ append_assoc f s.more t.more;
    are = short_append rules atoms (trees words c.keys) s.more t.more is js
        (short_front rules atoms (trees words b.keys) (trees words c.keys) s.more is (trees_front words b.keys c.keys t.grown.front) s.are) t.are;
  }

  pub adds_count : (a b : Held) (f g : List Kept) (is : List Instance) → Adds rules atoms words a b f g is → length g ≡ length f + length is
  adds_count a b f g is s =
      let e = ap length s.same ∙ length-append f s.more in
      let k = short_count rules atoms (trees words b.keys) s.more is s.are in omega arith

  -- the instances of the alternatives before a place were added
  pub record AddsUpTo (old now : Held) (before after : List Kept) (p : Relation) (place : ℕ) (rest : List Alternative) : Type 0
    where
      pub done : List Instance
      pub adds : Adds rules atoms words old now before after done
      pub rests : kept_of_relation rules atoms p zero rules ≡ done ++ kept_of_relation rules atoms p place rest

-- the loop over the alternatives
pub record AddingAll (rules : List Alternative) (d : Data) (old now : Held) (before after : List Kept) (numbers : List ℕ) (relation place : ℕ)
    (rest : List memory.Alternative) : Type 0 where
  pub grown : HasGrown d.words old now
  pub adds : (atoms : List Atom) → AreAtoms (trees d.words old.keys) numbers atoms
      → AddsUpTo rules atoms d.words old now before after (relation_at d relation) place
      (map (λ (a : memory.Alternative). alternative_of d (numbered a)) rest)

rules_mapped : (d : Data) (as' : List memory.Alternative)
    → rules_of d (map numbered as') ≡ map (λ (a : memory.Alternative). alternative_of d (numbered a)) as'
rules_mapped d [] = refl
rules_mapped d (a ∷ as') = ap (λ (l : List Alternative). alternative_of d (numbered a) ∷ l) (rules_mapped d as')

pub adding_begins : (d : Data) (all : List memory.Alternative) (held : Held) (found : List Kept) (numbers : List ℕ) (relation : ℕ)
    → WordTerms d.words held
    → AddingAll (rules_of d (map numbered all)) d held held found found numbers relation 0 all
adding_begins d all held found numbers relation t = record {
  grown = grown_itself d.words held t;
  adds = λ atoms a. record {
    done = [];
    adds = adds_none (rules_of d (map numbered all)) atoms d.words held found t;
    rests = ap (λ (l : List Alternative). kept_of_relation (rules_of d (map numbered all)) atoms (relation_at d relation) zero l)
        (rules_mapped d all);
  };
}

whole_at : (d : Data) (all : List memory.Alternative) (i : ℕ) (a : memory.Alternative) → AreWhole d (map numbered all) → i < length all
    → a ≡ get_or all i a → IsWhole d (numbered a)
whole_at d [] i a w l e = absurd (omega arith)
whole_at d (b ∷ all) zero a w l e = subst (λ (x : memory.Alternative). IsWhole d (numbered x)) (sym e) w.0
whole_at d (b ∷ all) (suc i) a w l e = whole_at d all i a w.1 (omega arith) e

pub whole_here : (d : Data) (all xs : List memory.Alternative) (i : ℕ) (a : memory.Alternative) → AreWhole d (map numbered all) → xs ≡ all
    → i < length xs → a ≡ get_or xs i a → IsWhole d (numbered a)
whole_here d all xs i a w e h k = whole_at d all i a w (inside all xs i e h) (subst (λ (ys : List memory.Alternative). a ≡ get_or ys i a) e k)

-- an alternative that heads the relation adds its instances
abbrev pub own_instances : List Alternative → Data → List Atom → ℕ → ℕ → memory.Alternative → List Instance
own_instances rules d atoms relation place a = cond (nat_eq a.head.relation relation) (kept_of rules atoms place (alternative_of d (numbered a))) []

rests_next : (rules : List Alternative) (d : Data) (atoms : List Atom) (relation place : ℕ) (a : memory.Alternative) (rest : List Alternative)
    → relation_eq (relation_of (alternative_of d (numbered a)).head) (relation_at d relation) ≡ nat_eq a.head.relation relation
    → kept_of_relation rules atoms (relation_at d relation) place (alternative_of d (numbered a) ∷ rest)
    ≡ own_instances rules d atoms relation place a ++ kept_of_relation rules atoms (relation_at d relation) (place + 1) rest
rests_next rules d atoms relation place a rest e =
    let n : suc place ≡ place + 1 = omega arith in
    ap (λ (b : Bool). cond b (kept_of rules atoms place (alternative_of d (numbered a))) [] ++ kept_of_relation rules atoms (relation_at d relation)
    (suc place) rest) e
    ∙ ap (λ (k : ℕ). own_instances rules d atoms relation place a ++ kept_of_relation rules atoms (relation_at d relation) k rest) n

-- Alternatives chained by the relations that they head.

pub head_at : (all xs : List memory.Alternative) (i : ℕ) (a : memory.Alternative) → xs ≡ all → i < length xs → a ≡ get_or xs i a
    → get_or (heads_among all) i 0 ≡ a.head.relation
head_at all xs i a e h k =
    subst (λ (ys : List memory.Alternative). get_or (heads_among ys) i 0 ≡ a.head.relation) e
    (get_or-map (λ (b : memory.Alternative). b.head.relation) xs i a 0 h ∙ sym (ap (λ (b : memory.Alternative). b.head.relation) k))

pub heads_first : (all : List memory.Alternative) (relations : ℕ) (first next : List ℕ) (relation to : ℕ)
    → HeadsChained (heads_among all) relations first next → relation < relations → to ≡ get_or first relation 0
    → to < length all → get_or (heads_among all) to 0 ≡ relation
heads_first all relations first next relation to c h e less =
    let n = length-map all (λ (b : memory.Alternative). b.head.relation) in
    ap (λ (i : ℕ). get_or (heads_among all) i 0) e ∙ c.firsts_are relation h (omega (arith, n, less, e))

pub heads_next : (all : List memory.Alternative) (relations : ℕ) (first next : List ℕ) (relation place to : ℕ)
    → HeadsChained (heads_among all) relations first next → place < length all
    → get_or (heads_among all) place 0 ≡ relation → to ≡ get_or next place 0 → to < length all → get_or (heads_among all) to 0 ≡ relation
heads_next all relations first next relation place to c h headed e less =
    let n = length-map all (λ (b : memory.Alternative). b.head.relation) in
    ap (λ (i : ℕ). get_or (heads_among all) i 0) e ∙ c.nexts_are place (omega (arith, n, h)) (omega (arith, n, less, e)) ∙ headed

pub later_next : (all : List memory.Alternative) (relations : ℕ) (first next : List ℕ) (place to : ℕ)
    → HeadsChained (heads_among all) relations first next → place < length all → to ≡ get_or next place 0 → place + 1 ≤ to
later_next all relations first next place to c h e =
    let n = length-map all (λ (b : memory.Alternative). b.head.relation) in
    let k = c.nexts_later place (omega (arith, n, h)) in omega (arith, k, e)

pub none_first : (all : List memory.Alternative) (relations : ℕ) (first next : List ℕ) (relation to : ℕ)
    → HeadsChained (heads_among all) relations first next → to ≡ get_or first relation 0
    → (j : ℕ) → 0 ≤ j → j < to → j < length all → get_or (heads_among all) j 0 ≡ relation → ⊥
none_first all relations first next relation to c e j from less inside same =
    let n = length-map all (λ (b : memory.Alternative). b.head.relation) in
    let k = subst (λ (r : ℕ). get_or first r 0 ≤ j) same (c.firsts j (omega (arith, n, inside))) in
    let bad : ⊥ = omega (arith, k, e, less) in bad

pub none_next : (all : List memory.Alternative) (relations : ℕ) (first next : List ℕ) (relation place to : ℕ)
    → HeadsChained (heads_among all) relations first next
    → get_or (heads_among all) place 0 ≡ relation → to ≡ get_or next place 0
    → (j : ℕ) → place + 1 ≤ j → j < to → j < length all → get_or (heads_among all) j 0 ≡ relation → ⊥
none_next all relations first next relation place to c headed e j from less inside same =
    let n = length-map all (λ (b : memory.Alternative). b.head.relation) in
    let k = c.nexts place j (omega (arith, from)) (omega (arith, n, inside)) (headed ∙ sym same) in
    let bad : ⊥ = omega (arith, k, e, less) in bad

pub own_adds : (rules : List Alternative) (d : Data) (old new : Held) (before after : List Kept) (numbers : List ℕ) (relation place : ℕ)
    (a : memory.Alternative) → a.head.relation ≡ relation
    → ((atoms : List Atom) → AreAtoms (trees d.words old.keys) numbers atoms
    → Adds rules atoms d.words old new before after (kept_of rules atoms place (alternative_of d (numbered a))))
    → (atoms : List Atom) → AreAtoms (trees d.words old.keys) numbers atoms
    → Adds rules atoms d.words old new before after (own_instances rules d atoms relation place a)
own_adds rules d old new before after numbers relation place a e h atoms are =
    subst (λ (b : Bool). Adds rules atoms d.words old new before after (cond b (kept_of rules atoms place (alternative_of d (numbered a))) []))
    (sym (eq-eqb a.head.relation relation e)) (h atoms are)

pub own_over : (rules : List Alternative) (d : Data) (old : Held) (numbers : List ℕ) (relation place most m : ℕ) (f : GroundFault)
    (a : memory.Alternative) → a.head.relation ≡ relation
    → ((atoms : List Atom) → AreAtoms (trees d.words old.keys) numbers atoms
    → IsOver most (m + length (kept_of rules atoms place (alternative_of d (numbered a)))) f)
    → (atoms : List Atom) → AreAtoms (trees d.words old.keys) numbers atoms → IsOver most (m + length (own_instances rules d atoms relation place a))
    f
own_over rules d old numbers relation place most m f a e h atoms are =
    subst (λ (b : Bool). IsOver most (m + length (cond b (kept_of rules atoms place (alternative_of d (numbered a))) [])) f)
    (sym (eq-eqb a.head.relation relation e)) (h atoms are)

module _ (rules : List Alternative) (d : Data) (words : names.NamesDiffer d.words) (signatures : AreDifferentSignatures d.signatures)
    (named : HaveNames d) where
  -- the loop goes on behind one more alternative
  pub adding_next : (old now new : Held) (before after more : List Kept) (numbers : List ℕ) (relation place : ℕ) (a : memory.Alternative)
      (rest : List memory.Alternative)
      → relation < length d.signatures → IsWhole d (numbered a) → AddingAll rules d old now before after numbers relation place (a ∷ rest)
      → HasGrown d.words now new
      → ((atoms : List Atom) → AreAtoms (trees d.words now.keys) numbers atoms
      → Adds rules atoms d.words now new after more (own_instances rules d atoms relation place a))
      → AddingAll rules d old new before more numbers relation (place + 1) rest
  adding_next old now new before after more numbers relation place a rest h whole s grown adds = record {
    grown = grown_more d.words old now new s.grown grown;
    adds = λ atoms are. next atoms (s.adds atoms are)
        (adds atoms (atoms_front (trees d.words old.keys) (trees d.words now.keys) numbers atoms (trees_front d.words old.keys now.keys s.grown.front)
        are));
  }
    where
      rests : List Alternative
      rests = map (λ (b : memory.Alternative). alternative_of d (numbered b)) rest

      next : (atoms : List Atom) → AddsUpTo rules atoms d.words old now before after (relation_at d relation) place
          (alternative_of d (numbered a) ∷ map (λ (b : memory.Alternative). alternative_of d (numbered b)) rest)
          → Adds rules atoms d.words now new after more (own_instances rules d atoms relation place a)
          → AddsUpTo rules atoms d.words old new before more (relation_at d relation) (place + 1)
          (map (λ (b : memory.Alternative). alternative_of d (numbered b)) rest)
      next atoms u t =
          let own = own_instances rules d atoms relation place a in
          let e = rests_next rules d atoms relation place a (map (λ (b : memory.Alternative). alternative_of d (numbered b)) rest)
          (relation_test d words signatures named a.variables.from a.head whole.0 relation h) in
          record {
            done = u.done ++ own;
            adds = adds_both rules atoms d.words old now new before after more u.done own u.adds t;
            rests = u.rests ∙ ap (λ (l : List Instance). u.done ++ l) e ∙ sym (append_assoc u.done own _);
          }

  -- alternatives that head another relation add nothing
  rests_skipped : (atoms : List Atom) (relation : ℕ) → relation < length d.signatures → (rest : List memory.Alternative) (place many : ℕ)
      → AreWhole d (map numbered rest)
      → ((j : ℕ) → j < many → j < length rest → get_or (heads_among rest) j 0 ≡ relation → ⊥)
      → kept_of_relation rules atoms (relation_at d relation) place (map (λ (b : memory.Alternative). alternative_of d (numbered b)) rest)
      ≡ kept_of_relation rules atoms (relation_at d relation) (place + many)
      (map (λ (b : memory.Alternative). alternative_of d (numbered b)) (drop many rest))
  rests_skipped atoms relation h rest place zero w none =
      let n : place ≡ place + zero = omega arith in
      ap (λ (k : ℕ). kept_of_relation rules atoms (relation_at d relation) k (map (λ (b : memory.Alternative). alternative_of d (numbered b)) rest)) n
  rests_skipped atoms relation h [] place (suc many) w none = refl
  rests_skipped atoms relation h (a ∷ rest) place (suc many) w none =
      let n : place + 1 + many ≡ place + suc many = omega arith in
      let other : nat_eq a.head.relation relation ≡ false = ne_eqb a.head.relation relation (none 0 (omega arith) (omega arith)) in
      rests_next rules d atoms relation place a (map (λ (b : memory.Alternative). alternative_of d (numbered b)) rest)
      (relation_test d words signatures named a.variables.from a.head w.0.0 relation h)
      ∙ ap (λ (b : Bool). cond b (kept_of rules atoms place (alternative_of d (numbered a))) []
      ++ kept_of_relation rules atoms (relation_at d relation) (place + 1) (map (λ (b : memory.Alternative). alternative_of d (numbered b)) rest))
      other
      ∙ rests_skipped atoms relation h rest (place + 1) many w.1 (λ j less inside e. none (suc j) (omega (arith, less)) (omega (arith, inside)) e)
      ∙ ap (λ (k : ℕ). kept_of_relation rules atoms (relation_at d relation) k
      (map (λ (b : memory.Alternative). alternative_of d (numbered b)) (drop many rest))) n

  whole_drop : (n : ℕ) (all : List memory.Alternative) → AreWhole d (map numbered all) → AreWhole d (map numbered (drop n all))
  whole_drop zero all w = w
  whole_drop (suc n) [] w = w
  whole_drop (suc n) (a ∷ all) w = whole_drop n all w.1

  heads_behind : (n j : ℕ) (all : List memory.Alternative) → get_or (heads_among (drop n all)) j 0 ≡ get_or (heads_among all) (n + j) 0
  heads_behind zero j all = let e : j ≡ 0 + j = omega arith in ap (λ (k : ℕ). get_or (heads_among all) k 0) e
  heads_behind (suc n) j [] = refl
  heads_behind (suc n) j (a ∷ all) =
      let e : suc (n + j) ≡ suc n + j = omega arith in
      heads_behind n j all ∙ ap (λ (k : ℕ). get_or (heads_among (a ∷ all)) k 0) e

  many_behind : (n : ℕ) (all : List memory.Alternative) → length (drop n all) ≡ length all - n
  many_behind n all = length-drop n all

  -- the loop goes on at a later alternative, where those before it head another relation
  pub adding_skips : (old now : Held) (before after : List Kept) (numbers : List ℕ) (relation place to : ℕ) (all : List memory.Alternative)
      → relation < length d.signatures → AreWhole d (map numbered all) → place ≤ to
      → ((j : ℕ) → place ≤ j → j < to → j < length all → get_or (heads_among all) j 0 ≡ relation → ⊥)
      → AddingAll rules d old now before after numbers relation place (drop place all)
      → AddingAll rules d old now before after numbers relation to (drop to all)
  adding_skips old now before after numbers relation place to all h w order none s =
      let many = to - place in
      let there : place + many ≡ to = omega (arith, order) in
      record {
        grown = s.grown;
        adds = λ atoms are.
            let u = s.adds atoms are in
            record {
              done = u.done;
              adds = u.adds;
              rests = u.rests ∙ ap (λ (l : List Instance). u.done ++ l)
                  (rests_skipped atoms relation h (drop place all) place many (whole_drop place all w)
                  (λ j less inside e. let l = many_behind place all in
                  none (place + j) (omega arith) (omega (arith, less, order)) (omega (arith, inside, l)) (sym (heads_behind place j all) ∙ e))
                  ∙ ap (λ (l : List memory.Alternative). kept_of_relation rules atoms (relation_at d relation) (place + many)
                  (map (λ (b : memory.Alternative). alternative_of d (numbered b)) l)) (drop-drop many place all)
                  ∙ ap (λ (k : ℕ). kept_of_relation rules atoms (relation_at d relation) k
                  (map (λ (b : memory.Alternative). alternative_of d (numbered b)) (drop k all))) there);
            };
      }

  -- a limit that one alternative passes is passed by all
  pub adding_over : (old now : Held) (before after : List Kept) (n m : ℕ) → n ≡ length before → m ≡ length after
      → (numbers : List ℕ) (relation place most : ℕ) (a : memory.Alternative) (rest : List memory.Alternative) (e f : GroundFault) → f ≡ e
      → relation < length d.signatures → IsWhole d (numbered a) → AddingAll rules d old now before after numbers relation place (a ∷ rest)
      → ((atoms : List Atom) → AreAtoms (trees d.words now.keys) numbers atoms
      → IsOver most (m + length (own_instances rules d atoms relation place a)) e)
      → (atoms : List Atom) → AreAtoms (trees d.words old.keys) numbers atoms
      → IsOver most (n + length (kept_of_relation rules atoms (relation_at d relation) zero rules)) f
  adding_over old now before after n m n_is m_is numbers relation place most a rest e f e_is h whole s over atoms are =
      subst (λ (x : GroundFault). IsOver most (n + length (kept_of_relation rules atoms (relation_at d relation) zero rules)) x) (sym e_is)
      (go (s.adds atoms are) e (over atoms (atoms_front (trees d.words old.keys) (trees d.words now.keys) numbers atoms
      (trees_front d.words old.keys now.keys s.grown.front) are)))
    where
      go : AddsUpTo rules atoms d.words old now before after (relation_at d relation) place
          (alternative_of d (numbered a) ∷ map (λ (b : memory.Alternative). alternative_of d (numbered b)) rest)
          → (f : GroundFault) → IsOver most (m + length (own_instances rules d atoms relation place a)) f
          → IsOver most (n + length (kept_of_relation rules atoms (relation_at d relation) zero rules)) f
      go u NoMemory k = tt
      go u (TooMany x) k =
          let own = own_instances rules d atoms relation place a in
          let later = kept_of_relation rules atoms (relation_at d relation) (place + 1)
          (map (λ (b : memory.Alternative). alternative_of d (numbered b)) rest) in
          let r = rests_next rules d atoms relation place a (map (λ (b : memory.Alternative). alternative_of d (numbered b)) rest)
          (relation_test d words signatures named a.variables.from a.head whole.0 relation h) in
          let all = ap length u.rests ∙ length-append u.done _ in
          let two = ap length r ∙ length-append own later in
          let some = adds_count rules atoms d.words old now before after u.done u.adds in
          let more = k.0 in
          (omega arith, k.1)

-- all alternatives were gone through
pub adding_ends : (rules : List Alternative) (d : Data) (old now : Held) (before after : List Kept) (numbers : List ℕ) (relation place : ℕ)
    → AddingAll rules d old now before after numbers relation place []
    → (atoms : List Atom) → AreAtoms (trees d.words old.keys) numbers atoms
    → Adds rules atoms d.words old now before after (kept_of_relation rules atoms (relation_at d relation) zero rules)
adding_ends rules d old now before after numbers relation place s atoms are =
    let u = s.adds atoms are in
    subst (λ (l : List Instance). Adds rules atoms d.words old now before after l) (sym (u.rests ∙ append_nil u.done)) u.adds

-- A relation is listed.

-- the entries behind those before have the heads of the new instances
added_heads : (rules : List Alternative) (atoms : List Atom) (words : List (List ℕ)) (old new : Held) (items later : FoundList) (is : List Instance) (n : ℕ)
    → (a : Adds rules atoms words old new (numbers_of_list items) (numbers_of_list later) is) → n ≡ length items.entries.items
    → entry_heads (drop n later.entries.items) ≡ head_numbers a.more
added_heads rules atoms words old new items later is n a h =
    new_heads later (numbers_of_list items) a.more n a.same (h ∙ sym (many_numbers items))

pub new_below : (rules : List Alternative) (atoms : List Atom) (words : List (List ℕ)) (held : Held) (ks : List Kept) (is : List Instance)
    → AreFoundShort rules atoms (trees words held.keys) ks is → AreAllBelow (length held.keys) ks
new_below rules atoms words held ks is a = subst (λ (n : ℕ). AreAllBelow n ks) (length_trees words [] held.keys ∙ zero-add (length held.keys)) a.below

module _ (rules : List Alternative) (words : List (List ℕ)) (differ : NamesDiffer words) where
  differ_keys : (held : Held) → WordTerms words held → AreDifferentTerms (trees words held.keys)
  differ_keys held t = different words differ held.keys t.numbered.keyed

  -- where no head is too long, the instances are told apart
  exact_added : (old new : Held) (items later : FoundList) (n longest : ℕ) (part : List Entry) (g : Listing) (p : Relation)
      → (a : Adds rules g.atoms words old new (numbers_of_list items) (numbers_of_list later) (kept_of_relation rules g.atoms p zero rules))
      → n ≡ length items.entries.items → part ≡ drop n later.entries.items → longest ≤ limits.text
      → some_long longest (map (term_at (trees words new.keys)) (entry_heads part)) ≡ false
      → AreFound rules g.atoms (trees words new.keys) a.more (kept_of_relation rules g.atoms p zero rules)
  exact_added old new items later n longest part g p a h part_is small short =
      let here = ap entry_heads part_is ∙ added_heads rules g.atoms words old new items later (kept_of_relation rules g.atoms p zero rules) n a h in
      found_exact rules g.atoms (trees words new.keys) longest small a.more _ a.are
      (ap (λ (ns : List ℕ). some_long longest (map (term_at (trees words new.keys)) ns)) (sym here) ∙ short)

  -- numbering the heads of the new instances lists the atoms of the relation
  pub atoms_listed : (old new : Held) (numbers more : List ℕ) (items later : FoundList) (n longest : ℕ) (part : List Entry) (g : Listing)
      (p : Relation) → AreAtoms (trees words old.keys) numbers g.atoms
      → Adds rules g.atoms words old new (numbers_of_list items) (numbers_of_list later) (kept_of_relation rules g.atoms p zero rules)
      → n ≡ length items.entries.items → part ≡ drop n later.entries.items → longest ≤ limits.text
      → some_long longest (map (term_at (trees words new.keys)) (entry_heads part)) ≡ false → more ≡ with_numbers numbers (entry_heads part)
      → AreAtoms (trees words new.keys) more (list_relation rules g p).atoms
  atoms_listed old new numbers more items later n longest part g p l a h part_is small short e =
      let all = trees words new.keys in
      let front = trees_front words old.keys new.keys a.grown.front in
      let here = ap entry_heads part_is ∙ added_heads rules g.atoms words old new items later (kept_of_relation rules g.atoms p zero rules) n a h in
      subst (λ (ns : List ℕ). AreAtoms all ns (with_atoms g.atoms (heads (kept_of_relation rules g.atoms p zero rules))))
      (sym (e ∙ ap (with_numbers numbers) here))
      (with_same all (differ_keys new a.grown.terms) numbers g.atoms (atoms_front (trees words old.keys) all numbers g.atoms front l)
      (head_numbers a.more) (heads (kept_of_relation rules g.atoms p zero rules))
      (head_atoms rules g.atoms all _ _ (exact_added old new items later n longest part g p a h part_is small short)))

  -- and the relation, if what the instances read they read of all atoms
  pub relation_listed : (old new : Held) (numbers more : List ℕ) (items later : FoundList) (n longest : ℕ) (part : List Entry) (g : Listing)
      (p : Relation)
      → IsListed rules words old numbers (numbers_of_list items) g → Adds rules g.atoms words old new (numbers_of_list items) (numbers_of_list later)
      (kept_of_relation rules g.atoms p zero rules)
      → ReadAlike rules g.atoms (kept_of_relation rules g.atoms p zero rules)
      → n ≡ length items.entries.items → part ≡ drop n later.entries.items → longest ≤ limits.text
      → some_long longest (map (term_at (trees words new.keys)) (entry_heads part)) ≡ false → more ≡ with_numbers numbers (entry_heads part)
      → IsListed rules words new more (numbers_of_list later) (list_relation rules g p)
  relation_listed old new numbers more items later n longest part g p l a alike h part_is small short e =
      let all = trees words new.keys in
      let front = trees_front words old.keys new.keys a.grown.front in
      let are = exact_added old new items later n longest part g p a h part_is small short in
      record {
        terms = a.grown.terms;
        atoms_are = atoms_listed old new numbers more items later n longest part g p l.atoms_are a h part_is small short e;
        found_are = subst (λ (ks : List Kept). AreFound rules (listing rules).atoms all ks (g.kept ++ kept_of_relation rules g.atoms p zero rules)) (sym a.same)
            (found_append rules (listing rules).atoms all (numbers_of_list items) a.more g.kept _
            (found_front rules (listing rules).atoms (trees words old.keys) all (numbers_of_list items) g.kept front l.found_are)
            (record { below = are.below; same = are.same ∙ alike }));
      }

-- Limits.

lt_yes : (m n : ℕ) → m < n → nat_lt m n ≡ true
lt_yes m n h = grind (arith, nat_tests)

lt_no : (m n : ℕ) → n ≤ m → nat_lt m n ≡ false
lt_no m n h = grind (arith, nat_tests)

module _ (most : Limits) (rules : List Alternative) (words : List (List ℕ)) where
  kept_count : (old : Held) (numbers : List ℕ) (items : FoundList) (g : Listing) → IsListed rules words old numbers (numbers_of_list items) g
      → length items.entries.items ≡ length g.kept
  kept_count old numbers items g l = sym (many_numbers items) ∙ found_count rules (listing rules).atoms (trees words old.keys) (numbers_of_list items) g.kept
      l.found_are

  -- a relation that passes the limit in the course of it is named
  pub relation_over : (old : Held) (numbers : List ℕ) (items : FoundList) (g : Listing) (p : Relation) (e f : GroundFault) → f ≡ e
      → IsListed rules words old numbers (numbers_of_list items) g
      → IsOver most.instances (length items.entries.items + length (kept_of_relation rules g.atoms p zero rules)) e
      → IsFaultOf (excess_at most rules g p) f
  relation_over old numbers items g p e f same l over = subst (λ (x : GroundFault). IsFaultOf (excess_at most rules g p) x) (sym same) (go e over)
    where
      go : (x : GroundFault) → IsOver most.instances (length items.entries.items + length (kept_of_relation rules g.atoms p zero rules)) x
          → IsFaultOf (excess_at most rules g p) x
      go NoMemory k = tt
      go (TooMany x) k =
          let n = kept_count old numbers items g l in
          let m = length-append g.kept (kept_of_relation rules g.atoms p zero rules) in
          let less = k.0 in
          let size : most.instances < length (g.kept ++ kept_of_relation rules g.atoms p zero rules) = omega arith in
          let t : nat_lt most.instances (length (g.kept ++ kept_of_relation rules g.atoms p zero rules)) ≡ true = lt_yes _ _ size in
          rw t (ap Some (sym k.1))

  few_here : (g : Listing) (p : Relation) → length (g.kept ++ kept_of_relation rules g.atoms p zero rules) ≤ most.instances
      → (b : Bool) → has_long_text most.text (heads (kept_of_relation rules g.atoms p zero rules)) ≡ b → excess_at most rules g p ≡ where_true b Text
  few_here g p h b e =
      let t : nat_lt most.instances (length (g.kept ++ kept_of_relation rules g.atoms p zero rules)) ≡ false = lt_no _ _ h in
      rw t (ap (λ (c : Bool). where_true c Text) e)

  -- otherwise its texts tell
  pub relation_texts : (old new : Held) (numbers : List ℕ) (items later : FoundList) (n : ℕ) (part : List Entry)
      → part ≡ drop n later.entries.items
      → (g : Listing) (p : Relation) (b : Bool)
      → IsListed rules words old numbers (numbers_of_list items) g → Adds rules g.atoms words old new (numbers_of_list items) (numbers_of_list later)
      (kept_of_relation rules g.atoms p zero rules)
      → n ≡ length items.entries.items → length later.entries.items ≤ most.instances → most.text ≤ limits.text
      → ((ws : List (List ℕ)) → sizes_of ws ≡ new.sizes
      → b ≡ some_long most.text (map (term_at (trees ws new.keys)) (entry_heads part)))
      → excess_at most rules g p ≡ where_true b Text
  relation_texts old new numbers items later n part part_is g p b l a h few small tells =
      let here = added_heads rules g.atoms words old new items later (kept_of_relation rules g.atoms p zero rules) n a h in
      let k = kept_count old numbers items g l in
      let c = adds_count rules g.atoms words old new (numbers_of_list items) (numbers_of_list later) (kept_of_relation rules g.atoms p zero rules) a in
      let i = many_numbers items in
      let j = many_numbers later in
      let m = length-append g.kept (kept_of_relation rules g.atoms p zero rules) in
      few_here g p (omega arith) b
      (sym (tells words a.grown.terms.sizes ∙ ap
      (λ (fs : List Entry). some_long most.text (map (term_at (trees words new.keys)) (entry_heads fs))) part_is
      ∙ ap (λ (ns : List ℕ). some_long most.text (map (term_at (trees words new.keys)) ns)) here
      ∙ long_alike rules g.atoms (trees words new.keys) most.text small a.more _ a.are.same ∙ long_trees most.text (heads (kept_of_relation rules g.atoms p zero rules))))

pub atoms_within : (words : List (List ℕ)) (held : Held) (numbers : List ℕ) (xs : List Atom) → AreAtoms (trees words held.keys) numbers xs
    → NumbersBelow (length held.keys) numbers
atoms_within words held numbers xs a =
    subst (λ (n : ℕ). NumbersBelow n numbers) (length_trees words [] held.keys ∙ zero-add (length held.keys)) a.below

pub numbers_below : (rules : List Alternative) (words : List (List ℕ)) (held : Held) (numbers : List ℕ) (found : List Kept) (g : Listing)
    → IsListed rules words held numbers found g → NumbersBelow (length held.keys) numbers
numbers_below rules words held numbers found g l = atoms_within words held numbers g.atoms l.atoms_are

pub longer : (rules : List Alternative) (atoms : List Atom) (words : List (List ℕ)) (old new : Held) (items later : FoundList)
    (all : List Entry) (is : List Instance)
    (n : ℕ) → n ≡ length items.entries.items → all ≡ later.entries.items
    → Adds rules atoms words old new (numbers_of_list items) (numbers_of_list later) is → n ≤ length all
longer rules atoms words old new items later all is n h e a =
    let c = adds_count rules atoms words old new (numbers_of_list items) (numbers_of_list later) is a in
    let i = many_numbers items in
    let j = many_numbers later in
    let k = ap length e in omega arith

pub same_part : (later all part : List Entry) (n : ℕ) → all ≡ later → part ≡ drop n all → part ≡ drop n later
same_part later all part n e h = h ∙ ap (λ (xs : List Entry). drop n xs) e

pub part_below : (rules : List Alternative) (atoms : List Atom) (words : List (List ℕ)) (old new : Held) (items later : FoundList) (all part : List Entry)
    (is : List Instance) (n : ℕ) → all ≡ later.entries.items → part ≡ drop n all
    → Adds rules atoms words old new (numbers_of_list items) (numbers_of_list later) is → n ≡ length items.entries.items
    → NumbersBelow (length new.keys) (entry_heads part)
part_below rules atoms words old new items later all part is n e h a k =
    subst (λ (ns : List ℕ). NumbersBelow (length new.keys) ns)
    (sym (ap entry_heads (same_part later.entries.items all part n e h) ∙ added_heads rules atoms words old new items later is n a k))
    (heads_below (length new.keys) a.more (new_below rules atoms words new a.more is a.are))
