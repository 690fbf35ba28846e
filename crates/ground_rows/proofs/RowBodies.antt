-- The body of an instance, literal by literal.
use Rattle.std.proofs.Common.{ℕ, zero, suc, ◌≡◌, ◌<◌, ◌+◌, Bool, true, false, not, cond, ◌&&◌, List, [], ◌∷◌, ◌++◌, length, map, drop, get_or, nat_eq, refl, sym, ◌∙◌, ap, subst, arith, Option, append_assoc, drop-cons}
use Rattle.std.specs.Prelude.{filter}
use Rattle.std.proofs.lemmas.List.{append-nil, map-append, length-map}
use Rattle.rules_clauses.specs.declared.numbered.Literal as memory
use Rattle.rules_clauses.specs.declared.numbered.Atom as memory_atom
use Rattle.rules_clauses.specs.declared.numbered.Part.{Part}
use Rattle.statement.specs.Clause.{Atom, Relation, Literal, positive, negative, Alternative, relation_of, tree_of}
use Rattle.statement.specs.Dependence.{is_distinct, is_fixed}
use Rattle.rules_clauses.specs.Marks.{binds, literal_in, IsInside}
use Rattle.rules_clauses.specs.Store as store
use Rattle.rules_clauses.specs.Store.{Data, relation_at, stated_literal}
use Rattle.ground_terms.specs.Arena.{Held}
use Rattle.rules_clauses.specs.Numbers.{BeginsWith, NamesDiffer}
use Rattle.ground_terms.specs.Atoms.{AreAtoms}
use Rattle.ground_rows.specs.Instances.{row_map, IsRow, literal_by, ReadsLiterals}
use Rattle.ground_terms.specs.Keys.{term_at, trees, AreKeys}
use Rattle.statement.specs.Kept.{is_read, number_of, reading}
use Rattle.statement.specs.Printed.{first_place}
use Rattle.statement.specs.Listing.{passes, all_pass}
use Rattle.ground_matching.specs.Placed.{placed_atom, placed_body}
use Rattle.ground_matching.specs.Plans.{mark_of}
use Rattle.ground_terms.specs.Atoms.{WordTerms, HasGrown}
use Rattle.statement.specs.Substitution.{Map, atom_under, literal_under}
use Rattle.meaning.proofs.Facts.{relation-under}
use Rattle.ground_terms.proofs.Facts.{front_length, length_trees, different, place_same, trees_front, atoms_front}
use Rattle.ground_rows.proofs.ListingSteps.{relation_inside}
use Rattle.ground_terms.proofs.Facts.{grown_itself, grown_more}
use Rattle.ground_rows.proofs.RowAtoms.{map_stays, row_stays}
use Rattle.ground_rows.proofs.RowTests.{positive_passes}

-- what a row makes of a literal, by its atom
under_is : (m : Map) (a : Atom) (b : Bool) → literal_under m (cond b (negative a) (positive a)) ≡ cond b (negative (atom_under m a))
    (positive (atom_under m a))
under_is m a true = refl
under_is m a false = refl

pub made_of : (d : Data) (from : ℕ) (keys : List (List ℕ)) (places : List (Option ℕ)) (values : List ℕ) (n : ℕ) (l : memory.Literal)
    → l ≡ literal_in d n
    → cond l.is_negated (negative (atom_under (row_map d keys places values) (store.stated_atom d from l.atom)))
    (positive (atom_under (row_map d keys places values) (store.stated_atom d from l.atom)))
    ≡ literal_by d from keys places values n
made_of d from keys places values n l e =
    let m = row_map d keys places values in
    sym (under_is m (store.stated_atom d from l.atom) l.is_negated) ∙ ap (λ (k : memory.Literal). literal_under m (store.literal_of d from k)) e

pub row_relation : (d : Data) (from : ℕ) (m : Map) (a : memory_atom.Atom) → IsInside from d a
    → relation_of (atom_under m (store.stated_atom d from a)) ≡ relation_at d a.relation
row_relation d from m a i = relation-under m (store.stated_atom d from a) ∙ relation_inside d from a i

-- where the number of an atom stands among numbers, the atom stands among those that they stand for
pub place_there : (words : List (List ℕ)) → NamesDiffer words → (first keys : List (List ℕ)) → BeginsWith first keys → AreKeys (length words) keys
    → (numbers : List ℕ) (x : Atom) (k : ℕ) → k < length keys → term_at (trees words keys) k ≡ tree_of x → (so_far : List Atom)
    → AreAtoms (trees words first) numbers so_far → first_place (nat_eq k) numbers ≡ number_of x so_far
place_there words differ first keys front keyed numbers x k h g so_far a =
    let long = length_trees words [] keys in
    place_same (trees words keys) (different words differ keys keyed) k x (omega (arith, h, long)) g numbers so_far
    (atoms_front (trees words first) (trees words keys) numbers so_far (trees_front words first keys front) a)

-- one positive literal
pub reads_one : (rules : List Alternative) (words : List (List ℕ)) → NamesDiffer words → (first keys : List (List ℕ)) → BeginsWith first keys
    → AreKeys (length words) keys → (numbers : List ℕ) (before after : List (ℕ × Bool)) (x : Atom) (l : Literal) (k : ℕ)
    → after ≡ before ++ (first_place (nat_eq k) numbers, false) ∷ [] → is_fixed rules (relation_of x) ≡ false → k < length keys
    → term_at (trees words keys) k ≡ tree_of x
    → positive x ≡ l → ReadsLiterals rules words first numbers before after (l ∷ [])
reads_one rules words differ first keys front keyed numbers before after x l k e f h g m = record {
  more = (first_place (nat_eq k) numbers, false) ∷ [];
  same = e;
  read_are = λ so_far a. ap (λ (n : ℕ). (n, false) ∷ []) (place_there words differ first keys front keyed numbers x k h g so_far a)
      ∙ ap (λ (b : Bool). map (reading so_far) (cond (not b) (positive x ∷ []) [])) (sym f)
      ∙ ap (λ (y : Literal). map (reading so_far) (filter (is_read rules so_far) (y ∷ []))) m;
}

-- what was read of later terms was read of the first
reads_first : (rules : List Alternative) (words first now : List (List ℕ)) (numbers : List ℕ) (before after : List (ℕ × Bool)) (ls : List Literal)
    → BeginsWith first now → ReadsLiterals rules words now numbers before after ls → ReadsLiterals rules words first numbers before after ls
reads_first rules words first now numbers before after ls f r = record {
  more = r.more;
  same = r.same;
  read_are = λ so_far a. r.read_are so_far (atoms_front (trees words first) (trees words now) numbers so_far (trees_front words first now f) a);
}

-- a literal that binds is positive, and no `distinct`
pub record IsBound (d : Data) (l : memory.Literal) : Type 0 where
  pub positive_is : l.is_negated ≡ false
  pub other : is_distinct (relation_at d l.atom.relation) ≡ false

pub bound : (d : Data) (l : memory.Literal) → binds d l ≡ true → IsBound d l
bound d l e = go l.is_negated (is_distinct (relation_at d l.atom.relation)) refl refl e
  where
    go : (a b : Bool) → l.is_negated ≡ a → is_distinct (relation_at d l.atom.relation) ≡ b → (not a && not b) ≡ true → IsBound d l
    go false false f g t = record { positive_is = f; other = g }
    go false true f g t = absurd cc
    go true b f g t = absurd cc

-- one that binds and is not settled is no literal of a fixed relation
pub unsettled : (binding fixed : Bool) → binding ≡ true → (binding && fixed) ≡ false → fixed ≡ false
unsettled true fixed e f = f
unsettled false fixed e f = absurd cc

-- a literal that rows settle is not read, and passes
pub record IsSettled (rules : List Alternative) (d : Data) (l : memory.Literal) : Type 0 where
  pub positive_is : l.is_negated ≡ false
  pub other : is_distinct (relation_at d l.atom.relation) ≡ false
  pub fixed : is_fixed rules (relation_at d l.atom.relation) ≡ true

pub settled : (rules : List Alternative) (d : Data) (l : memory.Literal) → (binds d l && is_fixed rules (relation_at d l.atom.relation)) ≡ true
    → IsSettled rules d l
settled rules d l e = go l.is_negated (is_distinct (relation_at d l.atom.relation)) (is_fixed rules (relation_at d l.atom.relation)) refl refl refl e
  where
    go : (a b c : Bool) → l.is_negated ≡ a → is_distinct (relation_at d l.atom.relation) ≡ b → is_fixed rules (relation_at d l.atom.relation) ≡ c
        → ((not a && not b) && c) ≡ true → IsSettled rules d l
    go false false true f g h t = record { positive_is = f; other = g; fixed = h }
    go false false false f g h t = absurd cc
    go false true c f g h t = absurd cc
    go true b c f g h t = absurd cc

pub reads_settled : (rules : List Alternative) (words first : List (List ℕ)) (numbers : List ℕ) (body : List (ℕ × Bool)) (x : Atom) (l : Literal)
    → is_fixed rules (relation_of x) ≡ true → positive x ≡ l
    → ReadsLiterals rules words first numbers body body (l ∷ [])
reads_settled rules words first numbers body x l e m = record {
  more = [];
  same = sym (append-nil body);
  read_are = λ so_far a. ap (λ (b : Bool). map (reading so_far) (cond (not b) (positive x ∷ []) [])) (sym e)
      ∙ ap (λ (y : Literal). map (reading so_far) (filter (is_read rules so_far) (y ∷ []))) m;
}

pub settled_is : (d : Data) (from : ℕ) (keys : List (List ℕ)) (places : List (Option ℕ)) (values : List ℕ) (n : ℕ) (l : memory.Literal)
    → l ≡ literal_in d n → l.is_negated ≡ false
    → positive (atom_under (row_map d keys places values) (store.stated_atom d from l.atom)) ≡ literal_by d from keys places values n
settled_is d from keys places values n l e f =
    ap (λ (b : Bool). cond b (negative (atom_under (row_map d keys places values) (store.stated_atom d from l.atom)))
    (positive (atom_under (row_map d keys places values) (store.stated_atom d from l.atom)))) (sym f)
    ∙ made_of d from keys places values n l e

filter_append : (f : Literal → Bool) (xs ys : List Literal) → filter f (xs ++ ys) ≡ filter f xs ++ filter f ys
filter_append f [] ys = refl
filter_append f (x ∷ xs) ys = go (f x) (filter_append f xs ys)
  where
    go : (b : Bool) → filter f (xs ++ ys) ≡ filter f xs ++ filter f ys
        → cond b (x ∷ filter f (xs ++ ys)) (filter f (xs ++ ys)) ≡ cond b (x ∷ filter f xs) (filter f xs) ++ filter f ys
    go true e = ap (λ (l : List Literal). x ∷ l) e
    go false e = e

reads_none : (rules : List Alternative) (words first : List (List ℕ)) (numbers : List ℕ) (body : List (ℕ × Bool))
    → ReadsLiterals rules words first numbers body body []
reads_none rules words first numbers body = record { more = []; same = sym (append-nil body); read_are = λ so_far a. refl }

reads_both : (rules : List Alternative) (words first : List (List ℕ)) (numbers : List ℕ) (a b c : List (ℕ × Bool)) (ls ks : List Literal)
    → ReadsLiterals rules words first numbers a b ls → ReadsLiterals rules words first numbers b c ks
    → ReadsLiterals rules words first numbers a c (ls ++ ks)
reads_both rules words first numbers a b c ls ks r s = record {
  more = r.more ++ s.more;
  same = s.same ∙ ap (λ (l : List (ℕ × Bool)). l ++ s.more) r.same ∙ append_assoc a r.more s.more;
  read_are = λ so_far are. ap (λ (l : List (ℕ × Bool)). l ++ s.more) (r.read_are so_far are)
      ∙ ap (λ (l : List (ℕ × Bool)). map (reading so_far) (filter (is_read rules so_far) ls) ++ l) (s.read_are so_far are)
      ∙ sym (map-append (reading so_far) (filter (is_read rules so_far) ls) (filter (is_read rules so_far) ks))
      ∙ ap (λ (l : List Literal). map (reading so_far) l) (sym (filter_append (is_read rules so_far) ls ks));
}

-- The loop over a body.

all_append : (rules : List Alternative) (atoms : List Atom) (ls ks : List Literal)
    → all_pass rules atoms (ls ++ ks) ≡ (all_pass rules atoms ls && all_pass rules atoms ks)
all_append rules atoms [] ks = refl
all_append rules atoms (l ∷ ls) ks = go (passes rules atoms l) (all_append rules atoms ls ks)
  where
    go : (b : Bool) → all_pass rules atoms (ls ++ ks) ≡ (all_pass rules atoms ls && all_pass rules atoms ks)
        → (b && all_pass rules atoms (ls ++ ks)) ≡ ((b && all_pass rules atoms ls) && all_pass rules atoms ks)
    go true e = e
    go false e = refl

-- the literals before a place were read, and pass
pub record Reading (rules : List Alternative) (d : Data) (from : ℕ) (places : List (Option ℕ)) (values numbers : List ℕ) (first now : Held)
    (before after : List (ℕ × Bool)) (all rest : List ℕ) : Type 0 where
  pub grown : HasGrown d.words first now
  pub done : List Literal
  pub split : map (literal_by d from first.keys places values) all ≡ done ++ map (literal_by d from first.keys places values) rest
  pub reads : ReadsLiterals rules d.words first.keys numbers before after done
  pub passing : (atoms : List Atom) → AreAtoms (trees d.words first.keys) numbers atoms → all_pass rules atoms done ≡ true

module _ (rules : List Alternative) (d : Data) (from : ℕ) (places : List (Option ℕ)) (values numbers : List ℕ) where
  pub reading_begins : (held : Held) (body : List (ℕ × Bool)) (all : List ℕ) → WordTerms d.words held
      → Reading rules d from places values numbers held held body body all all
  reading_begins held body all t = record {
    grown = grown_itself d.words held t;
    done = [];
    split = refl;
    reads = reads_none rules d.words held.keys numbers body;
    passing = λ atoms a. refl;
  }

  same_literal : (first now : Held) (n : ℕ) → HasGrown d.words first now → IsRow d first.keys places values
      → literal_by d from now.keys places values n ≡ literal_by d from first.keys places values n
  same_literal first now n g r = ap (λ (m : Map). literal_under m (stated_literal d from n))
      (map_stays d first.keys now.keys places values g.front r.below)

  pub row_now : (first now : Held) (before after : List (ℕ × Bool)) (all rest : List ℕ) → IsRow d first.keys places values
      → Reading rules d from places values numbers first now before after all rest → IsRow d now.keys places values
  row_now first now before after all rest r s = row_stays d first.keys now.keys places values (front_length first.keys now.keys s.grown.front) r

  pub reading_next : (first now new : Held) (before after more : List (ℕ × Bool)) (all rest : List ℕ) (n : ℕ) (b : Bool)
      → IsRow d first.keys places values
      → Reading rules d from places values numbers first now before after all (n ∷ rest) → HasGrown d.words now new
      → ReadsLiterals rules d.words now.keys numbers after more (literal_by d from now.keys places values n ∷ [])
      → ((atoms : List Atom) → AreAtoms (trees d.words now.keys) numbers atoms → b ≡ passes rules atoms (literal_by d from now.keys places values n))
      → b ≡ true
      → Reading rules d from places values numbers first new before more all rest
  reading_next first now new before after more all rest n b r s g one p e = record {
    grown = grown_more d.words first now new s.grown g;
    done = s.done ++ l ∷ [];
    split = s.split ∙ sym (append_assoc s.done (l ∷ []) (map (literal_by d from first.keys places values) rest));
    reads = reads_both rules d.words first.keys numbers before after more s.done (l ∷ []) s.reads
        (reads_first rules d.words first.keys now.keys numbers after more (l ∷ []) s.grown.front
        (subst (λ (k : Literal). ReadsLiterals rules d.words now.keys numbers after more (k ∷ [])) same one));
    passing = λ atoms a. all_append rules atoms s.done (l ∷ []) ∙ ap (λ (c : Bool). c && all_pass rules atoms (l ∷ [])) (s.passing atoms a)
        ∙ ap (λ (c : Bool). c && true) (ap (λ (k : Literal). passes rules atoms k) (sym same)
        ∙ sym (p atoms (atoms_front (trees d.words first.keys) (trees d.words now.keys) numbers atoms
        (trees_front d.words first.keys now.keys s.grown.front) a)) ∙ e);
  }
    where
      l : Literal
      l = literal_by d from first.keys places values n

      same : literal_by d from now.keys places values n ≡ l
      same = same_literal first now n s.grown r

  -- a literal that the row settles is not read, and passes
  pub reading_settled : (first now : Held) (before after : List (ℕ × Bool)) (all rest : List ℕ) (n : ℕ)
      → IsRow d first.keys places values
      → Reading rules d from places values numbers first now before after all (n ∷ rest)
      → IsInside from d (literal_in d n).atom → WordTerms d.words now
      → (mark_of rules d n).is_settled ≡ true
      → Reading rules d from places values numbers first now before after all rest
  reading_settled first now before after all rest n r s i t e =
      let l : memory.Literal = literal_in d n in
      let m = row_map d now.keys places values in
      let b = settled rules d l e in
      let is = settled_is d from now.keys places values n l refl b.positive_is in
      reading_next first now now before after after all rest n true r s (grown_itself d.words now t)
      (reads_settled rules d.words now.keys numbers after _ _ (ap (λ (p : Relation). is_fixed rules p) (row_relation d from m l.atom i) ∙ b.fixed) is)
      (λ atoms a. sym (positive_passes rules atoms (atom_under m (store.stated_atom d from l.atom))
      (ap is_distinct (row_relation d from m l.atom i) ∙ b.other)) ∙ ap (λ (k : Literal). passes rules atoms k) is)
      refl

  -- the literal that does not pass
  pub fails_here : (first now : Held) (before after : List (ℕ × Bool)) (all rest : List ℕ) (n : ℕ) (b : Bool) → IsRow d first.keys places values
      → Reading rules d from places values numbers first now before after all (n ∷ rest)
      → ((atoms : List Atom) → AreAtoms (trees d.words now.keys) numbers atoms → b ≡ passes rules atoms (literal_by d from now.keys places values n))
      → b ≡ false
      → (atoms : List Atom) → AreAtoms (trees d.words first.keys) numbers atoms
      → passes rules atoms (literal_by d from first.keys places values n) ≡ false
  fails_here first now before after all rest n b r s p e atoms a =
      ap (λ (k : Literal). passes rules atoms k) (sym (same_literal first now n s.grown r))
      ∙ sym (p atoms (atoms_front (trees d.words first.keys) (trees d.words now.keys) numbers atoms
      (trees_front d.words first.keys now.keys s.grown.front) a)) ∙ e

  -- the whole body was read
  whole_split : (first now : Held) (before after : List (ℕ × Bool)) (all rest : List ℕ) → rest ≡ []
      → (s : Reading rules d from places values numbers first now before after all rest)
      → s.done ≡ map (literal_by d from first.keys places values) all
  whole_split first now before after all rest e s =
      sym (s.split ∙ ap (λ (ns : List ℕ). s.done ++ map (literal_by d from first.keys places values) ns) e ∙ append-nil s.done)

  pub reading_ends : (first now : Held) (before after : List (ℕ × Bool)) (all rest : List ℕ) → rest ≡ []
      → Reading rules d from places values numbers first now before after all rest
      → ReadsLiterals rules d.words first.keys numbers before after (map (literal_by d from first.keys places values) all)
  reading_ends first now before after all rest e s = subst (λ (ls : List Literal). ReadsLiterals rules d.words first.keys numbers before after ls)
      (whole_split first now before after all rest e s) s.reads

  pub reading_passes : (first now : Held) (before after : List (ℕ × Bool)) (all rest : List ℕ) → rest ≡ []
      → Reading rules d from places values numbers first now before after all rest
      → (atoms : List Atom) → AreAtoms (trees d.words first.keys) numbers atoms
      → true ≡ all_pass rules atoms (map (literal_by d from first.keys places values) all)
  reading_passes first now before after all rest e s atoms a = sym
      (ap (λ (ls : List Literal). all_pass rules atoms ls) (sym (whole_split first now before after all rest e s)) ∙ s.passing atoms a)

-- a body of which one literal does not pass
pub one_fails : (rules : List Alternative) (atoms : List Atom) (f : ℕ → Literal) (ns : List ℕ) (i : ℕ) → i < length ns
    → passes rules atoms (f (get_or ns i 0)) ≡ false → all_pass rules atoms (map f ns) ≡ false
one_fails rules atoms f [] i h e = absurd (let bad : ⊥ = omega (arith, h) in bad)
one_fails rules atoms f (n ∷ ns) zero h e = ap (λ (b : Bool). b && all_pass rules atoms (map f ns)) e
one_fails rules atoms f (n ∷ ns) (suc i) h e =
    ap (λ (b : Bool). passes rules atoms (f n) && b) (one_fails rules atoms f ns i (omega (arith, h)) e) ∙ and_none (passes rules atoms (f n))
  where
    and_none : (b : Bool) → (b && false) ≡ false
    and_none true = refl
    and_none false = refl

-- the parts of its atom, with places
pub placed_at : (d : Data) (from : ℕ) (places : List (Option ℕ)) (ns : List ℕ) (all : List (List Part)) (i : ℕ) → all ≡ placed_body d from places ns
    → i < length ns
    → get_or all i [] ≡ placed_atom d from places (literal_in d (get_or ns i 0)).atom
placed_at d from places ns all i e h = ap (λ (pss : List (List Part)). get_or pss i []) e ∙ go ns i h
  where
    go : (ms : List ℕ) (k : ℕ) → k < length ms → get_or (placed_body d from places ms) k [] ≡ placed_atom d from places
        (literal_in d (get_or ms k 0)).atom
    go [] k less = absurd (let bad : ⊥ = omega (arith, less) in bad)
    go (m ∷ ms) zero less = refl
    go (m ∷ ms) (suc k) less = go ms k (omega (arith, less))

pub placed_within : (d : Data) (from : ℕ) (places : List (Option ℕ)) (ns : List ℕ) (all : List (List Part)) (many i : ℕ)
    → all ≡ placed_body d from places ns → length all ≡ many → i < length ns → i < many
placed_within d from places ns all many i e f h = let l = ap length e ∙ length-map ns _ in omega (arith, f, h, l)

pub number_place : (xs : List ℕ) (i : ℕ) → i < length xs → drop i xs ≡ get_or xs i 0 ∷ drop (i + 1) xs
number_place xs i h =
    let n : suc i ≡ i + 1 = omega arith in drop-cons xs i 0 h ∙ ap (λ (j : ℕ). get_or xs i 0 ∷ drop j xs) n
