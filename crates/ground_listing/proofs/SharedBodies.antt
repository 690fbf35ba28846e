-- Rows of an alternative whose instances have all the same body.
use Rattle.std.proofs.Common.{ℕ, zero, suc, ◌≡◌, ◌<◌, ◌+◌, ◌⊎◌, inl, inr, Bool, true, false, not, cond, ◌&&◌, List, [], ◌∷◌, ◌++◌, length, map, get_or, refl, sym, ◌∙◌, ap, subst, arith, Option, Some, None}
use Rattle.std.specs.Prelude.{filter, slice_get, unwrap_or, IfNone, IfSome}
use Rattle.std.proofs.lemmas.List.{length-append}
use Rattle.statement.specs.Tree.{Tree}
use Rattle.statement.specs.Clause.{Atom, Alternative, Literal, positive, negative, relation_of}
use Rattle.statement.specs.Dependence.{is_fixed}
use Rattle.statement.specs.Kept.{is_read, reading}
use Rattle.statement.specs.Listing.{passes, all_pass, is_atom_in}
use Rattle.statement.specs.Substitution.{Map, atom_under, literal_under}
use Rattle.rules_clauses.specs.Marks.{literal_in, IsInside, NumbersBelow}
use Rattle.rules_clauses.specs.Numbers.{BeginsWith}
use Rattle.rules_clauses.specs.Store as store
use Rattle.rules_clauses.specs.Store.{Data, relation_at, stated_literal}
use Rattle.ground_instances.specs.declared.found_list.FoundList.{FoundList}
use Rattle.ground_instances.specs.Lists.{bodies_behind, bodies_of}
use Rattle.ground_instances.proofs.KeptFacts.{many_bodies, get_last}
use Rattle.ground_matching.specs.Placed.{placed_atom}
use Rattle.ground_matching.specs.Plans.{CanBuild, CanBuildEach, number_in}
use Rattle.ground_terms.specs.Keys.{trees}
use Rattle.ground_rows.specs.Instances.{row_map, IsRow, HaveNumbers, literal_by, ReadsLiterals}
use Rattle.ground_rows.specs.Matchers.{passes_always}
use Rattle.ground_rows.specs.RuledOut.{FailsAlike}
use Rattle.ground_rows.specs.Sharing.{IsCommon, AreCommon, failing, IsBodyBy, IsBodyIn}
use Rattle.ground_terms.specs.Atoms.{AreAtoms}
use Rattle.ground_terms.proofs.Facts.{front_length, terms_front, trees_front}
use Rattle.ground_listing.proofs.PassAlways.{one_passes}
use Rattle.ground_rows.proofs.Facts.{map_stays, row_stays, below_trees}
use Rattle.ground_rows.proofs.Facts.{made_of, row_relation}
use Rattle.ground_rows.proofs.Facts.{literal_again}

abbrev no_places : List (Option ℕ)
no_places = []

-- where no number is noted, none is known
none_noted : (i : ℕ) → slice_get no_places i ≡ None
none_noted zero = refl
none_noted (suc i) = refl

pub none_known : (d : Data) (from : ℕ) (keys : List (List ℕ)) (atoms : List ℕ) (places : List (Option ℕ)) (values ns : List ℕ)
    → HaveNumbers d from keys atoms places values ns []
none_known d from keys atoms places values ns i k less e =
    let none : number_in atoms (number_in values (unwrap_or (slice_get no_places i) None)) ≡ None =
    ap (λ (o : Option (Option ℕ)). number_in atoms (number_in values (unwrap_or o None))) (none_noted i) in
    absurd (let bad : Some k ≡ None = sym e ∙ none in cc)

split_read : (so_far : List Atom) (b : Bool) (x : Literal) (rest : List Literal)
    → map (reading so_far) (cond b (x ∷ rest) rest) ≡ map (reading so_far) (cond b (x ∷ []) []) ++ map (reading so_far) rest
split_read so_far true x rest = refl
split_read so_far false x rest = refl

pub none_shared : (o : Option ℕ) (P : ℕ → Type 0) → o ≡ None → IfSome o P
none_shared o P none = subst (λ (p : Option ℕ). IfSome p P) (sym none) tt

pub none_maps : (o : Option ℕ) (P Q : Type 0) → (P → Q) → IfNone o P → IfNone o Q
none_maps None P Q f p = f p
none_maps (Some k) P Q f p = tt

pub some_maps : (o : Option ℕ) (P Q : ℕ → Type 0) → ((k : ℕ) → P k → Q k) → IfSome o P → IfSome o Q
some_maps None P Q f p = tt
some_maps (Some k) P Q f p = f k p

-- atoms of later terms that are numbers of earlier ones are atoms of those
atoms_back : (terms all : List Tree) (numbers : List ℕ) (xs : List Atom) → BeginsWith terms all → NumbersBelow (length terms) numbers
    → AreAtoms all numbers xs → AreAtoms terms numbers xs
atoms_back terms all numbers xs f b a = record { below = b; same = sym (terms_front terms all f numbers b) ∙ a.same }

-- the literals that were read by themselves
pub alone_read : (rules : List Alternative) (words keys : List (List ℕ)) (numbers : List ℕ) (body : List (ℕ × Bool)) (ls : List Literal)
    → ReadsLiterals rules words keys numbers [] body ls → (so_far : List Atom) → AreAtoms (trees words keys) numbers so_far
    → body ≡ map (reading so_far) (filter (is_read rules so_far) ls)
alone_read rules words keys numbers body ls r so_far a = r.same ∙ r.read_are so_far a

-- a body behind those of all others has the next number
pub pushed_body : (f g : FoundList) (body : List (ℕ × Bool)) (number : ℕ) → bodies_of g ≡ bodies_of f ++ body ∷ [] → number ≡ length f.ends.items
    → (number < length g.ends.items) × (get_or (bodies_of g) number [] ≡ body)
pushed_body f g body number e n =
    let more = ap length e ∙ length-append (bodies_of f) (body ∷ []) in
    let before = many_bodies f in
    let after = many_bodies g in (
      omega (arith, more, before, after, n),
      ap (λ (bs : List (List (ℕ × Bool))). get_or bs number []) e ∙ get_last (bodies_of f) body number (n ∙ sym before),
    )

pub shared_new : (o : Option ℕ) (number : ℕ) (shares : Type 0) (P : ℕ → Type 0) → IfSome o (λ b. (b ≡ number) × shares) → P number
    → IfSome o (λ b. shares × P b)
shared_new None number shares P h p = tt
shared_new (Some b) number shares P h p = (h.1, subst P (sym h.0) p)

module _ (rules : List Alternative) (d : Data) (from : ℕ) (places : List (Option ℕ)) where
  pub common_more : (ns : List ℕ) (index : ℕ) → ((i : ℕ) → i < index → IsCommon rules d from places (get_or ns i 0))
      → IsCommon rules d from places (get_or ns index 0) → (i : ℕ) → i < index + 1 → IsCommon rules d from places (get_or ns i 0)
  common_more ns index before here i less = go (below_or i index less)
    where
      below_or : (k m : ℕ) → k < m + 1 → (k < m) ⊎ (k ≡ m)
      below_or k m le = grind arith

      go : (i < index) ⊎ (i ≡ index) → IsCommon rules d from places (get_or ns i 0)
      go (inl h) = before i h
      go (inr e) = subst (λ (k : ℕ). IsCommon rules d from places (get_or ns k 0)) (sym e) here

  -- one of a fixed relation is not read
  fixed_unread : (so_far : List Atom) (keys : List (List ℕ)) (values : List ℕ) (n : ℕ) → IsInside from d (literal_in d n).atom
      → is_fixed rules (relation_at d (literal_in d n).atom.relation) ≡ true
      → is_read rules so_far (literal_by d from keys places values n) ≡ false
  fixed_unread so_far keys values n inside fixed =
      ap (λ (k : Literal). is_read rules so_far k) (sym (made_of d from keys places values n (literal_in d n) refl))
      ∙ go (literal_in d n).is_negated
      (ap (λ p. is_fixed rules p) (row_relation d from (row_map d keys places values) (literal_in d n).atom inside) ∙ fixed)
    where
      x : Atom
      x = atom_under (row_map d keys places values) (store.stated_atom d from (literal_in d n).atom)

      go : (b : Bool) → is_fixed rules (relation_of x) ≡ true → is_read rules so_far (cond b (negative x) (positive x)) ≡ false
      go true e = ap (λ (c : Bool). not c && is_atom_in x so_far) e
      go false e = ap (λ (c : Bool). not c) e

  -- what two rows make of a common literal is kept alike
  read_common : (so_far : List Atom) (keys : List (List ℕ)) (xs ys : List ℕ) (n : ℕ) → IsRow d keys places xs → IsRow d keys places ys
      → CanBuild d from places (literal_in d n).atom → IsCommon rules d from places n
      → map (reading so_far) (filter (is_read rules so_far) (literal_by d from keys places xs n ∷ []))
      ≡ map (reading so_far) (filter (is_read rules so_far) (literal_by d from keys places ys n ∷ []))
  read_common so_far keys xs ys n r s can (inl fixed) = none xs ∙ sym (none ys)
    where
      none : (vs : List ℕ) → map (reading so_far) (filter (is_read rules so_far) (literal_by d from keys places vs n ∷ [])) ≡ []
      none vs =
          ap (λ (b : Bool). map (reading so_far) (cond b (literal_by d from keys places vs n ∷ []) []))
          (fixed_unread so_far keys vs n can.inside fixed)
  read_common so_far keys xs ys n r s can (inr same) =
      ap (λ (l : Literal). map (reading so_far) (filter (is_read rules so_far) (l ∷ [])))
      (literal_again d from keys places ys xs n (placed_atom d from places (literal_in d n).atom) refl s r can (same xs ys))

  read_all : (so_far : List Atom) (keys : List (List ℕ)) (xs ys ns : List ℕ) → IsRow d keys places xs → IsRow d keys places ys → CanBuildEach d from places ns
      → AreCommon rules d from places ns
      → map (reading so_far) (filter (is_read rules so_far) (map (literal_by d from keys places xs) ns))
      ≡ map (reading so_far) (filter (is_read rules so_far) (map (literal_by d from keys places ys) ns))
  read_all so_far keys xs ys [] r s each common = refl
  read_all so_far keys xs ys (n ∷ ns) r s each common =
      let one = read_common so_far keys xs ys n r s each.0.1 (common 0 (omega arith)) in
      let more = read_all so_far keys xs ys ns r s each.1 (λ i less. common (suc i) (omega (arith, less))) in
      split_read so_far (is_read rules so_far (literal_by d from keys places xs n)) (literal_by d from keys places xs n)
      (filter (is_read rules so_far) (map (literal_by d from keys places xs) ns))
      ∙ ap (λ (l : List (ℕ × Bool)). l ++ map (reading so_far) (filter (is_read rules so_far) (map (literal_by d from keys places xs) ns))) one
      ∙ ap (λ (l : List (ℕ × Bool)). map (reading so_far) (filter (is_read rules so_far) (literal_by d from keys places ys n ∷ [])) ++ l) more
      ∙ sym (split_read so_far (is_read rules so_far (literal_by d from keys places ys n)) (literal_by d from keys places ys n)
      (filter (is_read rules so_far) (map (literal_by d from keys places ys) ns)))

  -- the body that some row made is that of each row
  pub shared_reads : (keys : List (List ℕ)) (ns numbers : List ℕ) (body : List (ℕ × Bool)) (values : List ℕ) → CanBuildEach d from places ns
      → AreCommon rules d from places ns → IsBodyBy rules d from places ns numbers keys body → IsRow d keys places values
      → ReadsLiterals rules d.words keys numbers [] body (map (literal_by d from keys places values) ns)
  shared_reads keys ns numbers body values each common b r = record {
    more = b.reads.more;
    same = b.reads.same;
    read_are = λ so_far a. b.reads.read_are so_far a ∙ read_all so_far keys b.values values ns b.row r each common;
  }

  -- while terms grow, a row makes the same of literals
  pub made_later : (old new : List (List ℕ)) (values ns : List ℕ) → BeginsWith old new → IsRow d old places values
      → map (literal_by d from old places values) ns ≡ map (literal_by d from new places values) ns
  made_later old new values ns f r =
      ap (λ (m : Map). map (λ n. literal_under m (stated_literal d from n)) ns) (sym (map_stays d old new places values f r.below))

  pub body_later : (old new : List (List ℕ)) (ns numbers : List ℕ) (body : List (ℕ × Bool)) → BeginsWith old new → NumbersBelow (length old) numbers
      → IsBodyBy rules d from places ns numbers old body → IsBodyBy rules d from places ns numbers new body
  body_later old new ns numbers body f within b = record {
    values = b.values;
    row = row_stays d old new places b.values (front_length old new f) b.row;
    reads = record {
      more = b.reads.more;
      same = b.reads.same;
      read_are = λ so_far a. b.reads.read_are so_far (atoms_back (trees d.words old) (trees d.words new) numbers so_far (trees_front d.words old new f)
          (below_trees d.words old numbers within) a)
          ∙ ap (λ (ls : List Literal). map (reading so_far) (filter (is_read rules so_far) ls)) (made_later old new b.values ns f b.row);
    };
  }

  -- what a row made of all literals is its body
  pub body_made : (old mid : List (List ℕ)) (ns numbers values : List ℕ) (before after : List (ℕ × Bool)) → BeginsWith old mid
      → NumbersBelow (length old) numbers → IsRow d old places values
      → (r : ReadsLiterals rules d.words old numbers before after (map (literal_by d from old places values) ns))
      → IsBodyBy rules d from places ns numbers mid r.more
  body_made old mid ns numbers values before after f within row r = record {
    values = values;
    row = row_stays d old mid places values (front_length old mid f) row;
    reads = record {
      more = r.more;
      same = refl;
      read_are = λ so_far a. r.read_are so_far (atoms_back (trees d.words old) (trees d.words mid) numbers so_far (trees_front d.words old mid f)
          (below_trees d.words old numbers within) a)
          ∙ ap (λ (ls : List Literal). map (reading so_far) (filter (is_read rules so_far) ls)) (made_later old mid values ns f row);
    };
  }

  -- a body that is there stays
  pub body_stays : (old new : List (List ℕ)) (ns numbers : List ℕ) (f g : FoundList) (b : ℕ) → BeginsWith old new → NumbersBelow (length old) numbers
      → length f.ends.items ≡ length g.ends.items
      → get_or (bodies_of g) b [] ≡ get_or (bodies_of f) b []
      → IsBodyIn rules d from places ns numbers old f b → IsBodyIn rules d from places ns numbers new g b
  body_stays old new ns numbers f g b front within many same is =
      let less = is.0 in (
        omega (arith, less, many),
        subst (λ (body : List (ℕ × Bool)). IsBodyBy rules d from places ns numbers new body) (sym same)
            (body_later old new ns numbers (get_or (bodies_of f) b []) front within is.1),
      )

  -- and where there is none, there is none
  pub shared_stays : (shares : Type 0) (old new : List (List ℕ)) (ns numbers : List ℕ) (f g : FoundList) (o : Option ℕ) → BeginsWith old new
      → NumbersBelow (length old) numbers
      → g.ends.items ≡ f.ends.items → g.literals.items ≡ f.literals.items
      → IfSome o (λ b. shares × IsBodyIn rules d from places ns numbers old f b)
      → IfSome o (λ b. shares × IsBodyIn rules d from places ns numbers new g b)
  shared_stays shares old new ns numbers f g None front within ends literals is = tt
  shared_stays shares old new ns numbers f g (Some b) front within ends literals is =
      let bodies : bodies_of g ≡ bodies_of f =
      ap (λ (ls : List (ℕ × Bool)). bodies_behind ls 0 g.ends.items) literals ∙ ap (bodies_behind f.literals.items 0) ends in (
        is.0,
        body_stays old new ns numbers f g b front within (sym (ap length ends)) (ap (λ (bs : List (List (ℕ × Bool))). get_or bs b []) bodies) is.1,
      )

  -- Only literals that a row may fail at need be asked.

  pub lean_passes : (keys : List (List ℕ)) (values : List ℕ) (atoms : List Atom) (ns : List ℕ) → CanBuildEach d from places ns
      → all_pass rules atoms (map (literal_by d from keys places values) (failing rules d ns))
      ≡ all_pass rules atoms (map (literal_by d from keys places values) ns)
  lean_passes keys values atoms [] each = refl
  lean_passes keys values atoms (n ∷ ns) each =
      go (passes_always rules d n) (λ e. one_passes rules d from keys places atoms values n each.0.1.inside e)
      (lean_passes keys values atoms ns each.1) refl
    where
      go : (b : Bool) → (passes_always rules d n ≡ true → passes rules atoms (literal_by d from keys places values n) ≡ true)
          → all_pass rules atoms (map (literal_by d from keys places values) (failing rules d ns))
          ≡ all_pass rules atoms (map (literal_by d from keys places values) ns)
          → passes_always rules d n ≡ b
          → all_pass rules atoms (map (literal_by d from keys places values) (cond (not b) (n ∷ failing rules d ns) (failing rules d ns)))
          ≡ (passes rules atoms (literal_by d from keys places values n) && all_pass rules atoms (map (literal_by d from keys places values) ns))
      go true one more e =
          more ∙ sym (ap (λ (c : Bool). c && all_pass rules atoms (map (literal_by d from keys places values) ns)) (one e))
      go false one more e = ap (λ (c : Bool). passes rules atoms (literal_by d from keys places values n) && c) more

  pub each_failing : (ns : List ℕ) → CanBuildEach d from places ns → CanBuildEach d from places (failing rules d ns)
  each_failing [] each = each
  each_failing (n ∷ ns) each = go (passes_always rules d n) (each_failing ns each.1)
    where
      go : (b : Bool) → CanBuildEach d from places (failing rules d ns)
          → CanBuildEach d from places (cond (not b) (n ∷ failing rules d ns) (failing rules d ns))
      go true more = more
      go false more = (each.0, more)

  pub lean_fails : (keys : List (List ℕ)) (numbers ns values : List ℕ) (last : ℕ) → CanBuildEach d from places ns
      → FailsAlike rules d from keys places numbers (failing rules d ns) values last → FailsAlike rules d from keys places numbers ns values last
  lean_fails keys numbers ns values last each f = λ other o same atoms a. sym (lean_passes keys other atoms ns each) ∙ f other o same atoms a
