-- Instances by numbers where heads that are too long are not told apart.
use Rattle.std.proofs.Common.{
  ℕ,
  suc,
  ◌≡◌,
  ◌<◌,
  ◌≤◌,
  ◌⊎◌,
  inl,
  inr,
  Bool,
  true,
  false,
  cond,
  List,
  [],
  ◌∷◌,
  ◌++◌,
  length,
  map,
  nat_lt,
  refl,
  sym,
  ap,
  subst,
  ◌∙◌,
  arith,
  Option,
  Some,
  None,
}
use Rattle.std.specs.Prelude.{◌||◌}
use Rattle.std.proofs.lemmas.Bool.Decides.{nat_tests}
use Rattle.std.proofs.lemmas.List.{map-append}
use Rattle.statement.specs.Tree.{Tree, Trees, text, trees_of}
use Rattle.statement.specs.Clause as said
use Rattle.statement.specs.Clause.{Alternative, tree_at, tree_of}
use Rattle.rules_clauses.specs.declared.numbered.Atom.{Atom}
use Rattle.rules_clauses.specs.declared.numbered.Part.{Part}
use Rattle.rules_clauses.specs.Numbers.{BeginsWith, word_at}
use Rattle.rules_clauses.specs.Signatures.{signature_at}
use Rattle.rules_clauses.specs.Store.{Data, stated_atom}
use Rattle.ground_matching.specs.Levels.{parts_in}
use Rattle.ground_matching.specs.Placed.{placed_atom}
use Rattle.ground_matching.specs.Plans.{CanBuild}
use Rattle.statement.specs.Substitution.{atom_under}
use Rattle.statement.specs.Listing.{Instance, heads}
use Rattle.statement.specs.Most.{limits}
use Rattle.ground_terms.specs.Arena.{cut}
use Rattle.ground_terms.specs.Building.{place_value, ground_terms}
use Rattle.ground_terms.specs.Keys.{term_at, trees}
use Rattle.ground_rows.specs.Founds.{Told, ToldShort, told, told_by, short_head, shortened, head_numbers, AreFound, AreFoundShort}
use Rattle.ground_rows.specs.Instances.{row_map, IsRow}
use Rattle.statement.specs.Kept.{Kept}
use Rattle.ground_rows.specs.Progress.{some_long}
use Rattle.ground_matching.proofs.Facts.{placed_agree}
use Rattle.ground_terms.proofs.Facts.{front_length}
use Rattle.ground_rows.proofs.FoundLemmas.{all_below_more, all_below_append, told_front}

pub short_front : (rules : List Alternative) (atoms : List said.Atom) (terms all : List Tree) (ks : List Kept) (is : List Instance) → BeginsWith terms all
    → AreFoundShort rules atoms terms ks is → AreFoundShort rules atoms all ks is
short_front rules atoms terms all ks is f a = record {
  below = all_below_more (length terms) (length all) ks (front_length terms all f) a.below;
  same = ap (map shortened) (told_front terms all f ks a.below) ∙ a.same;
}

pub short_append : (rules : List Alternative) (atoms : List said.Atom) (terms : List Tree) (ks js : List Kept) (is hs : List Instance) → AreFoundShort rules atoms terms ks is
    → AreFoundShort rules atoms terms js hs → AreFoundShort rules atoms terms (ks ++ js) (is ++ hs)
short_append rules atoms terms ks js is hs a b = record {
  below = all_below_append (length terms) ks js a.below b.below;
  same = both (told terms) ks js ∙ ap (λ (l : List ToldShort). l ++ map shortened (map (told terms) js)) a.same
      ∙ ap (λ (l : List ToldShort). map shortened (map (told_by rules atoms) is) ++ l) b.same ∙ sym (both (told_by rules atoms) is hs);
}
  where
    both : {A : Type 0} (f : A → Told) (xs ys : List A)
        → map shortened (map f (xs ++ ys)) ≡ map shortened (map f xs) ++ map shortened (map f ys)
    both f xs ys = ap (map shortened) (map-append f xs ys) ∙ map-append shortened (map f xs) (map f ys)

pub short_none : (rules : List Alternative) (atoms : List said.Atom) (terms : List Tree) → AreFoundShort rules atoms terms [] []
short_none rules atoms terms = record { below = tt; same = refl }

pub short_count : (rules : List Alternative) (atoms : List said.Atom) (terms : List Tree) (ks : List Kept) (is : List Instance) → AreFoundShort rules atoms terms ks is
    → length ks ≡ length is
short_count rules atoms terms ks is a = go ks is a.same
  where
    go : (js : List Kept) (hs : List Instance) → map shortened (map (told terms) js) ≡ map shortened (map (told_by rules atoms) hs)
        → length js ≡ length hs
    go [] [] e = refl
    go [] (h ∷ hs) e = absurd cc
    go (j ∷ js) [] e = absurd cc
    go (j ∷ js) (h ∷ hs) e =
        let rest : map shortened (map (told terms) js) ≡ map shortened (map (told_by rules atoms) hs) = cc in ap suc (go js hs rest)

-- two trees that are told alike are the same, or both are too long
abbrev is_too_long : Tree → Bool
is_too_long t = nat_lt limits.text (length (text t))

same_or_long : (s t : Tree) → short_head s ≡ short_head t → (s ≡ t) ⊎ ((is_too_long s ≡ true) × (is_too_long t ≡ true))
same_or_long s t e = go (nat_lt limits.text (length (text s))) (nat_lt limits.text (length (text t))) refl refl e
  where
    go : (b c : Bool) → nat_lt limits.text (length (text s)) ≡ b → nat_lt limits.text (length (text t)) ≡ c
        → ◌≡◌ {A = Option Tree} (cond b None (Some s)) (cond c None (Some t))
        → (s ≡ t) ⊎ ((nat_lt limits.text (length (text s)) ≡ true) × (nat_lt limits.text (length (text t)) ≡ true))
    go true true f g h = inr (f, g)
    go false false f g h = inl cc
    go true false f g h = absurd cc
    go false true f g h = absurd cc

-- trees that are too long are told alike
both_long : (s t : Tree) → nat_lt limits.text (length (text s)) ≡ true → nat_lt limits.text (length (text t)) ≡ true
    → short_head s ≡ short_head t
both_long s t e f = ap (λ (b : Bool). cond b None (Some s)) e ∙ sym (ap (λ (b : Bool). cond b None (Some t)) f)

past : (n m : ℕ) → n ≤ limits.text → nat_lt limits.text m ≡ true → nat_lt n m ≡ true
past n m h e = grind (arith, nat_tests)

module _ (rules : List Alternative) (atoms : List said.Atom) (terms : List Tree) (n : ℕ) (small : n ≤ limits.text) where
  first_short : (k : Kept) (i : Instance) (ks : List Kept) (is : List Instance)
      → map shortened (map (told terms) (k ∷ ks)) ≡ map shortened (map (told_by rules atoms) (i ∷ is))
      → shortened (told terms k) ≡ shortened (told_by rules atoms i)
  first_short k i ks is e = cc

  rest_short : (k : Kept) (i : Instance) (ks : List Kept) (is : List Instance)
      → map shortened (map (told terms) (k ∷ ks)) ≡ map shortened (map (told_by rules atoms) (i ∷ is))
      → map shortened (map (told terms) ks) ≡ map shortened (map (told_by rules atoms) is)
  rest_short k i ks is e = cc

  -- some head is too long exactly where some head of the instances is
  pub long_alike : (ks : List Kept) (is : List Instance) → map shortened (map (told terms) ks) ≡ map shortened (map (told_by rules atoms) is)
      → some_long n (map (term_at terms) (head_numbers ks)) ≡ some_long n (map tree_of (heads is))
  long_alike [] [] e = refl
  long_alike [] (i ∷ is) e = absurd cc
  long_alike (k ∷ ks) [] e = absurd cc
  long_alike (k ∷ ks) (i ∷ is) e =
      go (same_or_long (term_at terms k.head) (tree_of i.head) (ap (λ (t : ToldShort). t.head) (first_short k i ks is e)))
      (long_alike ks is (rest_short k i ks is e))
    where
      go : (term_at terms k.head ≡ tree_of i.head)
          ⊎ ((nat_lt limits.text (length (text (term_at terms k.head))) ≡ true) × (nat_lt limits.text (length (text (tree_of i.head))) ≡ true))
          → some_long n (map (term_at terms) (head_numbers ks)) ≡ some_long n (map tree_of (heads is))
          → some_long n (map (term_at terms) (head_numbers (k ∷ ks))) ≡ some_long n (map tree_of (heads (i ∷ is)))
      go (inl same) rest =
          ap (λ (t : Tree). nat_lt n (length (text t)) || some_long n (map (term_at terms) (head_numbers ks))) same
          ∙ ap (λ (b : Bool). nat_lt n (length (text (tree_of i.head))) || b) rest
      go (inr long) rest =
          ap (λ (b : Bool). b || some_long n (map (term_at terms) (head_numbers ks))) (past n (length (text (term_at terms k.head))) small long.0)
          ∙ sym (ap (λ (b : Bool). b || some_long n (map tree_of (heads is))) (past n (length (text (tree_of i.head))) small long.1))

  -- where no head is too long all are told apart
  exact_heads : (ks : List Kept) (is : List Instance) → map shortened (map (told terms) ks) ≡ map shortened (map (told_by rules atoms) is)
      → some_long n (map (term_at terms) (head_numbers ks)) ≡ false → map (told terms) ks ≡ map (told_by rules atoms) is
  exact_heads [] [] e h = refl
  exact_heads [] (i ∷ is) e h = absurd cc
  exact_heads (k ∷ ks) [] e h = absurd cc
  exact_heads (k ∷ ks) (i ∷ is) e h =
      go (same_or_long (term_at terms k.head) (tree_of i.head) (ap (λ (t : ToldShort). t.head) (first_short k i ks is e)))
      (nat_lt n (length (text (term_at terms k.head)))) refl h (λ g. exact_heads ks is (rest_short k i ks is e) g)
    where
      go : (term_at terms k.head ≡ tree_of i.head)
          ⊎ ((nat_lt limits.text (length (text (term_at terms k.head))) ≡ true) × (nat_lt limits.text (length (text (tree_of i.head))) ≡ true))
          → (b : Bool) → nat_lt n (length (text (term_at terms k.head))) ≡ b → b || some_long n (map (term_at terms) (head_numbers ks)) ≡ false
          → (some_long n (map (term_at terms) (head_numbers ks)) ≡ false → map (told terms) ks ≡ map (told_by rules atoms) is)
          → map (told terms) (k ∷ ks) ≡ map (told_by rules atoms) (i ∷ is)
      go o true f g more = absurd cc
      go (inr long) false f g more = absurd (let bad = past n (length (text (term_at terms k.head))) small long.0 in cc)
      go (inl same) false f g more =
          let own = first_short k i ks is e in
          let place : k.alternative ≡ i.place = ap (λ (t : ToldShort). t.place) own in
          let body = ap (λ (t : ToldShort). t.body) own in
          let here : told terms k ≡ told_by rules atoms i = λ x. record { place = place x; head = same x; body = body x } in
          let rest = more g in cc

pub found_exact : (rules : List Alternative) (atoms : List said.Atom) (terms : List Tree) (n : ℕ) → n ≤ limits.text → (ks : List Kept) (is : List Instance)
    → AreFoundShort rules atoms terms ks is → some_long n (map (term_at terms) (head_numbers ks)) ≡ false → AreFound rules atoms terms ks is
found_exact rules atoms terms n small ks is a h = record { below = a.below; same = exact_heads rules atoms terms n small ks is a.same h }

-- The head of a row that is too long.

above : (m n : ℕ) → m < n → nat_lt m n ≡ true
above m n h = grind (arith, nat_tests)

-- a term whose length is past the limit
length_past : (t : Tree) (size : ℕ) → size ≡ cut (length (text t)) → limits.text < size → nat_lt limits.text (length (text t)) ≡ true
length_past t size e h = above limits.text (length (text t)) (omega (arith, e, h))

-- what is too long as parts is too long as the atom of a row
row_past : (d : Data) (from : ℕ) (keys : List (List ℕ)) (places : List (Option ℕ)) (values : List ℕ) (a : Atom) (ps : List Part)
    → ps ≡ placed_atom d from places a → IsRow d keys places values → CanBuild d from places a
    → ((word : List ℕ) → nat_lt limits.text (length (text (tree_at word
    (trees_of (ground_terms d.words (place_value (trees d.words keys) values) ps []))))) ≡ true)
    → nat_lt limits.text (length (text (tree_of (atom_under (row_map d keys places values) (stated_atom d from a))))) ≡ true
row_past d from keys places values a ps e r c long =
    let w = (signature_at d.signatures a.relation).word in
    let own : nat_lt limits.text (length (text (tree_at (word_at d.words w)
    (trees_of (ground_terms d.words (place_value (trees d.words keys) values) (placed_atom d from places a) []))))) ≡ true =
    subst (λ (qs : List Part). nat_lt limits.text (length (text (tree_at (word_at d.words w)
    (trees_of (ground_terms d.words (place_value (trees d.words keys) values) qs []))))) ≡ true) e (long (word_at d.words w)) in
    subst (λ (ts : Trees). nat_lt limits.text (length (text (tree_at (word_at d.words w) ts))) ≡ true)
    (placed_agree d from (trees d.words keys) places values r.names r.long w (parts_in d a) c.inside.sorted c.placed) own

-- two heads that are too long are told alike
pub long_heads : (d : Data) (from : ℕ) (keys : List (List ℕ)) (places : List (Option ℕ)) (values : List ℕ) (a : Atom) (ps : List Part) (k size : ℕ)
    → ps ≡ placed_atom d from places a → IsRow d keys places values → CanBuild d from places a
    → size ≡ cut (length (text (term_at (trees d.words keys) k))) → limits.text < size
    → ((word : List ℕ) → nat_lt limits.text (length (text (tree_at word
    (trees_of (ground_terms d.words (place_value (trees d.words keys) values) ps []))))) ≡ true)
    → short_head (term_at (trees d.words keys) k) ≡ short_head (tree_of (atom_under (row_map d keys places values) (stated_atom d from a)))
long_heads d from keys places values a ps k size e r c size_is past long =
    both_long (term_at (trees d.words keys) k) (tree_of (atom_under (row_map d keys places values) (stated_atom d from a))) (length_past (term_at (trees d.words keys) k) size size_is past)
    (row_past d from keys places values a ps e r c long)
