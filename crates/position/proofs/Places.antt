-- Where what is asked of a state stands among the nodes that are kept.
use Rattle.std.proofs.Common.{
  ◌≡◌,
  ℕ,
  zero,
  suc,
  ◌+◌,
  ◌<◌,
  ◌≤◌,
  Bool,
  true,
  false,
  cond,
  List,
  [],
  ◌∷◌,
  ◌++◌,
  length,
  map,
  get_or,
  length-append,
  refl,
  sym,
  subst,
  ap,
  ◌∙◌,
  arith,
  inl,
  inr,
  Option,
}
use Rattle.std.specs.Prelude.{slice_index}
use Rattle.std.proofs.Math.Seq.{get_or-append_seam}
use Rattle.std.proofs.Math.ListN.{get_or-append}
use Rattle.std.proofs.lemmas.Bool.{cases_eq}
use Rattle.std.proofs.lemmas.List.{length-map, get_or-map, map-append}
use Rattle.std.proofs.lemmas.List.FromFn.{get_or-map-range_with_len}
use Rattle.statement.specs.declared.kind.Kind.{Kind}
use Rattle.game_rules.specs.RulePlay.{kind_at}
use Rattle.position.specs.declared.lane_plan.Scope.{Scope}
use Rattle.position.specs.NetState.{is_asked, view_of}
use Rattle.position.specs.LanePlans.{shown_below, asked_at, asked_below, asked_nodes, places_of}
use Rattle.game_rules.proofs.Facts.{filter_range_more}

pub record StandsAt (xs : List ℕ) (i a : ℕ) : Type 0 where
  pub at : get_or xs i 0 ≡ a
  pub below : i < length xs

appended : (xs ys : List ℕ) (i a : ℕ) → StandsAt xs i a → StandsAt (xs ++ ys) i a
appended xs ys i a s = record {
  at = get_or-append xs ys 0 i s.below ∙ s.at;
  below = let lt = s.below in let size = length-append xs ys in omega arith;
}

put_last : (xs : List ℕ) (n : ℕ) (b : Bool) → b ≡ true → StandsAt (xs ++ cond b (n ∷ []) []) (length xs) n
put_last xs n true e = record {
  at = get_or-append_seam xs n [] 0;
  below = let size = length-append xs (n ∷ []) in omega arith;
}
put_last xs n false e = absurd cc

pub shown_at : (scope : Scope) (kinds : List Kind) (n a : ℕ) → a < n → is_asked scope (kind_at kinds a) ≡ true
    → StandsAt (shown_below scope kinds n) (length (shown_below scope kinds a)) a
shown_at scope kinds zero a lt e = absurd (omega arith)
shown_at scope kinds (suc n) a lt e = subst (λ (m : ℕ). StandsAt (shown_below scope kinds m) (length (shown_below scope kinds a)) a) more
    (subst (λ (xs : List ℕ). StandsAt xs (length (shown_below scope kinds a)) a) (sym (filter_range_more f n))
    (there (λ h. shown_at scope kinds n a h e)))
  where
    f : ℕ → Bool
    f i = is_asked scope (kind_at kinds i)

    more : n + 1 ≡ suc n
    more = omega arith

    there : (a < n → StandsAt (shown_below scope kinds n) (length (shown_below scope kinds a)) a)
        → StandsAt (shown_below scope kinds n ++ cond (f n) (n ∷ []) []) (length (shown_below scope kinds a)) a
    there before = elim (cases_eq a n) [
      | inl same ↦
          subst (λ (i : ℕ). StandsAt (shown_below scope kinds n ++ cond (f n) (n ∷ []) []) (length (shown_below scope kinds i)) i) (sym same)
          (put_last (shown_below scope kinds n) n (f n) (ap f (sym same) ∙ e))
      | inr other ↦ appended (shown_below scope kinds n) (cond (f n) (n ∷ []) []) (length (shown_below scope kinds a)) a (before (omega arith))
    ]

pub place_at : (scope : Scope) (kinds : List Kind) (a : ℕ) → a < length kinds
    → slice_index (places_of scope kinds) a ≡ length (shown_below scope kinds a)
place_at scope kinds a lt =
    let z : 0 + a ≡ a = omega arith in
    get_or-map-range_with_len (λ i. length (shown_below scope kinds i)) 0 (length kinds) a a 0 lt z

-- an atom that is asked stands at its place
pub placed_at : (scope : Scope) (kinds : List Kind) (a : ℕ) → a < length kinds → is_asked scope (kind_at kinds a) ≡ true
    → StandsAt (shown_below scope kinds (length kinds)) (slice_index (places_of scope kinds) a) a
placed_at scope kinds a lt shown =
    subst (λ (i : ℕ). StandsAt (shown_below scope kinds (length kinds)) i a) (sym (place_at scope kinds a lt))
    (shown_at scope kinds (length kinds) a lt shown)

-- as many nodes are kept as atoms are asked
pub asked_count : (scope : Scope) (views : List (Option ℕ)) (kinds : List Kind)
    → length (asked_nodes scope views kinds) ≡ length (shown_below scope kinds (length kinds))
asked_count scope views kinds = length-map (shown_below scope kinds (length kinds)) (view_of views)

-- the node that is kept at a place is the one that tells of the atom there
pub asked_node : (scope : Scope) (views : List (Option ℕ)) (kinds : List Kind) (p : ℕ) → p < length (shown_below scope kinds (length kinds))
    → get_or (asked_nodes scope views kinds) p 0 ≡ view_of views (asked_at scope kinds p)
asked_node scope views kinds p lt = get_or-map (view_of views) (shown_below scope kinds (length kinds)) p 0 0 lt

-- no more atoms are asked than there are
pub few_shown : (scope : Scope) (kinds : List Kind) (n : ℕ) → length (shown_below scope kinds n) ≤ n
few_shown scope kinds zero = omega arith
few_shown scope kinds (suc n) =
    let f = λ (a : ℕ). is_asked scope (kind_at kinds a) in
    let more : n + 1 ≡ suc n = omega arith in
    let one = one_at_most (f n) in
    let rest = few_shown scope kinds n in
    let size = ap (λ (m : ℕ). length (shown_below scope kinds m)) more in
    let split = ap (λ (xs : List ℕ). length xs) (filter_range_more f n) in
    let both = length-append (shown_below scope kinds n) (cond (f n) (n ∷ []) []) in
    omega arith
  where
    one_at_most : (b : Bool) → length (cond b (n ∷ []) []) ≤ 1
    one_at_most true = omega arith
    one_at_most false = omega arith

-- one atom more
pub asked_more : (scope : Scope) (views : List (Option ℕ)) (kinds : List Kind) (n : ℕ)
    → asked_below scope views kinds (n + 1) ≡ asked_below scope views kinds n ++ cond (is_asked scope (kind_at kinds n)) (view_of views n ∷ []) []
asked_more scope views kinds n =
    let f = λ (a : ℕ). is_asked scope (kind_at kinds a) in
    ap (map (view_of views)) (filter_range_more f n)
    ∙ map-append (view_of views) (shown_below scope kinds n) (cond (f n) (n ∷ []) [])
    ∙ ap (λ (xs : List ℕ). asked_below scope views kinds n ++ xs) (map_if (f n))
  where
    map_if : (b : Bool) → map (view_of views) (cond b (n ∷ []) []) ≡ cond b (view_of views n ∷ []) []
    map_if true = refl
    map_if false = refl
