-- What relations mean, by number.
use Rattle.std.proofs.Common.{ℕ, ◌≡◌, ◌+◌, ◌<◌, ◌⊎◌, inl, inr, Bool, false, List, [], ◌∷◌, ◌++◌, length, sym, ◌∙◌, ap, arith, get_or, length-append}
use Rattle.std.specs.Prelude.{slice_index_or}
use Rattle.statement.specs.Clause as said
use Rattle.rules.specs.declared.item_links.Bound.{Bound}
use Rattle.rules.specs.declared.item_links.Bound.TheVariants.{Free}
use Rattle.rules.specs.ItemLinks.{bound_of}
use Rattle.rules_clauses.specs.Store.{Data, relation_at}
use Rattle.rules_clauses.proofs.Facts.{last_or_before}

-- the tests of the first relations
pub record Tested (d : Data) (test : said.Relation → Bool) (tests : List Bool) (n : ℕ) : Type 0 where
  pub long : length tests ≡ n
  pub each : (i : ℕ) → i < n → slice_index_or tests i false ≡ test (relation_at d i)

pub record Bounded (d : Data) (bounds : List Bound) (n : ℕ) : Type 0 where
  pub long : length bounds ≡ n
  pub each : (i : ℕ) → i < n → slice_index_or bounds i Free ≡ bound_of (relation_at d i)

more : {A : Type 0} (xs new : List A) (x d : A) (f : ℕ → A) (n : ℕ) → length xs ≡ n → ((i : ℕ) → i < n → slice_index_or xs i d ≡ f i)
    → new ≡ xs ++ x ∷ [] → x ≡ f n
    → (length new ≡ n + 1) × ((i : ℕ) → i < n + 1 → slice_index_or new i d ≡ f i)
more {A} xs new x d f n long each e same =
    let l : length (xs ++ x ∷ []) ≡ length xs + 1 = length-append xs (x ∷ []) in (
      ap length e ∙ l ∙ ap (λ (k : ℕ). k + 1) long,
      λ i h. ap (λ (us : List A). slice_index_or us i d) e ∙ go i (last_or_before xs x d i (omega (arith, h, l, long))),
    )
  where
    go : (i : ℕ) → ((i < length xs) × (get_or (xs ++ x ∷ []) i d ≡ get_or xs i d)) ⊎ ((i ≡ length xs) × (get_or (xs ++ x ∷ []) i d ≡ x))
        → slice_index_or (xs ++ x ∷ []) i d ≡ f i
    go i (inl p) = p.1 ∙ each i (let q = p.0 in omega (arith, q, long))
    go i (inr p) = p.1 ∙ same ∙ ap f (sym (p.0 ∙ long))

pub tested_more : (d : Data) (test : said.Relation → Bool) (tests new : List Bool) (b : Bool) (n : ℕ) → Tested d test tests n → new ≡ tests ++ b ∷ []
    → b ≡ test (relation_at d n) → Tested d test new (n + 1)
tested_more d test tests new b n t e same =
    let m = more tests new b false (λ i. test (relation_at d i)) n t.long t.each e same in record { long = m.0; each = m.1 }

pub bounded_more : (d : Data) (bounds new : List Bound) (b : Bound) (n : ℕ) → Bounded d bounds n → new ≡ bounds ++ b ∷ []
    → b ≡ bound_of (relation_at d n) → Bounded d new (n + 1)
bounded_more d bounds new b n t e same =
    let m = more bounds new b Free (λ i. bound_of (relation_at d i)) n t.long t.each e same in record { long = m.0; each = m.1 }
