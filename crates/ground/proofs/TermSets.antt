-- Terms that are different trees, as a set.
use Rattle.std.proofs.Common.{
  ℕ,
  ◌≡◌,
  ◌⊎◌,
  inl,
  inr,
  Bool,
  true,
  false,
  cond,
  ◌||◌,
  List,
  [],
  ◌∷◌,
  ◌++◌,
  map,
  nat_eq,
  eqb-true,
  append_assoc,
  refl,
  sym,
  ap,
  subst,
  ◌∙◌,
}
use Rattle.std.specs.List.{list_any}
use Rattle.std.proofs.lemmas.List.{append-nil}
use Rattle.statement.specs.Tree.{Tree}
use Rattle.statement.specs.Dependence.{IsAmong}
use Rattle.rules_profile.proofs.Facts.{IsAmong-append}
use Rattle.ground_terms.specs.Atoms.{with_numbers}
use Rattle.meaning.specs.InOrder.{AreDistinct}
use Rattle.ground_terms.specs.Keys.{term_at}
use Rattle.meaning.proofs.Facts.{among_map_in}

any_none : (n : ℕ) (xs : List ℕ) → (IsAmong n xs → ⊥) → list_any (nat_eq n) xs ≡ false
any_none n [] h = refl
any_none n (x ∷ xs) h = go (nat_eq n x) refl (any_none n xs (λ a. h (inr a)))
  where
    go : (b : Bool) → nat_eq n x ≡ b → list_any (nat_eq n) xs ≡ false → (b || list_any (nat_eq n) xs) ≡ false
    go true e f = absurd (h (inl (eqb-true n x e)))
    go false e f = f

-- none of the numbers is there yet, so they are added as they come
with_new : (xs ns : List ℕ) → ((n : ℕ) → IsAmong n ns → IsAmong n xs → ⊥) → AreDistinct ns → with_numbers xs ns ≡ xs ++ ns
with_new xs [] apart d = sym (append-nil xs)
with_new xs (n ∷ ns) apart d =
    ap (λ (b : Bool). with_numbers (cond b xs (xs ++ n ∷ [])) ns) (any_none n xs (apart n (inl refl)))
    ∙ with_new (xs ++ n ∷ []) ns (λ m a k. later m a (IsAmong-append m xs (n ∷ []) k)) d.1
    ∙ append_assoc xs (n ∷ []) ns
  where
    later : (m : ℕ) → IsAmong m ns → IsAmong m xs ⊎ IsAmong m (n ∷ []) → ⊥
    later m a (inl k) = apart m (inr a) k
    later m a (inr (inl e)) = d.0 m a (sym e)
    later m a (inr (inr k)) = absurd k

numbers_distinct : (terms : List Tree) (ns : List ℕ) → AreDistinct (map (term_at terms) ns) → AreDistinct ns
numbers_distinct terms [] d = tt
numbers_distinct terms (n ∷ ns) d = (
  (λ m a e. d.0 (term_at terms m) (among_map_in (term_at terms) m ns a) (ap (term_at terms) e)),
  numbers_distinct terms ns d.1,
)

-- the set of numbers of different trees has them in their order
pub set_is : (terms : List Tree) (ns : List ℕ) (ts : List Tree) → map (term_at terms) ns ≡ ts → AreDistinct ts → with_numbers [] ns ≡ ns
set_is terms ns ts e d = with_new [] ns (λ n a k. k) (numbers_distinct terms ns (subst (λ (us : List Tree). AreDistinct us) (sym e) d))
