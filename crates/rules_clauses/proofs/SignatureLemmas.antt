-- Relations by number: adding one.
use Rattle.std.proofs.Common.{ℕ, suc, zero, ◌≡◌, ◌<◌, ◌⊎◌, inl, inr, Bool, true, false, cond, List, [], ◌∷◌, ◌++◌, length, refl, sym, ap, subst}
use Rattle.std.proofs.Common.{arith, eqb-true, eq-eqb, map, ◌&&◌, ◌==◌, ◌∙◌}
use Rattle.std.proofs.Common.{Option, Some, None, ◌≢◌}
use Rattle.std.specs.Prelude.{slice_index, MatchOption}
use Rattle.util_interner.specs.KeyLists.{key_at}
use Rattle.std.proofs.lemmas.List.{append-nil, length-map, map-append}
use Rattle.rules_clauses.specs.declared.signatures.Signature.{Signature}
use Rattle.rules_clauses.specs.Numbers.{BeginsWith}
use Rattle.rules_clauses.specs.Adding.{AreDifferentSignatures}
use Rattle.rules_clauses.proofs.NumberLemmas.{more_different, true_or_false, last_or_before, or_none}
use Rattle.rules_profile.proofs.Facts.{or_left, or_right}
use Rattle.rules_clauses.specs.Signatures.{signature_eq, signature_key, no_signature, signature_at, is_signature_in, with_signature}

-- a relation by its two numbers
pub same_signature : (s t : Signature) → signature_key s ≡ signature_key t → s ≡ t
same_signature s t e = λ i. record { word = slice_index (e i) 0; arity = slice_index (e i) 1 }

pub key_is : (ss : List Signature) (k : ℕ) → k < length ss → key_at (map signature_key ss) k ≡ signature_key (signature_at ss k)
key_is [] k h = absurd (let bad : ⊥ = omega (arith, h) in bad)
key_is (s ∷ ss) zero h = refl
key_is (s ∷ ss) (suc k) h = key_is ss k (omega (arith, h))

other_signature : (s t : Signature) → (t ≡ s → ⊥) → signature_eq s t ≡ false
other_signature s t other = go (s.word == t.word) (s.arity == t.arity) refl refl
  where
    go : (a b : Bool) → (s.word == t.word) ≡ a → (s.arity == t.arity) ≡ b → (a && b) ≡ false
    go true true e f = absurd (other (λ i. record { word = sym (eqb-true s.word t.word e) i; arity = sym (eqb-true s.arity t.arity f) i }))
    go true false e f = refl
    go false b e f = refl

not_in : (ss : List Signature) (s : Signature) → ((k : ℕ) → k < length ss → signature_at ss k ≡ s → ⊥) → is_signature_in s ss ≡ false
not_in [] s none = refl
not_in (t ∷ ts) s none =
    or_none (signature_eq s t) (is_signature_in s ts) (other_signature s t (none 0 (omega arith))) (not_in ts s (λ k h e. none (suc k) (omega (arith, h)) e))

signature_eq-self : (s : Signature) → signature_eq s s ≡ true
signature_eq-self s = cc (eq-eqb s.word s.word refl, eq-eqb s.arity s.arity refl)

signature_in : (s : Signature) (ss : List Signature) (k : ℕ) → k < length ss → signature_at ss k ≡ s → is_signature_in s ss ≡ true
signature_in s [] k h e = absurd (let bad : ⊥ = omega (arith, h) in bad)
signature_in s (t ∷ ts) zero h e =
    or_left (signature_eq s t) (is_signature_in s ts) (subst (λ (u : Signature). signature_eq s u ≡ true) (sym e) (signature_eq-self s))
signature_in s (t ∷ ts) (suc k) h e = or_right (signature_eq s t) (is_signature_in s ts) (signature_in s ts k (omega (arith, h)) e)

-- what a search for a key has told of relations
pub found_signature : (keys : List (List ℕ)) (ss : List Signature) (s : Signature) (key : List ℕ) (r : Option ℕ) → keys ≡ map signature_key ss
    → key ≡ signature_key s
    → MatchOption r ((k : ℕ) → k < length keys → key_at keys k ≢ key) (λ k. (k < length keys) × (key_at keys k ≡ key))
    → MatchOption r ((k : ℕ) → k < length ss → signature_at ss k ≢ s) (λ k. (k < length ss) × (signature_at ss k ≡ s))
found_signature keys ss s key r e f h = go r h
  where
    long : length keys ≡ length ss
    long = ap length e ∙ length-map ss signature_key

    at : (k : ℕ) → k < length ss → key_at keys k ≡ signature_key (signature_at ss k)
    at k inside = ap (λ (l : List (List ℕ)). key_at l k) e ∙ key_is ss k inside

    go : (o : Option ℕ) → MatchOption o ((k : ℕ) → k < length keys → key_at keys k ≢ key) (λ k. (k < length keys) × (key_at keys k ≡ key))
        → MatchOption o ((k : ℕ) → k < length ss → signature_at ss k ≢ s) (λ k. (k < length ss) × (signature_at ss k ≡ s))
    go None none = λ k inside same. none k (omega (arith, inside, long)) (at k inside ∙ ap signature_key same ∙ sym f)
    go (Some k) there =
        let a = there.0 in let inside : k < length ss = omega (arith, a, long) in
        (inside, same_signature (signature_at ss k) s (sym (at k inside) ∙ there.1 ∙ f))

-- the keys once one more relation is known
pub more_keys : (keys new : List (List ℕ)) (ss : List Signature) (s : Signature) (key : List ℕ) → keys ≡ map signature_key ss → key ≡ signature_key s
    → new ≡ keys ++ key ∷ [] → new ≡ map signature_key (ss ++ s ∷ [])
more_keys keys new ss s key e f g = g ∙ (λ i. e i ++ f i ∷ []) ∙ sym (map-append signature_key ss (s ∷ []))

-- the relations once one that is there, or one that is not, was numbered
pub with_known : (ss : List Signature) (s : Signature) (k : ℕ) → k < length ss → signature_at ss k ≡ s → ss ≡ with_signature ss s
with_known ss s k h e = ap (λ (b : Bool). cond b ss (ss ++ s ∷ [])) (sym (signature_in s ss k h e))

pub with_next : (ss new : List Signature) (s : Signature) → ((k : ℕ) → k < length ss → signature_at ss k ≡ s → ⊥) → new ≡ ss ++ s ∷ []
    → new ≡ with_signature ss s
with_next ss new s none e = e ∙ ap (λ (b : Bool). cond b ss (ss ++ s ∷ [])) (sym (not_in ss s none))

last_signature : (ss : List Signature) (s : Signature) → (length ss < length (ss ++ s ∷ [])) × (signature_at (ss ++ s ∷ []) (length ss) ≡ s)
last_signature [] s = (omega arith, refl)
last_signature (t ∷ ts) s = (let h = (last_signature ts s).0 in omega (arith, h), (last_signature ts s).1)

pub with_new : (ss new : List Signature) (s : Signature) (n : ℕ) → new ≡ ss ++ s ∷ [] → n ≡ length ss → (n < length new) × (signature_at new n ≡ s)
with_new ss new s n e f =
    subst (λ (ts : List Signature). (n < length ts) × (signature_at ts n ≡ s)) (sym e)
    (subst (λ (k : ℕ). (k < length (ss ++ s ∷ [])) × (signature_at (ss ++ s ∷ []) k ≡ s)) (sym f) (last_signature ss s))

pub with_signature-Begins : (ss : List Signature) (s : Signature) → BeginsWith ss (with_signature ss s)
with_signature-Begins ss s = go (is_signature_in s ss)
  where
    go : (b : Bool) → BeginsWith ss (cond b ss (ss ++ s ∷ []))
    go true = ([], sym (append-nil ss))
    go false = (s ∷ [], refl)

pub with_signature-AreDifferent : (ss : List Signature) (s : Signature) → AreDifferentSignatures ss → AreDifferentSignatures (with_signature ss s)
with_signature-AreDifferent ss s old = go (is_signature_in s ss) refl
  where
    go : (b : Bool) → is_signature_in s ss ≡ b → AreDifferentSignatures (cond b ss (ss ++ s ∷ []))
    go true e = old
    go false e = more_different ss s no_signature (λ k h same. true_or_false (is_signature_in s ss) (signature_in s ss k h same) e) old

pub with_signature-named : (ss : List Signature) (s : Signature) (many : ℕ) → s.word < many
    → ((r : ℕ) → r < length ss → (signature_at ss r).word < many)
    → (r : ℕ) → r < length (with_signature ss s) → (signature_at (with_signature ss s) r).word < many
with_signature-named ss s many there old = go (is_signature_in s ss)
  where
    at : (r : ℕ) → ((r < length ss) × (signature_at (ss ++ s ∷ []) r ≡ signature_at ss r)) ⊎ ((r ≡ length ss) × (signature_at (ss ++ s ∷ []) r ≡ s))
        → (signature_at (ss ++ s ∷ []) r).word < many
    at r (inl e) = subst (λ (g : Signature). g.word < many) (sym e.1) (old r e.0)
    at r (inr e) = subst (λ (g : Signature). g.word < many) (sym e.1) there

    go : (b : Bool) → (r : ℕ) → r < length (cond b ss (ss ++ s ∷ [])) → (signature_at (cond b ss (ss ++ s ∷ [])) r).word < many
    go true r h = old r h
    go false r h = at r (last_or_before ss s no_signature r h)
