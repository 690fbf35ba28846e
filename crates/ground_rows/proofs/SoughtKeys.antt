-- How the hash of a key changes with one of its numbers.
use Rattle.std.proofs.Common.{ℕ, zero, suc, ◌≡◌, ◌<◌, ◌+◌, ◌*◌, ◌%◌, ◌^◌, List, [], ◌∷◌, length, sym, ◌∙◌, ap, arith}
use Rattle.std.specs.Prelude.{slice_index, slice_set}
use Rattle.std.proofs.Math.Nat.{add-mod-mod, mod-add-mod, pow-succ'}
use Rattle.std.proofs.lemmas.Nat.{mul-mod_first, mul-mod_second}
use Rattle.util_interner.specs.Hashes.{mixed}
use Rattle.util_interner.specs.KeyTables.{key_hash}
use Rattle.ground_rows.specs.Sought.{Weighs}

-- numbers of a hash are told apart below this one
abbrev pub full : ℕ
full = 2 ^ 64

-- by which a hash grows with each number
abbrev pub factor : ℕ
factor = 11400714819323198485

-- what is more before a number is mixed in is so much more behind it
more_mixed : (m f hash x d : ℕ) → (hash + x + d) % m * f % m ≡ ((hash + x) % m * f % m + d * f) % m
more_mixed m f hash x d =
    let parts : ((hash + x) % m + d) * f ≡ (hash + x) % m * f + d * f = omega arith in
    ap (λ (n : ℕ). n * f % m) (sym (mod-add-mod (hash + x) m d))
    ∙ mul-mod_first ((hash + x) % m + d) f m
    ∙ ap (λ (n : ℕ). n % m) parts
    ∙ sym (mod-add-mod ((hash + x) % m * f) m (d * f))

mixed_more : (m f hash x d : ℕ) → ((hash + d) % m + x) % m * f % m ≡ ((hash + x) % m * f % m + d * f) % m
mixed_more m f hash x d =
    let same : hash + d + x ≡ hash + x + d = omega arith in
    ap (λ (n : ℕ). n * f % m) (mod-add-mod (hash + d) m x ∙ ap (λ (n : ℕ). n % m) same) ∙ more_mixed m f hash x d

-- a number mixed in that is more is so much more behind it
mixed_other : (m f hash x v d : ℕ) → v % m ≡ (x + d) % m → (hash + v) % m * f % m ≡ ((hash + x) % m * f % m + d * f) % m
mixed_other m f hash x v d e =
    let same : hash + (x + d) ≡ hash + x + d = omega arith in
    ap (λ (n : ℕ). n * f % m)
    (sym (add-mod-mod hash v m) ∙ ap (λ (n : ℕ). (hash + n) % m) e ∙ add-mod-mod hash (x + d) m ∙ ap (λ (n : ℕ). n % m) same)
    ∙ more_mixed m f hash x d

power_more : (f d n : ℕ) → d * f * f ^ n ≡ d * f ^ suc n
power_more f d n = let next = pow-succ' f n in let group : d * f * f ^ n ≡ d * (f * f ^ n) = omega arith in group ∙ ap (λ (k : ℕ). d * k) (sym next)

-- what is more before a key is so many weights more behind it
hash_more : (xs : List ℕ) (hash d : ℕ) → key_hash ((hash + d) % full) xs ≡ (key_hash hash xs + d * factor ^ length xs) % full
hash_more [] hash d = let one : d ≡ d * 1 = omega arith in ap (λ (n : ℕ). (hash + n) % full) one
hash_more (x ∷ xs) hash d =
    ap (λ (h : ℕ). key_hash h xs) (mixed_more full factor hash x d)
    ∙ hash_more xs (mixed hash x) (d * factor)
    ∙ ap (λ (n : ℕ). (key_hash (mixed hash x) xs + n) % full) (power_more factor d (length xs))

reduced : (m k d w : ℕ) → (k + d * w) % m ≡ (k + d * (w % m)) % m
reduced m k d w =
    sym (add-mod-mod k (d * w) m) ∙ ap (λ (n : ℕ). (k + n) % m) (sym (mul-mod_second d w m)) ∙ add-mod-mod k (d * (w % m)) m

-- one number of a key changes
changed : (at : ℕ) (key : List ℕ) (many hash v more : ℕ) → length key ≡ at + many → 0 < many
    → v % full ≡ (slice_index key at + more) % full → key_hash hash (slice_set key at v) ≡ (key_hash hash key + more * (factor ^ many % full)) % full
changed zero [] many hash v more long some e = absurd (let bad : ⊥ = omega (arith, long, some) in bad)
changed zero (x ∷ xs) many hash v more long some e =
    let size : suc (length xs) ≡ many = omega (arith, long) in
    ap (λ (h : ℕ). key_hash h xs) (mixed_other full factor hash x v more e)
    ∙ hash_more xs (mixed hash x) (more * factor)
    ∙ ap (λ (n : ℕ). (key_hash (mixed hash x) xs + n) % full)
    (power_more factor more (length xs) ∙ ap (λ (n : ℕ). more * factor ^ n) size)
    ∙ reduced full (key_hash (mixed hash x) xs) more (factor ^ many)
changed (suc at) [] many hash v more long some e = absurd (let bad : ⊥ = omega (arith, long) in bad)
changed (suc at) (x ∷ xs) many hash v more long some e =
    let size : length xs ≡ at + many = omega (arith, long) in changed at xs many (mixed hash x) v more size some e

pub weighs : (at many : ℕ) → 0 < many → Weighs (at + many) at (factor ^ many % full)
weighs at many some key v more long e = changed at key many 0 v more long some e
