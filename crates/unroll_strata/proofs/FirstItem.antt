-- The first of some items is the first of their trees.
use Rattle.std.proofs.Common.{ℕ, ◌-◌, ◌<◌, List, [], ◌∷◌, length, map, sym, subst, arith, Option, Some, None}
use Rattle.std.proofs.lemmas.List.{length-map, get_or-map}
use Rattle.rules.specs.ItemLinks.{IsFirstSuch}

element : {X : Type 0} (xs : List X) (k : ℕ) → k < length xs → X
element [] k h = absurd (omega (arith, h))
element (x ∷ xs) k h = x

module _ {X Y : Type 0} (f : X → Y) (P : Y → Type 0) where
  pub first_of_map : (xs : List X) (found : Option ℕ) → IsFirstSuch (λ x. P (f x)) xs found → IsFirstSuch P (map f xs) found
  first_of_map xs None h = λ k t g r.
      let e = length-map xs f in
      let within : k < length xs = omega (arith, e, g) in
      let d : X = element xs k within in
      h k d within (subst P (get_or-map f xs k d t within) r)
  first_of_map xs (Some i) h =
      let e = length-map xs f in
      let a = h.counted in
      let b = h.inside in
      record {
        counted = h.counted;
        inside = omega (arith, b, e);
        has = λ t.
            let within : i - 1 < length xs = omega (arith, a, b) in
            let d : X = element xs (i - 1) within in
            subst P (sym (get_or-map f xs (i - 1) d t within)) (h.has d);
        before = λ k t low g r.
            let within : k < length xs = omega (arith, a, b, g) in
            let d : X = element xs k within in
            h.before k d low g (subst P (get_or-map f xs k d t within) r);
      }
