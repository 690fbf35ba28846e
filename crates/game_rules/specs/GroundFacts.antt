-- This crate's own: what `run` promises does not rest on it.
-- What each ground has.
use Rattle.std.proofs.Common.{ℕ, ◌≡◌, ◌+◌, ◌<◌, ◌≤◌, ◌^◌, Bool, List, [], ◌∷◌, All, length, get_or, zero, suc, sym, ap, subst, arith}
use Rattle.std.proofs.lemmas.List.{get_or_past}
use Rattle.ground_instances.specs.declared.flat_ground.FlatGround.{FlatGround}
use Rattle.statement.specs.Kept.{Kept}
use Rattle.ground_instances.specs.Grounds.{texts_at}
use Rattle.ground_instances.specs.Fits.{FitTogether, count_all}
use Rattle.statement.specs.Most.{wide_limits}
use Rattle.ground_instances.specs.GroundView.{roles_of, base_of, inputs_of, kinds_of, instances_of}
use Rattle.ground_instances.proofs.Facts.{fit_together}

pub fits : (g : FlatGround) → FitTogether (roles_of g) (base_of g) (inputs_of g) g.starts.items (kinds_of g) (instances_of g)
fits g = fit_together _ _ _ _ _ _ _ g.sound

most_atoms : wide_limits.instances + (wide_limits.base + wide_limits.inputs) ≤ 2 ^ 32
most_atoms = omega arith

most_inputs : wide_limits.inputs ≤ 2 ^ 32
most_inputs = omega arith

at_most : (n m : ℕ) → n ≤ m → m ≤ 2 ^ 32 → n ≤ 2 ^ 32
at_most n m h few = omega arith

pub few_atoms : (g : FlatGround) → length (kinds_of g) ≤ 2 ^ 32
few_atoms g = at_most _ _ (fits g).few_atoms most_atoms

part_below : (lists : List (List (List ℕ))) (r : ℕ) → length (texts_at lists r) ≤ count_all lists
part_below [] r = let e = ap (λ (ts : List (List ℕ)). length ts) (get_or_past [] r [] (omega arith)) in omega arith
part_below (ts ∷ rest) zero = omega arith
part_below (ts ∷ rest) (suc r) = let below = part_below rest r in omega arith

part_few : (ts : List (List ℕ)) (lists : List (List (List ℕ))) → length ts ≤ count_all lists → count_all lists ≤ 2 ^ 32 → length ts ≤ 2 ^ 32
part_few ts lists below few = omega arith

pub few_moves : (g : FlatGround) (r : ℕ) → length (texts_at (inputs_of g) r) ≤ 2 ^ 32
few_moves g r = part_few (texts_at (inputs_of g) r) (inputs_of g) (part_below (inputs_of g) r) (at_most _ _ (fits g).few_inputs most_inputs)

-- an instance that is at no place
abbrev pub blank : Kept
blank = record { alternative = 0; head = 0; body = [] }

-- the head of an instance, and what its body names, are atoms
pub head_within : (g : FlatGround) (place head : ℕ) → place < length (instances_of g)
    → ((d : Kept) → head ≡ (get_or (instances_of g) place d).head) → head < length (kinds_of g)
head_within g place head lt is =
    subst (λ (n : ℕ). n < length (kinds_of g)) (sym (is blank)) ((fits g).kept_within place blank lt).0

pub body_within : (g : FlatGround) (place : ℕ) (ls : List (ℕ × Bool)) → place < length (instances_of g)
    → ((d : Kept) → ls ≡ (get_or (instances_of g) place d).body) → All (λ (l : ℕ × Bool). l.0 < length (kinds_of g)) ls
body_within g place ls lt is =
    subst (λ (ms : List (ℕ × Bool)). All (λ (l : ℕ × Bool). l.0 < length (kinds_of g)) ms) (sym (is blank)) ((fits g).kept_within place blank lt).1
