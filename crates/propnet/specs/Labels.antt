-- This crate's own: what `run` promises does not rest on it.
-- The name of a node as one number: eight times the number in it, and below that a tag of its kind. An input has the number of its
-- role times 1,048,576, and its own below it.
use Rattle.std.specs.Prelude.{ℕ, zero, suc, ◌≡◌, ◌<◌, ◌+◌, ◌*◌, ◌/◌, ◌%◌, refl}
use Rattle.std.proofs.Common.{ap, sym, ◌∙◌}
use Rattle.std.proofs.lemmas.Nat.{div-add-mod'}
use Rattle.std.proofs.Math.Nat.{add-zero, le_of_suc-le-suc, not-suc-le-zero}
use Rattle.statement.specs.declared.node_name.Name.{Name}
use Rattle.statement.specs.declared.node_name.Name.TheVariants.{Base, Input, Not, And, View, Transition}

-- what labels hold: numbers below 536,870,912, and inputs of numbers below 1,048,576 of roles below 512
abbrev pub IsLabelled : Name → Type 0
IsLabelled (Base p) = p < 536870912
IsLabelled (Input r m) = (r < 512) × (m < 1048576)
IsLabelled (Not a) = a < 536870912
IsLabelled (And i) = i < 536870912
IsLabelled (View a) = a < 536870912
IsLabelled (Transition p) = p < 536870912

abbrev pub name_by_tag : ℕ → ℕ → Name
name_by_tag zero number = Base number
name_by_tag (suc zero) number = Input (number / 1048576) (number % 1048576)
name_by_tag (suc (suc zero)) number = Not number
name_by_tag (suc (suc (suc zero))) number = And number
name_by_tag (suc (suc (suc (suc zero)))) number = View number
name_by_tag (suc (suc (suc (suc (suc tag))))) number = Transition number

abbrev pub name_of_code : ℕ → Name
name_of_code code = name_by_tag (code % 8) (code / 8)

abbrev pub code_of_name : Name → ℕ
code_of_name (Base p) = p * 8
code_of_name (Input r m) = (r * 1048576 + m) * 8 + 1
code_of_name (Not a) = a * 8 + 2
code_of_name (And i) = i * 8 + 3
code_of_name (View a) = a * 8 + 4
code_of_name (Transition p) = p * 8 + 5

code_by_tag : (tag number : ℕ) → tag < 6 → code_of_name (name_by_tag tag number) ≡ number * 8 + tag
code_by_tag zero number h = sym (add-zero (number * 8))
code_by_tag (suc zero) number h = ap (λ (n : ℕ). n * 8 + 1) (div-add-mod' number 1048576)
code_by_tag (suc (suc zero)) number h = refl
code_by_tag (suc (suc (suc zero))) number h = refl
code_by_tag (suc (suc (suc (suc zero)))) number h = refl
code_by_tag (suc (suc (suc (suc (suc zero))))) number h = refl
code_by_tag (suc (suc (suc (suc (suc (suc tag)))))) number h =
    absurd (not-suc-le-zero (le_of_suc-le-suc (le_of_suc-le-suc (le_of_suc-le-suc (le_of_suc-le-suc (le_of_suc-le-suc (le_of_suc-le-suc h)))))))

-- the code of what a code stands for
pub code_of_name-back : (code : ℕ) → code % 8 < 6 → code_of_name (name_of_code code) ≡ code
code_of_name-back code h = code_by_tag (code % 8) (code / 8) h ∙ div-add-mod' code 8
