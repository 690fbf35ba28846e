-- This crate's own: what `run` promises does not rest on it.
-- What an instantiation gives, in numbers and texts.
use Rattle.std.specs.Prelude.{ℕ, ◌≡◌, Bool, List, [], map, slice_index_or, None}
use Rattle.statement.specs.Tree.{text}
use Rattle.statement.specs.Clause.{Alternative}
use Rattle.statement.specs.declared.kind.Kind.{Kind}
use Rattle.statement.specs.Kinds.{kind_of}
use Rattle.statement.specs.declared.width.Width.TheVariants.{Wide}
use Rattle.statement.specs.Limits.{excess_in}
use Rattle.meaning.specs.Listed.{IsWellFormed}
use Rattle.statement.specs.Listing.{listing, role_list, base_list, input_list}
use Rattle.statement.specs.GoalsAndMoves as play
use Rattle.ground_instances.specs.declared.ground.Instance as shown
pub use Rattle.statement.specs.Kept.{Kept, numbered}

-- an instance in memory
abbrev pub shown_kept : shown.Instance → Kept
shown_kept i = record { alternative = i.alternative; head = i.head; body = i.body.items }

-- the texts, marks, kinds and instances are those of the rules, which pass none of the wide limits
pub record IsGroundOf (rules : List Alternative) (roles base : List (List ℕ)) (inputs : List (List (List ℕ))) (starts : List Bool) (kinds : List Kind)
    (kept : List Kept) (dropped : ℕ) : Type 0 where
  pub well_formed : IsWellFormed rules
  pub within : excess_in Wide rules ≡ None
  pub roles_are : roles ≡ map text (role_list rules)
  pub base_are : base ≡ map text (base_list rules)
  pub inputs_are : inputs ≡ map (λ r. map text (input_list rules r)) (role_list rules)
  pub starts_are : starts ≡ map (play.starts rules) (base_list rules)
  pub kinds_are : kinds ≡ map (kind_of rules) (listing rules).atoms
  pub kept_are : kept ≡ map (numbered rules) (listing rules).kept
  pub dropped_is : dropped ≡ play.dropped rules

-- they are those of some rules
abbrev pub IsSomeGround : List (List ℕ) → List (List ℕ) → List (List (List ℕ)) → List Bool → List Kind → List Kept → ℕ → Type 0
IsSomeGround roles base inputs starts kinds kept dropped =
    (rules : List Alternative) × IsGroundOf rules roles base inputs starts kinds kept dropped

abbrev pub text_at : List (List ℕ) → ℕ → List ℕ
text_at texts n = slice_index_or texts n []

abbrev pub texts_at : List (List (List ℕ)) → ℕ → List (List ℕ)
texts_at lists n = slice_index_or lists n []
