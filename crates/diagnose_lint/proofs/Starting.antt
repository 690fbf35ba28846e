-- What stands in lists of legal moves.
use Rattle.std.proofs.Common.{zero, false, ◌≡◌, List, [], ◌∷◌, refl, sym, subst, Option, None, Some}
use Rattle.std.specs.Prelude.{slice_get, is_some}
use Rattle.std.specs.List.{All}
use Rattle.statement.specs.Clause.{Alternative}
use Rattle.statement.specs.NamedRules.{NamedRules}
use Rattle.statement.specs.GameOfRules.{IsGameOf}
use Rattle.ground_instances.specs.declared.flat_ground.FlatGround.{FlatGround}
use Rattle.ground_instances.specs.GroundView.{IsGround}
use Rattle.game_rules.specs.RuleState.{named_rules_of}
use Rattle.game_rules.proofs.Facts.{game_of_ground}
use Rattle.diagnose_lint.specs.declared.opening_finding.Opening.{Opening}
use Rattle.diagnose_lint.specs.Openings.{IsTrueOpening, AreOpenings}

-- a list without a first element is empty
pub none_first : {A : Type 0} (xs : List A) (r : Option A) → r ≡ slice_get xs zero → is_some r ≡ false → xs ≡ []
none_first [] r e h = refl
none_first (x ∷ xs) None e h = absurd cc
none_first (x ∷ xs) (Some y) e h = absurd cc

-- what is true of the game of an instantiation is true of the rules
pub openings_are : (ground : FlatGround) (g : NamedRules) → g ≡ named_rules_of ground → (found : List Opening)
    → All (IsTrueOpening g.rules) found → (rules : List Alternative) → IsGround rules ground → AreOpenings rules found
openings_are ground g e found all rules is = (g, subst (λ (h : NamedRules). IsGameOf rules h) (sym e) (game_of_ground rules ground is), all)
