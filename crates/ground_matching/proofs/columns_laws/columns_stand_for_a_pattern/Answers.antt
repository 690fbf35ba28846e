use Rattle.std.proofs.Common.{List, ℕ, sym, subst, length}
use Rattle.ground_matching.specs.Places.{columns_for, names_in_places}
use Rattle.ground_matching.specs.Standing.{StandFor}
use Rattle.ground_matching.proofs.ColumnsStand.{names_are, columns_stand, columns_back, columns_bind}
use Rattle.ground_matching.proofs.columns_laws.columns_stand_for_a_pattern.Goals as goal

pub returns : goal.returns
returns c = record {
  stand = λ d from terms h w ps s places later b. subst
      (λ (ns : List (List ℕ)). StandFor terms (names_in_places d.words later) (length places) (columns_for d from ps places) ns)
      (sym (names_are d from ps)) (columns_stand d from terms h ps s places later b);
  back = columns_back;
  bind = columns_bind;
}
