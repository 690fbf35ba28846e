use Rattle.std.proofs.Common.{arith}
use Rattle.test_games.proofs.TableStates.{zeros}
use Rattle.test_games.proofs.table.TableGame.new_wide.Goals as goal

pub returns : goal.returns
returns c = record { few = omega arith; within = λ k lt. zeros 64 k }
