use Rattle.meaning.proofs.Gates.{gate_right, gate_fixed, gate_numbered}
use Rattle.meaning.proofs.play_laws.gates_read_enough.Goals as goal

pub returns : goal.returns
returns c = record { right = gate_right; fixed = gate_fixed; numbers = gate_numbered }
