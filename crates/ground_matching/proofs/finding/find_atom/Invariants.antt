use Rattle.std.proofs.Common.{◌≤◌, length, drop}
use Rattle.ground_matching.proofs.FindingLemmas.{IsOnly}
use Rattle.ground_matching.proofs.finding.find_atom.Given as goal

abbrev pub invariant-parts : goal.invariant-parts
invariant-parts l = (l.left ≤ length l.parts) × IsOnly l.terms (drop l.left l.parts) l.stack.items

abbrev pub decreases-parts : goal.decreases-parts
decreases-parts l = l.left
