use Rattle.std.proofs.Common.{◌≡◌, take, map}
use Rattle.std.specs.Prelude.{slice_index}
use Rattle.game_rules.specs.declared.standing.Standing.{Standing}
use Rattle.position.proofs.net_planning.list_ends.Given as goal

-- the places of the atoms before this one are listed
abbrev pub invariant-loop-place : goal.invariant-loop-place
invariant-loop-place l = l.list.items ≡ map (λ (p : Standing). slice_index l.places p.atom) (take l.place l.atoms.items)
