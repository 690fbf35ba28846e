use Rattle.std.proofs.Common.{◌≡◌, ◌+◌, take}
use Rattle.std.specs.Prelude.{sum}
use Rattle.propnet_tape.specs.Grouping.{AreGroups}
use Rattle.propnet_tape.proofs.groups.groups_of.Given as goal

-- the groups of the roles before this one
abbrev pub invariant-loop-role : goal.invariant-loop-role
invariant-loop-role l = record {
  first : l.first ≡ l.net.base + sum (take l.role l.net.inputs.items);
  groups : AreGroups l.net l.sources.words.items l.groups.items;
}
