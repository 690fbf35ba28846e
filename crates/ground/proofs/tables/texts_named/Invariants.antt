use Rattle.std.proofs.Common.{◌≡◌, ◌++◌, drop}
use Rattle.ground_rows.specs.Contexts.{texts_named}
use Rattle.rules.specs.RuleSets.{texts_of}
use Rattle.ground.proofs.tables.texts_named.Given as goal

abbrev pub invariant-loop-one : goal.invariant-loop-one
invariant-loop-one l = texts_of l.texts.items ++ texts_named (drop l.one-index l.named) ≡ texts_named l.fn.named
