use Rattle.std.proofs.Common.{◌≡◌}
use Rattle.propnet_tape.specs.Translating.{IsTranslated}
use Rattle.propnet_tape.proofs.translating.translate.Given as goal

abbrev pub invariant-loop-n : goal.invariant-loop-n
invariant-loop-n l = record {
  translated : IsTranslated l.net l.marks l.sources.words.items l.n l.builder l.literals.items;
  groups : l.builder.groups.items ≡ l.fn.builder.groups.items;
}
