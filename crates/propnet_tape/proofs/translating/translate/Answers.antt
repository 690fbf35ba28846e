use Rattle.std.proofs.Common.{refl, ◌∙◌}
use Rattle.propnet_tape.proofs.Meaning.{translated_first, translated_more, are_kept}
use Rattle.propnet_tape.proofs.translating.translate.Goals as goal

pub loop-n-init : goal.loop-n-init
loop-n-init c = record {
  translated = translated_first c.args.net.now c.args.marks.now c.args.sources.now.words.items c.args.builder.now c.in_ok-literals.literals.items
      c.requires.built c.requires.first c.in_ok-literals.ensures.items;
  groups = refl;
}

pub literal_for-requires-clause-so_far : goal.literal_for-requires-clause-so_far
literal_for-requires-clause-so_far c = rw c.deref.ensures.value c.loop-n.invariant.translated

pub loop-n-preserved : goal.loop-n-preserved
loop-n-preserved c = record {
  translated = translated_more c.args.net.now c.args.marks.now c.args.sources.now.words.items c.loop-n.n c.loop-n.builder c.literal_for.new.builder
      c.loop-n.literals.items c.push.new.self.items
      c.in_ok-literal.literal c.loop-n.invariant.translated c.literal_for.ensures.step c.in_ok-push.ensures.items c.in_ok-literal.ensures.value;
  groups = c.literal_for.ensures.step.groups ∙ c.loop-n.invariant.groups;
}

pub returns-clause-kept : goal.returns-clause-kept
returns-clause-kept c = are_kept c.args.net.now c.args.marks.now c.args.sources.now.words.items c.loop-n.n c.nodes-n-end.result c.loop-n.builder
    c.loop-n.literals.items c.args.kept.now
    c.loop-n.invariant.translated c.nodes-n-end.ensures c.loop-n.auto.n-end c.loop-n-test.false c.requires.marked c.requires.kept
