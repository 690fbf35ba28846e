use Rattle.std.proofs.Common.{◌∙◌, sym, refl}
use Rattle.propnet.specs.NetView.{gate_with}
use Rattle.propnet_tape.proofs.Facts.{nor_literal}
use Rattle.propnet_tape.proofs.Meaning.{meant_source, meant_all, meant_none, meant_or, terms_within, queue_within, reads_below}
use Rattle.propnet_tape.proofs.Facts.{ok_then}
use Rattle.propnet_tape.specs.Terms.{terms_there}
use Rattle.propnet_tape.proofs.translating.literal_for.Goals as goal

pub returns-then-is_source-clause-value : goal.returns-then-is_source-clause-value
returns-then-is_source-clause-value c = λ on.
    meant_source c.args.net.now c.args.marks.now c.args.sources.now.words.items c.args.sources.now.literals.items c.args.n
    (gate_with c.gate-name.result.0 c.gate-name.result.1.now)
    c.args.builder.now c.args.literals.now _ c.gate-name.ensures c.requires.node (sym c.is_source.ensures ∙ c.if-is_source.true)
    c.if-not-marks-n.false
    c.requires.sources c.requires.so_far c.index.ensures

pub add_terms-requires-clause-within : goal.add_terms-requires-clause-within
add_terms-requires-clause-within c = reads_below c.args.net.now c.args.n (gate_with c.gate-name.result.0 c.gate-name.result.1.now) c.args.literals.now
    c.args.literals.now
    c.gate-name.ensures refl c.requires.so_far.count

pub any_of_all-requires-clause-terms : goal.any_of_all-requires-clause-terms
any_of_all-requires-clause-terms c =
    terms_within c.args.net.now c.args.marks.now c.args.sources.now.words.items c.args.n (gate_with c.gate-name.result.0 c.gate-name.result.1.now)
    c.args.builder.now
    c.args.literals.now (terms_there c.add_terms.new.terms)
    c.gate-name.ensures c.requires.node (sym c.is_or.ensures ∙ c.if-is_or.true) c.requires.closed c.if-not-marks-n.false c.requires.so_far
    c.in_ok-add_terms.ensures.terms

pub returns-then-is_or-clause-value : goal.returns-then-is_or-clause-value
returns-then-is_or-clause-value c = ok_then c.any_of_all.result _ _
    (λ l h on.
    meant_or c.args.net.now c.args.marks.now c.args.sources.now.words.items c.args.n (gate_with c.gate-name.result.0 c.gate-name.result.1.now)
    c.args.builder.now
    c.args.literals.now (terms_there c.add_terms.new.terms)
    c.gate-name.ensures c.requires.node (sym c.is_or.ensures ∙ c.if-is_or.true) c.requires.closed c.if-not-marks-n.false c.requires.so_far
    c.in_ok-add_terms.ensures.terms
    c.any_of_all.new.self l c.any_of_all.ensures.step h)
    c.any_of_all.ensures.value

pub gather-requires : goal.gather-requires
gather-requires c = reads_below c.args.net.now c.args.n (gate_with c.gate-name.result.0 c.gate-name.result.1.now) c.args.literals.now
    c.args.literals.now
    c.gate-name.ensures refl c.requires.so_far.count

pub all-requires-clause-literals : goal.all-requires-clause-literals
all-requires-clause-literals c =
    queue_within c.args.net.now c.args.marks.now c.args.sources.now.words.items c.args.n (gate_with c.gate-name.result.0 c.gate-name.result.1.now)
    c.args.builder.now
    c.args.literals.now c.gather.new.queue.items
    c.gate-name.ensures (sym c.is_or.ensures ∙ c.if-is_or.false) c.requires.closed c.if-not-marks-n.false c.requires.so_far c.in_ok-gather.ensures

pub any-requires-clause-literals : goal.any-requires-clause-literals
any-requires-clause-literals c =
    queue_within c.args.net.now c.args.marks.now c.args.sources.now.words.items c.args.n (gate_with c.gate-name.result.0 c.gate-name.result.1.now)
    c.args.builder.now
    c.args.literals.now c.gather.new.queue.items
    c.gate-name.ensures (sym c.is_or.ensures ∙ c.if-is_or.false) c.requires.closed c.if-not-marks-n.false c.requires.so_far c.in_ok-gather.ensures

pub returns-then-is_and-clause-value : goal.returns-then-is_and-clause-value
returns-then-is_and-clause-value c = ok_then c.all.result _ _
    (λ l h on.
    meant_all c.args.net.now c.args.marks.now c.args.sources.now.words.items c.args.n (gate_with c.gate-name.result.0 c.gate-name.result.1.now)
    c.args.builder.now
    c.args.literals.now c.gather.new.queue.items
    c.gate-name.ensures (sym c.is_or.ensures ∙ c.if-is_or.false) c.requires.closed c.if-not-marks-n.false c.requires.so_far c.in_ok-gather.ensures
    c.all.new.self l c.all.ensures.step (sym c.is_and.ensures ∙ c.if-is_and.true) h)
    c.all.ensures.value

pub returns-clause-value : goal.returns-clause-value
returns-clause-value c = λ on.
    meant_none c.args.net.now c.args.marks.now c.args.sources.now.words.items c.args.n (gate_with c.gate-name.result.0 c.gate-name.result.1.now)
    c.args.builder.now
    c.args.literals.now c.gather.new.queue.items
    c.gate-name.ensures (sym c.is_or.ensures ∙ c.if-is_or.false) c.requires.closed c.if-not-marks-n.false c.requires.so_far c.in_ok-gather.ensures
    c.any.new.self c.negation.result c.any.ensures.step (sym c.is_source.ensures ∙ c.if-is_source.false) (sym c.is_and.ensures ∙ c.if-is_and.false)
    (nor_literal c.args.builder.now c.any.new.self c.gather.new.queue.items c.in_ok-any.any c.negation.result c.any.ensures.step.built
    c.in_ok-any.ensures.value c.negation.ensures)
