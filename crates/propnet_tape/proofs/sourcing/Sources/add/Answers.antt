use Rattle.std.proofs.Common.{◌∙◌, sym, ◌≡◌, arith, rules, None}
use Rattle.propnet_tape.specs.Sources.{source_word}
use Rattle.propnet.specs.Nets.{gates_of}
use Rattle.propnet_tape.proofs.Meaning.{sources_skip, sources_more, not_given}
use Rattle.propnet_tape.proofs.sourcing.Sources.add.Goals as goal

pub returns-then-not-marks-n : goal.returns-then-not-marks-n
returns-then-not-marks-n c =
    sources_skip (gates_of c.args.net.now) c.args.marks.now c.args.n c.args.self.now.words.items c.args.self.now.literals.items c.push.new.self.items
    c.requires.so_far c.in_ok-push.ensures.items (λ gate word g m s. let off = c.if-not-marks-n.true in absurd cc)

pub returns-in_default : goal.returns-in_default
returns-in_default c =
    let none : source_word c.gate-name.result.0 c.args.n ≡ None = search rules in
    sources_skip (gates_of c.args.net.now) c.args.marks.now c.args.n c.args.self.now.words.items c.args.self.now.literals.items
    c.push-in_default.new.self.items
    c.requires.so_far c.in_ok-push-2.ensures.items
    (λ gate word g m s. not_given (gates_of c.args.net.now) c.args.n c.gate-name.result.0 c.gate-name.result.1.now c.gate-name.ensures none gate word
    g s)

pub returns : goal.returns
returns c =
    sources_more (gates_of c.args.net.now) c.args.marks.now c.args.n c.gate-name.result.0 c.gate-name.result.1.now c.args.self.now.words.items
    c.push-2.new.self.items
    c.args.self.now.literals.items c.push-3.new.self.items c.in-Some.word c.given.result c.requires.so_far c.gate-name.ensures
    (sym c.word_of.ensures ∙ c.in-Some.is)
    c.in_ok-push-3.ensures.items (omega (arith, c.given.ensures.slot, c.len-index.ensures)) c.in_ok-push-4.ensures.items
