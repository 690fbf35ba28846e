use Rattle.std.proofs.Common.{◌∙◌, rules}
use Rattle.std.proofs.lemmas.List.{get_or_default}
use Rattle.propnet.specs.Nets.{gates_of}
use Rattle.propnet_tape.proofs.GroupLemmas.{given_input}
use Rattle.propnet_tape.proofs.groups.is_given_at.Goals as goal

pub returns : goal.returns
returns c = λ half.
    given_input (gates_of c.args.net.now) c.args.marks.now c.args.sources.now.words.items c.args.sources.now.literals.items c.args.n c.args.bit
    c.in-Some.word c.index.result.now _ _
    c.requires.sources (search rules) c.gate-name.ensures c.if-not-marks-n.false (search rules) c.if-word-n.false
    (c.index.ensures ∙ get_or_default c.args.sources.now.literals.items c.args.n c.index.result.now 0 (search rules)) (search rules) (search rules)
    (search rules)
