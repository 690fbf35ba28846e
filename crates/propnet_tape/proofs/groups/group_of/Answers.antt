use Rattle.std.proofs.Common.{rules, ap, List, ℕ, get_or}
use Rattle.propnet_tape.proofs.GroupLemmas.{group_is}
use Rattle.propnet_tape.proofs.groups.group_of.Goals as goal

pub returns : goal.returns
returns c =
    group_is c.args.net.now c.args.sources.now.words.items c.args.role c.args.first _ _ _ c.requires.role
    (ap (λ (xs : List ℕ). get_or xs c.args.role 0) c.inputs.ensures) (search rules) c.requires.first
    (c.are_given_from.ensures c.if-not-are_given_from.false) (search rules)
