use Rattle.std.proofs.Common.{map, slice_index, rules}
use Rattle.propnet_tape.proofs.Factors.{term_added, whole_added}
use Rattle.propnet_tape.proofs.parts.Terms.add.Goals as goal

pub returns-clause-term : goal.returns-clause-term
returns-clause-term c =
    term_added c.args.self.now.literals.items c.push_each.new.list.items (map (λ n. slice_index c.args.literals.now n) c.args.numbers.now)
    c.args.self.now.parts.items c.push.new.self.items _ c.requires.whole c.in_ok-push_each.ensures c.in_ok-push.ensures.items (search rules) (search rules)

pub returns-clause-whole : goal.returns-clause-whole
returns-clause-whole c =
    whole_added c.args.self.now.literals.items c.push_each.new.list.items (map (λ n. slice_index c.args.literals.now n) c.args.numbers.now)
    c.args.self.now.parts.items c.push.new.self.items _ c.requires.whole c.in_ok-push_each.ensures c.in_ok-push.ensures.items (search rules) (search rules)
