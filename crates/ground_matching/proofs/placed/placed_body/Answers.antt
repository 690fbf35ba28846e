use Rattle.std.proofs.Common.{subst, sym}
use Rattle.rules_clauses.specs.declared.numbered.Literal as memory
use Rattle.rules.specs.RuleSetView.{lists_of_set}
use Rattle.ground_matching.specs.Plans.{CanBuild}
use Rattle.ground_matching.proofs.PlaceLemmas.{build_at}
use Rattle.ground_matching.proofs.placed.placed_body.Goals as goal

pub literal-literal-requires : goal.literal-literal-requires
literal-literal-requires c = (build_at (lists_of_set c.args.set.now) c.args.from c.args.places.now c.args.numbers.now c.loop-number.number-index
    c.requires.each c.loop-number-test.true).0

pub placed_atom-requires-clause-can : goal.placed_atom-requires-clause-can
placed_atom-requires-clause-can c =
    let d = lists_of_set c.args.set.now in
    subst (λ (l : memory.Literal). CanBuild d c.args.from c.args.places.now l.atom) (sym c.literal-literal.ensures)
    (build_at d c.args.from c.args.places.now c.args.numbers.now c.loop-number.number-index c.requires.each c.loop-number-test.true).1
