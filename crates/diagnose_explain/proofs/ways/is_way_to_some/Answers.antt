use Rattle.std.proofs.Common.{refl}
use Rattle.rules_relations.specs.Relations.{relation_in}
use Rattle.diagnose_explain.proofs.Targets.{among_at, and_first, and_then, and_last}
use Rattle.diagnose_explain.proofs.ways.is_way_to_some.Goals as goal

pub returns-then-is_way : goal.returns-then-is_way
returns-then-is_way g c = λ _.
    let whole = c.if-is_way.ensures in
    let rest = and_then _ _ whole in (
      _,
      among_at relation_in c.args.targets.now c.loop-to.to-index _ _ c.loop-to-test.true refl,
      record { last = and_first _ _ whole; first = and_first _ _ rest; chain = and_last _ _ rest },
    )
