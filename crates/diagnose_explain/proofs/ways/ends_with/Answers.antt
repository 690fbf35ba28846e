use Rattle.std.proofs.Common.{sym, ◌∙◌}
use Rattle.rules_relations.specs.Relations.{relation_in}
use Rattle.diagnose_explain.proofs.Ends.{ends_at}
use Rattle.diagnose_explain.proofs.ways.ends_with.Goals as goal

pub returns-in-Some : goal.returns-in-Some
returns-in-Some c =
    c.is_same.ensures ∙ sym (ends_at relation_in (relation_in c.args.to.now) c.args.steps.now c.in-Some.last.now (sym c.in-Some.ensures.value))
