use Rattle.std.proofs.Common.{ℕ, ◌≡◌, [], not, get_or, sym, ap, ◌∙◌}
use Rattle.statement.specs.Clause.{Alternative, relation_of}
use Rattle.statement.specs.Kept.{Kept}
use Rattle.meaning.specs.Listed.{IsAlternativeAt}
use Rattle.rules_relations.specs.Relations.{relation_in}
use Rattle.rules.specs.RuleSetView.{rules_in}
use Rattle.ground_instances.specs.GroundView.{instances_of}
use Rattle.ground_instances.proofs.Facts.{among_at}
use Rattle.unroll_layers.specs.Owners.{AsksOnly}
use Rattle.unroll_layers.proofs.Heads.{alternative_at}
use Rattle.unroll_layers.proofs.Owned.{asking_added, some_found}
use Rattle.unroll_layers.proofs.asking.add_asking.Goals as goal

pub returns : goal.returns
returns c =
    let rules = rules_in c.args.rules.now in
    let rows = instances_of c.args.ground.now in
    let d : Kept = record { alternative = 0; head = 0; body = [] } in
    let i = get_or rows c.args.place d in
    let b = some_found c.asked_by.result (λ (atom : ℕ). (e : Kept) → AsksOnly (get_or rows c.args.place e) atom) c.asked_by.ensures.asks
    (c.is_none.ensures ∙ ap not c.if-is_none.false) in
    let heads : (rule : Alternative) → IsAlternativeAt 0 rules i.alternative rule → relation_of rule.head ≡ relation_in c.head_at.result
    = λ rule a.
    let t = alternative_at rules i.alternative rule rule a in
    sym (c.head_at.ensures rule ∙ ap (λ (k : ℕ). relation_of (get_or rules k rule).head) (c.alternative-alternative.ensures d)
    ∙ ap (λ (r : Alternative). relation_of r.head) t.1) in
    asking_added rules rows c.args.set.now c.insert.new.self (relation_in c.head_at.result) c.in_ok-insert.ensures
    (i, among_at rows c.args.place d c.requires.place, heads, (b.0, b.1 d)) c.requires.ask
