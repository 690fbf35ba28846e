use Rattle.std.proofs.Common.{List, ◌++◌, sym, ◌∙◌, ap}
use Rattle.rules_clauses.specs.declared.numbered.Span.{Span}
use Rattle.rules_clauses.specs.Spread.{numbers_of, numbers_in}
use Rattle.rules_clauses.proofs.SpreadLemmas.{added_behind, added_to_last}
use Rattle.rules_clauses.proofs.spread.add_span.Goals as goal

pub returns-in-Some-merged : goal.returns-in-Some-merged
returns-in-Some-merged c =
    added_to_last c.args.spans.now.items c.pop.new.self.items c.push-in-Some-merged.new.self.items c.in-Some.last c.args.span c.in-Some-merged.both
    c.in-Some.ensures.items c.in_ok-push-2.ensures.items c.in-Some-merged.ensures

pub returns : goal.returns
returns c =
    added_behind c.push-2.new.self.items c.push-3.new.self.items c.args.span c.in_ok-push-4.ensures.items
    ∙ ap (λ (ss : List Span). numbers_in ss ++ numbers_of c.args.span) (c.in_ok-push-3.ensures.items ∙ sym c.in-Some.ensures.items)
