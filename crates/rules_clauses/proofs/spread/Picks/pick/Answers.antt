use Rattle.std.proofs.Common.{ℕ, List, [], ◌∷◌, ◌∙◌, ap}
use Rattle.rules_clauses.specs.declared.numbered.Span.{Span}
use Rattle.rules_clauses.specs.Spread.{lists_of, numbers_in, number_picks}
use Rattle.rules_profile.proofs.Facts.{on_ok}
use Rattle.rules_clauses.proofs.SpreadLemmas.{picked_one, nothing_behind}
use Rattle.rules_clauses.proofs.spread.Picks.pick.Goals as goal

pub returns-in-len1 : goal.returns-in-len1
returns-in-len1 c =
    on_ok c.add_spans.result _ _
    (λ e. picked_one c.args.lists.now c.only-item.result (lists_of c.args.self.now.lists.items) (numbers_in c.args.self.now.behind.items)
    (numbers_in c.add_spans.new.spans.items) c.deref.result.now c.in-len1.len_at_least c.in-len1.len_below c.only-item.is c.deref.ensures.value e)
    c.add_spans.ensures

pub returns : goal.returns
returns c =
    let lists = c.in_ok-self.field-0.items in
    ap (λ (ss : List Span). number_picks (lists_of lists) (numbers_in ss ∷ [])) c.clear.ensures.items
    ∙ nothing_behind (lists_of lists)
    ∙ c.in_ok-self.ensures
    ∙ ap (λ us. number_picks (lists_of us) (lists_of c.args.lists.now)) c.deref-2.ensures.value
    ∙ ap (λ (ls : List (List ℕ)). number_picks ls (lists_of c.args.lists.now)) c.in_ok-whole.ensures
