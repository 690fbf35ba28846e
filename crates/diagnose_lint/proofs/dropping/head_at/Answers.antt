use Rattle.std.proofs.Common.{◌≡◌, true, [], List, subst, arith}
use Rattle.std.specs.Prelude.{ℕ}
use Rattle.statement.specs.Kept.{Kept}
use Rattle.rules.specs.RuleSetView.{rules_in, keywords_in}
use Rattle.ground_instances.specs.Lists.{numbers_of_list}
use Rattle.ground_terms.specs.Vectors.{items_of}
use Rattle.ground_rows.specs.SetWords.{words_of}
use Rattle.diagnose_lint.specs.Keyed.{lacks_in, numbers_of}
use Rattle.diagnose_lint.proofs.KeptHeads.{lacking_head}
use Rattle.diagnose_lint.proofs.dropping.head_at.Goals as goal

none : Kept
none = record { alternative = 0; head = 0; body = [] }

pub returns : goal.returns
returns c =
    let rules = c.args.rules.now in
    let listed = c.args.listed.now in
    let past = c.if-index-count.false in
    let many = c.count.ensures in
    let over = c.if-head-len.false in
    let terms = c.len.ensures.many in
    lacking_head (rules_in rules) (words_of rules) listed.arena listed.atoms.keys (numbers_of_list listed.found) listed.fixed_atoms
    listed.context.roles.items listed.context.base.items (items_of listed.context.inputs.items) c.requires.listed
    rules.sound.words (keywords_in rules) rules.sound.keywords
    c.args.index none (omega (arith, past, many)) c.alternative-alternative.result c.head-head.result
    (c.alternative-alternative.ensures none) (c.head-head.ensures none) (omega (arith, over, terms)) c.in-Some.lack
    (subst (λ (key : List ℕ). lacks_in (numbers_of rules listed) c.in-Some.lack key ≡ true) c.key_of.ensures c.in-Some.ensures)
    c.in_ok-text.text.items c.in_ok-text.ensures
