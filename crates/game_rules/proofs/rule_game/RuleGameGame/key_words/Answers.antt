use Rattle.std.proofs.Common.{◌≤◌, length, sym, ap, ◌∙◌, arith}
use Rattle.ground_instances.specs.GroundView.{base_of}
use Rattle.game_rules.specs.GroundFacts.{fits}
use Rattle.game.specs.Keys.{words_for}
use Rattle.game_rules.proofs.rule_game.RuleGameGame.key_words.Goals as goal

pub returns-clause-length : goal.returns-clause-length
returns-clause-length c =
    c.words_for.ensures ∙ ap words_for (c.base.ensures ∙ sym (fits c.args.self.now.played).starts_fit)

pub returns-clause-few : goal.returns-clause-few
returns-clause-few c =
    let few : length (base_of c.args.self.now.played) ≤ 65536 = (fits c.args.self.now.played).few_base in
    let words = c.words_for.ensures in
    let base = c.base.ensures in
    omega arith
