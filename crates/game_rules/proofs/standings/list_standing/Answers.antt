use Rattle.std.proofs.Common.{List, cond, ◌∷◌, [], ◌++◌, ap, sym, ◌∙◌}
use Rattle.ground_instances.specs.GroundView.{kinds_of}
use Rattle.game_rules.specs.declared.standing.Standing.{Standing}
use Rattle.game_rules.specs.RulePlay.{kind_at}
use Rattle.game_rules.specs.Standings.{seeks, standing_at}
use Rattle.game_rules.proofs.StandingLemmas.{standing_more}
use Rattle.game_rules.proofs.standings.list_standing.Goals as goal

pub loop-atom-preserved : goal.loop-atom-preserved
loop-atom-preserved c =
    let kinds = kinds_of c.args.ground.now in
    let test = seeks c.args.sought in
    let n = c.loop-atom.atom in
    c.in_ok-add_standing.ensures
    ∙ ap (λ (ps : List Standing). ps ++ cond (test (kind_at kinds n)) (standing_at kinds n ∷ []) []) c.loop-atom.invariant
    ∙ sym (standing_more test kinds n)
