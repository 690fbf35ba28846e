use Rattle.std.proofs.Common.{refl}
use Rattle.std.proofs.lemmas.Result.{IfOk-weaker}
use Rattle.maximin.proofs.Best.{best_found, choice_found}
use Rattle.maximin.proofs.choosing.try_best_move.Goals as goal

pub returns-then-is_alone-clause-value : goal.returns-then-is_alone-clause-value
returns-then-is_alone-clause-value g c =
    let rules = g.G.Game.rules c.args.game.now in
    let state = g.G.Game.state c.args.game.now c.args.from.now in
    IfOk-weaker c.best_alone.result _ _ (λ r h. (best_found rules c.args.asked.role c.args.asked.depth c.args.asked.at state r.worth r.place c.requires.turn
    c.requires.fit.role h).1)
    c.best_alone.ensures.best

pub returns-then-is_alone-clause-choice : goal.returns-then-is_alone-clause-choice
returns-then-is_alone-clause-choice g c =
    let rules = g.G.Game.rules c.args.game.now in
    let state = g.G.Game.state c.args.game.now c.args.from.now in
    IfOk-weaker c.best_alone.result _ _ (λ r h. choice_found rules c.args.asked.role c.args.asked.depth c.args.asked.at state _ r.worth r.place c.requires.turn
    c.requires.fit.role refl h)
    c.best_alone.ensures.best

pub returns-then-is_alone-clause-within : goal.returns-then-is_alone-clause-within
returns-then-is_alone-clause-within g c =
    let rules = g.G.Game.rules c.args.game.now in
    let state = g.G.Game.state c.args.game.now c.args.from.now in
    IfOk-weaker c.best_alone.result _ _ (λ r h. (best_found rules c.args.asked.role c.args.asked.depth c.args.asked.at state r.worth r.place c.requires.turn
    c.requires.fit.role h).0)
    c.best_alone.ensures.best

pub returns-clause-value : goal.returns-clause-value
returns-clause-value g c =
    let rules = g.G.Game.rules c.args.game.now in
    let state = g.G.Game.state c.args.game.now c.args.from.now in
    IfOk-weaker c.best_of_each.result _ _ (λ r h. (best_found rules c.args.asked.role c.args.asked.depth c.args.asked.at state r.worth r.place c.requires.turn
    c.requires.fit.role h).1)
    c.best_of_each.ensures.best

pub returns-clause-choice : goal.returns-clause-choice
returns-clause-choice g c =
    let rules = g.G.Game.rules c.args.game.now in
    let state = g.G.Game.state c.args.game.now c.args.from.now in
    IfOk-weaker c.best_of_each.result _ _ (λ r h. choice_found rules c.args.asked.role c.args.asked.depth c.args.asked.at state _ r.worth r.place c.requires.turn
    c.requires.fit.role refl h)
    c.best_of_each.ensures.best

pub returns-clause-within : goal.returns-clause-within
returns-clause-within g c =
    let rules = g.G.Game.rules c.args.game.now in
    let state = g.G.Game.state c.args.game.now c.args.from.now in
    IfOk-weaker c.best_of_each.result _ _ (λ r h. (best_found rules c.args.asked.role c.args.asked.depth c.args.asked.at state r.worth r.place c.requires.turn
    c.requires.fit.role h).0)
    c.best_of_each.ensures.best
