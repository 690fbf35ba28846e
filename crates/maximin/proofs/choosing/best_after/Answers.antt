use Rattle.std.proofs.Common.{◌≡◌, ◌+◌, ◌<◌, ◌∙◌, ap, refl, ℕ, [], List, length, take, arith}
use Rattle.std.specs.Prelude.{map}
use Rattle.smallvec.specs.SmallVec.{SmallVec}
use Rattle.statement.specs.Rules.{IsTurn}
use Rattle.statement.specs.Value.{value}
use Rattle.maximin.specs.Best.{own_worth}
use Rattle.maximin.specs.Run.{turns_in}
use Rattle.std.proofs.lemmas.List.{get_or-map}
use Rattle.std.proofs.lemmas.Result.{IfOk-weaker}
use Rattle.game.proofs.Facts.{legal_count}
use Rattle.maximin.proofs.Bounds.{value_at_most}
use Rattle.maximin.proofs.Kept.{level_kept}
use Rattle.maximin.proofs.Packs.{turns_count, stepped_count}
use Rattle.maximin.proofs.Parts.{both_joined}
use Rattle.maximin.proofs.Runs.{known_each, states_after}
use Rattle.maximin.proofs.choosing.best_after.Goals as goal

pub steps-requires-clause-joints : goal.steps-requires-clause-joints
steps-requires-clause-joints g c =
    let rules = g.G.Game.rules c.args.game.now in
    known_each (λ j. IsTurn rules j) (take c.args.level.now.moves.run.count c.deref.result.now) (rw c.deref.ensures.value c.requires.level.known)

pub best_among-requires-clause-children : goal.best_among-requires-clause-children
best_among-requires-clause-children g c κs within =
    let rules = g.G.Game.rules c.args.game.now in
    let run = c.args.level.now.moves.run in
    let states = g.G.Game.states c.args.game.now c.steps.new.out in
    let size : length states ≡ run.count = stepped_count rules.roles run _ (rules.after (g.G.Game.state c.args.game.now c.args.from.now)) states
    c.requires.level.level.moves.run c.deref.ensures.value c.steps.ensures.after in
    let law = g.met.G.Game g.world.𝓛 g.world.𝓜 g.world.𝓡 ((λ _ x. x), (λ x. x), (λ x. x), λ x. x) in
    record {
      many = c.steps.ensures.many;
      position = c.requires.level.level.children.position;
      ahead = c.new_ahead-level.ensures states (λ s d. value rules c.args.asked.role d c.args.asked.at s) c.args.asked.depth size
          (λ s d. value_at_most rules c.args.asked.role (λ q r. law.goal_within c.args.game.now q r) d c.args.asked.at s);
    }

pub best_among-requires-clause-few : goal.best_among-requires-clause-few
best_among-requires-clause-few g c κs within =
    let rules = g.G.Game.rules c.args.game.now in
    let state = g.G.Game.state c.args.game.now c.args.from.now in
    let run = c.args.level.now.moves.run in
    let law = g.met.G.Game g.world.𝓛 g.world.𝓜 g.world.𝓡 ((λ _ x. x), (λ x. x), (λ x. x), λ x. x) in
    let few = legal_count rules state c.args.asked.role (law.legal_ascending c.args.game.now state c.args.asked.role c.requires.fit.role)
    (law.legal_within c.args.game.now state c.args.asked.role c.requires.fit.role)
    (law.moves_within c.args.game.now c.args.asked.role c.requires.fit.role) in
    let size = stepped_count rules.roles run _ (rules.after state) (g.G.Game.states c.args.game.now c.steps.new.out)
    c.requires.level.level.moves.run c.deref.ensures.value c.steps.ensures.after in
    let count = turns_count rules.roles run c.requires.level.level.moves.run in
    omega (arith, c.requires.moves.few, size)

pub returns-clause-best : goal.returns-clause-best
returns-clause-best g c =
    let rules = g.G.Game.rules c.args.game.now in
    let state = g.G.Game.state c.args.game.now c.args.from.now in
    let run = c.args.level.now.moves.run in
    let turns = turns_in run in
    let states : g.G.Game.states c.args.game.now c.steps.new.out ≡ map (rules.after state) turns =
    c.steps.ensures.after
    ∙ ap (λ (js : List (SmallVec ℕ)). map (λ (j : SmallVec ℕ). rules.after state j.items) (take run.count js)) c.deref.ensures.value
    ∙ states_after (rules.after state) (take run.count run.joints.items) in
    let size = stepped_count rules.roles run _ (rules.after state) (g.G.Game.states c.args.game.now c.steps.new.out)
    c.requires.level.level.moves.run c.deref.ensures.value c.steps.ensures.after in
    let count = turns_count rules.roles run c.requires.level.level.moves.run in
    IfOk-weaker c.best_among.result _ _
    (λ r h. rw size at (h (own_worth rules c.args.asked.role c.args.asked.depth c.args.asked.at state)
    (λ k lt. let inside : k < length turns = omega (arith, size) in
    rw states (rw (get_or-map (rules.after state) turns k [] [] inside) (c.requires.moves.worths k inside)))
    c.requires.best))
    c.best_among.ensures.best

pub returns-clause-level : goal.returns-clause-level
returns-clause-level g c =
    let level = c.args.level.now in
    let same = c.best_among.ensures.same in
    record {
      level = record {
        moves = c.requires.level.level.moves;
        children = record { many = rw same.many c.steps.ensures.many; position = same.position };
      };
      capacities = level_kept g.G.Game c.args.game.now level level.moves c.best_among.new.children refl
          (both_joined _ _ _ _ same.capacities (ap (g.G.Game.many_capacities c.args.game.now) same.many ∙ c.steps.ensures.many_capacities));
      moves = refl;
    }
