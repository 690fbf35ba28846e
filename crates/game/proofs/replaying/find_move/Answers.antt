use Rattle.std.proofs.Common.{◌≡◌, ℕ, ◌<◌, length, true, false, refl, arith}
use Rattle.statement.specs.Tree.{text, name_eq}
use Rattle.kif.specs.View.{tree_of}
use Rattle.game.proofs.LegalMoves.{legal_known, legal_place, legal_count, find_here, find_more, find_past, is_named, is_not_named}
use Rattle.game.proofs.replaying.find_move.Goals as goal

pub loop-number-init : goal.loop-number-init
loop-number-init g c = record { within = omega arith; left = refl }

pub move_text-requires-clause-number : goal.move_text-requires-clause-number
move_text-requires-clause-number g c =
    let rules = g.G.Game.rules c.args.game.now in
    let state = g.G.Game.state c.args.game.now c.args.p.now in
    let law = g.met.G.Game g.world.𝓛 g.world.𝓜 g.world.𝓡 ((λ _ x. x), (λ x. x), (λ x. x), λ x. x) in
    legal_known rules state c.args.role c.loop-number.place c.in-Some.number c.legal.result
    (law.legal_within c.args.game.now state c.args.role c.requires.role) c.legal.ensures c.in-Some.is

pub returns-then-text_is-clause-known : goal.returns-then-text_is-clause-known
returns-then-text_is-clause-known g c =
    let rules = g.G.Game.rules c.args.game.now in
    let state = g.G.Game.state c.args.game.now c.args.p.now in
    let law = g.met.G.Game g.world.𝓛 g.world.𝓜 g.world.𝓡 ((λ _ x. x), (λ x. x), (λ x. x), λ x. x) in
    legal_known rules state c.args.role c.loop-number.place c.in-Some.number c.legal.result
    (law.legal_within c.args.game.now state c.args.role c.requires.role) c.legal.ensures c.in-Some.is

pub returns-then-text_is-clause-found : goal.returns-then-text_is-clause-found
returns-then-text_is-clause-found g c =
    let rules = g.G.Game.rules c.args.game.now in
    let state = g.G.Game.state c.args.game.now c.args.p.now in
    let named = λ (m : ℕ). name_eq (text (tree_of c.args.part.now)) (g.G.Game.move_name c.args.game.now c.args.role m) in
    let here = legal_place rules state c.args.role c.loop-number.place c.in-Some.number c.legal.result c.legal.ensures c.in-Some.is in
    let same : named c.in-Some.number ≡ true = is_named (text (tree_of c.args.part.now)) _ c.move_text.result.now c.text_is.result c.if-text_is.true
    c.text_is.ensures c.move_text.ensures in
    find_here named (rules.legal state c.args.role) c.loop-number.place c.in-Some.number here.0 here.1 c.loop-number.invariant.left same

pub overflow_add-place : goal.overflow_add-place
overflow_add-place g c =
    let rules = g.G.Game.rules c.args.game.now in
    let state = g.G.Game.state c.args.game.now c.args.p.now in
    let here = legal_place rules state c.args.role c.loop-number.place c.in-Some.number c.legal.result c.legal.ensures c.in-Some.is in
    let law = g.met.G.Game g.world.𝓛 g.world.𝓜 g.world.𝓡 ((λ _ x. x), (λ x. x), (λ x. x), λ x. x) in
    let few = legal_count rules state c.args.role (law.legal_ascending c.args.game.now state c.args.role c.requires.role)
    (law.legal_within c.args.game.now state c.args.role c.requires.role)
    (law.moves_within c.args.game.now c.args.role c.requires.role) in
    omega (arith, here.0)

pub loop-number-smaller : goal.loop-number-smaller
loop-number-smaller g c =
    let rules = g.G.Game.rules c.args.game.now in
    let state = g.G.Game.state c.args.game.now c.args.p.now in
    let here = legal_place rules state c.args.role c.loop-number.place c.in-Some.number c.legal.result c.legal.ensures c.in-Some.is in
    let inside : c.loop-number.place < length (rules.legal state c.args.role) = here.0 in
    omega arith

pub loop-number-preserved : goal.loop-number-preserved
loop-number-preserved g c =
    let rules = g.G.Game.rules c.args.game.now in
    let state = g.G.Game.state c.args.game.now c.args.p.now in
    let named = λ (m : ℕ). name_eq (text (tree_of c.args.part.now)) (g.G.Game.move_name c.args.game.now c.args.role m) in
    let here = legal_place rules state c.args.role c.loop-number.place c.in-Some.number c.legal.result c.legal.ensures c.in-Some.is in
    let other : named c.in-Some.number ≡ false = is_not_named (text (tree_of c.args.part.now)) _ c.move_text.result.now c.text_is.result
    c.if-text_is.false c.text_is.ensures c.move_text.ensures in
    record {
      within = omega (arith, here.0);
      left = find_more named (rules.legal state c.args.role) c.loop-number.place c.in-Some.number here.0 here.1 c.loop-number.invariant.left other;
    }

pub returns-clause-found : goal.returns-clause-found
returns-clause-found g c =
    let rules = g.G.Game.rules c.args.game.now in
    let state = g.G.Game.state c.args.game.now c.args.p.now in
    let named = λ (m : ℕ). name_eq (text (tree_of c.args.part.now)) (g.G.Game.move_name c.args.game.now c.args.role m) in
    find_past named (rules.legal state c.args.role) c.loop-number.place c.legal.result c.legal.ensures c.in_default.is c.loop-number.invariant.left
