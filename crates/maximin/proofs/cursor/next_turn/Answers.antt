use Rattle.std.proofs.Common.{ℕ, List, ◌≡◌, ◌<◌, ◌≤◌, ◌^◌, ◌+◌, ◌-◌, [], length, sym, ◌∙◌, ap, arith, get_or}
use Rattle.std.proofs.Math.ListN.{set, length-set}
use Rattle.game.proofs.Facts.{legal_count, none_past}
use Rattle.statement.specs.Rules.{choices}
use Rattle.maximin.specs.Turns.{StandsAt}
use Rattle.maximin.proofs.Choices.{length-choices, choices_some, choices_count}
use Rattle.maximin.proofs.CursorSteps.{wrapped_more, wrapped_all, up_stands, up_later}
use Rattle.maximin.proofs.cursor.next_turn.Goals as goal

pub overflow_add-place : goal.overflow_add-place
overflow_add-place g c =
    let rules = g.G.Game.rules c.args.game.now in
    let state = g.G.Game.state c.args.game.now c.args.from.now in
    let lists = choices rules state c.args.role c.args.own in
    let count : length lists ≡ rules.roles = length-choices rules state c.args.role c.args.own in
    let n = c.loop-other.other - 1 in
    let below : n < rules.roles = omega arith in
    let law = g.met.G.Game g.world.𝓛 g.world.𝓜 g.world.𝓡 ((λ _ x. x), (λ x. x), (λ x. x), λ x. x) in
    let legal : length (rules.legal state n) ≤ 2 ^ 32 =
    legal_count rules state n (law.legal_ascending c.args.game.now state n below) (law.legal_within c.args.game.now state n below)
    (law.moves_within c.args.game.now n below) in
    let few : length (get_or lists n []) ≤ 2 ^ 32 = choices_count rules state c.args.role c.args.own n legal below in
    let inside : get_or c.args.cursor.now.places.items n 0 < length (get_or lists n []) = c.requires.stands.in_list n (omega arith) in
    let stayed : get_or c.loop-other.cursor.places.items n 0 ≡ get_or c.args.cursor.now.places.items n 0 = c.loop-other.invariant.wrapped.same_place n
    (omega arith) in
    rw (c.deref.ensures, stayed) (omega arith)

pub returns-in-Some-clause-next : goal.returns-in-Some-clause-next
returns-in-Some-clause-next g c =
    let rules = g.G.Game.rules c.args.game.now in
    let state = g.G.Game.state c.args.game.now c.args.from.now in
    let lists = choices rules state c.args.role c.args.own in
    let old = c.args.cursor.now in
    let turned = c.loop-other.cursor in
    let new = c.put.new.self in
    let n = c.loop-other.other - 1 in
    let count : length lists ≡ rules.roles = length-choices rules state c.args.role c.args.own in
    let moves : length turned.joint.items ≡ rules.roles = c.loop-other.invariant.cursor.joint in
    let places : length turned.places.items ≡ rules.roles = c.loop-other.invariant.cursor.places in
    let put = c.put.ensures.places ∙ ap (λ (p : List ℕ). set turned.places.items n (get_or p n 0 + 1)) c.deref.ensures in
    let stands : StandsAt lists new.places.items new.joint.items =
    up_stands lists n old.places.items old.joint.items turned.places.items turned.joint.items c.in-Some.next new.places.items new.joint.items
    c.loop-other.other (omega arith) (omega arith) (omega arith) (omega arith) put c.put.ensures.joint
    (rw (← c.deref.ensures) (sym c.in-Some.is ∙ c.option_at.ensures)) c.requires.stands c.loop-other.invariant.wrapped in
    record {
      stands = stands;
      next = up_later lists n old.places.items old.joint.items turned.places.items turned.joint.items c.in-Some.next new.places.items
          new.joint.items c.loop-other.other (omega arith) (omega arith) (omega arith) put c.requires.stands stands c.loop-other.invariant.wrapped;
      none = tt;
    }

pub loop-other-preserved-in-Some-option_at : goal.loop-other-preserved-in-Some-option_at
loop-other-preserved-in-Some-option_at g c =
    let rules = g.G.Game.rules c.args.game.now in
    let state = g.G.Game.state c.args.game.now c.args.from.now in
    let lists = choices rules state c.args.role c.args.own in
    let count : length lists ≡ rules.roles = length-choices rules state c.args.role c.args.own in
    let moves : length c.loop-other.cursor.joint.items ≡ rules.roles = c.loop-other.invariant.cursor.joint in
    let places : length c.loop-other.cursor.places.items ≡ rules.roles = c.loop-other.invariant.cursor.places in
    let n = c.loop-other.other - 1 in
    let last : length (get_or lists n []) ≤ get_or c.deref.result.now n 0 + 1 =
    none_past (get_or lists n []) (get_or c.deref.result.now n 0 + 1) c.option_at.result c.option_at.ensures c.in_default.is in
    record {
      cursor = record {
        joint = ap length c.put-in-Some-option_at.ensures.joint ∙ simp length-set moves;
        places = ap length c.put-in-Some-option_at.ensures.places ∙ simp length-set places;
      };
      capacities = c.put-in-Some-option_at.ensures.capacities ∙ c.loop-other.invariant.capacities;
      wrapped = wrapped_more lists n c.args.cursor.now.places.items c.args.cursor.now.joint.items c.loop-other.cursor.places.items
          c.loop-other.cursor.joint.items
          c.in-Some-option_at.first c.put-in-Some-option_at.new.self.places.items c.put-in-Some-option_at.new.self.joint.items c.loop-other.other
          (omega arith)
          (omega arith) (omega arith) c.put-in-Some-option_at.ensures.places c.put-in-Some-option_at.ensures.joint
          (rw (← c.deref.ensures) last) (sym c.in-Some-option_at.is ∙ c.option_at-in-loop-other.ensures) c.loop-other.invariant.wrapped;
    }

pub loop-other-preserved : goal.loop-other-preserved
loop-other-preserved g c =
    let rules = g.G.Game.rules c.args.game.now in
    let state = g.G.Game.state c.args.game.now c.args.from.now in
    let lists = choices rules state c.args.role c.args.own in
    let count : length lists ≡ rules.roles = length-choices rules state c.args.role c.args.own in
    let n = c.loop-other.other - 1 in
    let some : 0 < length (get_or lists n []) = choices_some rules state c.args.role c.args.own n c.requires.«open» (omega arith) in
    let none : length (get_or lists n []) ≤ 0 = none_past (get_or lists n []) 0 c.option_at-in-loop-other.result c.option_at-in-loop-other.ensures
    c.in_default-option_at.is in
    absurd (omega arith)

pub returns-clause-next : goal.returns-clause-next
returns-clause-next g c =
    let rules = g.G.Game.rules c.args.game.now in
    let state = g.G.Game.state c.args.game.now c.args.from.now in
    let all : c.loop-other.other ≡ 0 = omega arith in
    record {
      stands = tt;
      next = tt;
      none = wrapped_all (choices rules state c.args.role c.args.own) c.args.cursor.now.places.items c.args.cursor.now.joint.items
          c.loop-other.cursor.places.items c.loop-other.cursor.joint.items (rw all at c.loop-other.invariant.wrapped);
    }
