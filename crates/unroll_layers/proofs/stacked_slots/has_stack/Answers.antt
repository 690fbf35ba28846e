use Rattle.std.proofs.Common.{Bool, Option, List, ℕ, subst}
use Rattle.rules.specs.RuleSetView.{rules_in}
use Rattle.ground_instances.specs.GroundView.{instances_of}
use Rattle.unroll_layers.specs.Owners.{AreSlotted}
use Rattle.unroll_layers.specs.Carried.{AreCarried}
use Rattle.unroll_layers.proofs.Growing.{if_true}
use Rattle.unroll_layers.proofs.Marked.{if_so}
use Rattle.unroll_layers.proofs.stacked_slots.has_stack.Goals as goal

pub returns : goal.returns
returns c =
    let marks = c.args.marks.now in
    let rules = rules_in c.args.rules.now in
    let rows = instances_of c.args.ground.now in
    let owners = c.in_ok-owners.owners.items in
    let slots = c.in_ok-slots.slots in
    if_so c.are_carried.result _ _ c.are_carried.ensures (λ carried. record {
      has_slots = record {
        owners = owners;
        slots = slots.slots.items;
        members = slots.members.items;
        are_owners = rw c.deref.ensures.value at c.in_ok-owners.ensures;
        are_slotted = subst (λ (os : List (Option ℕ)). AreSlotted marks.layers.items rows os slots.slots.items slots.members.items c.args.bound)
            c.deref-5.ensures.value
            (subst (λ (ms : List Bool). AreSlotted ms rows c.deref-5.result.now slots.slots.items slots.members.items c.args.bound)
            c.deref-4.ensures.value (if_true c.are_slotted.result _ c.are_slotted.ensures c.if-not-are_slotted.false));
      };
      carried = subst (λ (os : List (Option ℕ)). AreCarried rules marks.firsts.items marks.befores.items rows os) c.deref-8.ensures.value
          (subst (λ (bs : List Bool). AreCarried rules marks.firsts.items bs rows c.deref-8.result.now) c.deref-7.ensures.value
          (subst (λ (fs : List Bool). AreCarried rules fs c.deref-7.result.now rows c.deref-8.result.now) c.deref-6.ensures.value carried));
    })
