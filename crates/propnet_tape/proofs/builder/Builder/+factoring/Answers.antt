use Rattle.std.proofs.Common.{◌≡◌, ◌-◌, length, arith, rules}
use Rattle.propnet_tape.specs.Building.{slots_of}
use Rattle.propnet_tape.specs.Terms.{IsFrame}
use Rattle.propnet_tape.proofs.Factors.{true_literal, working_keyed, group_frame, key_slot, group_more}
use Rattle.propnet_tape.proofs.builder.Builder.+factoring.Goals as goal

pub any_of_terms-returns-then-has_empty-clause-value : goal.any_of_terms-returns-then-has_empty-clause-value
any_of_terms-returns-then-has_empty-clause-value t c = true_literal c.args.self.now c.args.base c.args.terms.now c.parts_from.result.now
    c.requires.built (search rules) (c.has_empty.ensures c.if-has_empty.true)

pub any_of_terms-groups-init : goal.any_of_terms-groups-init
any_of_terms-groups-init t c = working_keyed c.args.self.now c.args.terms.now c.group.new.self c.args.base c.len-mark.result c.requires.built
    c.requires.frame (search rules) c.in_ok-group.ensures.keyed c.in_ok-group.ensures.ors

pub any_of_terms-any_in_group-requires : goal.any_of_terms-any_in_group-requires
any_of_terms-any_in_group-requires t c =
    let count : c.len-last.result ≡ length c.groups.terms.parts.items = search rules in
    let all : c.len-in-groups.result ≡ length c.groups.terms.parts.items = search rules in
    let frame : IsFrame (slots_of c.groups.self) c.start_of-start.result c.groups.terms =
    group_frame c.args.base c.len-mark.result c.start_of-start.result c.args.self.now c.groups.self c.args.terms.now c.groups.terms c.groups.invariant
    c.start_of-start.ensures.base (omega (arith, count, all, c.groups-test.true, c.start_of-start.ensures.last)) in (
      omega (arith, c.decreases, c.if-depth-eq0.false),
      (
        c.groups.invariant.gathered.step.built,
        (
          key_slot c.args.base c.len-mark.result (c.len-last.result - 1) c.args.self.now c.groups.self c.args.terms.now c.groups.terms
              c.index.result.now c.groups.invariant (omega (arith, count, all, c.groups-test.true)) (omega (arith, count, all, c.groups-test.true))
              c.index.ensures,
          record { place = frame.place; within = frame.within; below = frame.below },
        ),
      ),
    )

pub any_of_terms-groups-preserved : goal.any_of_terms-groups-preserved
any_of_terms-groups-preserved t c =
    let count : c.len-last.result ≡ length c.groups.terms.parts.items = search rules in
    let all : c.len-in-groups.result ≡ length c.groups.terms.parts.items = search rules in
    group_more c.args.base c.len-mark.result (c.len-last.result - 1) c.start_of-start.result c.in_ok-literal.literal c.args.self.now c.groups.self
    c.any_in_group.new.self c.args.terms.now c.groups.terms _ c.index.result.now c.groups.invariant
    c.start_of-start.ensures.base c.start_of-start.ensures.last (omega (arith, count, all, c.groups-test.true)) c.index.ensures
    (rw c.deref-in-groups.ensures.value at c.start_of-start.ensures.key)
    c.any_in_group.ensures.step c.in_ok-literal.ensures.value
    c.in_ok-literal.ensures.taken.literals c.in_ok-literal.ensures.taken.parts (search rules)
