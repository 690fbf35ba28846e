use Rattle.std.specs.Prelude.{All}
use Rattle.std.proofs.Common.{◌<◌, ℕ, List, subst, refl, sym, ap, ◌∙◌}
use Rattle.std.specs.Global.{Vec}
use Rattle.propnet_tape.specs.declared.builder.Group.{Group}
use Rattle.propnet_tape.specs.declared.gates.Gate.{Gate}
use Rattle.propnet_tape.specs.Values.{slots, IsTape}
use Rattle.propnet_tape.proofs.Tapes.{kept_slots, tape_of}
use Rattle.propnet_tape.proofs.translating.made.Goals as goal

pub invariant_of-result : goal.invariant_of-result
invariant_of-result c = record {
  ordered = subst (λ (v : Vec Gate). IsTape c.into_parts-first.result.0 v.items) (sym c.into_parts-first.ensures.gates)
      (subst (λ (n : ℕ). IsTape n c.translate.new.builder.gates.items) (sym c.into_parts-first.ensures.first) c.in_ok-literals.ensures.kept.built.tape);
  given = c.into_parts-first.ensures.first ∙ c.in_ok-literals.ensures.kept.first;
  sources_below = subst (λ (ns : List ℕ). All (λ (n : ℕ). n < c.above-most.result) ns) c.deref-2.ensures.value c.above-most.ensures;
  kept_within = subst (λ (v : Vec Gate). All (λ (l : ℕ). l < slots c.into_parts-first.result.0 v.items) c.gather.new.queue.items) (sym c.into_parts-first.ensures.gates)
      (subst (λ (n : ℕ). All (λ (l : ℕ). l < slots n c.translate.new.builder.gates.items) c.gather.new.queue.items) (sym c.into_parts-first.ensures.first)
      (kept_slots c.args.net.now c.args.sources.words.items c.args.kept.now c.translate.new.builder c.in_ok-literals.literals.items
      c.deref.result.now c.gather.new.queue.items
      c.in_ok-literals.ensures.kept c.deref.ensures.value c.in_ok-gather.ensures));
}

pub returns : goal.returns
returns c = tape_of c.args.net.now c.args.sources.words.items c.args.kept.now c.translate.new.builder c.args.groups.items
    c.in_ok-literals.literals.items c.deref.result.now _
    (c.in_ok-literals.ensures.groups ∙ ap (λ (v : Vec Group). v.items) c.in_ok-builder.ensures.3) c.in_ok-literals.ensures.kept c.deref.ensures.value
    c.into_parts-first.ensures.first (ap (λ (v : Vec Gate). v.items) c.into_parts-first.ensures.gates) refl c.in_ok-gather.ensures
