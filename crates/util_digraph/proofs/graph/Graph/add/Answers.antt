use Rattle.std.proofs.Common.{◌∙◌, ap, ℕ, ◌+◌, ◌≡◌, set, length, arith, length-append}
use Rattle.std.proofs.lemmas.Grind.{common_steps}
use Rattle.util_digraph.proofs.GraphLemmas.{added}
use Rattle.util_digraph.proofs.graph.Graph.add.Goals as goal

pub invariant_of-self-2 : goal.invariant_of-self-2
invariant_of-self-2 c = record {
  linked =
      let arrows = c.in_ok-push.ensures.items in
      let many : c.len.result ≡ length c.args.self.now.arrows.items + 1 = c.len.ensures ∙ c.push.new.self.ok.0 ∙ ap length arrows
      ∙ grind (arith, length-append) in
      added _ _ _ c.args.from c.args.to
      (omega (arith, c.requires.from, c.args.self.now.ends.ok.0)) (omega (arith, c.requires.to, c.args.self.now.ends.ok.0)) c.args.self.now.linked _ _
      _
      arrows (ap (λ (n : ℕ). set c.args.self.now.ends.items c.args.from n) many) (grind (arith, common_steps));
}
