use Rattle.std.proofs.Common.{◌∷◌, ℕ, List, ◌∙◌, ap}
use Rattle.std.proofs.Math.Seq.{map-set_same}
use Rattle.std.specs.Prelude.{vec_capacity}
use Rattle.smallvec.specs.SmallVec.{SmallVec}
use Rattle.maximin.proofs.alone.add_own.Goals as goal

pub returns-clause-capacities : goal.returns-clause-capacities
returns-clause-capacities c =
    ap (λ (cs : List ℕ). vec_capacity c.args.run.now.joints ∷ cs)
    (map-set_same (λ (j : SmallVec ℕ). j.capacity) c.args.run.now.joints.items c.args.run.now.count c.write_own.new.to c.index_mut.result.now
    (c.write_own.ensures.capacity ∙ ap (λ (j : SmallVec ℕ). j.capacity) c.index_mut.ensures.value))
