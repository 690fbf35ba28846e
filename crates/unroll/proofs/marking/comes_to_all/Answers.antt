use Rattle.std.proofs.Common.{ℕ, ◌<◌, Bool, List, length, sym, subst}
use Rattle.statement.specs.Tree.{Tree}
use Rattle.statement.specs.Clause.{Alternative}
use Rattle.statement.specs.Dependence.{IsAmong}
use Rattle.statement.specs.Listing.{base_list}
use Rattle.ground_instances.specs.GroundView.{IsGround, base_of}
use Rattle.unroll_strata.specs.Founded.{IsReached}
use Rattle.unroll.specs.Marks.{IsMarked}
use Rattle.unroll.proofs.Sometime.{on_true}
use Rattle.unroll.proofs.marking.comes_to_all.Goals as goal

pub returns-clause-terms : goal.returns-clause-terms
returns-clause-terms c =
    let numbered : ((k : ℕ) → k < c.base.result → IsMarked c.deref-2.result.now k) → (k : ℕ) → k < length (base_of c.args.ground.now)
    → IsMarked c.in_ok-marks.marks.items k
    = λ all k below. subst (λ (marks : List Bool). IsMarked marks k) c.deref-2.ensures.value
    (all k (subst (λ (many : ℕ). k < many) (sym c.base.ensures) below)) in
    on_true c.are_all_marked.result ((k : ℕ) → k < c.base.result → IsMarked c.deref-2.result.now k)
    ((rules : List Alternative) → IsGround rules c.args.ground.now → (t : Tree) → IsAmong t (base_list rules) → (n : ℕ) × IsReached rules n t)
    c.are_all_marked.ensures
    (λ all rules is t a. c.where_all_are_reached_by_number_all_terms_are.ensures rules c.args.ground.now is
    (λ k below. c.in_ok-marks.ensures k (numbered all k below)) t a)
