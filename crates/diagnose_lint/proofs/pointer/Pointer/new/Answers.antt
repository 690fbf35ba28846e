use Rattle.std.proofs.Common.{ℕ, ◌≡◌, length, arith, subst}
use Rattle.std.specs.Prelude.{min}
use Rattle.diagnose_places.specs.Places.{IsPlace}
use Rattle.diagnose_lint.proofs.pointer.Pointer.new.Goals as goal

pub returns-clause-pointer : goal.returns-clause-pointer
returns-clause-pointer c = λ ts.
    let first : min 0 (length c.args.text.now) ≡ 0 = omega arith in
    record {
      walk = c.new.ensures.walk ts;
      same = c.new.ensures.text;
      within = omega arith;
      placed = subst (λ (o : ℕ). IsPlace c.args.text.now o c.place_of.result) first c.place_of.ensures;
    }
