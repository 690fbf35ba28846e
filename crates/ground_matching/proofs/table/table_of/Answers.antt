use Rattle.std.proofs.Common.{ℕ, ◌≡◌, ◌+◌, ◌-◌, refl, subst, arith, None, get_or}
use Rattle.ground_matching.proofs.TableLemmas.{TableFrom, table_on}
use Rattle.ground_matching.proofs.table.table_of.Goals as goal

pub places-preserved : goal.places-preserved
places-preserved c =
    let t = c.places-test.true in
    let v = c.places.invariant.0 in
    let next : c.places.left ≡ c.places.left - 1 + 1 = omega (arith, t) in (
      omega (arith, v),
      table_on c.args.places.now (c.places.left - 1) (get_or c.args.places.now (c.places.left - 1) None) c.places.table.items
          c.note_if_variable.new.table.items (c.places.left - 1 + 1) (omega (arith, t, v)) refl refl c.note_if_variable.ensures
          (subst (λ (n : ℕ). TableFrom c.args.places.now n c.places.table.items) next c.places.invariant.1),
    )
