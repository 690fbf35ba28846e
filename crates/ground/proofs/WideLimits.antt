-- What passes none of the limits of a width passes none of the wide ones.
use Rattle.std.proofs.Common.{ℕ, ◌≡◌, ◌≤◌, List, None, arith}
use Rattle.statement.specs.Clause.{Alternative}
use Rattle.statement.specs.declared.width.Width.{Width}
use Rattle.statement.specs.declared.width.Width.TheVariants.{Plain, Wide}
use Rattle.statement.specs.Most.{limits, wide_limits}
use Rattle.statement.specs.Limits.{count_inputs, excess_in}
use Rattle.statement.specs.Listing.{role_list}
use Rattle.meaning.proofs.Facts.{excess_exact}

more : (n : ℕ) → n ≤ limits.inputs → n ≤ wide_limits.inputs
more n h = omega (arith, h)

pub within_wide : (width : Width) (rules : List Alternative) → excess_in width rules ≡ None → excess_in Wide rules ≡ None
within_wide Wide rules none = none
within_wide Plain rules none =
    let within = (excess_exact limits rules).0 none in
    (excess_exact wide_limits rules).1 (record {
      instances = within.instances;
      heads = within.heads;
      base = within.base;
      inputs = more (count_inputs rules (role_list rules)) within.inputs;
    })
