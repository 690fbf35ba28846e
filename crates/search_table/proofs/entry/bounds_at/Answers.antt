use Rattle.std.proofs.lemmas.Bool.{eqb-true}
use Rattle.search_table.proofs.entry.bounds_at.Goals as goal

pub returns : goal.returns
returns c = λ worth are says. record {
  within = (c.lower_at.ensures worth are says, c.upper_at.ensures.at_most worth are says);
  lasting = λ e d more.
      let every = eqb-true c.args.entry.hi_depth 127 e in
      rw (c.upper_at.ensures.of_every every) (says.lasting every d);
}
