use Rattle.std.proofs.Common.{[], true, get_or, sym, subst, ◌<◌, arith}
use Rattle.std.proofs.lemmas.List.{get_or-replicate}
use Rattle.search_table.specs.declared.bounds.Bounds.{Bounds}
use Rattle.search_table.specs.Worths.{AreBoundsOf}
use Rattle.maximin.proofs.ahead.new_ahead.Goals as goal

pub returns : goal.returns
returns c = λ states worth depth size few. record {
  count = sym size;
  few = omega (arith, size, c.requires);
  bounds = λ k d below.
      let inside : k < 64 = omega (arith, size, c.requires) in
      let free : Bounds = record { lo = 0; hi = 100; lasts = true } in
      subst (λ (b : Bounds). AreBoundsOf (worth (get_or states k [])) depth b) (sym (get_or-replicate 64 k free d inside)) (record {
        within = (omega arith, few (get_or states k []) depth);
        lasting = λ lasts e more. few (get_or states k []) e;
      });
}
