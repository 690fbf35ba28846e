use Rattle.std.proofs.Common.{sym, ◌∙◌}
use Rattle.kif.specs.View.{tree_of}
use Rattle.unroll_layers.proofs.TestLemmas.{own_atom}
use Rattle.unroll_layers.proofs.kinds.is_own_atom.Goals as goal

pub returns-then-is_plain : goal.returns-then-is_plain
returns-then-is_plain c =
    own_atom _ (tree_of c.args.e.now) _ _ _ c.split_atom.ensures (sym c.is_plain.ensures ∙ c.if-is_plain.true) c.is_among-is_own.ensures
