use Rattle.meaning.proofs.Fold.{roles_exact, bases_exact, inputs_exact}
use Rattle.meaning.proofs.Roles.{roles_stated}
use Rattle.meaning.proofs.Context.{roles_once, bases_in_order, inputs_in_order}
use Rattle.meaning.proofs.listing_laws.the_context_is_listed.Goals as goal

pub returns : goal.returns
returns c = record {
  roles = roles_exact;
  roles_order = roles_stated;
  roles_once = roles_once;
  base = bases_exact;
  base_order = bases_in_order;
  inputs = inputs_exact;
  inputs_order = inputs_in_order;
}
