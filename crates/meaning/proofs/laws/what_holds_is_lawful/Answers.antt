use Rattle.meaning.proofs.Lawful.{heads_lawful, holding_lawful, role_lawful, base_lawful, input_lawful, term_named, lawful_named}
use Rattle.meaning.proofs.laws.what_holds_is_lawful.Goals as goal

pub returns : goal.returns
returns c = record {
  heads = heads_lawful;
  holds = holding_lawful;
  roles = role_lawful;
  base = base_lawful;
  inputs = input_lawful;
  terms_named = term_named;
  atoms_named = lawful_named;
}
