use Rattle.kif.specs.View.{tree_of}
use Rattle.rules_profile.proofs.Facts.{tree_is_slice, tree_is_word}
use Rattle.rules_relations.proofs.Looking.{atom_word, no_atom}
use Rattle.rules_relations.proofs.relation.split_atom.Goals as goal

pub returns-in-Some : goal.returns-in-Some
returns-in-Some g c =
    let h = tree_is_word _ _ _ _ _ c.in-List.is c.deref-in-List.ensures.value c.in-Some.ensures in
    atom_word (tree_of c.args.e.now) c.in-Some.word.now c.in-Some.terms.now h

pub returns-in-None : goal.returns-in-None
returns-in-None g c = no_atom (tree_of c.args.e.now) _ (tree_is_slice _ _ _ c.in-List.is c.deref-in-List.ensures.value) c.in-None.ensures
