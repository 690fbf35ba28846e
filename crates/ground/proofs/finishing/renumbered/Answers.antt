use Rattle.std.proofs.Common.{length}
use Rattle.ground_instances.specs.Lists.{bodies_of}
use Rattle.ground.proofs.FinishLemmas.{all_numbered, laid_stay}
use Rattle.ground.proofs.finishing.renumbered.Goals as goal

pub returns : goal.returns
returns c =
    let keys = c.args.atoms.now.keys in
    let found = c.args.found in
    let new = c.renumber_heads.new.entries.items in
    record {
      numbers = all_numbered keys found.runs.items (bodies_of found) found.entries.items new c.renumber_heads.ensures;
      laid = laid_stay keys found.runs.items found.ends.items found.entries.items new (length found.literals.items) c.renumber_heads.ensures
          c.requires.found;
    }
