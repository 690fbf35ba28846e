use Rattle.std.proofs.Common.{length}
use Rattle.ground_instances.specs.GroundView.{base_of, kinds_of, instances_of}
use Rattle.propnet.specs.Builders.{input_counts, gates_made}
use Rattle.propnet.proofs.AtomLemmas.{atom_noted}
use Rattle.propnet.proofs.BuildLemmas.{pushed_count}
use Rattle.propnet.proofs.builder.NetBuilder.note_atom.Goals as goal

pub returns-clause-made : goal.returns-clause-made
returns-clause-made c =
    let g = c.args.ground.now in
    let b = c.args.self.now in
    let made = atom_noted (length (base_of g)) (input_counts g) (kinds_of g) (instances_of g) (gates_made b) b.starts.items b.views.items b.atoms.items
    c.push.new.self.items b.nots.items c.args.atom c.node_of-number.result c.in_ok-push.ensures.items c.requires.made.atoms
    c.node_of-number.ensures c.requires.made.made in
    record {
      made = made;
      views = c.requires.made.views;
      atoms = pushed_count b.atoms.items c.push.new.self.items c.args.atom _ c.in_ok-push.ensures.items c.requires.made.atoms;
      nots = c.requires.made.nots;
    }
