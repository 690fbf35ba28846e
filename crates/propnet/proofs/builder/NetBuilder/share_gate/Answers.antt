use Rattle.std.proofs.Common.{ℕ, ◌≡◌, Bool, List, length, map, sym, subst, ◌∙◌, arith}
use Rattle.ground_instances.specs.GroundView.{base_of, kinds_of, instances_of}
use Rattle.statement.specs.declared.node_name.Name.TheVariants.{And}
use Rattle.propnet.specs.Names.{read_name, body_at}
use Rattle.propnet.specs.Building.{NodesStandFor}
use Rattle.propnet.specs.Builders.{input_counts, gates_made}
use Rattle.propnet.specs.NetView.{gates_at, reads_at}
use Rattle.propnet.proofs.GroundFacts.{blank, place_labelled}
use Rattle.propnet.proofs.AtomLemmas.{body_is}
use Rattle.propnet.proofs.BuildLemmas.{reads_stand, stands_below, tables_push}
use Rattle.propnet.proofs.builder.NetBuilder.share_gate.Goals as goal

pub push_like-requires-clause-name : goal.push_like-requires-clause-name
push_like-requires-clause-name c = place_labelled c.args.ground.now c.args.place c.requires.place

pub push_like-requires-clause-like : goal.push_like-requires-clause-like
push_like-requires-clause-like c =
    let like = c.requires.like in
    stands_below (gates_made c.args.self.now) c.args.like (And like.other) like.stands

pub returns-clause-made : goal.returns-clause-made
returns-clause-made c =
    let g = c.args.ground.now in
    let b = c.args.self.now in
    let like = c.requires.like in
    let same : body_at (instances_of g) like.other ≡ body_at (instances_of g) c.args.place =
    body_is (instances_of g) like.other blank like.there ∙ like.body blank ∙ sym (body_is (instances_of g) c.args.place blank c.requires.place) in
    let stand : NodesStandFor (gates_made b) (reads_at (gates_made b) c.args.like) (map (read_name (kinds_of g)) (body_at (instances_of g) c.args.place)) =
    subst (λ (ls : List (ℕ × Bool)). NodesStandFor (gates_made b) (reads_at (gates_made b) c.args.like) (map (read_name (kinds_of g)) ls)) same
    (reads_stand (length (base_of g)) (kinds_of g) (instances_of g) (gates_made b) c.args.like (And like.other) c.requires.made.made.sound like.stands) in
    let made = tables_push (length (base_of g)) (input_counts g) (kinds_of g) (instances_of g) (gates_made b) (gates_at c.push_like.new.self) b.starts.items
    b.views.items b.atoms.items b.nots.items (And c.args.place) (reads_at (gates_made b) c.args.like) (omega arith) stand
    c.in_ok-push_like.ensures.gates c.requires.made.made in
    record { made = made; views = c.requires.made.views; atoms = c.requires.made.atoms; nots = c.requires.made.nots }
