-- How large an instantiation and its network are.
use Rattle.std.proofs.Common.{ℕ, zero, suc, ◌≡◌, ◌+◌, ◌≤◌, ◌<◌, ◌^◌, inr, List, [], ◌∷◌, length, map, take, refl, sym, ◌∙◌, ap, arith}
use Rattle.std.proofs.lemmas.List.{length-map, take_all}
use Rattle.statement.specs.Tree.{Tree, text}
use Rattle.statement.specs.Clause.{Alternative}
use Rattle.statement.specs.Items.{alternatives}
use Rattle.ground_instances.specs.declared.flat_ground.FlatGround.{FlatGround}
use Rattle.ground_instances.specs.Fits.{count_all}
use Rattle.statement.specs.Kept.{Kept, numbered}
use Rattle.ground_instances.specs.Grounds.{texts_at}
use Rattle.ground_instances.specs.GroundView.{IsGround, roles_of, base_of, inputs_of, instances_of}
use Rattle.statement.specs.Limits.{count_inputs}
use Rattle.statement.specs.declared.width.Width.{Width}
use Rattle.statement.specs.Most.{wide_limits}
use Rattle.statement.specs.Listing.{listing, role_list, base_list, input_list}
use Rattle.statement.specs.GoalsAndMoves.{dropped}
use Rattle.game_rules.specs.GroundFacts.{fits}
use Rattle.propnet.specs.declared.net.Net.{Net}
use Rattle.propnet.specs.Building.{names_of}
use Rattle.propnet.specs.Builders.{IsNetOf}
use Rattle.propnet.specs.Standing.{meant}
use Rattle.propnet.proofs.Facts.{nodes_law}
use Rattle.statement.specs.Nodes.{NetNode}
use Rattle.propnet.specs.Network.{Gate}
use Rattle.propnet.specs.Nets.{gates_of}
use Rattle.statement.specs.declared.status.Status.{Status}
use Rattle.statement.specs.declared.status.Status.TheVariants.{Answer}
use Rattle.program_replies.specs.Games.{IsItsGround}
use Rattle.statement.specs.Networks.{net_lines, measures, IsNetReply}

-- one more role
pub count_more : (lists : List (List (List ℕ))) (r : ℕ) → r < length lists
    → count_all (take (suc r) lists) ≡ count_all (take r lists) + length (texts_at lists r)
count_more [] r lt = absurd (omega arith)
count_more (ts ∷ rest) zero lt = omega arith
count_more (ts ∷ rest) (suc r) lt = let more = count_more rest r (omega arith) in omega arith

pub count_within : (lists : List (List (List ℕ))) (r : ℕ) → r < length lists → count_all (take r lists) + length (texts_at lists r) ≤ count_all lists
count_within [] r lt = absurd (omega arith)
count_within (ts ∷ rest) zero lt = omega arith
count_within (ts ∷ rest) (suc r) lt = let within = count_within rest r (omega arith) in omega arith

at_most : (n m : ℕ) → n ≤ m → m ≤ 2 ^ 32 → n ≤ 2 ^ 32
at_most n m h few = omega arith

most_inputs : wide_limits.inputs ≤ 2 ^ 32
most_inputs = omega arith

pub few_inputs : (g : FlatGround) → count_all (inputs_of g) ≤ 2 ^ 32
few_inputs g = at_most _ _ (fits g).few_inputs most_inputs

-- the sum of the inputs of the roles so far, with those of one more role
pub sum_fits : (g : FlatGround) (r n x : ℕ) → r < length (roles_of g) → n ≡ count_all (take r (inputs_of g)) → x ≡ length (texts_at (inputs_of g) r)
    → n + x ≤ 2 ^ 32
sum_fits g r n x lt sum is =
    let same : length (inputs_of g) ≡ length (roles_of g) = (fits g).inputs_fit in
    let within = count_within (inputs_of g) r (omega arith) in
    let few = few_inputs g in
    omega arith

pub sum_more : (g : FlatGround) (r n x m : ℕ) → r < length (roles_of g) → n ≡ count_all (take r (inputs_of g)) → x ≡ length (texts_at (inputs_of g) r)
    → m ≡ r + 1 → n + x ≡ count_all (take m (inputs_of g))
sum_more g r n x m lt sum is next =
    let same : length (inputs_of g) ≡ length (roles_of g) = (fits g).inputs_fit in
    let more = count_more (inputs_of g) r (omega arith) in
    let here : m ≡ suc r = omega arith in
    let all : n + x ≡ count_all (take (suc r) (inputs_of g)) = omega arith in
    all ∙ ap (λ (k : ℕ). count_all (take k (inputs_of g))) (sym here)

pub sum_all : (g : FlatGround) (r n : ℕ) → r ≡ length (roles_of g) → n ≡ count_all (take r (inputs_of g)) → n ≡ count_all (inputs_of g)
sum_all g r n all sum =
    let same : length (inputs_of g) ≡ length (roles_of g) = (fits g).inputs_fit in
    sum ∙ ap count_all (take_all r (inputs_of g) (omega arith))

counts_all : (rules : List Alternative) (rs : List Tree) → count_all (map (λ r. map text (input_list rules r)) rs) ≡ count_inputs rules rs
counts_all rules [] = refl
counts_all rules (r ∷ rs) =
    let here = length-map (input_list rules r) text in
    let rest = counts_all rules rs in
    omega arith

-- what the nodes of the network stand for
abbrev nodes_meant : List Alternative → Net → List NetNode
nodes_meant rules net = map (meant rules) (names_of (gates_of net))

nodes_are : (rules : List Alternative) (net : Net) → length (gates_of net) ≡ length (nodes_meant rules net)
nodes_are rules net =
    sym (length-map (gates_of net) (λ (gate : Gate). gate.name)) ∙ sym (length-map (names_of (gates_of net)) (meant rules))

measures_are : (rules : List Alternative) (g : FlatGround) (net : Net) → IsGround rules g
    → net_lines (length (base_of g)) (count_all (inputs_of g)) (length (instances_of g)) g.dropped (length (gates_of net))
    ≡ measures rules (nodes_meant rules net)
measures_are rules g net are =
    let base : length (base_of g) ≡ length (base_list rules) =
    ap (λ (ts : List (List ℕ)). length ts) are.base_are ∙ length-map (base_list rules) text in
    let inputs : count_all (inputs_of g) ≡ count_inputs rules (role_list rules) = ap count_all are.inputs_are ∙ counts_all rules (role_list rules) in
    let kept : length (instances_of g) ≡ length (listing rules).kept =
    ap (λ (ks : List Kept). length ks) are.kept_are ∙ length-map (listing rules).kept (numbered rules) in
    let heads : g.dropped ≡ dropped rules = are.dropped_is in
    let nodes = nodes_are rules net in
    ap (λ (n : ℕ). net_lines n (count_all (inputs_of g)) (length (instances_of g)) g.dropped (length (gates_of net))) base
    ∙ ap (λ (n : ℕ). net_lines (length (base_list rules)) n (length (instances_of g)) g.dropped (length (gates_of net))) inputs
    ∙ ap (λ (n : ℕ). net_lines (length (base_list rules)) (count_inputs rules (role_list rules)) n g.dropped (length (gates_of net))) kept
    ∙ ap (λ (n : ℕ). net_lines (length (base_list rules)) (count_inputs rules (role_list rules)) (length (listing rules).kept) n
    (length (gates_of net))) heads
    ∙ ap (λ (n : ℕ). net_lines (length (base_list rules)) (count_inputs rules (role_list rules)) (length (listing rules).kept) (dropped rules) n)
    nodes

-- the numbers that were written are those of the items
pub items_measured : (width : Width) (items : List Tree) (g : FlatGround) (net : Net) (made output : List ℕ) (status : Status) → IsItsGround width items g → IsNetOf g net
    → made ≡ net_lines (length (base_of g)) (count_all (inputs_of g)) (length (instances_of g)) g.dropped (length (gates_of net))
    → output ≡ made → status ≡ Answer → IsNetReply width items (record { output = output; status = status })
items_measured width items g net made output status its of lines is_output is_status =
    let rules = alternatives items in
    let nodes = nodes_meant rules net in
    let all : output ≡ measures rules nodes = is_output ∙ lines ∙ measures_are rules g net its.ground in
    inr (its.lawful, its.within, nodes, nodes_law rules g its.ground net of, cc (all, is_status))
