-- The reply to `net`: how large the instantiation of a description and its network are.
use Rattle.std.specs.Prelude.{ℕ, ◌≡◌, ◌⊎◌, List, ◌++◌, codes, length, None}
use Rattle.statement.specs.Tree.{Tree}
use Rattle.statement.specs.Clause.{Alternative}
use Rattle.statement.specs.Items.{alternatives}
use Rattle.statement.specs.Profile.{HasNoFault}
use Rattle.statement.specs.declared.width.Width.{Width}
use Rattle.statement.specs.Limits.{count_inputs, excess_in}
use Rattle.statement.specs.Listing.{listing, role_list, base_list}
use Rattle.statement.specs.GoalsAndMoves.{dropped}
use Rattle.statement.specs.Nodes.{NetNode, AreNodesOf}
use Rattle.statement.specs.Answers.{Reply, answer}
use Rattle.statement.specs.Checking.{count_line}
use Rattle.statement.specs.Games.{HasNoGame}

-- the numbers of base propositions, of inputs, of kept instances, of heads without effect on play, and of nodes
abbrev pub net_lines : ℕ → ℕ → ℕ → ℕ → ℕ → List ℕ
net_lines base inputs instances heads nodes =
    count_line (codes "base") base ++ count_line (codes "inputs") inputs ++ count_line (codes "instances") instances
    ++ count_line (codes "dropped") heads ++ count_line (codes "nodes") nodes

-- the same of the rules, where a network of them has these nodes
abbrev pub measures : List Alternative → List NetNode → List ℕ
measures rules nodes =
    net_lines (length (base_list rules)) (count_inputs rules (role_list rules)) (length (listing rules).kept) (dropped rules) (length nodes)

-- the items are a description within all limits, and the reply says how large it and its network are
abbrev pub MeasuresItems : Width → List Tree → Reply → Type 0
MeasuresItems width items reply =
    HasNoFault items × (excess_in width (alternatives items) ≡ None)
    × (nodes : List NetNode) × AreNodesOf (alternatives items) nodes × (reply ≡ answer (measures (alternatives items) nodes))

abbrev pub IsNetReply : Width → List Tree → Reply → Type 0
IsNetReply width items reply = HasNoGame width items reply ⊎ MeasuresItems width items reply
