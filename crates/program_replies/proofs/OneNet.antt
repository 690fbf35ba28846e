-- Each list of items has one reply to `net`.
use Rattle.std.proofs.Common.{ℕ, ◌≡◌, ◌+◌, inl, inr, List, ◌++◌, length, length-append, refl, sym, ◌∙◌, ap}
use Rattle.std.proofs.lemmas.List.Sorted.{IsPermutation-refl, length_permutation}
use Rattle.std.specs.Prelude.{Option, Some, None}
use Rattle.statement.specs.Tree.{Tree}
use Rattle.statement.specs.Clause.{Alternative}
use Rattle.statement.specs.Items.{alternatives}
use Rattle.statement.specs.Profile.{HasNoFault}
use Rattle.statement.specs.declared.excess.Excess.{Excess}
use Rattle.statement.specs.declared.ground_fault.GroundFault.TheVariants.{TooMany}
use Rattle.statement.specs.declared.width.Width.{Width}
use Rattle.statement.specs.Limits.{count_inputs, excess_in}
use Rattle.statement.specs.Listing.{listing, role_list, base_list}
use Rattle.statement.specs.GoalsAndMoves.{dropped}
use Rattle.statement.specs.Nodes.{NetNode, sources, inner_nodes, AreNodesOf}
use Rattle.statement.specs.LimitTexts.{limit_fault_words}
use Rattle.program_replies.proofs.OneCheck.{some_verdict, one_refusal, refused_or_lawful}
use Rattle.program_replies.proofs.OnePlay.{one_limit}
use Rattle.statement.specs.Answers.{Reply, answer, refusal}
use Rattle.statement.specs.Games.{PassesLimit}
use Rattle.statement.specs.Networks.{net_lines, measures, MeasuresItems, IsNetReply}

-- items without a fault pass a limit, or are measured
some_net_of : (width : Width) (items : List Tree) → HasNoFault items → (found : Option Excess) → excess_in width (alternatives items) ≡ found
    → (reply : Reply) × IsNetReply width items reply
some_net_of width items lawful (Some excess) e = (refusal (limit_fault_words (TooMany excess)), inl (inr (lawful, excess, e, refl)))
some_net_of width items lawful None e =
    let rules = alternatives items in
    let nodes = sources rules ++ inner_nodes rules in
    let are : AreNodesOf rules nodes = record { behind = inner_nodes rules; all = refl; same = IsPermutation-refl (inner_nodes rules) } in
    (answer (measures rules nodes), inr (lawful, e, nodes, are, refl))

pub some_net : (width : Width) (items : List Tree) → (reply : Reply) × IsNetReply width items reply
some_net width items =
    elim (some_verdict items) [
      | inl refused ↦ (refused.0, inl (inl refused.1))
      | inr lawful ↦ some_net_of width items lawful (excess_in width (alternatives items)) refl
    ]

limit_or_measures : (width : Width) (items : List Tree) (reply other : Reply) → PassesLimit width items reply → MeasuresItems width items other → ⊥
limit_or_measures width items reply other p q =
    let passed = p.2 in
    let within = q.1 in
    cc

-- all networks of the rules have as many nodes
as_many : (rules : List Alternative) (nodes : List NetNode) → AreNodesOf rules nodes
    → length nodes ≡ length (sources rules) + length (inner_nodes rules)
as_many rules nodes are =
    ap length are.all ∙ length-append (sources rules) are.behind
    ∙ ap (λ (n : ℕ). length (sources rules) + n) (length_permutation (inner_nodes rules) are.behind are.same)

same_measures : (rules : List Alternative) (nodes others : List NetNode) → AreNodesOf rules nodes → AreNodesOf rules others
    → measures rules nodes ≡ measures rules others
same_measures rules nodes others a b =
    ap (net_lines (length (base_list rules)) (count_inputs rules (role_list rules)) (length (listing rules).kept) (dropped rules))
    (as_many rules nodes a ∙ sym (as_many rules others b))

pub one_net : (width : Width) (items : List Tree) (reply other : Reply) → IsNetReply width items reply → IsNetReply width items other → reply ≡ other
one_net width items reply other (inl (inl p)) (inl (inl q)) = one_refusal items reply other p q
one_net width items reply other (inl (inl p)) (inl (inr q)) = absurd (refused_or_lawful items reply p q.0)
one_net width items reply other (inl (inl p)) (inr q) = absurd (refused_or_lawful items reply p q.0)
one_net width items reply other (inl (inr p)) (inl (inl q)) = absurd (refused_or_lawful items other q p.0)
one_net width items reply other (inl (inr p)) (inl (inr q)) = one_limit width items reply other p q
one_net width items reply other (inl (inr p)) (inr q) = absurd (limit_or_measures width items reply other p q)
one_net width items reply other (inr p) (inl (inl q)) = absurd (refused_or_lawful items other q p.0)
one_net width items reply other (inr p) (inl (inr q)) = absurd (limit_or_measures width items other reply q p)
one_net width items reply other (inr p) (inr q) = p.4 ∙ ap answer (same_measures (alternatives items) p.2 q.2 p.3 q.3) ∙ sym q.4
