-- This crate's own: what `run` promises does not rest on it.
-- Where an atom stands in play, by the numbers of roles, base propositions, inputs and values.
use Rattle.std.specs.Prelude.{◌≡◌, ◌≤◌, List, Some, decimal}
use Rattle.statement.specs.Tree.{Tree, name}
use Rattle.statement.specs.Words.{w_true, w_does, w_next, w_legal, w_goal, w_terminal}
use Rattle.statement.specs.Clause.{Atom, Alternative, relation_of}
use Rattle.statement.specs.Dependence.{IsFixed}
use Rattle.statement.specs.declared.kind.Kind.{Kind}
use Rattle.statement.specs.declared.kind.Kind.TheVariants.{Fixed, Now, Does, Next, Legal, Goal, Terminal, Other}
use Rattle.statement.specs.Meaning.{atom0, atom1, atom2}
use Rattle.statement.specs.Listing.{role_list, base_list, input_list}
use Rattle.statement.specs.Kinds.{place_in}

-- what an atom of a kind is, but for `Other`
abbrev pub MeansKind : List Alternative → Atom → Kind → Type 0
MeansKind rules x Fixed = IsFixed rules (relation_of x)
MeansKind rules x (Now n) = (p : Tree) × (x ≡ atom1 w_true p) × (place_in p (base_list rules) ≡ Some n)
MeansKind rules x (Does k n) =
    (r : Tree) × (m : Tree) × (x ≡ atom2 w_does r m) × (place_in r (role_list rules) ≡ Some k) × (place_in m (input_list rules r) ≡ Some n)
MeansKind rules x (Next n) = (p : Tree) × (x ≡ atom1 w_next p) × (place_in p (base_list rules) ≡ Some n)
MeansKind rules x (Legal k n) =
    (r : Tree) × (m : Tree) × (x ≡ atom2 w_legal r m) × (place_in r (role_list rules) ≡ Some k) × (place_in m (input_list rules r) ≡ Some n)
MeansKind rules x (Goal k v) =
    (r : Tree) × (x ≡ atom2 w_goal r (name (decimal v))) × (place_in r (role_list rules) ≡ Some k) × (v ≤ 100)
MeansKind rules x Terminal = x ≡ atom0 w_terminal
MeansKind rules x Other = ⊥
