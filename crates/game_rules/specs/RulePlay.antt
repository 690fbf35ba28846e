-- This crate's own: what `run` promises does not rest on it.
-- Play over kept instances, in numbers: going through them once finds what holds, and the kinds of
-- what holds tell the rest.
use Rattle.std.specs.Prelude.{ℕ, zero, suc, Bool, true, false, not, nat_lt, max, ◌==◌, ◌&&◌, ◌||◌, List, [], ◌∷◌, length, filter, slice_index, slice_index_or, Option, Some, None, if◌then◌else◌}
use Rattle.std.specs.List.{range_with_len}
use Rattle.statement.specs.declared.kind.Kind.{Kind}
use Rattle.statement.specs.declared.kind.Kind.TheVariants.{Fixed, Now, Does, Next, Legal, Goal, Terminal, Other}
use Rattle.statement.specs.Kept.{Kept}
use Rattle.ground_instances.specs.Grounds.{texts_at}
use Rattle.game_rules.specs.declared.naming.Naming.{Naming}
use Rattle.game_rules.specs.declared.naming.Naming.TheVariants.{ByNext, ByLegal}
use Rattle.statement.specs.Rules.{Rules, State, Turn}
use Rattle.statement.specs.GameNumbers.{stands_in}

-- where no role moves
abbrev pub no_turn : Turn
no_turn = []

-- the numbers that are marked, ascending
abbrev pub marked : List Bool → List ℕ
marked marks = filter (λ n. slice_index_or marks n false) (range_with_len 0 (length marks))

abbrev pub kind_at : List Kind → ℕ → Kind
kind_at kinds n = slice_index_or kinds n Other

-- what the state and the joint move make right
abbrev pub is_given : State → Turn → Kind → Bool
is_given s j Fixed = false
is_given s j (Now p) = stands_in p s
is_given s j (Does r m) = nat_lt r (length j) && (slice_index j r == m)
is_given s j (Next p) = false
is_given s j (Legal r m) = false
is_given s j (Goal r v) = false
is_given s j Terminal = false
is_given s j Other = false

-- an atom is right where it is given or found
abbrev pub is_right : List Kind → State → Turn → List ℕ → ℕ → Bool
is_right kinds s j found n = is_given s j (kind_at kinds n) || stands_in n found

abbrev pub all_right : (ℕ → Bool) → List (ℕ × Bool) → Bool
all_right right [] = true
all_right right (l ∷ ls) = (if l.1 then not (right l.0) else right l.0) && all_right right ls

-- with the heads of the instances whose bodies are right by what was found before them
abbrev pub found_by : List Kind → State → Turn → List ℕ → List Kept → List ℕ
found_by kinds s j found [] = found
found_by kinds s j found (k ∷ ks) =
    found_by kinds s j (if all_right (is_right kinds s j found) k.body then k.head ∷ found else found) ks

-- what holds in a state and under a joint move
abbrev pub holds : List Kind → List Kept → State → Turn → ℕ → Bool
holds kinds kept s j = is_right kinds s j (found_by kinds s j [] kept)

-- some number below n passes
abbrev pub some_below : (ℕ → Bool) → ℕ → Bool
some_below test zero = false
some_below test (suc n) = some_below test n || test n

-- the greatest value of the numbers below n, or 0
abbrev pub greatest_below : (ℕ → ℕ) → ℕ → ℕ
greatest_below value zero = 0
greatest_below value (suc n) = max (greatest_below value n) (value n)

abbrev pub is_terminal : Kind → Bool
is_terminal Fixed = false
is_terminal (Now p) = false
is_terminal (Does r m) = false
is_terminal (Next p) = false
is_terminal (Legal r m) = false
is_terminal (Goal r v) = false
is_terminal Terminal = true
is_terminal Other = false

-- the value that a goal gives a role, else 0
abbrev pub goal_value : ℕ → Kind → ℕ
goal_value r Fixed = 0
goal_value r (Now p) = 0
goal_value r (Does q m) = 0
goal_value r (Next p) = 0
goal_value r (Legal q m) = 0
goal_value r (Goal q v) = if q == r then v else 0
goal_value r Terminal = 0
goal_value r Other = 0

-- the base proposition that `next` names, and the move of a role that `legal` names
abbrev pub number_named : Naming → Kind → Option ℕ
number_named w Fixed = None
number_named w (Now p) = None
number_named w (Does r m) = None
number_named ByNext (Next p) = Some p
number_named (ByLegal role) (Next p) = None
number_named ByNext (Legal r m) = None
number_named (ByLegal role) (Legal r m) = if r == role then Some m else None
number_named w (Goal r v) = None
number_named w Terminal = None
number_named w Other = None

abbrev pub is_number : Option ℕ → ℕ → Bool
is_number None n = false
is_number (Some m) n = m == n

abbrev pub names : Naming → Kind → ℕ → Bool
names w kind n = is_number (number_named w kind) n

-- an atom that holds is `terminal`
abbrev pub ends : List Kind → (ℕ → Bool) → Bool
ends kinds right = some_below (λ a. right a && is_terminal (kind_at kinds a)) (length kinds)

-- the greatest goal of a role that holds, or 0
abbrev pub best_goal : List Kind → (ℕ → Bool) → ℕ → ℕ
best_goal kinds right r = greatest_below (λ a. if right a then goal_value r (kind_at kinds a) else 0) (length kinds)

-- an atom that holds names the number
abbrev pub is_named : List Kind → (ℕ → Bool) → Naming → ℕ → Bool
is_named kinds right w n = some_below (λ a. right a && names w (kind_at kinds a) n) (length kinds)

-- the numbers below n that atoms that hold name, ascending
abbrev pub named_below : List Kind → (ℕ → Bool) → Naming → ℕ → List ℕ
named_below kinds right w n = filter (is_named kinds right w) (range_with_len 0 n)

-- the rules of a game, by what an instantiation holds
abbrev pub rules_by : List (List (List ℕ)) → List Bool → List Kind → List Kept → Rules
rules_by inputs starts kinds kept = record {
  roles = length inputs;
  moves = λ r. length (texts_at inputs r);
  start = marked starts;
  ended = λ s. ends kinds (holds kinds kept s no_turn);
  goal = λ s r. best_goal kinds (holds kinds kept s no_turn) r;
  legal = λ s r. named_below kinds (holds kinds kept s no_turn) (ByLegal r) (length (texts_at inputs r));
  after = λ s j. named_below kinds (holds kinds kept s j) ByNext (length starts);
}
