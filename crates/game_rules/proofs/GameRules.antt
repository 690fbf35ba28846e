-- The game by numbers of well formed rules, and that of an instantiation.
use Rattle.std.proofs.Common.{ℕ, ◌<◌, Bool, true, ◌≡◌, ◌↔◌, List, [], length, map, sym, ap, subst, ◌∙◌}
use Rattle.std.specs.Prelude.{All, filter, slice_index, slice_index_or, false}
use Rattle.std.specs.List.{range_with_len}
use Rattle.std.proofs.lemmas.List.{length-map, get_or-map}
use Rattle.std.proofs.lemmas.List.Elements.{All-filter}
use Rattle.statement.specs.Tree.{Tree, text}
use Rattle.statement.specs.Clause.{Alternative}
use Rattle.statement.specs.declared.kind.Kind.{Kind}
use Rattle.ground_instances.specs.declared.flat_ground.FlatGround.{FlatGround}
use Rattle.statement.specs.Meaning.{IsInAfter, IsLegal, IsEnded}
use Rattle.statement.specs.Listing.{listing, role_list, base_list, input_list}
use Rattle.meaning.specs.Listed.{IsWellFormed}
use Rattle.statement.specs.Kinds.{kind_of}
use Rattle.statement.specs.Kept.{Kept, numbered}
use Rattle.ground_instances.specs.Grounds.{text_at, texts_at, IsGroundOf}
use Rattle.ground_instances.specs.GroundView.{roles_of, base_of, inputs_of, kinds_of, instances_of, IsGround}
use Rattle.statement.specs.GoalsAndMoves as play
use Rattle.statement.specs.GoalsAndMoves.{AreStart, AreAfter, AreLegal, IsGoal}
use Rattle.game_rules.specs.declared.naming.Naming.TheVariants.{ByNext, ByLegal}
use Rattle.statement.specs.NamedRules.{NamedRules}
use Rattle.statement.specs.Played.{nth_tree}
use Rattle.statement.specs.Rules.{Turn, IsTurn}
use Rattle.game_rules.specs.RulePlay.{no_turn, marked, holds, is_named, rules_by}
use Rattle.statement.specs.GameNumbers.{state_of, joint_of, trees_at}
use Rattle.statement.specs.GameOfRules.{role_at, inputs_at, AreNumbersOf, IsGameOf}
use Rattle.game_rules.specs.RuleState.{rules_of, named_rules_of}
use Rattle.game_rules.specs.RuleLaws.{below_range}
use Rattle.game.proofs.Facts.{get_or_any}
use Rattle.game_rules.proofs.ByRules.{ends_by_rules, start_are}
use Rattle.game_rules.proofs.LegalRules.{legal_are}
use Rattle.game_rules.proofs.AfterRules.{after_are}
use Rattle.game_rules.proofs.GoalRules.{goal_are}

-- the game by numbers, by the texts, marks, kinds and instances
abbrev pub game_by : List (List ℕ) → List (List (List ℕ)) → List Bool → List Kind → List Kept → NamedRules
game_by roles inputs starts kinds kept = record {
  rules = rules_by inputs starts kinds kept;
  role_name = λ r. text_at roles r;
  move_name = λ r m. text_at (texts_at inputs r) m;
}

-- the text of a tree at a place
text_there : (ts : List Tree) (k : ℕ) → k < length ts → text_at (map text ts) k ≡ text (nth_tree ts k)
text_there ts k lt = get_or-map text ts k (nth_tree ts k) [] lt ∙ ap text (get_or_any ts k (nth_tree ts k) _ lt)

module _ (rules : List Alternative) (w : IsWellFormed rules) where
  abbrev inputs : List (List (List ℕ))
  inputs = map (λ r. map text (input_list rules r)) (role_list rules)

  abbrev starts : List Bool
  starts = map (play.starts rules) (base_list rules)

  abbrev kinds : List Kind
  kinds = map (kind_of rules) (listing rules).atoms

  abbrev kept : List Kept
  kept = map (numbered rules) (listing rules).kept

  abbrev game : NamedRules
  game = game_by (map text (role_list rules)) inputs starts kinds kept

  roles_counted : length inputs ≡ length (role_list rules)
  roles_counted = length-map (role_list rules) (λ (r : Tree). map text (input_list rules r))

  starts_counted : length starts ≡ length (base_list rules)
  starts_counted = length-map (base_list rules) (play.starts rules)

  inside : (r : ℕ) → r < length inputs → r < length (role_list rules)
  inside r lt = subst (λ (n : ℕ). r < n) roles_counted lt

  texts_there : (r : ℕ) → r < length inputs → texts_at inputs r ≡ map text (inputs_at rules r)
  texts_there r lt =
      get_or-map (λ (q : Tree). map text (input_list rules q)) (role_list rules) r (role_at rules r) [] (inside r lt)
      ∙ ap (λ (q : Tree). map text (input_list rules q)) (get_or_any (role_list rules) r (role_at rules r) _ (inside r lt))

  moves_counted : (r : ℕ) → r < length inputs → length (texts_at inputs r) ≡ length (inputs_at rules r)
  moves_counted r lt = ap (λ (ts : List (List ℕ)). length ts) (texts_there r lt) ∙ length-map (inputs_at rules r) text

  move_named : (r m : ℕ) → r < length inputs → m < length (texts_at inputs r) → text_at (texts_at inputs r) m ≡ text (nth_tree (inputs_at rules r) m)
  move_named r m lt below =
      ap (λ (ts : List (List ℕ)). text_at ts m) (texts_there r lt)
      ∙ text_there (inputs_at rules r) m (subst (λ (n : ℕ). m < n) (moves_counted r lt) below)

  marked_below : All (λ n. n < length (base_list rules)) (marked starts)
  marked_below =
      subst (λ (n : ℕ). All (λ k. k < n) (marked starts)) starts_counted
      (All-filter (λ n. slice_index_or starts n false) (λ n. n < length starts) (range_with_len 0 (length starts)) (below_range (length starts)))

  legal_numbers : (s : List ℕ) (r : ℕ) → r < length inputs
      → AreNumbersOf (inputs_at rules r) (IsLegal rules (state_of rules s) (role_at rules r)) (game.rules.legal s r)
  legal_numbers s r lt =
      subst (λ (n : ℕ). AreNumbersOf (inputs_at rules r) (IsLegal rules (state_of rules s) (role_at rules r))
      (filter (is_named kinds (holds kinds kept s no_turn) (ByLegal r)) (range_with_len 0 n))) (sym (moves_counted r lt)) record {
        within = All-filter (is_named kinds (holds kinds kept s no_turn) (ByLegal r)) (λ m. m < length (inputs_at rules r)) _
            (below_range (length (inputs_at rules r)));
        are = legal_are rules w s r (inside r lt);
      }

  next_numbers : (s j : List ℕ) → IsTurn game.rules j
      → AreNumbersOf (base_list rules) (IsInAfter rules (state_of rules s) (joint_of rules j)) (game.rules.after s j)
  next_numbers s j turn =
      let known : (q : ℕ) → q < length (role_list rules) → slice_index j q < length (inputs_at rules q) =
      λ q below. let lt = subst (λ (n : ℕ). q < n) (sym roles_counted) below in
      subst (λ (n : ℕ). slice_index j q < n) (moves_counted q lt) (turn.each_known q lt) in
      subst (λ (n : ℕ). AreNumbersOf (base_list rules) (IsInAfter rules (state_of rules s) (joint_of rules j))
      (filter (is_named kinds (holds kinds kept s j) ByNext) (range_with_len 0 n))) (sym starts_counted) record {
        within = All-filter (is_named kinds (holds kinds kept s j) ByNext) (λ p. p < length (base_list rules)) _
            (below_range (length (base_list rules)));
        are = after_are rules w s j (turn.of_each_role ∙ roles_counted) known;
      }

  pub game_are : IsGameOf rules game
  game_are = record {
    roles_are = roles_counted;
    moves_are = moves_counted;
    role_names = λ r lt. text_there (role_list rules) r (inside r lt);
    move_names = move_named;
    starts = record { within = marked_below; are = start_are rules w };
    ends = ends_by_rules rules w;
    goals = λ s r lt. goal_are rules w s r (inside r lt);
    legals = legal_numbers;
    follows = next_numbers;
  }

-- the rules by substitution have a game by numbers
pub has_game : (rules : List Alternative) → IsWellFormed rules → (g : NamedRules) × IsGameOf rules g
has_game rules w = (game rules w, game_are rules w)

-- whatever has the texts, marks, kinds and instances of the rules has their game
pub game_by_rules : (rules : List Alternative) (roles base : List (List ℕ)) (inputs : List (List (List ℕ))) (starts : List Bool) (kinds : List Kind)
    (kept : List Kept) (dropped : ℕ)
    → IsGroundOf rules roles base inputs starts kinds kept dropped → IsGameOf rules (game_by roles inputs starts kinds kept)
game_by_rules rules roles base inputs starts kinds kept dropped is =
    subst (λ (xs : List (List ℕ)). IsGameOf rules (game_by xs inputs starts kinds kept)) (sym is.roles_are)
    (subst (λ (xs : List (List (List ℕ))). IsGameOf rules (game_by (map text (role_list rules)) xs starts kinds kept)) (sym is.inputs_are)
    (subst (λ (xs : List Bool). IsGameOf rules
    (game_by (map text (role_list rules)) (map (λ r. map text (input_list rules r)) (role_list rules)) xs kinds kept)) (sym is.starts_are)
    (subst (λ (xs : List Kind). IsGameOf rules
    (game_by (map text (role_list rules)) (map (λ r. map text (input_list rules r)) (role_list rules)) (map (play.starts rules) (base_list rules))
    xs kept)) (sym is.kinds_are)
    (subst (λ (xs : List Kept). IsGameOf rules
    (game_by (map text (role_list rules)) (map (λ r. map text (input_list rules r)) (role_list rules)) (map (play.starts rules) (base_list rules))
    (map (kind_of rules) (listing rules).atoms) xs)) (sym is.kept_are)
    (game_are rules is.well_formed)))))

pub game_of_ground : (rules : List Alternative) (g : FlatGround) → IsGround rules g → IsGameOf rules (named_rules_of g)
game_of_ground rules g is = game_by_rules rules (roles_of g) (base_of g) (inputs_of g) g.starts.items (kinds_of g) (instances_of g) g.dropped is

-- the state has ended where the rules say so
pub ended_by_rules : (rules : List Alternative) (g : FlatGround) → IsGround rules g → (s : List ℕ)
    → ((rules_of g).ended s ≡ true) ↔ IsEnded rules (state_of rules s)
ended_by_rules rules g is = (game_of_ground rules g is).ends

-- the start state is that of the rules
pub start_by_rules : (rules : List Alternative) (g : FlatGround) → IsGround rules g → AreStart rules (trees_at (base_list rules) (rules_of g).start)
start_by_rules rules g is = (game_of_ground rules g is).starts.are

within_roles : (rules : List Alternative) (g : FlatGround) → IsGround rules g → (r : ℕ) → r < length (role_list rules) → r < (rules_of g).roles
within_roles rules g is r lt = subst (λ (n : ℕ). r < n) (sym (game_of_ground rules g is).roles_are) lt

-- the legal moves are those of the rules
pub legal_by_rules : (rules : List Alternative) (g : FlatGround) → IsGround rules g → (s : List ℕ) (r : ℕ) → r < length (role_list rules)
    → AreLegal rules (state_of rules s) (nth_tree (role_list rules) r)
    (trees_at (input_list rules (nth_tree (role_list rules) r)) ((rules_of g).legal s r))
legal_by_rules rules g is s r lt = ((game_of_ground rules g is).legals s r (within_roles rules g is r lt)).are

-- the state after a turn is that of the rules
pub after_by_rules : (rules : List Alternative) (g : FlatGround) → IsGround rules g → (s : List ℕ) (j : Turn) → IsTurn (rules_of g) j
    → AreAfter rules (state_of rules s) (joint_of rules j) (trees_at (base_list rules) ((rules_of g).after s j))
after_by_rules rules g is s j turn = ((game_of_ground rules g is).follows s j turn).are

-- the goals are those of the rules
pub goals_by_rules : (rules : List Alternative) (g : FlatGround) → IsGround rules g → (s : List ℕ) (r : ℕ) → r < length (role_list rules)
    → IsGoal rules (state_of rules s) (nth_tree (role_list rules) r) ((rules_of g).goal s r)
goals_by_rules rules g is s r lt = (game_of_ground rules g is).goals s r (within_roles rules g is r lt)
