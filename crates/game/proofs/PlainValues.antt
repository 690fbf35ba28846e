-- Where a state at the bound is worth nothing, what a role can be sure of is the plain value.
use Rattle.std.proofs.Common.{ℕ, zero, suc, ◌≡◌, Bool, true, false, cond, List, [], ◌∷◌, get_or, refl, ap, ◌∙◌, Option, Some, None}
use Rattle.std.specs.Prelude.{◌==◌, ◌||◌}
use Rattle.std.specs.Option.{option_map_or}
use Rattle.statement.specs.declared.at_bound.AtBound.TheVariants.{Zero}
use Rattle.game.specs.PlainValue.{plain_value, plain_worst, plain_choice, plain_reply, plain_line}
use Rattle.statement.specs.Rules.{Rules, State, Turn, is_stuck, turns_with}
use Rattle.statement.specs.Value.{greatest, least, least_after, value, worst, choice_of, reply_of, line_of}
use Rattle.game.proofs.Alike.{maps_alike, finds_alike}

module _ (g : Rules) (role : ℕ) where
  same_at_the_bound : (ended stuck : Bool) (goal : ℕ) → cond ended goal (cond stuck 0 0) ≡ cond ended goal 0
  same_at_the_bound true stuck goal = refl
  same_at_the_bound false true goal = refl
  same_at_the_bound false false goal = refl

  least_plain : (u v : State → ℕ) → ((s : State) → u s ≡ v s) → (s : State) (own : ℕ) → least_after g u s role own ≡ least_after g v s role own
  least_plain u v same s own =
      ap least (maps_alike (λ j. u (g.after s j)) (λ j. v (g.after s j)) (turns_with g s role own)
      (λ k d lt. same (g.after s (get_or (turns_with g s role own) k d))))

  pub value_plain : (depth : ℕ) (s : State) → value g role depth Zero s ≡ plain_value g role depth s
  value_plain zero s = same_at_the_bound (g.ended s) (is_stuck g s) (g.goal s role)
  value_plain (suc depth) s =
      ap (λ (ns : List ℕ). cond (g.ended s) (g.goal s role) (cond (is_stuck g s) 0 (greatest ns)))
      (maps_alike (λ m. least_after g (value g role depth Zero) s role m) (λ m. least_after g (plain_value g role depth) s role m) (g.legal s role)
      (λ k d lt. least_plain (value g role depth Zero) (plain_value g role depth) (value_plain depth) s (get_or (g.legal s role) k d)))

  pub worst_plain : (depth : ℕ) (s : State) (own : ℕ) → worst g role depth Zero s own ≡ plain_worst g role depth s own
  worst_plain depth s own = least_plain (value g role depth Zero) (plain_value g role depth) (value_plain depth) s own

  pub choice_plain : (depth : ℕ) (s : State) → choice_of g role depth Zero s ≡ plain_choice g role depth s
  choice_plain zero s = refl
  choice_plain (suc depth) s =
      ap (λ (o : Option ℕ). cond (g.ended s || is_stuck g s) None o)
      (finds_alike (λ m. worst g role depth Zero s m == value g role (suc depth) Zero s)
      (λ m. plain_worst g role depth s m == plain_value g role (suc depth) s) (g.legal s role)
      (λ k d lt.
      ap (λ (n : ℕ). n == value g role (suc depth) Zero s) (worst_plain depth s (get_or (g.legal s role) k d))
      ∙ ap (λ (n : ℕ). plain_worst g role depth s (get_or (g.legal s role) k d) == n) (value_plain (suc depth) s)))

  pub reply_plain : (depth : ℕ) (s : State) (own : ℕ) → reply_of g role depth Zero s own ≡ plain_reply g role depth s own
  reply_plain depth s own =
      finds_alike (λ j. value g role depth Zero (g.after s j) == worst g role depth Zero s own)
      (λ j. plain_value g role depth (g.after s j) == plain_worst g role depth s own) (turns_with g s role own)
      (λ k d lt.
      let t = g.after s (get_or (turns_with g s role own) k d) in
      ap (λ (n : ℕ). n == worst g role depth Zero s own) (value_plain depth t)
      ∙ ap (λ (n : ℕ). plain_value g role depth t == n) (worst_plain depth s own))

  pub line_plain : (depth : ℕ) (s : State) → line_of g role depth Zero s ≡ plain_line g role depth s
  line_plain zero s = refl
  line_plain (suc depth) s =
      go (choice_of g role (suc depth) Zero s) (line_plain depth)
      ∙ ap (λ (o : Option ℕ). option_map_or (λ own. option_map_or (λ j. j ∷ plain_line g role depth (g.after s j)) (plain_reply g role depth s own)
      []) o []) (choice_plain (suc depth) s)
    where
      with_reply : (o : Option Turn) → ((t : State) → line_of g role depth Zero t ≡ plain_line g role depth t)
          → option_map_or (λ j. j ∷ line_of g role depth Zero (g.after s j)) o [] ≡ option_map_or (λ j. j ∷ plain_line g role depth (g.after s j)) o
          []
      with_reply None more = refl
      with_reply (Some j) more = ap (λ (js : List Turn). j ∷ js) (more (g.after s j))

      go : (o : Option ℕ) → ((t : State) → line_of g role depth Zero t ≡ plain_line g role depth t)
          → option_map_or (λ own. option_map_or (λ j. j ∷ line_of g role depth Zero (g.after s j)) (reply_of g role depth Zero s own) []) o []
          ≡ option_map_or (λ own. option_map_or (λ j. j ∷ plain_line g role depth (g.after s j)) (plain_reply g role depth s own) []) o []
      go None more = refl
      go (Some own) more =
          with_reply (reply_of g role depth Zero s own) more
          ∙ ap (λ (o : Option Turn). option_map_or (λ j. j ∷ plain_line g role depth (g.after s j)) o []) (reply_plain depth s own)
