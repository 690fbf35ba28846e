-- What steps say of the literals that they are for.
use Rattle.std.proofs.Common.{ℕ, zero, suc, ◌≡◌, ◌<◌, Bool, true, not, cond, ◌⊎◌, inl, inr, List, [], ◌∷◌, ◌++◌, length, map, get_or, refl, sym, ◌∙◌, ap, subst, arith, Option, Some, None}
use Rattle.std.specs.Prelude.{slice_get, unwrap_or, IfSome}
use Rattle.statement.specs.Clause.{Alternative}
use Rattle.rules_clauses.specs.Store.{Data}
use Rattle.rules_clauses.specs.declared.numbered.Part.{Part}
use Rattle.ground_matching.specs.declared.placed.Mark.{Mark}
use Rattle.ground_matching.specs.Plans.{mark_of, number_in}
use Rattle.ground_rows.specs.declared.literal_steps.LiteralStep.{LiteralStep}
use Rattle.ground_rows.specs.declared.literal_steps.LiteralStep.TheVariants.{Compare}
use Rattle.ground_rows.specs.Pairs.{ArePair}
use Rattle.ground_rows.specs.declared.literal_steps.Side.{Side}
use Rattle.ground_rows.specs.Steps.{part_of, row_place, IsLiteralStep, IsStepAt, AreSteps}

same_step : (a b : LiteralStep) → Some a ≡ Some b → a ≡ b
same_step a b e = cc

same_marks : (a b : Mark) → Some a ≡ Some b → a ≡ b
same_marks a b e = cc

-- what is known of each element of a list, and of one behind it, is known of all
pub each_behind : (P : ℕ → LiteralStep → Type 0) (ss : List LiteralStep) (s : LiteralStep) → ((i : ℕ) (t : LiteralStep) → slice_get ss i ≡ Some t → P i t) → P (length ss) s
    → (i : ℕ) (t : LiteralStep) → slice_get (ss ++ s ∷ []) i ≡ Some t → P i t
each_behind P [] s h p zero t e = subst (λ (u : LiteralStep). P 0 u) (same_step s t e) p
each_behind P [] s h p (suc i) t e = absurd cc
each_behind P (r ∷ rs) s h p zero t e = h zero t e
each_behind P (r ∷ rs) s h p (suc i) t e = each_behind (λ j u. P (suc j) u) rs s (λ j u f. h (suc j) u f) p i t e

-- two terms were compared
pub record WereCompared (m : Mark) (ps : List Part) (values : List ℕ) (b : Bool) : Type 0 where
  pub same : Bool
  pub pair : ArePair values ps same
  pub marked : m.is_pair ≡ true
  pub passes : b ≡ cond m.is_negated same (not same)

pub were_compared : (m : Mark) (ps : List Part) (values : List ℕ) (n same : Bool) (l r : Side) → IsLiteralStep m ps (Compare n l r)
    → ArePair values (part_of l ∷ (part_of r ∷ [])) same → WereCompared m ps values (cond n same (not same))
were_compared m ps values n same l r i p =
    record {
      same = same;
      pair = subst (λ (qs : List Part). ArePair values qs same) (sym i.3) p;
      marked = i.1;
      passes = ap (λ (x : Bool). cond x same (not same)) (sym i.2);
    }

-- the number that is read is one that the row has
pub read_here : (P : ℕ → Type 0) (atoms values : List ℕ) (o : Option ℕ) (s : LiteralStep) → (row_place s ≡ None) ⊎ (row_place s ≡ o)
    → IfSome (number_in atoms (number_in values o)) P → IfSome (number_in atoms (number_in values (row_place s))) P
read_here P atoms values o s (inl e) h =
    subst (λ (q : Option ℕ). IfSome (number_in atoms (number_in values q)) P) (sym e) tt
read_here P atoms values o s (inr e) h = subst (λ (q : Option ℕ). IfSome (number_in atoms (number_in values q)) P) (sym e) h

some_mark : (rules : List Alternative) (d : Data) (ns : List ℕ) (i : ℕ) → i < length ns
    → slice_get (map (mark_of rules d) ns) i ≡ Some (mark_of rules d (get_or ns i 0))
some_mark rules d [] i h = absurd (let bad : ⊥ = omega (arith, h) in bad)
some_mark rules d (n ∷ ns) zero h = refl
some_mark rules d (n ∷ ns) (suc i) h = some_mark rules d ns i (omega (arith, h))

-- the step of a literal
pub step_here : (rules : List Alternative) (d : Data) (ns : List ℕ) (marks : List Mark) (parts : List (List Part)) (places : List (Option ℕ))
    (steps : List LiteralStep) (i : ℕ) (s : LiteralStep)
    → marks ≡ map (mark_of rules d) ns → AreSteps marks parts places steps → i < length ns → slice_get steps i ≡ Some s
    → IsStepAt (mark_of rules d (get_or ns i 0)) (get_or parts i []) (unwrap_or (slice_get places i) None) s
step_here rules d ns marks parts places steps i s m a h e =
    a.each i s e (mark_of rules d (get_or ns i 0)) (ap (λ (ms : List Mark). slice_get ms i) m ∙ some_mark rules d ns i h)

-- a literal with which nothing is done is settled
pub settled_step : (rules : List Alternative) (d : Data) (ns : List ℕ) (marks : List Mark) (parts : List (List Part)) (places : List (Option ℕ))
    (steps : List LiteralStep) (i : ℕ) (s : LiteralStep)
    → marks ≡ map (mark_of rules d) ns → AreSteps marks parts places steps → i < length ns → slice_get steps i ≡ Some s
    → ((m : Mark) (ps : List Part) → IsLiteralStep m ps s → m.is_settled ≡ true) → (mark_of rules d (get_or ns i 0)).is_settled ≡ true
settled_step rules d ns marks parts places steps i s m a h e settles =
    settles (mark_of rules d (get_or ns i 0)) (get_or parts i []) (step_here rules d ns marks parts places steps i s m a h e).0

-- one more step
pub step_more : (marks : List Mark) (parts : List (List Part)) (places : List (Option ℕ)) (steps more : List LiteralStep) (i : ℕ) (m : Mark) (s : LiteralStep)
    (ps : List Part) (o : Option ℕ)
    → length steps ≡ i
    → ((j : ℕ) (t : LiteralStep) → slice_get steps j ≡ Some t → (n : Mark) → slice_get marks j ≡ Some n
    → IsStepAt n (get_or parts j []) (unwrap_or (slice_get places j) None) t)
    → slice_get marks i ≡ Some m → ps ≡ get_or parts i [] → o ≡ unwrap_or (slice_get places i) None → IsStepAt m ps o s → more ≡ steps ++ s ∷ []
    → (j : ℕ) (t : LiteralStep) → slice_get more j ≡ Some t → (n : Mark) → slice_get marks j ≡ Some n
    → IsStepAt n (get_or parts j []) (unwrap_or (slice_get places j) None) t
step_more marks parts places steps more i m s ps o long so_far here p q is made j t e =
    each_behind (λ k u. (n : Mark) → slice_get marks k ≡ Some n → IsStepAt n (get_or parts k []) (unwrap_or (slice_get places k) None) u) steps s so_far
    (λ n f. subst (λ (k : ℕ). IsStepAt n (get_or parts k []) (unwrap_or (slice_get places k) None) s) (sym long)
    (subst (λ (x : Option ℕ). IsStepAt n (get_or parts i []) x s) q
    (subst (λ (qs : List Part). IsStepAt n qs o s) p
    (subst (λ (k : Mark). IsStepAt k ps o s) (same_marks m n (sym here ∙ ap (λ (k : ℕ). slice_get marks k) (sym long) ∙ f)) is))))
    j t (subst (λ (l : List LiteralStep). slice_get l j ≡ Some t) made e)
