-- The first fault of a history.
use Rattle.std.proofs.Common.{
  ◌≡◌,
  ℕ,
  ◌+◌,
  ◌<◌,
  ◌≤◌,
  Bool,
  true,
  false,
  List,
  [],
  ◌∷◌,
  ◌++◌,
  length,
  map,
  zero,
  suc,
  refl,
  ◌∙◌,
  ap,
  sym,
  arith,
  inl,
  inr,
  get_or,
  Result,
  Ok,
  Err,
  take,
  eqb-true,
  get_or-set_same,
  get_or-set_other,
}
use Rattle.std.specs.Prelude.{IsErrAnd, IfErr, filter, find, fold, not, is_none, Option, ◌&&◌}
use Rattle.std.specs.List.{flat_map, range_with_len}
use Rattle.std.proofs.Math.Nat.{eq-or-lt_of_le}
use Rattle.std.proofs.Math.ListN.{set}
use Rattle.std.proofs.lemmas.Bool.{cases_eq}
use Rattle.std.proofs.lemmas.List.{take_more, take_all}
use Rattle.std.proofs.lemmas.List.Sums.{fold-append}
use Rattle.kif.specs.declared.expr.Expr.{Expr}
use Rattle.statement.specs.Tree.{Tree, list, no_trees, text, name_eq}
use Rattle.kif.specs.View.{tree_of, trees_in}
use Rattle.statement.specs.Tree.{parts_of, is_name_tree}
use Rattle.statement.specs.declared.history_fault.HistoryFault.{HistoryFault}
use Rattle.statement.specs.declared.history_fault.HistoryFault.TheVariants.{BadForm, NotLegal}
use Rattle.statement.specs.Rules.{Rules, State}
use Rattle.statement.specs.Played.{MoveNames, first_history_fault, nth_tree, is_turn_list, AreFormed, form_faults, illegal_faults, turn_faults, named_move, named_turn, state_after, played}

-- no number of a range passes
pub filter_none : (p : ℕ → Bool) (a n : ℕ) → ((k : ℕ) → a ≤ k → k < a + n → p k ≡ false) → filter p (range_with_len a n) ≡ []
filter_none p a zero h = refl
filter_none p a (suc n) h =
    let here : p a ≡ false = h a (omega arith) (omega arith) in
    let rest : filter p (range_with_len (a + 1) n) ≡ [] = filter_none p (a + 1) n (λ k from to. h k (omega arith) (omega arith)) in
    rw here rest

-- the first number of a range that passes
pub filter_first : (p : ℕ → Bool) (a n k : ℕ) → a ≤ k → k < a + n → ((j : ℕ) → a ≤ j → j < k → p j ≡ false) → p k ≡ true
    → (rest : List ℕ) × (filter p (range_with_len a n) ≡ k ∷ rest)
filter_first p a zero k from to h passes = absurd (omega arith)
filter_first p a (suc n) k from to h passes =
    elim (eq-or-lt_of_le from) [
      | inl e ↦
          let here : p a ≡ true = ap p e ∙ passes in
          (filter p (range_with_len (a + 1) n), rw here (ap (λ (x : ℕ). x ∷ filter p (range_with_len (a + 1) n)) e))
      | inr lt ↦
          let here : p a ≡ false = h a (omega arith) lt in
          let found : (rest : List ℕ) × (filter p (range_with_len (a + 1) n) ≡ k ∷ rest) =
          filter_first p (a + 1) n k (omega arith) (omega arith) (λ j after before. h j (omega arith) before) passes in
          (found.0, rw here found.1)
    ]

-- no number of a range has a fault
pub flat_map_none : {X : Type 0} (f : ℕ → List X) (a n : ℕ) → ((k : ℕ) → a ≤ k → k < a + n → f k ≡ []) → flat_map f (range_with_len a n) ≡ []
flat_map_none f a zero h = refl
flat_map_none f a (suc n) h =
    let here : f a ≡ [] = h a (omega arith) (omega arith) in
    let rest : flat_map f (range_with_len (a + 1) n) ≡ [] = flat_map_none f (a + 1) n (λ k from to. h k (omega arith) (omega arith)) in
    rw here rest

-- the first fault of the first number of a range that has one
pub flat_map_first : {X : Type 0} (f : ℕ → List X) (a n k : ℕ) (x : X) (xs : List X) → a ≤ k → k < a + n → ((j : ℕ) → a ≤ j → j < k → f j ≡ [])
    → f k ≡ x ∷ xs → (rest : List X) × (flat_map f (range_with_len a n) ≡ x ∷ rest)
flat_map_first f a zero k x xs from to h passes = absurd (omega arith)
flat_map_first {X} f a (suc n) k x xs from to h passes =
    elim (eq-or-lt_of_le from) [
      | inl e ↦
          let here : f a ≡ x ∷ xs = ap f e ∙ passes in
          (xs ++ flat_map f (range_with_len (a + 1) n), rw here refl)
      | inr lt ↦
          let here : f a ≡ [] = h a (omega arith) lt in
          let found : (rest : List X) × (flat_map f (range_with_len (a + 1) n) ≡ x ∷ rest) =
          flat_map_first f (a + 1) n k x xs (omega arith) (omega arith) (λ j after before. h j (omega arith) before) passes in
          (found.0, rw here found.1)
    ]

-- there is no fault where a value is answered
pub no_fault : {X : Type 0} (faults : List HistoryFault) (x y : X) → first_history_fault faults x ≡ Ok y → faults ≡ []
no_fault [] x y h = refl
no_fault (fault ∷ faults) x y h = cc

-- what is answered is the first fault
pub has_first : {X : Type 0} (faults : List HistoryFault) (x : X) (fault : HistoryFault) → first_history_fault faults x ≡ Err fault
    → (rest : List HistoryFault) × (faults ≡ fault ∷ rest)
has_first [] x fault h = absurd cc
has_first (first ∷ faults) x fault h = (faults, cc)

pub tree_at_place : {A : Type 0} (es : List (Expr A)) (k : ℕ) (e : Expr A) → k < length es → e ≡ get_or es k e
    → nth_tree (trees_in es) k ≡ tree_of e
tree_at_place [] k e below same = absurd (omega arith)
tree_at_place (x ∷ es) zero e below same = ap tree_of (sym same)
tree_at_place (x ∷ es) (suc k) e below same = tree_at_place es k e (omega arith) same

-- a list is known by its elements
pub list_by_index : (f : ℕ → ℕ) (a n : ℕ) (xs : List ℕ) → length xs ≡ n → ((k : ℕ) → k < n → get_or xs k 0 ≡ f (a + k))
    → xs ≡ map f (range_with_len a n)
list_by_index f a zero [] size h = refl
list_by_index f a zero (x ∷ xs) size h = absurd (omega arith)
list_by_index f a (suc n) [] size h = absurd (omega arith)
list_by_index f a (suc n) (x ∷ xs) size h =
    let first : x ≡ f a = h 0 (omega arith) ∙ ap f (omega arith) in
    let rest : xs ≡ map f (range_with_len (a + 1) n) =
    list_by_index f (a + 1) n xs (omega arith) (λ k below. h (suc k) (omega arith) ∙ ap f (omega arith)) in
    cc

pub form_refused : (roles place : ℕ) (ts : List Tree) → place < length ts → ((k : ℕ) → k < place → not (is_turn_list roles (nth_tree ts k)) ≡ false)
    → not (is_turn_list roles (nth_tree ts place)) ≡ true → Err (BadForm (place + 1)) ≡ first_history_fault {X = Unit {0}} (form_faults roles ts) tt
form_refused roles place ts inside before here =
    let found : (rest : List ℕ) × (filter (λ (k : ℕ). not (is_turn_list roles (nth_tree ts k))) (range_with_len 0 (length ts)) ≡ place ∷ rest) =
    filter_first (λ k. not (is_turn_list roles (nth_tree ts k))) 0 (length ts) place (omega arith) (omega arith) (λ k _ less. before k less) here in
    rw found.1 refl

pub forms_right : (roles place : ℕ) (ts : List Tree) → length ts ≤ place → ((k : ℕ) → k < place → not (is_turn_list roles (nth_tree ts k)) ≡ false)
    → Ok tt ≡ first_history_fault {X = Unit {0}} (form_faults roles ts) tt
forms_right roles place ts past before =
    let none : filter (λ (k : ℕ). not (is_turn_list roles (nth_tree ts k))) (range_with_len 0 (length ts)) ≡ [] =
    filter_none (λ k. not (is_turn_list roles (nth_tree ts k))) 0 (length ts) (λ k _ less. before k (omega arith)) in
    rw none refl

not_false : (b : Bool) → not b ≡ false → b ≡ true
not_false true h = refl
not_false false h = cc

pub are_formed : (roles place : ℕ) (ts : List Tree) → length ts ≤ place → ((k : ℕ) → k < place → not (is_turn_list roles (nth_tree ts k)) ≡ false)
    → AreFormed roles ts
are_formed roles place ts past before k inside = not_false (is_turn_list roles (nth_tree ts k)) (before k (omega arith))

both_true : (a b : Bool) → (a && b) ≡ true → b ≡ true
both_true true b h = h
both_true false b h = cc

-- a turn in the right form has a part for each role
pub length-parts : (roles : ℕ) (t : Tree) → is_turn_list roles t ≡ true → length (parts_of t) ≡ roles
length-parts roles t h = eqb-true (length (parts_of t)) roles (both_true (not (is_name_tree t)) _ h)

pub named_at : {A : Type 0} (g : Rules) (names : MoveNames) (s : State) (es : List (Expr A)) (role : ℕ) (e : Expr A) (r : Option ℕ) → role < length es
    → e ≡ get_or es role e → r ≡ find (λ m. name_eq (text (tree_of e)) (names role m)) (g.legal s role) → named_move g names s (trees_in es) role ≡ r
named_at g names s es role e r inside same found =
    ap (λ (t : Tree). find (λ (m : ℕ). name_eq (text t) (names role m)) (g.legal s role)) (tree_at_place es role e inside same) ∙ sym found

pub role_refused : (g : Rules) (names : MoveNames) (s : State) (parts : List Tree) (number role : ℕ) → role < g.roles
    → ((k : ℕ) → k < role → is_none (named_move g names s parts k) ≡ false) → is_none (named_move g names s parts role) ≡ true
    → Err (NotLegal number role) ≡ first_history_fault {X = Unit {0}} (illegal_faults g names s parts number) tt
role_refused g names s parts number role inside before here =
    let found : (rest : List ℕ) × (filter (λ (q : ℕ). is_none (named_move g names s parts q)) (range_with_len 0 g.roles) ≡ role ∷ rest) =
    filter_first (λ q. is_none (named_move g names s parts q)) 0 g.roles role (omega arith) (omega arith) (λ k _ less. before k less) here in
    rw found.1 refl

pub roles_right : (g : Rules) (names : MoveNames) (s : State) (parts : List Tree) (number role : ℕ) → g.roles ≤ role
    → ((k : ℕ) → k < role → is_none (named_move g names s parts k) ≡ false)
    → Ok tt ≡ first_history_fault {X = Unit {0}} (illegal_faults g names s parts number) tt
roles_right g names s parts number role past before =
    let none : filter (λ (q : ℕ). is_none (named_move g names s parts q)) (range_with_len 0 g.roles) ≡ [] =
    filter_none (λ q. is_none (named_move g names s parts q)) 0 g.roles (λ k _ less. before k (omega arith)) in
    rw none refl

-- one turn more
pub state_more : (g : Rules) (names : MoveNames) (ts : List Tree) (place : ℕ) → place < length ts
    → state_after g names (take (place + 1) ts)
    ≡ g.after (state_after g names (take place ts)) (named_turn g names (state_after g names (take place ts)) (parts_of (nth_tree ts place)))
state_more g names ts place inside =
    let step = λ (s : State) (t : Tree). g.after s (named_turn g names s (parts_of t)) in
    ap (fold step g.start) (take_more ts place (list no_trees) inside) ∙ fold-append step g.start (take place ts) (nth_tree ts place ∷ [])

pub turn_refused : (g : Rules) (names : MoveNames) (ts : List Tree) (place : ℕ) (fault : HistoryFault) → form_faults g.roles ts ≡ []
    → place < length ts
    → ((k : ℕ) → k < place → turn_faults g names (state_after g names (take k ts)) (parts_of (nth_tree ts k)) (k + 1) ≡ [])
    → first_history_fault {X = Unit {0}} (turn_faults g names (state_after g names (take place ts)) (parts_of (nth_tree ts place)) (place + 1)) tt ≡ Err fault
    → played g names ts ≡ Err fault
turn_refused g names ts place fault forms inside before here =
    let faults = λ (k : ℕ). turn_faults g names (state_after g names (take k ts)) (parts_of (nth_tree ts k)) (k + 1) in
    let first : (rest : List HistoryFault) × (faults place ≡ fault ∷ rest) = has_first (faults place) tt fault here in
    let found : (rest : List HistoryFault) × (flat_map faults (range_with_len 0 (length ts)) ≡ fault ∷ rest) =
    flat_map_first faults 0 (length ts) place fault first.0 (omega arith) (omega arith) (λ k _ less. before k less) first.1 in
    rw (forms, found.1) refl

pub all_played : (g : Rules) (names : MoveNames) (ts : List Tree) (place : ℕ) → form_faults g.roles ts ≡ [] → length ts ≤ place → place ≤ length ts
    → ((k : ℕ) → k < place → turn_faults g names (state_after g names (take k ts)) (parts_of (nth_tree ts k)) (k + 1) ≡ [])
    → played g names ts ≡ Ok (state_after g names (take place ts))
all_played g names ts place forms past within before =
    let faults = λ (k : ℕ). turn_faults g names (state_after g names (take k ts)) (parts_of (nth_tree ts k)) (k + 1) in
    let none : flat_map faults (range_with_len 0 (length ts)) ≡ [] =
    flat_map_none faults 0 (length ts) (λ k _ less. before k (omega arith)) in
    let whole : take place ts ≡ ts = take_all place ts past in
    rw (forms, none, whole) refl

-- the move of one role more is written
pub one_written : (f : ℕ → ℕ) (old new : List ℕ) (role x : ℕ) → role < length old → new ≡ set old role x → f role ≡ x
    → ((k : ℕ) → k < role → get_or old k 0 ≡ f k) → (k : ℕ) → k < role + 1 → get_or new k 0 ≡ f k
one_written f old new role x inside written here before k below =
    elim (cases_eq k role) [
      | inl same ↦ rw (written, same) (get_or-set_same old role x 0 inside ∙ sym here)
      | inr other ↦ rw written (get_or-set_other old role k x 0 other ∙ before k (omega arith))
    ]

pub one_known : (moves : ℕ → ℕ) (old new : List ℕ) (role x : ℕ) → role < length old → new ≡ set old role x → x < moves role
    → ((k : ℕ) → k < role → get_or old k 0 < moves k) → (k : ℕ) → k < role + 1 → get_or new k 0 < moves k
one_known moves old new role x inside written here before k below =
    elim (cases_eq k role) [
      | inl same ↦ rw (written, same) (rw (get_or-set_same old role x 0 inside) here)
      | inr other ↦ rw written (rw (get_or-set_other old role k x 0 other) (before k (omega arith)))
    ]

-- what holds of the error that was given
pub err_given : {T E : Type 0} (r : Result T E) (P Q : E → Type 0) → IsErrAnd r P → ((e : E) → P e → Q e) → IfErr r Q
err_given (Ok x) P Q h more = absurd h
err_given (Err e) P Q h more = more e h
