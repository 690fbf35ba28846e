-- The literals of the alternatives of a body stand in it.
use Rattle.std.proofs.Common.{ℕ, Bool, true, false, cond, ◌||◌, ◌⊎◌, inl, inr, List, [], ◌∷◌, ◌++◌, map, refl, ap, subst}
use Rattle.statement.specs.Tree.{Tree, name, list, Trees, no_trees, tree, name_eq}
use Rattle.statement.specs.Words.{w_not, w_or, w_and}
use Rattle.statement.specs.Clause.{Literal, positive, Alternative}
use Rattle.statement.specs.Dependence.{IsAmong}
use Rattle.statement.specs.Items.{readings, readings_in_turn, readings_of_all, behind_each, picks, negated, item_alternatives, item_head, body_trees}
use Rattle.rules_profile.specs.Standing.{literals_in, literals_of_all}

-- a literal of one of the lists
abbrev IsIn : Literal → List (List Literal) → Type 0
IsIn l bs = (b : List Literal) × IsAmong b bs × IsAmong l b

pub split : {A : Type 0} (x : A) (xs ys : List A) → IsAmong x (xs ++ ys) → IsAmong x xs ⊎ IsAmong x ys
split x [] ys h = inr h
split x (y ∷ xs) ys (inl e) = inl (inl e)
split x (y ∷ xs) ys (inr h) = later (split x xs ys h)
  where
    later : IsAmong x xs ⊎ IsAmong x ys → IsAmong x (y ∷ xs) ⊎ IsAmong x ys
    later (inl a) = inl (inr a)
    later (inr a) = inr a

pub join : {A : Type 0} (x : A) (xs ys : List A) → IsAmong x xs ⊎ IsAmong x ys → IsAmong x (xs ++ ys)
join x [] ys (inl h) = absurd h
join x [] ys (inr h) = h
join x (y ∷ xs) ys (inl (inl e)) = inl e
join x (y ∷ xs) ys (inl (inr h)) = inr (join x xs ys (inl h))
join x (y ∷ xs) ys (inr h) = inr (join x xs ys (inr h))

in_behind : (l : Literal) (a : List Literal) (bs : List (List Literal)) → IsIn l (behind_each a bs) → IsAmong l a ⊎ IsIn l bs
in_behind l a [] h = absurd h.1
in_behind l a (b ∷ bs) h = go (λ k. in_behind l a bs k) h.0 h.1 h.2
  where
    go : (IsIn l (behind_each a bs) → IsAmong l a ⊎ IsIn l bs) → (c : List Literal) → IsAmong c (behind_each a (b ∷ bs)) → IsAmong l c
        → IsAmong l a ⊎ IsIn l (b ∷ bs)
    go rest c (inl e) k = one (split l a b (subst (λ (d : List Literal). IsAmong l d) e k))
      where
        one : IsAmong l a ⊎ IsAmong l b → IsAmong l a ⊎ IsIn l (b ∷ bs)
        one (inl x) = inl x
        one (inr x) = inr (b, inl refl, x)
    go rest c (inr m) k = more (rest (c, m, k))
      where
        more : IsAmong l a ⊎ IsIn l bs → IsAmong l a ⊎ IsIn l (b ∷ bs)
        more (inl x) = inl x
        more (inr x) = inr (x.0, inr x.1, x.2)

in_append : (l : Literal) (as' bs : List (List Literal)) → IsIn l (as' ++ bs) → IsIn l as' ⊎ IsIn l bs
in_append l as' bs h = go (split h.0 as' bs h.1)
  where
    go : IsAmong h.0 as' ⊎ IsAmong h.0 bs → IsIn l as' ⊎ IsIn l bs
    go (inl x) = inl (h.0, x, h.2)
    go (inr x) = inr (h.0, x, h.2)

in_picks : (l : Literal) (as' bs : List (List Literal)) → IsIn l (picks as' bs) → IsIn l as' ⊎ IsIn l bs
in_picks l [] bs h = absurd h.1
in_picks l (a ∷ as') bs h = go (λ k. in_picks l as' bs k) (in_append l (behind_each a bs) (picks as' bs) h)
  where
    first : IsAmong l a ⊎ IsIn l bs → IsIn l (a ∷ as') ⊎ IsIn l bs
    first (inl x) = inl (a, inl refl, x)
    first (inr x) = inr x

    rest : IsIn l as' ⊎ IsIn l bs → IsIn l (a ∷ as') ⊎ IsIn l bs
    rest (inl x) = inl (x.0, inr x.1, x.2)
    rest (inr x) = inr x

    go : (IsIn l (picks as' bs) → IsIn l as' ⊎ IsIn l bs) → IsIn l (behind_each a bs) ⊎ IsIn l (picks as' bs) → IsIn l (a ∷ as') ⊎ IsIn l bs
    go later (inl x) = first (in_behind l a bs x)
    go later (inr x) = rest (later x)

-- the one list of one literal
in_lone : (l k : Literal) → IsIn l ((k ∷ []) ∷ []) → IsAmong l (k ∷ [])
in_lone l k h = go h.0 h.1 h.2
  where
    go : (b : List Literal) → IsAmong b ((k ∷ []) ∷ []) → IsAmong l b → IsAmong l (k ∷ [])
    go b (inl e) x = subst (λ (c : List Literal). IsAmong l c) e x
    go b (inr none) x = absurd none

by_word : (l : Literal) (c : List ℕ) (ts : Trees) (o a n : Bool)
    → (IsIn l (readings_in_turn ts) → IsAmong l (literals_of_all ts)) → (IsIn l (readings_of_all ts) → IsAmong l (literals_of_all ts))
    → IsIn l (cond o (readings_in_turn ts) (cond a (readings_of_all ts)
    (cond n ((negated ts ∷ []) ∷ []) ((positive (record { word = c; terms = ts }) ∷ []) ∷ []))))
    → IsAmong l (cond (o || a) (literals_of_all ts) (cond n (negated ts ∷ []) (positive (record { word = c; terms = ts }) ∷ [])))
by_word l c ts true a n turn all h = turn h
by_word l c ts false true n turn all h = all h
by_word l c ts false false true turn all h = in_lone l (negated ts) h
by_word l c ts false false false turn all h = in_lone l (positive (record { word = c; terms = ts })) h

mutual
  pub stands_in : (l : Literal) (t : Tree) → IsIn l (readings t) → IsAmong l (literals_in t)
  stands_in l (name c) h = in_lone l _ h
  stands_in l (list no_trees) h = absurd h.1
  stands_in l (list (tree (list us) ts)) h = absurd h.1
  stands_in l (list (tree (name c) ts)) h =
      by_word l c ts (name_eq c w_or) (name_eq c w_and) (name_eq c w_not) (λ k. stands_in_turn l ts k) (λ k. stands_in_all l ts k) h

  stands_in_turn : (l : Literal) (ts : Trees) → IsIn l (readings_in_turn ts) → IsAmong l (literals_of_all ts)
  stands_in_turn l no_trees h = absurd h.1
  stands_in_turn l (tree t ts) h =
      go (in_append l (readings t) (readings_in_turn ts) h) (λ k. stands_in l t k) (λ k. stands_in_turn l ts k)
    where
      go : IsIn l (readings t) ⊎ IsIn l (readings_in_turn ts) → (IsIn l (readings t) → IsAmong l (literals_in t))
          → (IsIn l (readings_in_turn ts) → IsAmong l (literals_of_all ts)) → IsAmong l (literals_in t ++ literals_of_all ts)
      go (inl x) one more = join l (literals_in t) (literals_of_all ts) (inl (one x))
      go (inr x) one more = join l (literals_in t) (literals_of_all ts) (inr (more x))

  pub stands_in_all : (l : Literal) (ts : Trees) → IsIn l (readings_of_all ts) → IsAmong l (literals_of_all ts)
  stands_in_all l no_trees h = none h.0 h.1 h.2
    where
      none : (b : List Literal) → IsAmong b ([] ∷ []) → IsAmong l b → IsAmong l []
      none b (inl e) x = subst (λ (c : List Literal). IsAmong l c) e x
      none b (inr no_one) x = absurd no_one
  stands_in_all l (tree t ts) h =
      go (in_picks l (readings t) (readings_of_all ts) h) (λ k. stands_in l t k) (λ k. stands_in_all l ts k)
    where
      go : IsIn l (readings t) ⊎ IsIn l (readings_of_all ts) → (IsIn l (readings t) → IsAmong l (literals_in t))
          → (IsIn l (readings_of_all ts) → IsAmong l (literals_of_all ts)) → IsAmong l (literals_in t ++ literals_of_all ts)
      go (inl x) one more = join l (literals_in t) (literals_of_all ts) (inl (one x))
      go (inr x) one more = join l (literals_in t) (literals_of_all ts) (inr (more x))

-- a literal of an alternative of an item stands in its body
pub stands_in_item : (t : Tree) (rule : Alternative) → IsAmong rule (item_alternatives t) → (l : Literal) → IsAmong l rule.body
    → IsAmong l (literals_of_all (body_trees t))
stands_in_item t rule a l k = stands_in_all l (body_trees t) (go (readings_of_all (body_trees t)) a)
  where
    go : (bs : List (List Literal)) → IsAmong rule (map (λ b. let r : Alternative = record { head = item_head t; body = b } in r) bs) → IsIn l bs
    go [] none = absurd none
    go (b ∷ bs) (inl e) = (b, inl refl, subst (λ (c : List Literal). IsAmong l c) (ap (λ (r : Alternative). r.body) e) k)
    go (b ∷ bs) (inr m) = let rest = go bs m in (rest.0, inr rest.1, rest.2)
