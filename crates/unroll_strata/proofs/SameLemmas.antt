-- The alternatives of an item by reading are those of the item.
use Rattle.std.proofs.Common.{ℕ, Bool, true, false, cond, ◌≡◌, List, [], ◌∷◌, ◌++◌, map, refl, sym, ap, subst, ◌∙◌, append_assoc}
use Rattle.std.proofs.lemmas.List.{append-nil}
use Rattle.statement.specs.Tree.{Tree, name, list, Trees, no_trees, tree, trees_of, name_eq}
use Rattle.statement.specs.Words.{w_not, w_or, w_and}
use Rattle.statement.specs.Clause.{Literal, positive, Alternative, Relation}
use Rattle.statement.specs.Items.{atom_in, negated, readings, list_readings, readings_in_turn, readings_of_all, behind_each, picks, head_tree, body_trees, item_alternatives, alternatives}
use Rattle.unroll_strata.specs.Readings.{ways_behind, way_picks, ways, list_ways, ways_in_turn, ways_of_all, rule_of, is_parted, item_by_reading, items_by_reading}

-- trees that are one literal each
abbrev AreSaid : List Tree → List Literal → Type 0
AreSaid [] [] = Unit {0}
AreSaid [] (l ∷ ls) = ⊥
AreSaid (t ∷ ts) [] = ⊥
AreSaid (t ∷ ts) (l ∷ ls) = (readings t ≡ (l ∷ []) ∷ []) × AreSaid ts ls

abbrev AllSaid : List (List Tree) → List (List Literal) → Type 0
AllSaid [] [] = Unit {0}
AllSaid [] (b ∷ bs) = ⊥
AllSaid (w ∷ ws) [] = ⊥
AllSaid (w ∷ ws) (b ∷ bs) = AreSaid w b × AllSaid ws bs

said_append : (ts us : List Tree) (ls ms : List Literal) → AreSaid ts ls → AreSaid us ms → AreSaid (ts ++ us) (ls ++ ms)
said_append [] us [] ms h k = k
said_append [] us (l ∷ ls) ms h k = absurd h
said_append (t ∷ ts) us [] ms h k = absurd h
said_append (t ∷ ts) us (l ∷ ls) ms h k = (h.0, said_append ts us ls ms h.1 k)

all_append : (ws vs : List (List Tree)) (bs cs : List (List Literal)) → AllSaid ws bs → AllSaid vs cs → AllSaid (ws ++ vs) (bs ++ cs)
all_append [] vs [] cs h k = k
all_append [] vs (b ∷ bs) cs h k = absurd h
all_append (w ∷ ws) vs [] cs h k = absurd h
all_append (w ∷ ws) vs (b ∷ bs) cs h k = (h.0, all_append ws vs bs cs h.1 k)

all_behind : (w : List Tree) (b : List Literal) (vs : List (List Tree)) (cs : List (List Literal)) → AreSaid w b → AllSaid vs cs
    → AllSaid (ways_behind w vs) (behind_each b cs)
all_behind w b [] [] h k = tt
all_behind w b [] (c ∷ cs) h k = absurd k
all_behind w b (v ∷ vs) [] h k = absurd k
all_behind w b (v ∷ vs) (c ∷ cs) h k = (said_append w v b c h k.0, all_behind w b vs cs h k.1)

all_picks : (ws vs : List (List Tree)) (bs cs : List (List Literal)) → AllSaid ws bs → AllSaid vs cs → AllSaid (way_picks ws vs) (picks bs cs)
all_picks [] vs [] cs h k = tt
all_picks [] vs (b ∷ bs) cs h k = absurd h
all_picks (w ∷ ws) vs [] cs h k = absurd h
all_picks (w ∷ ws) vs (b ∷ bs) cs h k =
    all_append (ways_behind w vs) (way_picks ws vs) (behind_each b cs) (picks bs cs) (all_behind w b vs cs h.0 k) (all_picks ws vs bs cs h.1 k)

-- one literal that is one reading
alone : (t : Tree) (l : Literal) → readings t ≡ (l ∷ []) ∷ [] → AllSaid ((t ∷ []) ∷ []) (readings t)
alone t l e = subst (λ (bs : List (List Literal)). AllSaid ((t ∷ []) ∷ []) bs) (sym e) ((e, tt), tt)

by_word : (c : List ℕ) (ts : Trees) (o a n : Bool) → name_eq c w_or ≡ o → name_eq c w_and ≡ a → name_eq c w_not ≡ n
    → AllSaid (ways_in_turn ts) (readings_in_turn ts) → AllSaid (ways_of_all ts) (readings_of_all ts)
    → AllSaid (list_ways (tree (name c) ts)) (list_readings (tree (name c) ts))
by_word c ts true a n e f g turn all = rw e turn
by_word c ts false true n e f g turn all = rw (e, f) all
by_word c ts false false true e f g turn all =
    let is : list_ways (tree (name c) ts) ≡ (list (tree (name c) ts) ∷ []) ∷ [] = rw (e, f) refl in
    let said : list_readings (tree (name c) ts) ≡ (negated ts ∷ []) ∷ [] = rw (e, f, g) refl in
    subst (λ (ws : List (List Tree)). AllSaid ws (list_readings (tree (name c) ts))) (sym is) (alone (list (tree (name c) ts)) (negated ts) said)
by_word c ts false false false e f g turn all =
    let is : list_ways (tree (name c) ts) ≡ (list (tree (name c) ts) ∷ []) ∷ [] = rw (e, f) refl in
    let said : list_readings (tree (name c) ts) ≡ (positive (record { word = c; terms = ts }) ∷ []) ∷ [] = rw (e, f, g) refl in
    subst (λ (ws : List (List Tree)). AllSaid ws (list_readings (tree (name c) ts))) (sym is)
    (alone (list (tree (name c) ts)) (positive (record { word = c; terms = ts })) said)

mutual
  literal_said : (t : Tree) → AllSaid (ways t) (readings t)
  literal_said (name c) = ((refl, tt), tt)
  literal_said (list ts) = list_said ts

  list_said : (ts : Trees) → AllSaid (list_ways ts) (list_readings ts)
  list_said no_trees = tt
  list_said (tree (list us) ts) = tt
  list_said (tree (name c) ts) =
      by_word c ts (name_eq c w_or) (name_eq c w_and) (name_eq c w_not) refl refl refl (turn_said ts) (body_said ts)

  turn_said : (ts : Trees) → AllSaid (ways_in_turn ts) (readings_in_turn ts)
  turn_said no_trees = tt
  turn_said (tree t ts) = all_append (ways t) (ways_in_turn ts) (readings t) (readings_in_turn ts) (literal_said t) (turn_said ts)

  body_said : (ts : Trees) → AllSaid (ways_of_all ts) (readings_of_all ts)
  body_said no_trees = (tt, tt)
  body_said (tree t ts) = all_picks (ways t) (ways_of_all ts) (readings t) (readings_of_all ts) (literal_said t) (body_said ts)

-- literals are read as one body
one_reading : (ts : List Tree) (ls : List Literal) → AreSaid ts ls → readings_of_all (trees_of ts) ≡ ls ∷ []
one_reading [] [] h = refl
one_reading [] (l ∷ ls) h = absurd h
one_reading (t ∷ ts) [] h = absurd h
one_reading (t ∷ ts) (l ∷ ls) h = λ i. picks (h.0 i) (one_reading ts ls h.1 i)

-- Items.

abbrev with_body : Tree → List Literal → Alternative
with_body h b = record { head = atom_in h; body = b }

rules_said : (h : Tree) (ws : List (List Tree)) (bs : List (List Literal)) → AllSaid ws bs → alternatives (map (rule_of h) ws) ≡ map (with_body h) bs
rules_said h [] [] k = refl
rules_said h [] (b ∷ bs) k = absurd k
rules_said h (w ∷ ws) [] k = absurd k
rules_said h (w ∷ ws) (b ∷ bs) k =
    ap (λ (rs : List (List Literal)). map (with_body h) rs ++ alternatives (map (rule_of h) ws)) (one_reading w b k.0)
    ∙ ap (λ (as' : List Alternative). with_body h b ∷ as') (rules_said h ws bs k.1)

item_same : (own : List Relation) (t : Tree) → alternatives (item_by_reading own t) ≡ item_alternatives t
item_same own t = go (is_parted own t)
  where
    go : (b : Bool) → alternatives (cond b (map (rule_of (head_tree t)) (ways_of_all (body_trees t))) (t ∷ [])) ≡ item_alternatives t
    go true = rules_said (head_tree t) (ways_of_all (body_trees t)) (readings_of_all (body_trees t)) (body_said (body_trees t))
    go false = append-nil (item_alternatives t)

alternatives-append : (ts us : List Tree) → alternatives (ts ++ us) ≡ alternatives ts ++ alternatives us
alternatives-append [] us = refl
alternatives-append (t ∷ ts) us =
    ap (λ (as' : List Alternative). item_alternatives t ++ as') (alternatives-append ts us)
    ∙ sym (append_assoc (item_alternatives t) (alternatives ts) (alternatives us))

pub items_same : (own : List Relation) (ts : List Tree) → alternatives (items_by_reading own ts) ≡ alternatives ts
items_same own [] = refl
items_same own (t ∷ ts) =
    alternatives-append (item_by_reading own t) (items_by_reading own ts) ∙ λ i. item_same own t i ++ items_same own ts i
