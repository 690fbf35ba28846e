-- The readings of literals as lists of trees, and the same in memory.
use Rattle.std.proofs.Common.{ℕ, Bool, true, ◌≡◌, ◌<◌, ◌≤◌, ◌+◌, List, [], ◌∷◌, ◌++◌, drop, length, get_or, refl, sym, ap, ◌∙◌, append_assoc, rules}
use Rattle.std.proofs.lemmas.List.{append-nil}
use Rattle.std.specs.Prelude.{not, ◌&&◌, ◌==◌}
use Rattle.statement.specs.Tree.{Tree, name, list, trees_of}
use Rattle.statement.specs.Clause.{Relation}
use Rattle.statement.specs.Items.{is_some, body_trees}
use Rattle.kif.specs.View.{tree_of, trees_in}
use Rattle.kif.specs.declared.expr.Expr.{Expr}
use Rattle.kif.proofs.Facts.{parts_from, no_parts}
use Rattle.rules_profile.specs.Parts.{HasNoWord}
use Rattle.unroll_strata.specs.Readings.{ways_behind, way_picks, ways, ways_of_all, heads_one, is_parted, items_by_reading}

-- Picks.

behind-append : (a : List Tree) (bs cs : List (List Tree)) → ways_behind a (bs ++ cs) ≡ ways_behind a bs ++ ways_behind a cs
behind-append a [] cs = refl
behind-append a (b ∷ bs) cs = ap (λ (ls : List (List Tree)). (a ++ b) ∷ ls) (behind-append a bs cs)

behind-behind : (a b : List Tree) (cs : List (List Tree)) → ways_behind (a ++ b) cs ≡ ways_behind a (ways_behind b cs)
behind-behind a b [] = refl
behind-behind a b (c ∷ cs) = λ i. append_assoc a b c i ∷ behind-behind a b cs i

picks-append : (as' bs cs : List (List Tree)) → way_picks (as' ++ bs) cs ≡ way_picks as' cs ++ way_picks bs cs
picks-append [] bs cs = refl
picks-append (a ∷ as') bs cs =
    ap (λ (ls : List (List Tree)). ways_behind a cs ++ ls) (picks-append as' bs cs)
    ∙ sym (append_assoc (ways_behind a cs) (way_picks as' cs) (way_picks bs cs))

picks-behind : (a : List Tree) (bs cs : List (List Tree)) → way_picks (ways_behind a bs) cs ≡ ways_behind a (way_picks bs cs)
picks-behind a [] cs = refl
picks-behind a (b ∷ bs) cs =
    ap (λ (ls : List (List Tree)). ways_behind (a ++ b) cs ++ ls) (picks-behind a bs cs)
    ∙ ap (λ (ls : List (List Tree)). ls ++ ways_behind a (way_picks bs cs)) (behind-behind a b cs)
    ∙ sym (behind-append a (ways_behind b cs) (way_picks bs cs))

picks-picks : (as' bs cs : List (List Tree)) → way_picks (way_picks as' bs) cs ≡ way_picks as' (way_picks bs cs)
picks-picks [] bs cs = refl
picks-picks (a ∷ as') bs cs =
    picks-append (ways_behind a bs) (way_picks as' bs) cs
    ∙ ap (λ (ls : List (List Tree)). ls ++ way_picks (way_picks as' bs) cs) (picks-behind a bs cs)
    ∙ ap (λ (ls : List (List Tree)). ways_behind a (way_picks bs cs) ++ ls) (picks-picks as' bs cs)

picks-one : (as' : List (List Tree)) → way_picks as' ([] ∷ []) ≡ as'
picks-one [] = refl
picks-one (a ∷ as') = λ i. append-nil a i ∷ picks-one as' i

pub one-picks : (bs : List (List Tree)) → way_picks ([] ∷ []) bs ≡ bs
one-picks bs = append-nil (ways_behind [] bs) ∙ same bs
  where
    same : (bs : List (List Tree)) → ways_behind [] bs ≡ bs
    same [] = refl
    same (b ∷ bs) = ap (λ (ls : List (List Tree)). b ∷ ls) (same bs)

-- By the word in front of a list.

pub no_word : (ts : List Tree) → HasNoWord ts → ways (list (trees_of ts)) ≡ []
no_word [] h = refl
no_word (name w ∷ ts) h = absurd (h w ts refl)
no_word (list us ∷ ts) h = refl

-- Parts in memory.

-- the readings of one part more are picked
pub one_picked : {A : Type 0} (es : List (Expr A)) (i : ℕ) (e : Expr A) (before made now whole : List (List Tree)) → i < length es → e ≡ get_or es i e
    → way_picks before (ways_of_all (trees_of (trees_in (drop i es)))) ≡ whole → made ≡ ways (tree_of e) → now ≡ way_picks before made
    → way_picks now (ways_of_all (trees_of (trees_in (drop (i + 1) es)))) ≡ whole
one_picked es i e before made now whole within at so_far same is =
    let rest = ways_of_all (trees_of (trees_in (drop (i + 1) es))) in
    ap (λ (ws : List (List Tree)). way_picks ws rest) (is ∙ ap (way_picks before) same) ∙ picks-picks before (ways (tree_of e)) rest
    ∙ ap (λ (ts : List Tree). way_picks before (ways_of_all (trees_of ts))) (sym (parts_from es i e within at)) ∙ so_far

-- none is left
pub all_picked : {A : Type 0} (es : List (Expr A)) (i : ℕ) (made whole : List (List Tree)) → length es ≤ i
    → way_picks made (ways_of_all (trees_of (trees_in (drop i es)))) ≡ whole → made ≡ whole
all_picked es i made whole past so_far =
    sym (picks-one made) ∙ ap (λ (ts : List Tree). way_picks made (ways_of_all (trees_of ts))) (sym (no_parts es i past)) ∙ so_far

-- Items.

some_parts : {A : Type 0} (es : List (Expr A)) → not (length es == 0) ≡ is_some (trees_of (trees_in es))
some_parts [] = refl
some_parts (e ∷ es) = search rules

-- an item that heads one of the relations is parted where its body has parts
pub parted : {A : Type 0} (own : List Relation) (t : Tree) (es : List (Expr A)) (is_empty : Bool) → heads_one own t ≡ true
    → body_trees t ≡ trees_of (trees_in es) → is_empty ≡ (length es == 0) → not is_empty ≡ is_parted own t
parted own t es is_empty h e k =
    ap not k ∙ some_parts es ∙ ap is_some (sym e) ∙ ap (λ (b : Bool). b && is_some (body_trees t)) (sym h)

-- no item is left
pub all_made : {A : Type 0} (own : List Relation) (es : List (Expr A)) (i : ℕ) (made whole : List Tree) → length es ≤ i
    → made ++ items_by_reading own (trees_in (drop i es)) ≡ whole → made ≡ whole
all_made own es i made whole past so_far =
    sym (append-nil made) ∙ ap (λ (ts : List Tree). made ++ items_by_reading own ts) (sym (no_parts es i past)) ∙ so_far
