-- Lists of numbers, and the readings that they stand for.
use Rattle.std.proofs.Common.{ℕ, suc, zero, true, ◌==◌, ◌≡◌, ◌+◌, ◌-◌, ◌<◌, ◌≤◌, List, [], ◌∷◌, ◌++◌, length, drop, refl, sym, ◌∙◌, ap, subst, get_or, append_assoc, arith}
use Rattle.std.specs.Prelude.{Vec}
use Rattle.std.specs.List.{range_with_len}
use Rattle.std.proofs.lemmas.List.{append-nil}
use Rattle.statement.specs.Tree.{Tree, name, list, Trees, tree, trees_of}
use Rattle.kif.specs.View.{tree_of, trees_in}
use Rattle.kif.specs.declared.expr.Expr.{Expr}
use Rattle.kif.proofs.Facts.{parts_from, no_parts}
use Rattle.statement.specs.Clause as said
use Rattle.statement.specs.Clause.{positive}
use Rattle.statement.specs.Words.{w_or, w_and, w_not}
use Rattle.rules_profile.specs.declared.forms.Connective.{Connective}
use Rattle.rules_profile.specs.declared.forms.Connective.TheVariants as words
use Rattle.rules_profile.specs.Connectives.{IsNoConnective, IsConnectiveOf}
use Rattle.statement.specs.Items.{behind_each, picks, readings, readings_in_turn, readings_of_all, atom_in, negated}
use Rattle.rules_clauses.specs.declared.numbered.Span.{Span}
use Rattle.rules_clauses.specs.Spread.{lists_of, numbers_of, numbers_in, numbers_behind_each, number_picks}
use Rattle.rules_clauses.specs.Store.{Data}
use Rattle.rules_clauses.specs.Adding.{AddsLiteral, StandForEach, StandForLists, Spreads}
use Rattle.rules_clauses.proofs.AddingLemmas.{extends_trans, grows_refl, grows_trans}

-- Numbers of places.

pub one_number : (xs : List ℕ) (a b : ℕ) → a < b → (xs ++ a ∷ []) ++ range_with_len (a + 1) (b - (a + 1)) ≡ xs ++ range_with_len a (b - a)
one_number xs a b h =
    append_assoc xs (a ∷ []) (range_with_len (a + 1) (b - (a + 1)))
    ∙ ap (λ (n : ℕ). xs ++ range_with_len a n) (let e : suc (b - (a + 1)) ≡ b - a = omega (arith, h) in e)

pub no_number : (xs : List ℕ) (a b : ℕ) → b ≤ a → xs ++ range_with_len a (b - a) ≡ xs
no_number xs a b h = ap (λ (n : ℕ). xs ++ range_with_len a n) (let e : b - a ≡ 0 = omega (arith, h) in e) ∙ append-nil xs

range_both : (a m n : ℕ) → range_with_len a (m + n) ≡ range_with_len a m ++ range_with_len (a + m) n
range_both a zero n =
    ap (λ (k : ℕ). range_with_len a k) (let e : 0 + n ≡ n = omega arith in e)
    ∙ ap (λ (k : ℕ). range_with_len k n) (let e : a ≡ a + 0 = omega arith in e)
range_both a (suc m) n =
    ap (λ (k : ℕ). range_with_len a k) (let e : suc m + n ≡ suc (m + n) = omega arith in e)
    ∙ ap (λ (ns : List ℕ). a ∷ ns) (range_both (a + 1) m n
    ∙ ap (λ (k : ℕ). range_with_len (a + 1) m ++ range_with_len k n) (let e : (a + 1) + m ≡ a + suc m = omega arith in e))

-- of two places the second begins where the first ends
pub both_numbers : (a b d c : ℕ) → a ≤ b → b ≡ d → d ≤ c → range_with_len a (c - a) ≡ range_with_len a (b - a) ++ range_with_len d (c - d)
both_numbers a b d c h same k =
    ap (λ (n : ℕ). range_with_len a n) (let e : c - a ≡ (b - a) + (c - d) = omega (arith, h, same, k) in e)
    ∙ range_both a (b - a) (c - d)
    ∙ ap (λ (m : ℕ). range_with_len a (b - a) ++ range_with_len m (c - d)) (let e : a + (b - a) ≡ d = omega (arith, h, same) in e)

numbers_in-append : (ss ts : List Span) → numbers_in (ss ++ ts) ≡ numbers_in ss ++ numbers_in ts
numbers_in-append [] ts = refl
numbers_in-append (s ∷ ss) ts =
    ap (λ (ns : List ℕ). numbers_of s ++ ns) (numbers_in-append ss ts) ∙ sym (append_assoc (numbers_of s) (numbers_in ss) (numbers_in ts))

one_behind : (ss : List Span) (s : Span) → numbers_in (ss ++ s ∷ []) ≡ numbers_in ss ++ numbers_of s
one_behind ss s = numbers_in-append ss (s ∷ []) ∙ ap (λ (ns : List ℕ). numbers_in ss ++ ns) (append-nil (numbers_of s))

-- a place was added behind others
pub added_behind : (old new : List Span) (s : Span) → new ≡ old ++ s ∷ [] → numbers_in new ≡ numbers_in old ++ numbers_of s
added_behind old new s e = ap numbers_in e ∙ one_behind old s

-- the last place was made longer by one
pub added_to_last : (old front new : List Span) (last s both : Span) → old ≡ front ++ last ∷ [] → new ≡ front ++ both ∷ []
    → numbers_of both ≡ numbers_of last ++ numbers_of s → numbers_in new ≡ numbers_in old ++ numbers_of s
added_to_last old front new last s both e f same =
    added_behind front new both f
    ∙ ap (λ (ns : List ℕ). numbers_in front ++ ns) same
    ∙ sym (append_assoc (numbers_in front) (numbers_of last) (numbers_of s))
    ∙ ap (λ (ns : List ℕ). ns ++ numbers_of s) (sym (added_behind front old last e))

pub lists_of-append : {G : Type 0} (vs ws : List (Vec Span G)) → lists_of (vs ++ ws) ≡ lists_of vs ++ lists_of ws
lists_of-append [] ws = refl
lists_of-append (v ∷ vs) ws = ap (λ (ls : List (List ℕ)). numbers_in v.items ∷ ls) (lists_of-append vs ws)

-- Picks of numbers.

number_picks-append : (xs ys bs : List (List ℕ)) → number_picks (xs ++ ys) bs ≡ number_picks xs bs ++ number_picks ys bs
number_picks-append [] ys bs = refl
number_picks-append (x ∷ xs) ys bs =
    ap (λ (ls : List (List ℕ)). numbers_behind_each x bs ++ ls) (number_picks-append xs ys bs)
    ∙ sym (append_assoc (numbers_behind_each x bs) (number_picks xs bs) (number_picks ys bs))

-- what stands behind each, and then more
pub behind_more : (xs : List (List ℕ)) (b c : List ℕ) → number_picks xs ((b ++ c) ∷ []) ≡ number_picks (number_picks xs (b ∷ [])) (c ∷ [])
behind_more [] b c = refl
behind_more (x ∷ xs) b c = cc (append_assoc x b c, behind_more xs b c)

pub nothing_behind : (xs : List (List ℕ)) → number_picks xs ([] ∷ []) ≡ xs
nothing_behind [] = refl
nothing_behind (x ∷ xs) = cc (append-nil x, nothing_behind xs)

one_of : {A : Type 0} (xs : List A) (x : A) → 1 ≤ length xs → length xs < 2 → x ≡ get_or xs 0 x → xs ≡ x ∷ []
one_of [] x some one is = absurd (let bad : ⊥ = omega (arith, some) in bad)
one_of (y ∷ []) x some one is = ap (λ z. z ∷ []) (sym is)
one_of (y ∷ z ∷ xs) x some one is = absurd (let bad : ⊥ = omega (arith, one) in bad)

-- there is one list alone to pick
pub picked_one : {G : Type 0} (ls : List (Vec Span G)) (v : Vec Span G) (xs : List (List ℕ)) (b new : List ℕ) (lent : List Span) → 1 ≤ length ls
    → length ls < 2 → v ≡ get_or ls 0 v → lent ≡ v.items → new ≡ b ++ numbers_in lent
    → number_picks xs (new ∷ []) ≡ number_picks (number_picks xs (b ∷ [])) (lists_of ls)
picked_one ls v xs b new lent some one is same e =
    ap (λ (n : List ℕ). number_picks xs (n ∷ [])) (e ∙ ap (λ (ss : List Span). b ++ numbers_in ss) same)
    ∙ behind_more xs b (numbers_in v.items)
    ∙ ap (λ us. number_picks (number_picks xs (b ∷ [])) (lists_of us)) (sym (one_of ls v some one is))

-- one list, which is empty, and nothing behind it
pub one_empty : {G : Type 0} (new old : List (Vec Span G)) (v : Vec Span G) (behind : List Span) → new ≡ old ++ v ∷ [] → old ≡ [] → v.items ≡ []
    → behind ≡ [] → number_picks (lists_of new) (numbers_in behind ∷ []) ≡ [] ∷ []
one_empty new old v behind e f g h =
    ap (λ us. number_picks (lists_of us) (numbers_in behind ∷ [])) e
    ∙ ap (λ us. number_picks (lists_of (us ++ v ∷ [])) (numbers_in behind ∷ [])) f
    ∙ ap (λ (ss : List Span). number_picks (numbers_in ss ∷ []) (numbers_in behind ∷ [])) g
    ∙ ap (λ (ss : List Span). number_picks ([] ∷ []) (numbers_in ss ∷ [])) h

-- one place of one number
pub one_alone : {G : Type 0} (new old : List (Vec Span G)) (v : Vec Span G) (before : List Span) (s : Span) (n : ℕ) → new ≡ old ++ v ∷ [] → old ≡ []
    → v.items ≡ before ++ s ∷ [] → before ≡ [] → numbers_of s ≡ n ∷ [] → lists_of new ≡ (n ∷ []) ∷ []
one_alone new old v before s n e f g h same =
    ap (λ us. lists_of us) e
    ∙ ap (λ us. lists_of (us ++ v ∷ [])) f
    ∙ ap (λ (ss : List Span). numbers_in ss ∷ []) g
    ∙ ap (λ (ss : List Span). numbers_in (ss ++ s ∷ []) ∷ []) h
    ∙ ap (λ (ns : List ℕ). (ns ++ []) ∷ []) same

-- Readings.

behind_each-append : (a : List said.Literal) (xs ys : List (List said.Literal)) → behind_each a (xs ++ ys) ≡ behind_each a xs ++ behind_each a ys
behind_each-append a [] ys = refl
behind_each-append a (x ∷ xs) ys = ap (λ (ls : List (List said.Literal)). (a ++ x) ∷ ls) (behind_each-append a xs ys)

behind_each-behind_each : (a b : List said.Literal) (xs : List (List said.Literal)) → behind_each (a ++ b) xs ≡ behind_each a (behind_each b xs)
behind_each-behind_each a b [] = refl
behind_each-behind_each a b (x ∷ xs) = cc (append_assoc a b x, behind_each-behind_each a b xs)

picks-append : (xs ys bs : List (List said.Literal)) → picks (xs ++ ys) bs ≡ picks xs bs ++ picks ys bs
picks-append [] ys bs = refl
picks-append (x ∷ xs) ys bs = ap (λ (ls : List (List said.Literal)). behind_each x bs ++ ls) (picks-append xs ys bs)
    ∙ sym (append_assoc (behind_each x bs) (picks xs bs) (picks ys bs))

picks-behind_each : (a : List said.Literal) (bs cs : List (List said.Literal)) → picks (behind_each a bs) cs ≡ behind_each a (picks bs cs)
picks-behind_each a [] cs = refl
picks-behind_each a (b ∷ bs) cs =
    ap (λ (ls : List (List said.Literal)). behind_each (a ++ b) cs ++ ls) (picks-behind_each a bs cs)
    ∙ ap (λ (ls : List (List said.Literal)). ls ++ behind_each a (picks bs cs)) (behind_each-behind_each a b cs)
    ∙ sym (behind_each-append a (behind_each b cs) (picks bs cs))

pub picks-picks : (as' bs cs : List (List said.Literal)) → picks (picks as' bs) cs ≡ picks as' (picks bs cs)
picks-picks [] bs cs = refl
picks-picks (a ∷ as') bs cs =
    picks-append (behind_each a bs) (picks as' bs) cs
    ∙ ap (λ (ls : List (List said.Literal)). ls ++ picks (picks as' bs) cs) (picks-behind_each a bs cs)
    ∙ ap (λ (ls : List (List said.Literal)). behind_each a (picks bs cs) ++ ls) (picks-picks as' bs cs)

pub picks-one : (as' : List (List said.Literal)) → picks as' ([] ∷ []) ≡ as'
picks-one [] = refl
picks-one (a ∷ as') = cc (append-nil a, picks-one as')

-- Numbers that stand for literals.

each_append : (from : ℕ) (d : Data) (ns ms : List ℕ) (ls ks : List said.Literal) → StandForEach from d ns ls → StandForEach from d ms ks
    → StandForEach from d (ns ++ ms) (ls ++ ks)
each_append from d [] ms [] ks h k = k
each_append from d [] ms (l ∷ ls) ks h k = absurd h
each_append from d (n ∷ ns) ms [] ks h k = absurd h
each_append from d (n ∷ ns) ms (l ∷ ls) ks h k = (h.0, each_append from d ns ms ls ks h.1 k)

lists_append : (from : ℕ) (d : Data) (as' bs : List (List ℕ)) (rs ss : List (List said.Literal)) → StandForLists from d as' rs
    → StandForLists from d bs ss
    → StandForLists from d (as' ++ bs) (rs ++ ss)
lists_append from d [] bs [] ss h k = k
lists_append from d [] bs (r ∷ rs) ss h k = absurd h
lists_append from d (a ∷ as') bs [] ss h k = absurd h
lists_append from d (a ∷ as') bs (r ∷ rs) ss h k = (h.0, lists_append from d as' bs rs ss h.1 k)

behind_each_stand : (from : ℕ) (d : Data) (a : List ℕ) (bs : List (List ℕ)) (r : List said.Literal) (ss : List (List said.Literal))
    → StandForEach from d a r → StandForLists from d bs ss
    → StandForLists from d (numbers_behind_each a bs) (behind_each r ss)
behind_each_stand from d a [] r [] h k = k
behind_each_stand from d a [] r (s ∷ ss) h k = absurd k
behind_each_stand from d a (b ∷ bs) r [] h k = absurd k
behind_each_stand from d a (b ∷ bs) r (s ∷ ss) h k = (each_append from d a b r s h k.0, behind_each_stand from d a bs r ss h k.1)

picks_stand : (from : ℕ) (d : Data) (as' bs : List (List ℕ)) (rs ss : List (List said.Literal)) → StandForLists from d as' rs
    → StandForLists from d bs ss
    → StandForLists from d (number_picks as' bs) (picks rs ss)
picks_stand from d [] bs [] ss h k = h
picks_stand from d [] bs (r ∷ rs) ss h k = absurd h
picks_stand from d (a ∷ as') bs [] ss h k = absurd h
picks_stand from d (a ∷ as') bs (r ∷ rs) ss h k =
    lists_append from d (numbers_behind_each a bs) (number_picks as' bs) (behind_each r ss) (picks rs ss) (behind_each_stand from d a bs r ss h.0 k)
    (picks_stand from d as' bs rs ss h.1 k)

-- Readings that were added.

pub spreads_atom : (from : ℕ) (a b : Data) (n : ℕ) (l : said.Literal) (lists : List (List ℕ)) → AddsLiteral from a b n l → lists ≡ (n ∷ []) ∷ []
    → Spreads from a b lists ((l ∷ []) ∷ [])
spreads_atom from a b n l lists x e =
    record {
      grows = x.grows;
      stand = λ later h. subst (λ (ls : List (List ℕ)). StandForLists from later ls ((l ∷ []) ∷ [])) (sym e)
          ((x.stands later h, tt), tt);
    }

-- of all readings, `left` are still to come behind those that were added
pub record InTurn (from : ℕ) (start now : Data) (lists : List (List ℕ)) (left whole : List (List said.Literal)) : Type 0 where
  pub done : List (List said.Literal)
  pub spreads : Spreads from start now lists done
  pub both : done ++ left ≡ whole

pub turn_begun : (from : ℕ) (d : Data) (lists : List (List ℕ)) (whole : List (List said.Literal)) → lists ≡ [] → InTurn from d d lists whole whole
turn_begun from d lists whole e =
    record {
      done = [];
      spreads = record { grows = grows_refl from d; stand = λ later h. subst (λ (ls : List (List ℕ)). StandForLists from later ls []) (sym e) tt };
      both = refl;
    }

pub turn_on : {A : Type 0} (from : ℕ) (a b c : Data) (lists more new : List (List ℕ)) (es : List (Expr A)) (i : ℕ) (e : Expr A)
    (whole : List (List said.Literal))
    → InTurn from a b lists (readings_in_turn (trees_of (trees_in (drop i es)))) whole → i < length es → e ≡ get_or es i e
    → Spreads from b c more (readings (tree_of e)) → new ≡ lists ++ more
    → InTurn from a c new (readings_in_turn (trees_of (trees_in (drop (i + 1) es)))) whole
turn_on {A} from a b c lists more new es i e whole t less at x added =
    let rest : List (List said.Literal) = readings_in_turn (trees_of (trees_in (drop (i + 1) es))) in
    record {
      done = t.done ++ readings (tree_of e);
      spreads = record {
        grows = grows_trans from a b c t.spreads.grows x.grows;
        stand = λ later h.
            subst (λ (ls : List (List ℕ)). StandForLists from later ls (t.done ++ readings (tree_of e))) (sym added)
            (lists_append from later lists more t.done (readings (tree_of e)) (t.spreads.stand later (extends_trans b c later x.grows.extends h))
            (x.stand later h));
      };
      both =
          append_assoc t.done (readings (tree_of e)) rest
          ∙ ap (λ (ts : List Tree). t.done ++ readings_in_turn (trees_of ts)) (sym (parts_from es i e less at))
          ∙ t.both;
    }

pub turn_ended : {A : Type 0} (from : ℕ) (a b : Data) (lists : List (List ℕ)) (es : List (Expr A)) (i : ℕ) (whole : List (List said.Literal))
    → InTurn from a b lists (readings_in_turn (trees_of (trees_in (drop i es)))) whole → length es ≤ i → Spreads from a b lists whole
turn_ended from a b lists es i whole t past =
    subst (λ (rs : List (List said.Literal)). Spreads from a b lists rs)
    (sym (append-nil t.done) ∙ ap (λ (ts : List Tree). t.done ++ readings_in_turn (trees_of ts)) (sym (no_parts es i past)) ∙ t.both)
    t.spreads

-- of the picks, those of `left` are still to be made behind those that were added
pub record Picked (from : ℕ) (start now : Data) (lists : List (List ℕ)) (left whole : List (List said.Literal)) : Type 0 where
  pub done : List (List said.Literal)
  pub spreads : Spreads from start now lists done
  pub both : picks done left ≡ whole

-- no literals were added, and their one reading is empty
none_picked : (from : ℕ) (d : Data) (lists : List (List ℕ)) → lists ≡ [] ∷ [] → Spreads from d d lists ([] ∷ [])
none_picked from d lists e =
    record {
      grows = grows_refl from d;
      stand =
          λ later h. subst (λ (ls : List (List ℕ)). StandForLists from later ls ([] ∷ [])) (sym e) (tt, tt);
    }

-- the readings of no literals
pub picks_of_none : {A : Type 0} (from : ℕ) (d : Data) (lists : List (List ℕ)) (es : List (Expr A)) → true ≡ (length es == 0) → lists ≡ [] ∷ []
    → Spreads from d d lists (readings_of_all (trees_of (trees_in es)))
picks_of_none from d lists [] h e = none_picked from d lists e
picks_of_none from d lists (x ∷ es) h e = absurd (grind (arith, h))

pub picks_begun : (from : ℕ) (d : Data) (lists : List (List ℕ)) (whole : List (List said.Literal)) → lists ≡ [] ∷ []
    → Picked from d d lists whole whole
picks_begun from d lists whole e =
    record {
      done = [] ∷ [];
      spreads = none_picked from d lists e;
      both = append-nil (behind_each [] whole) ∙ same whole;
    }
  where
    same : (rs : List (List said.Literal)) → behind_each [] rs ≡ rs
    same [] = refl
    same (r ∷ rs) = ap (λ (ls : List (List said.Literal)). r ∷ ls) (same rs)

pub picks_on : {A : Type 0} (from : ℕ) (a b c : Data) (lists more new : List (List ℕ)) (es : List (Expr A)) (i : ℕ) (e : Expr A)
    (whole : List (List said.Literal))
    → Picked from a b lists (readings_of_all (trees_of (trees_in (drop i es)))) whole → i < length es → e ≡ get_or es i e
    → Spreads from b c more (readings (tree_of e)) → new ≡ number_picks lists more
    → Picked from a c new (readings_of_all (trees_of (trees_in (drop (i + 1) es)))) whole
picks_on {A} from a b c lists more new es i e whole t less at x added =
    let rest : List (List said.Literal) = readings_of_all (trees_of (trees_in (drop (i + 1) es))) in
    record {
      done = picks t.done (readings (tree_of e));
      spreads = record {
        grows = grows_trans from a b c t.spreads.grows x.grows;
        stand = λ later h.
            subst (λ (ls : List (List ℕ)). StandForLists from later ls (picks t.done (readings (tree_of e)))) (sym added)
            (picks_stand from later lists more t.done (readings (tree_of e)) (t.spreads.stand later (extends_trans b c later x.grows.extends h))
            (x.stand later h));
      };
      both =
          picks-picks t.done (readings (tree_of e)) rest
          ∙ ap (λ (ts : List Tree). picks t.done (readings_of_all (trees_of ts))) (sym (parts_from es i e less at))
          ∙ t.both;
    }

pub picks_ended : {A : Type 0} (from : ℕ) (a b : Data) (lists : List (List ℕ)) (es : List (Expr A)) (i : ℕ) (whole : List (List said.Literal))
    → Picked from a b lists (readings_of_all (trees_of (trees_in (drop i es)))) whole → length es ≤ i → Spreads from a b lists whole
picks_ended from a b lists es i whole t past =
    subst (λ (rs : List (List said.Literal)). Spreads from a b lists rs)
    (sym (picks-one t.done) ∙ ap (λ (ts : List Tree). picks t.done (readings_of_all (trees_of ts))) (sym (no_parts es i past)) ∙ t.both)
    t.spreads

-- The readings of a literal by its word.

pub readings-or : (w : List ℕ) (rest : Trees) → w ≡ w_or → readings (list (tree (name w) rest)) ≡ readings_in_turn rest
readings-or w rest e = ap (λ (v : List ℕ). readings (list (tree (name v) rest))) e

pub readings-and : (w : List ℕ) (rest : Trees) → w ≡ w_and → readings (list (tree (name w) rest)) ≡ readings_of_all rest
readings-and w rest e = ap (λ (v : List ℕ). readings (list (tree (name v) rest))) e

pub readings-not : (w : List ℕ) (rest : Trees) → w ≡ w_not → readings (list (tree (name w) rest)) ≡ (negated rest ∷ []) ∷ []
readings-not w rest e = ap (λ (v : List ℕ). readings (list (tree (name v) rest))) e

pub readings-atom : (w : List ℕ) (rest : Trees) → IsNoConnective w
    → readings (list (tree (name w) rest)) ≡ (positive (atom_in (list (tree (name w) rest))) ∷ []) ∷ []
readings-atom w rest n = rw (n.no_or, n.no_and, n.no_not) refl

pub not_word : (w : List ℕ) (k : Connective) → IsConnectiveOf w k → k ≡ words.Not → w ≡ w_not
not_word w words.Or h e = absurd cc
not_word w words.And h e = absurd cc
not_word w words.Not h e = h
not_word w words.Nothing h e = absurd cc
