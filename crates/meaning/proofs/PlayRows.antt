-- Gates, kinds, starts and dropped heads of small games, by computation.
use Rattle.std.proofs.Common.{ℕ, true, false, ◌≡◌, List, [], ◌∷◌, length, map, cond, refl, Option, Some, None}
use Rattle.std.specs.Prelude.{codes}
use Rattle.statement.specs.Tree.{Tree, name, text, tree_eq}
use Rattle.kif.proofs.Facts.{items_in}
use Rattle.statement.specs.Words.{w_true, w_does, w_next, w_legal, w_terminal, w_init}
use Rattle.statement.specs.Items.{alternatives}
use Rattle.rules_profile.proofs.Facts.{match_text, tictactoe_text}
use Rattle.statement.specs.declared.kind.Kind.TheVariants.{Fixed, Now, Does, Next, Legal, Terminal, Other}
use Rattle.statement.specs.Meaning.{atom0, atom1, atom2, nothing}
use Rattle.statement.specs.Listing.{listing}
use Rattle.statement.specs.Kept.{gate}
use Rattle.statement.specs.Kinds.{kind_of}
use Rattle.statement.specs.Profile.{is_tree_in}
use Rattle.statement.specs.GoalsAndMoves.{dropped, start_list}
use Rattle.meaning.specs.Evaluation.{after_list, legal_list, is_ended}

-- the propositions done and same have the numbers 8 and 9, and the inputs 10 to 13
match_gates : map (gate (alternatives (items_in match_text))) (listing (alternatives (items_in match_text))).kept
    ≡ [] ∷ [] ∷ [] ∷ [] ∷ [] ∷ [] ∷ [] ∷ [] ∷ ((9, false) ∷ []) ∷ ((9, true) ∷ []) ∷ ((9, false) ∷ []) ∷ ((9, true) ∷ [])
    ∷ ((8, true) ∷ []) ∷ ((8, true) ∷ []) ∷ ((8, true) ∷ []) ∷ ((8, true) ∷ []) ∷ ((10, false) ∷ []) ∷ ((11, false) ∷ [])
    ∷ ((10, false) ∷ (12, false) ∷ []) ∷ ((11, false) ∷ (13, false) ∷ []) ∷ ((8, false) ∷ []) ∷ []
unfolding items_in match_text
match_gates = refl

-- `true q` is not possible, so its negation is right, and the gate of `next p` reads nothing
small_text : List ℕ
small_text = codes "(role a)(base p)(input a go)(legal a go)(init r)(<= (next p) (not (true q)))(<= (next s) (true p))(<= terminal (true p))(<= (goal a 90) (true p))"

small_gates : map (gate (alternatives (items_in small_text))) (listing (alternatives (items_in small_text))).kept
    ≡ [] ∷ [] ∷ [] ∷ [] ∷ [] ∷ ((4, false) ∷ []) ∷ [] ∷ ((4, false) ∷ []) ∷ ((4, false) ∷ []) ∷ []
unfolding items_in small_text
small_gates = refl

-- heads without effect: init q, which two rules give, next q, legal a y and legal b x
dropped_text : List ℕ
dropped_text = codes "(role a)(base p)(input a x)(init q)(<= (init q) (role a))(init p)(<= (legal a y) (true p))(<= (legal b x) (true p))(<= (legal a x) (true p))(<= (next q) (true p))(<= (next p) (true p))"

four_dropped : dropped (alternatives (items_in dropped_text)) ≡ 4
unfolding items_in dropped_text
four_dropped = refl

one_start : start_list (alternatives (items_in dropped_text)) ≡ name (codes "p") ∷ []
unfolding items_in dropped_text
one_start = refl

tictactoe_start : length (start_list (alternatives (items_in tictactoe_text))) ≡ 10
unfolding items_in tictactoe_text
tictactoe_start = refl

kinds_text : List ℕ
kinds_text = codes "(role b)(role a)(base q)(base p)(input a y)(input a x)(input b x)(base (init p))(<= (goal a 100) (true p))(<= (helper ?x) (true ?x))"

some_kinds : map (kind_of (alternatives (items_in kinds_text)))
    (atom1 w_true (name (codes "p")) ∷ atom1 w_true (name (codes "r")) ∷ atom1 w_next (name (codes "q"))
    ∷ atom2 w_does (name (codes "a")) (name (codes "y")) ∷ atom2 w_does (name (codes "b")) (name (codes "y"))
    ∷ atom2 w_legal (name (codes "b")) (name (codes "x")) ∷ atom2 w_legal (name (codes "c")) (name (codes "x"))
    ∷ atom0 w_terminal ∷ atom1 w_init (name (codes "p")) ∷ atom1 (codes "helper") (name (codes "p")) ∷ atom1 w_terminal (name (codes "p")) ∷ [])
    ≡ Now 1 ∷ Other ∷ Next 2 ∷ Does 1 1 ∷ Other ∷ Legal 0 0 ∷ Other ∷ Terminal ∷ Fixed ∷ Other ∷ Fixed ∷ []
unfolding items_in kinds_text
some_kinds = refl

-- Play, by going through the kept instances: the state after both choose alike or not, the end, and
-- the legal moves at the start.

abbrev both_choose : List ℕ → List ℕ → Tree → Option Tree
both_choose m n r = cond (tree_eq r (name (codes "a"))) (Some (name m)) (cond (tree_eq r (name (codes "b"))) (Some (name n)) None)

match_alike : after_list (alternatives (items_in match_text)) nothing (both_choose (codes "h") (codes "h")) ≡ name (codes "done") ∷ name (codes "same") ∷ []
unfolding items_in match_text
match_alike = refl

match_unlike : after_list (alternatives (items_in match_text)) nothing (both_choose (codes "h") (codes "t")) ≡ name (codes "done") ∷ []
unfolding items_in match_text
match_unlike = refl

match_legal : legal_list (alternatives (items_in match_text)) nothing (name (codes "b")) ≡ name (codes "h") ∷ name (codes "t") ∷ []
unfolding items_in match_text
match_legal = refl

match_open : is_ended (alternatives (items_in match_text)) nothing ≡ false
unfolding items_in match_text
match_open = refl

match_ended : is_ended (alternatives (items_in match_text)) (λ t. tree_eq t (name (codes "done"))) ≡ true
unfolding items_in match_text
match_ended = refl

match_over : legal_list (alternatives (items_in match_text)) (λ t. tree_eq t (name (codes "done"))) (name (codes "b")) ≡ []
unfolding items_in match_text
match_over = refl

tictactoe_legal : map text (legal_list (alternatives (items_in tictactoe_text)) (λ t. is_tree_in t (start_list (alternatives (items_in tictactoe_text)))) (name (codes "xplayer")))
    ≡ codes "(mark 1 1)" ∷ codes "(mark 1 2)" ∷ codes "(mark 1 3)" ∷ codes "(mark 2 1)" ∷ codes "(mark 2 2)" ∷ codes "(mark 2 3)" ∷ codes "(mark 3 1)" ∷ codes "(mark 3 2)" ∷ codes "(mark 3 3)" ∷ []
unfolding items_in tictactoe_text
tictactoe_legal = refl

tictactoe_waits : map text (legal_list (alternatives (items_in tictactoe_text)) (λ t. is_tree_in t (start_list (alternatives (items_in tictactoe_text)))) (name (codes "oplayer"))) ≡ codes "noop" ∷ []
unfolding items_in tictactoe_text
tictactoe_waits = refl
