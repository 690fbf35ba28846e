-- Whole games, by computation.
use Rattle.std.proofs.Common.{ℕ, ◌≡◌, List, [], ◌∷◌, length, map, refl, None}
use Rattle.std.specs.Prelude.{codes}
use Rattle.kif.proofs.Facts.{items_in}
use Rattle.statement.specs.Clause.{Relation}
use Rattle.statement.specs.Items.{alternatives}
use Rattle.statement.specs.Order.{relations_in_order}
use Rattle.statement.specs.Profile.{item_fault_in}

unfoldable pub match_text : List ℕ
match_text =
    codes "(role a)(role b)(base done)(base same)(input a h)(input a t)(input b h)(input b t)(<= (legal ?r ?m) (input ?r ?m) (not (true done)))(<= (next done) (does a ?m))(<= (next same) (does a ?m) (does b ?m))(<= terminal (true done))(<= (goal a 100) (true same))(<= (goal a 0) (not (true same)))(<= (goal b 0) (true same))(<= (goal b 100) (not (true same)))"

match_accepted : item_fault_in (items_in match_text) ≡ None
unfolding items_in match_text
match_accepted = refl

match_counts : length (alternatives (items_in match_text)) ≡ 16
unfolding items_in match_text
match_counts = refl

match_order : map (λ (p : Relation). p.word) (relations_in_order (alternatives (items_in match_text)))
    ≡ codes "base" ∷ codes "input" ∷ codes "role" ∷ codes "goal" ∷ codes "legal" ∷ codes "next" ∷ codes "terminal" ∷ []
unfolding items_in match_text
match_order = refl

unfoldable pub four_text : List ℕ
four_text = codes "(role a) (val x 40) (val y 70) (val z 70) (val zz 10) (<= (input a ?m) (val ?m ?v)) (<= (base (did ?m)) (val ?m ?v)) (<= (legal a ?m) (val ?m ?v)) (<= (next (did ?m)) (does a ?m)) (<= (goal a ?v) (true (did ?m)) (val ?m ?v)) (<= terminal (true (did ?m)))"

four_accepted : item_fault_in (items_in four_text) ≡ None
unfolding items_in four_text
four_accepted = refl

unfoldable pub tictactoe_text : List ℕ
tictactoe_text =
    codes "(role xplayer)(role oplayer)(index 1)(index 2)(index 3)(<= (base (cell ?x ?y b))(index ?x)(index ?y))(<= (base (cell ?x ?y x))(index ?x)(index ?y))(<= (base (cell ?x ?y o))(index ?x)(index ?y))(<= (base (control ?p))(role ?p))(<= (input ?p (mark ?x ?y))(role ?p)(index ?x)(index ?y))(<= (input ?p noop)(role ?p))(init (cell 1 1 b))(init (cell 1 2 b))(init (cell 1 3 b))(init (cell 2 1 b))(init (cell 2 2 b))(init (cell 2 3 b))(init (cell 3 1 b))(init (cell 3 2 b))(init (cell 3 3 b))(init (control xplayer))(<= (next (cell ?x ?y x))(does xplayer (mark ?x ?y))(true (cell ?x ?y b)))(<= (next (cell ?x ?y o))(does oplayer (mark ?x ?y))(true (cell ?x ?y b)))(<= (next (cell ?x ?y ?w))(true (cell ?x ?y ?w))(distinct ?w b))(<= (next (cell ?x ?y b))(does ?w (mark ?m ?n))(true (cell ?x ?y b))(or (distinct ?x ?m)(distinct ?y ?n)))(<= (next (control xplayer))(true (control oplayer)))(<= (next (control oplayer))(true (control xplayer)))(<= (row ?x ?w)(true (cell ?x 1 ?w))(true (cell ?x 2 ?w))(true (cell ?x 3 ?w)))(<= (column ?y ?w)(true (cell 1 ?y ?w))(true (cell 2 ?y ?w))(true (cell 3 ?y ?w)))(<= (diagonal ?w)(true (cell 1 1 ?w))(true (cell 2 2 ?w))(true (cell 3 3 ?w)))(<= (diagonal ?w)(true (cell 1 3 ?w))(true (cell 2 2 ?w))(true (cell 3 1 ?w)))(<= (line ?w)(row ?x ?w))(<= (line ?w)(column ?y ?w))(<= (line ?w)(diagonal ?w))(<= open (true (cell ?x ?y b)))(<= (legal ?w (mark ?x ?y))(true (cell ?x ?y b))(true (control ?w)))(<= (legal xplayer noop)(true (control oplayer)))(<= (legal oplayer noop)(true (control xplayer)))(<= (goal xplayer 100)(line x))(<= (goal xplayer 50)(not (line x))(not (line o))(not open))(<= (goal xplayer 0)(line o))(<= (goal oplayer 100)(line o))(<= (goal oplayer 50)(not (line x))(not (line o))(not open))(<= (goal oplayer 0)(line x))(<= terminal (line x))(<= terminal (line o))(<= terminal (not open))"

tictactoe_counts : length (alternatives (items_in tictactoe_text)) ≡ 48
unfolding items_in tictactoe_text
tictactoe_counts = refl

tictactoe_order : length (relations_in_order (alternatives (items_in tictactoe_text))) ≡ 14
unfolding items_in tictactoe_text
tictactoe_order = refl

tictactoe_accepted : item_fault_in (items_in tictactoe_text) ≡ None
unfolding items_in tictactoe_text
tictactoe_accepted = refl
