-- Listings of whole games, by computation.
use Rattle.std.proofs.Common.{ℕ, ◌≡◌, List, [], ◌∷◌, length, map, refl}
use Rattle.std.specs.Prelude.{codes}
use Rattle.statement.specs.Tree.{text}
use Rattle.kif.proofs.Facts.{items_in}
use Rattle.statement.specs.Clause.{tree_of}
use Rattle.statement.specs.Items.{alternatives}
use Rattle.rules_profile.proofs.Facts.{match_text, four_text, tictactoe_text}
use Rattle.statement.specs.GoalsAndMoves.{dropped}
use Rattle.statement.specs.Listing.{listing, Instance}

match_instances : length (listing (alternatives (items_in match_text))).kept ≡ 21
unfolding items_in match_text
match_instances = refl

small_text : List ℕ
small_text = codes "(role a)(base p)(input a go)(legal a go)(init r)(<= (next p) (not (true q)))(<= (next s) (true p))(<= terminal (true p))(<= (goal a 90) (true p))"

small_instances : length (listing (alternatives (items_in small_text))).kept ≡ 9
unfolding items_in small_text
small_instances = refl

four_instances : length (listing (alternatives (items_in four_text))).kept ≡ 29
unfolding items_in four_text
four_instances = refl

match_heads : map (λ (i : Instance). text (tree_of i.head)) (listing (alternatives (items_in match_text))).kept
    ≡ codes "(base done)" ∷ codes "(base same)" ∷ codes "(input a h)" ∷ codes "(input a t)" ∷ codes "(input b h)" ∷ codes "(input b t)" ∷ codes "(role a)" ∷ codes "(role b)" ∷ codes "(goal a 100)" ∷ codes "(goal a 0)" ∷ codes "(goal b 0)" ∷ codes "(goal b 100)" ∷ codes "(legal a h)" ∷ codes "(legal a t)" ∷ codes "(legal b h)" ∷ codes "(legal b t)" ∷ codes "(next done)" ∷ codes "(next done)" ∷ codes "(next same)" ∷ codes "(next same)" ∷ codes "terminal" ∷ []
unfolding items_in match_text
match_heads = refl

tictactoe_instances : length (listing (alternatives (items_in tictactoe_text))).kept ≡ 401
unfolding items_in tictactoe_text
tictactoe_instances = refl

small_dropped : dropped (alternatives (items_in small_text)) ≡ 2
unfolding items_in small_text
small_dropped = refl

match_dropped : dropped (alternatives (items_in match_text)) ≡ 0
unfolding items_in match_text
match_dropped = refl
