-- The names of what a text stands for are lawful.
use Rattle.std.proofs.Common.{ℕ, zero, suc, ◌+◌, ◌≡◌, Bool, true, false, cond, ◌==◌, List, [], ◌∷◌, ◌++◌, map, refl, sym, subst, ◌∙◌, arith}
use Rattle.std.specs.Prelude.{⊤, All}
use Rattle.std.proofs.lemmas.Bool.Decides.{nat_tests}
use Rattle.statement.specs.Tree.{Tree, name, list, Trees, no_trees, tree, trees_of}
use Rattle.statement.specs.Lexical.{is_name_byte, is_capital, is_space, is_lower_name_byte, lower, name_front, visible, Token, opening, closing, word}
use Rattle.statement.specs.Lexical.{stray, spots_at, tokens_of, AreNameBytes, IsName, HasNames, HaveNames}
use Rattle.statement.specs.Reading.{tree_tokens, trees_tokens, Reads}
use Rattle.kif.proofs.Grammar.{list_tokens, more_tokens, append_none}

abbrev HaveLawfulNames : List Token → Type 0
HaveLawfulNames [] = ⊤
HaveLawfulNames (opening ∷ ks) = HaveLawfulNames ks
HaveLawfulNames (closing ∷ ks) = HaveLawfulNames ks
HaveLawfulNames (word w ∷ ks) = IsName w × HaveLawfulNames ks
HaveLawfulNames (stray ∷ ks) = HaveLawfulNames ks

lower_is_lawful : (b : ℕ) → is_name_byte b ≡ true → is_lower_name_byte (lower b) ≡ true
lower_is_lawful b h = go (is_capital b) refl
  where
    go : (c : Bool) → is_capital b ≡ c → is_lower_name_byte (cond c (b + 32) b) ≡ true
    go true e = grind (arith, nat_tests)
    go false e = grind (arith, nat_tests)

front_is_lawful : (bs : List ℕ) → AreNameBytes (name_front bs)
front_is_lawful [] = tt
front_is_lawful (b ∷ bs) = go (is_name_byte b) refl (front_is_lawful bs)
  where
    go : (t : Bool) → is_name_byte b ≡ t → AreNameBytes (name_front bs) → AreNameBytes (cond t (lower b ∷ name_front bs) [])
    go true e rest = (lower_is_lawful b e, rest)
    go false e rest = tt

word_is_lawful : (b : ℕ) (bs : List ℕ) → is_name_byte b ≡ true → IsName (name_front (b ∷ bs))
word_is_lawful b bs e = rw e (lower_is_lawful b e, front_is_lawful bs)

tokens_are_lawful : (o : ℕ) (after : Bool) (bs : List ℕ) → HaveLawfulNames (tokens_of (spots_at o after bs))
tokens_are_lawful o after [] = tt
tokens_are_lawful o after (b ∷ bs) = by_name (is_name_byte b) refl (tokens_are_lawful (suc o) (is_name_byte b) bs)
  where
    by_after : (a : Bool) → is_name_byte b ≡ true → HaveLawfulNames (tokens_of (spots_at (suc o) (is_name_byte b) bs))
        → HaveLawfulNames (tokens_of (map (λ k. record { at = o; token = k }) (cond a [] (word (name_front (b ∷ bs)) ∷ []))
        ++ spots_at (suc o) (is_name_byte b) bs))
    by_after true e rest = rest
    by_after false e rest = (word_is_lawful b bs e, rest)

    by_space : (c d f : Bool) → HaveLawfulNames (tokens_of (spots_at (suc o) (is_name_byte b) bs))
        → HaveLawfulNames (tokens_of (map (λ k. record { at = o; token = k }) (cond c (opening ∷ []) (cond d (closing ∷ []) (cond f [] (stray ∷ []))))
        ++ spots_at (suc o) (is_name_byte b) bs))
    by_space true d f rest = rest
    by_space false true f rest = rest
    by_space false false true rest = rest
    by_space false false false rest = rest

    by_name : (t : Bool) → is_name_byte b ≡ t → HaveLawfulNames (tokens_of (spots_at (suc o) (is_name_byte b) bs))
        → HaveLawfulNames
        (tokens_of (map (λ k. record { at = o; token = k })
        (cond t (cond after [] (word (name_front (b ∷ bs)) ∷ []))
        (cond (b == 40) (opening ∷ []) (cond (b == 41) (closing ∷ []) (cond (is_space b) [] (stray ∷ [])))))
        ++ spots_at (suc o) (is_name_byte b) bs))
    by_name true e rest = by_after after e rest
    by_name false e rest = by_space (b == 40) (b == 41) (is_space b) rest

mutual
  tree_is_lawful : (t : Tree) (r : List Token) → HaveLawfulNames (tree_tokens t ++ r) → HasNames t × HaveLawfulNames r
  tree_is_lawful (name n) r h = h
  tree_is_lawful (list ts) r h = trees_are_lawful ts (closing ∷ r) (subst HaveLawfulNames (list_tokens ts r) h)

  trees_are_lawful : (ts : Trees) (r : List Token) → HaveLawfulNames (trees_tokens ts ++ r) → HaveNames ts × HaveLawfulNames r
  trees_are_lawful no_trees r h = (tt, h)
  trees_are_lawful (tree t ts) r h =
      let first = tree_is_lawful t (trees_tokens ts ++ r) (subst HaveLawfulNames (more_tokens t ts r) h) in
      let rest = trees_are_lawful ts r first.1 in
      ((first.0, rest.0), rest.1)

pub read_names : (text : List ℕ) (ts : Trees) → Reads text ts → HaveNames ts
read_names text ts r =
    (trees_are_lawful ts [] (subst HaveLawfulNames (r.same_tokens ∙ sym (append_none (trees_tokens ts)))
    (tokens_are_lawful 0 false (visible text)))).0

-- the same of the trees as a list
each_named : (ts : List Tree) → HaveNames (trees_of ts) → All HasNames ts
each_named [] h k d below = absurd (omega arith)
each_named (t ∷ ts) h zero d below = h.0
each_named (t ∷ ts) h (suc k) d below = each_named ts h.1 k d (omega arith)

pub each_has_names : (text : List ℕ) (ts : List Tree) → Reads text (trees_of ts) → All HasNames ts
each_has_names text ts h = each_named ts (read_names text (trees_of ts) h)
