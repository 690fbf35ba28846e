-- `distinct` of two terms that are written alike.
use Rattle.std.proofs.Common.{ℕ, suc, ◌≡◌, ◌+◌, ◌-◌, ◌<◌, ◌≤◌, Bool, true, false, not, cond, List, [], ◌∷◌, ◌++◌, length, take, drop, get_or, refl, sym, ◌∙◌, ap, subst, arith, Option}
use Rattle.std.proofs.Math.Seq.{take-suc}
use Rattle.std.proofs.lemmas.List.{take-append-le, drop-append-le, take-append-drop, length-drop, get_or-drop, take_all}
use Rattle.kif.proofs.Facts.{both, tree_eq_self}
use Rattle.statement.specs.Tree.{Tree, no_trees, tree, list, name, trees_of, tree_eq}
use Rattle.statement.specs.Clause as said
use Rattle.statement.specs.Clause.{positive, negative, relation_of}
use Rattle.statement.specs.Dependence.{is_distinct, is_fixed}
use Rattle.statement.specs.Listing.{passes}
use Rattle.statement.specs.Substitution.{atom_under}
use Rattle.rules_clauses.specs.declared.numbered.Literal as memory
use Rattle.rules_clauses.specs.declared.numbered.Part.{Part}
use Rattle.rules_clauses.specs.declared.numbered.Part.TheVariants as parts
use Rattle.rules_clauses.specs.Marks.{literal_in}
use Rattle.rules_clauses.specs.Numbers.{word_at}
use Rattle.rules_clauses.specs.Store.{Data, AreFull, count_terms, stated_atom, relation_at}
use Rattle.ground_terms.specs.Building.{place_value, with_part, ground_terms}
use Rattle.ground_terms.specs.Keys.{trees}
use Rattle.ground_matching.specs.Levels.{parts_in}
use Rattle.ground_matching.specs.Placed.{placed_atom}
use Rattle.ground_matching.specs.Plans.{CanBuild, mark_of}
use Rattle.ground_rows.specs.Instances.{row_map, IsRow, literal_by}
use Rattle.ground_rows.specs.declared.literal_steps.LiteralStep.TheVariants.{Same}
use Rattle.ground_rows.specs.Steps.{AreTwice, IsLiteralStep}
use Rattle.ground_rows.proofs.Pairs.{pair_literal, row_terms}
use Rattle.ground_rows.proofs.RowAtoms.{full_placed}
use Rattle.ground_rows.proofs.RowBodies.{made_of, row_relation}
use Rattle.ground_rows.proofs.RowTests.{is_pair}

module _ (words : List (List ℕ)) (value : ℕ → Tree) where
  ground_append : (ps qs : List Part) (behind : List Tree) → ground_terms words value (ps ++ qs) behind
      ≡ ground_terms words value ps (ground_terms words value qs behind)
  ground_append [] qs behind = refl
  ground_append (p ∷ ps) qs behind = ap (λ (ts : List Tree). with_part words value p ts) (ground_append ps qs behind)

  ground_count : (ps : List Part) → length (ground_terms words value ps []) ≡ count_terms ps
  ground_count [] = refl
  ground_count (parts.Variable v ∷ ps) = ap suc (ground_count ps)
  ground_count (parts.Constant s ∷ ps) = ap suc (ground_count ps)
  ground_count (parts.List s n ∷ ps) =
      ap suc (length-drop n (ground_terms words value ps []) ∙ ap (λ (m : ℕ). m - n) (ground_count ps))

  -- parts with all of their terms take none of those behind
  ground_behind : (ps : List Part) (behind : List Tree) → AreFull ps → ground_terms words value ps behind ≡ ground_terms words value ps [] ++ behind
  ground_behind [] behind f = refl
  ground_behind (parts.Variable v ∷ ps) behind f = ap (λ (ts : List Tree). value v ∷ ts) (ground_behind ps behind f)
  ground_behind (parts.Constant s ∷ ps) behind f = ap (λ (ts : List Tree). name (word_at words s) ∷ ts) (ground_behind ps behind f)
  ground_behind (parts.List s n ∷ ps) behind f =
      let own = ground_terms words value ps [] in
      let some : n ≤ length own = subst (λ (m : ℕ). n ≤ m) (sym (ground_count ps)) f.0 in
      ap (λ (ts : List Tree). list (tree (name (word_at words s)) (trees_of (take n ts))) ∷ drop n ts) (ground_behind ps behind f.1)
      ∙ ap (λ (ts : List Tree). list (tree (name (word_at words s)) (trees_of ts)) ∷ drop n (own ++ behind)) (take-append-le n own behind some)
      ∙ ap (λ (ts : List Tree). list (tree (name (word_at words s)) (trees_of (take n own))) ∷ ts) (drop-append-le n own behind some)

  full_behind : (ps qs : List Part) → AreFull (ps ++ qs) → AreFull qs
  full_behind [] qs f = f
  full_behind (parts.Variable v ∷ ps) qs f = full_behind ps qs f
  full_behind (parts.Constant s ∷ ps) qs f = full_behind ps qs f
  full_behind (parts.List s n ∷ ps) qs f = full_behind ps qs f.1

  -- two terms that are twice the same ones
  halves : (ts : List Tree) (l r : Tree) → trees_of (ts ++ ts) ≡ tree l (tree r no_trees) → l ≡ r
  halves [] l r e = absurd cc
  halves (t ∷ []) l r e = let a : t ≡ l = cc in let b : t ≡ r = cc in sym a ∙ b
  halves (t ∷ (u ∷ [])) l r e = absurd cc
  halves (t ∷ (u ∷ (v ∷ ts))) l r e = absurd cc

  pub same_passes : (rules : List said.Alternative) (atoms : List said.Atom) (x : said.Atom) (ps : List Part) → is_distinct (relation_of x) ≡ true
      → AreFull ps → AreTwice ps → x.terms ≡ trees_of (ground_terms words value ps [])
      → (passes rules atoms (positive x) ≡ false) × (passes rules atoms (negative x) ≡ true)
  same_passes rules atoms x ps e full twice terms =
      let half = twice.0 in
      let own = ground_terms words value half [] in
      let made : ground_terms words value ps [] ≡ own ++ own =
      ap (λ (qs : List Part). ground_terms words value qs []) twice.1 ∙ ground_append half half []
      ∙ ground_behind half own (full_behind half half (subst (λ (qs : List Part). AreFull qs) twice.1 full)) in
      let i = is_pair rules atoms x.word x.terms e in
      let alike : i.left ≡ i.right = halves own i.left i.right (ap (λ (ts : List Tree). trees_of ts) (sym made) ∙ sym terms ∙ i.terms) in
      let is : tree_eq i.left i.right ≡ true = ap (λ (t : Tree). tree_eq i.left t) (sym alike) ∙ tree_eq_self i.left in
      (i.positive_is ∙ ap (λ (b : Bool). not b) is, i.negative_is ∙ is)

negated_is : (b : Bool) → b ≡ cond b true (not true)
negated_is true = refl
negated_is false = refl

-- such a literal passes in each row, if it is negated
pub twice_passes : (rules : List said.Alternative) (d : Data) (from : ℕ) (keys : List (List ℕ)) (places : List (Option ℕ)) (row : List ℕ) (n : ℕ)
    (ps : List Part) (negated : Bool) → IsLiteralStep (mark_of rules d n) ps (Same negated) → ps ≡ placed_atom d from places (literal_in d n).atom
    → CanBuild d from places (literal_in d n).atom → IsRow d keys places row → (atoms : List said.Atom)
    → negated ≡ passes rules atoms (literal_by d from keys places row n)
twice_passes rules d from keys places row n ps negated step ps_are c r atoms =
    let l : memory.Literal = literal_in d n in
    let m = row_map d keys places row in
    let x = atom_under m (stated_atom d from l.atom) in
    let p = relation_at d l.atom.relation in
    let is = both (is_distinct p) (is_fixed rules p) step.1 in
    sym step.2 ∙ negated_is l.is_negated
    ∙ pair_literal rules atoms x _ l.is_negated true (made_of d from keys places row n l refl)
    (same_passes d.words (place_value (trees d.words keys) row) rules atoms x ps (ap is_distinct (row_relation d from m l.atom c.inside) ∙ is.0)
    (subst (λ (qs : List Part). AreFull qs) (sym ps_are) (full_placed d from places (parts_in d l.atom) c.inside.full))
    step.3
    (row_terms d from keys places row l.atom r c
    ∙ ap (λ (qs : List Part). trees_of (ground_terms d.words (place_value (trees d.words keys) row) qs [])) (sym ps_are)))

-- A list that goes on with its first elements.

pub one_more_same : {A : Type 0} (xs : List A) (half i : ℕ) (a b : A) → a ≡ get_or xs i a → b ≡ get_or xs (half + i) b → i < half → half + half ≡ length xs
    → a ≡ b → take i (drop half xs) ≡ take i xs → take (i + 1) (drop half xs) ≡ take (i + 1) xs
one_more_same {A} xs half i a b a_is b_is h long same so_far =
    let l = length-drop half xs in
    let n : suc i ≡ i + 1 = omega arith in
    let there : get_or (drop half xs) i b ≡ get_or xs i b =
    get_or-drop half xs i b ∙ sym b_is ∙ sym same ∙ a_is ∙ ap (λ (d : A). get_or xs i d) same in
    ap (λ (k : ℕ). take k (drop half xs)) (sym n) ∙ take-suc (drop half xs) i b (omega (arith, h, l, long))
    ∙ ap (λ (ys : List A). ys ++ (get_or (drop half xs) i b ∷ [])) so_far ∙ ap (λ (y : A). take i xs ++ (y ∷ [])) there
    ∙ sym (take-suc xs i b (omega (arith, h, long))) ∙ ap (λ (k : ℕ). take k xs) n

pub twice_the_first : {A : Type 0} (xs : List A) (half : ℕ) → half + half ≡ length xs → take half (drop half xs) ≡ take half xs
    → xs ≡ take half xs ++ take half xs
twice_the_first {A} xs half long e =
    let l = length-drop half xs in
    sym (take-append-drop half xs)
    ∙ ap (λ (ys : List A). take half xs ++ ys) (sym (take_all half (drop half xs) (omega (arith, long, l))) ∙ e)
