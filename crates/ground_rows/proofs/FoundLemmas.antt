-- Instances by the numbers of terms and of atoms.
use Rattle.std.proofs.Common.{ℕ, suc, ◌≤◌, ◌≡◌, List, [], ◌∷◌, ◌++◌, length, map, refl, sym, ap, ◌∙◌, arith}
use Rattle.std.proofs.lemmas.List.{map-append}
use Rattle.statement.specs.Tree.{Tree}
use Rattle.statement.specs.Clause.{Atom, Alternative, tree_of}
use Rattle.statement.specs.Kept.{Kept}
use Rattle.rules_clauses.specs.Marks.{NumbersBelow}
use Rattle.ground_terms.specs.Keys.{term_at}
use Rattle.statement.specs.Listing.{Instance, heads}
use Rattle.rules_clauses.specs.Numbers.{BeginsWith}
use Rattle.ground_terms.specs.Atoms.{AreAtoms}
use Rattle.ground_rows.specs.Founds.{Told, told_by, told, head_numbers, AreAllBelow, AreFound}
use Rattle.ground_terms.proofs.Facts.{front_length, term_front}

pub all_below_more : (m n : ℕ) (ks : List Kept) → m ≤ n → AreAllBelow m ks → AreAllBelow n ks
all_below_more m n [] h b = tt
all_below_more m n (k ∷ ks) h b =
    let less = b.0 in (omega (arith, h, less), all_below_more m n ks h b.1)

pub all_below_append : (n : ℕ) (ks js : List Kept) → AreAllBelow n ks → AreAllBelow n js → AreAllBelow n (ks ++ js)
all_below_append n [] js b c = c
all_below_append n (k ∷ ks) js b c = (b.0, all_below_append n ks js b.1 c)

pub told_front : (terms all : List Tree) → BeginsWith terms all → (ks : List Kept) → AreAllBelow (length terms) ks
    → map (told all) ks ≡ map (told terms) ks
told_front terms all f [] b = refl
told_front terms all f (k ∷ ks) b =
    let e = term_front terms all f k.head b.0 in
    let r = told_front terms all f ks b.1 in
    let here : told all k ≡ told terms k = λ i. record { place = k.alternative; head = e i; body = k.body } in cc

pub found_front : (rules : List Alternative) (atoms : List Atom) (terms all : List Tree) (ks : List Kept) (is : List Instance) → BeginsWith terms all
    → AreFound rules atoms terms ks is → AreFound rules atoms all ks is
found_front rules atoms terms all ks is f a = record {
  below = all_below_more (length terms) (length all) ks (front_length terms all f) a.below;
  same = told_front terms all f ks a.below ∙ a.same;
}

pub found_append : (rules : List Alternative) (atoms : List Atom) (terms : List Tree) (ks js : List Kept) (is hs : List Instance) → AreFound rules atoms terms ks is
    → AreFound rules atoms terms js hs → AreFound rules atoms terms (ks ++ js) (is ++ hs)
found_append rules atoms terms ks js is hs a b = record {
  below = all_below_append (length terms) ks js a.below b.below;
  same = map-append (told terms) ks js ∙ ap (λ (l : List Told). l ++ map (told terms) js) a.same
      ∙ ap (λ (l : List Told). map (told_by rules atoms) is ++ l) b.same ∙ sym (map-append (told_by rules atoms) is hs);
}

found_heads : (rules : List Alternative) (atoms : List Atom) (terms : List Tree) (ks : List Kept) (is : List Instance) → map (told terms) ks ≡ map (told_by rules atoms) is
    → map (term_at terms) (head_numbers ks) ≡ map tree_of (heads is)
found_heads rules atoms terms [] [] e = refl
found_heads rules atoms terms [] (i ∷ is) e = absurd cc
found_heads rules atoms terms (k ∷ ks) [] e = absurd cc
found_heads rules atoms terms (k ∷ ks) (i ∷ is) e =
    let first : told terms k ≡ told_by rules atoms i = cc in
    let same : term_at terms k.head ≡ tree_of i.head = ap (λ (t : Told). t.head) first in
    let rest : map (told terms) ks ≡ map (told_by rules atoms) is = cc in
    let more = found_heads rules atoms terms ks is rest in cc

pub heads_below : (n : ℕ) (ks : List Kept) → AreAllBelow n ks → NumbersBelow n (head_numbers ks)
heads_below n [] b = tt
heads_below n (k ∷ ks) b = (b.0, heads_below n ks b.1)

-- the heads of instances are atoms
pub head_atoms : (rules : List Alternative) (atoms : List Atom) (terms : List Tree) (ks : List Kept) (is : List Instance) → AreFound rules atoms terms ks is
    → AreAtoms terms (head_numbers ks) (heads is)
head_atoms rules atoms terms ks is a = record { below = heads_below (length terms) ks a.below; same = found_heads rules atoms terms ks is a.same }

pub found_none : (rules : List Alternative) (atoms : List Atom) (terms : List Tree) → AreFound rules atoms terms [] []
found_none rules atoms terms = record { below = tt; same = refl }

pub found_count : (rules : List Alternative) (atoms : List Atom) (terms : List Tree) (ks : List Kept) (is : List Instance) → AreFound rules atoms terms ks is
    → length ks ≡ length is
found_count rules atoms terms ks is a = go ks is a.same
  where
    go : (js : List Kept) (hs : List Instance) → map (told terms) js ≡ map (told_by rules atoms) hs → length js ≡ length hs
    go [] [] e = refl
    go [] (h ∷ hs) e = absurd cc
    go (j ∷ js) [] e = absurd cc
    go (j ∷ js) (h ∷ hs) e = let rest : map (told terms) js ≡ map (told_by rules atoms) hs = cc in ap suc (go js hs rest)
