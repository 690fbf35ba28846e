-- The atoms of the context are numbered behind those of the fixed relations.
use Rattle.std.proofs.Common.{ℕ, suc, Bool, true, false, cond, ◌≡◌, List, [], ◌∷◌, ◌++◌, length, refl, sym, ap, subst, ◌∙◌}
use Rattle.statement.specs.Tree.{Tree, printed_cmp}
use Rattle.statement.specs.Clause.{Atom, Alternative}
use Rattle.statement.specs.Order.{is_less}
use Rattle.ground_terms.specs.Arena.{Held}
use Rattle.ground_terms.specs.Atoms.{AreAtoms, with_numbers, AddsAtoms}
use Rattle.statement.specs.Kept.{Kept}
use Rattle.rules_clauses.specs.Numbers.{NamesDiffer}
use Rattle.ground_terms.specs.Keys.{trees}
use Rattle.statement.specs.Listing.{Listing, with_atoms, into_printed_order, in_printed_order, listing}
use Rattle.ground_rows.specs.Progress.{IsListed}
use Rattle.ground_terms.proofs.Facts.{with_both, trees_front, atoms_front, atoms_append, with_same, different, grown_more}
use Rattle.ground_rows.proofs.FoundLemmas.{found_front}

-- atoms numbered behind atoms
pub atoms_both : (words : List (List ℕ)) (a b c : Held) (ns ms ks : List ℕ) (xs ys : List Atom) → AddsAtoms words a b ns ms xs
    → AddsAtoms words b c ms ks ys → AddsAtoms words a c ns ks (xs ++ ys)
atoms_both words a b c ns ms ks xs ys s t = record {
  grown = grown_more words a b c s.grown t.grown;
  numbers = s.numbers ++ t.numbers;
  same = t.same ∙ ap (λ (l : List ℕ). with_numbers l t.numbers) s.same ∙ with_both ns s.numbers t.numbers;
  are = atoms_append (trees words c.keys) s.numbers t.numbers xs ys
      (atoms_front (trees words b.keys) (trees words c.keys) s.numbers xs (trees_front words b.keys c.keys t.grown.front) s.are) t.are;
}

-- what is listed with further atoms, each once
pub listed_with : (rules : List Alternative) (words : List (List ℕ)) → NamesDiffer words
    → (old new : Held) (ns ms : List ℕ) (found : List Kept) (g : Listing) (xs : List Atom)
    → IsListed rules words old ns found g → AddsAtoms words old new ns ms xs
    → IsListed rules words new ms found (record { atoms = with_atoms g.atoms xs; kept = g.kept })
listed_with rules words differ old new ns ms found g xs l s =
    let all = trees words new.keys in
    let front = trees_front words old.keys new.keys s.grown.front in
    let own = different words differ new.keys s.grown.terms.numbered.keyed in
    record {
      terms = s.grown.terms;
      atoms_are = subst (λ (ks : List ℕ). AreAtoms all ks (with_atoms g.atoms xs)) (sym s.same)
          (with_same all own ns g.atoms (atoms_front (trees words old.keys) all ns g.atoms front l.atoms_are) s.numbers xs s.are);
      found_are = found_front rules (listing rules).atoms (trees words old.keys) all found g.kept front l.found_are;
    }

into_count : (t : Tree) (ts : List Tree) → length (into_printed_order t ts) ≡ suc (length ts)
into_count t [] = refl
into_count t (u ∷ us) = go (is_less (printed_cmp t u)) (into_count t us)
  where
    go : (b : Bool) → length (into_printed_order t us) ≡ suc (length us) → length (cond b (t ∷ (u ∷ us)) (u ∷ into_printed_order t us)) ≡ suc
        (suc (length us))
    go true e = refl
    go false e = ap suc e

-- as many stand in printed order as there were
pub printed_count : (ts : List Tree) → length (in_printed_order ts) ≡ length ts
printed_count [] = refl
printed_count (t ∷ ts) = into_count t (in_printed_order ts) ∙ ap suc (printed_count ts)
