-- How many terms parts stand for.
use Rattle.std.proofs.Common.{ℕ, suc, ◌≡◌, ◌-◌, List, [], ◌∷◌, length, refl, sym, ◌∙◌, ap}
use Rattle.std.specs.Prelude.{slice_range}
use Rattle.std.proofs.lemmas.List.{length-drop}
use Rattle.rules_clauses.specs.declared.numbered.Part.{Part}
use Rattle.rules_clauses.specs.declared.numbered.Part.TheVariants as parts
use Rattle.rules_clauses.specs.declared.numbered.Atom.{Atom}
use Rattle.statement.specs.Clause as said
use Rattle.statement.specs.Clause.{count_trees}
use Rattle.rules_clauses.specs.Signatures.{signature_at}
use Rattle.rules_clauses.specs.Store.{Data, terms_before, count_terms}
use Rattle.rules_clauses.specs.Adding.{AtomStandsFor}
use Rattle.rules_clauses.specs.Marks.{IsInside}
use Rattle.rules_clauses.proofs.AddingLemmas.{count_trees-length}

-- parts stand for as many terms as they count
pub length_of_terms : (d : Data) (from : ℕ) (ps : List Part) → length (terms_before d from ps []) ≡ count_terms ps
length_of_terms d from [] = refl
length_of_terms d from (parts.Variable v ∷ ps) = ap (λ (n : ℕ). suc n) (length_of_terms d from ps)
length_of_terms d from (parts.Constant s ∷ ps) = ap (λ (n : ℕ). suc n) (length_of_terms d from ps)
length_of_terms d from (parts.List s n ∷ ps) =
    ap (λ (k : ℕ). suc k) (length-drop n (terms_before d from ps []) ∙ ap (λ (k : ℕ). k - n) (length_of_terms d from ps))

-- and these are the terms of the atom
pub terms_of_standing : (from : ℕ) (d : Data) (a : Atom) (atom : said.Atom) → AtomStandsFor from d a atom
    → count_terms (slice_range d.parts a.terms.from a.terms.to) ≡ count_trees atom.terms
terms_of_standing from d a atom s =
    sym (length_of_terms d from (slice_range d.parts a.terms.from a.terms.to))
    ∙ sym (count_trees-length (terms_before d from (slice_range d.parts a.terms.from a.terms.to) []))
    ∙ ap (λ (q : said.Atom). count_trees q.terms) s.same

-- an atom has as many terms as its relation has arguments
pub arity_of_standing : (from : ℕ) (d : Data) (a : Atom) (atom : said.Atom) → AtomStandsFor from d a atom
    → (signature_at d.signatures a.relation).arity ≡ count_terms (slice_range d.parts a.terms.from a.terms.to)
arity_of_standing from d a atom s = ap (λ (r : said.Relation). r.arity) s.same_relation ∙ sym (terms_of_standing from d a atom s)

-- the terms that the parts of an atom stand for are as many as its relation has arguments
pub terms_of_inside : (from : ℕ) (d : Data) (a : Atom) → IsInside from d a
    → length (terms_before d from (slice_range d.parts a.terms.from a.terms.to) []) ≡ (signature_at d.signatures a.relation).arity
terms_of_inside from d a i = length_of_terms d from (slice_range d.parts a.terms.from a.terms.to) ∙ sym i.arity
