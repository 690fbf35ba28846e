use Rattle.std.proofs.Common.{ℕ, ◌+◌, List, [], ◌∷◌, drop, length, get_or, ap, sym, subst, refl, ◌∙◌}
use Rattle.rules_clauses.specs.Numbers.{word_at}
use Rattle.ground_terms.specs.Keys.{IsKey, trees, tree_of_key}
use Rattle.statement.specs.Meaning.{atom1}
use Rattle.ground_terms.proofs.AddingAtoms.{AddingEach, each_begins, each_next, each_ends, number_next, fits_key, single_tree}
use Rattle.ground_terms.proofs.AtPlaces.{at_end}
use Rattle.ground_terms.proofs.adding.add_singles.Goals as goal

pub loop-term-init : goal.loop-term-init
loop-term-init c = each_begins c.args.arena.now c.args.atoms.now.keys (λ words t. atom1 (word_at words c.args.word) t) c.args.terms.now
    c.requires.terms

pub add_atom-requires : goal.add_atom-requires
add_atom-requires c =
    subst (λ (key : List ℕ). IsKey (length c.loop-term.arena.sizes) (length c.loop-term.arena.keys) key) (sym c.in_ok-key.ensures) (fits_key c.args.arena.now c.loop-term.arena c.args.atoms.now.keys c.loop-term.atoms.keys (λ words t. atom1 (word_at words c.args.word) t)
    c.args.terms.now (get_or c.args.terms.now c.loop-term.term-index 0) (drop (c.loop-term.term-index + 1) c.args.terms.now) c.args.word
    ((get_or c.args.terms.now c.loop-term.term-index 0) ∷ [])
    (subst (λ (l : List ℕ). AddingEach c.args.arena.now c.loop-term.arena c.args.atoms.now.keys c.loop-term.atoms.keys
    (λ words t. atom1 (word_at words c.args.word) t) c.args.terms.now l)
    (number_next c.args.terms.now c.args.terms.now c.loop-term.term-index refl c.loop-term-test.true) c.loop-term.invariant) c.requires.word (
      (subst (λ (l : List ℕ). AddingEach c.args.arena.now c.loop-term.arena c.args.atoms.now.keys c.loop-term.atoms.keys
          (λ words t. atom1 (word_at words c.args.word) t) c.args.terms.now l)
          (number_next c.args.terms.now c.args.terms.now c.loop-term.term-index refl c.loop-term-test.true) c.loop-term.invariant).below.0,
      tt,
    ))

pub loop-term-preserved : goal.loop-term-preserved
loop-term-preserved c =
    each_next c.args.arena.now c.loop-term.arena c.add_atom.new.arena c.args.atoms.now.keys c.loop-term.atoms.keys c.add_atom.new.atoms.keys
    (λ words t. atom1 (word_at words c.args.word) t) c.args.terms.now (get_or c.args.terms.now c.loop-term.term-index 0)
    (drop (c.loop-term.term-index + 1) c.args.terms.now) c.in_ok-key.key
    (subst (λ (l : List ℕ). AddingEach c.args.arena.now c.loop-term.arena c.args.atoms.now.keys c.loop-term.atoms.keys
    (λ words t. atom1 (word_at words c.args.word) t) c.args.terms.now l)
    (number_next c.args.terms.now c.args.terms.now c.loop-term.term-index refl c.loop-term-test.true) c.loop-term.invariant)
    c.in_ok-add_atom.ensures.front c.in_ok-add_atom.ensures.sizes
    (λ words t front. single_tree words c.args.arena.now c.loop-term.arena c.args.word (get_or c.args.terms.now c.loop-term.term-index 0)
    (subst (λ (l : List ℕ). AddingEach c.args.arena.now c.loop-term.arena c.args.atoms.now.keys c.loop-term.atoms.keys
    (λ words t. atom1 (word_at words c.args.word) t) c.args.terms.now l)
    (number_next c.args.terms.now c.args.terms.now c.loop-term.term-index refl c.loop-term-test.true) c.loop-term.invariant).below.0 front
    ∙ ap (λ (k : List ℕ). tree_of_key words (trees words c.loop-term.arena.keys) k) (sym c.in_ok-key.ensures))
    c.in_ok-add_atom.ensures.added

pub returns-clause-added : goal.returns-clause-added
returns-clause-added c =
    each_ends c.args.arena.now c.loop-term.arena c.args.atoms.now.keys c.loop-term.atoms.keys (λ words t. atom1 (word_at words c.args.word) t)
    c.args.terms.now
    (subst (λ (l : List ℕ). AddingEach c.args.arena.now c.loop-term.arena c.args.atoms.now.keys c.loop-term.atoms.keys
    (λ words t. atom1 (word_at words c.args.word) t) c.args.terms.now l)
    (at_end c.args.terms.now c.args.terms.now c.loop-term.term-index refl c.loop-term-test.false) c.loop-term.invariant)
