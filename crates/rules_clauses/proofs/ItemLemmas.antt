-- Items in memory.
use Rattle.std.proofs.Common.{ℕ, ◌≡◌, ◌+◌, ◌-◌, ◌<◌, ◌≤◌, true, List, length, drop, sym, ◌∙◌, ap, subst, arith, get_or}
use Rattle.std.proofs.lemmas.List.{get_or-drop, length-drop}
use Rattle.statement.specs.Tree.{Tree, Trees}
use Rattle.kif.proofs.Facts.{both}
use Rattle.rules_clauses.specs.declared.numbered.Span.{Span}
use Rattle.rules_clauses.specs.declared.items.Item.{Item}
use Rattle.statement.specs.Items.{is_item, is_atom, are_literals, head_tree, body_trees, readings_of_all, atom_in}
use Rattle.rules_clauses.specs.Spread.{lists_of}
use Rattle.rules_clauses.specs.Store.{Data}
use Rattle.rules_clauses.specs.Adding.{Extends, HasVariables, StandOnce, AddsAtom, Spreads, AtomStandsFor, StandForLists}
use Rattle.rules_clauses.specs.ItemView.{ReadsItem}
use Rattle.rules_clauses.proofs.AddingLemmas.{extends_trans, begins_at, begins_long}

pub item_atom : (t h : Tree) → head_tree t ≡ h → is_item t ≡ true → is_atom h ≡ true
item_atom t h e i = ap is_atom (sym e) ∙ (both (is_atom (head_tree t)) (are_literals (body_trees t)) i).0

pub item_literals : (t : Tree) (ts : Trees) → body_trees t ≡ ts → is_item t ≡ true → are_literals ts ≡ true
item_literals t ts e i = ap are_literals (sym e) ∙ (both (is_atom (head_tree t)) (are_literals (body_trees t)) i).1

none_once : (xs : List ℕ) → StandOnce (drop (length xs) xs)
none_once xs i j h k e = let l = length-drop (length xs) xs in absurd (let bad : ⊥ = omega (arith, h, l) in bad)

-- the variables of an item that was read last stay where they stand
variables_later : (now later : Data) (place : Span) → place.from ≤ place.to → place.to ≡ length now.variables
    → StandOnce (drop place.from now.variables) → Extends now later → HasVariables later place
variables_later now later place order to once e = record {
  order = order;
  within = (let k = begins_long now.variables later.variables (length now.variables) e.variables (omega arith) in omega (arith, k, to));
  once = λ i j i_from i_to j_from j_to same.
      (let size = length-drop place.from now.variables in
      let d = once (i - place.from) (j - place.from) (omega (arith, i_from, i_to, to, size)) (omega (arith, j_from, j_to, to, size)) (at i i_from i_to
      ∙ same ∙ sym (at j j_from j_to)) in
      omega (arith, d, i_from, j_from));
}
  where
    at : (i : ℕ) → place.from ≤ i → i < place.to → get_or (drop place.from now.variables) (i - place.from) 0 ≡ get_or later.variables i 0
    at i low high =
        get_or-drop place.from now.variables (i - place.from) 0
        ∙ ap (λ (k : ℕ). get_or now.variables k 0) (let e : place.from + (i - place.from) ≡ i = omega (arith, low) in e)
        ∙ sym (begins_at now.variables later.variables i 0 e.variables (omega (arith, high, to)))

pub reads_item : (a b c : Data) (i : Item) (t h : Tree) (ts : Trees) → head_tree t ≡ h → body_trees t ≡ ts → i.variables.from ≡ length a.variables
    → i.variables.to ≡ length c.variables
    → AddsAtom i.variables.from a b i.head (atom_in h) → Spreads i.variables.from b c (lists_of i.bodies.items) (readings_of_all ts)
    → ReadsItem a c i t
reads_item a b c i t h ts head body from to x s =
    record {
      extends = extends_trans a b c x.grows.extends s.grows.extends;
      words = λ d. s.grows.words (x.grows.words d);
      signatures = λ d. s.grows.signatures (x.grows.signatures d);
      named = λ d. s.grows.named (x.grows.named d);
      order = order;
      to = to;
      once = once;
      stands = λ later e. record {
        head = subst (λ (u : Tree). AtomStandsFor i.variables.from later i.head (atom_in u)) (sym head)
            (x.stands later (extends_trans b c later s.grows.extends e));
        bodies = subst (λ (us : Trees). StandForLists i.variables.from later (lists_of i.bodies.items) (readings_of_all us)) (sym body)
            (s.stand later e);
        variables = variables_later c later i.variables order to once e;
      };
    }
  where
    order : i.variables.from ≤ i.variables.to
    order = let k = begins_long a.variables c.variables (length a.variables) (extends_trans a b c x.grows.extends s.grows.extends).variables
        (omega arith) in omega (arith, k, from, to)

    once : StandOnce (drop i.variables.from c.variables)
    once = s.grows.variables (x.grows.variables (subst (λ (n : ℕ). StandOnce (drop n a.variables)) (sym from) (none_once a.variables)))
