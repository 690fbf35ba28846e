-- Kept instances by numbers are those of the listing.
use Rattle.std.proofs.Common.{ℕ, zero, suc, ◌<◌, ◌≡◌, inl, inr, true, List, [], ◌∷◌, length, map, get_or, refl, sym, ap, ◌∙◌, arith}
use Rattle.statement.specs.Tree.{Tree, text}
use Rattle.statement.specs.Clause.{Alternative, tree_of}
use Rattle.statement.specs.Dependence.{IsAmong}
use Rattle.statement.specs.Kept.{Kept}
use Rattle.statement.specs.Listing.{listing}
use Rattle.rules_clauses.specs.Numbers.{NamesDiffer}
use Rattle.util_interner.specs.KeyLists.{key_at}
use Rattle.rules.specs.declared.rule_set.Keywords.{Keywords}
use Rattle.rules.specs.RuleSets.{AreKeywords}
use Rattle.ground_terms.specs.declared.naming.Named.{Named}
use Rattle.ground_terms.specs.Arena.{Held}
use Rattle.ground_terms.specs.Keys.{term_at, trees}
use Rattle.ground_terms.specs.Dropping.{AreShown}
use Rattle.ground_listing.specs.AllListed.{IsAllListed}
use Rattle.ground_rows.specs.Contexts.{terms_named}
use Rattle.ground_rows.specs.Founds.{told, told_by}
use Rattle.diagnose_lint.specs.declared.dropped_finding.Lack.{Lack}
use Rattle.diagnose_lint.specs.Effects.{HasLackingHead}
use Rattle.diagnose_lint.specs.Keyed.{lacks_in}
use Rattle.diagnose_lint.proofs.KeyedLacks.{key_lacks}

-- what stands at a place of one list has one of the other that maps to the same
record HasSame {A B C : Type 0} (f : A → C) (g : B → C) (a : A) (ys : List B) : Type 0 where
  pub other : B
  pub among : IsAmong other ys
  pub same : f a ≡ g other

same_at : {A B C : Type 0} (f : A → C) (g : B → C) (xs : List A) (ys : List B) → map f xs ≡ map g ys → (i : ℕ) (d : A) → i < length xs
    → HasSame f g (get_or xs i d) ys
same_at f g [] ys e i d h = absurd (let bad : ⊥ = omega (arith, h) in bad)
same_at f g (x ∷ xs) [] e i d h = absurd cc
same_at f g (x ∷ xs) (y ∷ ys) e zero d h = record { other = y; among = inl refl; same = cc }
same_at f g (x ∷ xs) (y ∷ ys) e (suc i) d h =
    let rest : map f xs ≡ map g ys = cc in
    let found = same_at f g xs ys rest i d (omega (arith, h)) in record { other = found.other; among = inr found.among; same = found.same }

terms_twice : (terms : List Tree) (ls : List (List Named)) → map (λ (ns : List ℕ). map (term_at terms) ns) (map terms_named ls) ≡ map
    (λ (ms : List Named). map (term_at terms) (terms_named ms)) ls
terms_twice terms [] = refl
terms_twice terms (l ∷ ls) = ap (λ (tss : List (List Tree)). map (term_at terms) (terms_named l) ∷ tss) (terms_twice terms ls)

module _ (rules : List Alternative) (words : List (List ℕ)) (held : Held) (atoms : List ℕ) (found : List Kept) (fixed : ℕ) (rs bs : List Named)
    (ls : List (List Named)) (l : IsAllListed rules words held atoms found fixed rs bs ls) where
  shown : AreShown rules (trees words held.keys) (terms_named bs) (terms_named rs) (map terms_named ls)
  shown = record {
    bases_in = l.context.base_in;
    roles_in = l.context.roles_in;
    inputs_in = l.context.inputs_in;
    bases_are = l.context.shown.base_are;
    roles_are = l.context.shown.roles_are;
    inputs_are = terms_twice (trees words held.keys) ls ∙ l.context.shown.inputs_are;
  }

  -- a kept instance whose head lacks something
  pub lacking_head : NamesDiffer words → (k : Keywords) → AreKeywords words k → (i : ℕ) (d : Kept) → i < length found
      → (alternative head : ℕ) → alternative ≡ (get_or found i d).alternative → head ≡ (get_or found i d).head → head < length held.keys
      → (lack : Lack)
      → lacks_in (record {
        words = words;
        keys = held.keys;
        named = k;
        bases = terms_named bs;
        roles = terms_named rs;
        inputs = map terms_named ls;
      }) lack (key_at held.keys head) ≡ true
      → (bytes : List ℕ) → bytes ≡ text (term_at (trees words held.keys) head)
      → HasLackingHead rules alternative lack bytes
  lacking_head differ k named i d h alternative head a b within lack lacking bytes shows =
      let there = same_at (told (trees words held.keys)) (told_by rules (listing rules).atoms) found (listing rules).kept l.listed.found_are.same i d h in
      let tree : term_at (trees words held.keys) head ≡ tree_of there.other.head =
      ap (term_at (trees words held.keys)) b ∙ ap (λ t. t.head) there.same in
      record {
        instance = there.other;
        kept = there.among;
        place = sym (a ∙ ap (λ t. t.place) there.same);
        lacking = key_lacks words differ held.keys l.listed.terms.numbered.keyed k named rules (terms_named bs) (terms_named rs)
            (map terms_named ls) shown lack head there.other.head within tree lacking;
        shown = shows ∙ ap text tree;
      }
