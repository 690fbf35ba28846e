-- How atoms that are carried on are marked, and what marks by sets of relations say of paths.
use Rattle.std.proofs.Common.{ℕ, suc, ◌<◌, Bool, true, false, ◌≡◌, ◌≢◌, ◌⊎◌, inl, inr, List, length, map, refl, sym, ap, subst, ◌∙◌, arith, Option, get_or, set}
use Rattle.std.specs.Bool.{OnTrue}
use Rattle.std.proofs.lemmas.List.{get_or-map, length-map, get_or-set_other}
use Rattle.statement.specs.Clause as said
use Rattle.statement.specs.Clause.{Relation, relation_of}
use Rattle.statement.specs.Dependence.{is_among}
use Rattle.statement.specs.Kept.{Kept}
use Rattle.rules_clauses.specs.declared.numbered.Alternative as memory
use Rattle.rules_clauses.specs.Store.{Data, stated_literal}
use Rattle.meaning.specs.Listed.{IsAlternativeAt}
use Rattle.rules.specs.Drafts.{numbered, alternative_of}
use Rattle.rules.specs.RuleSets.{rules_of}
use Rattle.unroll_layers.specs.Owners.{AllAsk}
use Rattle.unroll_layers.specs.ByNumber.{MarkTops, MarkLayers}
use Rattle.unroll_layers.specs.Carried.{IsCarried, MarkCarried, HasStack, IsStackedIn}
use Rattle.unroll_layers.proofs.Heads.{alternative_at}
use Rattle.unroll_layers.proofs.Owned.{equal_or}

-- the body in memory is as long as that of the rule
pub body_length : (d : Data) (all : List memory.Alternative) (i : ℕ) (a : memory.Alternative) → i < length all → (rule : said.Alternative)
    → IsAlternativeAt 0 (rules_of d (map numbered all)) i rule → length rule.body ≡ length (get_or all i a).body.items
body_length d all i a lt rule at =
    ap (λ (r : said.Alternative). length r.body) (sym (alternative_at (rules_of d (map numbered all)) i rule rule at).1
    ∙ get_or-map (alternative_of d) (map numbered all) i (numbered a) rule (omega (arith, lt, length-map all numbered))
    ∙ ap (alternative_of d) (get_or-map numbered all i a (numbered a) lt))
    ∙ length-map (get_or all i a).body.items (stated_literal d (get_or all i a).variables.from)

pub on_true : (b : Bool) (P : Type 0) → (b ≡ true → P) → OnTrue b P
on_true true P h = h refl
on_true false P h = tt

-- one more mark
pub carried_added : (rules : List said.Alternative) (firsts : List Bool) (kept : List Kept) (owners : List (Option ℕ)) (marks : List Bool) (b : ℕ)
    → MarkCarried rules firsts kept owners marks → b < length marks → IsCarried rules firsts kept owners b
    → MarkCarried rules firsts kept owners (set marks b true)
carried_added rules firsts kept owners marks b before lt here c e = go (equal_or c b)
  where
    go : (c ≡ b) ⊎ (c ≢ b) → IsCarried rules firsts kept owners c
    go (inl same) = subst (λ (k : ℕ). IsCarried rules firsts kept owners k) (sym same) here
    go (inr other) = before c (sym (get_or-set_other marks b c true false other) ∙ e)

-- marks by the own relations and their layers say what is to be shown
pub stacked_by : (rules : List said.Alternative) (own : List Relation) (word : ℕ → Relation → List ℕ) (m n : ℕ) (kept : List Kept)
    (tops layers firsts befores : List Bool) → n ≡ suc m → MarkTops rules (λ p. is_among p own) tops → MarkLayers rules (λ p. is_among p own) word n layers
    → MarkLayers rules (λ p. is_among p own) word 1 firsts → MarkLayers rules (λ p. is_among p own) word m befores → AllAsk rules kept own
    → HasStack rules tops layers firsts befores kept n → IsStackedIn rules (λ p. is_among p own) word m kept
stacked_by rules own word m n kept tops layers firsts befores e are_tops are_layers are_firsts are_befores ask has =
    let stack = subst (λ (k : ℕ). HasStack rules tops layers firsts befores kept k) e has in
    record {
      bounded = record {
        tops = tops;
        layers = layers;
        mark_tops = are_tops;
        mark_layers = subst (λ (k : ℕ). MarkLayers rules (λ p. is_among p own) word k layers) e are_layers;
        asking = ask;
        has_slots = stack.has_slots;
      };
      firsts = firsts;
      befores = befores;
      mark_firsts = are_firsts;
      mark_befores = are_befores;
      carried = stack.carried;
    }
