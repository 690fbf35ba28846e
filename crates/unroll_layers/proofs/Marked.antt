-- What marks by sets of relations, and slots by those, say of ways.
use Rattle.std.proofs.Common.{ℕ, ◌≤◌, Bool, true, false, ◌≡◌, List, map, sym, ap, subst, ◌∙◌, Result, Ok, Err, Option, Some, None}
use Rattle.std.specs.Prelude.{IfOk, IfSome}
use Rattle.std.specs.Bool.{OnTrue}
use Rattle.statement.specs.Clause.{Alternative, Relation, relation_of}
use Rattle.statement.specs.Dependence.{is_among}
use Rattle.statement.specs.Kept.{Kept}
use Rattle.meaning.specs.Layers.{layer_of}
use Rattle.unroll_layers.specs.Owners.{AllAsk, HasSlots}
use Rattle.unroll_layers.specs.ByNumber.{heads_one, MarkTops, MarkLayers, IsBoundedIn}
use Rattle.unroll_layers.proofs.Heads.{mark_is}

-- marks by the own relations
pub tops_marked : (rules : List Alternative) (own in_tops : List Relation) (tops : List Bool) → tops ≡ map (heads_one in_tops) rules
    → ((p : Relation) → is_among p in_tops ≡ is_among p own) → MarkTops rules (λ p. is_among p own) tops
tops_marked rules own in_tops tops are same k rule a marked =
    sym (same (relation_of rule.head)) ∙ sym (mark_is rules (heads_one in_tops) tops are k rule a) ∙ marked

-- and by those of layers
pub layers_marked : (rules : List Alternative) (own in_layers : List Relation) (word : ℕ → Relation → List ℕ) (n : ℕ) (layers : List Bool)
    → layers ≡ map (heads_one in_layers) rules
    → ((k : ℕ) → 1 ≤ k → k ≤ n → (p : Relation) → is_among p own ≡ true → is_among (layer_of word k p) in_layers ≡ true)
    → MarkLayers rules (λ p. is_among p own) word n layers
layers_marked rules own in_layers word n layers are all k rule a j some last p o e =
    mark_is rules (heads_one in_layers) layers are k rule a ∙ ap (λ (q : Relation). is_among q in_layers) e ∙ all j some last p o

pub bounded_by : (rules : List Alternative) (own : List Relation) (word : ℕ → Relation → List ℕ) (n : ℕ) (kept : List Kept) (tops layers : List Bool)
    (in_tops in_layers : List Relation) → tops ≡ map (heads_one in_tops) rules → ((p : Relation) → is_among p in_tops ≡ is_among p own)
    → layers ≡ map (heads_one in_layers) rules
    → ((k : ℕ) → 1 ≤ k → k ≤ n → (p : Relation) → is_among p own ≡ true → is_among (layer_of word k p) in_layers ≡ true) → AllAsk rules kept own
    → HasSlots tops layers kept n → IsBoundedIn rules (λ p. is_among p own) word n kept
bounded_by rules own word n kept tops layers in_tops in_layers are_tops same are_layers all ask slotted = record {
  tops = tops;
  layers = layers;
  mark_tops = tops_marked rules own in_tops tops are_tops same;
  mark_layers = layers_marked rules own in_layers word n layers are_layers all;
  asking = ask;
  has_slots = slotted;
}

-- an answer that says less
pub if_so : {E : Type 0} (r : Result Bool E) (P Q : Type 0) → IfOk r (λ b. OnTrue b P) → (P → Q) → IfOk r (λ b. OnTrue b Q)
if_so (Ok true) P Q h f = f h
if_so (Ok false) P Q h f = h
if_so (Err e) P Q h f = h

pub some_is : {A : Type 0} (o : Option A) (x : A) (P : A → Type 0) → IfSome o P → o ≡ Some x → P x
some_is {A} None x P h e = absurd cc
some_is {A} (Some y) x P h e = let s : y ≡ x = cc in subst (λ (z : A). P z) s h
