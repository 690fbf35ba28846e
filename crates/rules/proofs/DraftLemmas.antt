-- Drafts.
use Rattle.std.proofs.Common.{ℕ, ◌≡◌, ◌+◌, ◌-◌, ◌<◌, ◌≤◌, Bool, true, false, not, cond, List, [], ◌∷◌, ◌++◌, length, map, take, refl, sym, ◌∙◌, ap}
use Rattle.std.proofs.Common.{subst, arith, append_assoc, get_or, Some}
use Rattle.std.specs.Prelude.{Vec}
use Rattle.std.proofs.lemmas.List.{map-append, append-nil}
use Rattle.statement.specs.Tree.{Tree}
use Rattle.statement.specs.Clause as said
use Rattle.rules_clauses.specs.declared.numbered.SharedAlternative.{SharedAlternative}
use Rattle.rules_clauses.specs.declared.numbered.Atom.{Atom}
use Rattle.rules_clauses.specs.declared.numbered.Span.{Span}
use Rattle.rules_clauses.specs.declared.items.Item.{Item}
use Rattle.rules_clauses.specs.declared.numbered.Literal.{Literal}
use Rattle.statement.specs.Dependence.{is_distinct}
use Rattle.statement.specs.Items.{item_head, item_alternatives, alternatives, body_trees, readings_of_all}
use Rattle.statement.specs.Profile.{first_failing, not_safe, is_unsafe}
use Rattle.statement.specs.Safety.{are_safe}
use Rattle.rules_clauses.specs.Numbers.{NamesDiffer}
use Rattle.rules_clauses.specs.Spread.{lists_of, numbers_in}
use Rattle.rules_clauses.specs.Store.{Data, relation_at, no_literal}
use Rattle.rules_clauses.specs.Adding.{Extends, HasVariables, AtomStandsFor, LiteralStandsFor, StandForEach, StandForLists}
use Rattle.rules_clauses.specs.ItemView.{ItemStandsFor, ReadsItem}
use Rattle.rules.specs.declared.draft.Draft.{Draft}
use Rattle.rules.specs.declared.item_links.Links.{Links}
use Rattle.rules_clauses.specs.StoreView.{data_of}
use Rattle.rules.specs.Bodies.{named_relation, named_relations, all_named_relations, HaveSame, has_literal}
use Rattle.rules_clauses.specs.Marks.{literal_in, IsInside, AreAllInside, are_safe_by}
use Rattle.rules.specs.Drafts.{Numbered, shared, numbered_with, numbered_of, AddsSafe, LinksItem, StandForAlternatives, LinkStandsFor}
use Rattle.rules.specs.Drafts.{StandForItems, some_literal_in, rests_on_any, IsDraftOf, AddsItem}
use Rattle.kif.specs.View.{tree_of, trees_in}
use Rattle.kif.specs.declared.expr.Expr.{Expr}
use Rattle.kif.proofs.Facts.{trees_in_take}
use Rattle.rules_profile.proofs.Facts.{IsBehind, found_here, found_later}
use Rattle.rules_clauses.proofs.Facts.{extends_refl, extends_trans, begins_at, AreDistinct, is_inside, are_inside, safe_is, lists_of-append}
use Rattle.rules.proofs.LinkLemmas.{body_numbers, same_body_numbers}

pub numbered_with-append : (variables : Span) (head : Atom) (xs ys : List (List ℕ))
    → numbered_with variables head (xs ++ ys) ≡ numbered_with variables head xs ++ numbered_with variables head ys
numbered_with-append variables head [] ys = refl
numbered_with-append variables head (x ∷ xs) ys =
    ap (λ (ns : List Numbered). record { variables = variables; head = head; body = x } ∷ ns) (numbered_with-append variables head xs ys)

pub one_more : {G : Type 0} (start now new : List SharedAlternative) (a : SharedAlternative) (done : List (Vec Span G)) (v : Vec Span G)
    (variables : Span) (head : Atom)
    → map shared now ≡ map shared start ++ numbered_with variables head (lists_of done) → new ≡ now ++ a ∷ []
    → shared a ≡ record { variables = variables; head = head; body = numbers_in v.items }
    → map shared new ≡ map shared start ++ numbered_with variables head (lists_of (done ++ v ∷ []))
one_more start now new a done v variables head before added same =
    ap (λ (as' : List SharedAlternative). map shared as') added
    ∙ map-append shared now (a ∷ [])
    ∙ ap (λ (ns : List Numbered). ns ++ shared a ∷ []) before
    ∙ append_assoc (map shared start) (numbered_with variables head (lists_of done)) (shared a ∷ [])
    ∙ ap (λ (n : Numbered). map shared start ++ (numbered_with variables head (lists_of done) ++ n ∷ [])) same
    ∙ ap (λ (ns : List Numbered). map shared start ++ ns) (sym (numbered_with-append variables head (lists_of done) (numbers_in v.items ∷ [])))
    ∙ ap (λ (ls : List (List ℕ)). map shared start ++ numbered_with variables head ls) (sym (lists_of-append done (v ∷ [])))

-- Safety of an item.

all_inside : (from : ℕ) (d : Data) (lists : List (List ℕ)) (rs : List (List said.Literal)) → StandForLists from d lists rs → AreAllInside from d lists
all_inside from d [] [] s = tt
all_inside from d [] (r ∷ rs) s = absurd s
all_inside from d (b ∷ lists) [] s = absurd s
all_inside from d (b ∷ lists) (r ∷ rs) s = (are_inside from d b r s.0, all_inside from d lists rs s.1)

pub item_inside : (d : Data) (i : Item) (t : Tree) → ItemStandsFor d i t → AreAllInside i.variables.from d (lists_of i.bodies.items)
item_inside d i t s = all_inside i.variables.from d (lists_of i.bodies.items) (readings_of_all (body_trees t)) s.bodies

all_safe : (from many : ℕ) (d : Data) (a : Atom) (atom : said.Atom) (lists : List (List ℕ)) (rs : List (List said.Literal)) → AreDistinct d from
    → length d.variables ≡ from + many
    → AtomStandsFor from d a atom → StandForLists from d lists rs
    → are_safe_by many d a lists ≡ are_safe (map (λ (b : List said.Literal). record { head = atom; body = b }) rs)
all_safe from many d a atom [] [] x e s t = refl
all_safe from many d a atom [] (r ∷ rs) x e s t = absurd t
all_safe from many d a atom (b ∷ lists) [] x e s t = absurd t
all_safe from many d a atom (b ∷ lists) (r ∷ rs) x e s t =
    cc (safe_is from many d a atom b r x e s t.0, all_safe from many d a atom lists rs x e s t.1)

-- the test over numbers decides whether an item is safe
pub item_safe : (old d : Data) (i : Item) (t : Tree) → ReadsItem old d i t → NamesDiffer old.words → i.variables.from ≤ i.variables.to
    → are_safe_by (i.variables.to - i.variables.from) d i.head (lists_of i.bodies.items) ≡ are_safe (item_alternatives t)
item_safe old d i t r words order =
    let s = r.stands d (extends_refl d) in
    let to = r.to in
    all_safe i.variables.from (i.variables.to - i.variables.from) d i.head (item_head t) (lists_of i.bodies.items) (readings_of_all (body_trees t))
    (record { words = r.words words; once = r.once }) (omega (arith, to, order)) s.head s.bodies

pub head_inside : (d : Data) (i : Item) (t : Tree) → ItemStandsFor d i t → IsInside i.variables.from d i.head
head_inside d i t s = is_inside i.variables.from d i.head (item_head t) s.head

pub not_safe_item : (old d : Data) (i : Item) (t : Tree) (b : Bool) → ReadsItem old d i t → NamesDiffer old.words
    → b ≡ are_safe_by (i.variables.to - i.variables.from) d i.head (lists_of i.bodies.items) → is_unsafe t ≡ not b
not_safe_item old d i t b r words e = ap not (sym (e ∙ item_safe old d i t r words r.order))

pub adds_safe : (old new : Draft) (i : Item) (l : Links) (t : Tree) → ReadsItem (data_of old.store) (data_of new.store) i t
    → map shared new.alternatives.items ≡ map shared old.alternatives.items ++ numbered_of i → new.links.items ≡ old.links.items ++ l ∷ []
    → l.head ≡ i.head.relation → HaveSame l.body.items (all_named_relations (data_of new.store) (lists_of i.bodies.items))
    → new.rests.items ≡ old.rests.items ++ has_literal (lists_of i.bodies.items) ∷ [] → AddsSafe old new t
adds_safe old new i l t r alternatives links head body rests =
    record {
      extends = r.extends;
      words = r.words;
      signatures = r.signatures;
      named = r.named;
      item = i;
      link = l;
      stands = r.stands;
      alternatives = alternatives;
      linked = record { head = head; body = body };
      links = links;
      rests = rests;
    }

-- Drafts of the items so far.

numbered_stand : (d : Data) (i : Item) (atom : said.Atom) (lists : List (List ℕ)) (rs : List (List said.Literal)) → HasVariables d i.variables
    → AtomStandsFor i.variables.from d i.head atom → StandForLists i.variables.from d lists rs
    → StandForAlternatives d (numbered_with i.variables i.head lists) (map (λ (b : List said.Literal). record { head = atom; body = b }) rs)
numbered_stand d i atom [] [] v h s = tt
numbered_stand d i atom [] (r ∷ rs) v h s = absurd s
numbered_stand d i atom (b ∷ lists) [] v h s = absurd s
numbered_stand d i atom (b ∷ lists) (r ∷ rs) v h s = (record { head = h; body = s.0; variables = v }, numbered_stand d i atom lists rs v h s.1)

alternatives_append : (d : Data) (ns ms : List Numbered) (as' bs : List said.Alternative) → StandForAlternatives d ns as'
    → StandForAlternatives d ms bs → StandForAlternatives d (ns ++ ms) (as' ++ bs)
alternatives_append d [] ms [] bs h k = k
alternatives_append d [] ms (a ∷ as') bs h k = absurd h
alternatives_append d (n ∷ ns) ms [] bs h k = absurd h
alternatives_append d (n ∷ ns) ms (a ∷ as') bs h k = (h.0, alternatives_append d ns ms as' bs h.1 k)

items_append : (d : Data) (ls ks : List Links) (ts us : List Tree) → StandForItems d ls ts → StandForItems d ks us
    → StandForItems d (ls ++ ks) (ts ++ us)
items_append d [] ks [] us h k = k
items_append d [] ks (t ∷ ts) us h k = absurd h
items_append d (l ∷ ls) ks [] us h k = absurd h
items_append d (l ∷ ls) ks (t ∷ ts) us h k = (h.0, items_append d ls ks ts us h.1 k)

alternatives-append : (ts us : List Tree) → alternatives (ts ++ us) ≡ alternatives ts ++ alternatives us
alternatives-append [] us = refl
alternatives-append (t ∷ ts) us = ap (λ (as' : List said.Alternative). item_alternatives t ++ as') (alternatives-append ts us)
    ∙ sym (append_assoc (item_alternatives t) (alternatives ts) (alternatives us))

-- a body names the same relations later

literal_later : (from : ℕ) (d later : Data) (n : ℕ) (l : said.Literal) → Extends d later → LiteralStandsFor from d n l
    → literal_in later n ≡ literal_in d n
literal_later from d later n l x s = begins_at d.literals later.literals n no_literal x.literals s.within

named_later : (from : ℕ) (d later : Data) (n : ℕ) (l : said.Literal) → Extends d later → LiteralStandsFor from d n l → LiteralStandsFor from later n l
    → named_relation later n ≡ named_relation d n
named_later from d later n l x s t =
    ap (λ (r : said.Relation). cond (is_distinct r) [] ((literal_in later n).atom.relation ∷ [])) (t.atom.same_relation ∙ sym s.atom.same_relation)
    ∙ ap (λ (k : Literal). cond (is_distinct (relation_at d (literal_in d n).atom.relation)) [] (k.atom.relation ∷ []))
    (literal_later from d later n l x s)

body_later : (from : ℕ) (d later : Data) (ns : List ℕ) (ls : List said.Literal) → Extends d later → StandForEach from d ns ls
    → StandForEach from later ns ls → named_relations later ns ≡ named_relations d ns
body_later from d later [] [] x s t = refl
body_later from d later [] (l ∷ ls) x s t = absurd s
body_later from d later (n ∷ ns) [] x s t = absurd s
body_later from d later (n ∷ ns) (l ∷ ls) x s t = cc (named_later from d later n l x s.0 t.0, body_later from d later ns ls x s.1 t.1)

bodies_later : (from : ℕ) (d later : Data) (lists : List (List ℕ)) (rs : List (List said.Literal)) → Extends d later → StandForLists from d lists rs
    → StandForLists from later lists rs
    → all_named_relations later lists ≡ all_named_relations d lists
bodies_later from d later [] [] x s t = refl
bodies_later from d later [] (r ∷ rs) x s t = absurd s
bodies_later from d later (b ∷ lists) [] x s t = absurd s
bodies_later from d later (b ∷ lists) (r ∷ rs) x s t = cc (body_later from d later b r x s.0 t.0, bodies_later from d later lists rs x s.1 t.1)

link_later : (d later : Data) (i : Item) (l : Links) (t : Tree) → Extends d later → LinksItem d i l → ItemStandsFor d i t → ItemStandsFor later i t
    → LinkStandsFor later l t
link_later d later i l t x k s u =
    let lists : List (List ℕ) = lists_of i.bodies.items in
    let same : HaveSame l.body.items (all_named_relations later lists) =
    subst (λ (ns : List ℕ). HaveSame l.body.items ns)
    (sym (bodies_later i.variables.from d later lists (readings_of_all (body_trees t)) x s.bodies u.bodies)) k.body in
    record {
      head_in = subst (λ (r : ℕ). r < length later.signatures) (sym k.head) u.head.relation;
      named = ap (λ (r : ℕ). relation_at later r) k.head ∙ u.head.same_relation;
      body = same_body_numbers (length later.signatures) (λ r. relation_at later r) (item_alternatives t) l.body.items
          (all_named_relations later lists) same (body_numbers later i t u);
    }

literal_there : (from : ℕ) (d : Data) (lists : List (List ℕ)) (rs : List (List said.Literal)) → StandForLists from d lists rs
    → has_literal lists ≡ some_literal_in rs
literal_there from d [] [] s = refl
literal_there from d [] (r ∷ rs) s = absurd s
literal_there from d (b ∷ lists) [] s = absurd s
literal_there from d ([] ∷ lists) ([] ∷ rs) s = literal_there from d lists rs s.1
literal_there from d ([] ∷ lists) ((l ∷ ls) ∷ rs) s = absurd s.0
literal_there from d ((n ∷ ns) ∷ lists) ([] ∷ rs) s = absurd s.0
literal_there from d ((n ∷ ns) ∷ lists) ((l ∷ ls) ∷ rs) s = refl

pub draft_more : (old new : Draft) (ts : List Tree) (t : Tree) → IsDraftOf old ts → AddsSafe old new t → IsDraftOf new (ts ++ t ∷ [])
draft_more old new ts t o a =
    let item : Item = a.item in
    let up : (later : Data) → Extends (data_of new.store) later → Extends (data_of old.store) later =
    λ later x. extends_trans (data_of old.store) (data_of new.store) later a.extends x in
    record {
      words = a.words o.words;
      signatures = a.signatures o.signatures;
      named = a.named o.named;
      alternatives = λ later x.
          let s = a.stands later x in
          subst (λ (ns : List Numbered). StandForAlternatives later ns (alternatives (ts ++ t ∷ []))) (sym a.alternatives)
          (subst (λ (as' : List said.Alternative). StandForAlternatives later (map shared old.alternatives.items ++ numbered_of item) as')
          (ap (λ (as' : List said.Alternative). alternatives ts ++ as') (sym (append-nil (item_alternatives t)))
          ∙ sym (alternatives-append ts (t ∷ [])))
          (alternatives_append later (map shared old.alternatives.items) (numbered_of item) (alternatives ts) (item_alternatives t)
          (o.alternatives later (up later x))
          (numbered_stand later item (item_head t) (lists_of item.bodies.items) (readings_of_all (body_trees t)) s.variables s.head s.bodies)));
      links = λ later x.
          subst (λ (ls : List Links). StandForItems later ls (ts ++ t ∷ [])) (sym a.links)
          (items_append later old.links.items (a.link ∷ []) ts (t ∷ []) (o.links later (up later x)) (
            link_later (data_of new.store) later item a.link t x a.linked (a.stands (data_of new.store) (extends_refl (data_of new.store)))
                (a.stands later x),
            tt,
          ));
      rests =
          a.rests
          ∙ ap (λ (bs : List Bool). bs ++ has_literal (lists_of item.bodies.items) ∷ []) o.rests
          ∙ ap (λ (b : Bool). map rests_on_any ts ++ b ∷ [])
          (literal_there item.variables.from (data_of new.store) (lists_of item.bodies.items) (readings_of_all (body_trees t))
          (a.stands (data_of new.store) (extends_refl (data_of new.store))).bodies)
          ∙ sym (map-append rests_on_any ts (t ∷ []));
    }

-- a draft of the first items, which are safe
pub record Reading {A : Type 0} (draft : Draft) (es : List (Expr A)) (i : ℕ) : Type 0 where
  pub is_draft : IsDraftOf draft (trees_in (take i es))
  pub safe : IsBehind not_safe is_unsafe es i

pub read_on : {A : Type 0} (old new : Draft) (es : List (Expr A)) (i : ℕ) (e : Expr A) (b : Bool) → Reading old es i → i < length es
    → e ≡ get_or es i e → b ≡ true
    → AddsItem old new (tree_of e) b → Reading new es (i + 1)
read_on {A} old new es i e true r less at yes' a =
    record {
      is_draft = subst (λ (ts : List Tree). IsDraftOf new ts) (sym (trees_in_take es i e less at))
          (draft_more old new (trees_in (take i es)) (tree_of e) r.is_draft a.0);
      safe = found_later not_safe is_unsafe es i e r.safe less at a.1;
    }
read_on {A} old new es i e false r less at yes' a = absurd cc

pub found_unsafe : {A : Type 0} (old new : Draft) (es : List (Expr A)) (i : ℕ) (e : Expr A) (b : Bool) → Reading old es i → i < length es
    → e ≡ get_or es i e → b ≡ false
    → AddsItem old new (tree_of e) b → first_failing not_safe is_unsafe 1 (trees_in es) ≡ Some (not_safe (i + 1))
found_unsafe {A} old new es i e true r less at no' a = absurd cc
found_unsafe {A} old new es i e false r less at no' a = found_here not_safe is_unsafe es i e r.safe less at a
