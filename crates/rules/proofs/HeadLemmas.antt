-- The relations that head alternatives, and those that rest on anything.
use Rattle.std.proofs.Common.{ℕ, suc, zero, ◌≡◌, ◌<◌, ◌⊎◌, inl, inr, Bool, true, false, List, [], ◌∷◌, length, map, replicate, refl, sym, ◌∙◌, ap}
use Rattle.std.proofs.Common.{subst, arith, get_or}
use Rattle.std.specs.Prelude.{slice_set, All}
use Rattle.std.proofs.lemmas.List.{length-set, get_or-replicate}
use Rattle.statement.specs.Tree.{Tree}
use Rattle.statement.specs.Clause as said
use Rattle.statement.specs.Clause.{Relation, relation_of}
use Rattle.statement.specs.Dependence.{IsAmong, heads_of}
use Rattle.statement.specs.Items.{item_head, item_alternatives, alternatives, body_trees, readings_of_all}
use Rattle.rules_clauses.specs.declared.numbered.SharedAlternative.{SharedAlternative}
use Rattle.rules.specs.declared.item_links.Links.{Links}
use Rattle.rules_clauses.specs.Store.{Data, relation_at}
use Rattle.rules.specs.Numbering.{HasBody, AreBodies}
use Rattle.rules.specs.Drafts.{shared, StandForAlternatives, StandForItems, some_literal_in, rests_on_any}
use Rattle.rules.specs.Heads.{with_marked_heads, with_passing}
use Rattle.rules_profile.proofs.Facts.{IsAmong-append, IsAmong-append_left, IsAmong-append_right, same_head}
use Rattle.rules.proofs.LinkLemmas.{in_map, of_map}

-- the marks, with those of the alternatives that are left, are those of all
pub record Heading (nodes : ℕ) (marks : List Bool) (all rest : List SharedAlternative) : Type 0 where
  pub same : with_marked_heads marks rest ≡ with_marked_heads (replicate nodes false) all
  pub counted : length marks ≡ nodes

pub record Passing (nodes : ℕ) (marks : List Bool) (all : List Links) (all_tests : List Bool) (rest : List Links)
    (rest_tests : List Bool) : Type 0 where
  pub same : with_passing marks rest rest_tests ≡ with_passing (replicate nodes false) all all_tests
  pub counted : length marks ≡ nodes

-- One mark more.

set_out : (marks : List Bool) (k r : ℕ) → get_or (slice_set marks k true) r false ≡ true → (k ≡ r) ⊎ (get_or marks r false ≡ true)
set_out [] k r h = absurd cc
set_out (b ∷ bs) zero zero h = inl refl
set_out (b ∷ bs) zero (suc r) h = inr h
set_out (b ∷ bs) (suc k) zero h = inr h
set_out (b ∷ bs) (suc k) (suc r) h = elim (set_out bs k r h) [ inl e ↦ inl (ap (λ (x : ℕ). suc x) e) | inr m ↦ inr m ]

set_kept : (marks : List Bool) (k r : ℕ) → get_or marks r false ≡ true → get_or (slice_set marks k true) r false ≡ true
set_kept [] k r h = absurd cc
set_kept (b ∷ bs) zero zero h = refl
set_kept (b ∷ bs) zero (suc r) h = h
set_kept (b ∷ bs) (suc k) zero h = h
set_kept (b ∷ bs) (suc k) (suc r) h = set_kept bs k r h

set_here : (marks : List Bool) (k : ℕ) → k < length marks → get_or (slice_set marks k true) k false ≡ true
set_here [] k h = absurd (let bad : ⊥ = omega (arith, h) in bad)
set_here (b ∷ bs) zero h = refl
set_here (b ∷ bs) (suc k) h = set_here bs k (omega (arith, h))

set_at : (marks : List Bool) (k r : ℕ) → k ≡ r → r < length marks → get_or (slice_set marks k true) r false ≡ true
set_at marks k r e h = subst (λ (x : ℕ). get_or (slice_set marks x true) r false ≡ true) (sym e) (set_here marks r h)

no_mark : (n r : ℕ) → r < n → get_or (replicate n false) r false ≡ true → ⊥
no_mark n r h m = let e : get_or (replicate n false) r false ≡ false = get_or-replicate n r false false h in cc

-- Lengths.

pub no_marks_long : (n : ℕ) → length (replicate n false) ≡ n
no_marks_long zero = refl
no_marks_long (suc n) = ap (λ (x : ℕ). suc x) (no_marks_long n)

heads_long : (marks : List Bool) (as' : List SharedAlternative) → length (with_marked_heads marks as') ≡ length marks
heads_long marks [] = refl
heads_long marks (a ∷ as') = heads_long (slice_set marks a.head.relation true) as' ∙ length-set marks a.head.relation true

pub all_heads_long : (n : ℕ) (as' : List SharedAlternative) (marks : List Bool) → marks ≡ with_marked_heads (replicate n false) as' → length marks ≡ n
all_heads_long n as' marks e = ap length e ∙ heads_long (replicate n false) as' ∙ no_marks_long n

passing_long : (marks : List Bool) (links : List Links) (tests : List Bool) → length (with_passing marks links tests) ≡ length marks
passing_long marks [] tests = refl
passing_long marks (l ∷ links) [] = refl
passing_long marks (l ∷ links) (true ∷ tests) = passing_long (slice_set marks l.head true) links tests ∙ length-set marks l.head true
passing_long marks (l ∷ links) (false ∷ tests) = passing_long marks links tests

pub all_passing_long : (n : ℕ) (links : List Links) (tests marks : List Bool) → marks ≡ with_passing (replicate n false) links tests
    → length marks ≡ n
all_passing_long n links tests marks e = ap length e ∙ passing_long (replicate n false) links tests ∙ no_marks_long n

-- Heads of alternatives.

abbrev IsHeaded : List SharedAlternative → ℕ → Type 0
IsHeaded [] r = ⊥
IsHeaded (a ∷ as') r = (a.head.relation ≡ r) ⊎ IsHeaded as' r

heads_out : (marks : List Bool) (as' : List SharedAlternative) (r : ℕ) → get_or (with_marked_heads marks as') r false ≡ true
    → (get_or marks r false ≡ true) ⊎ IsHeaded as' r
heads_out marks [] r h = inl h
heads_out marks (a ∷ as') r h = elim (heads_out (slice_set marks a.head.relation true) as' r h) [
  | inl m ↦ elim (set_out marks a.head.relation r m) [ inl e ↦ inr (inl e) | inr k ↦ inl k ]
  | inr i ↦ inr (inr i)
]

heads_kept : (marks : List Bool) (as' : List SharedAlternative) (r : ℕ) → get_or marks r false ≡ true → get_or (with_marked_heads marks as') r false ≡ true
heads_kept marks [] r h = h
heads_kept marks (a ∷ as') r h = heads_kept (slice_set marks a.head.relation true) as' r (set_kept marks a.head.relation r h)

heads_in : (marks : List Bool) (as' : List SharedAlternative) (r : ℕ) → r < length marks → IsHeaded as' r → get_or (with_marked_heads marks as') r false ≡ true
heads_in marks [] r h i = absurd i
heads_in marks (a ∷ as') r h (inl e) = heads_kept (slice_set marks a.head.relation true) as' r (set_at marks a.head.relation r e h)
heads_in marks (a ∷ as') r h (inr i) =
    let l : length (slice_set marks a.head.relation true) ≡ length marks = length-set marks a.head.relation true in
    heads_in (slice_set marks a.head.relation true) as' r (omega (arith, l, h)) i

headed_among : (d : Data) (as' : List SharedAlternative) (rules : List said.Alternative) (r : ℕ) → StandForAlternatives d (map shared as') rules
    → IsHeaded as' r → IsAmong (relation_at d r) (heads_of rules)
headed_among d [] rules r s i = absurd i
headed_among d (a ∷ as') [] r s i = absurd s
headed_among d (a ∷ as') (rule ∷ rules) r s (inl e) = inl (ap (λ (x : ℕ). relation_at d x) (sym e) ∙ s.0.head.same_relation)
headed_among d (a ∷ as') (rule ∷ rules) r s (inr i) = inr (headed_among d as' rules r s.1 i)

-- the number of a relation that heads an alternative
pub record Headed (d : Data) (as' : List SharedAlternative) (p : Relation) : Type 0 where
  pub number : ℕ
  pub inside : number < length d.signatures
  pub named : relation_at d number ≡ p
  pub heads : IsHeaded as' number

among_headed : (d : Data) (as' : List SharedAlternative) (rules : List said.Alternative) (p : Relation) → StandForAlternatives d (map shared as') rules
    → IsAmong p (heads_of rules) → Headed d as' p
among_headed d [] [] p s i = absurd i
among_headed d [] (rule ∷ rules) p s i = absurd s
among_headed d (a ∷ as') [] p s i = absurd s
among_headed d (a ∷ as') (rule ∷ rules) p s (inl e) =
    record { number = a.head.relation; inside = s.0.head.relation; named = s.0.head.same_relation ∙ sym e; heads = inl refl }
among_headed d (a ∷ as') (rule ∷ rules) p s (inr i) =
    let m = among_headed d as' rules p s.1 i in record { number = m.number; inside = m.inside; named = m.named; heads = inr m.heads }

pub heads_within : (d : Data) (as' : List SharedAlternative) (rules : List said.Alternative) → StandForAlternatives d (map shared as') rules
    → All (λ (a : SharedAlternative). a.head.relation < length d.signatures) as'
heads_within d [] rules s k e h = absurd (let bad : ⊥ = omega (arith, h) in bad)
heads_within d (a ∷ as') [] s k e h = absurd s
heads_within d (a ∷ as') (rule ∷ rules) s zero e h = s.0.head.relation
heads_within d (a ∷ as') (rule ∷ rules) s (suc k) e h = heads_within d as' rules s.1 k e (omega (arith, h))

-- what is marked heads an alternative
pub marked_heads : (d : Data) (as' : List SharedAlternative) (rules : List said.Alternative) (marks : List Bool)
    → StandForAlternatives d (map shared as') rules → marks ≡ with_marked_heads (replicate (length d.signatures) false) as'
    → (r : ℕ) → r < length d.signatures → get_or marks r false ≡ true → IsAmong (relation_at d r) (heads_of rules)
marked_heads d as' rules marks s e r h m =
    elim (heads_out (replicate (length d.signatures) false) as' r (subst (λ (bs : List Bool). get_or bs r false ≡ true) e m)) [
      | inl k ↦ absurd (no_mark (length d.signatures) r h k)
      | inr i ↦ headed_among d as' rules r s i
    ]

-- what heads an alternative has a number that is marked
pub heads_marked : (d : Data) (as' : List SharedAlternative) (rules : List said.Alternative) (marks : List Bool)
    → StandForAlternatives d (map shared as') rules → marks ≡ with_marked_heads (replicate (length d.signatures) false) as'
    → (p : Relation) → IsAmong p (heads_of rules) → (r : ℕ) × (r < length d.signatures) × (relation_at d r ≡ p) × (get_or marks r false ≡ true)
heads_marked d as' rules marks s e p i =
    let m = among_headed d as' rules p s i in
    let l : length (replicate (length d.signatures) false) ≡ length d.signatures = no_marks_long (length d.signatures) in (
      m.number,
      m.inside,
      m.named,
      subst (λ (bs : List Bool). get_or bs m.number false ≡ true) (sym e)
          (heads_in (replicate (length d.signatures) false) as' m.number (let j = m.inside in omega (arith, l, j)) m.heads),
    )

-- Heads of items with a literal.

abbrev IsPassing : List Links → List Bool → ℕ → Type 0
IsPassing [] tests r = ⊥
IsPassing (l ∷ links) [] r = ⊥
IsPassing (l ∷ links) (b ∷ tests) r = ((l.head ≡ r) × (b ≡ true)) ⊎ IsPassing links tests r

passing_out : (marks : List Bool) (links : List Links) (tests : List Bool) (r : ℕ) → get_or (with_passing marks links tests) r false ≡ true
    → (get_or marks r false ≡ true) ⊎ IsPassing links tests r
passing_out marks [] tests r h = inl h
passing_out marks (l ∷ links) [] r h = inl h
passing_out marks (l ∷ links) (true ∷ tests) r h = elim (passing_out (slice_set marks l.head true) links tests r h) [
  | inl m ↦ elim (set_out marks l.head r m) [ inl e ↦ inr (inl (e, refl)) | inr k ↦ inl k ]
  | inr i ↦ inr (inr i)
]
passing_out marks (l ∷ links) (false ∷ tests) r h = elim (passing_out marks links tests r h) [ inl m ↦ inl m | inr i ↦ inr (inr i) ]

passing_kept : (marks : List Bool) (links : List Links) (tests : List Bool) (r : ℕ) → get_or marks r false ≡ true
    → get_or (with_passing marks links tests) r false ≡ true
passing_kept marks [] tests r h = h
passing_kept marks (l ∷ links) [] r h = h
passing_kept marks (l ∷ links) (true ∷ tests) r h = passing_kept (slice_set marks l.head true) links tests r (set_kept marks l.head r h)
passing_kept marks (l ∷ links) (false ∷ tests) r h = passing_kept marks links tests r h

passing_in : (marks : List Bool) (links : List Links) (tests : List Bool) (r : ℕ) → r < length marks → IsPassing links tests r
    → get_or (with_passing marks links tests) r false ≡ true
passing_in marks [] tests r h i = absurd i
passing_in marks (l ∷ links) [] r h i = absurd i
passing_in marks (l ∷ links) (true ∷ tests) r h (inl p) = passing_kept (slice_set marks l.head true) links tests r (set_at marks l.head r p.0 h)
passing_in marks (l ∷ links) (false ∷ tests) r h (inl p) = absurd (let e = p.1 in cc)
passing_in marks (l ∷ links) (true ∷ tests) r h (inr i) =
    let m : length (slice_set marks l.head true) ≡ length marks = length-set marks l.head true in
    passing_in (slice_set marks l.head true) links tests r (omega (arith, m, h)) i
passing_in marks (l ∷ links) (false ∷ tests) r h (inr i) = passing_in marks links tests r h i

some_shown : (rs : List (List said.Literal)) → some_literal_in rs ≡ true → (b : List said.Literal) × IsAmong b rs × (l : said.Literal) × IsAmong l b
some_shown [] h = absurd cc
some_shown ([] ∷ rs) h = let m = some_shown rs h in (m.0, inr m.1, m.2, m.3)
some_shown ((l ∷ ls) ∷ rs) h = (l ∷ ls, inl refl, l, inl refl)

some_found : (rs : List (List said.Literal)) (b : List said.Literal) (l : said.Literal) → IsAmong b rs → IsAmong l b → some_literal_in rs ≡ true
some_found [] b l i j = absurd i
some_found ([] ∷ rs) b l (inl e) j = absurd (subst (λ (x : List said.Literal). IsAmong l x) e j)
some_found ([] ∷ rs) b l (inr i) j = some_found rs b l i j
some_found ((k ∷ ks) ∷ rs) b l i j = refl

passing_body : (d : Data) (links : List Links) (items : List Tree) (r : ℕ) → StandForItems d links items → IsPassing links (map rests_on_any items) r
    → HasBody (alternatives items) (relation_at d r)
passing_body d [] items r s i = absurd i
passing_body d (l ∷ links) [] r s i = absurd i
passing_body d (l ∷ links) (t ∷ items) r s (inl p) =
    let rs : List (List said.Literal) = readings_of_all (body_trees t) in
    let m = some_shown rs p.1 in
    let rule : said.Alternative = record { head = item_head t; body = m.0 } in
    record {
      rule = rule;
      literal = m.2;
      is_rule = IsAmong-append_left rule (item_alternatives t) (alternatives items) (in_map (item_head t) m.0 rs m.1);
      heads = sym s.0.named ∙ ap (λ (x : ℕ). relation_at d x) p.0;
      in_body = m.3;
    }
passing_body d (l ∷ links) (t ∷ items) r s (inr i) =
    let b = passing_body d links items r s.1 i in
    record {
      rule = b.rule;
      literal = b.literal;
      is_rule = IsAmong-append_right b.rule (item_alternatives t) (alternatives items) b.is_rule;
      heads =
          b.heads;
      in_body = b.in_body;
    }

Different : Data → Type 0
Different d = (i j : ℕ) → i < length d.signatures → j < length d.signatures → relation_at d i ≡ relation_at d j → i ≡ j

body_passing : (d : Data) (links : List Links) (items : List Tree) (r : ℕ) → Different d → StandForItems d links items → r < length d.signatures
    → (rule : said.Alternative) (l : said.Literal)
    → IsAmong rule (alternatives items) → relation_of rule.head ≡ relation_at d r → IsAmong l rule.body → IsPassing links (map rests_on_any items) r
unfolding Different
body_passing d [] [] r x s h rule l i e j = absurd i
body_passing d [] (t ∷ items) r x s h rule l i e j = absurd s
body_passing d (k ∷ links) [] r x s h rule l i e j = absurd s
body_passing d (k ∷ links) (t ∷ items) r x s h rule l i e j =
    go (IsAmong-append rule (item_alternatives t) (alternatives items) i) (λ m. body_passing d links items r x s.1 h rule l m e j)
  where
    go : IsAmong rule (item_alternatives t) ⊎ IsAmong rule (alternatives items)
        → (IsAmong rule (alternatives items) → IsPassing links (map rests_on_any items) r) → IsPassing (k ∷ links) (map rests_on_any (t ∷ items)) r
    go (inl m) next =
        let rs : List (List said.Literal) = readings_of_all (body_trees t) in
        inl (
          x k.head r s.0.head_in h (s.0.named ∙ ap relation_of (sym (same_head (item_head t) rs rule m)) ∙ e),
          some_found rs rule.body l (of_map (item_head t) rule rs m) j,
        )
    go (inr m) next = inr (next m)

-- the marks of the heads of items with a literal are those of relations with a body
pub marks_are_bodies : (d : Data) (links : List Links) (items : List Tree) (rests marks : List Bool)
    → ((i j : ℕ) → i < length d.signatures → j < length d.signatures → relation_at d i ≡ relation_at d j → i ≡ j)
    → StandForItems d links items → rests ≡ map rests_on_any items → marks ≡ with_passing (replicate (length d.signatures) false) links rests
    → AreBodies (length d.signatures) (λ r. relation_at d r) (alternatives items) marks
unfolding Different
marks_are_bodies d links items rests marks x s e f r h = (into, out)
  where
    same : marks ≡ with_passing (replicate (length d.signatures) false) links (map rests_on_any items)
    same = f ∙ ap (λ (bs : List Bool). with_passing (replicate (length d.signatures) false) links bs) e

    into : get_or marks r false ≡ true → HasBody (alternatives items) (relation_at d r)
    into m = elim (passing_out (replicate (length d.signatures) false) links (map rests_on_any items) r
        (subst (λ (bs : List Bool). get_or bs r false ≡ true) same m)) [
          | inl k ↦ absurd (no_mark (length d.signatures) r h k)
          | inr i ↦ passing_body d links items r s i
        ]

    out : HasBody (alternatives items) (relation_at d r) → get_or marks r false ≡ true
    out b = subst (λ (bs : List Bool). get_or bs r false ≡ true) (sym same)
        (passing_in (replicate (length d.signatures) false) links (map rests_on_any items) r (let l = no_marks_long (length d.signatures) in
        omega (arith, l, h))
        (body_passing d links items r x s h b.rule b.literal b.is_rule b.heads b.in_body))
