-- What an accepted list of items has: no cycle, safety, an order along dependence.
use Rattle.std.proofs.Common.{ℕ, zero, suc, ◌≤◌, ◌<◌, max, Bool, true, false, not, cond, ◌&&◌, ◌||◌, ◌≡◌, ◌⊎◌, ◌↔◌, inl, inr, List, [], ◌∷◌, map}
use Rattle.std.proofs.Common.{length, refl, sym, ap, subst, ◌∙◌, arith, Option, Some, None}
use Rattle.std.specs.Prelude.{⊤}
use Rattle.std.specs.Ordering.{nat_cmp}
use Rattle.std.specs.Cmp.Lexicographic.{slice_cmp}
use Rattle.std.proofs.lemmas.Cmp.{ranked}
use Rattle.std.specs.declared.cmp.Ordering.{Ordering}
use Rattle.std.specs.declared.cmp.Ordering.TheVariants.{Less, Equal, Greater}
use Rattle.statement.specs.Tree.{Tree}
use Rattle.kif.proofs.Facts.{both, true_and}
use Rattle.statement.specs.Clause.{Atom, Literal, Alternative, Relation, relation_of, relation_eq, atom_of}
use Rattle.statement.specs.Dependence.{IsAmong, is_distinct, is_moving, DependsDirectly, DependsIn, IsAcyclic, IsFixed, Edge, has_edge, heads_of}
use Rattle.statement.specs.Dependence.{once_each, dependences, all_in_body, all_in_bodies, is_fixed_in, is_fixed}
use Rattle.statement.specs.Items.{is_item, item_head, item_alternatives, alternatives}
use Rattle.statement.specs.Safety.{is_safe, are_safe}
use Rattle.statement.specs.Order.{body_rank, rank_by, rank_in, rank, then_by, fixed_place, relation_cmp, is_less, into_order, sorted}
use Rattle.statement.specs.Order.{relations_in_order}
use Rattle.statement.specs.Profile.{ItemFault, or_item_fault, first_failing, some_literal, some_body, is_recursive, is_unsafe, HasNoFault, bad_form, bad_keyword}
use Rattle.statement.specs.Profile.{not_safe, recursive, bad_dependence, misuses_word, first_too_many, depends_badly, none_of, roles}
use Rattle.rules_profile.proofs.Equality.{relation_eq_yes, relation_eq_self}
use Rattle.rules_profile.proofs.Tests.{or_left, or_right, not_true, not_false, IsAmong-append}
use Rattle.rules_profile.proofs.Walks.{IsHead, along_dependence}
use Rattle.rules_profile.proofs.Closure.{table_complete, IsAmong-once_each, heads_complete}

pub or_none : (a b : Option ItemFault) → or_item_fault a b ≡ None → (a ≡ None) × (b ≡ None)
or_none None b e = (refl, e)
or_none (Some f) b e = absurd cc

pub none_fails : (fault : ℕ → ItemFault) (fails : Tree → Bool) (n : ℕ) (items : List Tree) → first_failing fault fails n items ≡ None → (t : Tree)
    → IsAmong t items → fails t ≡ false
none_fails fault fails n [] e t a = absurd a
none_fails fault fails n (u ∷ us) e t a = go (fails u) refl e a (none_fails fault fails (suc n) us)
  where
    go : (b : Bool) → fails u ≡ b → cond b (Some (fault n)) (first_failing fault fails (suc n) us) ≡ None → (t ≡ u) ⊎ IsAmong t us
        → (first_failing fault fails (suc n) us ≡ None → (v : Tree) → IsAmong v us → fails v ≡ false) → fails t ≡ false
    go true f g h more = absurd cc
    go false f g (inl s) more = ap fails s ∙ f
    go false f g (inr k) more = more g t k

pub rule_item : (items : List Tree) (rule : Alternative) → IsAmong rule (alternatives items)
    → (t : Tree) × IsAmong t items × IsAmong rule (item_alternatives t)
rule_item [] rule a = absurd a
rule_item (t ∷ ts) rule a = elim (IsAmong-append rule (item_alternatives t) (alternatives ts) a) [
  | inl x ↦ (t, inl refl, x)
  | inr y ↦ let r = rule_item ts rule y in (r.0, inr r.1, r.2)
]

pub same_head : (h : Atom) (bs : List (List Literal)) (rule : Alternative) → IsAmong rule (map (λ b. record { head = h; body = b }) bs)
    → rule.head ≡ h
same_head h [] rule a = absurd a
same_head h (b ∷ bs) rule (inl e) = ap (λ (r : Alternative). r.head) e
same_head h (b ∷ bs) rule (inr a) = same_head h bs rule a

literal_found : (test : Relation → Bool) (ls : List Literal) (l : Literal) → IsAmong l ls → is_distinct (relation_of (atom_of l)) ≡ false
    → test (relation_of (atom_of l)) ≡ true → some_literal test ls ≡ true
literal_found test [] l a d t = absurd a
literal_found test (m ∷ ls) l (inl e) d t =
    or_left _ _ (subst (λ (x : Literal). (not (is_distinct (relation_of (atom_of x))) && test (relation_of (atom_of x))) ≡ true) e
    (true_and (not (is_distinct (relation_of (atom_of l)))) (test (relation_of (atom_of l))) (not_false _ d) t))
literal_found test (m ∷ ls) l (inr a) d t =
    or_right (not (is_distinct (relation_of (atom_of m))) && test (relation_of (atom_of m))) (some_literal test ls) (literal_found test ls l a d t)

pub body_found : (test : Relation → Bool) (as' : List Alternative) (rule : Alternative) (l : Literal) → IsAmong rule as' → IsAmong l rule.body
    → is_distinct (relation_of (atom_of l)) ≡ false → test (relation_of (atom_of l)) ≡ true → some_body test as' ≡ true
body_found test [] rule l r a d t = absurd r
body_found test (x ∷ xs) rule l (inl e) a d t =
    or_left _ _ (subst (λ (y : Alternative). some_literal test y.body ≡ true) e (literal_found test rule.body l a d t))
body_found test (x ∷ xs) rule l (inr r) a d t = or_right (some_literal test x.body) (some_body test xs) (body_found test xs rule l r a d t)

record Passed (items : List Tree) : Type 0 where
  safe : first_failing not_safe is_unsafe 1 items ≡ None
  straight : first_failing recursive (is_recursive (dependences (alternatives items))) 1 items ≡ None

passed : (items : List Tree) → HasNoFault items → Passed items
passed items e =
    let form : Option ItemFault = first_failing bad_form (λ (t : Tree). not (is_item t)) 1 items in
    let words : Option ItemFault = first_failing bad_keyword misuses_word 1 items in
    let many : Option ItemFault = first_too_many 1 [] items in
    let unsafe' : Option ItemFault = first_failing not_safe is_unsafe 1 items in
    let cycles : Option ItemFault = first_failing recursive (is_recursive (dependences (alternatives items))) 1 items in
    let badly : Option ItemFault = first_failing bad_dependence (depends_badly (dependences (alternatives items)) (alternatives items)) 1 items in
    let last : Option ItemFault = none_of (roles items) in
    let a = or_none form (or_item_fault words (or_item_fault many (or_item_fault unsafe' (or_item_fault cycles (or_item_fault badly last))))) e in
    let b = or_none words (or_item_fault many (or_item_fault unsafe' (or_item_fault cycles (or_item_fault badly last)))) a.1 in
    let c = or_none many (or_item_fault unsafe' (or_item_fault cycles (or_item_fault badly last))) b.1 in
    let d = or_none unsafe' (or_item_fault cycles (or_item_fault badly last)) c.1 in
    let f = or_none cycles (or_item_fault badly last) d.1 in
    record { safe = d.0; straight = f.0 }

-- where no item rests on its own head there is no cycle
pub straight_acyclic : (items : List Tree) → first_failing recursive (is_recursive (dependences (alternatives items))) 1 items ≡ None
    → IsAcyclic (alternatives items)
straight_acyclic items straight p cycle = go cycle.0 cycle.1
  where
    table : List Edge
    table = dependences (alternatives items)

    found : (r : Relation) (d : DependsDirectly (alternatives items) p r)
        → (relation_eq r p || has_edge (dependences (alternatives items)) r p) ≡ true → ⊥
    found r d t =
        let i = rule_item items d.rule d.is_rule in
        let h = same_head (item_head i.0) _ d.rule i.2 in
        let no : is_recursive (dependences (alternatives items)) i.0 ≡ false = none_fails recursive _ 1 items straight i.0 i.1 in
        let q : relation_of (item_head i.0) ≡ p = ap relation_of (sym h) ∙ d.heads in
        let t' : (relation_eq (relation_of (atom_of d.literal)) (relation_of (item_head i.0))
        || has_edge (dependences (alternatives items)) (relation_of (atom_of d.literal)) (relation_of (item_head i.0))) ≡ true
        = subst (λ (x : Relation). (relation_eq (relation_of (atom_of d.literal)) x || has_edge (dependences (alternatives items))
        (relation_of (atom_of d.literal)) x) ≡ true) (sym q)
        (subst (λ (x : Relation). (relation_eq x p || has_edge (dependences (alternatives items)) x p) ≡ true) (sym d.names) t) in
        let yes : is_recursive (dependences (alternatives items)) i.0 ≡ true
        = body_found (λ (x : Relation). relation_eq x (relation_of (item_head i.0)) || has_edge (dependences (alternatives items)) x
        (relation_of (item_head i.0)))
        (item_alternatives i.0) d.rule d.literal i.2 d.in_body (subst (λ (x : Relation). is_distinct x ≡ false) (sym d.names) d.not_distinct) t' in
        cc

    go : (n : ℕ) → DependsIn (alternatives items) n p p → ⊥
    go zero d = found p d (or_left _ _ (relation_eq_self p))
    go (suc n) c = found c.0 c.1 (or_right (relation_eq c.0 p) _ (table_complete (alternatives items) c.0 p (n, c.2)))

-- an accepted list of items has no cycle
pub accepted_acyclic : (items : List Tree) → HasNoFault items → IsAcyclic (alternatives items)
accepted_acyclic items e = straight_acyclic items (passed items e).straight

are_safe_each : (as' : List Alternative) (rule : Alternative) → are_safe as' ≡ true → IsAmong rule as' → is_safe rule ≡ true
are_safe_each [] rule h a = absurd a
are_safe_each (x ∷ xs) rule h (inl e) = ap is_safe e ∙ (both (is_safe x) (are_safe xs) h).0
are_safe_each (x ∷ xs) rule h (inr a) = are_safe_each xs rule ((both (is_safe x) (are_safe xs) h).1) a

pub not_not : (b : Bool) → not b ≡ false → b ≡ true
not_not true h = refl
not_not false h = absurd cc

pub accepted_safe : (items : List Tree) → HasNoFault items → (rule : Alternative) → IsAmong rule (alternatives items) → is_safe rule ≡ true
accepted_safe items e rule a =
    let i = rule_item items rule a in
    are_safe_each (item_alternatives i.0) rule (not_not _ (none_fails not_safe is_unsafe 1 items (passed items e).safe i.0 i.1)) i.2

-- Without cycles the test of fixed relations is exact.

pub right_if : (a b : Bool) → a ≡ false → (a || b) ≡ true → b ≡ true
right_if true b e h = absurd cc
right_if false b e h = h

body_all : (test : Relation → Bool) (ls : List Literal) (l : Literal) → all_in_body test ls ≡ true → IsAmong l ls
    → is_distinct (relation_of (atom_of l)) ≡ false → test (relation_of (atom_of l)) ≡ true
body_all test [] l h a d = absurd a
body_all test (m ∷ ls) l h (inl e) d =
    let k = both (is_distinct (relation_of (atom_of m)) || test (relation_of (atom_of m))) (all_in_body test ls) h in
    right_if _ _ d (subst (λ (x : Literal). (is_distinct (relation_of (atom_of x)) || test (relation_of (atom_of x))) ≡ true) (sym e) k.0)
body_all test (m ∷ ls) l h (inr a) d =
    body_all test ls l ((both (is_distinct (relation_of (atom_of m)) || test (relation_of (atom_of m))) (all_in_body test ls) h).1) a d

rules_all : (test : Relation → Bool) (rules : List Alternative) (p : Relation) (rule : Alternative) → all_in_bodies test rules p ≡ true
    → IsAmong rule rules → relation_of rule.head ≡ p → all_in_body test rule.body ≡ true
rules_all test [] p rule h a e = absurd a
rules_all test (r ∷ rules) p rule h (inl s) e =
    let k = both (not (relation_eq (relation_of r.head) p) || all_in_body test r.body) (all_in_bodies test rules p) h in
    let here : relation_eq (relation_of rule.head) p ≡ true =
    subst (λ (x : Relation). relation_eq (relation_of rule.head) x ≡ true) e (relation_eq_self (relation_of rule.head)) in
    right_if _ _ (ap not here) (subst (λ (x : Alternative). (not (relation_eq (relation_of x.head) p) || all_in_body test x.body) ≡ true) (sym s) k.0)
rules_all test (r ∷ rules) p rule h (inr a) e =
    rules_all test rules p rule ((both (not (relation_eq (relation_of r.head) p) || all_in_body test r.body) (all_in_bodies test rules p) h).1) a e

all_body : (test : Relation → Bool) (ls : List Literal)
    → ((l : Literal) → IsAmong l ls → is_distinct (relation_of (atom_of l)) ≡ false → test (relation_of (atom_of l)) ≡ true)
    → all_in_body test ls ≡ true
all_body test [] h = refl
all_body test (l ∷ ls) h = true_and _ _ (go (is_distinct (relation_of (atom_of l))) refl) (all_body test ls (λ m a. h m (inr a)))
  where
    go : (b : Bool) → is_distinct (relation_of (atom_of l)) ≡ b → (b || test (relation_of (atom_of l))) ≡ true
    go true e = refl
    go false e = h l (inl refl) e

all_rules : (test : Relation → Bool) (rules : List Alternative) (p : Relation)
    → ((rule : Alternative) → IsAmong rule rules → relation_of rule.head ≡ p → all_in_body test rule.body ≡ true) → all_in_bodies test rules p ≡ true
all_rules test [] p h = refl
all_rules test (r ∷ rules) p h = true_and _ _ (go (relation_eq (relation_of r.head) p) refl) (all_rules test rules p (λ x a. h x (inr a)))
  where
    go : (b : Bool) → relation_eq (relation_of r.head) p ≡ b → (not b || all_in_body test r.body) ≡ true
    go true e = h r (inl refl) (relation_eq_yes _ _ e)
    go false e = refl

abbrev FixedTest : List Alternative → ℕ → Relation → Type 0
FixedTest rules k p = (is_fixed_in rules k p ≡ true) ↔ IsFixed rules p

pub fixed_tested : (rules : List Alternative) → IsAcyclic rules → (p : Relation) → (is_fixed rules p ≡ true) ↔ IsFixed rules p
fixed_tested rules acyclic = along_dependence rules acyclic (FixedTest rules) none step
  where
    none : (p : Relation) → (IsHead rules p → ⊥) → FixedTest rules zero p
    none p headless = ((λ h. record { itself = not_true _ h; below = λ q chain. absurd (no_chain q chain.0 chain.1) }), (λ f. not_false _ f.itself))
      where
        no_direct : (q : Relation) → DependsDirectly rules p q → ⊥
        no_direct q d = headless (d.rule, d.is_rule, d.heads)

        no_chain : (q : Relation) (n : ℕ) → DependsIn rules n p q → ⊥
        no_chain q zero d = no_direct q d
        no_chain q (suc n) c = no_direct c.0 c.1

    step : (k : ℕ) (p : Relation) → ((q : Relation) → DependsDirectly rules p q → FixedTest rules k q) → FixedTest rules (suc k) p
    step k p below = (there, back)
      where
        there : is_fixed_in rules (suc k) p ≡ true → IsFixed rules p
        there h =
            let b = both (not (is_moving p)) (all_in_bodies (λ (q : Relation). is_fixed_in rules k q) rules p) h in
            let one : (q : Relation) → DependsDirectly rules p q → IsFixed rules q
            = λ q d. (below q d).0 (subst (λ (x : Relation). is_fixed_in rules k x ≡ true) d.names
            (body_all (λ (x : Relation). is_fixed_in rules k x) d.rule.body d.literal
            (rules_all (λ (x : Relation). is_fixed_in rules k x) rules p d.rule b.1 d.is_rule d.heads) d.in_body
            (subst (λ (x : Relation). is_distinct x ≡ false) (sym d.names) d.not_distinct))) in
            record { itself = not_true _ b.0; below = λ q chain. chain_still one q chain.0 chain.1 }
          where
            chain_still : ((q : Relation) → DependsDirectly rules p q → IsFixed rules q) → (q : Relation) (n : ℕ) → DependsIn rules n p q
                → is_moving q ≡ false
            chain_still one q zero d = (one q d).itself
            chain_still one q (suc n) c = (one c.0 c.1).below q (n, c.2)

        back : IsFixed rules p → is_fixed_in rules (suc k) p ≡ true
        back f = true_and _ _ (not_false _ f.itself)
            (all_rules (λ (q : Relation). is_fixed_in rules k q) rules p
            (λ rule a e. all_body (λ (q : Relation). is_fixed_in rules k q) rule.body (λ l b d.
            let direct : DependsDirectly rules p (relation_of (atom_of l)) =
            record { rule = rule; literal = l; is_rule = a; heads = e; in_body = b; names = refl; not_distinct = d } in
            (below (relation_of (atom_of l)) direct).1 (record {
              itself = f.below _ (zero, direct);
              below = λ q chain. f.below q (suc chain.0, (relation_of (atom_of l), direct, chain.1));
            }))))

-- Without cycles the rank goes down along dependence.

body_rank_same : (b c : Relation → ℕ) (ls : List Literal)
    → ((l : Literal) → IsAmong l ls → is_distinct (relation_of (atom_of l)) ≡ false → b (relation_of (atom_of l)) ≡ c (relation_of (atom_of l)))
    → body_rank b ls ≡ body_rank c ls
body_rank_same b c [] h = refl
body_rank_same b c (l ∷ ls) h =
    let rest = body_rank_same b c ls (λ m a. h m (inr a)) in
    let first = go (is_distinct (relation_of (atom_of l))) refl in
    ap (λ (n : ℕ). max (suc n) (body_rank b ls)) first
    ∙ ap (λ (n : ℕ). max (suc (cond (is_distinct (relation_of (atom_of l))) 0 (c (relation_of (atom_of l))))) n) rest
  where
    go : (t : Bool) → is_distinct (relation_of (atom_of l)) ≡ t → cond t 0 (b (relation_of (atom_of l))) ≡ cond t 0 (c (relation_of (atom_of l)))
    go true e = refl
    go false e = h l (inl refl) e

rank_by_same : (b c : Relation → ℕ) (rules : List Alternative) (p : Relation)
    → ((rule : Alternative) → IsAmong rule rules → relation_of rule.head ≡ p → body_rank b rule.body ≡ body_rank c rule.body)
    → rank_by b rules p ≡ rank_by c rules p
rank_by_same b c [] p h = refl
rank_by_same b c (r ∷ rules) p h =
    ap (λ (n : ℕ). max n (rank_by b rules p)) (go (relation_eq (relation_of r.head) p) refl)
    ∙ ap (λ (n : ℕ). max (cond (relation_eq (relation_of r.head) p) (body_rank c r.body) 0) n) (rank_by_same b c rules p (λ x a. h x (inr a)))
  where
    go : (t : Bool) → relation_eq (relation_of r.head) p ≡ t → cond t (body_rank b r.body) 0 ≡ cond t (body_rank c r.body) 0
    go true e = h r (inl refl) (relation_eq_yes _ _ e)
    go false e = refl

pub rank_by_none : (b : Relation → ℕ) (rules : List Alternative) (p : Relation)
    → ((rule : Alternative) → IsAmong rule rules → relation_of rule.head ≡ p → ⊥) → rank_by b rules p ≡ 0
rank_by_none b [] p h = refl
rank_by_none b (r ∷ rules) p h = let rest = rank_by_none b rules p (λ x a. h x (inr a)) in let first = go (relation_eq (relation_of r.head) p) refl in
    omega arith
  where
    go : (t : Bool) → relation_eq (relation_of r.head) p ≡ t → cond t (body_rank b r.body) 0 ≡ 0
    go true e = absurd (h r (inl refl) (relation_eq_yes _ _ e))
    go false e = refl

body_rank_above : (b : Relation → ℕ) (ls : List Literal) (l : Literal) → IsAmong l ls → is_distinct (relation_of (atom_of l)) ≡ false
    → b (relation_of (atom_of l)) < body_rank b ls
body_rank_above b [] l a d = absurd a
body_rank_above b (m ∷ ls) l (inl e) d =
    let f : is_distinct (relation_of (atom_of m)) ≡ false = subst (λ (x : Literal). is_distinct (relation_of (atom_of x)) ≡ false) e d in
    rw e (rw f (omega arith))
body_rank_above b (m ∷ ls) l (inr a) d = let rest = body_rank_above b ls l a d in omega arith

rank_by_above : (b : Relation → ℕ) (rules : List Alternative) (p : Relation) (rule : Alternative) → IsAmong rule rules → relation_of rule.head ≡ p
    → body_rank b rule.body ≤ rank_by b rules p
rank_by_above b [] p rule a e = absurd a
rank_by_above b (r ∷ rules) p rule (inl s) e =
    let here : relation_eq (relation_of r.head) p ≡ true
    = subst (λ (x : Alternative). relation_eq (relation_of x.head) p ≡ true) s
    (subst (λ (x : Relation). relation_eq (relation_of rule.head) x ≡ true) e (relation_eq_self (relation_of rule.head))) in
    let same : body_rank b rule.body ≡ body_rank b r.body = ap (λ (x : Alternative). body_rank b x.body) s in
    rw here (omega arith)
rank_by_above b (r ∷ rules) p rule (inr a) e = let rest = rank_by_above b rules p rule a e in omega arith

abbrev SteadyRank : List Alternative → ℕ → Relation → Type 0
SteadyRank rules k p = (n : ℕ) → k ≤ n → rank_in rules n p ≡ rank_in rules k p

pub rank_steady : (rules : List Alternative) → IsAcyclic rules → (p : Relation) → SteadyRank rules (length rules) p
rank_steady rules acyclic = along_dependence rules acyclic (SteadyRank rules) none step
  where
    none : (p : Relation) → (IsHead rules p → ⊥) → SteadyRank rules zero p
    none p headless zero le = refl
    none p headless (suc n) le = rank_by_none (λ (q : Relation). rank_in rules n q) rules p (λ rule a e. headless (rule, a, e))

    step : (k : ℕ) (p : Relation) → ((q : Relation) → DependsDirectly rules p q → SteadyRank rules k q) → SteadyRank rules (suc k) p
    step k p below zero le = absurd (omega arith)
    step k p below (suc n) le =
        rank_by_same (λ (q : Relation). rank_in rules n q) (λ (q : Relation). rank_in rules k q) rules p (λ rule a e.
        body_rank_same (λ (q : Relation). rank_in rules n q) (λ (q : Relation). rank_in rules k q) rule.body (λ l b d.
        below (relation_of (atom_of l)) (record { rule = rule; literal = l; is_rule = a; heads = e; in_body = b; names = refl; not_distinct = d }) n
        (omega arith)))

pub rank_below : (rules : List Alternative) → IsAcyclic rules → (p q : Relation) → DependsDirectly rules p q → rank rules q < rank rules p
rank_below rules acyclic p q d =
    let s : rank_in rules (suc (length rules)) p ≡ rank rules p = rank_steady rules acyclic p (suc (length rules)) (omega arith) in
    let a : body_rank (λ (x : Relation). rank rules x) d.rule.body ≤ rank_in rules (suc (length rules)) p =
    rank_by_above (λ (x : Relation). rank rules x) rules p d.rule d.is_rule d.heads in
    let b : rank rules (relation_of (atom_of d.literal)) < body_rank (λ (x : Relation). rank rules x) d.rule.body
    = body_rank_above (λ (x : Relation). rank rules x) d.rule.body d.literal d.in_body
    (subst (λ (x : Relation). is_distinct x ≡ false) (sym d.names) d.not_distinct) in
    let c : rank rules q < body_rank (λ (x : Relation). rank rules x) d.rule.body =
    subst (λ (x : Relation). rank rules x < body_rank (λ (y : Relation). rank rules y) d.rule.body) d.names b in
    omega arith

-- Relations stand in order: fixed ones first, and then by rank.

-- p may stand before q
pub record StandsBefore (rules : List Alternative) (p q : Relation) : Type 0 where
  pub place : fixed_place rules p ≤ fixed_place rules q
  pub rank_when_level : fixed_place rules q ≤ fixed_place rules p → rank rules p ≤ rank rules q

less_first : (a b : ℕ) (other : Ordering) → is_less (then_by (nat_cmp a b) other) ≡ true → (a < b) ⊎ ((a ≡ b) × (is_less other ≡ true))
less_first a b other h = go (nat_cmp a b) refl h
  where
    go : (o : Ordering) → o ≡ nat_cmp a b → is_less (then_by o other) ≡ true → (a < b) ⊎ ((a ≡ b) × (is_less other ≡ true))
    go Less e k = inl (ranked a b Less e)
    go Equal e k = inr (ranked a b Equal e, k)
    go Greater e k = absurd cc

not_less_first : (a b : ℕ) (other : Ordering) → is_less (then_by (nat_cmp a b) other) ≡ false → (b < a) ⊎ ((a ≡ b) × (is_less other ≡ false))
not_less_first a b other h = go (nat_cmp a b) refl h
  where
    go : (o : Ordering) → o ≡ nat_cmp a b → is_less (then_by o other) ≡ false → (b < a) ⊎ ((a ≡ b) × (is_less other ≡ false))
    go Less e k = absurd cc
    go Equal e k = inr (ranked a b Equal e, k)
    go Greater e k = inl (ranked a b Greater e)

less_stands : (rules : List Alternative) (p q : Relation) → is_less (relation_cmp rules p q) ≡ true → StandsBefore rules p q
less_stands rules p q h = go (less_first (fixed_place rules p) (fixed_place rules q) _ h)
  where
    further : fixed_place rules p ≡ fixed_place rules q
        → (rank rules p < rank rules q) ⊎ ((rank rules p ≡ rank rules q)
        × (is_less (then_by (slice_cmp nat_cmp p.word q.word) (nat_cmp p.arity q.arity)) ≡ true)) → StandsBefore rules p q
    further e (inl a) = record { place = omega arith; rank_when_level = λ l. omega arith }
    further e (inr a) = let r = a.0 in record { place = omega arith; rank_when_level = λ l. omega arith }

    go : (fixed_place rules p < fixed_place rules q)
        ⊎ ((fixed_place rules p ≡ fixed_place rules q)
        × (is_less (then_by (nat_cmp (rank rules p) (rank rules q)) (then_by (slice_cmp nat_cmp p.word q.word) (nat_cmp p.arity q.arity))) ≡ true))
        → StandsBefore rules p q
    go (inl a) = record { place = omega arith; rank_when_level = λ l. absurd (omega arith) }
    go (inr b) = further b.0 (less_first (rank rules p) (rank rules q) _ b.1)

not_less_stands : (rules : List Alternative) (p q : Relation) → is_less (relation_cmp rules p q) ≡ false → StandsBefore rules q p
not_less_stands rules p q h = go (not_less_first (fixed_place rules p) (fixed_place rules q) _ h)
  where
    further : fixed_place rules p ≡ fixed_place rules q
        → (rank rules q < rank rules p) ⊎ ((rank rules p ≡ rank rules q)
        × (is_less (then_by (slice_cmp nat_cmp p.word q.word) (nat_cmp p.arity q.arity)) ≡ false)) → StandsBefore rules q p
    further e (inl a) = record { place = omega arith; rank_when_level = λ l. omega arith }
    further e (inr a) = let r = a.0 in record { place = omega arith; rank_when_level = λ l. omega arith }

    go : (fixed_place rules q < fixed_place rules p)
        ⊎ ((fixed_place rules p ≡ fixed_place rules q)
        × (is_less (then_by (nat_cmp (rank rules p) (rank rules q)) (then_by (slice_cmp nat_cmp p.word q.word) (nat_cmp p.arity q.arity))) ≡ false))
        → StandsBefore rules q p
    go (inl a) = record { place = omega arith; rank_when_level = λ l. absurd (omega arith) }
    go (inr b) = further b.0 (not_less_first (rank rules p) (rank rules q) _ b.1)

stands_trans : (rules : List Alternative) (p q r : Relation) → StandsBefore rules p q → StandsBefore rules q r → StandsBefore rules p r
stands_trans rules p q r a b =
    let x = a.place in let y = b.place in
    record {
      place = omega arith;
      rank_when_level = λ l. let u = a.rank_when_level (omega arith) in let v = b.rank_when_level (omega arith) in
          omega arith;
    }

abbrev pub StandInOrder : List Alternative → List Relation → Type 0
StandInOrder rules [] = ⊤
StandInOrder rules (p ∷ ps) = ((q : Relation) → IsAmong q ps → StandsBefore rules p q) × StandInOrder rules ps

pub into_order_cases : (rules : List Alternative) (p q : Relation) (ps : List Relation) → IsAmong q (into_order rules p ps) → (q ≡ p) ⊎ IsAmong q ps
into_order_cases rules p q [] h = h
into_order_cases rules p q (r ∷ ps) h = go (is_less (relation_cmp rules p r)) h (into_order_cases rules p q ps)
  where
    go : (t : Bool) → IsAmong q (cond t (p ∷ (r ∷ ps)) (r ∷ into_order rules p ps)) → (IsAmong q (into_order rules p ps) → (q ≡ p) ⊎ IsAmong q ps)
        → (q ≡ p) ⊎ IsAmong q (r ∷ ps)
    go true k more = k
    go false (inl e) more = inr (inl e)
    go false (inr k) more = elim (more k) [ inl x ↦ inl x | inr y ↦ inr (inr y) ]

pub into_order_all : (rules : List Alternative) (p q : Relation) (ps : List Relation) → (q ≡ p) ⊎ IsAmong q ps → IsAmong q (into_order rules p ps)
into_order_all rules p q [] h = h
into_order_all rules p q (r ∷ ps) h = go (is_less (relation_cmp rules p r)) h (into_order_all rules p q ps)
  where
    go : (t : Bool) → (q ≡ p) ⊎ IsAmong q (r ∷ ps) → ((q ≡ p) ⊎ IsAmong q ps → IsAmong q (into_order rules p ps))
        → IsAmong q (cond t (p ∷ (r ∷ ps)) (r ∷ into_order rules p ps))
    go true k more = k
    go false (inl e) more = inr (more (inl e))
    go false (inr (inl e)) more = inl e
    go false (inr (inr k)) more = inr (more (inr k))

into_order_stands : (rules : List Alternative) (p : Relation) (ps : List Relation) → StandInOrder rules ps
    → StandInOrder rules (into_order rules p ps)
into_order_stands rules p [] h = ((λ q a. absurd a), tt)
into_order_stands rules p (r ∷ ps) h = go (is_less (relation_cmp rules p r)) refl (into_order_stands rules p ps h.1)
  where
    go : (t : Bool) → is_less (relation_cmp rules p r) ≡ t → StandInOrder rules (into_order rules p ps)
        → StandInOrder rules (cond t (p ∷ (r ∷ ps)) (r ∷ into_order rules p ps))
    go true e more = ((λ q a. first q a), h)
      where
        first : (q : Relation) → (q ≡ r) ⊎ IsAmong q ps → StandsBefore rules p q
        first q (inl s) = subst (λ (x : Relation). StandsBefore rules p x) (sym s) (less_stands rules p r e)
        first q (inr a) = stands_trans rules p r q (less_stands rules p r e) (h.0 q a)
    go false e more = ((λ q a. later q (into_order_cases rules p q ps a)), more)
      where
        later : (q : Relation) → (q ≡ p) ⊎ IsAmong q ps → StandsBefore rules r q
        later q (inl s) = subst (λ (x : Relation). StandsBefore rules r x) (sym s) (not_less_stands rules p r e)
        later q (inr a) = h.0 q a

pub sorted_stands : (rules : List Alternative) (ps : List Relation) → StandInOrder rules (sorted rules ps)
sorted_stands rules [] = tt
sorted_stands rules (p ∷ ps) = into_order_stands rules p (sorted rules ps) (sorted_stands rules ps)

sorted_all : (rules : List Alternative) (q : Relation) (ps : List Relation) → IsAmong q ps → IsAmong q (sorted rules ps)
sorted_all rules q [] a = absurd a
sorted_all rules q (p ∷ ps) (inl e) = into_order_all rules p q (sorted rules ps) (inl e)
sorted_all rules q (p ∷ ps) (inr a) = into_order_all rules p q (sorted rules ps) (inr (sorted_all rules q ps a))

pub relations_stand : (rules : List Alternative) → StandInOrder rules (relations_in_order rules)
relations_stand rules = sorted_stands rules (once_each (heads_of rules))

pub relations_complete : (rules : List Alternative) (rule : Alternative) → IsAmong rule rules
    → IsAmong (relation_of rule.head) (relations_in_order rules)
relations_complete rules rule a = sorted_all rules _ _ (IsAmong-once_each _ _ (heads_complete rules rule a))
