-- The relations that alternatives head, and their marks.
use Rattle.std.proofs.Common.{ℕ, zero, suc, ◌+◌, ◌-◌, ◌<◌, ◌≤◌, Bool, false, ◌≡◌, inl, inr, List, [], ◌∷◌, length, map, sym, ap, subst, ◌∙◌, arith, get_or, take, ◌++◌}
use Rattle.std.proofs.lemmas.List.{get_or-map, length-map, map_more}
use Rattle.std.proofs.Math.Seq.{take-length}
use Rattle.std.specs.Prelude.{slice_range}
use Rattle.statement.specs.Clause as said
use Rattle.statement.specs.Clause.{relation_of}
use Rattle.rules_clauses.specs.declared.numbered.Alternative as memory
use Rattle.rules_clauses.specs.declared.numbered.Atom as memory_atom
use Rattle.rules_clauses.specs.Marks.{IsInside}
use Rattle.rules_clauses.specs.Store.{Data, relation_at, stated_atom, terms_before}
use Rattle.rules_clauses.proofs.Facts.{count_trees-length, terms_of_inside}
use Rattle.meaning.specs.Listed.{IsAlternativeAt}
use Rattle.rules.specs.Drafts.{Numbered, numbered, alternative_of}
use Rattle.rules.specs.RuleSets.{IsWhole, AreWhole, rules_of}
use Rattle.statement.specs.Tree.{no_trees}
use Rattle.statement.specs.Dependence.{is_among}
use Rattle.unroll_layers.specs.ByNumber.{heads_one}

whole_at : (d : Data) (ns : List Numbered) (i : ℕ) (e : Numbered) → AreWhole d ns → i < length ns → IsWhole d (get_or ns i e)
whole_at d [] i e w lt = absurd (omega arith)
whole_at d (n ∷ ns) zero e w lt = w.0
whole_at d (n ∷ ns) (suc i) e w lt = whole_at d ns i e w.1 (omega arith)

-- the head of the alternative at a place is there
pub head_inside : (d : Data) (all : List memory.Alternative) (i : ℕ) (a : memory.Alternative) → AreWhole d (map numbered all) → i < length all
    → IsInside (get_or all i a).variables.from d (get_or all i a).head
head_inside d all i a w lt =
    (subst (λ (n : Numbered). IsWhole d n) (get_or-map numbered all i a (numbered a) lt)
    (whole_at d (map numbered all) i (numbered a) w (omega (arith, length-map all numbered)))).0

relation_inside : (d : Data) (from : ℕ) (a : memory_atom.Atom) → IsInside from d a → relation_of (stated_atom d from a) ≡ relation_at d a.relation
relation_inside d from a i =
    let n = count_trees-length (terms_before d from (slice_range d.parts a.terms.from a.terms.to) []) ∙ terms_of_inside from d a i in
    λ x. record { word = (relation_at d a.relation).word; arity = n x }

-- and its relation is that of the rule
pub head_relation : (d : Data) (all : List memory.Alternative) (i : ℕ) (a : memory.Alternative) (e : said.Alternative) → AreWhole d (map numbered all)
    → i < length all → relation_at d (get_or all i a).head.relation ≡ relation_of (get_or (rules_of d (map numbered all)) i e).head
head_relation d all i a e w lt =
    sym (relation_inside d (get_or all i a).variables.from (get_or all i a).head (head_inside d all i a w lt))
    ∙ ap (λ (rule : said.Alternative). relation_of rule.head) (sym (get_or-map (alternative_of d) (map numbered all) i (numbered a) e
    (omega (arith, length-map all numbered)) ∙ ap (alternative_of d) (get_or-map numbered all i a (numbered a) lt)))

-- the alternative at a place, counted from the first
at_place : (rules : List said.Alternative) (n k : ℕ) (rule d : said.Alternative) → IsAlternativeAt n rules k rule
    → (n ≤ k) × ((k - n < length rules) × (get_or rules (k - n) d ≡ rule))
at_place [] n k rule d a = absurd a
at_place (r ∷ rs) n k rule d (inl e) =
    let z : k - n ≡ 0 = omega (arith, e.0) in
    (omega (arith, e.0), (omega (arith, z), ap (λ (m : ℕ). get_or (r ∷ rs) m d) z ∙ sym e.1))
at_place (r ∷ rs) n k rule d (inr a) =
    let t = at_place rs (suc n) k rule d a in
    let le = t.0 in
    let lt = (t.1).0 in
    let z : k - n ≡ suc (k - suc n) = omega (arith, le) in
    (omega (arith, le), (omega (arith, z, lt), ap (λ (m : ℕ). get_or (r ∷ rs) m d) z ∙ (t.1).1))

-- the alternative at a place
pub alternative_at : (rules : List said.Alternative) (k : ℕ) (rule d : said.Alternative) → IsAlternativeAt 0 rules k rule
    → (k < length rules) × (get_or rules k d ≡ rule)
alternative_at rules k rule d a =
    let t = (at_place rules 0 k rule d a).1 in
    let z : k - 0 ≡ k = omega arith in
    (omega (arith, t.0, z), ap (λ (m : ℕ). get_or rules m d) (sym z) ∙ t.1)

-- one more mark
pub mark_more : (ps : List said.Relation) (rules : List said.Alternative) (i : ℕ) (old new : List Bool) (p : said.Relation) (b : Bool) → i < length rules
    → old ≡ map (heads_one ps) (take i rules) → b ≡ is_among p ps → ((d : said.Alternative) → p ≡ relation_of (get_or rules i d).head)
    → new ≡ old ++ b ∷ [] → new ≡ map (heads_one ps) (take (i + 1) rules)
mark_more ps rules i old new p b lt before is here e =
    let d : said.Alternative = record { head = record { word = []; terms = no_trees }; body = [] } in
    let m = map_more (heads_one ps) rules i d lt in
    let same : b ≡ heads_one ps (get_or rules i d) = is ∙ ap (λ (q : said.Relation). is_among q ps) (here d) in
    e ∙ ap (λ (ms : List Bool). ms ++ b ∷ []) before ∙ ap (λ (t : Bool). map (heads_one ps) (take i rules) ++ t ∷ []) same ∙ sym m

pub all_marks : (ps : List said.Relation) (rules : List said.Alternative) (i : ℕ) (marks : List Bool) → i ≡ length rules
    → marks ≡ map (heads_one ps) (take i rules) → marks ≡ map (heads_one ps) rules
all_marks ps rules i marks e h =
    h ∙ ap (λ (n : ℕ). map (heads_one ps) (take n rules)) e ∙ ap (map (heads_one ps)) (take-length rules)

pub many_rules : (d : Data) (all : List memory.Alternative) → length (rules_of d (map numbered all)) ≡ length all
many_rules d all = length-map (map numbered all) (alternative_of d) ∙ length-map all numbered

-- the mark of an alternative says what was tested
pub mark_is : (rules : List said.Alternative) (test : said.Alternative → Bool) (marks : List Bool) → marks ≡ map test rules → (k : ℕ) (rule : said.Alternative)
    → IsAlternativeAt 0 rules k rule → get_or marks k false ≡ test rule
mark_is rules test marks e k rule a =
    let t = alternative_at rules k rule rule a in
    ap (λ (ms : List Bool). get_or ms k false) e ∙ get_or-map test rules k rule false t.0 ∙ ap test t.1
