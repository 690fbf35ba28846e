-- The rules of the items of a made game.
use Rattle.std.proofs.Common.{true, ◌≡◌, ◌⊎◌, inl, inr, List, [], ◌∷◌, ◌++◌, map, filter, sym, ap, subst, ◌∙◌}
use Rattle.statement.specs.Tree.{Tree}
use Rattle.statement.specs.Clause.{Alternative, Relation, relation_of}
use Rattle.statement.specs.Dependence.{IsAmong, is_among}
use Rattle.statement.specs.Items.{alternatives, item_alternatives, item_head}
use Rattle.rules_profile.proofs.Facts.{rule_item, same_head, IsAmong-append, IsAmong-append_left, IsAmong-append_right}
use Rattle.meaning.proofs.Facts.{among_filter, among_filter_in, among_map_in, among_map_out}
use Rattle.unroll_strata.specs.Steps.{stepped, based, step_item, based_item, heads_one, step_game}
use Rattle.unroll_strata.specs.Founded.{IsStepGame}

-- a rule of an item of the list is a rule of the list
pub item_rule : (items : List Tree) (rule : Alternative) (t : Tree) → IsAmong t items → IsAmong rule (item_alternatives t)
    → IsAmong rule (alternatives items)
item_rule [] rule t a r = absurd a
item_rule (u ∷ us) rule t (inl e) r =
    IsAmong-append_left rule (item_alternatives u) (alternatives us) (subst (λ (v : Tree). IsAmong rule (item_alternatives v)) e r)
item_rule (u ∷ us) rule t (inr a) r = IsAmong-append_right rule (item_alternatives u) (alternatives us) (item_rule us rule t a r)

-- a rule of an item has its head
pub rule_head : (t : Tree) (rule : Alternative) → IsAmong rule (item_alternatives t) → relation_of rule.head ≡ relation_of (item_head t)
rule_head t rule a = ap relation_of (same_head (item_head t) _ rule a)

module _ (own below : List Relation) (found written : List Tree)
    (stepped_said : (t : Tree) → item_alternatives (step_item own t) ≡ map (stepped own) (item_alternatives t))
    (based_said : (t : Tree) → item_alternatives (based_item t) ≡ map based (item_alternatives t))
  where
    abbrev kept : List Tree
    kept = filter (heads_one below) written

    abbrev owned : List Tree
    owned = map based_item (filter (heads_one own) written)

    abbrev turned : List Tree
    turned = map (step_item own) (filter (heads_one own) found)

    abbrev made : List Tree
    made = step_game own below found written

    heads_in : (ps : List Relation) (t : Tree) (rule : Alternative) → IsAmong rule (item_alternatives t)
        → is_among (relation_of rule.head) ps ≡ true → heads_one ps t ≡ true
    heads_in ps t rule a h = ap (λ (p : Relation). is_among p ps) (sym (rule_head t rule a)) ∙ h

    heads_out : (ps : List Relation) (t : Tree) (rule : Alternative) → IsAmong rule (item_alternatives t)
        → heads_one ps t ≡ true → is_among (relation_of rule.head) ps ≡ true
    heads_out ps t rule a h = ap (λ (p : Relation). is_among p ps) (rule_head t rule a) ∙ h

    taken : (rule : Alternative) → IsAmong rule (alternatives written) → is_among (relation_of rule.head) below ≡ true
        → IsAmong rule (alternatives made)
    taken rule a h =
        let i = rule_item written rule a in
        item_rule made rule i.0
        (IsAmong-append_left i.0 kept (owned ++ turned) (among_filter_in (heads_one below) i.0 written i.1 (heads_in below i.0 rule i.2 h)))
        i.2

    bases : (rule : Alternative) → IsAmong rule (alternatives written) → is_among (relation_of rule.head) own ≡ true
        → IsAmong (based rule) (alternatives made)
    bases rule a h =
        let i = rule_item written rule a in
        let there = among_map_in based_item i.0 (filter (heads_one own) written)
        (among_filter_in (heads_one own) i.0 written i.1 (heads_in own i.0 rule i.2 h)) in
        item_rule made (based rule) (based_item i.0)
        (IsAmong-append_right (based_item i.0) kept (owned ++ turned) (IsAmong-append_left (based_item i.0) owned turned there))
        (subst (λ (rs : List Alternative). IsAmong (based rule) rs) (sym (based_said i.0)) (among_map_in based rule (item_alternatives i.0) i.2))

    nexts : (rule : Alternative) → IsAmong rule (alternatives found) → is_among (relation_of rule.head) own ≡ true
        → IsAmong (stepped own rule) (alternatives made)
    nexts rule a h =
        let i = rule_item found rule a in
        let there = among_map_in (step_item own) i.0 (filter (heads_one own) found)
        (among_filter_in (heads_one own) i.0 found i.1 (heads_in own i.0 rule i.2 h)) in
        item_rule made (stepped own rule) (step_item own i.0)
        (IsAmong-append_right (step_item own i.0) kept (owned ++ turned) (IsAmong-append_right (step_item own i.0) owned turned there))
        (subst (λ (rs : List Alternative). IsAmong (stepped own rule) rs) (sym (stepped_said i.0))
        (among_map_in (stepped own) rule (item_alternatives i.0) i.2))

    abbrev Only : Alternative → Type 0
    Only rule =
        (IsAmong rule (alternatives written) × (is_among (relation_of rule.head) below ≡ true))
        ⊎ (((r : Alternative) × IsAmong r (alternatives written) × (is_among (relation_of r.head) own ≡ true) × (rule ≡ based r))
        ⊎ ((r : Alternative) × IsAmong r (alternatives found) × (is_among (relation_of r.head) own ≡ true) × (rule ≡ stepped own r)))

    only : (rule : Alternative) → IsAmong rule (alternatives made) → Only rule
    only rule a = let i = rule_item made rule a in by_part i.0 i.2 (IsAmong-append i.0 kept (owned ++ turned) i.1)
      where
        of_kept : (t : Tree) → IsAmong rule (item_alternatives t) → IsAmong t kept → Only rule
        of_kept t r k =
            let f = among_filter (heads_one below) t written k in
            inl (item_rule written rule t f.0 r, heads_out below t rule r f.1)

        of_owned : (t : Tree) → IsAmong rule (item_alternatives t) → IsAmong t owned → Only rule
        of_owned t r k =
            let m = among_map_out based_item t (filter (heads_one own) written) k in
            let f = among_filter (heads_one own) m.0 written m.1 in
            let q = among_map_out based rule (item_alternatives m.0)
            (subst (λ (rs : List Alternative). IsAmong rule rs) (ap item_alternatives m.2 ∙ based_said m.0) r) in
            inr (inl (q.0, item_rule written q.0 m.0 f.0 q.1, heads_out own m.0 q.0 q.1 f.1, q.2))

        of_turned : (t : Tree) → IsAmong rule (item_alternatives t) → IsAmong t turned → Only rule
        of_turned t r k =
            let m = among_map_out (step_item own) t (filter (heads_one own) found) k in
            let f = among_filter (heads_one own) m.0 found m.1 in
            let q = among_map_out (stepped own) rule (item_alternatives m.0)
            (subst (λ (rs : List Alternative). IsAmong rule rs) (ap item_alternatives m.2 ∙ stepped_said m.0) r) in
            inr (inr (q.0, item_rule found q.0 m.0 f.0 q.1, heads_out own m.0 q.0 q.1 f.1, q.2))

        by_half : (t : Tree) → IsAmong rule (item_alternatives t) → IsAmong t owned ⊎ IsAmong t turned → Only rule
        by_half t r (inl k) = of_owned t r k
        by_half t r (inr k) = of_turned t r k

        by_part : (t : Tree) → IsAmong rule (item_alternatives t) → IsAmong t kept ⊎ IsAmong t (owned ++ turned) → Only rule
        by_part t r (inl k) = of_kept t r k
        by_part t r (inr k) = by_half t r (IsAmong-append t owned turned k)

    pub rules_of_game : IsStepGame own below (alternatives found) (alternatives written) (alternatives made)
    rules_of_game = record { taken = taken; bases = bases; nexts = nexts; only = only }
