-- Where no literal of a body is tested, each row is an instance.
use Rattle.std.proofs.Common.{ℕ, suc, ◌≡◌, ◌+◌, ◌<◌, Bool, true, false, not, cond, ◌&&◌, List, [], ◌∷◌, length, map, refl, ◌∙◌, ap, subst, arith, Option}
use Rattle.std.specs.List.{list_all}
use Rattle.statement.specs.Clause.{Atom, Alternative, Literal, positive, negative, relation_of}
use Rattle.statement.specs.Dependence.{is_distinct, is_fixed}
use Rattle.rules_clauses.specs.Marks.{literal_in, IsInside}
use Rattle.rules_clauses.specs.Store.{Data, relation_at}
use Rattle.rules_clauses.specs.Store as store
use Rattle.rules.specs.Drafts.{Numbered}
use Rattle.ground_join.specs.declared.joining.Column.{Column}
use Rattle.ground_join.specs.declared.joining.Level.{Level}
use Rattle.ground_join.specs.Joining.{joined}
use Rattle.ground_matching.specs.Plans.{CanBuildEach}
use Rattle.statement.specs.Listing.{is_atom_in, passes, all_pass, passing}
use Rattle.statement.specs.Substitution.{Map, atom_under, literal_under}
use Rattle.ground_rows.specs.Instances.{row_map, literal_by, instance_by, instances_by}
use Rattle.ground_rows.specs.Matchers.{passes_always}
use Rattle.ground_rows.proofs.Facts.{positive_passes, negative_passes}
use Rattle.ground_rows.proofs.Facts.{made_of, row_relation}

module _ (rules : List Alternative) (d : Data) (from : ℕ) (keys : List (List ℕ)) (places : List (Option ℕ)) (atoms : List Atom) where
  pub one_passes : (values : List ℕ) (n : ℕ) → IsInside from d (literal_in d n).atom → passes_always rules d n ≡ true
      → passes rules atoms (literal_by d from keys places values n) ≡ true
  one_passes values n inside e =
      subst (λ l. passes rules atoms l ≡ true) (made_of d from keys places values n (literal_in d n) refl)
      (go (literal_in d n).is_negated (is_distinct (relation_at d (literal_in d n).atom.relation))
      (is_fixed rules (relation_at d (literal_in d n).atom.relation)) refl refl e)
    where
      x : Atom
      x = atom_under (row_map d keys places values) (store.stated_atom d from (literal_in d n).atom)

      same : relation_of x ≡ relation_at d (literal_in d n).atom.relation
      same = row_relation d from (row_map d keys places values) (literal_in d n).atom inside

      go : (a b c : Bool) → is_distinct (relation_at d (literal_in d n).atom.relation) ≡ b
          → is_fixed rules (relation_at d (literal_in d n).atom.relation) ≡ c
          → (not b && not (a && c)) ≡ true → passes rules atoms (cond a (negative x) (positive x)) ≡ true
      go a true c f g t = absurd cc
      go false false c f g t = positive_passes rules atoms x (ap is_distinct same ∙ f)
      go true false true f g t = absurd cc
      go true false false f g t =
          negative_passes rules atoms x (ap is_distinct same ∙ f)
          ∙ ap (λ (b : Bool). not (b && is_atom_in x atoms)) (ap (λ p. is_fixed rules p) same ∙ g)

  each_passes : (values : List ℕ) (ns : List ℕ) → CanBuildEach d from places ns → list_all (passes_always rules d) ns ≡ true
      → all_pass rules atoms (map (literal_by d from keys places values) ns) ≡ true
  each_passes values [] each e = refl
  each_passes values (n ∷ ns) each e =
      go (passes_always rules d n) refl e (λ f. one_passes values n each.0.1.inside f) (λ f. each_passes values ns each.1 f)
    where
      go : (b : Bool) → passes_always rules d n ≡ b → (b && list_all (passes_always rules d) ns) ≡ true
          → (passes_always rules d n ≡ true → passes rules atoms (literal_by d from keys places values n) ≡ true)
          → (list_all (passes_always rules d) ns ≡ true → all_pass rules atoms (map (literal_by d from keys places values) ns) ≡ true)
          → all_pass rules atoms (map (literal_by d from keys places values) (n ∷ ns)) ≡ true
      go true f t one rest =
          ap (λ (b : Bool). b && all_pass rules atoms (map (literal_by d from keys places values) ns)) (one f) ∙ rest t
      go false f t one rest = absurd cc

body_maps : (d : Data) (from : ℕ) (m : Map) (ns : List ℕ)
    → map (literal_under m) (map (store.stated_literal d from) ns) ≡ map (λ n. literal_under m (store.stated_literal d from n)) ns
body_maps d from m [] = refl
body_maps d from m (n ∷ ns) = ap (λ (ls : List Literal). literal_under m (store.stated_literal d from n) ∷ ls) (body_maps d from m ns)

module _ (rules : List Alternative) (d : Data) (place : ℕ) (n : Numbered) (keys : List (List ℕ)) (places : List (Option ℕ)) (atoms : List Atom)
    (each : CanBuildEach d n.variables.from places n.body) (e : list_all (passes_always rules d) n.body ≡ true) where
  instance_passes : (values : List ℕ) → all_pass rules atoms (instance_by d place n keys places values).body ≡ true
  instance_passes values =
      ap (λ (ls : List Literal). all_pass rules atoms ls) (body_maps d n.variables.from (row_map d keys places values) n.body)
      ∙ each_passes rules d n.variables.from keys places atoms values n.body each e

  -- each row is an instance
  many_passing : (rows : List (List ℕ)) → length (passing rules atoms (instances_by d place n keys places rows)) ≡ length rows
  many_passing [] = refl
  many_passing (vs ∷ rows) =
      let i = instance_by d place n keys places vs in
      let rest = passing rules atoms (instances_by d place n keys places rows) in
      ap (λ (b : Bool). length (cond b (i ∷ rest) rest)) (instance_passes vs) ∙ ap (λ (k : ℕ). suc k) (many_passing rows)

  -- so more rows than a limit are more instances
  pub rows_over : (most before : ℕ) (rows : List (List ℕ)) → most < length rows
      → most < before + length (passing rules atoms (instances_by d place n keys places rows))
  rows_over most before rows more = let same = many_passing rows in omega (arith, more, same)

pub as_many_joined : (most : ℕ) (columns cs : List Column) (cells xs : List ℕ) (levels ls : List Level) → cs ≡ columns → xs ≡ cells → ls ≡ levels
    → most < length (joined cs xs ls) → most < length (joined columns cells levels)
as_many_joined most columns cs cells xs levels ls e f g h =
    subst (λ (us : List Column). most < length (joined us cells levels)) e
    (subst (λ (us : List ℕ). most < length (joined cs us levels)) f
    (subst (λ (us : List Level). most < length (joined cs xs us)) g h))
