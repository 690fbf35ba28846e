-- A head and a relation of its body lead to each other exactly where they are in one component.
use Rattle.std.proofs.Common.{ℕ, ◌≡◌, ◌-◌, ◌<◌, ◌==◌, true, List, length, get_or, sym, subst, arith, IsTrue, eq-eqb, eqb-true, Option, Some, None}
use Rattle.std.proofs.lemmas.List.Folds.{Any-from_list_any, list_any_at}
use Rattle.util_digraph.specs.declared.graph.Arrow.{Arrow}
use Rattle.rules.specs.declared.item_links.Links.{Links}
use Rattle.util_digraph.specs.Grouping.{AreComponents}
use Rattle.rules.specs.ItemLinks.{LinksWithin, IsFirstSuch, meets_component}
use Rattle.unroll_strata.specs.Strata.{IsCrossed}

module _ (arrows : List Arrow) (n : ℕ) (components : List ℕ) (links : List Links) (a : AreComponents arrows n components)
    (within : (k : ℕ) (l : Links) → k < length links → LinksWithin n (get_or links k l)) where
  meets_crossed : (k : ℕ) (l : Links) → k < length links → meets_component components (get_or links k l) ≡ true
      → IsCrossed arrows (get_or links k l)
  meets_crossed k l h t =
      let m : Links = get_or links k l in
      let x = Any-from_list_any (λ node. get_or components node 0 == get_or components m.head 0) m.body.items t in
      let w = within k l h in
      let b_in : x.1 < n = subst (λ (y : ℕ). y < n) x.3 (w.body x.0 x.1 x.2) in
      let both = (a.exact x.1 m.head b_in w.head).0 (eqb-true (get_or components x.1 0) (get_or components m.head 0) x.4) in
      record { relation = x.1; in_body = (x.0, x.2, x.3); forth = both.1; back = both.0 }

  crossed_meets : (k : ℕ) (l : Links) → k < length links → IsCrossed arrows (get_or links k l)
      → meets_component components (get_or links k l) ≡ true
  crossed_meets k l h r =
      let m : Links = get_or links k l in
      let c = r.in_body in
      let b : ℕ = r.relation in
      let w = within k l h in
      let b_in : b < n = subst (λ (x : ℕ). x < n) c.2 (w.body c.0 b c.1) in
      let same : get_or components b 0 ≡ get_or components m.head 0 = (a.exact b m.head b_in w.head).1 (r.back, r.forth) in
      list_any_at (λ node. get_or components node 0 == get_or components m.head 0) m.body.items c.0 b c.1
      (subst (λ (x : ℕ). (get_or components x 0 == get_or components m.head 0) ≡ true) (sym c.2)
      (eq-eqb (get_or components b 0) (get_or components m.head 0) same))

  pub first_is : (found : Option ℕ) → IsFirstSuch (λ link. IsTrue (meets_component components link)) links found
      → IsFirstSuch (IsCrossed arrows) links found
  first_is None f = λ k l h r. f k l h (crossed_meets k l h r)
  first_is (Some i) f = record {
    counted = f.counted;
    inside = f.inside;
    has = λ l. meets_crossed (i - 1) l (let a = f.counted in let b = f.inside in omega (arith, a, b)) (f.has l);
    before = λ k l low h r. f.before k l low h (crossed_meets k l (let b = f.inside in omega (arith, h, b)) r);
  }
