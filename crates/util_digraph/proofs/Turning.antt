-- Arrows turned round, and the places of marks.
use Rattle.std.proofs.Common.{ℕ, zero, suc, ◌≡◌, ◌<◌, ◌⊎◌, inl, inr, Bool, true, false, List, [], ◌∷◌, map, length, get_or, refl, sym, ◌∙◌, ap, subst}
use Rattle.std.proofs.Common.{arith}
use Rattle.std.specs.Prelude.{Contains}
use Rattle.std.proofs.lemmas.List.{length-map}
use Rattle.std.proofs.lemmas.Grind.{get_or_default_zero}
use Rattle.util_digraph.specs.declared.graph.Arrow.{Arrow}
use Rattle.util_digraph.specs.Graph.{arrow_at, Leads, ReachesIn, Reaches, IsReachedFrom, ReachedMarked, Stands, turned_arrow, IsLeading, AreLeading, ArePlaces}
use Rattle.util_digraph.proofs.Search.{reaches_then}

arrow_turned : (arrows : List Arrow) (k : ℕ) → arrow_at (map turned_arrow arrows) k ≡ turned_arrow (arrow_at arrows k)
arrow_turned [] k = refl
arrow_turned (a ∷ as') zero = refl
arrow_turned (a ∷ as') (suc k) = arrow_turned as' k

leads_turned : (arrows : List Arrow) (p q : ℕ) → Leads arrows p q → Leads (map turned_arrow arrows) q p
leads_turned arrows p q l = record {
  place = l.place;
  inside = (let e = length-map arrows turned_arrow in let h = l.inside in omega (arith, e, h));
  from = ap (λ (a : Arrow). a.from) (arrow_turned arrows l.place) ∙ l.to;
  to = ap (λ (a : Arrow). a.to) (arrow_turned arrows l.place) ∙ l.from;
}

leads_back_turned : (arrows : List Arrow) (p q : ℕ) → Leads (map turned_arrow arrows) p q → Leads arrows q p
leads_back_turned arrows p q l = record {
  place = l.place;
  inside = (let e = length-map arrows turned_arrow in let h = l.inside in omega (arith, e, h));
  from = ap (λ (a : Arrow). a.to) (sym (arrow_turned arrows l.place)) ∙ l.to;
  to = ap (λ (a : Arrow). a.from) (sym (arrow_turned arrows l.place)) ∙ l.from;
}

reaches_turned : (arrows : List Arrow) (m p q : ℕ) → ReachesIn arrows m p q → Reaches (map turned_arrow arrows) q p
reaches_turned arrows zero p q l = (zero, leads_turned arrows p q l)
reaches_turned arrows (suc m) p q c =
    let r = reaches_turned arrows m c.0 q c.2 in reaches_then (map turned_arrow arrows) r.0 q c.0 p r.1 (leads_turned arrows p c.0 c.1)

reaches_back : (arrows : List Arrow) (m p q : ℕ) → ReachesIn (map turned_arrow arrows) m p q → Reaches arrows q p
reaches_back arrows zero p q l = (zero, leads_back_turned arrows p q l)
reaches_back arrows (suc m) p q c =
    let r = reaches_back arrows m c.0 q c.2 in reaches_then arrows r.0 q c.0 p r.1 (leads_back_turned arrows p c.0 c.1)

pub contains_stands : (xs : List ℕ) (p : ℕ) → Contains xs p → Stands xs p
contains_stands xs p c = (c.0, c.1, sym (get_or_default_zero xs c.0 p c.1) ∙ c.2)

pub stands_contains : (xs : List ℕ) (p : ℕ) → Stands xs p → Contains xs p
stands_contains xs p s = (s.0, s.1, get_or_default_zero xs s.0 p s.1 ∙ s.2)

pub marked_inside : (marks : List Bool) (p : ℕ) → get_or marks p false ≡ true → p < length marks
marked_inside [] p h = absurd cc
marked_inside (b ∷ bs) zero h = omega arith
marked_inside (b ∷ bs) (suc p) h = let i = marked_inside bs p h in omega (arith, i)

pub places_inside : (marks : List Bool) (places : List ℕ) → ArePlaces marks places → (i : ℕ) → i < length places → get_or places i 0 < length marks
places_inside marks places a i h = marked_inside marks (get_or places i 0) (a.sound i h)

pub leading : (arrows turned : List Arrow) (n m : ℕ) (goals marks : List Bool) (places : List ℕ) → turned ≡ map turned_arrow arrows → n ≡ m
    → length goals ≡ n → ArePlaces goals places
    → ReachedMarked turned places m marks → AreLeading arrows goals marks
leading arrows turned n m goals marks places e f len a r = record {
  length_is = r.length_is ∙ sym f ∙ sym len;
  exact = λ p h. (
    (λ mark. out p ((r.exact p (omega (arith, h, len, f))).0 mark)),
    (λ l. (r.exact p (omega (arith, h, len, f))).1 (into p l l.leads)),
  );
}
  where
    out : (p : ℕ) → IsReachedFrom turned places p → IsLeading arrows goals p
    out p d = record { goal = d.start; is_goal = goal_at (contains_stands places d.start d.is_start); leads = leads d.leads }
      where
        goal_at : Stands places d.start → get_or goals d.start false ≡ true
        goal_at s = ap (λ (x : ℕ). get_or goals x false) (sym s.2) ∙ a.sound s.0 s.1

        leads : (d.start ≡ p) ⊎ Reaches turned d.start p → (p ≡ d.start) ⊎ Reaches arrows p d.start
        leads (inl s) = inl (sym s)
        leads (inr c) = inr (reaches_back arrows c.0 d.start p (subst (λ (x : List Arrow). ReachesIn x c.0 d.start p) e c.1))

    into : (p : ℕ) (l : IsLeading arrows goals p) → (p ≡ l.goal) ⊎ Reaches arrows p l.goal → IsReachedFrom turned places p
    into p l (inl s) = record { start = l.goal; is_start = stands_contains places l.goal (a.complete l.goal l.is_goal); leads = inl (sym s) }
    into p l (inr c) = record {
      start = l.goal;
      is_start = stands_contains places l.goal (a.complete l.goal l.is_goal);
      leads = inr (subst (λ (x : List Arrow). Reaches x l.goal p) (sym e) (reaches_turned arrows c.0 p l.goal c.1));
    }

-- the places of the first m marks
pub record Placing (marks : List Bool) (m : ℕ) (places : List ℕ) : Type 0 where
  pub sound : (i : ℕ) → i < length places → get_or marks (get_or places i 0) false ≡ true
  pub complete : (p : ℕ) → p < m → get_or marks p false ≡ true → Stands places p
