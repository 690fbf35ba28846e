-- Some seat knows each upper word as it is, also after a step.
use Rattle.std.proofs.Common.{◌≡◌, ◌≢◌, ℕ, zero, suc, ◌<◌, List, [], ◌∷◌, ◌++◌, length, set, get_or, sym, ap, ◌∙◌, subst, arith}
use Rattle.std.specs.Prelude.{Any}
use mathlib.Core.Logic.{dite}
use mathlib.Core.Option.{some, some-injective, some-ne-none}
use native.Mathlib.Decide.{ℕ_discrete}
use lib.ListN.{get_elem?}
use Rattle.atomic_table.proofs.Lists.{at_index, at_longer, set_here, set_else}
use Rattle.board.specs.Books.{seen}
use Rattle.board.specs.Lawful.{upper}
use Rattle.board.specs.declared.book.Book.{Book}

there : (ks : List Book) (j : ℕ) (u : Book) → get_elem? ks j ≡ some u → j < length ks
there [] j u e = absurd (some-ne-none u (sym e))
there (k ∷ ks) zero u e = omega arith
there (k ∷ ks) (suc j) u e = omega (arith, there ks j u e)

read_at : (ks : List Book) (j : ℕ) (u d : Book) → get_elem? ks j ≡ some u → get_or ks j d ≡ u
read_at [] j u d e = absurd (some-ne-none u (sym e))
read_at (k ∷ ks) zero u d e = some-injective k u e
read_at (k ∷ ks) (suc j) u d e = read_at ks j u d e

module _ (P : Book → Type 0) where
  pub any_there : (ks : List Book) (j : ℕ) (u : Book) → get_elem? ks j ≡ some u → P u → Any P ks
  any_there ks j u e p = (j, u, there ks j u e, read_at ks j u u e, p)

  pub any_at : (ks : List Book) (a : Any P ks) → get_elem? ks a.0 ≡ some a.1
  any_at ks a = at_index ks a.0 a.1 a.2 (sym a.3)

  pub any_here : (ks : List Book) (id : ℕ) (k w : Book) → get_elem? ks id ≡ some k → P w → Any P (set ks id w)
  any_here ks id k w at p = any_there (set ks id w) id w (set_here ks id w (there ks id k at)) p

  pub any_longer : (ks ls : List Book) → Any P ks → Any P (ks ++ ls)
  any_longer ks ls a = any_there (ks ++ ls) a.0 a.1 (at_longer ks ls a.0 a.1 (any_at ks a)) a.4

-- the seat with the book k knows the upper word of move i as it is
abbrev pub Knows : List ℕ → ℕ → Book → Type 0
Knows ws i k = (0 < k.shares) × (seen k i ≡ upper ws i)

-- a step that leaves the word as it was, and what its seat knew of it
pub known_on : (ws ws' : List ℕ) (ks : List Book) (id : ℕ) (k w : Book) (i : ℕ) → get_elem? ks id ≡ some k → upper ws' i ≡ upper ws i
    → (0 < k.shares → 0 < w.shares)
    → (seen k i ≡ upper ws i → seen w i ≡ upper ws i) → Any (Knows ws i) ks → Any (Knows ws' i) (set ks id w)
known_on ws ws' ks id k w i at same live mine a = dite (ℕ_discrete a.0 id)
    (λ e. let is : a.1 ≡ k = some-injective a.1 k (sym (any_at (Knows ws i) ks a) ∙ (ap (get_elem? ks) e ∙ at)) in
    let k_knows : Knows ws i k = subst (Knows ws i) is a.4 in
    any_here (Knows ws' i) ks id k w at (live k_knows.0, mine k_knows.1 ∙ sym same))
    (λ ne. any_there (Knows ws' i) (set ks id w) a.0 a.1 (set_else ks id a.0 w ne ∙ any_at (Knows ws i) ks a) (a.4.0, a.4.1 ∙ sym same))

-- two seats become one, which knows the word where either did
pub known_both : (ws : List ℕ) (ks : List Book) (id other : ℕ) (k l b z : Book) (i : ℕ) → other ≢ id → get_elem? ks id ≡ some k
    → get_elem? ks other ≡ some l
    → (0 < k.shares → 0 < b.shares) → (0 < l.shares → 0 < b.shares) → (seen k i ≡ upper ws i → seen b i ≡ upper ws i)
    → (seen l i ≡ upper ws i → seen b i ≡ upper ws i)
    → Any (Knows ws i) ks → Any (Knows ws i) (set (set ks id b) other z)
known_both ws ks id other k l b z i apart at from live live' mine its a =
    let final = set (set ks id b) other z in
    let here : get_elem? final id ≡ some b = set_else (set ks id b) other id z (λ e. apart (sym e)) ∙ set_here ks id b (there ks id k at) in
    let found = any_at (Knows ws i) ks a in
    dite (ℕ_discrete a.0 id)
    (λ e. let is : a.1 ≡ k = some-injective a.1 k (sym found ∙ (ap (get_elem? ks) e ∙ at)) in
    let k_knows : Knows ws i k = subst (Knows ws i) is a.4 in
    any_there (Knows ws i) final id b here (live k_knows.0, mine k_knows.1))
    (λ ne. dite (ℕ_discrete a.0 other)
    (λ e. let is : a.1 ≡ l = some-injective a.1 l (sym found ∙ (ap (get_elem? ks) e ∙ from)) in
    let l_knows : Knows ws i l = subst (Knows ws i) is a.4 in
    any_there (Knows ws i) final id b here (live' l_knows.0, its l_knows.1))
    (λ ne'. any_there (Knows ws i) final a.0 a.1 (set_else (set ks id b) other a.0 z ne' ∙ (set_else ks id a.0 b ne ∙ found)) a.4))
