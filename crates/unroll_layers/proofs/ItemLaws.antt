-- Items of layers and those that were found, as rules.
use Rattle.std.proofs.Common.{ℕ, suc, Bool, true, false, cond, ◌&&◌, ◌≡◌, ◌⊎◌, inl, inr, List, [], ◌∷◌, map, refl, sym, ap, ◌∙◌}
use Rattle.std.specs.Prelude.{slice_index_or}
use Rattle.std.specs.List.{list_all}
use Rattle.statement.specs.Tree.{Tree, tree_eq}
use Rattle.statement.specs.Clause.{Literal, positive, Alternative, Relation, relation_of, atom_eq}
use Rattle.statement.specs.Dependence.{IsAmong, is_among}
use Rattle.statement.specs.Items.{atom_in, item_head, item_alternatives}
use Rattle.kif.proofs.Facts.{both, tree_eq_yes}
use Rattle.rules_profile.proofs.Facts.{atom_eq_yes}
use Rattle.meaning.specs.Layers.{layered_literal, layered}
use Rattle.meaning.specs.Names.{word_in}
use Rattle.unroll_layers.specs.Kinds.{is_plain, is_single, is_own_atom, count_own, body_of}
use Rattle.unroll_layers.specs.Layering.{pairwise, pairwise_and_last, renamed, is_renamed, is_literal_of, is_item_of}
use Rattle.unroll_layers.proofs.Bodies.{literal_of, rule_of, one_rule, plain_single, plain_literal, none_own, stays}

-- literals that are others, each in a layer
along : (change : Literal → Literal) (test : Tree → Tree → Bool) (ts us : List Tree)
    → ((t u : Tree) → IsAmong t ts → is_single t ≡ true → test t u ≡ true → (is_single u ≡ true) × (literal_of u ≡ change (literal_of t)))
    → list_all is_single ts ≡ true → pairwise test ts us ≡ true
    → (list_all is_single us ≡ true) × (map literal_of us ≡ map change (map literal_of ts))
along change test [] [] one s h = (refl, refl)
along change test [] (u ∷ us) one s h = absurd (let bad : ⊥ = cc in bad)
along change test (t ∷ ts) [] one s h = absurd (let bad : ⊥ = cc in bad)
along change test (t ∷ ts) (u ∷ us) one s h =
    let k = both (is_single t) (list_all is_single ts) s in
    let b = both (test t u) (pairwise test ts us) h in
    let first = one t u (inl refl) k.0 b.0 in
    let rest = along change test ts us (λ v w a. one v w (inr a)) k.1 b.1 in (
      (λ i. first.0 i && rest.0 i) ∙ refl,
      (λ i. first.1 i ∷ rest.1 i),
    )

module _ (own : List Relation) (layers : List (List (List ℕ))) where
  abbrev is_own : Relation → Bool
  is_own p = is_among p own

  abbrev word : ℕ → Relation → List ℕ
  word = word_in own layers

  abbrev names : ℕ → List (List ℕ)
  names k = slice_index_or layers k []

  -- a literal in the layer behind so many
  one_literal : (k : ℕ) (t u : Tree) → is_single t ≡ true → is_literal_of own (names k) t u ≡ true
      → (is_single u ≡ true) × (literal_of u ≡ layered_literal is_own word (suc k) (literal_of t))
  one_literal k t u s h = go (is_own_atom own t) refl h
    where
      go : (b : Bool) → is_own_atom own t ≡ b → cond b (is_plain u && is_renamed own (names k) (atom_in t) u) (tree_eq t u) ≡ true
          → (is_single u ≡ true) × (literal_of u ≡ layered_literal is_own word (suc k) (literal_of t))
      go true e m =
          let p = both (is_plain u) (is_renamed own (names k) (atom_in t) u) m in
          let q = both (is_plain t) (is_among (relation_of (atom_in t)) own) e in
          let same : atom_in u ≡ renamed own (names k) (atom_in t) = atom_eq_yes (atom_in u) (renamed own (names k) (atom_in t)) p.1 in (
            plain_single u p.0,
            plain_literal u p.0 ∙ ap positive same
                ∙ ap (λ (b : Bool). positive (cond b (renamed own (names k) (atom_in t)) (atom_in t))) (sym q.1)
                ∙ ap (layered_literal is_own word (suc k)) (sym (plain_literal t q.0)),
          )
      go false e m =
          let same = tree_eq_yes t u m in (
            ap is_single (sym same) ∙ s,
            ap literal_of (sym same) ∙ sym (stays own word (suc k) t s e),
          )

  -- the same where no literal is an own atom: the literals stay
  same_literal : (ns : List (List ℕ)) (t u : Tree) → is_own_atom own t ≡ false → is_single t ≡ true → is_literal_of own ns t u ≡ true
      → (is_single u ≡ true) × (literal_of u ≡ layered_literal is_own word 0 (literal_of t))
  same_literal ns t u o s h =
      let m : tree_eq t u ≡ true =
      ap (λ (b : Bool). cond b (is_plain u && is_renamed own ns (atom_in t) u) (tree_eq t u)) (sym o) ∙ h in
      let same = tree_eq_yes t u m in (
        ap is_single (sym same) ∙ s,
        ap literal_of (sym same) ∙ sym (stays own word 0 t s o),
      )

  -- an item of the layer behind so many has one rule, which leads there
  pub step_rule : (k : ℕ) (t u : Tree) → list_all is_single (body_of t) ≡ true → is_item_of own (names (suc k)) (names k) t u ≡ true
      → item_alternatives u ≡ layered is_own word (suc k) (rule_of t) ∷ []
  step_rule k t u s h =
      let b = both (atom_eq (item_head u) (renamed own (names (suc k)) (item_head t))) (pairwise (is_literal_of own (names k)) (body_of t) (body_of u)) h in
      let head : item_head u ≡ renamed own (names (suc k)) (item_head t) = atom_eq_yes (item_head u) (renamed own (names (suc k)) (item_head t)) b.0 in
      let m = along (layered_literal is_own word (suc k)) (is_literal_of own (names k)) (body_of t) (body_of u) (λ v w a. one_literal k v w) s b.1 in
      one_rule u m.0 ∙ (λ i. let r : Alternative = record { head = head i; body = m.1 i } in r ∷ [])

  -- and so has an item of the first layer
  pub first_rule : (t u : Tree) → list_all is_single (body_of t) ≡ true → count_own own (body_of t) ≡ 0
      → is_item_of own (names 0) (names 0) t u ≡ true → item_alternatives u ≡ layered is_own word 0 (rule_of t) ∷ []
  first_rule t u s n h =
      let b = both (atom_eq (item_head u) (renamed own (names 0) (item_head t))) (pairwise (is_literal_of own (names 0)) (body_of t) (body_of u)) h in
      let head : item_head u ≡ renamed own (names 0) (item_head t) = atom_eq_yes (item_head u) (renamed own (names 0) (item_head t)) b.0 in
      let m = along (layered_literal is_own word 0) (is_literal_of own (names 0)) (body_of t) (body_of u)
      (λ v w a. same_literal (names 0) v w (none_own own v (body_of t) n a)) s b.1 in
      one_rule u m.0 ∙ (λ i. let r : Alternative = record { head = head i; body = m.1 i } in r ∷ [])

-- Each of one list has the one at its place in the other.

pub forth : (test : Tree → Tree → Bool) (ts us : List Tree) (t : Tree) → pairwise test ts us ≡ true → IsAmong t ts
    → (u : Tree) × IsAmong u us × (test t u ≡ true)
forth test [] us t h a = absurd a
forth test (v ∷ ts) [] t h a = absurd (let bad : ⊥ = cc in bad)
forth test (v ∷ ts) (w ∷ us) t h (inl e) = (w, inl refl, ap (λ (x : Tree). test x w) e ∙ (both (test v w) (pairwise test ts us) h).0)
forth test (v ∷ ts) (w ∷ us) t h (inr a) =
    let r = forth test ts us t (both (test v w) (pairwise test ts us) h).1 a in (r.0, inr r.1, r.2)

pub back : (test : Tree → Tree → Bool) (ts us : List Tree) (u : Tree) → pairwise test ts us ≡ true → IsAmong u us
    → (t : Tree) × IsAmong t ts × (test t u ≡ true)
back test ts [] u h a = absurd a
back test [] (w ∷ us) u h a = absurd (let bad : ⊥ = cc in bad)
back test (v ∷ ts) (w ∷ us) u h (inl e) = (v, inl refl, ap (λ (x : Tree). test v x) e ∙ (both (test v w) (pairwise test ts us) h).0)
back test (v ∷ ts) (w ∷ us) u h (inr a) =
    let r = back test ts us u (both (test v w) (pairwise test ts us) h).1 a in (r.0, inr r.1, r.2)

-- and so it is where one more stands behind in the other list
pub forth_last : (test : Tree → Tree → Bool) (last : Tree → Bool) (ts us : List Tree) (t : Tree) → pairwise_and_last test last ts us ≡ true → IsAmong t ts
    → (u : Tree) × IsAmong u us × (test t u ≡ true)
forth_last test last [] us t h a = absurd a
forth_last test last (v ∷ ts) [] t h a = absurd (let bad : ⊥ = cc in bad)
forth_last test last (v ∷ ts) (w ∷ us) t h (inl e) =
    (w, inl refl, ap (λ (x : Tree). test x w) e ∙ (both (test v w) (pairwise_and_last test last ts us) h).0)
forth_last test last (v ∷ ts) (w ∷ us) t h (inr a) =
    let r = forth_last test last ts us t (both (test v w) (pairwise_and_last test last ts us) h).1 a in (r.0, inr r.1, r.2)

pub back_last : (test : Tree → Tree → Bool) (last : Tree → Bool) (ts us : List Tree) (u : Tree) → pairwise_and_last test last ts us ≡ true
    → IsAmong u us → ((t : Tree) × IsAmong t ts × (test t u ≡ true)) ⊎ (last u ≡ true)
back_last test last ts [] u h a = absurd a
back_last test last [] (w ∷ []) u h (inl e) = inr (ap last e ∙ h)
back_last test last [] (w ∷ []) u h (inr none) = absurd none
back_last test last [] (w ∷ x ∷ us) u h a = absurd (let bad : ⊥ = cc in bad)
back_last test last (v ∷ ts) (w ∷ us) u h (inl e) =
    inl (v, inl refl, ap (λ (x : Tree). test v x) e ∙ (both (test v w) (pairwise_and_last test last ts us) h).0)
back_last test last (v ∷ ts) (w ∷ us) u h (inr a) =
    further (back_last test last ts us u (both (test v w) (pairwise_and_last test last ts us) h).1 a)
  where
    further : ((t : Tree) × IsAmong t ts × (test t u ≡ true)) ⊎ (last u ≡ true) → ((t : Tree) × IsAmong t (v ∷ ts) × (test t u ≡ true)) ⊎ (last u ≡ true)
    further (inl r) = inl (r.0, inr r.1, r.2)
    further (inr l) = inr l
