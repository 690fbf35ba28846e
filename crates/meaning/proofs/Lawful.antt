-- Heads of kept instances are made of lawful names, and so is what holds in the empty context.
use Rattle.std.proofs.Common.{ℕ, suc, Bool, true, false, not, cond, ◌≡◌, ◌⊎◌, inl, inr, List, [], ◌∷◌, length, refl, sym, ap, subst, ◌∙◌}
use Rattle.statement.specs.Tree.{Tree, name, list, Trees, no_trees, tree}
use Rattle.statement.specs.Lexical.{AreNameBytes, IsName, is_lower_name_byte, HasNames, HaveNames}
use Rattle.kif.proofs.Facts.{both, true_and}
use Rattle.statement.specs.Words.{w_role, w_base, w_input}
use Rattle.statement.specs.Clause.{is_variable, Atom, Literal, positive, negative, Alternative, Relation, relation_of, atom_of, tree_of}
use Rattle.statement.specs.Items.{are_name_bytes, is_name, is_constant, begins_compound, is_term, are_terms}
use Rattle.statement.specs.Dependence.{IsAmong, is_distinct, DependsDirectly, IsFixed}
use Rattle.statement.specs.Safety.{variables, variables_in, is_binding}
use Rattle.rules_profile.proofs.Facts.{not_true, IsAmong-append, IsAmong-append_left, IsAmong-append_right, IsHead, along_dependence}
use Rattle.statement.specs.Substitution.{Map, is_ground, are_ground, substitute, substitute_all, atom_under, IsLawful, IsLawfulTerm}
use Rattle.statement.specs.Meaning.{Source, now, does, distinct, ordinary, source_of, atom1, atom2, HoldsAlways, IsRole, IsBase, IsInput, IsDerived, StateOfTerms, Joint, Holds, IsWithinBase, IsWithinInput}
use Rattle.meaning.specs.Kept.{Keeps, HeadsKept, PossibleIf, IsPossible}
use Rattle.meaning.specs.Listed.{IsWellFormed}
use Rattle.meaning.proofs.Derivations.{relation-under, derived_direct, derived_heads}
use Rattle.meaning.proofs.KeptLaw.{IsSorted, sorted_at, kept_by_a_rule, holds_heads}
use Rattle.meaning.proofs.ListedLaw.{constant_stays, ground_all_under, safe_head}
use Rattle.meaning.proofs.Possible.{now_is, does_is, always_kept, fixed_below, keeps_possible}

-- A term under a map to terms is a term, and then what it has for each variable is one.

compound_term : (m : Map) (ts : Trees) → begins_compound ts ≡ true → begins_compound (substitute_all m ts) ≡ true
compound_term m no_trees h = absurd cc
compound_term m (tree (list us) ts) h = absurd cc
compound_term m (tree (name c) no_trees) h = absurd cc
compound_term m (tree (name c) (tree t ts)) h =
    let e = constant_stays m c h in
    subst (λ (x : Tree). begins_compound (tree x (tree (substitute m t) (substitute_all m ts))) ≡ true) (sym e) h

mutual
  term_under : (m : Map) (t : Tree) → is_term t ≡ true → ((v : List ℕ) → IsAmong v (variables t) → is_term (m v) ≡ true)
      → is_term (substitute m t) ≡ true
  term_under m (name n) h k = go (is_variable n) k
    where
      go : (b : Bool) → ((v : List ℕ) → IsAmong v (cond b (n ∷ []) []) → is_term (m v) ≡ true) → is_term (cond b (m n) (name n)) ≡ true
      go true f = f n (inl refl)
      go false f = h
  term_under m (list ts) h k =
      let b = both (begins_compound ts) (are_terms ts) h in
      true_and _ _ (compound_term m ts b.0) (terms_under m ts b.1 k)

  terms_under : (m : Map) (ts : Trees) → are_terms ts ≡ true → ((v : List ℕ) → IsAmong v (variables_in ts) → is_term (m v) ≡ true)
      → are_terms (substitute_all m ts) ≡ true
  terms_under m no_trees h k = refl
  terms_under m (tree t ts) h k =
      let b = both (is_term t) (are_terms ts) h in
      true_and _ _ (term_under m t b.0 (λ v a. k v (IsAmong-append_left v (variables t) (variables_in ts) a)))
      (terms_under m ts b.1 (λ v a. k v (IsAmong-append_right v (variables t) (variables_in ts) a)))

mutual
  part_term : (m : Map) (t : Tree) (v : List ℕ) → IsAmong v (variables t) → is_term (substitute m t) ≡ true → is_term (m v) ≡ true
  part_term m (name n) v a h = go (is_variable n) a h
    where
      go : (b : Bool) → IsAmong v (cond b (n ∷ []) []) → is_term (cond b (m n) (name n)) ≡ true → is_term (m v) ≡ true
      go true (inl e) k = subst (λ (w : List ℕ). is_term (m w) ≡ true) (sym e) k
      go true (inr z) k = absurd z
      go false z k = absurd z
  part_term m (list ts) v a h = part_terms m ts v a ((both (begins_compound (substitute_all m ts)) (are_terms (substitute_all m ts)) h).1)

  part_terms : (m : Map) (ts : Trees) (v : List ℕ) → IsAmong v (variables_in ts) → are_terms (substitute_all m ts) ≡ true → is_term (m v) ≡ true
  part_terms m no_trees v a h = absurd a
  part_terms m (tree t ts) v a h =
      let b = both (is_term (substitute m t)) (are_terms (substitute_all m ts)) h in
      pick (IsAmong-append v (variables t) (variables_in ts) a) (λ k. part_term m t v k b.0) (λ k. part_terms m ts v k b.1)
    where
      pick : IsAmong v (variables t) ⊎ IsAmong v (variables_in ts) → (IsAmong v (variables t) → is_term (m v) ≡ true)
          → (IsAmong v (variables_in ts) → is_term (m v) ≡ true) → is_term (m v) ≡ true
      pick (inl k) f g = f k
      pick (inr k) f g = g k

module _ (rules : List Alternative) (w : IsWellFormed rules) where
  abbrev HasTerms : Relation → Type 0
  HasTerms p = (x : Atom) → relation_of x ≡ p → HeadsKept rules x → are_terms x.terms ≡ true

  -- a head is made of terms where the possible atoms below it are
  terms_above : (p : Relation) → ((y : Atom) → DependsDirectly rules p (relation_of y) → IsPossible rules y → are_terms y.terms ≡ true) → HasTerms p
  terms_above p below x e h = go ((kept_by_a_rule rules w.acyclic x).0 h)
    where
      bound : (d : IsDerived rules (Keeps rules (HeadsKept rules)) x) (v : List ℕ) (l : Literal) → IsAmong l d.rule.body → is_binding l ≡ true
          → IsAmong v (variables_in (atom_of l).terms) → is_term (d.map v) ≡ true
      bound d v (negative a) b c k = absurd cc
      bound d v (positive a) b c k =
          let other : is_distinct (relation_of (atom_under d.map a)) ≡ false = ap is_distinct (relation-under d.map a) ∙ not_true _ c in
          let direct = derived_direct rules (Keeps rules (HeadsKept rules)) x d (positive a) b other in
          let possible = keeps_possible rules w.acyclic (atom_under d.map a) other (d.fits (positive a) b) in
          part_terms d.map a.terms v k
          (below (atom_under d.map a) (subst (λ (q : Relation). DependsDirectly rules q (relation_of (atom_under d.map a))) e direct) possible)

      go : IsDerived rules (Keeps rules (HeadsKept rules)) x → are_terms x.terms ≡ true
      go d =
          subst (λ (y : Atom). are_terms y.terms ≡ true) d.heads
          (terms_under d.map d.rule.head.terms (w.terms d.rule d.is_rule)
          (λ v a. let b = safe_head d.rule (w.safe d.rule d.is_rule) v a in bound d v b.0 b.1 b.2 b.3))

  headless : (p : Relation) → (IsHead rules p → ⊥) → HasTerms p
  headless p none x e h = absurd (none (subst (λ (q : Relation). IsHead rules q) e
      (derived_heads rules _ x ((kept_by_a_rule rules w.acyclic x).0 h))))

  abbrev HasTermsIfFixed : ℕ → Relation → Type 0
  HasTermsIfFixed k p = IsFixed rules p → HasTerms p

  fixed_terms : (p : Relation) → HasTermsIfFixed (length rules) p
  fixed_terms = along_dependence rules w.acyclic HasTermsIfFixed (λ p none fixed. headless p none) step
    where
      step : (k : ℕ) (p : Relation) → ((q : Relation) → DependsDirectly rules p q → HasTermsIfFixed k q) → HasTermsIfFixed (suc k) p
      step k p below fixed = terms_above p atoms
        where
          atoms : (y : Atom) → DependsDirectly rules p (relation_of y) → IsPossible rules y → are_terms y.terms ≡ true
          atoms y direct possible = pick (source_of y) refl (sorted_at y.word y.terms) possible
            where
              also : IsFixed rules (relation_of y)
              also = fixed_below rules w.acyclic p (relation_of y) fixed direct

              pick : (s : Source) → source_of y ≡ s → IsSorted s (relation_of y) → PossibleIf rules (HeadsKept rules y) s → are_terms y.terms ≡ true
              pick s f (inl z) h = absurd (subst (λ (u : Source). PossibleIf rules (HeadsKept rules y) u) z.2 h)
              pick s f (inr (a, inl plain)) h = below (relation_of y) direct also y refl
                  (subst (λ (u : Source). PossibleIf rules (HeadsKept rules y) u) plain h)
              pick s f (inr (a, inr moves)) h = let still = also.itself in absurd cc

  always_terms : (x : Atom) → IsFixed rules (relation_of x) → HoldsAlways rules x → are_terms x.terms ≡ true
  always_terms x fixed h = fixed_terms (relation_of x) fixed x refl (always_kept rules w.acyclic x h)

  abbrev HasTermsAt : ℕ → Relation → Type 0
  HasTermsAt k p = HasTerms p

  all_terms : (p : Relation) → HasTermsAt (length rules) p
  all_terms = along_dependence rules w.acyclic HasTermsAt headless step
    where
      step : (k : ℕ) (p : Relation) → ((q : Relation) → DependsDirectly rules p q → HasTermsAt k q) → HasTermsAt (suc k) p
      step k p below = terms_above p atoms
        where
          atoms : (y : Atom) → DependsDirectly rules p (relation_of y) → IsPossible rules y → are_terms y.terms ≡ true
          atoms y direct possible = pick (source_of y) refl possible
            where
              pick : (s : Source) → source_of y ≡ s → PossibleIf rules (HeadsKept rules y) s → are_terms y.terms ≡ true
              pick (now t) f h = subst (λ (z : Atom). are_terms z.terms ≡ true) (sym (now_is y t f)) (always_terms (atom1 w_base t) w.base h)
              pick (does r m) f h = subst (λ (z : Atom). are_terms z.terms ≡ true) (sym (does_is y r m f))
                  (always_terms (atom2 w_input r m) w.input h.1)
              pick (distinct s t) f h = absurd h
              pick ordinary f h = below (relation_of y) direct y refl h

  -- heads of kept instances are lawful
  pub heads_lawful : (x : Atom) → HeadsKept rules x → IsLawful x
  heads_lawful x h =
      let d = (kept_by_a_rule rules w.acyclic x).0 h in
      record {
        word = subst (λ (y : Atom). is_constant y.word ≡ true) d.heads (w.words d.rule d.is_rule);
        terms = all_terms (relation_of x) x refl h;
        no_variable = subst (λ (y : Atom). are_ground y.terms ≡ true) d.heads
            (ground_all_under d.map d.maps_to_ground d.rule.head.terms (w.terms d.rule d.is_rule));
      }

  pub holding_lawful : (S : StateOfTerms) (J : Joint) → IsWithinBase rules S → IsWithinInput rules J → (x : Atom) → Holds rules S J x → IsLawful x
  holding_lawful S J base input x h = heads_lawful x (holds_heads rules w.acyclic S J base input (relation_of x) x refl h)

  pub always_lawful : (x : Atom) → HoldsAlways rules x → IsLawful x
  always_lawful x h = heads_lawful x (always_kept rules w.acyclic x h)

  first_lawful : (t : Tree) (ts : Trees) → are_terms (tree t ts) ≡ true → are_ground (tree t ts) ≡ true → IsLawfulTerm t
  first_lawful t ts h k = ((both (is_term t) (are_terms ts) h).0, (both (is_ground t) (are_ground ts) k).0)

  pub role_lawful : (r : Tree) → IsRole rules r → IsLawfulTerm r
  role_lawful r h = let l = always_lawful (atom1 w_role r) h in first_lawful r no_trees l.terms l.no_variable

  pub base_lawful : (p : Tree) → IsBase rules p → IsLawfulTerm p
  base_lawful p h = let l = always_lawful (atom1 w_base p) h in first_lawful p no_trees l.terms l.no_variable

  pub input_lawful : (r m : Tree) → IsInput rules r m → IsLawfulTerm m
  input_lawful r m h =
      let l = always_lawful (atom2 w_input r m) h.1 in
      first_lawful m no_trees (both (is_term r) (are_terms (tree m no_trees)) l.terms).1
      (both (is_ground r) (are_ground (tree m no_trees)) l.no_variable).1

-- Lawful names are those that texts have.

bytes_named : (bs : List ℕ) → are_name_bytes bs ≡ true → AreNameBytes bs
bytes_named [] h = tt
bytes_named (b ∷ bs) h = let k = both (is_lower_name_byte b) (are_name_bytes bs) h in (k.0, bytes_named bs k.1)

name_named : (n : List ℕ) → is_name n ≡ true → IsName n
name_named [] h = absurd cc
name_named (b ∷ bs) h = bytes_named (b ∷ bs) (both _ (are_name_bytes (b ∷ bs)) h).1

mutual
  pub term_named : (t : Tree) → is_term t ≡ true → HasNames t
  term_named (name n) h = name_named n h
  term_named (list ts) h = terms_named ts (both (begins_compound ts) (are_terms ts) h).1

  pub terms_named : (ts : Trees) → are_terms ts ≡ true → HaveNames ts
  terms_named no_trees h = tt
  terms_named (tree t ts) h = let k = both (is_term t) (are_terms ts) h in (term_named t k.0, terms_named ts k.1)

pub lawful_named : (x : Atom) → IsLawful x → HasNames (tree_of x)
lawful_named x l = go x.terms (name_named x.word (both (is_name x.word) (not (is_variable x.word)) l.word).0) (terms_named x.terms l.terms)
  where
    go : (ts : Trees) → IsName x.word → HaveNames ts → HasNames (tree_of (record { word = x.word; terms = ts }))
    go no_trees n h = n
    go (tree t ts) n h = (n, h)
