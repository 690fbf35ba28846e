-- Rules of which some relations are stated in another way, and to which others are added, of which they say nothing: what holds by both.
use Rattle.std.proofs.Common.{ℕ, zero, suc, Bool, true, false, ◌≡◌, ◌⊎◌, ◌↔◌, inl, inr, List, length, refl, sym, ap, subst, ◌∙◌}
use Rattle.statement.specs.Tree.{Tree}
use Rattle.statement.specs.Words.{w_role, w_base, w_input, w_init, w_next, w_legal}
use Rattle.statement.specs.Clause.{Atom, Literal, positive, negative, Alternative, Relation, relation_of, atom_of}
use Rattle.statement.specs.Dependence.{IsAmong, is_distinct, DependsDirectly, DependsIn, Depends, IsAcyclic, IsFixed}
use Rattle.statement.specs.Substitution.{Map, atom_under, literal_under}
use Rattle.statement.specs.Meaning.{StateOfTerms, Joint, Source, now, does, distinct, ordinary, source_of, RightAs, IsRight, IsDerived, IsDerivedIn, Holds, HoldsAlways, nothing, nobody, atom1, atom2, IsRole, IsBase, IsInput, IsWithinBase, IsWithinInput}
use Rattle.rules_profile.proofs.Facts.{IsHead, along_dependence}
use Rattle.meaning.specs.Kept.{PossibleAs, UndecidedAs, Keeps, HeadsKept}
use Rattle.meaning.proofs.Facts.{relation-under, relation-literal_under, ordinary_not_distinct, derived_heads, kept_by_a_rule}
use Rattle.meaning.specs.Derivable.{IsRightOver, IsDerivable, HoldsWhole, IsStratified, IsStable}
use Rattle.meaning.specs.Possible.{HoldsWholeAlways, IsStated, MayBe, MayFail, MayFit, MayHold, IsWholeBase, IsWholeInput, PlaysAs, is_play}
use Rattle.meaning.specs.Extension.{IsAsked, IsUnspoken, IsRewriting, IsClosed, base_relation, input_relation}
use Rattle.meaning.proofs.Stated.{stated_or_not, along}
use Rattle.meaning.proofs.Strata.{only_stable, stable}
use Rattle.meaning.proofs.Heights.{derivable_by_a_rule, stable_by_a_rule}

module _ (rules out : List Alternative) (own : Relation → Bool) (re : IsRewriting rules out own) where
  abbrev pub IsSpoken : Relation → Type 0
  IsSpoken p = IsStated rules p ⊎ (IsAsked rules p ⊎ (is_play p ≡ true))

  spoken_asked : (rule : Alternative) → IsAmong rule rules → (l : Literal) → IsAmong l rule.body → (m : Map)
      → IsSpoken (relation_of (atom_of (literal_under m l)))
  spoken_asked rule is_rule l in_body m = inr (inl (rule, is_rule, (l, in_body, sym (relation-literal_under m l))))

  head_of : (rule : Alternative) (m : Map) (x : Atom) → atom_under m rule.head ≡ x
      → relation_of rule.head ≡ relation_of x
  head_of rule m x heads = sym (relation-under m rule.head) ∙ ap relation_of heads

  direct_out : (p q : Relation) → own p ≡ false → DependsDirectly rules p q → DependsDirectly out p q
  direct_out p q other d = record {
    rule = d.rule;
    literal = d.literal;
    is_rule = re.has d.rule d.is_rule (ap own d.heads ∙ other);
    heads = d.heads;
    in_body = d.in_body;
    names = d.names;
    not_distinct = d.not_distinct;
  }

  fixed_below : (p q : Relation) → IsFixed out p → DependsDirectly out p q → IsFixed out q
  fixed_below p q f d = record { itself = f.below q (zero, d); below = λ r chain. f.below r (suc chain.0, (q, d, chain.1)) }

  -- what a fixed relation asks in the rules is fixed
  fixed_step : (p q : Relation) → IsFixed out p → DependsDirectly rules p q → IsFixed out q
  fixed_step p q f d = go (own p) refl
    where
      go : (b : Bool) → own p ≡ b → IsFixed out q
      go true e = re.stated.still p q e f d
      go false e = fixed_below p q f (direct_out p q e d)

  fixed_chain : (n : ℕ) (p q : Relation) → IsFixed out p → DependsIn rules n p q → IsFixed out q
  fixed_chain zero p q f d = fixed_step p q f d
  fixed_chain (suc n) p q f d = fixed_chain n d.0 q (fixed_step p d.0 f d.1) d.2

  still_fixed : (p : Relation) → IsFixed out p → IsFixed rules p
  still_fixed p f = record { itself = f.itself; below = λ q d. (fixed_chain d.0 p q f d.1).itself }

  module _ (acyclic : IsAcyclic out) (law : (S : StateOfTerms) (J : Joint) (x : Atom) → Holds out S J x ↔ IsDerived out (IsRight S J (Holds out S J)) x) where
    module _ (S : StateOfTerms) (J : Joint) where
      -- what holds by all rules, of the relations that the first speak of
      abbrev H : Atom → Type 0
      H x = IsSpoken (relation_of x) × Holds out S J x

      -- a literal of a rule
      right_spoken : (l : Literal) → IsSpoken (relation_of (atom_of l)) → IsRight S J H l → IsRight S J (Holds out S J) l
      right_spoken (positive y) spoken h = along S J (H y) (Holds out S J y) (source_of y) (λ k. k.1) h
      right_spoken (negative y) spoken h = λ r. h (along S J (Holds out S J y) (H y) (source_of y) (λ k. (spoken, k)) r)

      -- what a rule derives from what holds holds
      holds_again : IsWithinBase out S → IsWithinInput out J → (x : Atom) → IsDerived rules (IsRight S J H) x → H x
      holds_again base inputs x d = (inl (d.rule, d.is_rule, same), go (own (relation_of d.rule.head)) refl)
        where
          same : relation_of d.rule.head ≡ relation_of x
          same = head_of d.rule d.map x d.heads

          right : (l : Literal) → IsAmong l d.rule.body → IsRight S J (Holds out S J) (literal_under d.map l)
          right l in_body = right_spoken (literal_under d.map l) (spoken_asked d.rule d.is_rule l in_body d.map) (d.fits l in_body)

          go : (b : Bool) → own (relation_of d.rule.head) ≡ b → Holds out S J x
          go true e = re.stated.closed S J base inputs x (ap own (sym same) ∙ e) (record {
            rule = d.rule;
            map = d.map;
            is_rule = d.is_rule;
            maps_to_ground = d.maps_to_ground;
            heads = d.heads;
            fits = λ l in_body. right l in_body;
          })
          go false e = (law S J x).1 (record {
            rule = d.rule;
            map = d.map;
            is_rule = re.has d.rule d.is_rule e;
            maps_to_ground = d.maps_to_ground;
            heads = d.heads;
            fits = λ l in_body. right l in_body;
          })

      -- so does what has a derivation
      sound_literal : (n : ℕ) → ((y : Atom) → IsDerivedIn rules (IsRightOver S J H) n y → H y) → (l : Literal)
          → IsRightOver S J H (IsDerivedIn rules (IsRightOver S J H) n) l → IsRight S J H l
      sound_literal n below (positive y) h = along S J (IsDerivedIn rules (IsRightOver S J H) n y) (H y) (source_of y) (λ k. below y k) h
      sound_literal n below (negative y) h = h

      sound : IsWithinBase out S → IsWithinInput out J → (n : ℕ) (x : Atom) → IsDerivedIn rules (IsRightOver S J H) n x → H x
      sound base inputs zero x d = absurd d
      sound base inputs (suc n) x d = holds_again base inputs x (record {
        rule = d.rule;
        map = d.map;
        is_rule = d.is_rule;
        maps_to_ground = d.maps_to_ground;
        heads = d.heads;
        fits = λ l in_body. sound_literal n (λ y. sound base inputs n y) (literal_under d.map l) (d.fits l in_body);
      })

      -- what is derivable is so too where all that holds does behind a `not`, and not only what the rules speak of
      all_literal : (A B : Atom → Type 0) → ((y : Atom) → A y → B y) → (l : Literal) → IsSpoken (relation_of (atom_of l))
          → IsRightOver S J H A l → IsRightOver S J (Holds out S J) B l
      all_literal A B more (positive y) spoken h = along S J (A y) (B y) (source_of y) (more y) h
      all_literal A B more (negative y) spoken h = λ r. h (along S J (Holds out S J y) (H y) (source_of y) (λ k. (spoken, k)) r)

      all_derived : (n : ℕ) (x : Atom) → IsDerivedIn rules (IsRightOver S J H) n x → IsDerivedIn rules (IsRightOver S J (Holds out S J)) n x
      all_derived zero x d = absurd d
      all_derived (suc n) x d = record {
        rule = d.rule;
        map = d.map;
        is_rule = d.is_rule;
        maps_to_ground = d.maps_to_ground;
        heads = d.heads;
        fits = λ l in_body. all_literal (IsDerivedIn rules (IsRightOver S J H) n) (IsDerivedIn rules (IsRightOver S J (Holds out S J)) n)
            (λ y k. all_derived n y k) (literal_under d.map l) (spoken_asked d.rule d.is_rule l in_body d.map) (d.fits l in_body);
      }

      -- and the other way round
      spoken_literal : (A B : Atom → Type 0) → ((y : Atom) → A y → B y) → (l : Literal)
          → IsRightOver S J (Holds out S J) A l → IsRightOver S J H B l
      spoken_literal A B more (positive y) h = along S J (A y) (B y) (source_of y) (more y) h
      spoken_literal A B more (negative y) h = λ r. h (along S J (H y) (Holds out S J y) (source_of y) (λ k. k.1) r)

      spoken_derived : (n : ℕ) (x : Atom) → IsDerivedIn rules (IsRightOver S J (Holds out S J)) n x → IsDerivedIn rules (IsRightOver S J H) n x
      spoken_derived zero x d = absurd d
      spoken_derived (suc n) x d = record {
        rule = d.rule;
        map = d.map;
        is_rule = d.is_rule;
        maps_to_ground = d.maps_to_ground;
        heads = d.heads;
        fits = λ l in_body. spoken_literal (IsDerivedIn rules (IsRightOver S J (Holds out S J)) n) (IsDerivedIn rules (IsRightOver S J H) n)
            (λ y k. spoken_derived n y k) (literal_under d.map l) (d.fits l in_body);
      }

      -- what holds of a relation, and of all that it rests on, has a derivation
      abbrev Derives : Relation → Type 0
      Derives p = (x : Atom) → relation_of x ≡ p → H x → IsDerivable rules S J H x

      abbrev Rests : ℕ → Relation → Type 0
      Rests k p = Derives p × ((q : Relation) → Depends out p q → Derives q)

      full_literal : (p : Relation) → ((q : Relation) → DependsDirectly out p q → Derives q)
          → (l : Literal) → IsSpoken (relation_of (atom_of l))
          → (is_distinct (relation_of (atom_of l)) ≡ false → DependsDirectly out p (relation_of (atom_of l)))
          → IsRight S J (Holds out S J) l → IsRightOver S J H (IsDerivable rules S J H) l
      full_literal p below (positive y) spoken direct h = go (source_of y) refl h
        where
          go : (k : Source) → source_of y ≡ k → RightAs S J (Holds out S J y) k → RightAs S J (IsDerivable rules S J H y) k
          go (now t) e r = r
          go (does t m) e r = r
          go (distinct s t) e r = r
          go ordinary e r = below (relation_of y) (direct (ordinary_not_distinct y e)) y refl (spoken, r)
      full_literal p below (negative y) spoken direct h = λ r. h (along S J (H y) (Holds out S J y) (source_of y) (λ k. k.1) r)

      head_in : (n : ℕ) (p q : Relation) → DependsIn out n p q → IsHead out p
      head_in zero p q d = (d.rule, d.is_rule, d.heads)
      head_in (suc n) p q d = (d.1.rule, d.1.is_rule, d.1.heads)

      rests_below : (k : ℕ) (p : Relation) → ((q : Relation) → DependsDirectly out p q → Rests k q)
          → (n : ℕ) (q : Relation) → DependsIn out n p q → Derives q
      rests_below k p below zero q d = (below q d).0
      rests_below k p below (suc n) q d = (below d.0 d.1).1 q (n, d.2)

      full : (p : Relation) → Rests (length out) p
      full = along_dependence out acyclic Rests none step
        where
          none : (p : Relation) → (IsHead out p → ⊥) → Rests zero p
          none p headless = (
            λ x e h. absurd (headless (subst (λ (q : Relation). IsHead out q) e (derived_heads out _ x ((law S J x).0 h.1)))),
            λ q d. absurd (headless (head_in d.0 p q d.1)),
          )

          one : (k : ℕ) (p : Relation) → ((q : Relation) → DependsDirectly out p q → Rests k q) → Derives p
          one k p below x e h = by_own (own (relation_of x)) refl
            where
              by_rule : own (relation_of x) ≡ false → (d : IsDerived out (IsRight S J (Holds out S J)) x)
                  → IsAmong d.rule rules ⊎ IsUnspoken rules (relation_of d.rule.head) → IsDerivable rules S J H x
              by_rule other d (inl is_rule) = (derivable_by_a_rule rules S J H x).1 (record {
                rule = d.rule;
                map = d.map;
                is_rule = is_rule;
                maps_to_ground = d.maps_to_ground;
                heads = d.heads;
                fits = λ l in_body. full_literal p (λ q direct. (below q direct).0) (literal_under d.map l) (spoken_asked d.rule is_rule l in_body d.map)
                    (λ plain. record {
                      rule = d.rule;
                      literal = l;
                      is_rule = d.is_rule;
                      heads = head_of d.rule d.map x d.heads ∙ e;
                      in_body = in_body;
                      names = sym (relation-literal_under d.map l);
                      not_distinct = plain;
                    }) (d.fits l in_body);
              })
              by_rule other d (inr unspoken) = absurd (never (subst IsSpoken (sym (head_of d.rule d.map x d.heads)) h.0))
                where
                  never : IsSpoken (relation_of d.rule.head) → ⊥
                  never (inl stated) = unspoken.0 stated
                  never (inr (inl asked)) = unspoken.1 asked
                  never (inr (inr played)) = let other = unspoken.2 in let bad : ⊥ = cc in bad

              by_own : (b : Bool) → own (relation_of x) ≡ b → IsDerivable rules S J H x
              by_own true o =
                  let f = re.stated.founded S J x o h.1 (λ y d asked holds. derived_here y d asked holds) in
                  (f.0, spoken_derived f.0 x f.1)
                where
                  derived_here : (y : Atom) → Depends out (relation_of x) (relation_of y) → IsAsked rules (relation_of y) → Holds out S J y
                      → IsDerivable rules S J (Holds out S J) y
                  derived_here y d asked holds =
                      let chain = subst (λ (q : Relation). DependsIn out d.0 q (relation_of y)) e d.1 in
                      let f = rests_below k p below d.0 (relation_of y) chain y refl (inr (inl asked), holds) in
                      (f.0, all_derived f.0 y f.1)
              by_own false o =
                  let d = (law S J x).0 h.1 in
                  by_rule o d (re.more d.rule d.is_rule (ap own (head_of d.rule d.map x d.heads) ∙ o))

          step : (k : ℕ) (p : Relation) → ((q : Relation) → DependsDirectly out p q → Rests k q) → Rests (suc k) p
          step k p below = (one k p below, λ q d. rests_below k p below d.0 q d.1)

      stable_here : IsWithinBase out S → IsWithinInput out J → IsStable rules S J H
      stable_here base inputs = λ x. ((full (relation_of x)).0 x refl, λ d. sound base inputs d.0 x d.1)

      pub rewritten : IsStratified rules → IsWithinBase out S → IsWithinInput out J → (x : Atom) → IsSpoken (relation_of x)
          → Holds out S J x ↔ HoldsWhole rules S J x
      rewritten strata base inputs x spoken =
          let one = only_stable rules S J strata.0 strata.1 H (stable_here base inputs) x in
          (λ h. one.0 (spoken, h), λ h. (one.1 h).1)

    -- What may come.
    module _ (strata : IsStratified rules) (ranges : IsClosed rules out) (kept : (x : Atom) → IsFixed out (relation_of x) → HeadsKept out x ↔ HoldsAlways out x)
      where
        always : (x : Atom) → IsSpoken (relation_of x) → HoldsAlways out x ↔ HoldsWholeAlways rules x
        always x spoken = rewritten nothing nobody strata (λ p true_in. let bad : ⊥ = cc in absurd bad) (λ r m made. let bad : ⊥ = cc in absurd bad) x spoken

        -- what holds by the rules is stated by them
        held : (x : Atom) → HoldsWholeAlways rules x → HoldsAlways out x
        held x h =
            let d = (stable_by_a_rule rules nothing nobody (HoldsWholeAlways rules) (stable rules nothing nobody strata.0 strata.1) x).0 h in
            let stated = derived_heads rules _ x d in
            (always x (inl (stated.0, stated.1, stated.2))).1 h

        base_of : (G : Atom → Type 0) → ((y : Atom) → G y → HeadsKept out y) → (x : Atom) (p : Tree) → MayBe rules G x (now p) → IsBase out p
        base_of G heads x p may = go (stated_or_not rules base_relation) may.1
          where
            go : IsStated rules base_relation ⊎ (IsStated rules base_relation → ⊥) → G (atom1 w_init p) ⊎ G (atom1 w_next p) → IsBase out p
            go (inl stated) comes = held (atom1 w_base p) (may.0 stated)
            go (inr unstated) (inl h) = ranges.base unstated p (inl (heads (atom1 w_init p) h))
            go (inr unstated) (inr h) = ranges.base unstated p (inr (heads (atom1 w_next p) h))

        input_of : (G : Atom → Type 0) → ((y : Atom) → G y → HeadsKept out y) → (x : Atom) (r m : Tree) → MayBe rules G x (does r m) → IsInput out r m
        input_of G heads x r m may = go (stated_or_not rules input_relation)
          where
            role : IsRole out r
            role = held (atom1 w_role r) may.0.0

            go : IsStated rules input_relation ⊎ (IsStated rules input_relation → ⊥) → IsInput out r m
            go (inl stated) = (role, held (atom2 w_input r m) (may.0.1 stated))
            go (inr unstated) = ranges.inputs unstated r m role (heads (atom2 w_legal r m) may.1)

        keeps_positive : (G : Atom → Type 0) → ((y : Atom) → G y → HeadsKept out y) → (y : Atom) (k : Source) → MayBe rules G y k
            → PossibleAs out (IsFixed out (relation_of y)) (HoldsAlways out y) (HeadsKept out y) k
        keeps_positive G heads y (now p) may = base_of G heads y p may
        keeps_positive G heads y (does r m) may = input_of G heads y r m may
        keeps_positive G heads y (distinct s t) may = may
        keeps_positive G heads y ordinary may = (λ fixed. (kept y fixed).0 (heads y may), λ moves. heads y may)

        keeps_negative : (y : Atom) → IsSpoken (relation_of y) → (k : Source) → MayFail rules y k
            → UndecidedAs (IsFixed out (relation_of y)) (HoldsAlways out y) k
        keeps_negative y spoken (now p) may = tt
        keeps_negative y spoken (does r m) may = tt
        keeps_negative y spoken (distinct s t) may = may
        keeps_negative y spoken ordinary may = λ fixed h. may (still_fixed (relation_of y) fixed) ((always y spoken).0 h)

        keeps : (G : Atom → Type 0) → ((y : Atom) → G y → HeadsKept out y) → (l : Literal) → IsSpoken (relation_of (atom_of l))
            → MayFit rules G l → Keeps out (HeadsKept out) l
        keeps G heads (positive y) spoken may = keeps_positive G heads y (source_of y) may
        keeps G heads (negative y) spoken may = keeps_negative y spoken (source_of y) may

        -- whatever may hold by the rules heads a kept instance of all
        may_hold : (n : ℕ) (x : Atom) → IsDerivedIn rules (MayFit rules) n x → HeadsKept out x
        may_hold zero x d = absurd d
        may_hold (suc n) x d = go (λ y h. may_hold n y h) (own (relation_of d.rule.head)) refl
          where
            same : relation_of d.rule.head ≡ relation_of x
            same = head_of d.rule d.map x d.heads

            go : ((y : Atom) → IsDerivedIn rules (MayFit rules) n y → HeadsKept out y) → (b : Bool) → own (relation_of d.rule.head) ≡ b → HeadsKept out x
            go heads true e = re.stated.comes x (ap own (sym same) ∙ e) (record {
              rule = d.rule;
              map = d.map;
              is_rule = d.is_rule;
              maps_to_ground = d.maps_to_ground;
              heads = d.heads;
              fits = λ l in_body. keeps (IsDerivedIn rules (MayFit rules) n) heads (literal_under d.map l)
                  (spoken_asked d.rule d.is_rule l in_body d.map) (d.fits l in_body);
            })
            go heads false e = (kept_by_a_rule out acyclic x).1 (record {
              rule = d.rule;
              map = d.map;
              is_rule = re.has d.rule d.is_rule e;
              maps_to_ground = d.maps_to_ground;
              heads = d.heads;
              fits = λ l in_body. keeps (IsDerivedIn rules (MayFit rules) n) heads (literal_under d.map l)
                  (spoken_asked d.rule d.is_rule l in_body d.map) (d.fits l in_body);
            })

        spoken_of : (p : Relation) → IsStated rules p ⊎ (is_play p ≡ true) → IsSpoken p
        spoken_of p (inl stated) = inl stated
        spoken_of p (inr played) = inr (inr played)

        comes : (y : Atom) → MayHold rules y → HeadsKept out y
        comes y h = may_hold h.0 y h.1

        within_base : (p : Tree) → IsWholeBase rules p → IsBase out p
        within_base p may = base_of (MayHold rules) comes (atom1 w_base p) p may

        within_inputs : (r m : Tree) → IsWholeInput rules r m → IsInput out r m
        within_inputs r m may = input_of (MayHold rules) comes (atom2 w_input r m) r m may

        pub plays_as : PlaysAs rules out
        plays_as = record {
          base = within_base;
          inputs = within_inputs;
          same = λ S J base inputs x stands. rewritten S J strata (λ p true_in. within_base p (base p true_in))
              (λ r m made. within_inputs r m (inputs r m made)) x (spoken_of (relation_of x) stands);
        }
