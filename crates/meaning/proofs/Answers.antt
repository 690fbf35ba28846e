-- Relations that are written in layers are answered: what holds and what may hold of them, by kept instances.
use Rattle.std.proofs.Common.{ℕ, suc, Bool, true, ◌≡◌, ◌≤◌, ◌⊎◌, ◌↔◌, inl, inr, List, [], ◌∷◌, map, refl, sym, ap, subst, ◌∙◌, arith}
use Rattle.statement.specs.Clause.{Atom, Literal, positive, negative, Alternative, Relation, relation_of}
use Rattle.statement.specs.Dependence.{IsAmong, IsFixed}
use Rattle.statement.specs.Substitution.{literal_under}
use Rattle.statement.specs.Meaning.{StateOfTerms, Joint, Source, now, does, distinct, ordinary, source_of, RightAs, IsRight, IsDerived, Holds, HoldsAlways, nothing, nobody, IsWithinBase, IsWithinInput}
use Rattle.statement.specs.Listing.{Instance, instance_of, listing}
use Rattle.meaning.specs.Kept.{PossibleAs, UndecidedAs, Keeps, HeadsKept, HasRightInstance}
use Rattle.meaning.specs.Listed.{IsAlternativeAt, IsKeptInstance, IsWellFormed, HasListed}
use Rattle.meaning.proofs.Facts.{among_map_in, kept_by_a_rule, fixed_alike, fixed_decide}
use Rattle.meaning.specs.Extension.{IsAnswered}
use Rattle.meaning.specs.Layers.{named, IsLayered, IsBounded}
use Rattle.meaning.specs.Stacks.{IsStacked, IsEnough}
use Rattle.meaning.proofs.Reading.{plain_source, stacked_of}
use Rattle.meaning.proofs.Enough.{there_again}
use Rattle.meaning.proofs.Simple.{there_stacked}
use Rattle.meaning.proofs.Downward.{own_derivable}

place_of : (n : ℕ) (rules : List Alternative) (rule : Alternative) → IsAmong rule rules → (k : ℕ) × IsAlternativeAt n rules k rule
place_of n [] rule a = absurd a
place_of n (r ∷ rs) rule (inl e) = (n, inl (refl, e))
place_of n (r ∷ rs) rule (inr a) = let k = place_of (suc n) rs rule a in (k.0, inr k.1)

module _ (rules out : List Alternative) (own : Relation → Bool) (word : ℕ → Relation → List ℕ) (well : IsWellFormed out)
    (law : (S : StateOfTerms) (J : Joint) (x : Atom) → Holds out S J x ↔ IsDerived out (IsRight S J (Holds out S J)) x)
    (suffice : (S : StateOfTerms) (J : Joint) → IsWithinBase out S → IsWithinInput out J → (x : Atom) → Holds out S J x ↔ HasRightInstance out S J x)
    (instances : (i : Instance) → IsAmong i (listing out).kept ↔ IsKeptInstance out i)
    (heads : (x : Atom) → HeadsKept out x ↔ HasListed out x)
    (fixed : (x : Atom) → IsFixed out (relation_of x) → HeadsKept out x ↔ HoldsAlways out x)
  where
    -- what a rule derives by literals that keep their instance heads that instance of the listing
    seen : (F : Literal → Type 0) → ((l : Literal) → F l → Keeps out (HeadsKept out) l) → (x : Atom) (d : IsDerived out F x)
        → (i : Instance) × IsAmong i (listing out).kept × (i.head ≡ x) × (i.body ≡ map (literal_under d.map) d.rule.body)
    seen F keeps x d =
        let k = place_of 0 out d.rule d.is_rule in (
          instance_of k.0 d.rule d.map,
          (instances (instance_of k.0 d.rule d.map)).1 (record {
            rule = d.rule;
            map = d.map;
            at = k.1;
            kept = record {
              is_rule = d.is_rule;
              maps_to_ground = d.maps_to_ground;
              keeps = λ l in_body. keeps (literal_under d.map l) (d.fits l in_body);
            };
            same = refl;
          }),
          d.heads,
          refl,
        )

    -- What may hold.

    kept_ordinary : (y : Atom) (k : Source) → k ≡ ordinary
        → PossibleAs out (IsFixed out (relation_of y)) (HoldsAlways out y) (HeadsKept out y) k ↔ HeadsKept out y
    kept_ordinary y k e =
        subst (λ (s : Source). PossibleAs out (IsFixed out (relation_of y)) (HoldsAlways out y) (HeadsKept out y) s ↔ HeadsKept out y) (sym e)
        ((λ h. out_of h (fixed_decide out well.acyclic (relation_of y))), (λ h. ((λ f. (fixed y f).0 h), (λ moves. h))))
      where
        out_of : PossibleAs out (IsFixed out (relation_of y)) (HoldsAlways out y) (HeadsKept out y) ordinary
            → IsFixed out (relation_of y) ⊎ (IsFixed out (relation_of y) → ⊥) → HeadsKept out y
        out_of h (inl f) = (fixed y f).1 (h.0 f)
        out_of h (inr moves) = h.1 moves

    -- some kept instance says that the second atom holds where the first does
    abbrev IsSaid : Atom → Atom → Type 0
    IsSaid y x = (i : Instance) × IsAmong i (listing out).kept × (i.head ≡ x) × (i.body ≡ positive y ∷ [])

    kept_said : (y x : Atom) → IsSaid y x → HeadsKept out x
    kept_said y x t = (heads x).1 (t.0, t.1, t.2)

    -- What holds.

    module _ (S : StateOfTerms) (J : Joint) where
      right_ordinary : (y : Atom) → source_of y ≡ ordinary → IsRight S J (Holds out S J) (positive y) ↔ Holds out S J y
      right_ordinary y plain =
          subst (λ (s : Source). RightAs S J (Holds out S J y) s ↔ Holds out S J y) (sym plain) ((λ h. h), (λ h. h))

      module _ (base : IsWithinBase out S) (input : IsWithinInput out J) where
        -- what holds heads a kept instance
        holds_heads : (x : Atom) → Holds out S J x → HeadsKept out x
        holds_heads x h =
            let i = (suffice S J base input x).0 h in
            (kept_by_a_rule out well.acyclic x).1 (record {
              rule = i.rule;
              map = i.map;
              is_rule = i.kept.is_rule;
              maps_to_ground = i.kept.maps_to_ground;
              heads = i.heads;
              fits = i.kept.keeps;
            })

        possible : (y : Atom) (k : Source) → RightAs S J (Holds out S J y) k
            → PossibleAs out (IsFixed out (relation_of y)) (HoldsAlways out y) (HeadsKept out y) k
        possible y (now p) h = base p h
        possible y (does r m) h = input r m h
        possible y (distinct s t) h = h
        possible y ordinary h =
            ((λ f. (fixed_alike out well.acyclic S nothing J nobody (relation_of y) f y refl).0 h), (λ moves. holds_heads y h))

        undecided : (y : Atom) (k : Source) → (RightAs S J (Holds out S J y) k → ⊥) → UndecidedAs (IsFixed out (relation_of y)) (HoldsAlways out y) k
        undecided y (now p) h = tt
        undecided y (does r m) h = tt
        undecided y (distinct s t) h = h
        undecided y ordinary h = λ f always. h ((fixed_alike out well.acyclic S nothing J nobody (relation_of y) f y refl).1 always)

        -- a literal that is right keeps its instance
        right_keeps : (l : Literal) → IsRight S J (Holds out S J) l → Keeps out (HeadsKept out) l
        right_keeps (positive y) h = possible y (source_of y) h
        right_keeps (negative y) h = undecided y (source_of y) h

        -- what a kept instance says
        holds_said : (y x : Atom) → source_of y ≡ ordinary → IsSaid y x → Holds out S J y → Holds out S J x
        holds_said y x plain t h =
            let i = (instances t.0).0 t.1 in
            (law S J x).1 (record {
              rule = i.rule;
              map = i.map;
              is_rule = i.kept.is_rule;
              maps_to_ground = i.kept.maps_to_ground;
              heads = ap (λ (j : Instance). j.head) i.same ∙ t.2;
              fits = λ l in_body. one ((right_ordinary y plain).1 h) (literal_under i.map l)
                  (subst (λ (b : List Literal). IsAmong (literal_under i.map l) b) (ap (λ (j : Instance). j.body) i.same ∙ t.3)
                  (among_map_in (literal_under i.map) l i.rule.body in_body));
            })
          where
            one : IsRight S J (Holds out S J) (positive y) → (l : Literal) → IsAmong l (positive y ∷ []) → IsRight S J (Holds out S J) l
            one right l (inl e) = subst (λ (q : Literal). IsRight S J (Holds out S J) q) (sym e) right
            one right l (inr none) = absurd none

    -- Layers of which none keeps the one before.

    module _ (n : ℕ) (is : IsLayered rules out own word n) (bounded : IsBounded out own word n) where
      comes : (x : Atom) → own (relation_of x) ≡ true → IsDerived rules (Keeps out (HeadsKept out)) x → HeadsKept out x
      comes =
          there_again rules out own word n is (HeadsKept out) (Keeps out (HeadsKept out)) (λ x. kept_by_a_rule out well.acyclic x)
          (λ y plain. kept_ordinary y (source_of y) plain) (λ x d. seen (Keeps out (HeadsKept out)) (λ l h. h) x d) (λ x h. h)
          (λ k low high x o h. kept_said (named word k x) x (bounded.tops k low high x o h)) bounded.short

      closed : (S : StateOfTerms) (J : Joint) → IsWithinBase out S → IsWithinInput out J → (x : Atom) → own (relation_of x) ≡ true
          → IsDerived rules (IsRight S J (Holds out S J)) x → Holds out S J x
      closed S J base input =
          there_again rules out own word n is (Holds out S J) (IsRight S J (Holds out S J)) (law S J) (right_ordinary S J)
          (λ x d. seen (IsRight S J (Holds out S J)) (right_keeps S J base input) x d) (holds_heads S J base input)
          (λ k low high x o h. holds_said S J base input (named word k x) x
          (plain_source (named word k x) (is.plain_layers k low high (relation_of x) o))
          (bounded.tops k low high x o (holds_heads S J base input (named word k x) h)) h) bounded.short

      pub answered : IsAnswered rules out own
      answered = record {
        closed = closed;
        comes = comes;
        founded = λ S J x is_own h below. own_derivable rules out own word n (stacked_of rules out own word n is) S J (law S J) x is_own h below;
        still = λ p q is_own f direct. absurd (bounded.moves p is_own f);
      }

    -- Layers each of which keeps the one before.

    module _ (m : ℕ) (is : IsStacked rules out own word (suc m)) (enough : IsEnough out own word m) where
      comes_stacked : (x : Atom) → own (relation_of x) ≡ true → IsDerived rules (Keeps out (HeadsKept out)) x → HeadsKept out x
      comes_stacked =
          there_stacked rules out own word m is (HeadsKept out) (Keeps out (HeadsKept out)) (λ x. kept_by_a_rule out well.acyclic x)
          (λ y plain. kept_ordinary y (source_of y) plain) (λ x d. seen (Keeps out (HeadsKept out)) (λ l h. h) x d) (λ x h. h)
          (λ k low high x o h. kept_said (named word k x) x (enough.tops k low high x o h))
          (λ k low high x o h. kept_said (named word k x) (named word (suc k) x) (enough.carries k low high x o h)) enough.short

      closed_stacked : (S : StateOfTerms) (J : Joint) → IsWithinBase out S → IsWithinInput out J → (x : Atom) → own (relation_of x) ≡ true
          → IsDerived rules (IsRight S J (Holds out S J)) x → Holds out S J x
      closed_stacked S J base input =
          there_stacked rules out own word m is (Holds out S J) (IsRight S J (Holds out S J)) (law S J) (right_ordinary S J)
          (λ x d. seen (IsRight S J (Holds out S J)) (right_keeps S J base input) x d) (holds_heads S J base input)
          (λ k low high x o h. holds_said S J base input (named word k x) x (plain k low high x o)
          (enough.tops k low high x o (holds_heads S J base input (named word k x) h)) h)
          (λ k low high x o h. holds_said S J base input (named word k x) (named word (suc k) x) (plain k low (omega (arith, high)) x o)
          (enough.carries k low high x o (holds_heads S J base input (named word k x) h)) h) enough.short
        where
          plain : (k : ℕ) → 1 ≤ k → k ≤ suc m → (x : Atom) → own (relation_of x) ≡ true → source_of (named word k x) ≡ ordinary
          plain k low high x o = plain_source (named word k x) (is.plain_layers k low high (relation_of x) o)

      pub stacked_answered : IsAnswered rules out own
      stacked_answered = record {
        closed = closed_stacked;
        comes = comes_stacked;
        founded = λ S J x is_own h below. own_derivable rules out own word (suc m) is S J (law S J) x is_own h below;
        still = λ p q is_own f direct. absurd (enough.moves p is_own f);
      }
