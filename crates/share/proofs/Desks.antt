-- A desk that is opened and closed.
use Rattle.std.proofs.Common.{◌≡◌, ℕ, [], ◌∷◌, ◌++◌, ◌≤◌, length, length-append, suc, ◌∙◌, ap, subst, sym, arith}
use Rattle.std.proofs.lemmas.List.Elements.{All-pop, All-push}
use Rattle.std.specs.Prelude.{Some, All, vec_capacity}
use Rattle.game.specs.declared.game.Game.{Ghosts}
use Rattle.maximin.specs.Plain.{IsPlainOf, plain_depth}
use Rattle.maximin.specs.declared.plain.PlainRoom.{PlainRoom}
use Rattle.share.specs.Step.{IsStepOf}
use Rattle.share.specs.Desk.{IsDeskOf, IsDeskFor, IsOpenOf}
use Rattle.share.specs.declared.step.Step.{Step}
use Rattle.share.specs.declared.desk.Desk.{Desk}
use Rattle.share.specs.declared.desk.OpenDesk.{OpenDesk}

module _ {G P W M : Type 0} (of : Ghosts G P W M) (game : G) (depth : ℕ) where
  -- the worker's own step is one of the game
  opened_step : (n : ℕ) (d e : Desk G P W M) (s : Step P) → IsDeskOf of game depth n d → d.steps.items ≡ e.steps.items ++ s ∷ []
      → IsStepOf of game s
  opened_step n d e s h is = (All-pop (IsStepOf of game) d.steps.items e.steps.items (Some s) is h.steps).1

  -- and what is left is a desk of one level less
  opened_desk : (n m : ℕ) (d e : Desk G P W M) (s : Step P) → n ≡ suc m → IsDeskOf of game depth n d
      → d.steps.items ≡ e.steps.items ++ s ∷ []
      → vec_capacity e.steps ≡ vec_capacity d.steps → e.room ≡ d.room → e.depth ≡ d.depth → IsDeskOf of game depth m e
  opened_desk n m d e s more h is capacity room told = record {
    room = subst (λ (r : PlainRoom G P W M). IsPlainOf of game r) (sym room) h.room;
    deep = ap (λ (r : PlainRoom G P W M). plain_depth r) room ∙ h.deep;
    told = told ∙ h.told;
    steps = (All-pop (IsStepOf of game) d.steps.items e.steps.items (Some s) is h.steps).0;
    count = omega (arith, h.count, ap length is, length-append e.steps.items (s ∷ []), more);
    place = omega (arith, h.place, capacity);
  }

  -- with the step it is the desk again
  closed_desk : (n m : ℕ) (d e : Desk G P W M) (s : Step P) → n ≡ suc m → IsDeskOf of game depth m e → IsStepOf of game s
      → d.steps.items ≡ e.steps.items ++ s ∷ []
      → vec_capacity d.steps ≡ vec_capacity e.steps → d.room ≡ e.room → d.depth ≡ e.depth → IsDeskOf of game depth n d
  closed_desk n m d e s more h step is capacity room told = record {
    room = subst (λ (r : PlainRoom G P W M). IsPlainOf of game r) (sym room) h.room;
    deep = ap (λ (r : PlainRoom G P W M). plain_depth r) room ∙ h.deep;
    told = told ∙ h.told;
    steps = subst (All (IsStepOf of game)) (sym is) (All-push (IsStepOf of game) e.steps.items s h.steps step);
    count = omega (arith, h.count, ap length is, length-append e.steps.items (s ∷ []), more);
    place = omega (arith, h.place, capacity);
  }

  -- the same desk, by the number that it tells
  pub desk_at : (depth' n : ℕ) (d : Desk G P W M) → depth' ≡ depth → IsDeskOf of game depth n d
      → IsDeskOf of game depth' n d
  desk_at depth' n d same h = subst (λ (k : ℕ). IsDeskOf of game k n d) (sym same) h

  -- and by the depth to which its worker looks ahead
  pub desk_for : (reach n : ℕ) (d : Desk G P W M) → reach ≤ depth → IsDeskOf of game depth n d → IsDeskFor of game reach n d
  desk_for reach n d few h = record { whole = desk_at d.depth n d h.told h; reach = omega (arith, few, h.told) }

  pub opened_parts : (n m : ℕ) (d : Desk G P W M) (o : OpenDesk G P W M) → n ≡ suc m → IsDeskOf of game depth n d
      → d.steps.items ≡ o.rest.steps.items ++ o.step ∷ []
      → vec_capacity o.rest.steps ≡ vec_capacity d.steps → o.rest.room ≡ d.room → o.rest.depth ≡ d.depth → IsOpenOf of game depth m o
  opened_parts n m d o more h is capacity room told = record {
    own = opened_step n d o.rest o.step h is;
    behind = opened_desk n m d o.rest o.step more h is capacity room told;
  }

  pub closed_parts : (n m : ℕ) (d : Desk G P W M) (o : OpenDesk G P W M) → n ≡ suc m → IsOpenOf of game depth m o
      → d.steps.items ≡ o.rest.steps.items ++ o.step ∷ []
      → vec_capacity d.steps ≡ vec_capacity o.rest.steps → d.room ≡ o.rest.room → d.depth ≡ o.rest.depth → IsDeskOf of game depth n d
  closed_parts n m d o more h is capacity room told = closed_desk n m d o.rest o.step more h.behind h.own is capacity room told

  pub open_at : (depth' m : ℕ) (o : OpenDesk G P W M) → depth' ≡ depth → IsOpenOf of game depth m o → IsOpenOf of game depth' m o
  open_at depth' m o same h = record { own = h.own; behind = desk_at depth' m o.rest same h.behind }
