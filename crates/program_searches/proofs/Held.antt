-- What a writer holds while a text is being written piece by piece.
use Rattle.std.proofs.Common.{ℕ, ◌≡◌, List, [], ◌∷◌, ◌++◌, refl, sym, ap, subst, ◌∙◌, append_assoc}
use Rattle.std.specs.Prelude.{Option, Some, None, Result, Ok, Err, OnErr}
use Rattle.std.specs.Io.KnownBytes.{Appends}
use Rattle.statement.specs.Output.{AppendsFront}

append_none : (xs : List ℕ) → xs ≡ xs ++ []
append_none [] = refl
append_none (x ∷ xs) = ap (λ (l : List ℕ). x ∷ l) (append_none xs)

appends_none : (a : Option (List ℕ)) → Appends a a []
appends_none None = tt
appends_none (Some xs) = append_none xs

appends_both : (a b c : Option (List ℕ)) (xs ys : List ℕ) → Appends a b xs → Appends b c ys → Appends a c (xs ++ ys)
appends_both None b c xs ys p q = tt
appends_both (Some us) None c xs ys p q = absurd p
appends_both (Some us) (Some vs) None xs ys p q = absurd q
appends_both (Some us) (Some vs) (Some ws) xs ys p q = q ∙ ap (λ (l : List ℕ). l ++ ys) p ∙ append_assoc us xs ys

-- of the bytes whole, all but rest are written
pub record Written (old : Option (List ℕ)) (new : Option (List ℕ)) (whole : List ℕ) (rest : List ℕ) : Type 0 where
  pub done : List ℕ
  pub split : done ++ rest ≡ whole
  pub appended : Appends old new done

pub begun : (a : Option (List ℕ)) (whole : List ℕ) → Written a a whole whole
begun a whole = record { done = []; split = refl; appended = appends_none a }

pub further : (a b c : Option (List ℕ)) (whole bs rest left : List ℕ) → Written a b whole left → left ≡ bs ++ rest → Appends b c bs
    → Written a c whole rest
further a b c whole bs rest left w e p = record {
  done = w.done ++ bs;
  split = append_assoc w.done bs rest ∙ ap (λ (l : List ℕ). w.done ++ l) (sym e) ∙ w.split;
  appended = appends_both a b c w.done bs w.appended p;
}

pub ended : (a b : Option (List ℕ)) (whole left : List ℕ) → Written a b whole left → left ≡ [] → Appends a b whole
ended a b whole left w e = subst (Appends a b) (append_none w.done ∙ ap (λ (l : List ℕ). w.done ++ l) (sym e) ∙ w.split) w.appended

pub broken : (a b c : Option (List ℕ)) (whole bs rest left : List ℕ) → Written a b whole left → left ≡ bs ++ rest → AppendsFront b c bs
    → AppendsFront a c whole
broken a b c whole bs rest left w e p = record {
  front = w.done ++ p.front;
  behind = p.behind ++ rest;
  split = append_assoc w.done p.front (p.behind ++ rest)
      ∙ ap (λ (l : List ℕ). w.done ++ l) (sym (append_assoc p.front p.behind rest) ∙ ap (λ (l : List ℕ). l ++ rest) p.split ∙ sym e)
      ∙ w.split;
  appended = appends_both a b c w.done p.front w.appended p.appended;
}

pub on_err : {X E : Type 0} (r : Result X E) (P : Type 0) → P → OnErr r P
on_err (Ok x) P p = tt
on_err (Err e) P p = p
