-- The state of a reader that writes lines, from one turn of its loop to the next.
use Rattle.std.proofs.Common.{ℕ, suc, ◌+◌, ◌-◌, ◌≡◌, ◌≢◌, ◌<◌, ◌≤◌, ◌⊎◌, inl, inr, Bool, true, false, List, [], ◌∷◌, ◌++◌, ◌==◌, map, take, drop, length, get_or}
use Rattle.std.proofs.Common.{refl, sym, ap, subst, ◌∙◌, arith, eqb-true, length-append}
use Rattle.std.proofs.lemmas.List.{length-map}
use Rattle.std.specs.Prelude.{Some}
use Rattle.statement.specs.Tree.{Tree, Trees, name, list, trees_of}
use Rattle.statement.specs.Lexical.{is_space, is_name_byte}
use Rattle.statement.specs.Replies.{lines_of}
use Rattle.statement.specs.Reading.{Reads, text_limit, name_limit, open_limit, text_fault_in, too_deep, unopened, unclosed, bad_byte, name_too_long}
use Rattle.kif.specs.Kinds.{IsStray}
use Rattle.kif.specs.Written.{gap}
use Rattle.kif.specs.Lines.{line_end}
use Rattle.kif.proofs.Shelves.{Shelf, last_of}
use Rattle.kif.proofs.LineTexts.{written, stands_first, is_outside, written_more, written_open, written_close}
use Rattle.kif.proofs.Progress.{Progress, begun, read_all, left_open}
use Rattle.kif.proofs.Turns.{left, name_between, turn-opening, turn-closing, turn-space, turn-comment, turn-name, fault-opening, fault-closing}
use Rattle.kif.proofs.Turns.{fault-stray, fault-name, at_end}

abbrev starts : List Shelf → List ℕ
starts fs = map (λ (f : Shelf). f.start) fs

-- some open lists and trees of theirs are what was read before o, and out is what stands for them
pub record IsShown (text : List ℕ) (o : ℕ) (os : List ℕ) (first : Bool) (out : List ℕ) : Type 0 where
  pub shelves : List Shelf
  pub trees : List Tree
  pub opened : os ≡ map (λ (f : Shelf). f.start) shelves
  pub progress : Progress text shelves trees (left text o)
  pub shown : out ≡ written shelves trees
  pub begins : first ≡ stands_first shelves trees

starts_more : (fs : List Shelf) (f : Shelf) → starts (fs ++ f ∷ []) ≡ starts fs ++ f.start ∷ []
starts_more [] f = refl
starts_more (g ∷ fs) f = ap (λ (l : List ℕ). g.start ∷ l) (starts_more fs f)

first_within : (fs : List Shelf) (f : Shelf) → stands_first (fs ++ f ∷ []) [] ≡ true
first_within [] f = refl
first_within (g ∷ fs) f = refl

outside_is : (gs : List Shelf) (os : List ℕ) → os ≡ starts gs → (length os == 0) ≡ is_outside gs
outside_is [] os e = ap (λ (l : List ℕ). length l == 0) e
outside_is (f ∷ fs) os e = go (length os == 0) refl
  where
    go : (b : Bool) → (length os == 0) ≡ b → (length os == 0) ≡ false
    go false h = h
    go true h = absurd (let n = eqb-true (length os) 0 h in let m = ap length e in let bad : ⊥ = omega (arith, n, m) in bad)

first_behind : (fs : List Shelf) (us : List Tree) (t : Tree) → stands_first fs (us ++ t ∷ []) ≡ is_outside fs
first_behind [] us t = refl
first_behind (f ∷ fs) [] t = refl
first_behind (f ∷ fs) (u ∷ us) t = refl

same_last : (xs ys : List ℕ) (x y : ℕ) → xs ++ x ∷ [] ≡ ys ++ y ∷ [] → xs ≡ ys
same_last [] [] x y e = refl
same_last [] (v ∷ ys) x y e = absurd (let size = ap length e in let more = length-append ys (y ∷ []) in omega (arith, size, more))
same_last (u ∷ xs) [] x y e = absurd (let size = ap length e in let more = length-append xs (x ∷ []) in omega (arith, size, more))
same_last (u ∷ xs) (v ∷ ys) x y e =
    let first : u ≡ v = cc in
    let rest : xs ++ x ∷ [] ≡ ys ++ y ∷ [] = cc in
    let h = same_last xs ys x y rest in cc

pub shown_begun : (text os : List ℕ) (first : Bool) (out : List ℕ) → os ≡ [] → first ≡ true → out ≡ [] → IsShown text 0 os first out
shown_begun text os first out e f g = record { shelves = []; trees = []; opened = e; progress = begun text; shown = g; begins = f }

pub shown-opening : (text : List ℕ) (o : ℕ) (os ps : List ℕ) (first first1 : Bool) (out out1 : List ℕ)
    → IsShown text o os first out → o < length text → get_or text o 0 ≡ 40 → length os ≢ open_limit
    → ps ≡ os ++ o ∷ [] → first1 ≡ true → out1 ≡ out ++ gap first ++ 40 ∷ [] → IsShown text (o + 1) ps first1 out1
shown-opening text o os ps first first1 out out1 s h e few p f g =
    let inner : Shelf = record { start = o; before = s.trees } in
    record {
      shelves = s.shelves ++ inner ∷ [];
      trees = [];
      opened = p ∙ ap (λ (l : List ℕ). l ++ o ∷ []) s.opened ∙ sym (starts_more s.shelves inner);
      progress = turn-opening text o s.shelves _ s.trees _ s.progress h e
          (λ full. few (ap length s.opened ∙ length-map s.shelves (λ (f : Shelf). f.start) ∙ full)) refl refl;
      shown = g ∙ ap (λ (l : List ℕ). l ++ gap first ++ 40 ∷ []) s.shown
          ∙ ap (λ (b : Bool). written s.shelves s.trees ++ gap b ++ 40 ∷ []) s.begins ∙ sym (written_open s.shelves inner []);
      begins = f ∙ sym (first_within s.shelves inner);
    }

pub shown-closing : (text : List ℕ) (o : ℕ) (os ps qs : List ℕ) (p : ℕ) (first first1 : Bool) (out out1 : List ℕ)
    → IsShown text o os first out → o < length text → get_or text o 0 ≡ 41 → os ≡ ps ++ p ∷ [] → qs ≡ ps
    → first1 ≡ (length ps == 0) → out1 ≡ out ++ 41 ∷ [] ++ line_end (length ps == 0) → IsShown text (o + 1) qs first1 out1
shown-closing text o os ps qs p first first1 out out1 s h e d k f g = go (last_of s.shelves)
  where
    go : (s.shelves ≡ []) ⊎ ((gs : List Shelf) × (f : Shelf) × (s.shelves ≡ gs ++ f ∷ [])) → IsShown text (o + 1) qs first1 out1
    go (inl none) = absurd (
        let size = ap length (sym d ∙ s.opened ∙ ap starts none) in let more = length-append ps (p ∷ []) in omega (arith, size, more)
        )
    go (inr split) =
        let gs = split.0 in
        let inner = split.1 in
        let around : ps ≡ starts gs = same_last ps (starts gs) p inner.start (sym d ∙ s.opened ∙ ap starts split.2 ∙ starts_more gs inner) in
        let whole = outside_is gs ps around in
        let closed = list (trees_of s.trees) in
        record {
          shelves = gs;
          trees = inner.before ++ closed ∷ [];
          opened = k ∙ around;
          progress = turn-closing text o s.shelves gs gs inner s.trees _ s.progress h e split.2 refl refl;
          shown = g ∙ ap (λ (l : List ℕ). l ++ 41 ∷ [] ++ line_end (length ps == 0)) (s.shown
              ∙ ap (λ (fs : List Shelf). written fs s.trees) split.2)
              ∙ ap (λ (b : Bool). written (gs ++ inner ∷ []) s.trees ++ 41 ∷ [] ++ line_end b) whole
              ∙ sym (written_close gs inner s.trees);
          begins = f ∙ whole ∙ sym (first_behind gs inner.before closed);
        }

pub shown-space : (text : List ℕ) (o : ℕ) (os : List ℕ) (first : Bool) (out : List ℕ)
    → IsShown text o os first out → o < length text → is_space (get_or text o 0) ≡ true → IsShown text (o + 1) os first out
shown-space text o os first out s h e = record {
  shelves = s.shelves;
  trees = s.trees;
  opened = s.opened;
  progress = turn-space text o s.shelves s.trees s.progress h e;
  shown = s.shown;
  begins = s.begins;
}

pub shown-comment : (text : List ℕ) (o end : ℕ) (os : List ℕ) (first : Bool) (out : List ℕ)
    → IsShown text o os first out → o < end → end ≤ length text → get_or text o 0 ≡ 59
    → ((k : ℕ) → o ≤ k → k < end → get_or text k 0 ≢ 10)
    → (end < length text → get_or text end 0 ≡ 10)
    → IsShown text end os first out
shown-comment text o end os first out s further h e inside stops = record {
  shelves = s.shelves;
  trees = s.trees;
  opened = s.opened;
  progress = turn-comment text o end s.shelves s.trees s.progress further h e inside stops;
  shown = s.shown;
  begins = s.begins;
}

pub shown-name : (text : List ℕ) (o end : ℕ) (os ps : List ℕ) (first first1 : Bool) (out out1 : List ℕ)
    → IsShown text o os first out → o < end → end ≤ length text
    → ((k : ℕ) → o ≤ k → k < end → is_name_byte (get_or text k 0) ≡ true)
    → (end < length text → is_name_byte (get_or text end 0) ≡ false)
    → end - o ≤ name_limit → ps ≡ os → first1 ≡ (length os == 0)
    → out1 ≡ out ++ gap first ++ name_between text o end ++ line_end (length os == 0) → IsShown text end ps first1 out1
shown-name text o end os ps first first1 out out1 s further h names stops short p f g =
    let whole = outside_is s.shelves os s.opened in
    let added = name (name_between text o end) in
    record {
      shelves = s.shelves;
      trees = s.trees ++ added ∷ [];
      opened = p ∙ s.opened;
      progress = turn-name text o end s.shelves s.shelves s.trees _ s.progress further h names stops short refl refl;
      shown = g ∙ ap (λ (l : List ℕ). l ++ gap first ++ name_between text o end ++ line_end (length os == 0)) s.shown
          ∙ ap (λ (b : Bool). written s.shelves s.trees ++ gap b ++ name_between text o end ++ line_end (length os == 0)) s.begins
          ∙ ap (λ (b : Bool). written s.shelves s.trees ++ gap (stands_first s.shelves s.trees) ++ name_between text o end ++ line_end b) whole
          ∙ sym (written_more s.shelves s.trees added);
      begins = f ∙ whole ∙ sym (first_behind s.shelves s.trees added);
    }

-- what is answered

as_many : (text : List ℕ) (o : ℕ) (os : List ℕ) (first : Bool) (out : List ℕ) (s : IsShown text o os first out) → length s.shelves ≡ length os
as_many text o os first out s = sym (ap length s.opened ∙ length-map s.shelves (λ (f : Shelf). f.start))

pub deep_shown : (text : List ℕ) (o : ℕ) (os : List ℕ) (first : Bool) (out : List ℕ)
    → IsShown text o os first out → length text ≤ text_limit → o < length text → get_or text o 0 ≡ 40 → length os ≡ open_limit
    → text_fault_in text ≡ Some (too_deep o)
deep_shown text o os first out s short h e full =
    fault-opening text o s.shelves s.trees s.progress short h e (as_many text o os first out s ∙ full)

pub unopened_shown : (text : List ℕ) (o : ℕ) (os : List ℕ) (first : Bool) (out : List ℕ)
    → IsShown text o os first out → length text ≤ text_limit → o < length text → get_or text o 0 ≡ 41 → length os ≡ 0
    → text_fault_in text ≡ Some (unopened o)
unopened_shown text o os first out s short h e none =
    fault-closing text o s.shelves s.trees s.progress short h e (as_many text o os first out s ∙ none)

pub stray_shown : (text : List ℕ) (o : ℕ) (os : List ℕ) (first : Bool) (out : List ℕ)
    → IsShown text o os first out → length text ≤ text_limit → o < length text → IsStray (get_or text o 0) → text_fault_in text ≡ Some (bad_byte o)
stray_shown text o os first out s short h e = fault-stray text o s.shelves s.trees s.progress short h e

pub name_shown : (text : List ℕ) (o end : ℕ) (os : List ℕ) (first : Bool) (out : List ℕ)
    → IsShown text o os first out → length text ≤ text_limit → o < end → end ≤ length text
    → ((k : ℕ) → o ≤ k → k < end → is_name_byte (get_or text k 0) ≡ true)
    → (end < length text → is_name_byte (get_or text end 0) ≡ false)
    → name_limit < end - o → text_fault_in text ≡ Some (name_too_long o)
name_shown text o end os first out s short further h names stops long =
    fault-name text o end s.shelves s.trees s.progress short further h names stops long

pub unclosed_shown : (text : List ℕ) (o : ℕ) (os : List ℕ) (p : ℕ) (first : Bool) (out : List ℕ)
    → IsShown text o os first out → length text ≤ text_limit → o ≤ length text → length text ≤ o → 0 < length os → get_or os 0 p ≡ p
    → text_fault_in text ≡ Some (unclosed p)
unclosed_shown text o os p first out s short within end some e =
    go s.shelves s.opened (at_end text o s.shelves s.trees s.progress within end)
  where
    go : (fs : List Shelf) → os ≡ starts fs → Progress text fs s.trees [] → text_fault_in text ≡ Some (unclosed p)
    go [] h q = absurd (let size = ap length h in let bad : ⊥ = omega (arith, size, some) in bad)
    go (f ∷ fs) h q =
        left_open text f fs s.trees q short ∙ ap (λ (n : ℕ). Some (unclosed n)) (ap (λ (l : List ℕ). get_or l 0 p) (sym h) ∙ e)

pub all_shown : (text : List ℕ) (o : ℕ) (os : List ℕ) (first : Bool) (out : List ℕ)
    → IsShown text o os first out → length text ≤ text_limit → o ≤ length text → length text ≤ o → length os ≡ 0
    → (ts : Trees) × Reads text ts × (out ≡ lines_of ts)
all_shown text o os first out s short within end none =
    go s.shelves s.opened (at_end text o s.shelves s.trees s.progress within end) s.shown
  where
    go : (fs : List Shelf) → os ≡ starts fs → Progress text fs s.trees [] → out ≡ written fs s.trees
        → (ts : Trees) × Reads text ts × (out ≡ lines_of ts)
    go [] h q w = (trees_of s.trees, read_all text s.trees q short, w)
    go (f ∷ fs) h q w = absurd (let size = ap length h in let bad : ⊥ = omega (arith, size, none) in bad)
