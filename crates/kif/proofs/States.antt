-- The state of a reader at an offset, from one turn of its loop to the next.
use Rattle.std.proofs.Common.{ℕ, ◌+◌, ◌-◌, ◌≡◌, ◌≢◌, ◌<◌, ◌≤◌, true, false, List, [], ◌∷◌, ◌++◌, take, drop, length, get_or, refl, sym, ap, subst}
use Rattle.std.proofs.Common.{◌∙◌, arith}
use Rattle.std.specs.Prelude.{Some}
use Rattle.kif.specs.declared.reader.Open.{Open}
use Rattle.statement.specs.Tree.{Tree, name, list, trees_of}
use Rattle.statement.specs.Lexical.{is_space, is_name_byte}
use Rattle.kif.specs.Kinds.{IsStray}
use Rattle.statement.specs.Reading.{Reads, text_limit, name_limit, open_limit, text_fault_in, too_deep, unopened, unclosed, bad_byte, name_too_long}
use Rattle.kif.proofs.Shelves.{Shelf, IsShelved, length-opens, none_shelved, add_shelved, open_shelved, close_shelved}
use Rattle.kif.proofs.Progress.{Progress, begun, read_all, left_open}
use Rattle.kif.proofs.Turns.{left, name_between, turn-opening, turn-closing, turn-space, turn-comment, turn-name, fault-opening, fault-closing}
use Rattle.kif.proofs.Turns.{fault-stray, fault-name, at_end}

-- some open lists and trees of theirs, of which the reader keeps os and ts, are what was read before o
pub record IsState (text : List ℕ) (o : ℕ) (os : List Open) (ts : List Tree) : Type 0 where
  pub shelves : List Shelf
  pub trees : List Tree
  pub shelved : IsShelved os ts shelves trees
  pub progress : Progress text shelves trees (left text o)

pub state_begun : (text : List ℕ) (os : List Open) (ts : List Tree) → os ≡ [] → ts ≡ [] → IsState text 0 os ts
state_begun text os ts e f =
    subst (λ (l : List Open). IsState text 0 l ts) (sym e)
    (subst (λ (l : List Tree). IsState text 0 [] l) (sym f) (record { shelves = []; trees = []; shelved = none_shelved; progress = begun text }))

stated : (text : List ℕ) (o : ℕ) (os ps : List Open) (ts us : List Tree) → ps ≡ os → us ≡ ts → IsState text o os ts → IsState text o ps us
stated text o os ps ts us e f s =
    subst (λ (l : List Open). IsState text o l us) (sym e) (subst (λ (l : List Tree). IsState text o os l) (sym f) s)

pub state-opening : (text : List ℕ) (o : ℕ) (os ps : List Open) (ts us : List Tree)
    → IsState text o os ts → o < length text → get_or text o 0 ≡ 40 → length os ≢ open_limit
    → ps ≡ os ++ record { start = o; before = length ts } ∷ [] → us ≡ ts → IsState text (o + 1) ps us
state-opening text o os ps ts us s h e few f g =
    stated text (o + 1) _ ps ts us f g (record {
      shelves = s.shelves ++ record { start = o; before = s.trees } ∷ [];
      trees = [];
      shelved = open_shelved os ts s.shelves s.trees o s.shelved;
      progress = turn-opening text o s.shelves _ s.trees _ s.progress h e
          (λ full. few (ap length (s.shelved.opened) ∙ length-opens 0 s.shelves ∙ full)) refl refl;
    })

pub before_fits : (text : List ℕ) (o : ℕ) (os ps : List Open) (p : Open) (ts : List Tree) → IsState text o os ts → os ≡ ps ++ p ∷ []
    → p.before ≤ length ts
before_fits text o os ps p ts s e =
    let c = close_shelved ps p ts s.shelves s.trees (subst (λ (l : List Open). IsShelved l ts s.shelves s.trees) e s.shelved) in c.fits

pub state-closing : (text : List ℕ) (o : ℕ) (os ps qs : List Open) (p : Open) (ts us : List Tree)
    → IsState text o os ts → o < length text → get_or text o 0 ≡ 41
    → os ≡ ps ++ p ∷ [] → qs ≡ ps → us ≡ take p.before ts ++ list (trees_of (drop p.before ts)) ∷ []
    → IsState text (o + 1) qs us
state-closing text o os ps qs p ts us s h e d f g =
    let c = close_shelved ps p ts s.shelves s.trees (subst (λ (l : List Open). IsShelved l ts s.shelves s.trees) d s.shelved) in
    let closed = ap (λ (l : List Tree). take p.before ts ++ list (trees_of l) ∷ []) c.within in
    stated text (o + 1) ps qs _ us f (g ∙ closed) (record {
      shelves = c.around;
      trees = c.inner.before ++ list (trees_of s.trees) ∷ [];
      shelved = add_shelved ps (take p.before ts) c.around c.inner.before (list (trees_of s.trees)) c.shelved;
      progress = turn-closing text o s.shelves c.around c.around c.inner s.trees _ s.progress h e c.split refl refl;
    })

pub state-space : (text : List ℕ) (o : ℕ) (os : List Open) (ts : List Tree)
    → IsState text o os ts → o < length text → is_space (get_or text o 0) ≡ true → IsState text (o + 1) os ts
state-space text o os ts s h e = record {
  shelves = s.shelves;
  trees = s.trees;
  shelved = s.shelved;
  progress =
      turn-space text o s.shelves s.trees s.progress h e;
}

pub state-comment : (text : List ℕ) (o end : ℕ) (os : List Open) (ts : List Tree)
    → IsState text o os ts → o < end → end ≤ length text → get_or text o 0 ≡ 59
    → ((k : ℕ) → o ≤ k → k < end → get_or text k 0 ≢ 10)
    → (end < length text → get_or text end 0 ≡ 10)
    → IsState text end os ts
state-comment text o end os ts s further h e inside stops = record {
  shelves = s.shelves;
  trees = s.trees;
  shelved = s.shelved;
  progress = turn-comment text o end s.shelves s.trees s.progress further h e inside stops;
}

pub state-name : (text : List ℕ) (o end : ℕ) (os ps : List Open) (ts us : List Tree)
    → IsState text o os ts → o < end → end ≤ length text
    → ((k : ℕ) → o ≤ k → k < end → is_name_byte (get_or text k 0) ≡ true)
    → (end < length text → is_name_byte (get_or text end 0) ≡ false)
    → end - o ≤ name_limit → ps ≡ os → us ≡ ts ++ name (name_between text o end) ∷ []
    → IsState text end ps us
state-name text o end os ps ts us s further h names stops short f g =
    stated text end os ps _ us f g (record {
      shelves = s.shelves;
      trees = s.trees ++ name (name_between text o end) ∷ [];
      shelved = add_shelved os ts s.shelves s.trees (name (name_between text o end)) s.shelved;
      progress = turn-name text o end s.shelves s.shelves s.trees _ s.progress further h names stops short refl refl;
    })

-- what is answered

pub deep_fault : (text : List ℕ) (o : ℕ) (os : List Open) (ts : List Tree)
    → IsState text o os ts → length text ≤ text_limit → o < length text → get_or text o 0 ≡ 40 → length os ≡ open_limit
    → text_fault_in text ≡ Some (too_deep o)
deep_fault text o os ts s short h e full =
    fault-opening text o s.shelves s.trees s.progress short h e (sym (length-opens 0 s.shelves) ∙ ap length (sym s.shelved.opened) ∙ full)

pub unopened_fault : (text : List ℕ) (o : ℕ) (os : List Open) (ts : List Tree)
    → IsState text o os ts → length text ≤ text_limit → o < length text → get_or text o 0 ≡ 41 → length os ≡ 0 → text_fault_in text ≡ Some (unopened o)
unopened_fault text o os ts s short h e none =
    fault-closing text o s.shelves s.trees s.progress short h e (sym (length-opens 0 s.shelves) ∙ ap length (sym s.shelved.opened) ∙ none)

pub stray_fault : (text : List ℕ) (o : ℕ) (os : List Open) (ts : List Tree)
    → IsState text o os ts → length text ≤ text_limit → o < length text → IsStray (get_or text o 0) → text_fault_in text ≡ Some (bad_byte o)
stray_fault text o os ts s short h e = fault-stray text o s.shelves s.trees s.progress short h e

pub name_fault : (text : List ℕ) (o end : ℕ) (os : List Open) (ts : List Tree)
    → IsState text o os ts → length text ≤ text_limit → o < end → end ≤ length text
    → ((k : ℕ) → o ≤ k → k < end → is_name_byte (get_or text k 0) ≡ true)
    → (end < length text → is_name_byte (get_or text end 0) ≡ false)
    → name_limit < end - o → text_fault_in text ≡ Some (name_too_long o)
name_fault text o end os ts s short further h names stops long = fault-name text o end s.shelves s.trees s.progress short further h names stops long

pub unclosed_fault : (text : List ℕ) (o : ℕ) (os : List Open) (p : Open) (ts : List Tree)
    → IsState text o os ts → length text ≤ text_limit → o ≤ length text → length text ≤ o → 0 < length os → get_or os 0 p ≡ p
    → text_fault_in text ≡ Some (unclosed p.start)
unclosed_fault text o os p ts s short within end some e = go s.shelves s.shelved (at_end text o s.shelves s.trees s.progress within end)
  where
    go : (fs : List Shelf) → IsShelved os ts fs s.trees → Progress text fs s.trees [] → text_fault_in text ≡ Some (unclosed p.start)
    go [] h q = absurd (let size = ap length h.opened in omega arith)
    go (f ∷ fs) h q =
        left_open text f fs s.trees q short
        ∙ ap (λ (l : Open). Some (unclosed l.start)) (ap (λ (l : List Open). get_or l 0 p) (sym h.opened) ∙ e)

pub all_read : (text : List ℕ) (o : ℕ) (os : List Open) (ts : List Tree)
    → IsState text o os ts → length text ≤ text_limit → o ≤ length text → length text ≤ o → length os ≡ 0 → Reads text (trees_of ts)
all_read text o os ts s short within end none = go s.shelves s.shelved (at_end text o s.shelves s.trees s.progress within end)
  where
    go : (fs : List Shelf) → IsShelved os ts fs s.trees → Progress text fs s.trees [] → Reads text (trees_of ts)
    go [] h q = subst (λ (l : List Tree). Reads text (trees_of l)) (sym h.trees) (read_all text s.trees q short)
    go (f ∷ fs) h q = absurd (let size = ap length h.opened in omega arith)
