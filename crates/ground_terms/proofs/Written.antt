-- Texts that are written with a stack of what is still to be written.
use Rattle.std.proofs.Common.{ℕ, ◌≡◌, ◌<◌, List, [], ◌∷◌, ◌++◌, length, map, reverse, drop, refl, sym, ◌∙◌, ap, subst, arith, get_or, length-append, append_assoc}
use Rattle.std.proofs.lemmas.List.{append-nil, reverse-append, reverse-reverse}
use Rattle.statement.specs.Tree.{Tree, text, further_text, trees_of}
use Rattle.ground_terms.specs.declared.writing.Pending.{Pending}
use Rattle.ground_terms.specs.declared.writing.Pending.TheVariants.{Term, Closing}
use Rattle.rules_clauses.specs.Marks.{NumbersBelow}
use Rattle.rules_clauses.specs.Numbers.{word_at}
use Rattle.ground_terms.specs.Keys.{term_at, tree_of_key, trees, IsKey}
use Rattle.util_interner.specs.KeyLists.{key_at}
use Rattle.ground_terms.specs.Arena.{AreNumbered}
use Rattle.ground_terms.specs.Writing.{pending_text, AreKnown, Writes}
use Rattle.ground_terms.proofs.KeyTrees.{tree_of_number, below_more}

pending_append : (terms : List Tree) (ps qs : List Pending) → pending_text terms (ps ++ qs) ≡ pending_text terms ps ++ pending_text terms qs
pending_append terms [] qs = refl
pending_append terms (Term k ∷ ps) qs =
    ap (λ (bs : List ℕ). 32 ∷ text (term_at terms k) ++ bs) (pending_append terms ps qs)
    ∙ ap (λ (bs : List ℕ). 32 ∷ bs) (sym (append_assoc (text (term_at terms k)) (pending_text terms ps) (pending_text terms qs)))
pending_append terms (Closing ∷ ps) qs = ap (λ (bs : List ℕ). 41 ∷ bs) (pending_append terms ps qs)

known_append : (n : ℕ) (ps qs : List Pending) → AreKnown n ps → AreKnown n qs → AreKnown n (ps ++ qs)
known_append n [] qs h k = k
known_append n (Term t ∷ ps) qs h k = (h.0, known_append n ps qs h.1 k)
known_append n (Closing ∷ ps) qs h k = known_append n ps qs h k

known_rest : (n : ℕ) (p : Pending) (ps : List Pending) → AreKnown n (p ∷ ps) → AreKnown n ps
known_rest n (Term t) ps h = h.1
known_rest n Closing ps h = h

known_first : (n : ℕ) (p : Pending) (ps : List Pending) → AreKnown n (p ∷ ps) → AreKnown n (p ∷ [])
known_first n (Term t) ps h = (h.0, tt)
known_first n Closing ps h = tt

-- The beginning of a term.

known_terms : (n : ℕ) (ps : List ℕ) → NumbersBelow n ps → AreKnown n (map (λ (k : ℕ). Term k) ps ++ Closing ∷ [])
known_terms n [] h = tt
known_terms n (p ∷ ps) h = (h.0, known_terms n ps h.1)

pending_parts : (terms : List Tree) (ps : List ℕ) → pending_text terms (map (λ (k : ℕ). Term k) ps ++ Closing ∷ []) ≡ further_text
    (trees_of (map (term_at terms) ps))
pending_parts terms [] = refl
pending_parts terms (p ∷ ps) = ap (λ (bs : List ℕ). 32 ∷ text (term_at terms p) ++ bs) (pending_parts terms ps)

pub begin_name : (words : List (List ℕ)) (many : ℕ) (keys : List (List ℕ)) (number : ℕ) (key word out wrote : List ℕ) (before : List Pending)
    → AreNumbered many keys → number < length keys
    → key ≡ key_at keys number → length key ≡ 1 → word ≡ word_at words (get_or key 0 0) → wrote ≡ out ++ word
    → Writes (length keys) (trees words keys) (text (term_at (trees words keys) number)) out wrote before before
begin_name words many keys number key word out wrote before a h k one w e = record {
  written = word;
  more = [];
  out_is = e;
  stack = sym (append-nil before);
  text_is = append-nil word ∙ w ∙ name_text key one
      ∙ ap text (ap (λ (x : List ℕ). tree_of_key words (trees words keys) x) k ∙ sym (tree_of_number words many keys a.keyed number h));
  known = tt;
}
  where
    name_text : (x : List ℕ) → length x ≡ 1 → word_at words (get_or x 0 0) ≡ text (tree_of_key words (trees words keys) x)
    name_text [] f = absurd (let bad : ⊥ = omega (arith, f) in bad)
    name_text (v ∷ []) f = refl
    name_text (v ∷ (p ∷ ps)) f = absurd (let bad : ⊥ = omega (arith, f) in bad)

begin_at : (words : List (List ℕ)) (many n : ℕ) (terms : List Tree) (number : ℕ) (key out wrote : List ℕ) (before after : List Pending) → number < n
    → IsKey many number key → (length key ≡ 1 → ⊥)
    → wrote ≡ (out ++ 40 ∷ []) ++ word_at words (get_or key 0 0) → after ≡ (before ++ Closing ∷ []) ++ reverse (map (λ (k : ℕ). Term k) (drop 1 key))
    → Writes n terms (text (tree_of_key words terms key)) out wrote before after
begin_at words many n terms number [] out wrote before after h i not_one e f = absurd i
begin_at words many n terms number (w ∷ []) out wrote before after h i not_one e f = absurd (not_one refl)
begin_at words many n terms number (w ∷ (p ∷ ps)) out wrote before after h i not_one e f = record {
  written = 40 ∷ word_at words w;
  more = map (λ (k : ℕ). Term k) (p ∷ ps) ++ Closing ∷ [];
  out_is = e ∙ append_assoc out (40 ∷ []) (word_at words w);
  stack =
      f ∙ append_assoc before (Closing ∷ []) (reverse (map (λ (k : ℕ). Term k) (p ∷ ps)))
      ∙ ap (λ (xs : List Pending). before ++ xs) (sym (reverse-append (map (λ (k : ℕ). Term k) (p ∷ ps)) (Closing ∷ [])));
  text_is = ap (λ (bs : List ℕ). 40 ∷ (word_at words w ++ bs)) (pending_parts terms (p ∷ ps));
  known = known_terms n (p ∷ ps) (below_more number n (p ∷ ps) (omega (arith, h)) i.1);
}

begin_list : (words : List (List ℕ)) (many : ℕ) (keys : List (List ℕ)) (number : ℕ) (key word out wrote : List ℕ) (before after : List Pending)
    → AreNumbered many keys → number < length keys
    → key ≡ key_at keys number → (length key ≡ 1 → ⊥) → word ≡ word_at words (get_or key 0 0) → wrote ≡ (out ++ 40 ∷ []) ++ word
    → after ≡ (before ++ Closing ∷ []) ++ reverse (map (λ (k : ℕ). Term k) (drop 1 key))
    → Writes (length keys) (trees words keys) (text (term_at (trees words keys) number)) out wrote before after
begin_list words many keys number key word out wrote before after a h k not_one w e f =
    subst (λ (t : Tree). Writes (length keys) (trees words keys) (text t) out wrote before after)
    (ap (λ (x : List ℕ). tree_of_key words (trees words keys) x) k ∙ sym (tree_of_number words many keys a.keyed number h))
    (begin_at words many (length keys) (trees words keys) number key out wrote before after h
    (subst (λ (x : List ℕ). IsKey many number x) (sym k) (a.keyed.each number h)) not_one
    (e ∙ ap (λ (bs : List ℕ). (out ++ 40 ∷ []) ++ bs) w) f)

some_word : (many n : ℕ) (key : List ℕ) → IsKey many n key → 0 < length key
some_word many n [] h = absurd h
some_word many n (w ∷ ps) h = omega arith

pub some_key : (many : ℕ) (keys : List (List ℕ)) (number : ℕ) (key : List ℕ) → AreNumbered many keys → number < length keys → key ≡ key_at keys number
    → 0 < length key
some_key many keys number key a h e = some_word many number key (subst (λ (x : List ℕ). IsKey many number x) (sym e) (a.keyed.each number h))

-- What comes next.

pub closed : (n : ℕ) (terms : List Tree) (out wrote : List ℕ) (before : List Pending) → wrote ≡ out ++ 41 ∷ []
    → Writes n terms (pending_text terms (Closing ∷ [])) out wrote before before
closed n terms out wrote before e = record { written = 41 ∷ []; more = []; out_is = e; stack = sym (append-nil before); text_is = refl; known = tt }

pub spaced : (n : ℕ) (terms : List Tree) (k : ℕ) (out between wrote : List ℕ) (before after : List Pending) → between ≡ out ++ 32 ∷ []
    → Writes n terms (text (term_at terms k)) between wrote before after
    → Writes n terms (pending_text terms (Term k ∷ [])) out wrote before after
spaced n terms k out between wrote before after e w = record {
  written = 32 ∷ w.written;
  more = w.more;
  out_is = w.out_is ∙ ap (λ (bs : List ℕ). bs ++ w.written) e ∙ append_assoc out (32 ∷ []) w.written;
  stack = w.stack;
  text_is = ap (λ (bs : List ℕ). 32 ∷ bs) (w.text_is ∙ sym (append-nil (text (term_at terms k))));
  known = w.known;
}

-- What is left.

pub record Left (n : ℕ) (terms : List Tree) (goal out : List ℕ) (stack : List Pending) : Type 0 where
  pub same : out ++ pending_text terms (reverse stack) ≡ goal
  pub known : AreKnown n (reverse stack)

next_text : (terms : List Tree) (stack rest : List Pending) (next : Pending) → stack ≡ rest ++ next ∷ []
    → pending_text terms (reverse stack) ≡ pending_text terms (next ∷ []) ++ pending_text terms (reverse rest)
next_text terms stack rest next e =
    ap (λ (ps : List Pending). pending_text terms ps) (ap (λ (ps : List Pending). reverse ps) e ∙ reverse-append rest (next ∷ []))
    ∙ pending_append terms (next ∷ []) (reverse rest)

after_text : (n : ℕ) (terms : List Tree) (whole out wrote : List ℕ) (rest after : List Pending) (w : Writes n terms whole out wrote rest after)
    → pending_text terms (reverse after) ≡ pending_text terms w.more ++ pending_text terms (reverse rest)
after_text n terms whole out wrote rest after w =
    ap (λ (ps : List Pending). pending_text terms ps) (ap (λ (ps : List Pending). reverse ps) w.stack ∙ reverse-append rest (reverse w.more)
    ∙ ap (λ (ps : List Pending). ps ++ reverse rest) (reverse-reverse w.more))
    ∙ pending_append terms w.more (reverse rest)

known_after : (n : ℕ) (terms : List Tree) (whole out wrote : List ℕ) (rest after : List Pending) → Writes n terms whole out wrote rest after
    → AreKnown n (reverse rest) → AreKnown n (reverse after)
known_after n terms whole out wrote rest after w h =
    subst (λ (ps : List Pending). AreKnown n ps)
    (sym (ap (λ (ps : List Pending). reverse ps) w.stack ∙ reverse-append rest (reverse w.more)
    ∙ ap (λ (ps : List Pending). ps ++ reverse rest) (reverse-reverse w.more)))
    (known_append n w.more (reverse rest) w.known h)

known_next : (n : ℕ) (stack rest : List Pending) (next : Pending) → stack ≡ rest ++ next ∷ [] → AreKnown n (reverse stack)
    → AreKnown n (next ∷ reverse rest)
known_next n stack rest next e h = subst (λ (ps : List Pending). AreKnown n ps)
    (ap (λ (ps : List Pending). reverse ps) e ∙ reverse-append rest (next ∷ [])) h

pub next_known : (n : ℕ) (terms : List Tree) (goal out : List ℕ) (stack rest : List Pending) (next : Pending) → Left n terms goal out stack
    → stack ≡ rest ++ next ∷ [] → AreKnown n (next ∷ [])
next_known n terms goal out stack rest next l e = known_first n next (reverse rest) (known_next n stack rest next e l.known)

pub begun : (n : ℕ) (terms : List Tree) (whole out wrote : List ℕ) (before after : List Pending) → before ≡ []
    → Writes n terms whole out wrote before after → Left n terms (out ++ whole) wrote after
begun n terms whole out wrote before after e w =
    let rest : reverse before ≡ [] = ap (λ (ps : List Pending). reverse ps) e in
    record {
      same =
          ap (λ (bs : List ℕ). wrote ++ bs) (after_text n terms whole out wrote before after w
          ∙ ap (λ (ps : List Pending). pending_text terms w.more ++ pending_text terms ps) rest ∙ append-nil (pending_text terms w.more))
          ∙ ap (λ (bs : List ℕ). bs ++ pending_text terms w.more) w.out_is ∙ append_assoc out w.written (pending_text terms w.more)
          ∙ ap (λ (bs : List ℕ). out ++ bs) w.text_is;
      known = known_after n terms whole out wrote before after w (subst (λ (ps : List Pending). AreKnown n ps) (sym rest) tt);
    }

pub wrote_next : (n : ℕ) (terms : List Tree) (goal out wrote : List ℕ) (stack rest after : List Pending) (next : Pending)
    → Left n terms goal out stack → stack ≡ rest ++ next ∷ []
    → Writes n terms (pending_text terms (next ∷ [])) out wrote rest after → Left n terms goal wrote after
wrote_next n terms goal out wrote stack rest after next l e w = record {
  same =
      ap (λ (bs : List ℕ). bs ++ pending_text terms (reverse after)) w.out_is
      ∙ ap (λ (bs : List ℕ). (out ++ w.written) ++ bs) (after_text n terms (pending_text terms (next ∷ [])) out wrote rest after w)
      ∙ append_assoc out w.written (pending_text terms w.more ++ pending_text terms (reverse rest))
      ∙ ap (λ (bs : List ℕ). out ++ bs) (sym (append_assoc w.written (pending_text terms w.more) (pending_text terms (reverse rest)))
      ∙ ap (λ (bs : List ℕ). bs ++ pending_text terms (reverse rest)) w.text_is ∙ sym (next_text terms stack rest next e))
      ∙ l.same;
  known = known_after n terms (pending_text terms (next ∷ [])) out wrote rest after w
      (known_rest n next (reverse rest) (known_next n stack rest next e l.known));
}

pub less_left : (n : ℕ) (terms : List Tree) (out wrote : List ℕ) (stack rest after : List Pending) (next : Pending) → stack ≡ rest ++ next ∷ []
    → length out < length wrote
    → Writes n terms (pending_text terms (next ∷ [])) out wrote rest after
    → length (pending_text terms (reverse after)) < length (pending_text terms (reverse stack))
less_left n terms out wrote stack rest after next e h w =
    let a = ap length (after_text n terms (pending_text terms (next ∷ [])) out wrote rest after w)
    ∙ length-append (pending_text terms w.more) (pending_text terms (reverse rest)) in
    let b = ap length (next_text terms stack rest next e) ∙ length-append (pending_text terms (next ∷ [])) (pending_text terms (reverse rest)) in
    let c = sym (length-append w.written (pending_text terms w.more)) ∙ ap length w.text_is in
    let d = ap length w.out_is ∙ length-append out w.written in
    omega (arith, a, b, c, d, h)

pub all_left : (n : ℕ) (terms : List Tree) (goal out : List ℕ) (stack : List Pending) → length stack ≡ 0 → Left n terms goal out stack → out ≡ goal
all_left n terms goal out [] e l = sym (append-nil out) ∙ l.same
all_left n terms goal out (p ∷ ps) e l = absurd (let bad : ⊥ = omega (arith, e) in bad)

pub begin_more : (words : List (List ℕ)) (many : ℕ) (keys : List (List ℕ)) (number : ℕ) (key word out between wrote : List ℕ)
    (before mid after : List Pending) → AreNumbered many keys → number < length keys
    → key ≡ key_at keys number → (length key ≡ 1 → ⊥) → word ≡ word_at words (get_or key 0 0) → between ≡ out ++ 40 ∷ [] → wrote ≡ between ++ word
    → mid ≡ before ++ Closing ∷ [] → after ≡ mid ++ reverse (map (λ (k : ℕ). Term k) (drop 1 key))
    → Writes (length keys) (trees words keys) (text (term_at (trees words keys) number)) out wrote before after
begin_more words many keys number key word out between wrote before mid after a h k not_one w e f g i =
    begin_list words many keys number key word out wrote before after a h k not_one w (f ∙ ap (λ (bs : List ℕ). bs ++ word) e)
    (i ∙ ap (λ (ps : List Pending). ps ++ reverse (map (λ (k : ℕ). Term k) (drop 1 key))) g)
