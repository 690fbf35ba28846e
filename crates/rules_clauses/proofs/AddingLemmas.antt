-- Additions to the lists in memory.
use Rattle.std.proofs.Common.{ℕ, suc, zero, ◌≡◌, ◌+◌, ◌-◌, ◌<◌, ◌≤◌, Bool, true, false, cond, List, [], ◌∷◌, ◌++◌, length, take, drop, refl, sym, ◌∙◌}
use Rattle.std.proofs.Common.{ap, subst, arith, get_or, append_assoc, length-append}
use Rattle.std.specs.Prelude.{slice_index, slice_index_or, slice_range}
use Rattle.std.proofs.lemmas.List.{append-nil}
use Rattle.statement.specs.Tree.{Tree, name, list, tree, trees_of}
use Rattle.rules_clauses.specs.declared.numbered.Part.{Part}
use Rattle.rules_clauses.specs.declared.numbered.Part.TheVariants as parts
use Rattle.rules_clauses.specs.declared.numbered.Atom.{Atom}
use Rattle.rules_clauses.specs.declared.numbered.Literal.{Literal}
use Rattle.rules_clauses.specs.declared.signatures.Signature.{Signature}
use Rattle.statement.specs.Clause as said
use Rattle.statement.specs.Clause.{is_variable, positive, negative, count_trees}
use Rattle.rules_clauses.specs.Signatures.{no_signature, signature_at, with_signature}
use Rattle.rules_clauses.specs.Numbers.{BeginsWith, word_at, with_word, with_fresh}
use Rattle.rules_clauses.specs.Store.{Data, variable_name, with_part, terms_before, count_terms, AreFull, relation_at, literal_of, no_literal}
use Rattle.rules_clauses.specs.Adding.{Extends, DataGrows, AreSorted, Spells, AddsTerms, MakesPart, BeginsList, NumbersRelation, AtomStandsFor, AddsAtom, AddsLiteral}
use Rattle.rules_clauses.proofs.NumberLemmas.{with_word-Begins, with_word-AreDifferent, with_fresh-Begins, with_fresh-StandOnce}
use Rattle.rules_clauses.proofs.SignatureLemmas.{with_signature-Begins, with_signature-AreDifferent, with_signature-named}

-- Lists that grow.

pub begins_refl : {A : Type 0} (xs : List A) → BeginsWith xs xs
begins_refl xs = ([], sym (append-nil xs))

pub begins_trans : {A : Type 0} (xs ys zs : List A) → BeginsWith xs ys → BeginsWith ys zs → BeginsWith xs zs
begins_trans xs ys zs (a, e) (b, f) = (a ++ b, f ∙ ap (λ (us : List _). us ++ b) e ∙ append_assoc xs a b)

at_before : {A : Type 0} (xs more : List A) (k : ℕ) (d : A) → k < length xs → get_or (xs ++ more) k d ≡ get_or xs k d
at_before [] more k d h = absurd (let bad : ⊥ = omega (arith, h) in bad)
at_before (x ∷ xs) more zero d h = refl
at_before (x ∷ xs) more (suc k) d h = at_before xs more k d (omega (arith, h))

pub begins_at : {A : Type 0} (xs ys : List A) (k : ℕ) (d : A) → BeginsWith xs ys → k < length xs → get_or ys k d ≡ get_or xs k d
begins_at xs ys k d (more, e) h = ap (λ (us : List _). get_or us k d) e ∙ at_before xs more k d h

pub begins_long : {A : Type 0} (xs ys : List A) (k : ℕ) → BeginsWith xs ys → k ≤ length xs → k ≤ length ys
begins_long xs ys k (more, e) h = let l = ap length e ∙ length-append xs more in omega (arith, l, h)

pub begins_less : {A : Type 0} (xs ys : List A) (k : ℕ) → BeginsWith xs ys → k < length xs → k < length ys
begins_less xs ys k (more, e) h = let l = ap length e ∙ length-append xs more in omega (arith, l, h)

pub extends_refl : (d : Data) → Extends d d
extends_refl d =
    record {
      words = begins_refl d.words;
      signatures = begins_refl d.signatures;
      variables = begins_refl d.variables;
      parts =
          begins_refl d.parts;
      literals = begins_refl d.literals;
    }

pub extends_trans : (a b c : Data) → Extends a b → Extends b c → Extends a c
extends_trans a b c x y =
    record {
      words = begins_trans _ _ _ x.words y.words;
      signatures = begins_trans _ _ _ x.signatures y.signatures;
      variables = begins_trans _ _ _ x.variables y.variables;
      parts = begins_trans _ _ _ x.parts y.parts;
      literals = begins_trans _ _ _ x.literals y.literals;
    }

pub grows_refl : (from : ℕ) (d : Data) → DataGrows from d d
grows_refl from d = record { extends = extends_refl d; words = λ h. h; signatures = λ h. h; named = λ h. h; variables = λ h. h }

pub grows_trans : (from : ℕ) (a b c : Data) → DataGrows from a b → DataGrows from b c → DataGrows from a c
grows_trans from a b c x y =
    record {
      extends = extends_trans a b c x.extends y.extends;
      words = λ h. y.words (x.words h);
      signatures = λ h. y.signatures (x.signatures h);
      named = λ h. y.named (x.named h);
      variables = λ h. y.variables (x.variables h);
    }

pub grows_word : (from : ℕ) (a b : Data) (w : List ℕ) → b ≡ record a { words = with_word a.words w } → DataGrows from a b
grows_word from a b w e =
    subst (λ (d : Data). DataGrows from a d) (sym e)
    (record {
      extends = record {
        words = with_word-Begins a.words w;
        signatures = begins_refl a.signatures;
        variables = begins_refl a.variables;
        parts =
            begins_refl a.parts;
        literals = begins_refl a.literals;
      };
      words = with_word-AreDifferent a.words w;
      signatures = λ h. h;
      named = λ h r k. begins_less a.words (with_word a.words w) _ (with_word-Begins a.words w) (h r k);
      variables = λ h. h;
    })

pub grows_variable : (from : ℕ) (a b : Data) (s : ℕ) → from ≤ length a.variables → b ≡ record a { variables = with_fresh from a.variables s }
    → DataGrows from a b
grows_variable from a b s h e =
    subst (λ (d : Data). DataGrows from a d) (sym e)
    (record {
      extends = record {
        words = begins_refl a.words;
        signatures = begins_refl a.signatures;
        variables =
            with_fresh-Begins from a.variables s;
        parts = begins_refl a.parts;
        literals = begins_refl a.literals;
      };
      words = λ h. h;
      signatures = λ h. h;
      named = λ h. h;
      variables = with_fresh-StandOnce from a.variables s h;
    })

pub grows_part : (from : ℕ) (a b : Data) (p : Part) → b ≡ record a { parts = a.parts ++ p ∷ [] } → DataGrows from a b
grows_part from a b p e =
    subst (λ (d : Data). DataGrows from a d) (sym e)
    (record {
      extends = record {
        words = begins_refl a.words;
        signatures = begins_refl a.signatures;
        variables = begins_refl a.variables;
        parts =
            (p ∷ [], refl);
        literals = begins_refl a.literals;
      };
      words = λ h. h;
      signatures = λ h. h;
      named = λ h. h;
      variables = λ h. h;
    })

-- Terms.

pub before_append : (d : Data) (from : ℕ) (ps qs : List Part) (behind : List Tree)
    → terms_before d from (ps ++ qs) behind ≡ terms_before d from ps (terms_before d from qs behind)
before_append d from [] qs behind = refl
before_append d from (p ∷ ps) qs behind = ap (λ (ts : List Tree). with_part d from p ts) (before_append d from ps qs behind)

pub sorted_append : (d : Data) (from : ℕ) (ps qs : List Part) → AreSorted d from ps → AreSorted d from qs → AreSorted d from (ps ++ qs)
sorted_append d from [] qs h k = k
sorted_append d from (p ∷ ps) qs h k = (h.0, sorted_append d from ps qs h.1 k)

pub adds_none : (from : ℕ) (d : Data) → AddsTerms from d d []
adds_none from d =
    record {
      grows = grows_refl from d;
      added = [];
      behind = sym (append-nil d.parts);
      spells = record { terms = λ later e behind. refl; sorted = λ later e. tt; full = λ behind h. h; count = λ behind. omega arith };
    }

pub spells_both : (from : ℕ) (a b : Data) (ps qs : List Part) (ts us : List Tree) → Extends a b → Spells from a ps ts → Spells from b qs us
    → Spells from b (ps ++ qs) (ts ++ us)
spells_both from a b ps qs ts us x s t =
    record {
      terms = λ later e behind.
          before_append later from ps qs behind
          ∙ ap (λ (vs : List Tree). terms_before later from ps vs) (t.terms later e behind)
          ∙ s.terms later (extends_trans a b later x e) (us ++ behind)
          ∙ sym (append_assoc ts us behind);
      sorted = λ later e. sorted_append later from ps qs (s.sorted later (extends_trans a b later x e)) (t.sorted later e);
      full = λ behind h. subst (λ (rs : List Part). AreFull rs) (sym (append_assoc ps qs behind)) (s.full (qs ++ behind) (t.full behind h));
      count = λ behind.
          let long = length-append ts us in
          let front = ap (λ (rs : List Part). count_terms rs) (append_assoc ps qs behind) ∙ s.count (qs ++ behind) in
          let back = t.count behind in
          omega (arith, long, front, back);
    }

pub adds_both : (from : ℕ) (a b c : Data) (ts us : List Tree) → AddsTerms from a b ts → AddsTerms from b c us → AddsTerms from a c (ts ++ us)
adds_both from a b c ts us x y =
    record {
      grows = grows_trans from a b c x.grows y.grows;
      added = x.added ++ y.added;
      behind = y.behind ∙ ap (λ (ps : List Part). ps ++ y.added) x.behind ∙ append_assoc a.parts x.added y.added;
      spells = spells_both from b c x.added y.added ts us y.grows.extends x.spells y.spells;
    }

pub variable_part : (from : ℕ) (a b c : Data) (s v : ℕ) (w : List ℕ) → from ≤ length a.variables → b ≡ record a { words = with_word a.words w }
    → c ≡ record b { variables = with_fresh from b.variables s }
    → (s < length b.words) × (word_at b.words s ≡ w) → (from + v < length c.variables) × (slice_index c.variables (from + v) ≡ s)
    → is_variable w ≡ true
    → MakesPart from a c (parts.Variable v) w
variable_part from a b c s v w h e f (in_words, same_word) (in_variables, same_symbol) variable =
    let short : from ≤ length b.variables = subst (λ (d : Data). from ≤ length d.variables) (sym e) h in
    let grown = grows_variable from b c s short f in
    let at : (later : Data) → Extends c later → slice_index later.variables (from + v) ≡ s =
    λ later x. begins_at c.variables later.variables (from + v) 0 x.variables in_variables ∙ same_symbol in
    let word : (later : Data) → Extends c later → word_at later.words s ≡ w =
    λ later x. begins_at b.words later.words s [] (begins_trans _ _ _ grown.extends.words x.words) in_words ∙ same_word in
    let same : (later : Data) → Extends c later → variable_name later from v ≡ w = λ later x. ap (λ (n : ℕ). word_at later.words n) (at later x)
    ∙ word later x in
    record {
      grows = grows_trans from a b c (grows_word from a b w e) grown;
      same_parts = ap (λ (d : Data). d.parts) f ∙ ap (λ (d : Data). d.parts) e;
      term = λ later x behind. ap (λ (n : List ℕ). name n ∷ behind) (same later x);
      sorted = λ later x. (
        begins_less c.variables later.variables (from + v) x.variables in_variables,
        subst (λ (n : ℕ). n < length later.words) (sym (at later x))
            (begins_less b.words later.words s (begins_trans _ _ _ grown.extends.words x.words) in_words),
        subst (λ (n : List ℕ). is_variable n ≡ true) (sym (same later x)) variable,
      );
      full = λ behind h. h;
      count = λ behind. refl;
    }

pub constant_part : (from : ℕ) (a b : Data) (s : ℕ) (w : List ℕ) → b ≡ record a { words = with_word a.words w }
    → (s < length b.words) × (word_at b.words s ≡ w) → is_variable w ≡ false
    → MakesPart from a b (parts.Constant s) w
constant_part from a b s w e (in_words, same_word) constant =
    let same : (later : Data) → Extends b later → word_at later.words s ≡ w = λ later x. begins_at b.words later.words s [] x.words in_words
    ∙ same_word in
    record {
      grows = grows_word from a b w e;
      same_parts = ap (λ (d : Data). d.parts) e;
      term = λ later x behind. ap (λ (n : List ℕ). name n ∷ behind) (same later x);
      sorted = λ later x. (
        begins_less b.words later.words s x.words in_words,
        subst (λ (n : List ℕ). is_variable n ≡ false) (sym (same later x)) constant,
      );
      full = λ behind h. h;
      count = λ behind. refl;
    }

pub adds_name : (from : ℕ) (a b c : Data) (p : Part) (w : List ℕ) → MakesPart from a b p w → c ≡ record b { parts = b.parts ++ p ∷ [] }
    → AddsTerms from a c (name w ∷ [])
adds_name from a b c p w m e =
    let grown = grows_part from b c p e in
    record {
      grows = grows_trans from a b c m.grows grown;
      added = p ∷ [];
      behind = ap (λ (d : Data). d.parts) e ∙ ap (λ (ps : List Part). ps ++ p ∷ []) m.same_parts;
      spells = record {
        terms = λ later x behind. m.term later (extends_trans b c later grown.extends x) behind;
        sorted = λ later x. (m.sorted later (extends_trans b c later grown.extends x), tt);
        full = m.full;
        count = λ behind. let k = m.count behind in omega (arith, k);
      };
    }

pub begins_list : (from : ℕ) (a b c : Data) (s n : ℕ) (w : List ℕ) → b ≡ record a { words = with_word a.words w }
    → (s < length b.words) × (word_at b.words s ≡ w)
    → c ≡ record b { parts = b.parts ++ parts.List s n ∷ [] } → BeginsList from a c w n
begins_list from a b c s n w e (in_words, same_word) f =
    let grown = grows_part from b c (parts.List s n) f in
    record {
      grows = grows_trans from a b c (grows_word from a b w e) grown;
      symbol = s;
      behind = ap (λ (d : Data). d.parts) f ∙ ap (λ (d : Data). d.parts ++ parts.List s n ∷ []) e;
      named = λ later x.
          let y = begins_trans _ _ _ grown.extends.words x.words in
          (begins_less b.words later.words s y in_words, begins_at b.words later.words s [] y in_words ∙ same_word);
    }

take_front : (ts us : List Tree) → take (length ts) (ts ++ us) ≡ ts
take_front [] us = refl
take_front (t ∷ ts) us = ap (λ (vs : List Tree). t ∷ vs) (take_front ts us)

drop_front : (ts us : List Tree) → drop (length ts) (ts ++ us) ≡ us
drop_front [] us = refl
drop_front (t ∷ ts) us = drop_front ts us

pub adds_list : (from : ℕ) (a b c : Data) (w : List ℕ) (n : ℕ) (ts : List Tree) → n ≡ length ts → is_variable w ≡ false → BeginsList from a b w n
    → AddsTerms from b c ts
    → AddsTerms from a c (list (tree (name w) (trees_of ts)) ∷ [])
adds_list from a b c w n ts long constant l x =
    record {
      grows = grows_trans from a b c l.grows x.grows;
      added = parts.List l.symbol n ∷ x.added;
      behind = x.behind ∙ ap (λ (ps : List Part). ps ++ x.added) l.behind ∙ append_assoc a.parts (parts.List l.symbol n ∷ []) x.added;
      spells = record {
        terms = λ later e behind.
            ap (λ (vs : List Tree). with_part later from (parts.List l.symbol n) vs) (x.spells.terms later e behind)
            ∙ ap (λ (k : ℕ). with_part later from (parts.List l.symbol k) (ts ++ behind)) long
            ∙ ap (λ (vs : List Tree). list (tree (name (word_at later.words l.symbol)) (trees_of vs)) ∷ drop (length ts) (ts ++ behind))
            (take_front ts behind)
            ∙ ap (λ (vs : List Tree). list (tree (name (word_at later.words l.symbol)) (trees_of ts)) ∷ vs) (drop_front ts behind)
            ∙ ap (λ (v : List ℕ). list (tree (name v) (trees_of ts)) ∷ behind) (l.named later (extends_trans b c later x.grows.extends e)).1;
        sorted = λ later e.
            let k = l.named later (extends_trans b c later x.grows.extends e) in
            ((k.0, subst (λ (v : List ℕ). is_variable v ≡ false) (sym k.1) constant), x.spells.sorted later e);
        full = λ behind h. ((let k = x.spells.count behind in omega (arith, k, long)), x.spells.full behind h);
        count = λ behind. let k = x.spells.count behind in omega (arith, k, long);
      };
    }

pub longer : (from k : ℕ) (a b : Data) → DataGrows from a b → k ≤ length a.variables → k ≤ length b.variables
longer from k a b g h = begins_long a.variables b.variables k g.extends.variables h

-- Relations and atoms.

grows_signature : (from : ℕ) (a b : Data) (s : Signature) → s.word < length a.words → b ≡ record a { signatures = with_signature a.signatures s }
    → DataGrows from a b
grows_signature from a b s there e =
    subst (λ (d : Data). DataGrows from a d) (sym e)
    (record {
      extends = record {
        words = begins_refl a.words;
        signatures = with_signature-Begins a.signatures s;
        variables = begins_refl a.variables;
        parts =
            begins_refl a.parts;
        literals = begins_refl a.literals;
      };
      words = λ h. h;
      signatures = with_signature-AreDifferent a.signatures s;
      named = λ h. with_signature-named a.signatures s (length a.words) there h;
      variables = λ h. h;
    })

pub numbers_relation : (from : ℕ) (a b c : Data) (s r n : ℕ) (w : List ℕ) → b ≡ record a { words = with_word a.words w }
    → (s < length b.words) × (word_at b.words s ≡ w)
    → c ≡ record b { signatures = with_signature b.signatures (record { word = s; arity = n }) }
    → (r < length c.signatures) × (signature_at c.signatures r ≡ record { word = s; arity = n })
    → NumbersRelation from a c r (record { word = w; arity = n })
numbers_relation from a b c s r n w e (in_words, same_word) f (in_signatures, same_signature) =
    let grown = grows_signature from b c (record { word = s; arity = n }) in_words f in
    let at : (later : Data) → Extends c later → signature_at later.signatures r ≡ record { word = s; arity = n } =
    λ later x. begins_at c.signatures later.signatures r no_signature x.signatures in_signatures ∙ same_signature in
    let words : (later : Data) → Extends c later → BeginsWith b.words later.words = λ later x. begins_trans _ _ _ grown.extends.words x.words in
    record {
      grows = grows_trans from a b c (grows_word from a b w e) grown;
      within = λ later x. begins_less c.signatures later.signatures r x.signatures in_signatures;
      named = λ later x. subst (λ (g : Signature). g.word < length later.words) (sym (at later x))
          (begins_less b.words later.words s (words later x) in_words);
      same = λ later x.
          ap (λ (g : Signature). relation_of_signature later g) (at later x)
          ∙ ap (λ (v : List ℕ). record { word = v; arity = n }) (begins_at b.words later.words s [] (words later x) in_words ∙ same_word);
    }
  where
    relation_of_signature : Data → Signature → said.Relation
    relation_of_signature later g = record { word = word_at later.words g.word; arity = g.arity }

parts_between : (xs ys zs ws : List Part) → ws ≡ (xs ++ ys) ++ zs → (i j : ℕ) → i ≡ length xs → j ≡ length (xs ++ ys) → slice_range ws i j ≡ ys
parts_between xs ys zs ws e i j f g =
    let long = length-append xs ys in
    let span : j - i ≡ length ys = omega (arith, f, g, long) in
    ap (λ (us : List Part). slice_range us i j) e
    ∙ ap (λ (n : ℕ). take (j - n) (drop n ((xs ++ ys) ++ zs))) f
    ∙ ap (λ (us : List Part). take (j - length xs) (drop (length xs) us)) (append_assoc xs ys zs)
    ∙ ap (λ (us : List Part). take (j - length xs) us) (drop_parts xs (ys ++ zs))
    ∙ ap (λ (n : ℕ). take n (ys ++ zs)) (ap (λ (n : ℕ). j - n) (sym f) ∙ span)
    ∙ take_parts ys zs
  where
    drop_parts : (us vs : List Part) → drop (length us) (us ++ vs) ≡ vs
    drop_parts [] vs = refl
    drop_parts (u ∷ us) vs = drop_parts us vs

    take_parts : (us vs : List Part) → take (length us) (us ++ vs) ≡ us
    take_parts [] vs = refl
    take_parts (u ∷ us) vs = ap (λ (ps : List Part). u ∷ ps) (take_parts us vs)

pub count_trees-length : (ts : List Tree) → count_trees (trees_of ts) ≡ length ts
count_trees-length [] = refl
count_trees-length (t ∷ ts) = ap (λ (n : ℕ). suc n) (count_trees-length ts)

pub adds_atom : (from : ℕ) (a b c : Data) (r n i j : ℕ) (w : List ℕ) (ts : List Tree) → n ≡ length ts
    → NumbersRelation from a b r (record { word = w; arity = n })
    → AddsTerms from b c ts → i ≡ length b.parts → j ≡ length c.parts
    → AddsAtom from a c (record { relation = r; terms = record { from = i; to = j } }) (record { word = w; terms = trees_of ts })
adds_atom from a b c r n i j w ts long number x f g =
    let up : (later : Data) → Extends c later → Extends b later = λ later e. extends_trans b c later x.grows.extends e in
    let behind : (later : Data) → Extends c later → slice_range later.parts i j ≡ x.added =
    λ later e. parts_between b.parts x.added e.parts.0 later.parts (e.parts.1 ∙ ap (λ (ps : List Part). ps ++ e.parts.0) x.behind) i j f (g
    ∙ ap length x.behind) in
    let arity : (later : Data) → Extends c later → relation_at later r ≡ record { word = w; arity = n } = λ later e. number.same later (up later e) in
    record {
      grows = grows_trans from a b c number.grows x.grows;
      stands = λ later e. record {
        relation = number.within later (up later e);
        word = number.named later (up later e);
        same_relation = arity later e ∙ ap (λ (k : ℕ). record { word = w; arity = k }) (long ∙ sym (count_trees-length ts));
        order = (let h = begins_long b.parts c.parts (length b.parts) x.grows.extends.parts (omega arith) in omega (arith, f, g, h));
        within = (let h = begins_long c.parts later.parts (length c.parts) e.parts (omega arith) in omega (arith, g, h));
        same =
            ap (λ (v : List ℕ). record { word = v; terms = trees_of (terms_before later from (slice_range later.parts i j) []) })
            (ap (λ (q : said.Relation). q.word) (arity later e))
            ∙ ap (λ (us : List Tree). record { word = w; terms = trees_of us })
            (ap (λ (ps : List Part). terms_before later from ps []) (behind later e) ∙ x.spells.terms later e [] ∙ append-nil ts);
        sorted = subst (λ (ps : List Part). AreSorted later from ps) (sym (behind later e)) (x.spells.sorted later e);
        full = subst (λ (ps : List Part). AreFull ps) (append-nil x.added ∙ sym (behind later e)) (x.spells.full [] tt);
      };
    }

-- Literals.

grows_literal : (from : ℕ) (a b : Data) (l : Literal) → b ≡ record a { literals = a.literals ++ l ∷ [] } → DataGrows from a b
grows_literal from a b l e =
    subst (λ (d : Data). DataGrows from a d) (sym e)
    (record {
      extends = record {
        words = begins_refl a.words;
        signatures = begins_refl a.signatures;
        variables = begins_refl a.variables;
        parts =
            begins_refl a.parts;
        literals = (l ∷ [], refl);
      };
      words = λ h. h;
      signatures = λ h. h;
      named = λ h. h;
      variables = λ h. h;
    })

last_literal : (ls : List Literal) (l d : Literal) (n : ℕ) → n ≡ length ls → (n < length (ls ++ l ∷ [])) × (slice_index_or (ls ++ l ∷ []) n d ≡ l)
last_literal ls l d n e = subst (λ (k : ℕ). (k < length (ls ++ l ∷ [])) × (slice_index_or (ls ++ l ∷ []) k d ≡ l)) (sym e) (go ls)
  where
    go : (ks : List Literal) → (length ks < length (ks ++ l ∷ [])) × (slice_index_or (ks ++ l ∷ []) (length ks) d ≡ l)
    go [] = (omega arith, refl)
    go (k ∷ ks) = (let h = (go ks).0 in omega (arith, h), (go ks).1)

abbrev pub literal_said : Bool → said.Atom → said.Literal
literal_said is_negated a = cond is_negated (negative a) (positive a)

literal_said-atom : (b : Bool) (a : said.Atom) → said.atom_of (literal_said b a) ≡ a
literal_said-atom true a = refl
literal_said-atom false a = refl

pub adds_literal : (from : ℕ) (a b c : Data) (x : Atom) (atom : said.Atom) (n : ℕ) (is_negated : Bool) → AddsAtom from a b x atom
    → n ≡ length b.literals
    → c ≡ record b { literals = b.literals ++ record { atom = x; is_negated = is_negated } ∷ [] }
    → AddsLiteral from a c n (literal_said is_negated atom)
adds_literal from a b c x atom n is_negated y e f =
    let l : Literal = record { atom = x; is_negated = is_negated } in
    let grown = grows_literal from b c l f in
    let here : (n < length c.literals) × (slice_index_or c.literals n no_literal ≡ l) =
    subst (λ (d : Data). (n < length d.literals) × (slice_index_or d.literals n no_literal ≡ l)) (sym f) (last_literal b.literals l no_literal n e) in
    let at : (later : Data) → Extends c later → slice_index_or later.literals n no_literal ≡ l =
    λ later g. begins_at c.literals later.literals n no_literal g.literals here.0 ∙ here.1 in
    let stand : (later : Data) → Extends c later → AtomStandsFor from later x atom =
    λ later g. y.stands later (extends_trans b c later grown.extends g) in
    record {
      grows = grows_trans from a b c y.grows grown;
      stands = λ later g. record {
        within = begins_less c.literals later.literals n g.literals here.0;
        atom = subst (λ (k : Literal). AtomStandsFor from later k.atom (said.atom_of (literal_said is_negated atom))) (sym (at later g))
            (subst (λ (q : said.Atom). AtomStandsFor from later x q) (sym (literal_said-atom is_negated atom)) (stand later g));
        same = ap (λ (k : Literal). literal_of later from k) (at later g) ∙ ap (λ (q : said.Atom). literal_said is_negated q) (stand later g).same;
      };
    }
