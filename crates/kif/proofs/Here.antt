-- Which token begins at an offset of a text that has no comments.
use Rattle.std.proofs.Common.{ℕ, zero, suc, ◌+◌, ◌-◌, ◌≡◌, ◌<◌, ◌≤◌, Bool, true, false, cond, List, [], ◌∷◌, map, take, drop, length, get_or, refl}
use Rattle.std.proofs.Common.{sym, ap, subst, ◌∙◌, arith, eqb-true, drop-cons, length-drop}
use Rattle.std.specs.Prelude.{◌==◌}
use Rattle.std.proofs.lemmas.List.{get_or-drop}
use Rattle.std.proofs.lemmas.Bool.Decides.{nat_tests}
use Rattle.statement.specs.Lexical.{is_name_byte, is_space, lower, Token, opening, closing, word, stray, name_front, token_here}
use Rattle.kif.specs.Offsets.{is_opening, is_closing, is_stray}

-- a longest run of name bytes goes from o up to end
pub record IsRunIn (v : List ℕ) (o end : ℕ) : Type 0 where
  pub further : o < end
  pub names : (k : ℕ) → o ≤ k → k < end → is_name_byte (get_or v k 0) ≡ true
  pub begins : (k : ℕ) → suc k ≡ o → is_name_byte (get_or v k 0) ≡ false
  pub ends : is_name_byte (get_or v end 0) ≡ false

abbrev pub IsTokenIn : List ℕ → ℕ → Token → Type 0
IsTokenIn v o opening = is_opening (get_or v o 0) ≡ true
IsTokenIn v o closing = is_closing (get_or v o 0) ≡ true
IsTokenIn v o (word w) = (end : ℕ) × IsRunIn v o end × (w ≡ map lower (take (end - o) (drop o v)))
IsTokenIn v o stray = (o < length v) × (is_stray (get_or v o 0) ≡ true)

-- the bytes bs are left at o, and `after` says whether a name byte stands before them
pub record IsPlace (v : List ℕ) (o : ℕ) (after : Bool) (bs : List ℕ) : Type 0 where
  pub rest : drop o v ≡ bs
  pub before : (k : ℕ) → suc k ≡ o → is_name_byte (get_or v k 0) ≡ after
  pub start : o ≡ 0 → after ≡ false

pub first_place : (v : List ℕ) → IsPlace v 0 false v
first_place v = record { rest = refl; before = λ k e. absurd (omega arith); start = λ e. refl }

pub in_place : (v : List ℕ) (o : ℕ) (after : Bool) (b : ℕ) (bs : List ℕ) → IsPlace v o after (b ∷ bs) → o < length v
in_place v o after b bs p =
    let size = length-drop o v in
    let same = ap length p.rest in
    omega arith

pub byte_here : (v : List ℕ) (o : ℕ) (after : Bool) (b : ℕ) (bs : List ℕ) → IsPlace v o after (b ∷ bs) → get_or v o 0 ≡ b
byte_here v o after b bs p =
    ap (λ (k : ℕ). get_or v k 0) (let e : o ≡ o + 0 = omega arith in e) ∙ sym (get_or-drop o v 0 0) ∙ ap (λ (l : List ℕ). get_or l 0 0) p.rest

tail_of : (a b : ℕ) (r s : List ℕ) → a ∷ r ≡ b ∷ s → r ≡ s
tail_of a b r s e = cc

pub next_place : (v : List ℕ) (o : ℕ) (after : Bool) (b : ℕ) (bs : List ℕ) → IsPlace v o after (b ∷ bs) → IsPlace v (suc o) (is_name_byte b) bs
next_place v o after b bs p = record {
  rest = tail_of (get_or v o 0) b (drop (suc o) v) bs (sym (drop-cons v o 0 (in_place v o after b bs p)) ∙ p.rest);
  before = λ k e. ap (λ (j : ℕ). is_name_byte (get_or v j 0)) (let f : k ≡ o = omega arith in f) ∙ ap is_name_byte (byte_here v o after b bs p);
  start = λ e. absurd (omega arith);
}

-- the front of the bytes that are name bytes
pub record IsFront (n : ℕ) (bs : List ℕ) : Type 0 where
  pub names : (k : ℕ) → k < n → is_name_byte (get_or bs k 0) ≡ true
  pub ends : is_name_byte (get_or bs n 0) ≡ false

shorter : (n b : ℕ) (bs : List ℕ) → IsFront (suc n) (b ∷ bs) → IsFront n bs
shorter n b bs f = record { names = λ k h. f.names (suc k) (omega arith); ends = f.ends }

front_is : (n : ℕ) (bs : List ℕ) → IsFront n bs → name_front bs ≡ map lower (take n bs)
front_is zero [] f = refl
front_is zero (b ∷ bs) f = let e : is_name_byte b ≡ false = f.ends in rw e refl
front_is (suc n) [] f = let e : false ≡ true = f.names 0 (omega arith) in absurd cc
front_is (suc n) (b ∷ bs) f =
    let e : is_name_byte b ≡ true = f.names 0 (omega arith) in
    rw e (ap (λ (l : List ℕ). lower b ∷ l) (front_is n bs (shorter n b bs f)))

some_front : (bs : List ℕ) → (n : ℕ) × IsFront n bs
some_front [] = (0, record { names = λ k h. absurd (omega arith); ends = refl })
some_front (b ∷ bs) = go (some_front bs) (is_name_byte b) refl
  where
    longer : (e : is_name_byte b ≡ true) (n : ℕ) (f : IsFront n bs) (k : ℕ) → k < suc n → is_name_byte (get_or (b ∷ bs) k 0) ≡ true
    longer e n f zero h = e
    longer e n f (suc k) h = f.names k (omega arith)

    go : ((n : ℕ) × IsFront n bs) → (t : Bool) → is_name_byte b ≡ t → (n : ℕ) × IsFront n (b ∷ bs)
    go f true e = (suc f.0, record { names = longer e f.0 f.1; ends = f.1.ends })
    go f false e = (0, record { names = λ k h. absurd (omega arith); ends = e })

-- a run from o on is a front of what is left there
front_of_run : (v : List ℕ) (o end : ℕ) → IsRunIn v o end → IsFront (end - o) (drop o v)
front_of_run v o end r = record {
  names = λ k h. ap is_name_byte (get_or-drop o v k 0) ∙ r.names (o + k) (omega arith) (let f = r.further in omega arith);
  ends = ap is_name_byte (get_or-drop o v (end - o) 0)
      ∙ ap (λ (j : ℕ). is_name_byte (get_or v j 0)) (let f = r.further in let e : o + (end - o) ≡ end = omega arith in e) ∙ r.ends;
}

word_is : (v : List ℕ) (o : ℕ) (w : List ℕ) → IsTokenIn v o (word w) → w ≡ name_front (drop o v)
word_is v o w t = t.2 ∙ sym (front_is (t.0 - o) (drop o v) (front_of_run v o t.0 t.1))

-- the kind of byte at which a token begins
abbrev pub begins_with : Token → ℕ → Bool
begins_with opening b = is_opening b
begins_with closing b = is_closing b
begins_with (word w) b = is_name_byte b
begins_with stray b = is_stray b

pub token_byte : (v : List ℕ) (o : ℕ) (k : Token) → IsTokenIn v o k → begins_with k (get_or v o 0) ≡ true
token_byte v o opening t = t
token_byte v o closing t = t
token_byte v o (word w) t = t.1.names o (omega arith) (t.1.further)
token_byte v o stray t = t.1

-- at most one token begins at an offset
pub data Here (v : List ℕ) (o : ℕ) (ks : List Token) : Type 0 where
  none : ks ≡ [] → ((k : Token) → IsTokenIn v o k → ⊥) → Here v o ks
  one : (k : Token) → ks ≡ k ∷ [] → IsTokenIn v o k → ((j : Token) → IsTokenIn v o j → j ≡ k) → Here v o ks

at_opening : (b : ℕ) → b ≡ 40 → (k : Token) → begins_with k b ≡ true → k ≡ opening
at_opening b e opening h = refl
at_opening b e closing h = absurd (let f : is_closing 40 ≡ true = sym (ap is_closing e) ∙ h in cc)
at_opening b e (word w) h = absurd (let f : is_name_byte 40 ≡ true = sym (ap is_name_byte e) ∙ h in cc)
at_opening b e stray h = absurd (let f : is_stray 40 ≡ true = sym (ap is_stray e) ∙ h in cc)

at_closing : (b : ℕ) → b ≡ 41 → (k : Token) → begins_with k b ≡ true → k ≡ closing
at_closing b e opening h = absurd (let f : is_opening 41 ≡ true = sym (ap is_opening e) ∙ h in cc)
at_closing b e closing h = refl
at_closing b e (word w) h = absurd (let f : is_name_byte 41 ≡ true = sym (ap is_name_byte e) ∙ h in cc)
at_closing b e stray h = absurd (let f : is_stray 41 ≡ true = sym (ap is_stray e) ∙ h in cc)

at_name : (b : ℕ) → is_name_byte b ≡ true → (k : Token) → begins_with k b ≡ true → (w : List ℕ) × (k ≡ word w)
at_name b e opening h = absurd (let f : is_name_byte 40 ≡ true = sym (ap is_name_byte (eqb-true b 40 h)) ∙ e in cc)
at_name b e closing h = absurd (let f : is_name_byte 41 ≡ true = sym (ap is_name_byte (eqb-true b 41 h)) ∙ e in cc)
at_name b e (word w) h = (w, refl)
at_name b e stray h = absurd (grind (arith, nat_tests))

at_space : (b : ℕ) → is_space b ≡ true → (k : Token) → begins_with k b ≡ true → ⊥
at_space b e opening h = grind (arith, nat_tests)
at_space b e closing h = grind (arith, nat_tests)
at_space b e (word w) h = grind (arith, nat_tests)
at_space b e stray h = grind (arith, nat_tests)

at_stray : (b : ℕ) → is_name_byte b ≡ false → (b == 40) ≡ false → (b == 41) ≡ false → is_space b ≡ false → (k : Token) → begins_with k b ≡ true
    → k ≡ stray
at_stray b e f g h opening t = absurd cc
at_stray b e f g h closing t = absurd cc
at_stray b e f g h (word w) t = absurd cc
at_stray b e f g h stray t = refl

is_stray_byte : (b : ℕ) → is_name_byte b ≡ false → (b == 40) ≡ false → (b == 41) ≡ false → is_space b ≡ false → is_stray b ≡ true
is_stray_byte b e f g h = rw (e, f, g, h) refl

-- behind a name byte no name begins
no_word : (v : List ℕ) (o : ℕ) (w : List ℕ) (bs : List ℕ) → IsPlace v o true bs → IsTokenIn v o (word w) → ⊥
no_word v zero w bs p t = let e : true ≡ false = p.start refl in absurd cc
no_word v (suc k) w bs p t = let e = p.before k refl in let f = t.1.begins k refl in absurd cc

words_same : (v : List ℕ) (o : ℕ) (bs : List ℕ) (after : Bool) → IsPlace v o after bs → (w : List ℕ) → IsTokenIn v o (word w)
    → word w ≡ word (name_front bs)
words_same v o bs after p w t = ap word (word_is v o w t ∙ ap name_front p.rest)

word_here : (v : List ℕ) (o b : ℕ) (bs : List ℕ) → IsPlace v o false (b ∷ bs) → is_name_byte b ≡ true → IsTokenIn v o (word (name_front (b ∷ bs)))
word_here v o b bs p e = go (some_front (b ∷ bs)).0 (some_front (b ∷ bs)).1
  where
    back : (k j : ℕ) → k ≡ o + j → get_or v k 0 ≡ get_or (b ∷ bs) j 0
    back k j e = ap (λ (i : ℕ). get_or v i 0) e ∙ sym (get_or-drop o v j 0) ∙ ap (λ (l : List ℕ). get_or l j 0) p.rest

    same : (n : ℕ) → n ≡ (o + n) - o
    same n = omega arith

    go : (n : ℕ) → IsFront n (b ∷ bs) → IsTokenIn v o (word (name_front (b ∷ bs)))
    go zero f = let g : is_name_byte b ≡ false = f.ends in absurd cc
    go (suc n) f = (
      o + suc n,
      record {
        further = omega arith;
        names = λ k l m. ap is_name_byte (back k (k - o) (omega arith)) ∙ f.names (k - o) (omega arith);
        begins = λ k g. p.before k g;
        ends = ap is_name_byte (back (o + suc n) (suc n) refl) ∙ f.ends;
      },
      front_is (suc n) (b ∷ bs) f ∙ ap (λ (l : List ℕ). map lower (take (suc n) l)) (sym p.rest)
          ∙ ap (λ (m : ℕ). map lower (take m (drop o v))) (same (suc n)),
    )

pub here : (v : List ℕ) (o : ℕ) (after : Bool) (b : ℕ) (bs : List ℕ) → IsPlace v o after (b ∷ bs) → Here v o (token_here after b bs)
here v o after b bs p = by_name (is_name_byte b) refl
  where
    here_byte : (k : Token) → IsTokenIn v o k → begins_with k b ≡ true
    here_byte k t = ap (begins_with k) (sym (byte_here v o after b bs p)) ∙ token_byte v o k t

    by_after : (a : Bool) → after ≡ a → is_name_byte b ≡ true → Here v o (cond a [] (word (name_front (b ∷ bs)) ∷ []))
    by_after true a e = none refl (λ k t. let w = at_name b e k (here_byte k t) in
        no_word v o w.0 (b ∷ bs) (subst (λ (c : Bool). IsPlace v o c (b ∷ bs)) a p) (subst (IsTokenIn v o) w.1 t))
    by_after false a e = one (word (name_front (b ∷ bs))) refl (word_here v o b bs (subst (λ (c : Bool). IsPlace v o c (b ∷ bs)) a p) e)
        (λ k t. let w = at_name b e k (here_byte k t) in w.1 ∙ words_same v o (b ∷ bs) after p w.0 (subst (IsTokenIn v o) w.1 t))

    by_space : (c : Bool) → is_space b ≡ c → is_name_byte b ≡ false → (b == 40) ≡ false → (b == 41) ≡ false → Here v o (cond c [] (stray ∷ []))
    by_space true s e f g = none refl (λ k t. at_space b s k (here_byte k t))
    by_space false s e f g = one stray refl (in_place v o after b bs p, ap is_stray (byte_here v o after b bs p) ∙ is_stray_byte b e f g s)
        (λ k t. at_stray b e f g s k (here_byte k t))

    by_closing : (c : Bool) → (b == 41) ≡ c → is_name_byte b ≡ false → (b == 40) ≡ false
        → Here v o (cond c (closing ∷ []) (cond (is_space b) [] (stray ∷ [])))
    by_closing true g e f = one closing refl (ap is_closing (byte_here v o after b bs p) ∙ g)
        (λ k t. at_closing b (eqb-true b 41 g) k (here_byte k t))
    by_closing false g e f = by_space (is_space b) refl e f g

    by_opening : (c : Bool) → (b == 40) ≡ c → is_name_byte b ≡ false
        → Here v o (cond c (opening ∷ []) (cond (b == 41) (closing ∷ []) (cond (is_space b) [] (stray ∷ []))))
    by_opening true f e = one opening refl (ap is_opening (byte_here v o after b bs p) ∙ f) (λ k t. at_opening b (eqb-true b 40 f) k (here_byte k t))
    by_opening false f e = by_closing (b == 41) refl e f

    by_name : (c : Bool) → is_name_byte b ≡ c
        → Here v o (cond c (cond after [] (word (name_front (b ∷ bs)) ∷ []))
        (cond (b == 40) (opening ∷ []) (cond (b == 41) (closing ∷ []) (cond (is_space b) [] (stray ∷ [])))))
    by_name true e = by_after after refl e
    by_name false e = by_opening (b == 40) refl e
