-- Keys of atoms, in whose blanks the values of rows are put.
use Rattle.std.proofs.Common.{ℕ, zero, suc, ◌≡◌, ◌<◌, ◌≤◌, ◌+◌, ◌-◌, ◌*◌, ◌%◌, List, [], ◌∷◌, ◌++◌, All, ◌⊎◌, inl, inr, Option, Some, length, length-append, take, drop, get_or, drop-cons, refl, sym, ◌∙◌, ap, subst, arith}
use Rattle.std.specs.Prelude.{IfSome, slice_get, slice_index, slice_index_or, slice_set}
use Rattle.std.proofs.Math.Nat.{add-mod-mod, add-mod_right}
use Rattle.std.proofs.Math.Seq.{set-append_seam}
use Rattle.std.proofs.lemmas.List.{length-set, set-append_left, take_more, get_or_read, get_or_default}
use Rattle.std.proofs.lemmas.List.Elements.{All-push}
use Rattle.std.proofs.lemmas.Option.{slice_get-get_or}
use Rattle.rules_clauses.specs.declared.numbered.Part.{Part}
use Rattle.rules_clauses.specs.declared.numbered.Part.TheVariants as parts
use Rattle.rules_clauses.specs.Store.{Data}
use Rattle.util_interner.specs.KeyTables.{key_hash}
use Rattle.ground_rows.specs.declared.kept_keys.Blank.{Blank}
use Rattle.ground_rows.specs.declared.kept_keys.BlankKey.{BlankKey}
use Rattle.ground_rows.specs.declared.kept_keys.Sought.{Sought}
use Rattle.ground_rows.specs.Pairs.{simple_number, PartNumbers, IsKeyOf}
use Rattle.ground_rows.specs.Sought.{Weighs, IsBlank, IsHashed, IsSought, HaveValues, filled, Fills, word_in, AreSought}
use Rattle.ground_rows.proofs.SoughtKeys.{full}

first_of_all : {X : Type 0} (P : X → Type 0) (x : X) (xs : List X) → All P (x ∷ xs) → P x
first_of_all P x xs a = a 0 x (omega arith)

rest_of_all : {X : Type 0} (P : X → Type 0) (x : X) (xs : List X) → All P (x ∷ xs) → All P xs
rest_of_all P x xs a k d h = a (suc k) d (omega (arith, h))

-- One value is put into a key.

-- a number goes up to another
pub come_to : (v old m : ℕ) → old ≤ m → v % m ≡ (old + (v + (m - old)) % m) % m
come_to v old m h =
    let whole : old + (v + (m - old)) ≡ v + m = omega (arith, h) in
    sym (add-mod-mod old (v + (m - old)) m ∙ ap (λ (n : ℕ). n % m) whole ∙ add-mod_right v m)

-- the hash goes with it
pub put_hash : (s : BlankKey) (bs : List Blank) (i : ℕ) (d : Blank) (key : List ℕ) (hash v old more : ℕ) → IsHashed s → bs ≡ s.blanks.items
    → i < length bs → length key ≡ length s.key.items → hash ≡ key_hash 0 key → old ≡ get_or key (get_or bs i d).at old
    → v % full ≡ (old + more) % full
    → (hash + more * (get_or bs i d).weight % full) % full ≡ key_hash 0 (slice_set key (get_or bs i d).at v)
put_hash s bs i d key hash v old more is e less long same read come =
    let h = get_or bs i d in
    let own : IsBlank (length s.key.items) h =
    subst (λ (cs : List Blank). All (λ g. IsBlank (length s.key.items) g) cs) (sym e) is.blanks i d less in
    let inside : h.at < length key = (let w = own.within in omega (arith, w, long)) in
    add-mod-mod hash (more * h.weight) full
    ∙ ap (λ (n : ℕ). (n + more * h.weight) % full) same
    ∙ sym (own.weighs key v more long (come ∙ ap (λ (n : ℕ). (n + more) % full) (get_or_read key h.at old inside read 0)))

-- with the values that are left the key becomes the same as before
pub put_key : (values : List ℕ) (bs cs : List Blank) (i : ℕ) (d : Blank) (key all : List ℕ) (v : ℕ) → bs ≡ cs → i < length bs
    → ((n : ℕ) → v ≡ get_or values (get_or bs i d).place n) → filled values (drop i cs) key ≡ all
    → filled values (drop (i + 1) cs) (slice_set key (get_or bs i d).at v) ≡ all
put_key values bs cs i d key all v e less read same =
    let h = get_or bs i d in
    let n : suc i ≡ i + 1 = omega arith in
    let here : drop i cs ≡ h ∷ drop (i + 1) cs =
    ap (λ (fs : List Blank). drop i fs) (sym e) ∙ drop-cons bs i d less ∙ ap (λ (j : ℕ). h ∷ drop j bs) n
    ∙ ap (λ (fs : List Blank). h ∷ drop (i + 1) fs) e in
    ap (λ (x : ℕ). filled values (drop (i + 1) cs) (slice_set key h.at x)) (read 0)
    ∙ ap (λ (fs : List Blank). filled values fs key) (sym here) ∙ same

-- one more blank has a value
pub values_more : (values : List ℕ) (bs cs : List Blank) (i : ℕ) (d : Blank) → bs ≡ cs → i < length bs
    → ((k : ℕ) (f : Blank) → k < i → (get_or cs k f).place < length values) → (get_or bs i d).place < length values
    → (k : ℕ) (f : Blank) → k < i + 1 → (get_or cs k f).place < length values
values_more values bs cs i d e less before here k f h = go (below_or k i h)
  where
    below_or : (n m : ℕ) → n < m + 1 → (n < m) ⊎ (n ≡ m)
    below_or n m le = grind arith

    go : (k < i) ⊎ (k ≡ i) → (get_or cs k f).place < length values
    go (inl l) = before k f l
    go (inr same) =
        subst (λ (n : ℕ). (get_or cs n f).place < length values) (sym same)
        (subst (λ (g : Blank). g.place < length values) (get_or_default bs i d f less ∙ ap (λ (fs : List Blank). get_or fs i f) e) here)

-- A key grows by the number of a part, or by a blank.

-- blanks are in a key
abbrev pub StandIn : List ℕ → List Blank → Type 0
StandIn key bs = All (λ h. h.at < length key) bs

filled_front : (values : List ℕ) (bs : List Blank) (key more : List ℕ) → StandIn key bs
    → (filled values bs (key ++ more) ≡ filled values bs key ++ more) × (length (filled values bs key) ≡ length key)
filled_front values [] key more a = (refl, refl)
filled_front values (h ∷ bs) key more a =
    let v = slice_index values h.place in
    let size = length-set key h.at v in
    let rest = rest_of_all (λ g. g.at < length key) h bs a in
    let next = filled_front values bs (slice_set key h.at v) more (subst (λ (n : ℕ). All (λ g. g.at < n) bs) (sym size) rest) in (
      ap (λ (xs : List ℕ). filled values bs xs) (set-append_left key more h.at v (first_of_all (λ g. g.at < length key) h bs a)) ∙ next.0,
      next.1 ∙ size,
    )

filled_last : (values : List ℕ) (bs : List Blank) (h : Blank) (key : List ℕ)
    → filled values (bs ++ h ∷ []) key ≡ slice_set (filled values bs key) h.at (slice_index values h.place)
filled_last values [] h key = refl
filled_last values (g ∷ bs) h key = filled_last values bs h (slice_set key g.at (slice_index values g.place))

numbers_more : (values : List ℕ) (ps : List Part) (ns : List ℕ) (p : Part) (k : ℕ) → PartNumbers values ps ns → simple_number values p ≡ Some k
    → PartNumbers values (ps ++ p ∷ []) (ns ++ k ∷ [])
numbers_more values [] [] p k n e = (e, tt)
numbers_more values [] (m ∷ ns) p k n e = absurd n
numbers_more values (q ∷ ps) [] p k n e = absurd n
numbers_more values (q ∷ ps) (m ∷ ns) p k n e = (n.0, numbers_more values ps ns p k n.1 e)

key_more : (values : List ℕ) (word : ℕ) (ps : List Part) (key : List ℕ) (p : Part) (k : ℕ) → IsKeyOf values word ps key
    → simple_number values p ≡ Some k → IsKeyOf values word (ps ++ p ∷ []) (key ++ k ∷ [])
key_more values word ps key p k is e = record {
  numbers = is.numbers ++ k ∷ [];
  is = ap (λ (xs : List ℕ). xs ++ k ∷ []) is.is;
  are = numbers_more values ps is.numbers p k is.are e;
}

values_before : (values : List ℕ) (bs : List Blank) (h : Blank) → HaveValues values (bs ++ h ∷ []) → HaveValues values bs × (h.place < length values)
values_before values [] h a = (λ k d l. absurd (let bad : ⊥ = omega (arith, l) in bad), a 0 h (omega arith))
values_before values (g ∷ bs) h a =
    let next = values_before values bs h (rest_of_all (λ f. f.place < length values) g (bs ++ h ∷ []) a) in (both next.0, next.1)
  where
    both : HaveValues values bs → HaveValues values (g ∷ bs)
    both n zero d l = a 0 d (omega arith)
    both n (suc k) d l = n k d (omega (arith, l))

-- one more part is a constant, or a variable
fills_constant : (word : ℕ) (ps : List Part) (i : ℕ) (p : Part) (s k : ℕ) (bs : List Blank) (key : List ℕ) → i < length ps
    → get_or ps i p ≡ parts.Constant s → k ≡ s → StandIn key bs → Fills word (take i ps) bs key → Fills word (take (i + 1) ps) bs (key ++ k ∷ [])
fills_constant word ps i p s k bs key less e same a f values told =
    let q = parts.Constant s in
    let grown : take i ps ++ q ∷ [] ≡ take (i + 1) ps = sym (take_more ps i p less ∙ ap (λ (r : Part). take i ps ++ r ∷ []) e) in
    subst (λ (qs : List Part). IsKeyOf values word qs (filled values bs (key ++ k ∷ []))) grown
    (subst (λ (xs : List ℕ). IsKeyOf values word (take i ps ++ q ∷ []) xs) (sym (filled_front values bs key (k ∷ []) a).0)
    (key_more values word (take i ps) (filled values bs key) q k (f values told) (ap (λ (n : ℕ). Some n) (sym same))))

fills_variable : (word : ℕ) (ps : List Part) (i : ℕ) (p : Part) (h : Blank) (bs : List Blank) (key : List ℕ) → i < length ps
    → get_or ps i p ≡ parts.Variable h.place → h.at ≡ length key → StandIn key bs → Fills word (take i ps) bs key
    → Fills word (take (i + 1) ps) (bs ++ h ∷ []) (key ++ 0 ∷ [])
fills_variable word ps i p h bs key less e at a f values told =
    let q = parts.Variable h.place in
    let v = slice_index values h.place in
    let before = values_before values bs h told in
    let grown : take i ps ++ q ∷ [] ≡ take (i + 1) ps = sym (take_more ps i p less ∙ ap (λ (r : Part). take i ps ++ r ∷ []) e) in
    let front = filled_front values bs key (0 ∷ []) a in
    let own = filled values bs key in
    let put : filled values (bs ++ h ∷ []) (key ++ 0 ∷ []) ≡ own ++ v ∷ [] =
    filled_last values bs h (key ++ 0 ∷ []) ∙ ap (λ (xs : List ℕ). slice_set xs h.at v) front.0
    ∙ ap (λ (n : ℕ). slice_set (own ++ 0 ∷ []) n v) (at ∙ sym front.1) ∙ set-append_seam own 0 [] v in
    subst (λ (qs : List Part). IsKeyOf values word qs (filled values (bs ++ h ∷ []) (key ++ 0 ∷ []))) grown
    (subst (λ (xs : List ℕ). IsKeyOf values word (take i ps ++ q ∷ []) xs) (sym put)
    (key_more values word (take i ps) own q v (f values before.0) (slice_get-get_or values h.place 0 before.1)))

stand_longer : (bs : List Blank) (key more : List ℕ) → length more ≡ length key + 1 → StandIn key bs → StandIn more bs
stand_longer bs key more e a k d l = let own = a k d l in omega (arith, own, e)

-- behind the word the numbers of the first parts are in a key, or blanks
pub record Building (word : ℕ) (ps : List Part) (index : ℕ) (bs : List Blank) (key : List ℕ) : Type 0 where
  pub long : length key ≡ index + 1
  pub blanks : All (λ h. IsBlank (length ps + 1) h) bs
  pub stand : StandIn key bs
  pub fills : Fills word (take index ps) bs key

pub with_constant : (word : ℕ) (ps : List Part) (i : ℕ) (p : Part) (s k : ℕ) (bs cs : List Blank) (key more : List ℕ) → i < length ps
    → get_or ps i p ≡ parts.Constant s → k ≡ s → cs ≡ bs → more ≡ key ++ k ∷ [] → Building word ps i bs key → Building word ps (i + 1) cs more
with_constant word ps i p s k bs cs key more less e same cs_are more_is b =
    let size : length more ≡ length key + 1 = ap length more_is ∙ length-append key (k ∷ []) in
    subst (λ (fs : List Blank). Building word ps (i + 1) fs more) (sym cs_are)
    (record {
      long = size ∙ ap (λ (n : ℕ). n + 1) b.long;
      blanks = b.blanks;
      stand = stand_longer bs key more size b.stand;
      fills = subst (λ (xs : List ℕ). Fills word (take (i + 1) ps) bs xs) (sym more_is)
          (fills_constant word ps i p s k bs key less e same b.stand b.fills);
    })

pub with_variable : (word : ℕ) (ps : List Part) (i : ℕ) (p : Part) (h : Blank) (bs cs : List Blank) (key more : List ℕ) → i < length ps
    → get_or ps i p ≡ parts.Variable h.place → h.at ≡ i + 1 → ((at : ℕ) → Weighs (at + (length ps - i)) at h.weight) → cs ≡ bs ++ h ∷ []
    → more ≡ key ++ 0 ∷ [] → Building word ps i bs key → Building word ps (i + 1) cs more
with_variable word ps i p h bs cs key more less e at weighs cs_are more_is b =
    let size : length more ≡ length key + 1 = ap length more_is ∙ length-append key (0 ∷ []) in
    let all : h.at + (length ps - i) ≡ length ps + 1 = omega (arith, less, at) in
    let long = b.long in
    subst (λ (fs : List Blank). Building word ps (i + 1) fs more) (sym cs_are)
    (record {
      long = size ∙ ap (λ (n : ℕ). n + 1) b.long;
      blanks = All-push (λ g. IsBlank (length ps + 1) g) bs h b.blanks
          (record { within = omega (arith, less, at); weighs = subst (λ (n : ℕ). Weighs n h.at h.weight) all (weighs h.at) });
      stand = All-push (λ g. g.at < length more) bs h (stand_longer bs key more size b.stand) (omega (arith, at, long, size));
      fills = subst (λ (xs : List ℕ). Fills word (take (i + 1) ps) (bs ++ h ∷ []) xs) (sym more_is)
          (fills_variable word ps i p h bs key less e (at ∙ sym long) b.stand b.fills);
    })

-- What is kept of the literals of a body.

-- what is kept last, or before
pushed : (os : List (Option Sought)) (o : Option Sought) (i : ℕ) (s : Sought) → slice_get (os ++ o ∷ []) i ≡ Some (Some s)
    → (slice_get os i ≡ Some (Some s)) ⊎ ((i ≡ length os) × (o ≡ Some s))
pushed [] o zero s e = inr (refl, cc)
pushed [] o (suc i) s e = absurd cc
pushed (p ∷ os) o zero s e = inl e
pushed (p ∷ os) o (suc i) s e = go (pushed os o i s e)
  where
    go : (slice_get os i ≡ Some (Some s)) ⊎ ((i ≡ length os) × (o ≡ Some s))
        → (slice_get (p ∷ os) (suc i) ≡ Some (Some s)) ⊎ ((suc i ≡ length (p ∷ os)) × (o ≡ Some s))
    go (inl f) = inl f
    go (inr f) = inr (ap (λ (n : ℕ). suc n) f.0, f.1)

-- one more is right
pub sought_more : (d : Data) (first : List (List ℕ)) (ns : List ℕ) (pss : List (List Part)) (os : List (Option Sought)) (index : ℕ) (o : Option Sought) → length os ≡ index
    → AreSought d first ns pss os → IfSome o (λ s. IsSought first (word_in d (get_or ns index 0)) (get_or pss index []) s) → AreSought d first ns pss (os ++ o ∷ [])
sought_more d first ns pss os index o size before own i s e = go (pushed os o i s e)
  where
    go : (slice_get os i ≡ Some (Some s)) ⊎ ((i ≡ length os) × (o ≡ Some s)) → IsSought first (word_in d (slice_index ns i)) (slice_index_or pss i []) s
    go (inl f) = before i s f
    go (inr f) =
        subst (λ (k : ℕ). IsSought first (word_in d (get_or ns k 0)) (get_or pss k []) s) (sym (f.0 ∙ size))
        (subst (λ (p : Option Sought). IfSome p (λ t. IsSought first (word_in d (get_or ns index 0)) (get_or pss index []) t)) f.1 own)
