-- A text is as long as its parts say.
use Rattle.std.proofs.Common.{ℕ, suc, zero, ◌≡◌, ◌+◌, ◌-◌, ◌<◌, ◌≤◌, true, List, [], ◌∷◌, length, length-append, take, drop, get_or, nat_lt, refl, ◌∙◌, ap, arith}
use Rattle.std.proofs.Math.Seq.{drop-cons}
use Rattle.std.proofs.lemmas.Bool.Decides.{nat_tests}
use Rattle.statement.specs.Tree.{Tree, name, list, tree, text, further_text, trees_of}
use Rattle.statement.specs.Clause.{tree_at}
use Rattle.rules_clauses.specs.declared.numbered.Part.{Part}
use Rattle.rules_clauses.specs.declared.numbered.Part.TheVariants as parts
use Rattle.rules_clauses.specs.Numbers.{word_at}
use Rattle.statement.specs.Most.{limits}
use Rattle.ground_terms.specs.Arena.{Held, AreNumbered, cut, sizes_of}
use Rattle.ground_terms.specs.Building.{PartsPlaced, place_value, ground_terms}
use Rattle.ground_terms.specs.Keys.{term_at, trees}
use Rattle.ground_terms.specs.Measuring.{bytes_of}
use Rattle.ground_terms.proofs.Built.{symbol_tree}
use Rattle.ground_terms.proofs.Lengths.{further_length}

-- the length of the text of terms with the bracket that closes it
abbrev further : List Tree → ℕ
further ts = length (further_text (trees_of ts))

-- the bytes of all parts
abbrev pub all_bytes : List (List ℕ) → (ℕ → Tree) → List Part → ℕ
all_bytes words value [] = 0
all_bytes words value (p ∷ ps) = bytes_of words value p + all_bytes words value ps

split_further : (n : ℕ) (ts : List Tree) → further (take n ts) + further (drop n ts) ≡ suc (further ts)
split_further zero ts = omega arith
split_further (suc n) [] = omega arith
split_further (suc n) (t ∷ ts) =
    let r = split_further n ts in
    let a = further_length t (take n ts) in
    let b = further_length t ts in omega (arith, r, a, b)

list_length : (w : List ℕ) (ts : List Tree) → length (text (list (tree (name w) (trees_of ts)))) ≡ suc (length w + further ts)
list_length w ts = ap suc (length-append w (further_text (trees_of ts)))

-- the text of the terms that parts are has the bytes of all parts, and one more
further_bytes : (words : List (List ℕ)) (value : ℕ → Tree) (ps : List Part)
    → further (ground_terms words value ps []) ≡ suc (all_bytes words value ps)
further_bytes words value [] = refl
further_bytes words value (parts.Variable p ∷ ps) =
    let r = further_bytes words value ps in
    let a = further_length (value p) (ground_terms words value ps []) in omega (arith, r, a)
further_bytes words value (parts.Constant s ∷ ps) =
    let r = further_bytes words value ps in
    let a = further_length (name (word_at words s)) (ground_terms words value ps []) in omega (arith, r, a)
further_bytes words value (parts.List s n ∷ ps) =
    let ts = ground_terms words value ps [] in
    let r = further_bytes words value ps in
    let a = further_length (list (tree (name (word_at words s)) (trees_of (take n ts)))) (drop n ts) in
    let l = list_length (word_at words s) (take n ts) in
    let d = split_further n ts in omega (arith, r, a, l, d)

-- an atom is at least as long as its terms
atom_bytes : (word : List ℕ) (ts : List Tree) → further ts ≤ suc (length (text (tree_at word (trees_of ts))))
atom_bytes word [] = omega arith
atom_bytes word (t ∷ ts) = let l = list_length word (t ∷ ts) in omega (arith, l)

-- what is left of the limit once some parts were counted: all of it and the bytes of the other parts are no more than that and the text
abbrev pub LeavesRoom : Held → List ℕ → List Part → List Part → ℕ → Type 0
LeavesRoom a values all rest left = (words : List (List ℕ)) → sizes_of words ≡ a.sizes → (word : List ℕ)
    → limits.text + all_bytes words (place_value (trees words a.keys) values) rest
    ≤ left + length (text (tree_at word (trees_of (ground_terms words (place_value (trees words a.keys) values) all []))))

pub room_begins : (a : Held) (values : List ℕ) (ps : List Part) → LeavesRoom a values ps ps limits.text
room_begins a values ps words e word =
    let value = place_value (trees words a.keys) values in
    let f = further_bytes words value ps in
    let l = atom_bytes word (ground_terms words value ps []) in omega (arith, f, l)

-- one more part is counted
pub room_next : (a : Held) (values : List ℕ) (all parts : List Part) (d : Part) (i left bytes : ℕ) → i < length parts
    → LeavesRoom a values all (drop i parts) left
    → ((words : List (List ℕ)) → sizes_of words ≡ a.sizes → bytes ≤ bytes_of words (place_value (trees words a.keys) values) (get_or parts i d))
    → bytes ≤ left
    → LeavesRoom a values all (drop (i + 1) parts) (left - bytes)
room_next a values all parts d i left bytes h room small less words sized word =
    let r = room words sized word in
    let s = small words sized in
    let n : suc i ≡ i + 1 = omega arith in
    let e = ap (all_bytes words (place_value (trees words a.keys) values)) (drop-cons parts i d h ∙ ap (λ (j : ℕ). get_or parts i d ∷ drop j parts) n) in
    omega (arith, r, s, e, less)

-- a part has no room
pub room_over : (a : Held) (values : List ℕ) (all parts : List Part) (d : Part) (i left bytes : ℕ) → i < length parts
    → LeavesRoom a values all (drop i parts) left
    → ((words : List (List ℕ)) → sizes_of words ≡ a.sizes → bytes ≤ bytes_of words (place_value (trees words a.keys) values) (get_or parts i d))
    → left < bytes
    → (words : List (List ℕ)) → sizes_of words ≡ a.sizes → (word : List ℕ)
    → nat_lt limits.text (length (text (tree_at word (trees_of (ground_terms words (place_value (trees words a.keys) values) all []))))) ≡ true
room_over a values all parts d i left bytes h room small less words sized word =
    let r = room words sized word in
    let s = small words sized in
    let e = ap (all_bytes words (place_value (trees words a.keys) values)) (drop-cons parts i d h) in
    above limits.text _ (omega (arith, r, s, e, less))
  where
    above : (m n : ℕ) → m < n → nat_lt m n ≡ true
    above m n more = grind (arith, nat_tests)

-- Parts by place.

pub placed_one : (many places : ℕ) (p : Part) (ps : List Part) → PartsPlaced many places (p ∷ ps) → PartsPlaced many places (p ∷ [])
placed_one many places (parts.Variable q) ps h = (h.0, tt)
placed_one many places (parts.Constant s) ps h = (h.0, tt)
placed_one many places (parts.List s n) ps h = (h.0, h.1, tt)

placed_rest : (many places : ℕ) (p : Part) (ps : List Part) → PartsPlaced many places (p ∷ ps) → PartsPlaced many places ps
placed_rest many places (parts.Variable q) ps h = h.1
placed_rest many places (parts.Constant s) ps h = h.1
placed_rest many places (parts.List s n) ps h = h.2

pub placed_at : (many places : ℕ) (ps : List Part) (d : Part) (i : ℕ) → PartsPlaced many places ps → i < length ps
    → PartsPlaced many places (get_or ps i d ∷ [])
placed_at many places [] d i h less = absurd (omega (arith, less))
placed_at many places (q ∷ ps) d zero h less = placed_one many places q ps h
placed_at many places (q ∷ ps) d (suc i) h less = placed_at many places ps d i (placed_rest many places q ps h) (omega (arith, less))

-- The bytes of one part.

pub constant_bytes : (a : Held) (s k long bytes more : ℕ) → AreNumbered (length a.sizes) a.keys → s < length a.sizes → k ≡ s
    → ((words : List (List ℕ)) → sizes_of words ≡ a.sizes → long ≡ cut (length (text (term_at (trees words a.keys) k))))
    → bytes ≤ more + long
    → (words : List (List ℕ)) → sizes_of words ≡ a.sizes → bytes ≤ more + length (word_at words s)
constant_bytes a s k long bytes more n h k_is sized small words e =
    let l = sized words e in
    let w = ap (λ (t : Tree). length (text t)) (ap (term_at (trees words a.keys)) k_is ∙ symbol_tree words a s n h) in omega (arith, l, w, small)
