-- Parts with places are the terms that a row makes of a pattern, and safe patterns have places.
use Rattle.std.proofs.Common.{
  ℕ,
  zero,
  suc,
  ◌≡◌,
  ◌<◌,
  ◌⊎◌,
  inl,
  inr,
  List,
  [],
  ◌∷◌,
  ◌++◌,
  length,
  map,
  take,
  drop,
  refl,
  sym,
  ◌∙◌,
  ap,
  subst,
  arith,
  Option,
  Some,
  None,
  Bool,
  true,
  false,
  cond,
  append_assoc,
  append-nil,
}
use Rattle.std.specs.Prelude.{◌&&◌, ◌||◌, slice_index, unwrap_or, codes}
use Rattle.std.proofs.lemmas.List.{take-append-drop}
use Rattle.statement.specs.Tree.{Tree, name, list, Trees, tree, trees_of, name_eq}
use Rattle.kif.proofs.Facts.{both, name_eq_yes}
use Rattle.rules_clauses.specs.declared.numbered.Part.{Part}
use Rattle.rules_clauses.specs.declared.numbered.Part.TheVariants as parts
use Rattle.rules_clauses.specs.declared.numbered.Span.{Span}
use Rattle.rules_clauses.specs.Adding.{AreSorted}
use Rattle.statement.specs.Clause as said
use Rattle.statement.specs.Clause.{is_variable}
use Rattle.rules.specs.Drafts.{Numbered, alternative_of}
use Rattle.rules_clauses.specs.Marks.{literal_in, binds, AreInside}
use Rattle.rules_clauses.specs.Numbers.{BeginsWith, word_at, NamesDiffer}
use Rattle.rules.specs.RuleSets.{IsWhole}
use Rattle.statement.specs.Safety.{variables, variables_in, is_binding, bound, needed, is_name_in, are_names_in, is_safe}
use Rattle.rules_clauses.specs.Store.{Data, variable_name, terms_before, stated_atom, stated_literal}
use Rattle.ground_matching.specs.Cells.{pattern}
use Rattle.ground_terms.specs.Keys.{term_at}
use Rattle.ground_matching.specs.Levels.{Pools, no_pools, range_for, parts_in, with_level, with_body}
use Rattle.statement.specs.Matching.{map_of}
use Rattle.ground_terms.specs.Building.{ground_terms}
use Rattle.ground_matching.specs.Placed.{placed_part, HasPlace, HavePlaces, HaveNeededPlaces}
use Rattle.ground_matching.specs.Places.{place_of, symbol_of, places_with, with_place, places_after, names_in_places}
use Rattle.ground_matching.specs.Standing.{bindings, DifferInNames}
use Rattle.statement.specs.Substitution.{Map, substitute, substitute_all}
use Rattle.ground_matching.proofs.ColumnsStand.{IsPlaceOf, found_place, without_place, name_at, later_place, at_end, places_front, begins_on}
use Rattle.ground_matching.proofs.LevelsStand.{atom_of_literal, binds_said}
use Rattle.ground_matching.proofs.StandLemmas.{lookup_in}

substituted : (m : Map) (ts : List Tree) → trees_of (map (substitute m) ts) ≡ substitute_all m (trees_of ts)
substituted m [] = refl
substituted m (t ∷ ts) = ap (λ (us : Trees). tree (substitute m t) us) (substituted m ts)

take_map : (f : Tree → Tree) (n : ℕ) (ts : List Tree) → take n (map f ts) ≡ map f (take n ts)
take_map f zero ts = refl
take_map f (suc n) [] = refl
take_map f (suc n) (t ∷ ts) = ap (λ (us : List Tree). f t ∷ us) (take_map f n ts)

drop_map : (f : Tree → Tree) (n : ℕ) (ts : List Tree) → drop n (map f ts) ≡ map f (drop n ts)
drop_map f zero ts = refl
drop_map f (suc n) [] = refl
drop_map f (suc n) (t ∷ ts) = drop_map f n ts

-- a variable that has a place is found
pub record IsFound (s : ℕ) (places : List (Option ℕ)) : Type 0 where
  pub place : ℕ
  pub found : place_of s places ≡ Some place
  pub is : IsPlaceOf s places place

pub is_found : (s : ℕ) (places : List (Option ℕ)) → HasPlace s places → IsFound s places
is_found s places h = go (place_of s places) refl
  where
    go : (o : Option ℕ) → place_of s places ≡ o → IsFound s places
    go None e = absurd (without_place s places e h.0 h.1)
    go (Some j) e = record { place = j; found = e; is = found_place s places j e }

-- the terms of parts with places are those of the pattern under the bindings of a row
ground_agree : (d : Data) (from : ℕ) (terms : List Tree) (places : List (Option ℕ)) (values : List ℕ) → DifferInNames (names_in_places d.words places)
    → length values ≡ length places
    → (ps : List Part) → AreSorted d from ps → HavePlaces d from places ps
    → ground_terms d.words (λ p. term_at terms (slice_index values p)) (map (placed_part d from places) ps) []
    ≡ map (substitute (map_of (bindings terms (names_in_places d.words places) values))) (terms_before d from ps [])
ground_agree d from terms places values differ long [] s h = refl
ground_agree d from terms places values differ long (parts.Constant c ∷ ps) s h =
    let m = map_of (bindings terms (names_in_places d.words places) values) in
    let own : name (word_at d.words c) ≡ substitute m (name (word_at d.words c)) =
    sym (ap (λ (b : Bool). cond b (m (word_at d.words c)) (name (word_at d.words c))) s.0.1) in
    ap (λ (t : Tree). t ∷ ground_terms d.words (λ p. term_at terms (slice_index values p)) (map (placed_part d from places) ps) []) own
    ∙ ap (λ (ts : List Tree). substitute m (name (word_at d.words c)) ∷ ts) (ground_agree d from terms places values differ long ps s.1 h)
ground_agree d from terms places values differ long (parts.Variable v ∷ ps) s h =
    let m = map_of (bindings terms (names_in_places d.words places) values) in
    let n = variable_name d from v in
    let f = is_found (symbol_of d from v) places h.0 in
    let less : f.place < length values = (let k = f.is.less in omega (arith, k, long)) in
    let looked = lookup_in terms (names_in_places d.words places) values [] n f.place differ less
    (name_at d.words places f.place (Some (symbol_of d from v)) f.is.has) in
    let own : term_at terms (slice_index values (unwrap_or (place_of (symbol_of d from v) places) 0)) ≡ substitute m (name n) =
    ap (λ (o : Option ℕ). term_at terms (slice_index values (unwrap_or o 0))) f.found
    ∙ sym (ap (λ (b : Bool). cond b (m n) (name n)) s.0.2 ∙ ap (λ (o : Option Tree). unwrap_or o (name (codes "a"))) looked) in
    ap (λ (t : Tree). t ∷ ground_terms d.words (λ p. term_at terms (slice_index values p)) (map (placed_part d from places) ps) []) own
    ∙ ap (λ (ts : List Tree). substitute m (name n) ∷ ts) (ground_agree d from terms places values differ long ps s.1 h.1)
ground_agree d from terms places values differ long (parts.List c n ∷ ps) s h =
    let m = map_of (bindings terms (names_in_places d.words places) values) in
    let w = word_at d.words c in
    let bs = terms_before d from ps [] in
    let head : name w ≡ substitute m (name w) = sym (ap (λ (b : Bool). cond b (m w) (name w)) s.0.1) in
    ap (λ (ts : List Tree). list (tree (name w) (trees_of (take n ts))) ∷ drop n ts) (ground_agree d from terms places values differ long ps s.1 h)
    ∙ ap (λ (ts : List Tree). list (tree (name w) (trees_of ts)) ∷ drop n (map (substitute m) bs)) (take_map (substitute m) n bs)
    ∙ ap (λ (ts : List Tree). list (tree (name w) (trees_of (map (substitute m) (take n bs)))) ∷ ts) (drop_map (substitute m) n bs)
    ∙ ap (λ (us : Trees). list (tree (name w) us) ∷ map (substitute m) (drop n bs)) (substituted m (take n bs))
    ∙ ap (λ (t : Tree). list (tree t (substitute_all m (trees_of (take n bs)))) ∷ map (substitute m) (drop n bs)) head

pub placed_agree : (d : Data) (from : ℕ) (terms : List Tree) (places : List (Option ℕ)) (values : List ℕ) → DifferInNames (names_in_places d.words places)
    → length values ≡ length places
    → (w : ℕ) (ps : List Part) → AreSorted d from ps → HavePlaces d from places ps
    → trees_of (ground_terms d.words (λ p. term_at terms (slice_index values p)) (map (placed_part d from places) ps) [])
    ≡ substitute_all (map_of (bindings terms (names_in_places d.words places) values)) (pattern d from w ps).terms
placed_agree d from terms places values differ long w ps s h =
    let m = map_of (bindings terms (names_in_places d.words places) values) in
    ap (λ (ts : List Tree). trees_of ts) (ground_agree d from terms places values differ long ps s h) ∙ substituted m (terms_before d from ps [])

-- the names of the variables in parts
abbrev pub variable_words : Data → ℕ → List Part → List (List ℕ)
variable_words d from [] = []
variable_words d from (parts.Variable v ∷ ps) = variable_name d from v ∷ variable_words d from ps
variable_words d from (parts.Constant c ∷ ps) = variable_words d from ps
variable_words d from (parts.List c n ∷ ps) = variable_words d from ps

variables_append : (ts us : List Tree) → variables_in (trees_of (ts ++ us)) ≡ variables_in (trees_of ts) ++ variables_in (trees_of us)
variables_append [] us = refl
variables_append (t ∷ ts) us =
    ap (λ (ns : List (List ℕ)). variables t ++ ns) (variables_append ts us)
    ∙ sym (append_assoc (variables t) (variables_in (trees_of ts)) (variables_in (trees_of us)))

variables_are : (d : Data) (from : ℕ) (ps : List Part) → AreSorted d from ps → variables_in (trees_of (terms_before d from ps [])) ≡ variable_words d
    from ps
variables_are d from [] s = refl
variables_are d from (parts.Variable v ∷ ps) s =
    ap (λ (b : Bool). cond b (variable_name d from v ∷ []) [] ++ variables_in (trees_of (terms_before d from ps []))) s.0.2
    ∙ ap (λ (ns : List (List ℕ)). variable_name d from v ∷ ns) (variables_are d from ps s.1)
variables_are d from (parts.Constant c ∷ ps) s =
    ap (λ (b : Bool). cond b (word_at d.words c ∷ []) [] ++ variables_in (trees_of (terms_before d from ps []))) s.0.1 ∙ variables_are d from ps s.1
variables_are d from (parts.List c n ∷ ps) s =
    let bs = terms_before d from ps [] in
    ap (λ (b : Bool). (cond b (word_at d.words c ∷ []) [] ++ variables_in (trees_of (take n bs))) ++ variables_in (trees_of (drop n bs))) s.0.1
    ∙ sym (variables_append (take n bs) (drop n bs))
    ∙ ap (λ (ts : List Tree). variables_in (trees_of ts)) (take-append-drop n bs)
    ∙ variables_are d from ps s.1

pub later_has : (s : ℕ) (xs ys : List (Option ℕ)) → BeginsWith xs ys → HasPlace s xs → HasPlace s ys
later_has s xs ys b h = (h.0, later_place xs ys h.0 (Some s) b h.1)

pub own_place : (s : ℕ) (places : List (Option ℕ)) → HasPlace s (with_place places s)
own_place s places = go (place_of s places) refl
  where
    go : (o : Option ℕ) → place_of s places ≡ o → HasPlace s (places_with places s o)
    go None e = (length places, at_end places (Some s))
    go (Some j) e = (j, (found_place s places j e).has)

-- a variable of a pattern has a place once the pattern is matched
leaf_placed : (d : Data) (from : ℕ) → NamesDiffer d.words → (ps : List Part) → AreSorted d from ps → (places : List (Option ℕ)) (s : ℕ)
    → s < length d.words
    → is_name_in (word_at d.words s) (variable_words d from ps) ≡ true → HasPlace s (places_after d from ps places)
leaf_placed d from different [] sorted places s h e = absurd cc
leaf_placed d from different (parts.Constant c ∷ ps) sorted places s h e = leaf_placed d from different ps sorted.1 places s h e
leaf_placed d from different (parts.List c n ∷ ps) sorted places s h e = leaf_placed d from different ps sorted.1 places s h e
leaf_placed d from different (parts.Variable v ∷ ps) sorted places s h e =
    go (name_eq (word_at d.words s) (variable_name d from v)) refl e
    (λ f. leaf_placed d from different ps sorted.1 (with_place places (symbol_of d from v)) s h f)
  where
    go : (b : Bool) → name_eq (word_at d.words s) (variable_name d from v) ≡ b → (b || is_name_in (word_at d.words s) (variable_words d from ps)) ≡
        true
        → (is_name_in (word_at d.words s) (variable_words d from ps) ≡ true
        → HasPlace s (places_after d from ps (with_place places (symbol_of d from v))))
        → HasPlace s (places_after d from ps (with_place places (symbol_of d from v)))
    go true f g again =
        let same : symbol_of d from v ≡ s = sym (different s (symbol_of d from v) h sorted.0.1
        (name_eq_yes (word_at d.words s) (variable_name d from v) f)) in
        later_has s (with_place places (symbol_of d from v)) (places_after d from ps (with_place places (symbol_of d from v)))
        (places_front d from ps (with_place places (symbol_of d from v)))
        (subst (λ (k : ℕ). HasPlace k (with_place places (symbol_of d from v))) same (own_place (symbol_of d from v) places))
    go false f g again = again g

-- places stay through a body
pub body_front : (d : Data) (from : ℕ) (keys : List (List ℕ)) (atoms : List ℕ) (ranges : List Span) (ns : List ℕ) (j : Pools)
    → BeginsWith j.places (with_body d from keys atoms ranges ns j).places
body_front d from keys atoms ranges [] j = ([], sym (append-nil j.places))
body_front d from keys atoms ranges (n ∷ ns) j = go (binds d (literal_in d n)) (λ k. body_front d from keys atoms ranges ns k)
  where
    go : (b : Bool) → ((k : Pools) → BeginsWith k.places (with_body d from keys atoms ranges ns k).places)
        → BeginsWith j.places (with_body d from keys atoms ranges ns
        (cond b (with_level d from keys atoms (range_for d ranges (literal_in d n).atom.relation) (literal_in d n).atom j) j)).places
    go false again = again j
    go true again =
        let a = (literal_in d n).atom in
        let k = with_level d from keys atoms (range_for d ranges a.relation) a j in
        begins_on j.places (j.places ++ None ∷ []) (with_body d from keys atoms ranges ns k).places (None ∷ [], refl)
        (begins_on (j.places ++ None ∷ []) k.places (with_body d from keys atoms ranges ns k).places
        (places_front d from (parts_in d a) (j.places ++ None ∷ [])) (again k))

name_in_append : (n : List ℕ) (xs ys : List (List ℕ)) → is_name_in n (xs ++ ys) ≡ true → (is_name_in n xs ≡ true) ⊎ (is_name_in n ys ≡ true)
name_in_append n [] ys e = inr e
name_in_append n (x ∷ xs) ys e = go (name_eq n x) refl e (λ f. name_in_append n xs ys f)
  where
    go : (b : Bool) → name_eq n x ≡ b → (b || is_name_in n (xs ++ ys)) ≡ true
        → (is_name_in n (xs ++ ys) ≡ true → (is_name_in n xs ≡ true) ⊎ (is_name_in n ys ≡ true))
        → ((name_eq n x || is_name_in n xs) ≡ true) ⊎ (is_name_in n ys ≡ true)
    go true f g again = inl (ap (λ (b : Bool). b || is_name_in n xs) f)
    go false f g again = on (again g)
      where
        on : (is_name_in n xs ≡ true) ⊎ (is_name_in n ys ≡ true) → ((name_eq n x || is_name_in n xs) ≡ true) ⊎ (is_name_in n ys ≡ true)
        on (inl h) = inl (ap (λ (b : Bool). b || is_name_in n xs) f ∙ h)
        on (inr h) = inr h

names_in_append : (xs ys ms : List (List ℕ)) → are_names_in (xs ++ ys) ms ≡ true → (are_names_in xs ms ≡ true) × (are_names_in ys ms ≡ true)
names_in_append [] ys ms e = (refl, e)
names_in_append (x ∷ xs) ys ms e =
    let b = both (is_name_in x ms) (are_names_in (xs ++ ys) ms) e in
    let again = names_in_append xs ys ms b.1 in
    (ap (λ (c : Bool). c && are_names_in xs ms) b.0 ∙ again.0, again.1)

-- a variable that a body binds has a place
bound_placed : (d : Data) (from : ℕ) (keys : List (List ℕ)) (atoms : List ℕ) (ranges : List Span) → NamesDiffer d.words → (ns : List ℕ)
    → AreInside from d ns → (j : Pools) (s : ℕ) → s < length d.words
    → is_name_in (word_at d.words s) (bound (map (stated_literal d from) ns)) ≡ true → HasPlace s (with_body d from keys atoms ranges ns j).places
bound_placed d from keys atoms ranges different [] i j s h e = absurd cc
bound_placed d from keys atoms ranges different (n ∷ ns) i j s h e =
    go (binds d (literal_in d n)) (binds_said d from n i.0.1) e (λ k f. bound_placed d from keys atoms ranges different ns i.1 k s h f)
  where
    own : List (List ℕ)
    own = variables_in (said.atom_of (stated_literal d from n)).terms

    own_words : own ≡ variable_words d from (parts_in d (literal_in d n).atom)
    own_words =
        ap (λ (x : said.Atom). variables_in x.terms) (atom_of_literal (literal_in d n).is_negated (stated_atom d from (literal_in d n).atom))
        ∙ variables_are d from (parts_in d (literal_in d n).atom) i.0.1.sorted

    next : Pools
    next = with_level d from keys atoms (range_for d ranges (literal_in d n).atom.relation) (literal_in d n).atom j

    by_either : (is_name_in (word_at d.words s) own ≡ true) ⊎ (is_name_in (word_at d.words s) (bound (map (stated_literal d from) ns)) ≡ true)
        → ((k : Pools) → is_name_in (word_at d.words s) (bound (map (stated_literal d from) ns)) ≡ true
        → HasPlace s (with_body d from keys atoms ranges ns k).places)
        → HasPlace s (with_body d from keys atoms ranges ns next).places
    by_either (inl f) again =
        later_has s next.places (with_body d from keys atoms ranges ns next).places (body_front d from keys atoms ranges ns next)
        (leaf_placed d from different (parts_in d (literal_in d n).atom) i.0.1.sorted (j.places ++ None ∷ []) s h
        (sym (ap (λ (ws : List (List ℕ)). is_name_in (word_at d.words s) ws) own_words) ∙ f))
    by_either (inr f) again = again next f

    go : (b : Bool) → is_binding (stated_literal d from n) ≡ b
        → is_name_in (word_at d.words s) (cond (is_binding (stated_literal d from n)) own [] ++ bound (map (stated_literal d from) ns)) ≡ true
        → ((k : Pools) → is_name_in (word_at d.words s) (bound (map (stated_literal d from) ns)) ≡ true
        → HasPlace s (with_body d from keys atoms ranges ns k).places)
        → HasPlace s (with_body d from keys atoms ranges ns
        (cond b (with_level d from keys atoms (range_for d ranges (literal_in d n).atom.relation) (literal_in d n).atom j) j)).places
    go false f g again = again j (sym (ap (λ (b : Bool). is_name_in (word_at d.words s) (cond b own [] ++ bound (map (stated_literal d from) ns))) f) ∙ g)
    go true f g again =
        by_either (name_in_append (word_at d.words s) own (bound (map (stated_literal d from) ns))
        (sym (ap (λ (b : Bool). is_name_in (word_at d.words s) (cond b own [] ++ bound (map (stated_literal d from) ns))) f) ∙ g)) again

-- the variables of parts have places where their names are among those that have
all_have : (d : Data) (from : ℕ) (ms : List (List ℕ)) (places : List (Option ℕ))
    → ((s : ℕ) → s < length d.words → is_name_in (word_at d.words s) ms ≡ true → HasPlace s places)
    → (ps : List Part) → AreSorted d from ps → are_names_in (variable_words d from ps) ms ≡ true → HavePlaces d from places ps
all_have d from ms places has [] s e = tt
all_have d from ms places has (parts.Constant c ∷ ps) s e = all_have d from ms places has ps s.1 e
all_have d from ms places has (parts.List c n ∷ ps) s e = all_have d from ms places has ps s.1 e
all_have d from ms places has (parts.Variable v ∷ ps) s e =
    let b = both (is_name_in (variable_name d from v) ms) (are_names_in (variable_words d from ps) ms) e in
    (has (symbol_of d from v) s.0.1 b.0, all_have d from ms places has ps s.1 b.1)

needed_have : (d : Data) (from : ℕ) (ms : List (List ℕ)) (places : List (Option ℕ))
    → ((s : ℕ) → s < length d.words → is_name_in (word_at d.words s) ms ≡ true → HasPlace s places)
    → (ns : List ℕ) → AreInside from d ns → are_names_in (needed (map (stated_literal d from) ns)) ms ≡ true → HaveNeededPlaces d from places ns
needed_have d from ms places has [] i e = tt
needed_have d from ms places has (n ∷ ns) i e =
    let own = variables_in (said.atom_of (stated_literal d from n)).terms in
    let b = names_in_append (cond (is_binding (stated_literal d from n)) [] own) (needed (map (stated_literal d from) ns)) ms e in
    let words : own ≡ variable_words d from (parts_in d (literal_in d n).atom) =
    ap (λ (x : said.Atom). variables_in x.terms) (atom_of_literal (literal_in d n).is_negated (stated_atom d from (literal_in d n).atom))
    ∙ variables_are d from (parts_in d (literal_in d n).atom) i.0.1.sorted in (
      λ f. all_have d from ms places has (parts_in d (literal_in d n).atom) i.0.1.sorted
          (sym (ap (λ (c : Bool). are_names_in (cond c [] own) ms) (binds_said d from n i.0.1 ∙ f)
          ∙ ap (λ (ws : List (List ℕ)). are_names_in ws ms) words) ∙ b.0),
      needed_have d from ms places has ns i.1 b.1,
    )

pub safe_places : (d : Data) (keys : List (List ℕ)) (atoms : List ℕ) (ranges : List Span) → NamesDiffer d.words → (n : Numbered) → IsWhole d n
    → is_safe (alternative_of d n) ≡ true
    → HavePlaces d n.variables.from (with_body d n.variables.from keys atoms ranges n.body no_pools).places (parts_in d n.head)
    × HaveNeededPlaces d n.variables.from (with_body d n.variables.from keys atoms ranges n.body no_pools).places n.body
safe_places d keys atoms ranges different n whole safe =
    let from = n.variables.from in
    let ms = bound (map (stated_literal d from) n.body) in
    let places = (with_body d from keys atoms ranges n.body no_pools).places in
    let head = variables_in (stated_atom d from n.head).terms in
    let b = names_in_append head (needed (map (stated_literal d from) n.body)) ms safe in
    let has : (s : ℕ) → s < length d.words → is_name_in (word_at d.words s) ms ≡ true
    → HasPlace s places = λ s h e. bound_placed d from keys atoms ranges different n.body whole.1 no_pools s h e in (
      all_have d from ms places has (parts_in d n.head) whole.0.sorted
          (sym (ap (λ (ws : List (List ℕ)). are_names_in ws ms) (variables_are d from (parts_in d n.head) whole.0.sorted)) ∙ b.0),
      needed_have d from ms places has n.body whole.1 b.1,
    )
