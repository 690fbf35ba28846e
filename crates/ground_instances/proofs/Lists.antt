-- Kept instances in flat lists.
use Rattle.std.proofs.Common.{◌≡◌, ℕ, zero, suc, ◌+◌, ◌-◌, ◌≤◌, ◌<◌, Bool, List, [], ◌∷◌, ◌++◌, length, length-append, take, map, drop, drop-cons, get_or, refl, sym, ◌∙◌, ap, subst, arith, slice_range, append_assoc}
use Rattle.std.proofs.lemmas.List.{take-append-le, drop-append-le, length-drop}
use Rattle.std.proofs.Math.Seq.{take-append_seam, drop-append_seam, take-length}
use Rattle.ground_instances.specs.declared.entry.Entry.{Entry}
use Rattle.ground_instances.specs.declared.entry.AlternativeRun.{AlternativeRun}
use Rattle.ground_instances.specs.declared.found_list.FoundList.{FoundList}
use Rattle.statement.specs.Kept.{Kept}
use Rattle.ground_instances.specs.Lists.{alternative_at, bodies_behind, bodies_of, kept_from, kept_behind, numbers_of_list, start_at, entry_heads, StandBetween, HaveBodies, RunsRise, AreLaidIn, AddsRun}

abbrev pub kept_of : ℕ → ℕ → List (ℕ × Bool) → Kept
kept_of alternative head body = record { alternative = alternative; head = head; body = body }

many_behind : (runs : List AlternativeRun) (bodies : List (List (ℕ × Bool))) (n : ℕ) (es : List Entry) → length (kept_behind runs bodies n es) ≡ length es
many_behind runs bodies n [] = refl
many_behind runs bodies n (e ∷ es) = ap suc (many_behind runs bodies (suc n) es)

pub many_numbers : (f : FoundList) → length (numbers_of_list f) ≡ length f.entries.items
many_numbers f = many_behind f.runs.items (bodies_of f) 0 f.entries.items

-- no instances are at most any number
pub none_found : (f : FoundList) (n : ℕ) → numbers_of_list f ≡ [] → length f.entries.items ≤ n
none_found f n e =
    let many = many_numbers f in
    let none : length (numbers_of_list f) ≡ 0 = ap length e in omega (arith, many, none)

abbrev heads_of : List Kept → List ℕ
heads_of ks = map (λ (k : Kept). k.head) ks

heads_behind : (runs : List AlternativeRun) (bodies : List (List (ℕ × Bool))) (n : ℕ) (es : List Entry) → heads_of (kept_behind runs bodies n es) ≡ entry_heads es
heads_behind runs bodies n [] = refl
heads_behind runs bodies n (e ∷ es) = ap (λ (ns : List ℕ). e.head ∷ ns) (heads_behind runs bodies (suc n) es)

heads_from : (runs : List AlternativeRun) (bodies : List (List (ℕ × Bool))) (m : ℕ) (es : List Entry) (before more : List Kept) (n : ℕ)
    → kept_behind runs bodies m es ≡ before ++ more → n ≡ length before → entry_heads (drop n es) ≡ heads_of more
heads_from runs bodies m es [] more n e h =
    subst (λ (k : ℕ). entry_heads (drop k es) ≡ heads_of more) (sym h) (sym (heads_behind runs bodies m es) ∙ ap heads_of e)
heads_from runs bodies m [] (b ∷ before) more n e h = absurd cc
heads_from runs bodies m (x ∷ es) (b ∷ before) more n e h =
    let rest : kept_behind runs bodies (suc m) es ≡ before ++ more = cc in
    subst (λ (k : ℕ). entry_heads (drop k (x ∷ es)) ≡ heads_of more) (sym h)
    (heads_from runs bodies (suc m) es before more (length before) rest refl)

-- the entries behind those before have the heads of the new instances
pub new_heads : (f : FoundList) (before more : List Kept) (n : ℕ) → numbers_of_list f ≡ before ++ more → n ≡ length before
    → entry_heads (drop n f.entries.items) ≡ heads_of more
new_heads f = heads_from f.runs.items (bodies_of f) 0 f.entries.items

-- a place past the last has the blank entry
abbrev pub blank : Entry
blank = record { head = 0; body = 0 }

-- what is left begins with the entry at its place
pub entry_here : (es : List Entry) (i : ℕ) → i < length es → drop i es ≡ get_or es i blank ∷ drop (i + 1) es
entry_here es i h =
    let n : suc i ≡ i + 1 = omega arith in
    drop-cons es i blank h ∙ ap (λ (j : ℕ). get_or es i blank ∷ drop j es) n

-- At a place.

here_behind : (runs : List AlternativeRun) (bodies : List (List (ℕ × Bool))) (n : ℕ) (es : List Entry) (i : ℕ) (d : Kept) (x : Entry) → i < length es
    → get_or (kept_behind runs bodies n es) i d ≡ kept_from runs bodies (n + i) (get_or es i x)
here_behind runs bodies n [] i d x h = absurd (omega (arith, h))
here_behind runs bodies n (e ∷ es) zero d x h =
    let same : n ≡ n + zero = omega arith in ap (λ (m : ℕ). kept_from runs bodies m e) same
here_behind runs bodies n (e ∷ es) (suc i) d x h =
    let same : suc n + i ≡ n + suc i = omega arith in
    here_behind runs bodies (suc n) es i d x (omega (arith, h))
    ∙ ap (λ (m : ℕ). kept_from runs bodies m (get_or es i x)) same

-- the instance at a place is that of its entry
pub kept_here : (f : FoundList) (i : ℕ) (d : Kept) (x : Entry) → i < length f.entries.items
    → get_or (numbers_of_list f) i d ≡ kept_from f.runs.items (bodies_of f) i (get_or f.entries.items i x)
kept_here f i d x h =
    let same : 0 + i ≡ i = omega arith in
    here_behind f.runs.items (bodies_of f) 0 f.entries.items i d x h
    ∙ ap (λ (m : ℕ). kept_from f.runs.items (bodies_of f) m (get_or f.entries.items i x)) same

-- the body of the entry at a place is there
pub body_there : (many : ℕ) (es : List Entry) (i : ℕ) (x : Entry) → i < length es → HaveBodies many es → (get_or es i x).body < many
body_there many [] i x h b = absurd (omega (arith, h))
body_there many (e ∷ es) zero x h b = b.0
body_there many (e ∷ es) (suc i) x h b = body_there many es i x (omega (arith, h)) b.1

-- The bodies.

bodies_many : (ls : List (ℕ × Bool)) (start : ℕ) (es : List ℕ) → length (bodies_behind ls start es) ≡ length es
bodies_many ls start [] = refl
bodies_many ls start (e ∷ es) = ap suc (bodies_many ls e es)

pub many_bodies : (f : FoundList) → length (bodies_of f) ≡ length f.ends.items
many_bodies f = bodies_many f.literals.items 0 f.ends.items

body_at : (ls : List (ℕ × Bool)) (start : ℕ) (es : List ℕ) (i x : ℕ) → i < length es
    → get_or (bodies_behind ls start es) i [] ≡ slice_range ls (start_at start es i) (get_or es i x)
body_at ls start [] i x h = absurd (omega (arith, h))
body_at ls start (e ∷ es) zero x h = refl
body_at ls start (e ∷ es) (suc i) x h = body_at ls e es i x (omega (arith, h))

-- the literals of the body of a number
pub body_here : (f : FoundList) (i x : ℕ) → i < length f.ends.items
    → get_or (bodies_of f) i [] ≡ slice_range f.literals.items (start_at 0 f.ends.items i) (get_or f.ends.items i x)
body_here f i x h = body_at f.literals.items 0 f.ends.items i x h

pub starts_first : (start : ℕ) (es : List ℕ) → start_at start es 0 ≡ start
starts_first start [] = refl
starts_first start (e ∷ es) = refl

-- a body begins where the one before ends
pub starts_next : (start : ℕ) (es : List ℕ) (i x : ℕ) → i < length es → start_at start es (suc i) ≡ get_or es i x
starts_next start [] i x h = absurd (omega (arith, h))
starts_next start (e ∷ es) zero x h = starts_first e es
starts_next start (e ∷ es) (suc i) x h = starts_next e es i x (omega (arith, h))

pub rises : (start : ℕ) (es : List ℕ) (end : ℕ) → StandBetween start es end → start ≤ end
rises start [] end h = omega (arith, h)
rises start (e ∷ es) end h =
    let first = h.0 in
    let rest = rises e es end h.1 in omega (arith, first, rest)

-- the literals of a body are there
pub stands_here : (start : ℕ) (es : List ℕ) (end i x : ℕ) → i < length es → StandBetween start es end
    → (start_at start es i ≤ get_or es i x) × (get_or es i x ≤ end)
stands_here start [] end i x h s = absurd (omega (arith, h))
stands_here start (e ∷ es) end zero x h s = (s.0, rises e es end s.1)
stands_here start (e ∷ es) end (suc i) x h s = stands_here e es end i x (omega (arith, h)) s.1

-- One more.

range_front : (xs ys : List (ℕ × Bool)) (a b : ℕ) → a ≤ b → b ≤ length xs → slice_range (xs ++ ys) a b ≡ slice_range xs a b
range_front xs ys a b h k =
    let l : a ≤ length xs = omega arith in
    let m : b - a ≤ length (drop a xs) = simp length-drop (omega arith) in
    rw (drop-append-le a xs ys l, take-append-le (b - a) (drop a xs) ys m) refl

range_to_end : (xs : List (ℕ × Bool)) (a : ℕ) → a ≤ length xs → slice_range xs a (length xs) ≡ drop a xs
range_to_end xs a h =
    let e : length xs - a ≡ length (drop a xs) = simp length-drop (omega arith) in
    rw e (take-length (drop a xs))

-- literals behind those of some bodies do not change these
same_in_front : (ls more : List (ℕ × Bool)) (start : ℕ) (es : List ℕ) (end : ℕ) → StandBetween start es end → end ≤ length ls
    → bodies_behind (ls ++ more) start es ≡ bodies_behind ls start es
same_in_front ls more start [] end h l = refl
same_in_front ls more start (e ∷ es) end h l =
    let far = rises e es end h.1 in
    ap (λ (b : List (ℕ × Bool)). b ∷ bodies_behind (ls ++ more) e es) (range_front ls more start e h.0 (omega (arith, far, l)))
    ∙ ap (λ (bs : List (List (ℕ × Bool))). slice_range ls start e ∷ bs) (same_in_front ls more e es end h.1 l)

-- runs that tell the same of the places of some entries
same_runs : (old new : List AlternativeRun) (bodies : List (List (ℕ × Bool))) (n : ℕ) (es : List Entry)
    → ((m : ℕ) → m < n + length es → alternative_at new m ≡ alternative_at old m)
    → kept_behind new bodies n es ≡ kept_behind old bodies n es
same_runs old new bodies n [] same = refl
same_runs old new bodies n (e ∷ es) same =
    ap (λ (a : ℕ). kept_of a e.head (get_or bodies e.body []) ∷ kept_behind new bodies (suc n) es) (same n (omega arith))
    ∙ ap (λ (ks : List Kept). kept_from old bodies n e ∷ ks)
    (same_runs old new bodies (suc n) es (λ m less. same m (let more : suc n + length es ≡ n + suc (length es) = omega arith in omega (arith, less, more))))

one_behind : (runs : List AlternativeRun) (bodies : List (List (ℕ × Bool))) (n : ℕ) (es : List Entry) (e : Entry)
    → kept_behind runs bodies n (es ++ e ∷ []) ≡ kept_behind runs bodies n es ++ kept_from runs bodies (n + length es) e ∷ []
one_behind runs bodies n [] e =
    let same : n ≡ n + 0 = omega arith in ap (λ (k : ℕ). kept_from runs bodies k e ∷ []) same
one_behind runs bodies n (x ∷ es) e =
    let same : suc n + length es ≡ n + suc (length es) = omega arith in
    ap (λ (ks : List Kept). kept_from runs bodies n x ∷ ks)
    (one_behind runs bodies (suc n) es e
    ∙ ap (λ (k : ℕ). kept_behind runs bodies (suc n) es ++ kept_from runs bodies k e ∷ []) same)

has_one_more : (many : ℕ) (es : List Entry) (e : Entry) → HaveBodies many es → e.body < many → HaveBodies many (es ++ e ∷ [])
has_one_more many [] e h l = (l, tt)
has_one_more many (x ∷ es) e h l = (h.0, has_one_more many es e h.1 l)

-- an entry behind those of the others
pub instance_put : (es all : List Entry) (old new : List AlternativeRun) (bodies : List (List (ℕ × Bool))) (head body a t b : ℕ)
    → AddsRun a (length es) old new → head ≡ t → body ≡ b → all ≡ es ++ record { head = head; body = body } ∷ []
    → kept_behind new bodies 0 all ≡ kept_behind old bodies 0 es ++ record { alternative = a; head = t; body = get_or bodies b [] } ∷ []
instance_put es all old new bodies head body a t b adds h e is =
    let one : Entry = record { head = head; body = body } in
    let many : 0 + length es ≡ length es = omega arith in
    ap (kept_behind new bodies 0) is
    ∙ one_behind new bodies 0 es one
    ∙ ap (λ (n : ℕ). kept_behind new bodies 0 es ++ kept_from new bodies n one ∷ []) many
    ∙ ap (λ (ks : List Kept). ks ++ kept_from new bodies (length es) one ∷ [])
    (same_runs old new bodies 0 es (λ m l. adds.before m (omega (arith, l))))
    ∙ ap (λ (k : ℕ). kept_behind old bodies 0 es ++ kept_of (alternative_at new (length es)) head (get_or bodies k []) ∷ []) e
    ∙ ap (λ (n : ℕ). kept_behind old bodies 0 es ++ kept_of n head (get_or bodies b []) ∷ []) adds.here
    ∙ ap (λ (n : ℕ). kept_behind old bodies 0 es ++ kept_of a n (get_or bodies b []) ∷ []) h

pub laid_put : (es all : List Entry) (old new : List AlternativeRun) (many head body a b : ℕ) → AddsRun a (length es) old new → body ≡ b → b < many
    → all ≡ es ++ record { head = head; body = body } ∷ [] → HaveBodies many es → RunsRise 0 new (length all) × HaveBodies many all
laid_put es all old new many head body a b adds e less is have =
    let one : Entry = record { head = head; body = body } in
    let own : body < many = omega (arith, e, less) in
    let longer : suc (length es) ≡ length all =
    (let n : suc (length es) ≡ length es + 1 = omega arith in n) ∙ sym (ap length is ∙ length-append es (one ∷ [])) in (
      subst (λ (n : ℕ). RunsRise 0 new n) longer adds.rise,
      subst (λ (xs : List Entry). HaveBodies many xs) (sym is) (has_one_more many es one have own),
    )

-- One body more.

one_between : (start : ℕ) (es : List ℕ) (end e : ℕ) → StandBetween start es end → end ≤ e → StandBetween start (es ++ e ∷ []) e
one_between start [] end e h l = (omega (arith, h, l), refl)
one_between start (x ∷ es) end e h l = (h.0, one_between x es end e h.1 l)

one_body : (ls : List (ℕ × Bool)) (start : ℕ) (es : List ℕ) (end e : ℕ) → StandBetween start es end
    → bodies_behind ls start (es ++ e ∷ []) ≡ bodies_behind ls start es ++ slice_range ls end e ∷ []
one_body ls start [] end e h = ap (λ (k : ℕ). slice_range ls k e ∷ []) h
one_body ls start (x ∷ es) end e h = ap (λ (bs : List (List (ℕ × Bool))). slice_range ls start x ∷ bs) (one_body ls x es end e h.1)

-- a body of the literals from a place on, up to which those of the others stand
pub body_put : (ls all_literals : List (ℕ × Bool)) (es all : List ℕ) (start : ℕ) → StandBetween 0 es start → start ≤ length ls → all_literals ≡ ls
    → all ≡ es ++ length ls ∷ [] → bodies_behind all_literals 0 all ≡ bodies_behind ls 0 es ++ drop start ls ∷ []
body_put ls all_literals es all start between less same is =
    ap (λ (xs : List (ℕ × Bool)). bodies_behind xs 0 all) same ∙ ap (bodies_behind ls 0) is
    ∙ one_body ls 0 es start (length ls) between
    ∙ ap (λ (b : List (ℕ × Bool)). bodies_behind ls 0 es ++ b ∷ []) (range_to_end ls start less)

pub between_put : (es all : List ℕ) (many start : ℕ) → StandBetween 0 es start → start ≤ many → all ≡ es ++ many ∷ [] → StandBetween 0 all many
between_put es all many start between less is =
    subst (λ (xs : List ℕ). StandBetween 0 xs many) (sym is) (one_between 0 es start many between less)

have_more : (many more : ℕ) (es : List Entry) → many ≤ more → HaveBodies many es → HaveBodies more es
have_more many more [] l h = tt
have_more many more (e ∷ es) l h =
    let own = h.0 in (omega (arith, own, l), have_more many more es l h.1)

-- what has one of some bodies has one of more
pub have_put : (es : List Entry) (ends all : List ℕ) (e : ℕ) → all ≡ ends ++ e ∷ [] → HaveBodies (length ends) es → HaveBodies (length all) es
have_put es ends all e is h =
    let long = ap length is ∙ length-append ends (e ∷ []) in
    have_more (length ends) (length all) es (omega (arith, long)) h

get_front : (bodies more : List (List (ℕ × Bool))) (i : ℕ) → i < length bodies → get_or (bodies ++ more) i [] ≡ get_or bodies i []
get_front [] more i h = absurd (omega (arith, h))
get_front (b ∷ bodies) more zero h = refl
get_front (b ∷ bodies) more (suc i) h = get_front bodies more i (omega (arith, h))

pub get_last : (bodies : List (List (ℕ × Bool))) (b : List (ℕ × Bool)) (i : ℕ) → i ≡ length bodies → get_or (bodies ++ b ∷ []) i [] ≡ b
get_last [] b zero h = refl
get_last [] b (suc i) h = absurd (omega (arith, h))
get_last (x ∷ bodies) b zero h = absurd (omega (arith, h))
get_last (x ∷ bodies) b (suc i) h = get_last bodies b i (omega (arith, h))

bodies_in_front : (runs : List AlternativeRun) (bodies more : List (List (ℕ × Bool))) (n : ℕ) (es : List Entry) → HaveBodies (length bodies) es
    → kept_behind runs (bodies ++ more) n es ≡ kept_behind runs bodies n es
bodies_in_front runs bodies more n [] h = refl
bodies_in_front runs bodies more n (e ∷ es) h =
    ap (λ (b : List (ℕ × Bool)). kept_of (alternative_at runs n) e.head b ∷ kept_behind runs (bodies ++ more) (suc n) es) (get_front bodies more e.body h.0)
    ∙ ap (λ (ks : List Kept). kept_from runs bodies n e ∷ ks) (bodies_in_front runs bodies more (suc n) es h.1)

-- what instances are does not change by bodies behind theirs
pub same_instances : (f : FoundList) (more : List (List (ℕ × Bool))) (start : ℕ) → AreLaidIn start f
    → kept_behind f.runs.items (bodies_of f ++ more) 0 f.entries.items ≡ numbers_of_list f
same_instances f more start laid =
    bodies_in_front f.runs.items (bodies_of f) more 0 f.entries.items
    (subst (λ (n : ℕ). HaveBodies n f.entries.items) (sym (many_bodies f)) laid.2)

-- what was there before another body
pub same_body : (f : FoundList) (b : List (ℕ × Bool)) (i : ℕ) → i < length (bodies_of f) → get_or (bodies_of f ++ b ∷ []) i [] ≡ get_or (bodies_of f) i []
same_body f b i h = get_front (bodies_of f) (b ∷ []) i h

-- What a body adds to the literals of all.

-- what was there is still there
pub still_there : (ls literals more : List (ℕ × Bool)) → literals ≡ ls ++ more → take (length ls) literals ≡ ls
still_there ls literals more e = ap (λ (ms : List (ℕ × Bool)). take (length ls) ms) e ∙ take-append_seam ls more

pub still_more : (ls literals all first more : List (ℕ × Bool)) → literals ≡ ls ++ first → all ≡ literals ++ more → take (length ls) all ≡ ls
still_more ls literals all first more e f =
    still_there ls all (first ++ more) (f ∙ ap (λ (ms : List (ℕ × Bool)). ms ++ more) e ∙ append_assoc ls first more)

-- what was added is what stands behind what was there
pub added_behind : (ls literals more : List (ℕ × Bool)) → literals ≡ ls ++ more → drop (length ls) literals ≡ more
added_behind ls literals more e = ap (λ (ms : List (ℕ × Bool)). drop (length ls) ms) e ∙ drop-append_seam ls more

pub longer_by : (ls literals more : List (ℕ × Bool)) → literals ≡ ls ++ more → length ls ≤ length literals
longer_by ls literals more e =
    let all = ap length e ∙ length-append ls more in omega (arith, all)

-- bodies do not change by literals behind theirs, and so what the entries tell of
pub same_bodies : (f : FoundList) (ls literals more : List (ℕ × Bool)) → literals ≡ ls ++ more → AreLaidIn (length ls) f
    → bodies_behind literals 0 f.ends.items ≡ bodies_behind ls 0 f.ends.items
same_bodies f ls literals more e w =
    let all : length ls ≤ length ls = omega arith in
    ap (λ (ms : List (ℕ × Bool)). bodies_behind ms 0 f.ends.items) e ∙ same_in_front ls more 0 f.ends.items (length ls) w.0 all

pub same_entries : (f : FoundList) (ls literals more : List (ℕ × Bool)) → literals ≡ ls ++ more → AreLaidIn (length ls) f
    → kept_behind f.runs.items (bodies_behind literals 0 f.ends.items) 0 f.entries.items
    ≡ kept_behind f.runs.items (bodies_behind ls 0 f.ends.items) 0 f.entries.items
same_entries f ls literals more e w =
    ap (λ (bs : List (List (ℕ × Bool))). kept_behind f.runs.items bs 0 f.entries.items) (same_bodies f ls literals more e w)
