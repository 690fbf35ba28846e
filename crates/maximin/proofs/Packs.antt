-- The joint moves of several states in one run.
use Rattle.std.proofs.Common.{
  ◌≡◌,
  Bool,
  false,
  ℕ,
  ◌+◌,
  ◌-◌,
  ◌<◌,
  ◌≤◌,
  ◌++◌,
  List,
  [],
  ◌∷◌,
  Option,
  Some,
  None,
  length,
  map,
  take,
  drop,
  get_or,
  get_or-set_same,
  get_or-set_other,
  length-append,
  zero,
  suc,
  refl,
  sym,
  subst,
  ap,
  ◌∙◌,
  arith,
  max,
  min,
  inl,
  inr,
}
use Rattle.std.proofs.Math.ListN.{set}
use Rattle.std.proofs.Math.Seq.{drop-append_seam}
use Rattle.std.proofs.lemmas.Bool.{cases_eq}
use Rattle.std.proofs.lemmas.List.{length-map, length-take-le, length-drop, map_more, take-append-drop, take-append-le, take_all, drop-append-le, get_or-drop}
use Rattle.std.proofs.lemmas.List.Elements.{All-append}
use Rattle.std.specs.Option.{is_some}
use Rattle.std.specs.Prelude.{All, IfSome, replicate}
use Rattle.smallvec.specs.SmallVec.{SmallVec}
use Rattle.game.proofs.Facts.{turns_after_count, turns_after_more}
use Rattle.statement.specs.declared.at_bound.AtBound.{AtBound}
use Rattle.statement.specs.Rules.{Rules, State, Turn, IsTurn, choices, turns_with}
use Rattle.game.specs.TurnsAfter.{turns_after}
use Rattle.statement.specs.Value.{value, worst, least, greatest}
use Rattle.maximin.specs.declared.ahead.Ahead.{Ahead}
use Rattle.maximin.specs.declared.pack.Pack.{Pack}
use Rattle.maximin.specs.declared.pack.Part.{Part}
use Rattle.maximin.specs.declared.run.Run.{Run}
use Rattle.search_table.specs.declared.bounds.Bounds.{Bounds}
use Rattle.search_table.specs.Worths.{AreBoundsOf}
use Rattle.maximin.specs.Ahead.{IsAheadOf}
use Rattle.maximin.specs.Alone.{IsAlone}
use Rattle.maximin.specs.Pack.{picked, packed_after, IsPartOf, IsPackOf}
use Rattle.maximin.specs.Run.{IsRunOf, turns_in}
use Rattle.maximin.specs.Turns.{StandsAt}
use Rattle.maximin.proofs.OwnTurns.{alone_worst, own_worths}
use Rattle.maximin.proofs.Runs.{least_joined}
use Rattle.maximin.specs.Open.{IsOpen}
use Rattle.maximin.proofs.Values.{value_open}

-- as many joint moves as the run counts
pub turns_count : (roles : ℕ) (run : Run) → IsRunOf roles run → length (turns_in run) ≡ run.count
turns_count roles run h =
    let size = h.size in
    let few = h.few in
    length-map (take run.count run.joints.items) (λ (j : SmallVec ℕ). j.items) ∙ length-take-le run.count run.joints.items (omega arith)

-- as many states as joint moves of a run that were stepped
pub stepped_count : (roles : ℕ) (run : Run) (joints : List (SmallVec ℕ)) (after : Turn → State) (states : List State) → IsRunOf roles run
    → joints ≡ run.joints.items → states ≡ map (λ (j : SmallVec ℕ). after j.items) (take run.count joints) → length states ≡ run.count
stepped_count roles run joints after states h same e =
    let size = h.size in
    let few = h.few in
    ap (λ (ss : List State). length ss) e ∙ length-map (take run.count joints) (λ (j : SmallVec ℕ). after j.items)
    ∙ length-take-le run.count joints (omega (arith, ap (λ (js : List (SmallVec ℕ)). length js) same))

pub rest_list : {A : Type 0} (xs ys all : List A) (n : ℕ) → all ≡ xs ++ ys → length xs ≡ n → drop n all ≡ ys
rest_list {A} xs ys all n e size =
    ap (λ (l : List A). drop n l) e ∙ ap (λ (k : ℕ). drop k (xs ++ ys)) (sym size) ∙ drop-append_seam xs ys

pub front_more : {A : Type 0} (xs ys front : List A) (n : ℕ) → take n xs ≡ front → n ≤ length xs → take n (xs ++ ys) ≡ front
front_more xs ys front n e within = take-append-le n xs ys within ∙ e

-- the joint moves that a run had before stand in front
pub front_of : (roles : ℕ) (old new : Run) (more : List Turn) → IsRunOf roles old → turns_in new ≡ turns_in old ++ more
    → take old.count (turns_in new) ≡ turns_in old
front_of roles old new more h e =
    let size : length (turns_in old) ≡ old.count = turns_count roles old h in
    ap (λ (ts : List Turn). take old.count ts) e
    ∙ front_more (turns_in old) more (turns_in old) old.count (take_all old.count (turns_in old) (omega arith)) (omega arith)

-- fewer joint moves of a run
pub turns_fewer : (count now : ℕ) (joints : List (SmallVec ℕ)) → count ≤ now
    → map (λ (j : SmallVec ℕ). j.items) (take count joints) ≡ take count (map (λ (j : SmallVec ℕ). j.items) (take now joints))
turns_fewer zero now joints few = refl
turns_fewer (suc count) zero joints few = absurd (omega arith)
turns_fewer (suc count) (suc now) [] few = refl
turns_fewer (suc count) (suc now) (j ∷ js) few = ap (λ (ts : List Turn). j.items ∷ ts) (turns_fewer count now js (omega arith))

-- the least and the greatest of one more
least_more : (worth : State → ℕ) (xs : List State) (i : ℕ) → 0 < i → i < length xs
    → least (map worth (take (i + 1) xs)) ≡ min (least (map worth (take i xs))) (worth (get_or xs i []))
least_more worth xs i some below =
    let size = length-map (take i xs) worth in
    let front = length-take-le i xs (omega arith) in
    ap least (map_more worth xs i [] below) ∙ least_joined (map worth (take i xs)) (worth (get_or xs i []) ∷ []) (omega arith) (omega arith)

greatest_joined : (xs : List ℕ) (y : ℕ) → greatest (xs ++ y ∷ []) ≡ max (greatest xs) y
greatest_joined [] y = omega arith
greatest_joined (x ∷ xs) y = let rest = greatest_joined xs y in omega arith

greatest_more : (worth : State → ℕ) (xs : List State) (i : ℕ) → i < length xs
    → greatest (map worth (take (i + 1) xs)) ≡ max (greatest (map worth (take i xs))) (worth (get_or xs i []))
greatest_more worth xs i below =
    ap greatest (map_more worth xs i [] below) ∙ greatest_joined (map worth (take i xs)) (worth (get_or xs i []))

pub least_next : (worth : State → ℕ) (xs : List State) (first i here lowest new : ℕ) → 0 < i → first + i < length xs
    → here ≡ worth (get_or xs (first + i) []) → lowest ≡ least (map worth (take i (drop first xs))) → new ≡ min lowest here
    → new ≡ least (map worth (take (i + 1) (drop first xs)))
least_next worth xs first i here lowest new some below is before e =
    let rest = length-drop first xs in
    let there : here ≡ worth (get_or (drop first xs) i []) = is ∙ ap worth (sym (get_or-drop first xs i [])) in
    let all = least_more worth (drop first xs) i some (omega arith) in
    omega arith

pub greatest_next : (worth : State → ℕ) (xs : List State) (first i here highest new : ℕ) → first + i < length xs
    → here ≡ worth (get_or xs (first + i) []) → highest ≡ greatest (map worth (take i (drop first xs))) → new ≡ max highest here
    → new ≡ greatest (map worth (take (i + 1) (drop first xs)))
greatest_next worth xs first i here highest new below is before e =
    let rest = length-drop first xs in
    let there : here ≡ worth (get_or (drop first xs) i []) = is ∙ ap worth (sym (get_or-drop first xs i [])) in
    let all = greatest_more worth (drop first xs) i (omega arith) in
    omega arith

-- the worth of a state in which no other role has a choice
pub alone_picked : (g : Rules) (role depth : ℕ) (at : AtBound) (s : State) (own : ℕ) (places : List ℕ) (joint : Turn) (turns : List Turn)
    → role < g.roles → IsOpen g depth s → IsAlone g s role → StandsAt (choices g s role own) places joint
    → turns ≡ map (λ (m : ℕ). set joint role m) (g.legal s role)
    → value g role depth at s ≡ greatest (map (λ (j : Turn). value g role (depth - 1) at (g.after s j)) turns)
alone_picked g role depth at s own places joint turns known free alone stands e =
    let worth : Turn → ℕ = λ j. value g role (depth - 1) at (g.after s j) in
    value_open g role depth at s free
    ∙ ap greatest (sym (ap (map worth) e ∙ own_worths worth (λ m. set joint role m) (worst g role (depth - 1) at s)
    (alone_worst g role (depth - 1) at s own places joint known alone stands) (g.legal s role)))

-- and of one in which the role has one move alone
pub forced_picked : (g : Rules) (role depth : ℕ) (at : AtBound) (s : State) (own : ℕ) (turns : List Turn) → IsOpen g depth s
    → g.legal s role ≡ own ∷ [] → turns ≡ turns_with g s role own
    → value g role depth at s ≡ least (map (λ (j : Turn). value g role (depth - 1) at (g.after s j)) turns)
forced_picked g role depth at s own turns free one e =
    let worth : Turn → ℕ = λ j. value g role (depth - 1) at (g.after s j) in
    let alone : greatest (worst g role (depth - 1) at s own ∷ []) ≡ worst g role (depth - 1) at s own = omega arith in
    value_open g role depth at s free
    ∙ ap (λ (ms : List ℕ). greatest (map (worst g role (depth - 1) at s) ms)) one
    ∙ alone ∙ ap (λ (ts : List Turn). least (map worth ts)) (sym e)

-- Parts.

some_kept : {A : Type 0} (P Q : A → Type 0) (o : Option A) → ((x : A) → P x → Q x) → IfSome o P → IfSome o Q
some_kept P Q None f h = h
some_kept P Q (Some x) f h = f x h

part_kept : (next : State → ℕ) (after more : List State) (worth : ℕ) (part : Part) → IsPartOf next after worth part
    → IsPartOf next (after ++ more) worth part
part_kept next after more worth part h =
    let within = h.within in
    let both = length-append after more in
    let rest = length-drop part.first after in
    let same : take part.count (drop part.first (after ++ more)) ≡ take part.count (drop part.first after) =
    ap (λ (l : List State). take part.count l) (drop-append-le part.first after more (omega arith))
    ∙ take-append-le part.count (drop part.first after) more (omega arith) in
    record {
      some = h.some;
      within = omega arith;
      told = h.told ∙ ap (λ (l : List State). picked part.pick (map next l)) (sym same);
    }

map_after : (next : State → ℕ) (after : Turn → State) (turns : List Turn) → map next (map after turns) ≡ map (λ (j : Turn). next (after j)) turns
map_after next after [] = refl
map_after next after (t ∷ ts) = ap (λ (ns : List ℕ). next (after t) ∷ ns) (map_after next after ts)

part_last : (next : State → ℕ) (after : List State) (step : Turn → State) (turns : List Turn) (worth : ℕ) (part : Part)
    → part.first ≡ length after → part.count ≡ length turns → 0 < length turns
    → worth ≡ picked part.pick (map (λ (j : Turn). next (step j)) turns)
    → IsPartOf next (after ++ map step turns) worth part
part_last next after step turns worth part first count some is =
    let both = length-append after (map step turns) in
    let size : length (map step turns) ≡ length turns = length-map turns step in
    let same : take part.count (drop part.first (after ++ map step turns)) ≡ map step turns =
    ap (λ (l : List State). take part.count l) (ap (λ (k : ℕ). drop k (after ++ map step turns)) first ∙ drop-append_seam after (map step turns))
    ∙ take_all part.count (map step turns) (omega arith) in
    record {
      some = omega arith;
      within = omega arith;
      told = is ∙ ap (picked part.pick) (sym (map_after next step turns)) ∙ ap (λ (l : List State). picked part.pick (map next l)) (sym same);
    }

-- Packs.

All-same : (P : ℕ → Type 0) (n x : ℕ) → P x → All P (replicate n x)
All-same P zero x h k d below = absurd (omega arith)
All-same P (suc n) x h zero d below = h
All-same P (suc n) x h (suc k) d below = All-same P n x h k d (omega arith)

-- those of one state more
pub pack_more : (g : Rules) (states : List State) (worth next : State → ℕ) (roles : ℕ) (old new : Pack) (run more : Run) (place : ℕ) (part : Part)
    → place < length states → length states ≤ length old.parts → run.count ≤ length old.places
    → IsRunOf roles run → IsRunOf roles more → IsPackOf g states worth next old run
    → take more.count new.places ≡ take run.count old.places ++ replicate (more.count - run.count) place
    → new.parts ≡ set old.parts place (Some part)
    → take run.count (turns_in more) ≡ turns_in run → run.count < more.count → All (IsTurn g) (turns_in more)
    → part.first ≡ run.count → part.count ≡ more.count - run.count
    → worth (get_or states place []) ≡ picked part.pick
    (map (λ (j : Turn). next (g.after (get_or states place []) j)) (drop run.count (turns_in more)))
    → IsPackOf g states worth next new more
pack_more g states worth next roles old new run more place part known few room is_run is_more h places parts front some turns first count is =
    let n = run.count in
    let added = drop n (turns_in more) in
    let step = g.after (get_or states place []) in
    let after = packed_after g states old.places run in
    let whole : turns_in more ≡ turns_in run ++ added =
    sym (take-append-drop n (turns_in more)) ∙ ap (λ (ts : List Turn). ts ++ added) front in
    let run_size : length (turns_in run) ≡ n = turns_count roles run is_run in
    let more_size : length (turns_in more) ≡ more.count = turns_count roles more is_more in
    let added_size : length added ≡ more.count - n = length-drop n (turns_in more) ∙ ap (λ (m : ℕ). m - n) more_size in
    let place_size : length (take n old.places) ≡ n = length-take-le n old.places room in
    let after_size : length after ≡ n = turns_after_count g states (take n old.places) (turns_in run) (omega arith) ∙ run_size in
    let joined : packed_after g states new.places more ≡ after ++ map step added =
    ap (λ (ps : List ℕ). turns_after g states ps (turns_in more)) places
    ∙ ap (λ (ts : List Turn). turns_after g states (take n old.places ++ replicate (more.count - n) place) ts) whole
    ∙ turns_after_more g states (take n old.places) (turns_in run) place (more.count - n) added (omega arith) (sym added_size) in
    record {
      known = turns;
      places = subst (All (λ k. k < length states)) (sym places)
          (All-append (λ k. k < length states) (take n old.places) (replicate (more.count - n) place) h.places
          (All-same (λ k. k < length states) (more.count - n) place known));
      parts = λ k below.
          subst (λ (ps : List (Option Part)). IfSome (get_or ps k None)
          (IsPartOf next (packed_after g states new.places more) (worth (get_or states k []))))
          (sym parts)
          (subst (λ (l : List State). IfSome (get_or (set old.parts place (Some part)) k None) (IsPartOf next l (worth (get_or states k []))))
          (sym joined)
          (elim (cases_eq k place) [
            | inl same ↦
                subst (λ (i : ℕ). IfSome (get_or (set old.parts place (Some part)) i None)
                (IsPartOf next (after ++ map step added) (worth (get_or states i []))))
                (sym same)
                (subst (λ (o : Option Part). IfSome o (IsPartOf next (after ++ map step added) (worth (get_or states place []))))
                (sym (get_or-set_same old.parts place (Some part) None (omega arith)))
                (part_last next after step added (worth (get_or states place [])) part (first ∙ sym after_size) (count ∙ sym added_size) (omega arith)
                is))
            | inr other ↦
                subst (λ (o : Option Part). IfSome o (IsPartOf next (after ++ map step added) (worth (get_or states k []))))
                (sym (get_or-set_other old.parts place k (Some part) None other))
                (some_kept (IsPartOf next after (worth (get_or states k []))) (IsPartOf next (after ++ map step added) (worth (get_or states k [])))
                (get_or old.parts k None)
                (λ p. part_kept next after (map step added) (worth (get_or states k [])) p) (h.parts k below))
          ]));
    }

-- nothing is known
pub none_known : {A : Type 0} (n k : ℕ) → get_or {A = Option A} (replicate n None) k None ≡ None
none_known zero k = refl
none_known (suc n) zero = refl
none_known (suc n) (suc k) = none_known n k

pub not_some : {A : Type 0} (o : Option A) (b : Bool) → b ≡ is_some o → b ≡ false → o ≡ None
not_some None b e no_one = refl
not_some (Some x) b e no_one = absurd cc

-- what is known of an option that is there
pub some_is : {A : Type 0} (P : A → Type 0) (o : Option A) (x : A) → o ≡ Some x → IfSome o P → P x
some_is {A} P o x e h = subst (λ (p : Option A). IfSome p P) e h

-- as many states as joint moves
pub packed_count : (g : Rules) (states : List State) (roles : ℕ) (places : List ℕ) (run : Run) → IsRunOf roles run → run.count ≤ length places
    → length (packed_after g states places run) ≡ run.count
packed_count g states roles places run h room =
    let size = turns_count roles run h in
    let named = length-take-le run.count places room in
    turns_after_count g states (take run.count places) (turns_in run) (omega arith) ∙ size

-- bounds of one more worth are noted
pub note_more : (states : List State) (worth : State → ℕ → ℕ) (depth : ℕ) (old new : Ahead) (place : ℕ) (found : Bounds)
    → place < length old.bounds → new.count ≡ old.count → new.bounds ≡ set old.bounds place found
    → AreBoundsOf (worth (get_or states place [])) depth found → IsAheadOf states worth depth old → IsAheadOf states worth depth new
note_more states worth depth old new place found room count bounds is h = record {
  count = count ∙ h.count;
  few = h.few;
  bounds = λ k d below.
      subst (λ (bs : List Bounds). AreBoundsOf (worth (get_or states k [])) depth (get_or bs k d)) (sym bounds)
      (elim (cases_eq k place) [
        | inl same ↦
            subst (λ (i : ℕ). AreBoundsOf (worth (get_or states i [])) depth (get_or (set old.bounds place found) i d)) (sym same)
            (subst (λ (b : Bounds). AreBoundsOf (worth (get_or states place [])) depth b)
            (sym (get_or-set_same old.bounds place found d room)) is)
        | inr other ↦
            subst (λ (b : Bounds). AreBoundsOf (worth (get_or states k [])) depth b)
            (sym (get_or-set_other old.bounds place k found d other)) (h.bounds k d below)
      ]);
}
