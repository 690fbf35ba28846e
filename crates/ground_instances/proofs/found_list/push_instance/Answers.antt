use Rattle.std.proofs.Common.{ℕ, Bool, List, ◌≡◌, ◌≤◌, ◌<◌, [], ◌∷◌, ◌++◌, length, drop, get_or, ap, subst, sym, ◌∙◌, arith, length-append}
use Rattle.ground_instances.specs.declared.entry.Entry.{Entry}
use Rattle.ground_instances.specs.declared.entry.AlternativeRun.{AlternativeRun}
use Rattle.ground_instances.specs.declared.found_list.FoundList.{FoundList}
use Rattle.statement.specs.Kept.{Kept}
use Rattle.ground_instances.specs.Lists.{AreLaidIn, AreLaid, StandBetween, RunsRise, HaveBodies, bodies_behind, bodies_of, kept_behind, numbers_of_list}
use Rattle.ground_instances.proofs.Lists.{body_put, between_put, have_put, get_last, same_instances, many_bodies}
use Rattle.ground_instances.proofs.found_list.push_instance.Goals as goal

-- a list, and the same with one body more
record OneMore (f g : FoundList) : Type 0 where
  ends : g.ends.items ≡ f.ends.items ++ length f.literals.items ∷ []
  literals : g.literals.items ≡ f.literals.items
  entries : g.entries.items ≡ f.entries.items
  runs : g.runs.items ≡ f.runs.items

more_bodies : (f g : FoundList) → OneMore f g → (start : ℕ) → AreLaidIn start f → start ≤ length f.literals.items
    → bodies_of g ≡ bodies_of f ++ drop start f.literals.items ∷ []
more_bodies f g m start laid less = body_put f.literals.items g.literals.items f.ends.items g.ends.items start laid.0 less m.literals m.ends

more_laid : (f g : FoundList) → OneMore f g → (start : ℕ) → AreLaidIn start f → start ≤ length f.literals.items → AreLaid g
more_laid f g m start laid less = (
  subst (λ (n : ℕ). StandsTo n) (sym (ap length m.literals)) (between_put f.ends.items g.ends.items (length f.literals.items) start laid.0 less m.ends),
  subst (λ (rs : List AlternativeRun). RunsRise 0 rs (length g.entries.items)) (sym m.runs)
      (subst (λ (es : List Entry). RunsRise 0 f.runs.items (length es)) (sym m.entries) laid.1),
  subst (λ (es : List Entry). HaveBodies (length g.ends.items) es) (sym m.entries)
      (have_put f.entries.items f.ends.items g.ends.items (length f.literals.items) m.ends laid.2),
)
  where
    StandsTo : ℕ → Type 0
    StandsTo n = StandBetween 0 g.ends.items n

more_numbers : (f g : FoundList) → OneMore f g → (start : ℕ) → AreLaidIn start f → start ≤ length f.literals.items → numbers_of_list g ≡ numbers_of_list f
more_numbers f g m start laid less =
    ap (λ (rs : List AlternativeRun). kept_behind rs (bodies_of g) 0 g.entries.items) m.runs
    ∙ ap (λ (es : List Entry). kept_behind f.runs.items (bodies_of g) 0 es) m.entries
    ∙ ap (λ (bs : List (List (ℕ × Bool))). kept_behind f.runs.items bs 0 f.entries.items) (more_bodies f g m start laid less)
    ∙ same_instances f (drop start f.literals.items ∷ []) start laid

new_body : (f g : FoundList) → OneMore f g → (start : ℕ) → AreLaidIn start f → start ≤ length f.literals.items → (b : ℕ) → b ≡ length f.ends.items
    → get_or (bodies_of g) b [] ≡ drop start f.literals.items
new_body f g m start laid less b e =
    ap (λ (bs : List (List (ℕ × Bool))). get_or bs b []) (more_bodies f g m start laid less)
    ∙ get_last (bodies_of f) (drop start f.literals.items) b (e ∙ sym (many_bodies f))

below_more : (f g : FoundList) → OneMore f g → (b : ℕ) → b ≡ length f.ends.items → b < length g.ends.items
below_more f g m b e =
    let long = ap length m.ends ∙ length-append f.ends.items (length f.literals.items ∷ []) in omega (arith, long, e)

still_laid : (g h : FoundList) → h.literals.items ≡ g.literals.items → AreLaidIn (length g.literals.items) h → AreLaid h
still_laid g h e laid = subst (λ (n : ℕ). AreLaidIn n h) (sym (ap length e)) laid

same_of : (g h : FoundList) → h.ends.items ≡ g.ends.items → h.literals.items ≡ g.literals.items → bodies_of h ≡ bodies_of g
same_of g h e l =
    ap (λ (ls : List (ℕ × Bool)). bodies_behind ls 0 h.ends.items) l ∙ ap (bodies_behind g.literals.items 0) e

pub push_sharing-requires : goal.push_sharing-requires
push_sharing-requires c =
    below_more c.args.found.now c.add_body.new.found (record {
      ends = c.in_ok-add_body.ensures.ends;
      literals = c.in_ok-add_body.ensures.literals;
      entries = c.in_ok-add_body.ensures.entries;
      runs = c.in_ok-add_body.ensures.runs;
    }) c.len-body.result (c.len-body.ensures ∙ c.args.found.now.ends.ok.0)

pub returns-clause-added : goal.returns-clause-added
returns-clause-added c = λ start laid less.
    let f = c.args.found.now in
    let g = c.add_body.new.found in
    let more : OneMore f g = record {
      ends = c.in_ok-add_body.ensures.ends;
      literals = c.in_ok-add_body.ensures.literals;
      entries = c.in_ok-add_body.ensures.entries;
      runs = c.in_ok-add_body.ensures.runs;
    } in
    c.in_ok-push_sharing.ensures.added (length g.literals.items) (more_laid f g more start laid less)
    ∙ ap (λ (ks : List Kept). ks ++ record { alternative = c.args.alternative; head = c.args.head; body = get_or (bodies_of g) c.len-body.result [] } ∷ [])
    (more_numbers f g more start laid less)
    ∙ ap (λ (b : List (ℕ × Bool)). numbers_of_list f ++ record { alternative = c.args.alternative; head = c.args.head; body = b } ∷ [])
    (new_body f g more start laid less c.len-body.result (c.len-body.ensures ∙ f.ends.ok.0))

pub returns-clause-laid : goal.returns-clause-laid
returns-clause-laid c = λ start laid less.
    let f = c.args.found.now in
    let g = c.add_body.new.found in
    let more : OneMore f g = record {
      ends = c.in_ok-add_body.ensures.ends;
      literals = c.in_ok-add_body.ensures.literals;
      entries = c.in_ok-add_body.ensures.entries;
      runs = c.in_ok-add_body.ensures.runs;
    } in
    still_laid g c.push_sharing.new.found c.in_ok-push_sharing.ensures.bodies.1
    (c.in_ok-push_sharing.ensures.laid (length g.literals.items) (more_laid f g more start laid less))

pub returns-clause-bodies : goal.returns-clause-bodies
returns-clause-bodies c = λ start laid less.
    let f = c.args.found.now in
    let g = c.add_body.new.found in
    let more : OneMore f g = record {
      ends = c.in_ok-add_body.ensures.ends;
      literals = c.in_ok-add_body.ensures.literals;
      entries = c.in_ok-add_body.ensures.entries;
      runs = c.in_ok-add_body.ensures.runs;
    } in
    same_of g c.push_sharing.new.found c.in_ok-push_sharing.ensures.bodies.0 c.in_ok-push_sharing.ensures.bodies.1
    ∙ more_bodies f g more start laid less
