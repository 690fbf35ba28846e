-- What the rule of a board tells of one seat.
use Rattle.std.proofs.Common.{◌≡◌, ℕ, ◌+◌, ◌-◌, ◌<◌, ◌≤◌, ◌≢◌, min, max, cond, List, set, refl}
use Rattle.std.proofs.Common.{ap, ◌∙◌, subst, ⊎_elim, arith, eq-eqb, ne_eqb, slice_index}
use mathlib.Core.Logic.{dite}
use mathlib.Core.Option.{some}
use native.Mathlib.Decide.{ℕ_discrete, dec_le}
use lib.ListN.{get_elem?}
use Rattle.atomic_table.proofs.Lists.{at_set}
use Rattle.board.specs.Weights.{total, below, only, times}
use Rattle.board.specs.Values.{move_of, reply_of, moves, tasks, worth, best_worth, top, Opens}
use Rattle.board.specs.Books.{owes}
use Rattle.board.specs.Lawful.{claims, best, upper, left, Fits, BoardKeeps}
use Rattle.board.specs.declared.book.Setup.{Setup}
use Rattle.board.specs.declared.book.Book.{Book}
use Rattle.board.specs.declared.book.Raise.TheVariants.{Owed, Ready}
use Rattle.board.proofs.Sums.{term_le, total_grows, total_both, only_here, only_else, part_le, below_grows, below_misses, below_only}
use Rattle.board.proofs.Least.{least_under, most_ge}
use Rattle.board.proofs.Places.{place_in, place_found, all_of_move}

pub owes_here : (i j : ℕ) → j ≡ i → owes i (Owed j) ≡ 1
owes_here i j e = ap (λ b. cond b 1 0) (eq-eqb j i e)

pub owes_else : (i j : ℕ) → j ≢ i → owes i (Owed j) ≡ 0
owes_else i j n = ap (λ b. cond b 1 0) (ne_eqb j i n)

pub seats_set : (P : Book → Type 0) (ks : List Book) (id : ℕ) (w : Book) → P w → ((j : ℕ) (u : Book) → j ≢ id → get_elem? ks j ≡ some u → P u)
    → (j : ℕ) (u : Book) → get_elem? (set ks id w) j ≡ some u → P u
seats_set P ks id w mine others j u e = ⊎_elim (λ t. subst P t.1 mine) (λ t. others j u t.0 t.1) (at_set ks id j w u e)

-- where best and the claim word only grew and the upper words only fell, a book stays right
pub fits_on : (o : Setup) (ws ws' : List ℕ) (u : Book) → Fits o ws u → best ws ≤ best ws' → claims ws ≤ claims ws'
    → ((i : ℕ) → upper ws' i ≤ upper ws i)
    → ((i x : ℕ) → u.raise ≡ Ready i x → upper ws' i ≡ upper ws i) → Fits o ws' u
fits_on o ws ws' u f b c h a = record {
  idle = f.idle;
  setup = f.setup;
  width = f.width;
  best_seen = omega (arith, f.best_seen, b);
  upper_seen = λ i lt. omega (arith, f.upper_seen i lt, h i);
  marked = λ e. omega (arith, f.marked e, c);
  low_from = f.low_from;
  high_from = f.high_from;
  raise_in = f.raise_in;
  amount = λ i x e. a i x e ∙ f.amount i x e;
}

module _ (value : ℕ → ℕ → ℕ) (o : Setup) (low high : ℕ) (ws : List ℕ) (ks : List Book) (s : BoardKeeps value o low high ws ks) where
  abbrev handed : ℕ
  handed = min (claims ws) (tasks o)

  -- a task in a book was handed out
  pub held_below : (x : ℕ) → 0 < total (λ k. times x k.hand + times x k.counted) ks → (x < claims ws) × (x < tasks o)
  held_below x h = dite (dec_le handed x)
      (λ le. absurd (omega (arith, s.once (only x), below_only x handed le, h)))
      (λ more. let lt : x < handed = omega (arith, more) in (omega (arith, lt), omega (arith, lt)))

  module _ (i : ℕ) (near : i < moves o) where
    abbrev of : ℕ → ℕ
    of x = only i (move_of o.replies x)

    pub parts : total (λ k. total of k.hand) ks + total (λ k. total of k.counted) ks ≡ below of handed
    parts = omega (arith, s.once of, total_both (λ (k : Book). total of k.hand) (λ (k : Book). total of k.counted) ks)

    pub parts_few : below of handed ≤ slice_index o.replies i
    parts_few = omega (arith, below_grows of handed (tasks o) (omega arith), all_of_move o.replies i near)

    -- a task whose move has no task left is in some book, and is counted
    pub counted_all : left ws i ≡ 0 → (x : ℕ) → x < tasks o → move_of o.replies x ≡ i → 0 < total (λ k. times x k.counted) ks
    counted_all none x lt is =
        let here : of x ≡ 1 = only_here i (move_of o.replies x) is in
        let full : slice_index o.replies i ≤ total (λ (k : Book). total of k.counted) ks = omega (arith, s.lefts i near, none) in
        let out : total (λ (k : Book). total of k.hand) ks ≡ 0 = omega (arith, parts, parts_few, full) in
        let some_in : x < handed = dite (dec_le handed x) (λ le. absurd
        (omega (arith, below_misses of handed (tasks o) x le lt, all_of_move o.replies i near, parts, out, full, here)))
        (λ more. omega (arith, more)) in
        let one : 1 ≤ below (only x) handed = omega (arith, below_misses (only x) 0 handed x (omega arith) some_in, only_here x x refl) in
        let none_held : total (λ (k : Book). times x k.hand) ks ≤ total (λ (k : Book). total of k.hand) ks =
        total_grows (λ (k : Book). times x k.hand) (λ (k : Book). total of k.hand) ks (λ k. total_grows (only x) of k.hand (λ y. dite (ℕ_discrete y x)
        (λ e. omega (arith, only_here x y e, only_here i (move_of o.replies y) (ap (move_of o.replies) e ∙ is)))
        (λ n. omega (arith, only_else x y n)))) in
        omega (arith, one, s.once (only x), total_both (λ (k : Book). times x k.hand) (λ (k : Book). times x k.counted) ks, none_held, out)

  -- a move that has no task left is as low as its value, or low enough not to matter
  pub full_move : Opens o → (i : ℕ) → i < moves o → left ws i ≡ 0 → upper ws i ≤ max (worth value o i) (top value o low - o.margin)
  full_move op i near none = least_under (value i) (slice_index o.replies i - 1) (upper ws i) (top value o low - o.margin)
      (λ j le. let p = place_found o.replies i j near (omega (arith, le, op.some_reply i near)) in
      let t = s.settled p.0 (counted_all i near none p.0 p.1 p.2) in
      let u : upper ws (move_of o.replies p.0) ≡ upper ws i = ap (upper ws) p.2 in
      let v : value (move_of o.replies p.0) (reply_of o.replies p.0) ≡ value i j = λ d. value (p.2 d) (p.3 d) in
      omega (arith, t, u, v))

  pub worth_top : (i : ℕ) → i < moves o → worth value o i ≤ best_worth value o
  worth_top i near = most_ge (worth value o) (moves o - 1) i (omega (arith, near))

  module _ (id : ℕ) (k : Book) (at : get_elem? ks id ≡ some k) where
    pub own : Fits o ws k
    own = s.seats id k at

    pub in_hand : (x : ℕ) → 0 < times x k.hand → (x < claims ws) × (x < tasks o)
    in_hand x h = held_below x (omega (arith, h, term_le (λ (u : Book). times x u.hand + times x u.counted) ks id k at))

    pub left_more : (x : ℕ) → 0 < times x k.hand → 0 < left ws (move_of o.replies x)
    left_more x h =
        let i = move_of o.replies x in
        let near : i < moves o = (place_in o.replies x (in_hand x h).1).0 in
        omega (
          arith,
          s.lefts i near,
          parts i near,
          parts_few i near,
          term_le (λ (u : Book). total (of i near) u.hand) ks id k at,
          part_le (of i
              near) x k.hand h,
          only_here i (move_of o.replies x) refl,
        )

    pub owed_none_left : (i : ℕ) → i < moves o → 0 < owes i k.raise → left ws i ≡ 0
    owed_none_left i near h = dite (dec_le (left ws i) 0) (λ le. omega (arith, le))
        (λ more. absurd (omega (arith, s.late_raise i near (omega (arith, more)), term_le (λ (u : Book). owes i u.raise) ks id k at, h)))

    pub ready_none_left : (i x : ℕ) → i < moves o → k.raise ≡ Ready i x → left ws i ≡ 0
    ready_none_left i x near e = owed_none_left i near (omega (arith, ap (owes i) e, owes_here i i refl))
