-- A task that is done has lowered its move: the rest of the rule tells it.
use Rattle.std.proofs.Common.{◌≡◌, ℕ, ◌-◌, ◌<◌, ◌≤◌, max, Bool, false, List, ap, arith}
use mathlib.Core.Logic.{dite}
use mathlib.Core.Option.{some}
use native.Mathlib.Decide.{dec_le}
use lib.ListN.{get_elem?}
use Rattle.board.specs.Weights.{times}
use Rattle.board.specs.Values.{move_of, moves, value_at, top, Opens}
use Rattle.board.specs.Lawful.{upper, greatest_low, least_high, BoardKeeps, IsDone, Lawful}
use Rattle.board.specs.declared.book.Setup.{Setup}
use Rattle.board.specs.declared.book.Book.{Book}
use Rattle.board.proofs.SeatFacts.{in_hand}
use Rattle.board.proofs.Places.{place_in}
use Rattle.board.proofs.Narrowest.{low_there}

module _ (value : ℕ → ℕ → ℕ) (o : Setup) (ws : List ℕ) (ks : List Book) (s : BoardKeeps value o (greatest_low o.low ks) (least_high o.high ks) ws ks) where
  abbrev low : ℕ
  low = greatest_low o.low ks

  -- who has a task in hand has a share
  holder_lives : (id : ℕ) (k : Book) → get_elem? ks id ≡ some k → (x : ℕ) → 0 < times x k.hand → 0 < k.shares
  holder_lives id k at x held = dite (dec_le k.shares 0)
      (λ none. absurd (let empty : times x k.hand ≡ 0 = ap (λ (u : Book). times x u.hand) ((s.seats id k at).idle (omega (arith, none))) in
      omega (arith, held, empty)))
      (λ some_share. omega (arith, some_share))

  pub done_lowered : (id : ℕ) (k : Book) → get_elem? ks id ≡ some k → (x : ℕ) → IsDone value o k x
      → upper ws (move_of o.replies x) ≤ max (value_at value o x) (top value o low - o.margin)
  done_lowered id k at x done =
      let mine = s.seats id k at in
      let near : move_of o.replies x < moves o = (place_in o.replies x (in_hand value o low (least_high o.high ks) ws ks s id k at x done.0).1).0 in
      omega (
        arith,
        done.1,
        mine.upper_seen (move_of o.replies x) (omega (arith, near, mine.width (holder_lives id k at x done.0))),
        mine.best_seen,
        s.best_high,
        low_there o.low ks id k at,
      )

pub lawful : (value : ℕ → ℕ → ℕ) (narrows : Bool) (o : Setup) (ws : List ℕ) (ks : List Book) → Opens o
    → BoardKeeps value o (greatest_low o.low ks) (least_high o.high ks) ws ks
    → (narrows ≡ false → (greatest_low o.low ks ≡ o.low) × (least_high o.high ks ≡ o.high)) → Lawful value narrows o ws ks
lawful value narrows o ws ks op s wide = record { opens = op; keeps = s; done = done_lowered value o ws ks s; wide = wide }
