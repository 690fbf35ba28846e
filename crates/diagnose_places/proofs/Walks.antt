-- How far a walk over a text has come.
use Rattle.std.proofs.Common.{ℕ, ◌≤◌, ◌<◌, ◌≡◌, ◌≢◌, List, slice_index, sym}
use Rattle.diagnose_places.specs.declared.tokens.Tokens.{Tokens}
use Rattle.std.specs.Prelude.{Option, Some, None}
use Rattle.diagnose_places.specs.declared.tokens.TokenKind.{TokenKind}
use Rattle.diagnose_places.specs.Unread.{text_of, unread, Passes}
use Rattle.diagnose_places.proofs.Steps.{Shows}

-- no line feed from `start` up to the offset o
pub record IsTogether (text : List ℕ) (o start : ℕ) : Type 0 where
  pub before : start ≤ o
  pub together : (k : ℕ) → start ≤ k → k < o → slice_index text k ≢ 10

-- nothing was read
pub record IsUnread (old now : Tokens) : Type 0 where
  pub text : text_of now ≡ text_of old
  pub left : unread now ≡ unread old

pub kind_of : (old new : Tokens) (kind : Option TokenKind) → Shows (text_of old) old.at kind (unread old) (unread new) → Passes old kind new
kind_of old new None h = sym h
kind_of old new (Some kind) h = h
