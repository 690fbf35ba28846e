-- This crate's own: what `run` promises does not rest on it.
-- The tokens of a text that were not read yet.
use Rattle.std.specs.Prelude.{ℕ, Bool, cond, ◌==◌, ◌≡◌, List, ◌∷◌, drop, Option, Some, None}
use Rattle.statement.specs.Lexical.{is_space, is_name_byte, name_front, without_comments, Spot, spots_at, opening, closing, word, stray}
use Rattle.statement.specs.Lexical as lexical
use Rattle.diagnose_places.specs.declared.tokens.TokenKind.{TokenKind}
use Rattle.diagnose_places.specs.declared.tokens.TokenKind.TheVariants as kinds
use Rattle.diagnose_places.specs.declared.tokens.Token.{Token}
use Rattle.diagnose_places.specs.declared.tokens.Tokens.{Tokens}

abbrev pub text_of : Tokens → List ℕ
text_of tokens = tokens.text.now

-- the tokens behind the offset that was come to, which may stand in a comment, and may have a name's byte before it
abbrev pub unread : Tokens → List Spot
unread tokens = spots_at tokens.at tokens.in_name (without_comments tokens.in_comment (drop tokens.at tokens.text.now))

-- the kind of the token that begins with a byte outside comments, if one does
abbrev pub kind_begun : Bool → ℕ → Option TokenKind
kind_begun in_name b =
    cond (is_name_byte b) (cond in_name None (Some kinds.Word))
    (cond (b == 40) (Some kinds.Opening)
    (cond (b == 41) (Some kinds.Closing)
    (cond (is_space b) None (Some kinds.Stray))))

-- the token of a kind at an offset; a word is the longest run of name bytes from there on
abbrev pub token_at : List ℕ → ℕ → TokenKind → lexical.Token
token_at text o kinds.Opening = opening
token_at text o kinds.Closing = closing
token_at text o kinds.Word = word (name_front (drop o text))
token_at text o kinds.Stray = stray

abbrev pub spot_of : List ℕ → Token → Spot
spot_of text token = record { at = token.start; token = token_at text token.start token.kind }

-- one byte on: the token that begins there is read, if one does
abbrev pub Passes : Tokens → Option TokenKind → Tokens → Type 0
Passes old None new = unread new ≡ unread old
Passes old (Some kind) new = unread old ≡ spot_of (text_of old) (record { start = old.at; kind = kind }) ∷ unread new
