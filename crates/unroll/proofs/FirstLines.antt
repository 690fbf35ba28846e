-- A first line that is a comment changes nothing of what a text stands for.
use Rattle.std.proofs.Common.{ℕ, suc, Bool, true, false, cond, ◌≡◌, ◌≤◌, List, [], ◌∷◌, ◌++◌, map, length, refl, sym, ap, ◌∙◌}
use Rattle.statement.specs.Tree.{Trees}
use Rattle.statement.specs.Lexical.{is_name_byte, visible, Token, Spot, token_here, tokens, tokens_of, spots_at}
use Rattle.statement.specs.Reading.{Reads, text_limit}
use Rattle.unroll.specs.Written.{shown_line, tested_line}

tokens_told : (o : ℕ) (ks : List Token) (ss : List Spot) → tokens_of (map (λ t. record { at = o; token = t }) ks ++ ss) ≡ ks ++ tokens_of ss
tokens_told o [] ss = refl
tokens_told o (k ∷ ks) ss = ap (λ (l : List Token). k ∷ l) (tokens_told o ks ss)

-- which tokens there are does not rest on where the text begins
tokens_anywhere : (o p : ℕ) (after : Bool) (bs : List ℕ) → tokens_of (spots_at o after bs) ≡ tokens_of (spots_at p after bs)
tokens_anywhere o p after [] = refl
tokens_anywhere o p after (b ∷ bs) =
    tokens_told o (token_here after b bs) (spots_at (suc o) (is_name_byte b) bs)
    ∙ ap (λ (l : List Token). token_here after b bs ++ l) (tokens_anywhere (suc o) (suc p) (is_name_byte b) bs)
    ∙ sym (tokens_told p (token_here after b bs) (spots_at (suc p) (is_name_byte b) bs))

line_tokens : (is_shown : Bool) (text : List ℕ) → tokens (cond is_shown shown_line tested_line ++ text) ≡ tokens text
line_tokens true text = tokens_anywhere 44 0 false (visible text)
line_tokens false text = tokens_anywhere 59 0 false (visible text)

pub reads_behind : (is_shown : Bool) (out line text : List ℕ) (ts : Trees) → line ≡ cond is_shown shown_line tested_line → out ≡ line ++ text
    → length out ≤ text_limit → Reads text ts → Reads out ts
reads_behind is_shown out line text ts is e short reads = record {
  short = short;
  same_tokens = ap tokens (e ∙ ap (λ (l : List ℕ). l ++ text) is) ∙ line_tokens is_shown text ∙ reads.same_tokens;
  shallow = reads.shallow;
  short_names = reads.short_names;
}
