-- Tokens that are left out, one tree behind the other.
use Rattle.std.proofs.Common.{ℕ, ◌≡◌, ◌+◌, ◌<◌, List, [], ◌∷◌, ◌++◌, take, length, get_or, refl, sym, ap, ◌∙◌, append_assoc, Option, Some, None}
use Rattle.std.specs.Prelude.{MatchOption, Vec}
use Rattle.std.proofs.lemmas.List.{append-nil}
use Rattle.statement.specs.Tree.{Tree, trees_of}
use Rattle.statement.specs.Lexical.{Token, opening, closing, word, Spot, spots, tokens_of}
use Rattle.statement.specs.Reading.{tree_tokens, trees_tokens}
use Rattle.kif.specs.View.{tree_of, trees_in}
use Rattle.kif.specs.declared.expr.Expr.{Expr}
use Rattle.kif.specs.declared.expr.Expr.TheVariants.{Name, List as List'}
use Rattle.kif.proofs.Facts.{tree_of-Name, tree_of-List, trees_in_take}
use Rattle.diagnose_places.specs.declared.tokens.Token as memory
use Rattle.diagnose_places.specs.declared.tokens.Tokens.{Tokens}
use Rattle.diagnose_places.specs.Unread.{text_of, unread, spot_of}
use Rattle.diagnose_places.specs.Standing.{LeavesOut}

pub left_none : (old : List Spot) → LeavesOut old [] old
left_none old ks e = record { front = []; last = refl; tokens = e }

pub left_more : (a : List Spot) (g : List Token) (b : List Spot) (h : List Token) (c : List Spot) → LeavesOut a g b → LeavesOut b h c → LeavesOut a (g ++ h) c
left_more a g b h c p q ks e =
    let first = p (h ++ ks) (e ∙ append_assoc g h ks) in
    let second = q ks first.tokens in
    record {
      front = first.front ++ second.front;
      last = first.last ∙ ap (λ (l : List Spot). first.front ++ l) second.last ∙ sym (append_assoc first.front second.front c);
      tokens = second.tokens;
    }

tail_of : (k l : Token) (ks ls : List Token) → k ∷ ks ≡ l ∷ ls → ks ≡ ls
tail_of k l ks ls e = cc

no_more : (k : Token) (ks : List Token) → [] ≡ k ∷ ks → ⊥
no_more k ks e = cc

-- the next token is left out
pub left_next : (text : List ℕ) (old new : List Spot) (found : Option memory.Token) (k : Token)
    → MatchOption found (old ≡ []) (λ t. old ≡ spot_of text t ∷ new) → LeavesOut old (k ∷ []) new
left_next text old new None k h ks e = absurd (no_more k ks (sym (ap tokens_of h) ∙ e))
left_next text old new (Some t) k h ks e = record {
  front = spot_of text t ∷ [];
  last = h;
  tokens = tail_of _ k _ ks (sym (ap tokens_of h) ∙ e);
}

-- another way to write what is left out
pub left_as : (a : List Spot) (g h : List Token) (b : List Spot) → g ≡ h → LeavesOut a g b → LeavesOut a h b
left_as a g h b e p ks f = p ks (f ∙ ap (λ (l : List Token). l ++ ks) (sym e))

-- one tree more
pub tokens_more : (ts : List Tree) (t : Tree) → trees_tokens (trees_of (ts ++ t ∷ [])) ≡ trees_tokens (trees_of ts) ++ tree_tokens t
tokens_more [] t = append-nil (tree_tokens t)
tokens_more (u ∷ ts) t = ap (λ (l : List Token). tree_tokens u ++ l) (tokens_more ts t) ∙ sym (append_assoc (tree_tokens u) (trees_tokens (trees_of ts)) (tree_tokens t))

abbrev pub tokens_in : {A : Type 0} → List (Expr A) → List Token
tokens_in {A} es = trees_tokens (trees_of (trees_in {A = A} es))

pub tokens_take : {A : Type 0} (es : List (Expr A)) (i : ℕ) (e : Expr A) → i < length es → e ≡ get_or es i e
    → tokens_in (take i es) ++ tree_tokens (tree_of e) ≡ tokens_in (take (i + 1) es)
tokens_take es i e h same = sym (tokens_more (trees_in (take i es)) (tree_of e)) ∙ ap (λ (ts : List Tree). trees_tokens (trees_of ts)) (sym (trees_in_take es i e h same))

pub name_tokens : {A : Type 0} (e : Expr A) (n : Vec ℕ A) → e ≡ Name n → word n.items ∷ [] ≡ tree_tokens (tree_of e)
name_tokens {A} e n is = ap tree_tokens (sym (tree_of-Name n)) ∙ ap (λ (x : Expr A). tree_tokens (tree_of x)) (sym is)

pub list_tokens : {A : Type 0} (e : Expr A) (ps : Vec (Expr A) A) → e ≡ List' ps
    → (opening ∷ tokens_in ps.items) ++ (closing ∷ []) ≡ tree_tokens (tree_of e)
list_tokens {A} e ps is = ap tree_tokens (sym (tree_of-List ps)) ∙ ap (λ (x : Expr A). tree_tokens (tree_of x)) (sym is)

-- these tokens are left out, of the same text
pub record IsOn (old new : Tokens) (gone : List Token) : Type 0 where
  pub text : text_of new ≡ text_of old
  pub left : LeavesOut (unread old) gone (unread new)

-- these tokens of the text are left out
pub record IsBehindAll (bytes : List ℕ) (now : Tokens) (gone : List Token) : Type 0 where
  pub text : text_of now ≡ bytes
  pub left : LeavesOut (spots bytes) gone (unread now)

pub left_start : (old new : List Spot) → new ≡ old → LeavesOut old [] new
left_start old new same ks e = record { front = []; last = sym same; tokens = ap tokens_of same ∙ e }
