-- Which trees a text stands for, and which fault it has if it stands for none.
use Rattle.std.specs.Prelude.{ℕ, zero, suc, pred, max, Bool, true, false, not, ◌&&◌, ◌==◌, nat_lt, ◌≤◌, ◌≡◌, List, [], ◌∷◌, ◌++◌, length, Option, Some, None, ⊤}
use Rattle.statement.specs.Tree.{Tree, name, list, Trees, no_trees, tree}
use Rattle.statement.specs.Lexical.{Token, opening, closing, word, stray, Spot, spots, tokens, tokens_of}

abbrev pub text_limit : ℕ
text_limit = 1048576

abbrev pub name_limit : ℕ
name_limit = 255

abbrev pub open_limit : ℕ
open_limit = 100

-- the tokens that stand for trees: a list is its parts between brackets
abbrev mutual
  pub tree_tokens : Tree → List Token
  tree_tokens (name n) = word n ∷ []
  tree_tokens (list ts) = opening ∷ trees_tokens ts ++ (closing ∷ [])

  pub trees_tokens : Trees → List Token
  trees_tokens no_trees = []
  trees_tokens (tree t ts) = tree_tokens t ++ trees_tokens ts

-- how many lists are open at once
abbrev mutual
  pub tree_depth : Tree → ℕ
  tree_depth (name n) = 0
  tree_depth (list ts) = suc (trees_depth ts)

  pub trees_depth : Trees → ℕ
  trees_depth no_trees = 0
  trees_depth (tree t ts) = max (tree_depth t) (trees_depth ts)

-- no name is longer than the limit
abbrev mutual
  pub HasShortNames : Tree → Type 0
  HasShortNames (name n) = length n ≤ name_limit
  HasShortNames (list ts) = HaveShortNames ts

  pub HaveShortNames : Trees → Type 0
  HaveShortNames no_trees = ⊤
  HaveShortNames (tree t ts) = HasShortNames t × HaveShortNames ts

-- the text stands for the trees: its tokens are theirs, and it keeps within the limits
pub record Reads (text : List ℕ) (ts : Trees) : Type 0 where
  pub short : length text ≤ text_limit
  pub same_tokens : tokens text ≡ trees_tokens ts
  pub shallow : trees_depth ts ≤ open_limit
  pub short_names : HaveShortNames ts

pub data TextFault : Type 0 where
  too_long : TextFault
  bad_byte : ℕ → TextFault
  too_deep : ℕ → TextFault
  unclosed : ℕ → TextFault
  unopened : ℕ → TextFault
  name_too_long : ℕ → TextFault

-- the first of two faults that stands
abbrev pub or_text_fault : Option TextFault → Option TextFault → Option TextFault
or_text_fault (Some f) other = Some f
or_text_fault None other = other

abbrev pub is_zero : ℕ → Bool
is_zero zero = true
is_zero (suc n) = false

-- how many lists are open after a token, where `open` are before it
abbrev pub open_after : ℕ → Token → ℕ
open_after n opening = suc n
open_after n closing = pred n
open_after n (word w) = n
open_after n stray = n

abbrev pub fault_where : Bool → TextFault → Option TextFault
fault_where true f = Some f
fault_where false f = None

-- the fault that stands at a token, where `n` lists are open before it
abbrev pub fault_of : ℕ → ℕ → Token → Option TextFault
fault_of n o opening = fault_where (n == open_limit) (too_deep o)
fault_of n o closing = fault_where (is_zero n) (unopened o)
fault_of n o (word w) = fault_where (nat_lt name_limit (length w)) (name_too_long o)
fault_of n o stray = Some (bad_byte o)

-- the first fault at a token
abbrev pub first_fault : ℕ → List Spot → Option TextFault
first_fault n [] = None
first_fault n (s ∷ ss) = or_text_fault (fault_of n s.at s.token) (first_fault (open_after n s.token) ss)

-- the token closes a list behind which `n` others are open
abbrev pub closes : ℕ → Token → Bool
closes n opening = false
closes n closing = is_zero n
closes n (word w) = false
closes n stray = false

-- nothing in the tokens closes a list that was opened before them; `n` lists were opened since
abbrev pub never_closed : ℕ → List Token → Bool
never_closed n [] = true
never_closed n (k ∷ ks) = not (closes n k) && never_closed (open_after n k) ks

abbrev pub unclosed_at : ℕ → Token → List Token → Option TextFault
unclosed_at o opening ks = fault_where (never_closed 0 ks) (unclosed o)
unclosed_at o closing ks = None
unclosed_at o (word w) ks = None
unclosed_at o stray ks = None

-- the first bracket that opens a list and that nothing closes
abbrev pub first_unclosed : List Spot → Option TextFault
first_unclosed [] = None
first_unclosed (s ∷ ss) = or_text_fault (unclosed_at s.at s.token (tokens_of ss)) (first_unclosed ss)

-- the fault of a text: its length before all others, and a list that is left open after all others
abbrev pub text_fault_in : List ℕ → Option TextFault
text_fault_in text =
    or_text_fault (fault_where (nat_lt text_limit (length text)) too_long)
    (or_text_fault (first_fault 0 (spots text)) (first_unclosed (spots text)))
