-- What stands in a text: comments, and the tokens outside them.
use Rattle.std.specs.Prelude.{ℕ, suc, Bool, true, false, cond, not, ◌&&◌, ◌||◌, ◌==◌, nat_le, ◌+◌, ◌≤◌, ◌≡◌, ◌≢◌, List, [], ◌∷◌, ◌++◌, map, slice_index, ⊤}
use Rattle.statement.specs.Tree.{Tree, name, list, Trees, no_trees, tree}

-- tab, line feed, the two bytes after it, carriage return, and space
abbrev pub is_space : ℕ → Bool
is_space b = (nat_le 9 b && nat_le b 13) || (b == 32)

-- a printing byte other than `(` `)` `;` `"` and `|`
abbrev pub is_name_byte : ℕ → Bool
is_name_byte b = (nat_le 33 b && nat_le b 126) && not ((b == 40) || (b == 41) || (b == 59) || (b == 34) || (b == 124))

abbrev pub is_capital : ℕ → Bool
is_capital b = nat_le 65 b && nat_le b 90

abbrev pub lower : ℕ → ℕ
lower b = cond (is_capital b) (b + 32) b

-- a `;` stands at or before o, and no line feed from there up to and including o
abbrev pub IsInComment : List ℕ → ℕ → Type 0
IsInComment text o = (k : ℕ) × (k ≤ o) × (slice_index text k ≡ 59) × ((j : ℕ) → k ≤ j → j ≤ o → slice_index text j ≢ 10)

-- the text with a space for each byte of a comment, where `inside` says whether one has begun
abbrev pub without_comments : Bool → List ℕ → List ℕ
without_comments inside [] = []
without_comments inside (b ∷ bs) =
    let now = (inside || (b == 59)) && not (b == 10) in
    cond now 32 b ∷ without_comments now bs

abbrev pub visible : List ℕ → List ℕ
visible text = without_comments false text

-- a bracket, a name in lower case, or a byte that no text may have
pub data Token : Type 0 where
  opening : Token
  closing : Token
  word : List ℕ → Token
  stray : Token

-- a token, and the offset where it begins
pub record Spot : Type 0 where
  pub at : ℕ
  pub token : Token

-- the longest front of name bytes, in lower case
abbrev pub name_front : List ℕ → List ℕ
name_front [] = []
name_front (b ∷ bs) = cond (is_name_byte b) (lower b ∷ name_front bs) []

-- the token that begins at the first byte, if one does; `after` says whether a name byte stands before
-- it, and then no name begins
abbrev pub token_here : Bool → ℕ → List ℕ → List Token
token_here after b bs =
    cond (is_name_byte b)
    (cond after [] (word (name_front (b ∷ bs)) ∷ []))
    (cond (b == 40) (opening ∷ [])
    (cond (b == 41) (closing ∷ [])
    (cond (is_space b) [] (stray ∷ []))))

abbrev pub spots_at : ℕ → Bool → List ℕ → List Spot
spots_at o after [] = []
spots_at o after (b ∷ bs) =
    map (λ t. record { at = o; token = t }) (token_here after b bs) ++ spots_at (suc o) (is_name_byte b) bs

-- the tokens of a text, by offset
abbrev pub spots : List ℕ → List Spot
spots text = spots_at 0 false (visible text)

abbrev pub tokens_of : List Spot → List Token
tokens_of [] = []
tokens_of (s ∷ ss) = s.token ∷ tokens_of ss

abbrev pub tokens : List ℕ → List Token
tokens text = tokens_of (spots text)

-- a byte of a name as trees have it
abbrev pub is_lower_name_byte : ℕ → Bool
is_lower_name_byte b = is_name_byte b && not (is_capital b)

abbrev pub AreNameBytes : List ℕ → Type 0
AreNameBytes [] = ⊤
AreNameBytes (b ∷ bs) = (is_lower_name_byte b ≡ true) × AreNameBytes bs

-- a name has at least one byte
abbrev pub IsName : List ℕ → Type 0
IsName [] = ⊥
IsName (b ∷ bs) = AreNameBytes (b ∷ bs)

-- each name in the tree is one
abbrev mutual
  pub HasNames : Tree → Type 0
  HasNames (name n) = IsName n
  HasNames (list ts) = HaveNames ts

  pub HaveNames : Trees → Type 0
  HaveNames no_trees = ⊤
  HaveNames (tree t ts) = HasNames t × HaveNames ts
