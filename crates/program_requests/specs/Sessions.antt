-- This crate's own: what `run` promises does not rest on it.
-- What a session is: requests one behind the other, each answered by a frame over the rules that stand. What is told of a line over rules, by its
-- status and its bytes, is a parameter.
use Rattle.std.specs.Prelude.{ℕ, ◌≡◌, ◌≢◌, ◌⊎◌, ◌<◌, ◌≤◌, List, [], ◌∷◌, ◌++◌, length}
use Rattle.program_requests.specs.Lines.{line_limit, IsLine, AsksForRules, AsksForNoRules}
use Rattle.program_requests.specs.Frames.{frame, taken_frame, starved_frame, long_frame, cut_frame}

-- a short line that asks for rules of n bytes
abbrev pub IsRulesLine : List ℕ → ℕ → Type 0
IsRulesLine line n = IsLine line × (length line ≤ line_limit) × AsksForRules line n

module _ (IsTold : List ℕ → ℕ → List ℕ → Type 0) where
  -- the frame of what is told, or that of want of memory
  abbrev pub Answers : List ℕ → List ℕ → Type 0
  Answers rules out = ((status : ℕ) × (bytes : List ℕ) × IsTold rules status bytes × (out ≡ frame status bytes)) ⊎ (out ≡ starved_frame)

  -- the frame that answers a line: that it is too long, or what is told of it
  abbrev pub AnswersLine : List ℕ → List ℕ → List ℕ → Type 0
  AnswersLine rules line out =
      ((line_limit < length line) × (out ≡ long_frame))
      ⊎ ((length line ≤ line_limit) × AsksForNoRules line × Answers rules out)

  -- A request and its frame, over the rules that stand, and which rules stand then: a line, which changes no rules; or a line with rules behind
  -- it, which stand then, and where there is no memory for them none do.
  pub data IsExchange (rules request out then : List ℕ) : Type 0 where
    asked : (line : List ℕ) → IsLine line → request ≡ line ++ 10 ∷ [] → AnswersLine rules line out → then ≡ rules
        → IsExchange rules request out then
    stated : (line text : List ℕ) (n : ℕ) → IsRulesLine line n → request ≡ line ++ 10 ∷ text → length text ≡ n
        → ((out ≡ taken_frame) × (then ≡ text)) ⊎ ((out ≡ starved_frame) × (then ≡ []))
        → IsExchange rules request out then

  -- What the input may end with, and its frame: nothing, which has none; a line without its line feed; or less rules than a line asks for.
  pub data IsLast (rules request out : List ℕ) : Type 0 where
    nothing : request ≡ [] → out ≡ [] → IsLast rules request out
    unended : IsLine request → request ≢ [] → AnswersLine rules request out → IsLast rules request out
    bare : (n : ℕ) → IsRulesLine request n → out ≡ cut_frame → IsLast rules request out
    cut : (line text : List ℕ) (n : ℕ) → IsRulesLine line n → request ≡ line ++ 10 ∷ text → length text < n → out ≡ cut_frame
        → IsLast rules request out

  -- these bytes are requests, which are answered by these bytes in their order, and these rules stand then
  pub data IsSession : List ℕ → List ℕ → List ℕ → Type 0 where
    begun : IsSession [] [] []
    further : (taken told rules request out then : List ℕ) → IsSession taken told rules → IsExchange rules request out then
        → IsSession (taken ++ request) (told ++ out) then

  -- a session with the request that the input ends with
  pub record IsWholeSession (taken told : List ℕ) : Type 0 where
    pub before : List ℕ
    pub told_before : List ℕ
    pub rules : List ℕ
    pub request : List ℕ
    pub out : List ℕ
    pub session : IsSession before told_before rules
    pub last : IsLast rules request out
    pub taken_is : taken ≡ before ++ request
    pub told_is : told ≡ told_before ++ out
