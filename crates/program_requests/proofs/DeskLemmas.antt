-- What a desk takes of the input.
use Rattle.std.proofs.Common.{ℕ, suc, ◌≡◌, ◌≢◌, ◌≤◌, ◌<◌, inl, inr, Bool, true, false, List, [], ◌∷◌, ◌++◌, length, take, min, refl, sym, ap, subst, ◌∙◌, append_assoc, arith}
use Rattle.std.specs.Prelude.{Option, Some, None, Result, Ok, Err, MatchOption}
use Rattle.std.specs.Io.KnownBytes.{Consumes, IsAtEnd}
use Rattle.std.proofs.KnownBytes.{Consumes-trans}
use Rattle.std.proofs.lemmas.List.{length-take, take_all, take_min}
use Rattle.statement.specs.Input.{read_limit}
use Rattle.program_requests.specs.declared.gathered.Gathered.{Gathered}
use Rattle.program_requests.specs.declared.fault.ReadFault.{ReadFault}
use Rattle.program_requests.specs.declared.desk.Desk.{Desk}
use Rattle.program_requests.specs.declared.desk.Taken.{Taken}
use Rattle.program_requests.specs.declared.desk.Taken.TheVariants.{Line, Rules, Starved, LastLine, Cut, Nothing}
use Rattle.program_requests.specs.Feeds.{HasFront}
use Rattle.program_requests.specs.Lines.{line_limit, IsLine, AsksForRules, AsksForNoRules}
use Rattle.program_requests.specs.Texts.{IsTextTaken}
use Rattle.program_requests.specs.Sessions.{IsRulesLine}
use Rattle.program_requests.specs.Desks.{Stand, AreRulesTaken, IsTaken, last_taken}

-- a room with one byte more than a line may have is filled over the limit exactly by a line that is too long, and has any other line whole
pub long_line : (g : Gathered) (line : List ℕ) (limit : ℕ) → length g.room.items ≡ suc limit → HasFront g line → limit < g.filled → limit < length line
long_line g line limit room front long =
    let size : min g.filled (length g.room.items) ≡ min (length g.room.items) (length line) =
    sym (length-take g.filled g.room.items) ∙ ap (λ (l : List ℕ). length l) front.same ∙ length-take (length g.room.items) line in
    let within = front.within in
    grind (arith, size, within, room, long)

pub short_line : (g : Gathered) (line : List ℕ) (limit : ℕ) → length g.room.items ≡ suc limit → HasFront g line → g.filled ≤ limit → length line ≤ limit
short_line g line limit room front short =
    let size : min g.filled (length g.room.items) ≡ min (length g.room.items) (length line) =
    sym (length-take g.filled g.room.items) ∙ ap (λ (l : List ℕ). length l) front.same ∙ length-take (length g.room.items) line in
    let within = front.within in
    grind (arith, size, within, room, short)

pub whole_line : (g : Gathered) (line : List ℕ) (limit : ℕ) → length g.room.items ≡ suc limit → HasFront g line → g.filled ≤ limit
    → take g.filled g.room.items ≡ line
whole_line g line limit room front short =
    let few = short_line g line limit room front short in
    front.same ∙ take_all (length g.room.items) line (omega (arith, few, room))

-- of a text of this size a room for its front, up to the limit, has as much as a run reads
pub kept_text : (g : Gathered) (text : List ℕ) (size limit : ℕ) → length g.room.items ≡ min size limit → length text ≡ size → HasFront g text
    → take g.filled g.room.items ≡ take limit text
kept_text g text size limit room is front =
    let other : min size limit ≡ min limit (length text) = grind (arith, is) in
    front.same ∙ ap (λ n. take n text) (room ∙ other) ∙ take_min limit text

asks_for : (r : Option ℕ) (bytes line : List ℕ) → bytes ≡ line → length line ≤ line_limit → MatchOption r (AsksForNoRules bytes) (AsksForRules bytes)
    → MatchOption r (length line ≤ line_limit → AsksForNoRules line) (λ n. (length line ≤ line_limit) × AsksForRules line n)
asks_for None bytes line e few h = λ short. subst AsksForNoRules e h
asks_for (Some n) bytes line e few h = (few, subst (λ (l : List ℕ). AsksForRules l n) e h)

-- what a line asks for that is not too long
pub line_asks : (g : Gathered) (line bytes : List ℕ) (r : Option ℕ) → length g.room.items ≡ suc line_limit → HasFront g line
    → g.filled ≤ line_limit → bytes ≡ take g.filled g.room.items → MatchOption r (AsksForNoRules bytes) (AsksForRules bytes)
    → MatchOption r (length line ≤ line_limit → AsksForNoRules line) (λ n. (length line ≤ line_limit) × AsksForRules line n)
line_asks g line bytes r room front short is h =
    asks_for r bytes line (is ∙ whole_line g line line_limit room front short) (short_line g line line_limit room front short) h

no_bytes : (xs : List ℕ) → length xs ≡ 0 → xs ≡ []
no_bytes [] e = refl
no_bytes (b ∷ bs) e = absurd (omega (arith, e))

pub empty_line : (g : Gathered) (line : List ℕ) (limit : ℕ) → length g.room.items ≡ suc limit → HasFront g line → g.filled ≡ 0 → line ≡ []
empty_line g line limit room front none =
    let size : min g.filled (length g.room.items) ≡ min (length g.room.items) (length line) =
    sym (length-take g.filled g.room.items) ∙ ap (λ (l : List ℕ). length l) front.same ∙ length-take (length g.room.items) line in
    let size_none : length line ≡ 0 = grind (arith, size, room, none) in
    no_bytes line size_none

pub full_line : (g : Gathered) (line : List ℕ) (limit : ℕ) → length g.room.items ≡ suc limit → HasFront g line → 0 < g.filled → line ≢ []
full_line g line limit room front some = λ e.
    let size : min g.filled (length g.room.items) ≡ min (length g.room.items) (length line) =
    sym (length-take g.filled g.room.items) ∙ ap (λ (l : List ℕ). length l) front.same ∙ length-take (length g.room.items) line in
    let none : length line ≡ 0 = ap (λ (l : List ℕ). length l) e in
    absurd (grind (arith, size, room, none, some))

-- rules that were taken into a room for those that are kept
pub rules_taken : (on : Bool) (size : ℕ) (g : Gathered) (kept : List ℕ) (old new : Option (List ℕ)) → on ≡ true
    → IsTextTaken size (Ok on) g old new → length g.room.items ≡ min size read_limit → kept ≡ take g.filled g.room.items
    → (text : List ℕ) × (length text ≡ size) × Stand kept text × Consumes old new text
rules_taken true size g kept old new on h room is = (h.0, h.1, is ∙ kept_text g h.0 size read_limit room h.1 h.2, h.3)
rules_taken false size g kept old new on h room is = absurd (cc on)

behind_line : (a b d : Option (List ℕ)) (line text : List ℕ) → Consumes a b (line ++ 10 ∷ []) → Consumes b d text → Consumes a d (line ++ 10 ∷ text)
behind_line a b d line text p q = subst (Consumes a d) (append_assoc line (10 ∷ []) text) (Consumes-trans a b d (line ++ 10 ∷ []) text p q)

-- a line that asks for rules, and what was taken behind it
pub rules_behind : (r : Result Taken ReadFault) (was now : Desk) (a b d : Option (List ℕ)) (line : List ℕ) (size : ℕ) → IsRulesLine line size
    → Consumes a b (line ++ 10 ∷ []) → AreRulesTaken size r now b d → IsTaken r was now a d
rules_behind (Ok Line) was now a b d line size is p h = absurd h
rules_behind (Ok Rules) was now a b d line size is p h = (line, h.0, size, is, h.1, h.2, behind_line a b d line h.0 p h.3)
rules_behind (Ok Starved) was now a b d line size is p h = (line, h.0, size, is, h.1, h.2, behind_line a b d line h.0 p h.3)
rules_behind (Ok LastLine) was now a b d line size is p h = absurd h
rules_behind (Ok Cut) was now a b d line size is p h =
    (line ++ 10 ∷ h.0, inr (line, h.0, size, is, refl, h.1), behind_line a b d line h.0 p h.2, h.3)
rules_behind (Ok Nothing) was now a b d line size is p h = absurd h
rules_behind (Err fault) was now a b d line size is p h = (line ++ 10 ∷ h.0, behind_line a b d line h.0 p h.1)

-- the line that the input ends with
pub last_line : (asked : Option ℕ) (empty : Bool) (was now : Desk) (a d : Option (List ℕ)) (line : List ℕ) → IsLine line → HasFront now.line line
    → MatchOption asked (length line ≤ line_limit → AsksForNoRules line) (λ n. (length line ≤ line_limit) × AsksForRules line n)
    → (empty ≡ true → line ≡ []) → (empty ≡ false → line ≢ []) → Consumes a d line → IsAtEnd d → now.rules.items ≡ was.rules.items
    → IsTaken (Ok (last_taken asked empty)) was now a d
last_line (Some n) empty was now a d line is front asks none some p end same = (line, inl (n, (is, asks.0, asks.1)), p, end)
last_line None true was now a d line is front asks none some p end same = (subst (Consumes a d) (none refl) p, end)
last_line None false was now a d line is front asks none some p end same = (line, (is, front, asks), some refl, p, end, same)
