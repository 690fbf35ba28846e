-- What a reader answers for a text, and the line that says why it is refused.
use Rattle.std.specs.Prelude.{ℕ, ◌≤◌, ◌≡◌, List, length, Some, [], ◌∷◌, ◌++◌, codes}
use Rattle.statement.specs.declared.text_fault.KifFault.{KifFault}
use Rattle.statement.specs.Reading.{too_long, bad_byte, too_deep, unclosed, unopened, name_too_long, text_fault_in, text_limit}
use Rattle.std.specs.Fmt.{decimal}
use Rattle.statement.specs.declared.text_fault.KifFault.TheVariants.{TooLong, BadByte, TooDeep, Unclosed, Unopened, NameTooLong, NoMemory}
use Rattle.statement.specs.declared.text_fault.KifFault.TheVariants as errors

-- the error is the fault of the text, or memory ran out over a text that is not too long
abbrev pub IsTextFault : List ℕ → KifFault → Type 0
IsTextFault text errors.TooLong = text_fault_in text ≡ Some too_long
IsTextFault text (errors.BadByte o) = text_fault_in text ≡ Some (bad_byte o)
IsTextFault text (errors.TooDeep o) = text_fault_in text ≡ Some (too_deep o)
IsTextFault text (errors.Unclosed o) = text_fault_in text ≡ Some (unclosed o)
IsTextFault text (errors.Unopened o) = text_fault_in text ≡ Some (unopened o)
IsTextFault text (errors.NameTooLong o) = text_fault_in text ≡ Some (name_too_long o)
IsTextFault text errors.NoMemory = length text ≤ text_limit

-- a fault's number and name, and the offset where it stands
abbrev pub text_fault_words : KifFault → List ℕ
text_fault_words TooLong = codes "K1 TooLong"
text_fault_words (BadByte o) = codes "K2 BadByte " ++ decimal o
text_fault_words (TooDeep o) = codes "K3 TooDeep " ++ decimal o
text_fault_words (Unclosed o) = codes "K4 Unclosed " ++ decimal o
text_fault_words (Unopened o) = codes "K5 Unopened " ++ decimal o
text_fault_words (NameTooLong o) = codes "K6 NameTooLong " ++ decimal o
text_fault_words NoMemory = codes "K9 NoMemory"

-- the line of a refusal, with its end
abbrev pub refusal_line : List ℕ → List ℕ
refusal_line fault = codes "refused " ++ fault ++ 10 ∷ []
