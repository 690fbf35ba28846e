-- Each text has one fault, or reads as one list of trees.
use Rattle.std.proofs.Common.{ℕ, ◌≡◌, ◌≢◌, ◌⊎◌, inl, inr, List, refl, sym, ◌∙◌, ap}
use Rattle.std.specs.Prelude.{Option, Some, None}
use Rattle.kif.proofs.Facts.{reads_if_no_fault, no_fault_if_reads}
use Rattle.statement.specs.Tree.{Trees}
use Rattle.statement.specs.Reading.{Reads, TextFault, too_long, bad_byte, too_deep, unclosed, unopened, name_too_long, text_fault_in}
use Rattle.statement.specs.TextFaults.{IsTextFault}
use Rattle.statement.specs.declared.text_fault.KifFault.{KifFault}
use Rattle.statement.specs.declared.text_fault.KifFault.TheVariants as faults

-- the reader's name for a fault
abbrev named : TextFault → KifFault
named too_long = faults.TooLong
named (bad_byte o) = faults.BadByte o
named (too_deep o) = faults.TooDeep o
named (unclosed o) = faults.Unclosed o
named (unopened o) = faults.Unopened o
named (name_too_long o) = faults.NameTooLong o

-- a fault by both names
record IsNamed (bytes : List ℕ) (e : KifFault) : Type 0 where
  fault : TextFault
  stands : text_fault_in bytes ≡ Some fault
  same : e ≡ named fault

named_of : (bytes : List ℕ) (e : KifFault) → e ≢ faults.NoMemory → IsTextFault bytes e → IsNamed bytes e
named_of bytes faults.TooLong other h = record { fault = too_long; stands = h; same = refl }
named_of bytes (faults.BadByte o) other h = record { fault = bad_byte o; stands = h; same = refl }
named_of bytes (faults.TooDeep o) other h = record { fault = too_deep o; stands = h; same = refl }
named_of bytes (faults.Unclosed o) other h = record { fault = unclosed o; stands = h; same = refl }
named_of bytes (faults.Unopened o) other h = record { fault = unopened o; stands = h; same = refl }
named_of bytes (faults.NameTooLong o) other h = record { fault = name_too_long o; stands = h; same = refl }
named_of bytes faults.NoMemory other h = absurd (other refl)

-- the bytes have a fault in their text
abbrev pub HasFault : List ℕ → Type 0
HasFault bytes = (fault : KifFault) × (fault ≢ faults.NoMemory) × IsTextFault bytes fault

stands_as : (bytes : List ℕ) (f : TextFault) → text_fault_in bytes ≡ Some f → HasFault bytes
stands_as bytes too_long h = (faults.TooLong, (λ e. cc), h)
stands_as bytes (bad_byte o) h = (faults.BadByte o, (λ e. cc), h)
stands_as bytes (too_deep o) h = (faults.TooDeep o, (λ e. cc), h)
stands_as bytes (unclosed o) h = (faults.Unclosed o, (λ e. cc), h)
stands_as bytes (unopened o) h = (faults.Unopened o, (λ e. cc), h)
stands_as bytes (name_too_long o) h = (faults.NameTooLong o, (λ e. cc), h)

pub fault_or_trees : (bytes : List ℕ) → HasFault bytes ⊎ ((ts : Trees) × Reads bytes ts)
fault_or_trees bytes = go (text_fault_in bytes) refl
  where
    go : (found : Option TextFault) → text_fault_in bytes ≡ found → HasFault bytes ⊎ ((ts : Trees) × Reads bytes ts)
    go (Some f) e = inl (stands_as bytes f e)
    go None e = inr (reads_if_no_fault bytes e)

pub one_text_fault : (bytes : List ℕ) (e f : KifFault) → e ≢ faults.NoMemory → IsTextFault bytes e → f ≢ faults.NoMemory → IsTextFault bytes f → e ≡ f
one_text_fault bytes e f known stands other also =
    let p = named_of bytes e known stands in
    let q = named_of bytes f other also in
    let same : Some p.fault ≡ Some q.fault = sym p.stands ∙ q.stands in
    let one : p.fault ≡ q.fault = cc in
    p.same ∙ ap named one ∙ sym q.same

pub not_fault_and_trees : (bytes : List ℕ) (e : KifFault) (ts : Trees) → e ≢ faults.NoMemory → IsTextFault bytes e → Reads bytes ts → ⊥
not_fault_and_trees bytes e ts known h read =
    let none = no_fault_if_reads bytes ts read in
    let p = named_of bytes e known h in
    let stands = p.stands in
    cc
