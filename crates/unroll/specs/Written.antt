-- This crate's own: what `run` promises does not rest on it.
-- What is written for a text, and why none is.
use Rattle.std.specs.Prelude.{ℕ, ◌≡◌, ◌⊎◌, List, [], ◌∷◌, ◌++◌, map, codes}
use Rattle.statement.specs.Tree.{Tree, trees_of, text}
use Rattle.statement.specs.Reading.{Reads}
use Rattle.statement.specs.Items.{alternatives}
use Rattle.statement.specs.Profile.{HasNoFault, roles}
use Rattle.meaning.specs.Extension.{base_relation, input_relation}
use Rattle.meaning.specs.Possible.{IsStated, PlaysAs}
use Rattle.unroll_writer.specs.declared.written.Bounds.{Bounds}
use Rattle.unroll_writer.specs.declared.written.Bounds.TheVariants.{AsStated}
use Rattle.unroll_strata.specs.Plain.{plain_items}
use Rattle.unroll.specs.Played.{played_items}
use Rattle.unroll_strata.specs.Missing.{AreRangesStated}
use Rattle.unroll_strata.specs.Lawful.{IsAccepted, IsLawful, IsRefusal, IsUnread}
use Rattle.unroll_strata.specs.declared.fault.UnrollFault.{UnrollFault}

-- why a text is not written out: it stands for no items, or they are refused in the form of the profile
abbrev pub IsUnrollFault : List ℕ → UnrollFault → Type 0
IsUnrollFault text fault = IsUnread text fault ⊎ ((items : List Tree) × Reads text (trees_of items) × IsRefusal (plain_items items) fault)

-- the first line of what is shown to be played as what it was written for
abbrev pub shown_line : List ℕ
shown_line = codes "; Shown: played as what it was written for." ++ 10 ∷ []

-- and of what is not
abbrev pub tested_line : List ℕ
tested_line = codes "; Tested and not shown: played as what it was written for." ++ 10 ∷ []

-- the text begins with the first of them
abbrev pub IsShown : List ℕ → Type 0
IsShown out = (rest : List ℕ) × (out ≡ shown_line ++ rest)

-- What is written for items, which state `base` and `input` where they ask them: it stands for others that are accepted, and have the same
-- roles in the same order. Where it says that this is
-- shown, they are played as these, or, where what is stated of `base` and `input` is cut to what play can come to, as those of these that state
-- neither. It says so where no relation rests on itself, and `base` and `input` are stated and stay as they are.
pub record IsWrittenOut (bounds : Bounds) (found : List Tree) (out : List ℕ) : Type 0 where
  pub items : List Tree
  pub reads : Reads out (trees_of items)
  pub accepted : IsAccepted (map text (roles found)) items
  pub asked : AreRangesStated found
  pub played : IsShown out → PlaysAs (alternatives (played_items bounds found)) (alternatives items)
  pub shown : bounds ≡ AsStated → HasNoFault found → IsStated (alternatives found) base_relation → IsStated (alternatives found) input_relation
      → IsShown out

-- what is written for a text: its items, put into the form of the profile, are lawful, and it is written for these
pub record IsWrittenFor (bounds : Bounds) (source out : List ℕ) : Type 0 where
  pub found : List Tree
  pub reads : Reads source (trees_of found)
  pub lawful : IsLawful (plain_items found)
  pub written : IsWrittenOut bounds (plain_items found) out
