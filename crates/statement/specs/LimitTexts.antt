-- The words that say which limit an instantiation passes.
use Rattle.std.specs.Prelude.{ℕ, List, codes, ◌++◌}
use Rattle.statement.specs.declared.excess.Excess.{Excess}
use Rattle.statement.specs.declared.excess.Excess.TheVariants.{Base, Inputs, Instances, Text}
use Rattle.statement.specs.declared.ground_fault.GroundFault.{GroundFault}
use Rattle.statement.specs.declared.ground_fault.GroundFault.TheVariants.{TooMany, NoMemory}

abbrev pub excess_words : Excess → List ℕ
excess_words Base = codes "base"
excess_words Inputs = codes "inputs"
excess_words Instances = codes "instances"
excess_words Text = codes "text"

-- a fault's number and name, and what there is too much of
abbrev pub limit_fault_words : GroundFault → List ℕ
limit_fault_words (TooMany excess) = codes "N1 TooMany " ++ excess_words excess
limit_fault_words NoMemory = codes "N9 NoMemory"
