-- This crate's own: what `run` promises does not rest on it.
-- The words that say why a text is not written out.
use Rattle.std.specs.Prelude.{ℕ, List, ◌++◌, codes}
use Rattle.std.specs.Fmt.{decimal}
use Rattle.statement.specs.TextFaults.{text_fault_words}
use Rattle.statement.specs.RuleFaultTexts.{rule_fault_words}
use Rattle.unroll_datalog.specs.declared.fault.Excess.{Excess}
use Rattle.unroll_datalog.specs.declared.fault.Excess.TheVariants.{Facts, Instances, Layers, Text, Items}
use Rattle.unroll_strata.specs.declared.fault.UnrollFault.{UnrollFault}
use Rattle.unroll_strata.specs.declared.fault.UnrollFault.TheVariants as errors

abbrev pub excess_words : Excess → List ℕ
excess_words Facts = codes "facts"
excess_words Instances = codes "instances"
excess_words Layers = codes "layers"
excess_words Text = codes "text"
excess_words Items = codes "items"

-- a fault's number and name, and the item that has it or what is too many
abbrev pub unroll_fault_words : UnrollFault → List ℕ
unroll_fault_words (errors.Text fault) = text_fault_words fault
unroll_fault_words (errors.Rules fault) = rule_fault_words fault
unroll_fault_words (errors.NotStratified n) = codes "U1 NotStratified " ++ decimal n
unroll_fault_words (errors.TooMany excess) = codes "U2 TooMany " ++ excess_words excess
unroll_fault_words (errors.Unstated n) = codes "U3 Unstated " ++ decimal n
unroll_fault_words errors.NoMemory = codes "U9 NoMemory"
