use Rattle.std.specs.List.{AllWithin}
use Rattle.ground_instances.specs.GroundView.{kinds_of}
use Rattle.unroll.specs.Marks.{AsksMarked}
use Rattle.unroll.proofs.marking.all_ask_marked.Given as goal

abbrev pub invariant-loop-literal : goal.invariant-loop-literal
invariant-loop-literal l = AllWithin (AsksMarked (kinds_of l.ground) l.marks) l.body 0 l.literal-index
