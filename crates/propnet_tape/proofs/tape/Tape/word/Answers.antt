use Rattle.std.proofs.Common.{refl}
use Rattle.std.proofs.lemmas.List.{get_or_default}
use Rattle.std.proofs.Common.{◌∙◌}
use Rattle.propnet_tape.proofs.Tapes.{word_tells, turn_word_tells}
use Rattle.propnet_tape.proofs.tape.Tape.word.Goals as goal

pub returns : goal.returns
returns c = record {
  tells = word_tells c.args.self.now c.args.room.now c.args.k c.index.result.now _ c.requires.kept
      (c.index.ensures ∙ get_or_default c.args.self.now.kept.items c.args.k c.index.result.now 0 c.requires.kept) refl;
  turns = turn_word_tells c.args.self.now c.args.room.now c.args.k c.index.result.now _ c.requires.kept
      (c.index.ensures ∙ get_or_default c.args.self.now.kept.items c.args.k c.index.result.now 0 c.requires.kept) refl;
}
