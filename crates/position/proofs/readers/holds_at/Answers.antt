use Rattle.std.proofs.Common.{ℕ, ap, ◌∙◌}
use Rattle.std.specs.Prelude.{◌==◌}
use Rattle.position.proofs.readers.holds_at.Goals as goal

pub returns : goal.returns
returns c = λ on tells. ap (λ (v : ℕ). v == 1) c.lane_bit.ensures.value ∙ tells c.args.place c.word.result c.requires.place c.word.ensures.tells
