use Rattle.std.proofs.Common.{ℕ, ◌+◌, take, refl, ap, ◌∙◌}
use Rattle.std.proofs.Math.ListN.{set}
use Rattle.position.proofs.LaneLemmas.{put_behind, bit_of}
use Rattle.position.proofs.readers.put_number.Goals as goal
use mir.Val.{bool_byte}

pub returns-clause-listed : goal.returns-clause-listed
returns-clause-listed c =
    let numbers = c.args.numbers.now in
    let count = c.args.count in
    ap (λ (n : ℕ). take (count + n) (set numbers count c.args.number)) (c.from.ensures ∙ bit_of bool_byte refl refl c.args.mark)
    ∙ put_behind c.args.mark numbers count c.args.number c.requires
