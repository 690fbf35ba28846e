use Rattle.std.proofs.Common.{ℕ, Bool, ◌≡◌, ◌++◌, [], List, length, ◌∙◌, ap, arith}
use Rattle.std.specs.Prelude.{if◌then◌else◌}
use Rattle.std.specs.List.{flat_map, range_with_len}
use Rattle.game.specs.Keys.{has_bit}
use Rattle.ground_instances.specs.GroundView.{base_of}
use Rattle.program_replies.specs.Standing.{numbered_line}
use Rattle.program_searches.proofs.MoveFacts.{one_number_more}
use Rattle.program_replies.proofs.Standings.{passing_lines}
use Rattle.program_replies.proofs.standing.add_holding.Goals as goal

pub loop-proposition-preserved : goal.loop-proposition-preserved
loop-proposition-preserved c =
    let texts = base_of c.args.ground.now in
    let line = numbered_line texts in
    one_number_more (λ n. if has_bit c.args.key.now n then line n else []) c.loop-proposition.proposition c.args.output.now.items _ _
    c.loop-proposition.invariant
    (c.in_ok-add_if.ensures
    ∙ ap (λ (b : Bool). c.loop-proposition.output.items ++ (if b then line c.loop-proposition.proposition else [])) c.holds.ensures)

pub returns : goal.returns
returns c =
    let texts = base_of c.args.ground.now in
    let line = numbered_line texts in
    let all : c.loop-proposition.proposition ≡ length texts = omega (arith, c.base-proposition-end.ensures) in
    c.loop-proposition.invariant
    ∙ ap (λ (n : ℕ). c.args.output.now.items ++ flat_map (λ k. if has_bit c.args.key.now k then line k else []) (range_with_len 0 n)) all
    ∙ ap (λ (xs : List ℕ). c.args.output.now.items ++ xs) (passing_lines line (has_bit c.args.key.now) (range_with_len 0 (length texts)))
