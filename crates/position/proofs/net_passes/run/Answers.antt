use Rattle.std.proofs.Common.{List, ℕ, length, ap, sym, subst, ◌∙◌}
use Rattle.propnet_tape.specs.Tapes.{HasRun}
use Rattle.position.proofs.Words.{written_over}
use Rattle.position.proofs.net_passes.run.Goals as goal

pub returns-clause-run : goal.returns-clause-run
returns-clause-run c =
    let old = c.fill.new.room in
    let same = written_over c.run.new.room old.items old.len old.ok.0 (c.run.auto.room ∙ ap length c.deref_mut.ensures.value) in
    subst (λ (ws : List ℕ). HasRun c.args.tape.now c.args.words.now ws) (sym same) c.run.ensures
