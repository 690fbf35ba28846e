use Rattle.std.proofs.Common.{List, ℕ, sym, subst}
use Rattle.propnet_tape.specs.Tapes.{HasRun}
use Rattle.position.proofs.net_passes.run_kept.Goals as goal

pub returns-clause-told : goal.returns-clause-told
returns-clause-told c = λ net kept k of lt.
    let words = c.args.words.now in
    let run : HasRun c.args.tape.now words c.deref.result.now = subst (λ (ws : List ℕ). HasRun c.args.tape.now words ws) (sym c.deref.ensures.value)
    c.run.ensures.run in
    c.gather.ensures net kept words k of run lt
