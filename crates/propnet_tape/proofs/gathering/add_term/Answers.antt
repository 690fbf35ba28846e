use Rattle.std.proofs.Common.{◌∙◌, sym, arith, length, ℕ, List, map, slice_index, refl, [], ◌∷◌}
use Rattle.propnet.specs.NetView.{gate_with}
use Rattle.propnet.specs.Nets.{gates_of}
use Rattle.propnet_tape.proofs.Marks.{reads_below}
use Rattle.propnet_tape.proofs.Meaning.{term_found, term_added}
use Rattle.propnet_tape.proofs.gathering.add_term.Goals as goal

pub add-requires-clause-within : goal.add-requires-clause-within
add-requires-clause-within c = reads_below c.args.net.now.base (gates_of c.args.net.now) c.args.n (gate_with c.gate-name.result.0
    c.gate-name.result.1.now)
    (length c.args.literals.now)
    c.args.net.now.in_order c.gate-name.ensures (omega (arith, c.requires.within))

pub returns-then-is_and-clause-term : goal.returns-then-is_and-clause-term
returns-then-is_and-clause-term c =
    let term : List ℕ = map (λ (n : ℕ). slice_index c.args.literals.now n) c.gate-name.result.1.now in
    term_added c.add.result (gates_of c.args.net.now) c.args.literals.now c.args.n _ _ term
    (term_found (gates_of c.args.net.now) c.args.literals.now c.args.n c.gate-name.result.0 c.gate-name.result.1.now term _ c.gate-name.ensures
    (sym c.is_and.ensures ∙ c.if-is_and.true) refl) c.add.ensures.term

pub returns-clause-term : goal.returns-clause-term
returns-clause-term c =
    let term : List ℕ = slice_index c.args.literals.now c.args.n ∷ [] in
    term_added c.add-2.result (gates_of c.args.net.now) c.args.literals.now c.args.n _ _ term
    (term_found (gates_of c.args.net.now) c.args.literals.now c.args.n c.gate-name.result.0 c.gate-name.result.1.now term _ c.gate-name.ensures
    (sym c.is_and.ensures ∙ c.if-is_and.false) refl) c.add-2.ensures.term
