use Rattle.propnet_tape.proofs.Literals.{step_refl, folded_literal, shared_literal}
use Rattle.propnet_tape.proofs.builder.Builder.and_in_order.Goals as goal

pub returns-in-Some-clause-step : goal.returns-in-Some-clause-step
returns-in-Some-clause-step c = step_refl c.args.self.now c.requires.built

pub returns-in-Some-clause-value : goal.returns-in-Some-clause-value
returns-in-Some-clause-value c =
    folded_literal c.args.self.now c.args.a c.args.b _ c.requires.built c.requires.a c.requires.b c.in-Some.ensures.within c.in-Some.ensures.value

pub returns-in-Some-find-clause-step : goal.returns-in-Some-find-clause-step
returns-in-Some-find-clause-step c = step_refl c.args.self.now c.requires.built

pub returns-in-Some-find-clause-value : goal.returns-in-Some-find-clause-value
returns-in-Some-find-clause-value c =
    shared_literal c.args.self.now c.args.a c.args.b _ _ c.requires.built c.in-Some-find.ensures.0 c.in-Some-find.ensures.1 c.literal_of.ensures
