use Rattle.std.proofs.Common.{rules}
use Rattle.propnet_tape.proofs.Literals.{step_of_push, literal_of_push}
use Rattle.propnet_tape.proofs.builder.Builder.push.Goals as goal

pub returns-clause-step : goal.returns-clause-step
returns-clause-step c = step_of_push c.args.self.now _ c.args.a c.args.b c.in-Ok.literal c.requires.built c.requires.a c.requires.b
    (record {
      first = search rules;
      groups = search rules;
      gates = search rules;
      table = search rules;
      literal_is = search rules;
      fits = search rules;
    })

pub returns-clause-value : goal.returns-clause-value
returns-clause-value c = literal_of_push c.args.self.now _ c.args.a c.args.b c.in-Ok.literal c.requires.built c.requires.a c.requires.b
    (record {
      first = search rules;
      groups = search rules;
      gates = search rules;
      table = search rules;
      literal_is = search rules;
      fits = search rules;
    })
