use Rattle.maximin.proofs.Packs.{turns_fewer}
use Rattle.maximin.proofs.pack.cut.Goals as goal

pub returns-clause-turns : goal.returns-clause-turns
returns-clause-turns c = turns_fewer c.args.count c.args.run.now.count c.args.run.now.joints.items c.requires.count
