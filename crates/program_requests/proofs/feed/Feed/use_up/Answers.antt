use Rattle.program_requests.specs.Feeds.{left_in}
use Rattle.program_requests.proofs.Feeding.{used_up, later_range}
use Rattle.program_requests.proofs.feed.Feed.use_up.Goals as goal

pub returns-clause-used : goal.returns-clause-used
returns-clause-used c = λ remaining. used_up remaining (left_in c.args.self.now) _ c.args.count
    (later_range c.args.self.now.room.items c.args.self.now.from c.args.self.now.to c.args.count c.requires.count)

pub returns-clause-left : goal.returns-clause-left
returns-clause-left c = later_range c.args.self.now.room.items c.args.self.now.from c.args.self.now.to c.args.count c.requires.count
