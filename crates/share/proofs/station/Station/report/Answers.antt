use Rattle.std.proofs.Common.{rules as facts}
use Rattle.board.specs.Seats.{setup_on, book}
use Rattle.share.specs.Above.{IsWithin}
use Rattle.share.proofs.Spots.{follows_itself}
use Rattle.share.proofs.station.Station.report.Goals as goal

pub returns : goal.returns
returns g c =
    let within : IsWithin (g.A.Above.view c.args.self.now.above) (setup_on c.args.on.now) (book c.report_in.new.s) = search facts in
    record {
      seat = c.report_in.ensures.seat;
      settled = c.report_in.ensures.reported.settled;
      follows = follows_itself (g.A.Above.view c.args.self.now.above);
      within = within;
    }
