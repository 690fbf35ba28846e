use Rattle.std.proofs.Common.{◌≤◌, arith}
use Rattle.ground_rows.proofs.Facts.{full}
use Rattle.ground_rows.proofs.Facts.{come_to}
use Rattle.ground_rows.proofs.sought.more_from.Goals as goal

pub returns : goal.returns
returns c = let fits : c.args.before ≤ full = omega arith in come_to c.args.after c.args.before full fits
