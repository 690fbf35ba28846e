use Rattle.share.proofs.crew.work_alone.Goals as goal

pub returns-clause-desk : goal.returns-clause-desk
returns-clause-desk g c =
    let manned = c.requires.manned in
    (manned.work.does c.args.station c.args.desk c.work.result (record { idle = manned.idle; shares = manned.shares.0 }) c.requires.desk
    c.work.ensures).1
