use Rattle.maximin.proofs.ahead.bounds_of.Goals as goal

pub returns : goal.returns
returns c = λ states worth depth is below. is.bounds c.args.place _ below
