use Rattle.std.proofs.lemmas.List.Filters.{dedup_is}
use Rattle.rules.proofs.BodyLemmas.{same_once, rising_once}
use Rattle.rules.proofs.bodies.keep_once.Goals as goal

pub returns : goal.returns
returns c = record {
  same = same_once c.args.numbers.now.items c.sort_unstable.new.self.items c.dedup.new.self.items c.sort_unstable.ensures.permutation
      (dedup_is _ _ _ c.dedup.ensures.filtered);
  rising = rising_once c.sort_unstable.new.self.items c.dedup.new.self.items c.sort_unstable.ensures.sorted (dedup_is _ _ _ c.dedup.ensures.filtered);
}
