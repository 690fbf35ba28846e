use Rattle.kif.proofs.Tokens.{spot_stands, token_is_a_spot, offsets_rise}
use Rattle.kif.proofs.laws.tokens_stand_at_their_offsets.Goals as goal

pub returns-clause-each : goal.returns-clause-each
returns-clause-each c text s = (spot_stands text s, token_is_a_spot text s)

pub returns-clause-by_offset : goal.returns-clause-by_offset
returns-clause-by_offset c = offsets_rise
