use Rattle.std.proofs.Common.{refl}
use Rattle.diagnose_places.proofs.Steps.{byte_on}
use Rattle.diagnose_places.proofs.Walks.{kind_of}
use Rattle.diagnose_places.proofs.tokens.Tokens.pass.Goals as goal

pub returns-clause-passed : goal.returns-clause-passed
returns-clause-passed c =
    let step = byte_on c.args.self.now.text.now c.args.self.now.at c.args.self.now.in_comment c.args.self.now.in_name _ _ _ _ c.kind_begun_by-kind.result
    c.requires refl c.is_in_comment-in_comment.ensures c.seen_as-seen.ensures c.kind_begun_by-kind.ensures c.names-self.ensures in
    kind_of c.args.self.now _ c.kind_begun_by-kind.result step
