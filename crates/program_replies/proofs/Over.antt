-- What is told of a game that was made before is the reply over its instantiation.
use Rattle.std.proofs.Common.{◌≡◌, refl, List}
use Rattle.std.specs.Prelude.{Result, Ok, Err, IfOk}
use Rattle.statement.specs.Tree.{Tree, Trees, list_of}
use Rattle.statement.specs.Clause.{Alternative}
use Rattle.statement.specs.Items.{alternatives}
use Rattle.statement.specs.NamedRules.{NamedRules}
use Rattle.statement.specs.Answers.{Reply}
use Rattle.statement.specs.declared.width.Width.{Width}
use Rattle.statement.specs.Games.{IsPlayReply}
use Rattle.statement.specs.Queries.{Query}
use Rattle.statement.specs.Replies.{IsReplyIn}
use Rattle.ground_instances.specs.declared.flat_ground.FlatGround.{FlatGround}
use Rattle.ground_instances.specs.GroundView.{IsGround}
use Rattle.game_rules.specs.RuleState.{named_rules_of}
use Rattle.program_searches.specs.declared.reply.Reply as made
use Rattle.program_replies.specs.Games.{IsItsGround}
use Rattle.program_replies.specs.Readings.{IsReplyOver}
use Rattle.program_searches.specs.Replies.{reply_of}
use Rattle.program_replies.proofs.Describing.{over_ground, tells_game, tells_rules}

pub if_over : {E : Type 0} (query : Query) (g : FlatGround) (told : Width → List Tree → Reply → Type 0) (r : Result made.Reply E)
    → ((width : Width) (ts : Trees) (reply : Reply) → told width (list_of ts) reply → IsReplyIn width query ts reply)
    → IfOk r (λ reply. (width : Width) (items : List Tree) → IsItsGround width items g → told width items (reply_of reply))
    → IfOk r (λ reply. IsReplyOver query (Ok g) (reply_of reply))
if_over query g told (Ok reply) same h = over_ground query g told same (reply_of reply) h
if_over query g told (Err e) same h = tt

pub game_over : {E : Type 0} (query : Query) (g : FlatGround) (game : NamedRules) (told : NamedRules → Reply → Type 0) (r : Result made.Reply E)
    → game ≡ named_rules_of g → ((width : Width) (ts : Trees) (reply : Reply) → IsPlayReply width (list_of ts) told reply → IsReplyIn width query ts reply)
    → IfOk r (λ reply. told game (reply_of reply)) → IfOk r (λ reply. IsReplyOver query (Ok g) (reply_of reply))
game_over query g game told r plays same h =
    if_over query g (λ width items reply. IsPlayReply width items told reply) r same (tells_game g game told r plays h)

pub rules_over : {E : Type 0} (query : Query) (g : FlatGround) (game : NamedRules) (told : List Alternative → NamedRules → Reply → Type 0)
    (r : Result made.Reply E) → game ≡ named_rules_of g
    → ((width : Width) (ts : Trees) (reply : Reply) → IsPlayReply width (list_of ts) (told (alternatives (list_of ts))) reply → IsReplyIn width query ts reply)
    → IfOk r (λ reply. (rules : List Alternative) → IsGround rules g → told rules game (reply_of reply))
    → IfOk r (λ reply. IsReplyOver query (Ok g) (reply_of reply))
rules_over query g game told r plays same h =
    if_over query g (λ width items reply. IsPlayReply width items (told (alternatives items)) reply) r same (tells_rules g g game told r plays refl h)
