-- The game of a description, and the limit that it passes.
use Rattle.std.proofs.Common.{◌≡◌, ◌≢◌, inl, inr, List, refl, sym, subst}
use Rattle.std.specs.Prelude.{Result, Ok, Err, IfOk}
use Rattle.statement.specs.Tree.{Tree, Trees, list_of}
use Rattle.statement.specs.TextFaults.{refusal_line}
use Rattle.statement.specs.Clause.{Alternative}
use Rattle.statement.specs.Items.{alternatives}
use Rattle.statement.specs.Profile.{HasNoFault}
use Rattle.statement.specs.declared.ground_fault.GroundFault.{GroundFault}
use Rattle.statement.specs.declared.ground_fault.GroundFault.TheVariants.{TooMany, NoMemory}
use Rattle.statement.specs.declared.status.Status.TheVariants.{Refused}
use Rattle.statement.specs.declared.width.Width.{Width}
use Rattle.statement.specs.Limits.{excess_in}
use Rattle.statement.specs.LimitTexts.{limit_fault_words}
use Rattle.statement.specs.NamedRules.{NamedRules}
use Rattle.statement.specs.Answers.{Reply, refusal}
use Rattle.statement.specs.Games.{HasNoGame, IsItsGame, IsPlayReply}
use Rattle.statement.specs.Queries.{Query}
use Rattle.statement.specs.Replies.{IsReplyIn}
use Rattle.ground_rows.specs.Progress.{IsFaultOf}
use Rattle.ground_instances.specs.declared.flat_ground.FlatGround.{FlatGround}
use Rattle.ground_instances.specs.GroundView.{IsGround}
use Rattle.game_rules.specs.RuleState.{named_rules_of}
use Rattle.game_rules.proofs.Facts.{game_of_ground}
use Rattle.program_words.specs.declared.command.Inquiry.{Inquiry}
use Rattle.program_words.specs.declared.command.Inquiry.TheVariants.{Net, Moves, State, Solve, SolveWithin, Values, ValuesWithLines, Deepen}
use Rattle.program_words.specs.Asked.{query_about}
use Rattle.program_searches.specs.declared.reply.Reply as made
use Rattle.program_replies.specs.Games.{IsItsGround}
use Rattle.program_replies.specs.Readings.{IsInstantiationOf, IsReplyOver}
use Rattle.program_searches.specs.Replies.{reply_of}

-- the game of the ground of the items is the game of the items
its_game : (width : Width) (items : List Tree) (g : FlatGround) → IsItsGround width items g → IsItsGame width items (named_rules_of g)
its_game width items g its =
    record { lawful = its.lawful; within = its.within; same = game_of_ground (alternatives items) g its.ground }

-- what is told of a game that plays the ground of items is the reply to the items
pub tells : (g : FlatGround) (game : NamedRules) (told : NamedRules → Reply → Type 0) → game ≡ named_rules_of g
    → (reply : Reply) → told game reply → (width : Width) (items : List Tree) → IsItsGround width items g → IsPlayReply width items told reply
tells g game told same reply is = λ width items its.
    inr (named_rules_of g, its_game width items g its, subst (λ (h : NamedRules). told h reply) same is)

pub tells_game : {E : Type 0} (g : FlatGround) (game : NamedRules) (told : NamedRules → Reply → Type 0) (r : Result made.Reply E)
    → game ≡ named_rules_of g → IfOk r (λ reply. told game (reply_of reply))
    → IfOk r (λ reply. (width : Width) (items : List Tree) → IsItsGround width items g → IsPlayReply width items told (reply_of reply))
tells_game g game told (Ok reply) same is = tells g game told same (reply_of reply) is
tells_game g game told (Err e) same is = tt

-- the same where what is told rests on the rules too
pub tells_rules : {E : Type 0} (g source : FlatGround) (game : NamedRules) (told : List Alternative → NamedRules → Reply → Type 0)
    (r : Result made.Reply E) → game ≡ named_rules_of g → source ≡ g
    → IfOk r (λ reply. (rules : List Alternative) → IsGround rules source → told rules game (reply_of reply))
    → IfOk r (λ reply. (width : Width) (items : List Tree) → IsItsGround width items g → IsPlayReply width items (told (alternatives items)) (reply_of reply))
tells_rules g source game told (Ok reply) same kept is = λ width items its.
    inr (
      named_rules_of g,
      its_game width items g its,
      subst (λ (h : NamedRules). told (alternatives items) h (reply_of reply)) same
          (is (alternatives items) (subst (IsGround (alternatives items)) (sym kept) its.ground)),
    )
tells_rules g source game told (Err e) same kept is = tt

-- where there is no game, that is the reply to each inquiry
pub no_game : (inquiry : Inquiry) (width : Width) (ts : Trees) (reply : Reply) → HasNoGame width (list_of ts) reply
    → IsReplyIn width (query_about inquiry) ts reply
no_game Net width ts reply h = inl h
no_game (Moves after) width ts reply h = inl h
no_game (State after) width ts reply h = inl h
no_game (Solve sought) width ts reply h = inl h
no_game (SolveWithin sought window) width ts reply h = inl h
no_game (Values sought) width ts reply h = inl h
no_game (ValuesWithLines sought) width ts reply h = inl h
no_game (Deepen sought) width ts reply h = inl h

-- a fault of the instantiation names the limit that the items pass
passes_limit : (width : Width) (items : List Tree) (fault : GroundFault) (reply : made.Reply) → HasNoFault items
    → IsFaultOf (excess_in width (alternatives items)) fault → fault ≢ NoMemory → reply.output.items ≡ refusal_line (limit_fault_words fault)
    → reply.status ≡ Refused → HasNoGame width items (reply_of reply)
passes_limit width items (TooMany excess) reply lawful passed other line is_status =
    let same : reply_of reply ≡ refusal (limit_fault_words (TooMany excess)) = cc (line, is_status) in
    inr (lawful, excess, passed, same)
passes_limit width items NoMemory reply lawful passed other line is_status = absurd (other refl)

pub tells_limit : (inquiry : Inquiry) (came : Result FlatGround GroundFault) (fault : GroundFault) (reply : made.Reply) → came ≡ Err fault
    → fault ≢ NoMemory → reply.output.items ≡ refusal_line (limit_fault_words fault) → reply.status ≡ Refused
    → IsReplyOver (query_about inquiry) came (reply_of reply)
tells_limit inquiry came fault reply is other line status = λ width ts lawful comes.
    let passed : IsFaultOf (excess_in width (alternatives (list_of ts))) fault =
    (subst (λ (m : Result FlatGround GroundFault). IsInstantiationOf width (alternatives (list_of ts)) m) is comes).1 in
    no_game inquiry width ts (reply_of reply) (passes_limit width (list_of ts) fault reply lawful passed other line status)

-- what is told of all items with this ground is the reply over the ground
pub over_ground : (query : Query) (g : FlatGround) (told : Width → List Tree → Reply → Type 0)
    → ((width : Width) (ts : Trees) (reply : Reply) → told width (list_of ts) reply → IsReplyIn width query ts reply) → (reply : Reply)
    → ((width : Width) (items : List Tree) → IsItsGround width items g → told width items reply) → IsReplyOver query (Ok g) reply
over_ground query g told same reply h = λ width ts lawful comes.
    same width ts reply (h width (list_of ts) (record { lawful = lawful; ground = comes.0.0; within = comes.0.1 }))
