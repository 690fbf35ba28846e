-- What is read and then asked is the reply.
use Rattle.std.proofs.Common.{ℕ, ◌≡◌, List, inl, inr, sym, subst}
use Rattle.std.specs.Prelude.{Result, Ok, Err, IfOk, IfErr, OnOk, None}
use Rattle.statement.specs.Tree.{Tree, Trees, list_of, trees_of}
use Rattle.kif.proofs.Facts.{list_of-trees_of}
use Rattle.statement.specs.Reading.{Reads}
use Rattle.statement.specs.Items.{alternatives}
use Rattle.statement.specs.Checking.{RefusesItems, IsCheckReply}
use Rattle.statement.specs.Clause.{Alternative}
use Rattle.statement.specs.declared.width.Width.{Width}
use Rattle.statement.specs.declared.width.Width.TheVariants.{Plain, Wide}
use Rattle.statement.specs.Limits.{excess_in}
use Rattle.statement.specs.Queries.{Query, check, asked_in}
use Rattle.statement.specs.Answers.{Reply}
use Rattle.statement.specs.Replies.{IsReplyIn, IsReplyTo, IsReply}
use Rattle.statement.specs.declared.ground_fault.GroundFault.{GroundFault}
use Rattle.ground_rows.specs.Progress.{IsFaultOf}
use Rattle.rules.specs.declared.rule_set.RuleSet.{RuleSet}
use Rattle.rules.specs.RuleSetView.{rules_in}
use Rattle.ground_instances.specs.declared.flat_ground.FlatGround.{FlatGround}
use Rattle.ground_instances.specs.GroundView.{IsGround}
use Rattle.game.specs.declared.game.Game.{Ghosts}
use Rattle.program_words.specs.declared.command.Inquiry.{Inquiry}
use Rattle.program_words.specs.Asked.{query_about}
use Rattle.program_replies.specs.declared.reading.Reading.{Reading}
use Rattle.program_replies.specs.declared.reading.Reading.TheVariants.{Rules, Refused}
use Rattle.program_replies.specs.declared.asking.Asked.{Asked}
use Rattle.program_searches.specs.declared.reply.Reply as made
use Rattle.program_replies.specs.Readings.{AreRulesOf, RefusesBytes, IsReadingOf, IsReadingOfItems, IsInstantiationOf, IsReplyOver}
use Rattle.program_searches.specs.Replies.{reply_of}
use Rattle.program_replies.specs.Asking.{IsAsked}
use Rattle.program_replies.proofs.Describing.{no_game}
use Rattle.program_replies.proofs.Askings.{lift_asked}

-- the rules of items that were read are those of the bytes, and so is their fault
pub bytes_read : {E : Type 0} (bytes : List ℕ) (items : List Tree) (r : Result Reading E) → Reads bytes (trees_of items)
    → IfOk r (IsReadingOfItems items) → IfOk r (IsReadingOf bytes)
bytes_read bytes items (Ok (Rules rules)) read h =
    (trees_of items, read, subst (λ (xs : List Tree). AreRulesOf xs (rules_in rules)) (sym (list_of-trees_of items)) h)
bytes_read bytes items (Ok (Refused reply)) read h =
    inr (trees_of items, read, subst (λ (xs : List Tree). RefusesItems xs (reply_of reply)) (sym (list_of-trees_of items)) h)
bytes_read bytes items (Err e) read h = tt

-- what is checked of items that were read is the reply to the bytes
pub bytes_checked : {E : Type 0} (bytes : List ℕ) (items : List Tree) (r : Result made.Reply E) → Reads bytes (trees_of items)
    → IfOk r (λ reply. IsCheckReply items (reply_of reply)) → IfOk r (λ reply. IsReply check bytes (reply_of reply))
bytes_checked bytes items (Ok reply) read h =
    inr (trees_of items, read, subst (λ (xs : List Tree). IsCheckReply xs (reply_of reply)) (sym (list_of-trees_of items)) h)
bytes_checked bytes items (Err e) read h = tt

-- what is asked of rules by the limits of a width
pub asked_so : (width : Width) (query : Query) (ts : Trees) (reply : Reply) → IsReplyIn width query ts reply → IsReplyTo (asked_in width query) ts reply
asked_so Plain query ts reply h = h
asked_so Wide query ts reply h = h

-- what refuses bytes is the reply to each inquiry
refused_reply : (inquiry : Inquiry) (width : Width) (bytes : List ℕ) (reply : Reply) → RefusesBytes bytes reply
    → IsReply (asked_in width (query_about inquiry)) bytes reply
refused_reply inquiry width bytes reply (inl fault) = inl fault
refused_reply inquiry width bytes reply (inr items) =
    inr (items.0, items.1, asked_so width (query_about inquiry) items.0 reply (no_game inquiry width items.0 reply (inl items.2)))

pub refused_so : (inquiry : Inquiry) (width : Width) (bytes : List ℕ) (reading : Reading) (reply : made.Reply) → IsReadingOf bytes reading
    → reading ≡ Refused reply → IsReply (asked_in width (query_about inquiry)) bytes (reply_of reply)
refused_so inquiry width bytes reading reply was is = refused_reply inquiry width bytes (reply_of reply) (subst (IsReadingOf bytes) is was)

-- an instantiation within the limits of a width is the ground, and names none of them
pub within_or_not : (width : Width) (rules : List Alternative) (came : Result FlatGround GroundFault) → IfOk came (IsGround rules)
    → OnOk came (excess_in width rules ≡ None) → IfErr came (IsFaultOf (excess_in width rules)) → IsInstantiationOf width rules came
within_or_not width rules (Ok g) ground within fault = ((ground, within), fault)
within_or_not width rules (Err e) ground within fault = (tt, fault)

-- the reply over the instantiation of the rules that were read is the reply to the bytes
reply_to : (inquiry : Inquiry) (width : Width) (bytes : List ℕ) (rules : RuleSet) (came : Result FlatGround GroundFault)
    → IsReadingOf bytes (Rules rules) → IsInstantiationOf width (rules_in rules) came → (reply : Reply)
    → IsReplyOver (query_about inquiry) came reply → IsReply (asked_in width (query_about inquiry)) bytes reply
reply_to inquiry width bytes rules came read comes reply h =
    let all : IsInstantiationOf width (alternatives (list_of read.0)) came =
    subst (λ (rs : List Alternative). IsInstantiationOf width rs came) read.2.same comes in
    inr (read.0, read.1, asked_so width (query_about inquiry) read.0 reply (h width read.0 read.2.lawful all))

-- so what is read and then asked comes to the reply
pub read_and_asked : {G P W M : Type 0} (of : Ghosts G P W M) (inquiry : Inquiry) (width : Width) (bytes : List ℕ) (reading : Reading) (rules : RuleSet)
    (came : Result FlatGround GroundFault) (a : Asked G P W M) → IsReadingOf bytes reading → reading ≡ Rules rules
    → IfOk came (IsGround (rules_in rules)) → OnOk came (excess_in width (rules_in rules) ≡ None)
    → IfErr came (IsFaultOf (excess_in width (rules_in rules)))
    → IsAsked of (IsReplyOver (query_about inquiry) came) a → IsAsked of (IsReply (asked_in width (query_about inquiry)) bytes) a
read_and_asked of inquiry width bytes reading rules came a was is ground within fault h =
    lift_asked of (IsReplyOver (query_about inquiry) came) (IsReply (asked_in width (query_about inquiry)) bytes)
    (reply_to inquiry width bytes rules came (subst (IsReadingOf bytes) is was) (within_or_not width (rules_in rules) came ground within fault)) a h
