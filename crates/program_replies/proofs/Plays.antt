-- The game of rules, and the reply by it.
use Rattle.std.proofs.Common.{ℕ, ◌≡◌, inr, List, subst}
use Rattle.std.specs.Prelude.{Option, Some, None, Result, Ok, Err, IfOk, OnOk, IfSome}
use Rattle.statement.specs.Clause.{Alternative}
use Rattle.statement.specs.Rules.{Rules}
use Rattle.statement.specs.declared.width.Width.{Width}
use Rattle.statement.specs.declared.width.Width.TheVariants.{Plain}
use Rattle.statement.specs.Limits.{excess_in}
use Rattle.statement.specs.Queries.{Query, asked_in}
use Rattle.statement.specs.Replies.{IsReply}
use Rattle.statement.specs.declared.ground_fault.GroundFault.{GroundFault}
use Rattle.ground_instances.specs.declared.flat_ground.FlatGround.{FlatGround}
use Rattle.ground_instances.specs.GroundView.{IsGround}
use Rattle.rules.specs.declared.rule_set.RuleSet.{RuleSet}
use Rattle.rules.specs.RuleSetView.{rules_in}
use Rattle.game_rules.specs.RuleState.{IsGameOver}
use Rattle.program_searches.specs.declared.reply.Reply as made
use Rattle.program_searches.specs.Replies.{reply_of}
use Rattle.program_replies.specs.declared.reading.Reading.TheVariants as readings
use Rattle.program_replies.specs.Readings.{IsReadingOf, IsReplyOver}
use Rattle.program_replies.proofs.Facts.{asked_so}
use Rattle.program_replies.specs.Playing.{PlaysText}

-- the reply over the instantiation that the game is made of is that to the bytes
pub reply_kept : {E : Type 0} (query : Query) (width : Width) (bytes : List ℕ) (source : FlatGround) (rules : Rules) (role_name : ℕ → List ℕ)
    (move_name : ℕ → ℕ → List ℕ) (r : Result made.Reply E) → PlaysText width bytes source rules role_name move_name
    → IfOk r (λ reply. IsReplyOver query (Ok source) (reply_of reply)) → IfOk r (λ reply. IsReply (asked_in width query) bytes (reply_of reply))
reply_kept query width bytes source rules role_name move_name (Ok reply) plays h =
    inr (plays.0, plays.1, asked_so width query plays.0 (reply_of reply) (h width plays.0 plays.2 ((plays.3, plays.4), tt)))
reply_kept query width bytes source rules role_name move_name (Err e) plays h = tt

-- by the limits of every command
pub reply_plainly : {E : Type 0} (query : Query) (bytes : List ℕ) (source : FlatGround) (rules : Rules) (role_name : ℕ → List ℕ)
    (move_name : ℕ → ℕ → List ℕ) (r : Result made.Reply E) → PlaysText Plain bytes source rules role_name move_name
    → IfOk r (λ reply. IsReplyOver query (Ok source) (reply_of reply)) → IfOk r (λ reply. IsReply query bytes (reply_of reply))
reply_plainly query bytes source rules role_name move_name r plays h = reply_kept query Plain bytes source rules role_name move_name r plays h

-- the game of the instantiation of rules that were read plays the bytes
module _ {X : Type 0} (source : X → FlatGround) (rules : X → Rules) (role_name : X → ℕ → List ℕ) (move_name : X → ℕ → ℕ → List ℕ) where
  plays_one : (width : Width) (bytes : List ℕ) (read : RuleSet) (came : Result FlatGround GroundFault) (game : X) → IsReadingOf bytes (readings.Rules read)
      → IfOk came (IsGround (rules_in read)) → OnOk came (excess_in width (rules_in read) ≡ None) → came ≡ Ok (source game) × IsGameOver (source game) (rules game) (role_name game) (move_name game)
      → PlaysText width bytes (source game) (rules game) (role_name game) (move_name game)
  plays_one width bytes read came game reads ground within made =
      let g : IsGround (rules_in read) (source game) = subst (λ (c : Result FlatGround GroundFault). IfOk c (IsGround (rules_in read))) made.0 ground in
      let few : excess_in width (rules_in read) ≡ None = subst (λ (c : Result FlatGround GroundFault). OnOk c (excess_in width (rules_in read) ≡ None)) made.0 within in (
        reads.0,
        reads.1,
        reads.2.lawful,
        subst (λ (rs : List Alternative). IsGround rs (source game)) reads.2.same g,
        subst (λ (rs : List Alternative). excess_in width rs ≡ None) reads.2.same few,
        made.1,
      )

  plays_some : (width : Width) (bytes : List ℕ) (read : RuleSet) (came : Result FlatGround GroundFault) (game : Option X) → IsReadingOf bytes (readings.Rules read)
      → IfOk came (IsGround (rules_in read)) → OnOk came (excess_in width (rules_in read) ≡ None)
      → IfSome game (λ g. (came ≡ Ok (source g)) × IsGameOver (source g) (rules g) (role_name g) (move_name g))
      → IfSome game (λ g. PlaysText width bytes (source g) (rules g) (role_name g) (move_name g))
  plays_some width bytes read came (Some game) reads ground within made = plays_one width bytes read came game reads ground within made
  plays_some width bytes read came None reads ground within made = tt

  pub plays_read : {E : Type 0} (width : Width) (bytes : List ℕ) (read : RuleSet) (came : Result FlatGround GroundFault) (r : Result (Option X) E)
      → IsReadingOf bytes (readings.Rules read) → IfOk came (IsGround (rules_in read)) → OnOk came (excess_in width (rules_in read) ≡ None)
      → IfOk r (λ game. IfSome game (λ g. (came ≡ Ok (source g)) × IsGameOver (source g) (rules g) (role_name g) (move_name g)))
      → IfOk r (λ game. IfSome game (λ g. PlaysText width bytes (source g) (rules g) (role_name g) (move_name g)))
  plays_read width bytes read came (Ok game) reads ground within made = plays_some width bytes read came game reads ground within made
  plays_read width bytes read came (Err e) reads ground within made = tt
