-- Each list of items has one reply that is told of its game.
use Rattle.std.proofs.Common.{◌≡◌, inl, inr, List, refl, sym, ◌∙◌, ap}
use Rattle.std.specs.Prelude.{Option, Some, None}
use Rattle.statement.specs.Tree.{Tree}
use Rattle.statement.specs.Items.{alternatives}
use Rattle.statement.specs.Profile.{HasNoFault}
use Rattle.meaning.proofs.Facts.{accepted_well_formed}
use Rattle.statement.specs.declared.excess.Excess.{Excess}
use Rattle.statement.specs.declared.ground_fault.GroundFault.TheVariants.{TooMany}
use Rattle.statement.specs.declared.width.Width.{Width}
use Rattle.statement.specs.Limits.{excess_in}
use Rattle.statement.specs.LimitTexts.{limit_fault_words}
use Rattle.game_rules.proofs.Facts.{has_game, one_game}
use Rattle.statement.specs.NamedRules.{NamedRules}
use Rattle.game.specs.SamePlay.{SamePlay}
use Rattle.program_replies.proofs.OneCheck.{some_verdict, one_refusal, refused_or_lawful}
use Rattle.statement.specs.Answers.{Reply, refusal}
use Rattle.statement.specs.Games.{PassesLimit, TellsGame, IsPlayReply}

-- items without a fault pass a limit, or have a game
some_play_of : (width : Width) (items : List Tree) (told : NamedRules → Reply → Type 0) → ((g : NamedRules) → (reply : Reply) × told g reply)
    → HasNoFault items → (found : Option Excess) → excess_in width (alternatives items) ≡ found → (reply : Reply) × IsPlayReply width items told reply
some_play_of width items told each lawful (Some excess) e =
    (refusal (limit_fault_words (TooMany excess)), inl (inr (lawful, excess, e, refl)))
some_play_of width items told each lawful None e =
    let game = has_game (alternatives items) (accepted_well_formed items lawful) in
    let reply = each game.0 in
    (reply.0, inr (game.0, record { lawful = lawful; within = e; same = game.1 }, reply.1))

pub some_play : (width : Width) (items : List Tree) (told : NamedRules → Reply → Type 0) → ((g : NamedRules) → (reply : Reply) × told g reply)
    → (reply : Reply) × IsPlayReply width items told reply
some_play width items told each =
    elim (some_verdict items) [
      | inl refused ↦ (refused.0, inl (inl refused.1))
      | inr lawful ↦ some_play_of width items told each lawful (excess_in width (alternatives items)) refl
    ]

pub one_limit : (width : Width) (items : List Tree) (reply other : Reply) → PassesLimit width items reply → PassesLimit width items other → reply ≡ other
one_limit width items reply other p q =
    let same : Some p.1 ≡ Some q.1 = sym p.2 ∙ q.2 in
    let one : p.1 ≡ q.1 = cc in
    p.3 ∙ ap (λ (excess : Excess). refusal (limit_fault_words (TooMany excess))) one ∙ sym q.3

limit_or_game : (width : Width) (items : List Tree) (told : NamedRules → Reply → Type 0) (reply other : Reply) → PassesLimit width items reply → TellsGame width items told other
    → ⊥
limit_or_game width items told reply other p q =
    let passed = p.2 in
    let within = q.1.within in
    cc

pub one_play : (width : Width) (items : List Tree) (told : NamedRules → Reply → Type 0)
    → ((g h : NamedRules) → SamePlay g h → (reply other : Reply) → told g reply → told h other → reply ≡ other)
    → (reply other : Reply) → IsPlayReply width items told reply → IsPlayReply width items told other → reply ≡ other
one_play width items told alike reply other (inl (inl p)) (inl (inl q)) = one_refusal items reply other p q
one_play width items told alike reply other (inl (inl p)) (inl (inr q)) = absurd (refused_or_lawful items reply p q.0)
one_play width items told alike reply other (inl (inl p)) (inr q) = absurd (refused_or_lawful items reply p q.1.lawful)
one_play width items told alike reply other (inl (inr p)) (inl (inl q)) = absurd (refused_or_lawful items other q p.0)
one_play width items told alike reply other (inl (inr p)) (inl (inr q)) = one_limit width items reply other p q
one_play width items told alike reply other (inl (inr p)) (inr q) = absurd (limit_or_game width items told reply other p q)
one_play width items told alike reply other (inr p) (inl (inl q)) = absurd (refused_or_lawful items other q p.1.lawful)
one_play width items told alike reply other (inr p) (inl (inr q)) = absurd (limit_or_game width items told other reply q p)
one_play width items told alike reply other (inr p) (inr q) =
    let formed = accepted_well_formed items p.1.lawful in
    alike p.0 q.0 (one_game (alternatives items) formed p.0 q.0 p.1.same q.1.same) reply other p.2 q.2
