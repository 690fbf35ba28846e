use Rattle.std.proofs.Common.{refl, sym, ap, subst, ◌∙◌}
use Rattle.kif.specs.View.{trees_in}
use Rattle.diagnose_places.specs.declared.walk.Walk.{Walk}
use Rattle.diagnose_places.specs.Walking.{walk_text, IsWalk}
use Rattle.diagnose_places.specs.Unread.{token_at}
use Rattle.diagnose_places.proofs.Words.{not_yet, still_not}
use Rattle.diagnose_places.proofs.Journeys.{read_on, word_behind}
use Rattle.diagnose_places.proofs.walk.Walk.find.Goals as goal

pub loop-token-init : goal.loop-token-init
loop-token-init g c = record { same = refl; seen = not_yet (walk_text c.args.self.now) c.args.self.now.inside c.args.name.now c.requires.inside_text }

pub loop-token-preserved : goal.loop-token-preserved
loop-token-preserved g c = record {
  same = c.loop-token.invariant.same;
  seen = still_not (walk_text c.args.self.now) _ c.loop-token.tokens c.next.new.self c.args.name.now c.in-Some.token c.loop-token.invariant.seen
      c.in-Some.ensures.next c.next.ensures.text
      (λ e. let f = c.if-is_name.ensures.1 (ap (λ (w : Walk). token_at (walk_text w) c.in-Some.token.start c.in-Some.token.kind) c.loop-token.invariant.same ∙ e) in absurd cc);
}

pub returns-then-is_name-clause-text : goal.returns-then-is_name-clause-text
returns-then-is_name-clause-text g c = ap walk_text c.loop-token.invariant.same

pub returns-then-is_name-clause-walk : goal.returns-then-is_name-clause-walk
returns-then-is_name-clause-walk g c =
    let same = c.loop-token.invariant.same in
    read_on _ c.args.self.now _ c.loop-token.tokens c.args.name.now _ c.requires c.loop-token.invariant.seen (ap (λ (w : Walk). w.text) same)
    (ap (λ (w : Walk). w.passed) same) (ap (λ (w : Walk). w.here) same) c.next.ensures.text c.in-Some.ensures.next

pub returns-then-is_name-clause-stands : goal.returns-then-is_name-clause-stands
returns-then-is_name-clause-stands g c = λ reads.
    word_behind c.args.items.now c.args.self.now c.loop-token.tokens _ c.args.name.now c.in-Some.token c.requires c.loop-token.invariant.seen
    c.in-Some.ensures.next
    (ap (λ (w : Walk). token_at (walk_text w) c.in-Some.token.start c.in-Some.token.kind) (sym c.loop-token.invariant.same) ∙ c.if-is_name.ensures.0 refl) reads

pub returns-clause-text : goal.returns-clause-text
returns-clause-text g c = ap walk_text c.loop-token.invariant.same

pub returns-clause-walk : goal.returns-clause-walk
returns-clause-walk g c = subst (IsWalk (trees_in c.args.items.now)) (sym c.loop-token.invariant.same) c.requires
