use Rattle.std.proofs.Common.{refl, ap, not, ◌∙◌, Bool, ◌++◌, ◌∷◌, []}
use Rattle.rules_clauses.proofs.Facts.{extends_refl}
use Rattle.rules.proofs.DraftLemmas.{item_inside, head_inside, not_safe_item, adds_safe}
use Rattle.rules.proofs.draft.add_item.Goals as goal

pub is_safe_item-requires-clause-head : goal.is_safe_item-requires-clause-head
is_safe_item-requires-clause-head g c = head_inside _ c.in_ok-item.item _ (c.in_ok-item.ensures.stands _ (extends_refl _))

pub is_safe_item-requires-clause-bodies : goal.is_safe_item-requires-clause-bodies
is_safe_item-requires-clause-bodies g c = item_inside _ c.in_ok-item.item _ (c.in_ok-item.ensures.stands _ (extends_refl _))

pub returns-then-not-branch : goal.returns-then-not-branch
returns-then-not-branch g c =
    not_safe_item _ _ c.in_ok-item.item _ c.in_ok-is_safe_item.field-0 c.in_ok-item.ensures c.requires.words c.in_ok-is_safe_item.ensures
    ∙ ap not c.if-not-branch.true

pub relations_of-requires : goal.relations_of-requires
relations_of-requires g c = item_inside _ c.in_ok-item.item _ (c.in_ok-item.ensures.stands _ (extends_refl _))

pub returns : goal.returns
returns g c = (
  adds_safe c.args.draft.now _ c.in_ok-item.item (record { head = c.in_ok-item.item.head.relation; body = c.in_ok-body.body }) _ c.in_ok-item.ensures
      c.in_ok-add_alternatives.ensures c.in_ok-push.ensures.items refl c.in_ok-body.ensures.same
      (c.in_ok-push-2.ensures.items ∙ ap (λ (b : Bool). c.args.draft.now.rests.items ++ b ∷ []) c.in_ok-rests.ensures),
  not_safe_item _ _ c.in_ok-item.item _ c.in_ok-is_safe_item.field-0 c.in_ok-item.ensures c.requires.words c.in_ok-is_safe_item.ensures
      ∙ ap not c.if-not-branch.false,
)
