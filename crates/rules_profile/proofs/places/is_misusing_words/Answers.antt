use Rattle.std.proofs.Common.{Bool, not, ◌||◌, ◌&&◌, sym, ap, ◌∙◌}
use Rattle.statement.specs.Tree.{trees_of, name_eq}
use Rattle.kif.specs.View.{tree_of, trees_in}
use Rattle.statement.specs.Words.{w_role}
use Rattle.statement.specs.Items.{is_some}
use Rattle.rules_profile.proofs.Standings.{IsSplit, head_misused, body_misused, role_misused, facts_alone}
use Rattle.rules_profile.proofs.places.is_misusing_words.Goals as goal

pub returns-then-not-may_head : goal.returns-then-not-may_head
returns-then-not-may_head g c =
    let head = tree_of c.split_item.result.0.now in
    let body = trees_of (trees_in c.split_item.result.1.now) in
    let s : IsSplit (tree_of c.args.e.now) head (record { word = c.signature_of-arity.result.0.now; arity = c.signature_of-arity.result.1 }) body
    = record { item = c.requires; heads = c.split_item.ensures.head; bodies = c.split_item.ensures.body; relation = c.signature_of-arity.ensures } in
    sym (head_misused _ _ _ _ s (sym c.if-not-may_head.ensures))

pub returns-then-not-literals_may_stand : goal.returns-then-not-literals_may_stand
returns-then-not-literals_may_stand g c =
    let head = tree_of c.split_item.result.0.now in
    let body = trees_of (trees_in c.split_item.result.1.now) in
    let s : IsSplit (tree_of c.args.e.now) head (record { word = c.signature_of-arity.result.0.now; arity = c.signature_of-arity.result.1 }) body
    = record { item = c.requires; heads = c.split_item.ensures.head; bodies = c.split_item.ensures.body; relation = c.signature_of-arity.ensures } in
    sym (body_misused _ _ _ _ s (sym c.if-not-literals_may_stand.ensures))

pub returns : goal.returns
returns g c =
    let w = c.signature_of-arity.result.0.now in
    let head = tree_of c.split_item.result.0.now in
    let body = trees_of (trees_in c.split_item.result.1.now) in
    let s : IsSplit (tree_of c.args.e.now) head (record { word = c.signature_of-arity.result.0.now; arity = c.signature_of-arity.result.1 }) body
    = record { item = c.requires; heads = c.split_item.ensures.head; bodies = c.split_item.ensures.body; relation = c.signature_of-arity.ensures } in
    ap not (c.keeps_role.ensures
    ∙ ap (λ (v : Bool). not (name_eq w w_role) || (v && c.is_without_variables.result)) (c.is_empty.ensures ∙ facts_alone c.split_item.result.1.now)
    ∙ ap (λ (v : Bool). not (name_eq w w_role) || (not (is_some body) && v)) c.is_without_variables.ensures)
    ∙ sym (role_misused _ _ _ _ s (sym c.if-not-may_head.ensures) (sym c.if-not-literals_may_stand.ensures))
