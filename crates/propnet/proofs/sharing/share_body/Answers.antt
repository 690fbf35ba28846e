use Rattle.std.proofs.Common.{rules, ℕ, ◌≡◌, [], get_or, ap, sym, ◌∙◌}
use Rattle.ground_instances.specs.GroundView.{bodies_in}
use Rattle.propnet.proofs.sharing.share_body.Goals as goal

pub returns : goal.returns
returns c = λ equal d.
    let same : c.body_number.result ≡ c.body_number-2.result = search rules in
    c.body_number.ensures.body d
    ∙ ap (λ (n : ℕ). get_or (bodies_in c.args.ground.now) n []) same
    ∙ sym (c.body_number-2.ensures.body d)
