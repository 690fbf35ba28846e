use Rattle.std.proofs.Common.{◌≡◌, ◌∙◌, List, false, ap, sym, subst, rules as facts}
use Rattle.std.specs.Prelude.{is_some}
use Rattle.std.specs.List.{All}
use Rattle.std.proofs.lemmas.List.Elements.{All-push}
use Rattle.diagnose_lint.specs.declared.opening_finding.Opening.{Opening}
use Rattle.diagnose_lint.specs.declared.opening_finding.Opening.TheVariants.{Idle}
use Rattle.diagnose_lint.specs.Openings.{IsTrueOpening}
use Rattle.diagnose_lint.proofs.Starting.{none_first}
use Rattle.diagnose_lint.proofs.opening_finding.add_if_idle.Goals as goal

pub returns : goal.returns
returns g c =
    let played = g.G.Game.rules c.args.game.now in
    let nothing : is_some c.legal.result ≡ false = search facts in
    let idle : IsTrueOpening played (Idle c.args.role) = record {
      role = c.requires.role;
      goes_on = c.requires.goes_on;
      none = ap (λ s. played.legal s c.args.role) (sym c.requires.start) ∙ none_first _ _ c.legal.ensures nothing;
    } in
    subst (λ (all : List Opening). All (IsTrueOpening played) all) (sym c.in_ok-push.ensures.items)
    (All-push (IsTrueOpening played) c.args.found.now.items (Idle c.args.role) c.requires.found idle)
