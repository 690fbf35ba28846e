-- What is told of a request is told of the rules.
use Rattle.std.proofs.Common.{ℕ, List}
use Rattle.std.specs.Prelude.{Result, Ok, Err, IfOk}
use Rattle.statement.specs.declared.width.Width.TheVariants.{Plain}
use Rattle.program_words.specs.Requests.{IsRequestOver}
use Rattle.program_words.specs.declared.request.Request.{Request}
use Rattle.program_words.specs.declared.request.Request.TheVariants.{Run, Lint, Unroll, Serve, Help, Misuse}
use Rattle.program_words.specs.declared.command.Language.TheVariants.{Profile, Whole, Tightened}
use Rattle.gdlsolve_c.specs.declared.told.Outcome.{Outcome}
use Rattle.gdlsolve_c.specs.declared.told.Outcome.TheVariants.{Reply, Words}
use Rattle.gdlsolve_c.specs.Telling.{IsOutcome, IsOutcomeOf}

pub is_told : {E : Type 0} (request : Request) (rules : List ℕ) (r : Result Outcome E) → IsRequestOver Plain request
    → IfOk r (IsOutcomeOf request rules) → IfOk r (IsOutcome rules)
is_told request rules (Err e) within h = tt
is_told (Run command Profile) rules (Ok (Reply reply)) within h = (command, within, h)
is_told (Run command Whole) rules (Ok (Reply reply)) within h = absurd within
is_told (Run command Tightened) rules (Ok (Reply reply)) within h = absurd within
is_told (Run command language) rules (Ok (Words text)) within h = tt
is_told Lint rules (Ok (Reply reply)) within h = absurd h
is_told Lint rules (Ok (Words text)) within h = tt
is_told (Unroll language) rules (Ok reply) within h = absurd within
is_told (Serve language) rules (Ok reply) within h = absurd within
is_told (Help help) rules (Ok (Reply reply)) within h = absurd h
is_told (Help help) rules (Ok (Words text)) within h = tt
is_told (Misuse fault) rules (Ok (Reply reply)) within h = absurd h
is_told (Misuse fault) rules (Ok (Words text)) within h = tt
