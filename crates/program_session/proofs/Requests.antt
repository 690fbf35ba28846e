-- What is told of some request.
use Rattle.std.proofs.Common.{ℕ, List}
use Rattle.std.specs.Prelude.{Result, Ok, Err, IfOk}
use Rattle.statement.specs.declared.width.Width.{Width}
use Rattle.program_words.specs.Requests.{IsRequestOver}
use Rattle.program_words.specs.declared.request.Request.{Request}
use Rattle.program_session.specs.declared.answering.Told.{Told}
use Rattle.program_session.specs.Telling.{IsToldOf, IsTold}

pub told_some : {E : Type 0} (width : Width) (request : Request) (rules : List ℕ) (r : Result Told E) → IsRequestOver width request
    → IfOk r (λ told. IsToldOf request rules told.status told.bytes.items) → IfOk r (λ told. IsTold width rules told.status told.bytes.items)
told_some width request rules (Ok told) within h = (request, within, h)
told_some width request rules (Err e) within h = tt
