-- What is told over the rules that are kept is told over the rules that stand.
use Rattle.std.proofs.Common.{ℕ, ◌≡◌, ◌≤◌, ◌<◌, inl, inr, List, [], length, take, drop, sym, subst, arith, take-append-drop}
use Rattle.std.proofs.Math.ListN.{drop_of_length-le}
use Rattle.std.proofs.lemmas.List.{length-take}
use Rattle.std.specs.Prelude.{Some}
use Rattle.statement.specs.Input.{read_limit}
use Rattle.statement.specs.Answers.{Reply}
use Rattle.statement.specs.Queries.{Query}
use Rattle.statement.specs.Queries as query
use Rattle.statement.specs.Replies.{IsReply}
use Rattle.statement.specs.declared.width.Width.{Width}
use Rattle.statement.specs.declared.width.Width.TheVariants.{Plain}
use Rattle.program_words.specs.Asked.{query_of}
use Rattle.program_words.specs.declared.command.Language.{Language}
use Rattle.program_words.specs.declared.command.Language.TheVariants.{Profile, Whole, Tightened}
use Rattle.program_words.specs.declared.request.Request.{Request}
use Rattle.program_words.specs.declared.request.Request.TheVariants.{Run, Lint, Unroll, Serve, Help, Misuse}
use Rattle.program_streams.specs.Input.{IsReadFrom}
use Rattle.program_streams.proofs.Facts.{replies_to}
use Rattle.program_unroll.proofs.Facts.{written_over, refuses_over}
use Rattle.program_requests.specs.Desks.{Stand}
use Rattle.program_requests.specs.Sessions.{Answers}
use Rattle.unroll_writer.specs.declared.written.Bounds.{Bounds}
use Rattle.unroll_writer.specs.declared.written.Bounds.TheVariants as bounds
use Rattle.program_session.specs.Telling.{IsToldOf, IsToldOfLint, IsTold, IsToldFound, IsToldIn}

few_left : (limit : ℕ) (rules : List ℕ) → length (take limit rules) < limit → drop limit rules ≡ []
few_left limit rules less =
    let size = length-take limit rules in
    let within : length rules ≤ limit = grind (arith, size, less) in
    drop_of_length-le rules within

few : (limit : ℕ) (rules : List ℕ) → length (take limit rules) ≤ limit
few limit rules = let size = length-take limit rules in grind (arith, size)

is_read : (rules : List ℕ) → IsReadFrom (Some rules) (Some (drop read_limit rules)) (take read_limit rules)
is_read rules = record {
  within = few read_limit rules;
  consumed = sym (take-append-drop read_limit rules);
  ended = few_left read_limit rules;
}

reply_over : (query : Query) (kept rules : List ℕ) (reply : Reply) → Stand kept rules → IsReply query kept reply → IsReply query rules reply
reply_over query kept rules reply stand h =
    let same : IsReply query (take read_limit rules) reply = subst (λ (l : List ℕ). IsReply query l reply) stand h in
    let found = replies_to query (Some rules) (Some (drop read_limit rules)) (take read_limit rules) reply (is_read rules) same in
    subst (λ (l : List ℕ). IsReply query l reply) found.1.0 found.2

lint_over : (kept rules : List ℕ) (status : ℕ) (bytes : List ℕ) → Stand kept rules → IsToldOfLint kept status bytes → IsToldOfLint rules status bytes
lint_over kept rules status bytes stand h =
    let checked = h.1 in (h.0, (checked.0, reply_over query.check kept rules checked.0 stand checked.1, checked.2), h.2, h.3)

told_of_over : (request : Request) (kept rules : List ℕ) (status : ℕ) (bytes : List ℕ) → Stand kept rules → IsToldOf request kept status bytes
    → IsToldOf request rules status bytes
told_of_over (Run command language) kept rules status bytes stand h = (h.0, reply_over (query_of command) kept rules h.0 stand h.1, h.2, h.3)
told_of_over Lint kept rules status bytes stand h = lint_over kept rules status bytes stand h
told_of_over (Unroll language) kept rules status bytes stand h = h
told_of_over (Serve language) kept rules status bytes stand h = h
told_of_over (Help text) kept rules status bytes stand h = h
told_of_over (Misuse text) kept rules status bytes stand h = h

told_over : (width : Width) (kept rules : List ℕ) (status : ℕ) (bytes : List ℕ) → Stand kept rules → IsTold width kept status bytes
    → IsTold width rules status bytes
told_over width kept rules status bytes stand h = (h.0, h.1, told_of_over h.0 kept rules status bytes stand h.2)

found_over : (ranges : Bounds) (kept rules : List ℕ) (status : ℕ) (bytes : List ℕ) → Stand kept rules → IsToldFound ranges kept status bytes
    → IsToldFound ranges rules status bytes
found_over ranges kept rules status bytes stand (inl h) = inl (h.0, written_over ranges kept rules h.0 stand h.1, h.2)
found_over ranges kept rules status bytes stand (inr h) = inr (h.0, refuses_over kept rules h.0 stand h.1, h.2, h.3)

told_in_over : (language : Language) (kept rules : List ℕ) (status : ℕ) (bytes : List ℕ) → Stand kept rules → IsToldIn language kept status bytes
    → IsToldIn language rules status bytes
told_in_over Profile kept rules status bytes stand h = told_over Plain kept rules status bytes stand h
told_in_over Whole kept rules status bytes stand h = found_over bounds.AsStated kept rules status bytes stand h
told_in_over Tightened kept rules status bytes stand h = found_over bounds.Tightened kept rules status bytes stand h

pub answers_over : (language : Language) (kept rules out : List ℕ) → Stand kept rules → Answers (IsToldIn language) kept out
    → Answers (IsToldIn language) rules out
answers_over language kept rules out stand (inl h) = inl (h.0, h.1, told_in_over language kept rules h.0 h.1 stand h.2, h.3)
answers_over language kept rules out stand (inr h) = inr h
