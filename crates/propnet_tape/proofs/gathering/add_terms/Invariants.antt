use Rattle.std.proofs.Common.{◌≡◌, ℕ, List, ◌<◌, length, get_or}
use Rattle.propnet.specs.Nets.{gates_of}
use Rattle.propnet_tape.specs.Terms.{terms_there, TermsWhole}
use Rattle.propnet_tape.specs.Translating.{IsTermOf}
use Rattle.propnet_tape.proofs.gathering.add_terms.Given as goal

abbrev pub invariant-loop-number : goal.invariant-loop-number
invariant-loop-number l = record {
  whole : TermsWhole l.terms;
  size : length (terms_there l.terms) ≡ l.number-index;
  each : (k : ℕ) → k < l.number-index → (d : List ℕ) → IsTermOf (gates_of l.net) l.literals (get_or l.numbers k 0) (get_or (terms_there l.terms) k d);
}
