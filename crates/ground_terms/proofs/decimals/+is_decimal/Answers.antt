use Rattle.std.proofs.Common.{arith}
use Rattle.ground_terms.proofs.DecimalNames.{no_name, other_last, last_digit, more_digits}
use Rattle.ground_terms.proofs.decimals.+is_decimal.Goals as goal

pub returns-in_default : goal.returns-in_default
returns-in_default t c = no_name _ _ (omega arith) c.in_default.ensures.cases

pub returns-then-last-number : goal.returns-then-last-number
returns-then-last-number t c = other_last _ (omega arith) _ _ _ c.in-Some.ensures.cases.0 c.if-last-number.true

pub returns-then-number-lt10 : goal.returns-then-number-lt10
returns-then-number-lt10 t c = last_digit _ c.if-number-lt10.true _ _ _ _ c.in-Some.ensures.cases.0 c.if-last-number.false c.is_empty.ensures

pub returns : goal.returns
returns t c = more_digits _ c.if-number-lt10.false (omega arith) _ _ _ _ c.in-Some.ensures.cases.0 c.if-last-number.false c.is_decimal.ensures
