-- How much an instantiation may have: each limit stands here once.
use Rattle.std.specs.Prelude.{ℕ}
use Rattle.statement.specs.declared.width.Width.{Width}
use Rattle.statement.specs.declared.width.Width.TheVariants.{Plain, Wide}

pub record Limits : Type 0 where
  pub instances : ℕ
  pub text : ℕ
  pub base : ℕ
  pub inputs : ℕ

-- kept instances, bytes of the text of a head, base propositions, and the inputs of all roles together
abbrev pub limits : Limits
limits = record { instances = 262144; text = 4096; base = 65536; inputs = 4096 }

-- the same, with the inputs that rules may have that are written out of the whole language
abbrev pub wide_limits : Limits
wide_limits = record { instances = limits.instances; text = limits.text; base = limits.base; inputs = 65536 }

abbrev pub limits_in : Width → Limits
limits_in Plain = limits
limits_in Wide = wide_limits
