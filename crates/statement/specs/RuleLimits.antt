-- How much a description may have: each limit stands here once.
use Rattle.std.specs.Prelude.{ℕ}

-- items
abbrev pub most_items : ℕ
most_items = 4096

-- different variables of one item
abbrev pub most_variables : ℕ
most_variables = 32

-- alternatives of one item
abbrev pub most_alternatives : ℕ
most_alternatives = 64

-- different roles
abbrev pub most_roles : ℕ
most_roles = 16
