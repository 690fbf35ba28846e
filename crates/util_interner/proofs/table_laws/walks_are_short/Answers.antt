use Rattle.util_interner.specs.KeyTables.{number_bits, byte_bits}
use Rattle.util_interner.proofs.WalkLengths.{short}
use Rattle.util_interner.proofs.table_laws.walks_are_short.Goals as goal

pub returns-clause-keys : goal.returns-clause-keys
returns-clause-keys c = short number_bits

pub returns-clause-names : goal.returns-clause-names
returns-clause-names c = short byte_bits
