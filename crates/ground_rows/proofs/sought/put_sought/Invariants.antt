use Rattle.std.proofs.Common.{ℕ, ◌≡◌, ◌<◌, length, drop, get_or}
use Rattle.util_interner.specs.KeyTables.{key_hash}
use Rattle.ground_rows.specs.declared.kept_keys.Blank.{Blank}
use Rattle.ground_rows.specs.Sought.{filled}
use Rattle.ground_rows.proofs.sought.put_sought.Given as goal

-- the hash is that of the key so far, and with the values that are left it is the one that is wanted
abbrev pub invariant-loop-blank : goal.invariant-loop-blank
invariant-loop-blank l = record {
  hash : l.hash ≡ key_hash 0 l.key.items;
  long : length l.key.items ≡ length l.sought.key.items;
  told : (k : ℕ) (d : Blank) → k < l.blank-index → (get_or l.sought.blanks.items k d).place < length l.values;
  key : filled l.values (drop l.blank-index l.sought.blanks.items) l.key.items ≡ filled l.values l.sought.blanks.items l.sought.key.items;
}
