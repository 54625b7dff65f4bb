-- How deep a recursion over lent raw values goes.
use Rattle.std.proofs.Common.{ℕ, Option, Some, None, Bor}
use Rattle.vortex_value.specs.declared.values.ScalarValue.{ScalarValue, size-ScalarValue}

-- the size of a lent raw value, if there is one
abbrev pub lent_size : Option (Bor ScalarValue) → ℕ
lent_size None = 0
lent_size (Some v) = size-ScalarValue v.now
