-- The bytes of an upper bound, whether it is the value itself or was made.
use Rattle.std.specs.Prelude.{ℕ, List}
use Rattle.vortex_c.specs.declared.bounds.Upper.{Upper}
use Rattle.vortex_c.specs.declared.bounds.Upper.TheVariants.{Whole, Cut}

-- the bytes of the upper bound
abbrev pub bytes_of : Upper → List ℕ
bytes_of (Whole value) = value.now
bytes_of (Cut bound) = bound
