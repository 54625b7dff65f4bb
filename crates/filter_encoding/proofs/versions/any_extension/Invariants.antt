-- The rest decides.
use Rattle.std.proofs.Common.{◌≡◌, drop, map}
use Rattle.std.specs.List.{list_any}
use Rattle.vortex_dtype.specs.TypeOf.{type_of}
use Rattle.filter_encoding.specs.Encoding.{is_extension}
use Rattle.filter_encoding.proofs.versions.any_extension.Given as goal

abbrev pub invariant-loop-dtype : goal.invariant-loop-dtype
invariant-loop-dtype l = list_any is_extension (map type_of (drop l.dtype-index l.dtypes)) ≡ list_any is_extension (map type_of l.dtypes)
