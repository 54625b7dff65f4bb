use Rattle.std.proofs.Common.{◌≡◌, length, map, take}
use Rattle.std.specs.Vec.{vec_capacity, vec_len}
use Rattle.vortex_dtype.specs.TypeOf.{type_of}
use Rattle.vortex_dtype.proofs.types.copies.+copy.Given as goal

abbrev pub invariant-copy_all-loop-dtype : goal.invariant-copy_all-loop-dtype
invariant-copy_all-loop-dtype l = record {
  types : map type_of l.copies.items ≡ map type_of (take l.dtype-index l.dtypes);
  count : vec_len l.copies ≡ l.dtype-index;
  room : vec_capacity l.copies ≡ length l.dtypes;
}
