use Rattle.std.proofs.Common.{◌≡◌, length, take}
use Rattle.std.specs.Vec.{vec_capacity, vec_len}
use Rattle.vortex_dtype.proofs.types.copies.copy_names.Given as goal

abbrev pub invariant-loop-name : goal.invariant-loop-name
invariant-loop-name l = record {
  items : l.copies.items ≡ take l.name-index l.names;
  count : vec_len l.copies ≡ l.name-index;
  room : vec_capacity l.copies ≡ length l.names;
}
