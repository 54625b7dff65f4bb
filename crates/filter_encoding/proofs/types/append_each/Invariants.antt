-- What is written, and what is left.
use Rattle.std.proofs.Common.{drop, map}
use Rattle.vortex_dtype.specs.TypeOf.{type_of}
use Rattle.filter_encoding.specs.Encoding.{IsPlain, type_bytes}
use Rattle.filter_encoding.proofs.ListLaws.{IsLeft}
use Rattle.filter_encoding.proofs.types.append_each.Given as goal

abbrev pub invariant-loop-dtype : goal.invariant-loop-dtype
invariant-loop-dtype l = IsLeft type_bytes IsPlain IsPlain (map type_of (drop l.dtype-index l.dtypes)) (map type_of l.dtypes) l.initial.out.items l.out.items
