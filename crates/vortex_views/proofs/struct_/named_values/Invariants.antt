-- What has been copied.
use Rattle.std.proofs.Common.{◌≡◌, map, take}
use Rattle.vortex_dtype.specs.TypeOf.{fields_of}
use Rattle.vortex_value.specs.Values.RawOf.{lent_raw, raw_of}
use Rattle.vortex_views.specs.StructParts.{value_named}
use Rattle.vortex_views.proofs.struct_.named_values.Given as goal

abbrev pub invariant-loop-name : goal.invariant-loop-name
invariant-loop-name l = map raw_of l.made.items ≡ map (value_named (fields_of l.fields) (lent_raw l.value)) (take l.name-index l.names)
