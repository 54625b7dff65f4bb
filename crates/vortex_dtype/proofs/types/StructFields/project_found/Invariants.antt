use Rattle.std.proofs.Common.{◌≡◌, take, map, Some}
use Rattle.vortex_dtype.specs.Parts.{type_named}
use Rattle.vortex_dtype.specs.TypeOf.{type_of, fields_of}
use Rattle.vortex_dtype.proofs.types.StructFields.project_found.Given as goal

abbrev pub invariant-loop-name : goal.invariant-loop-name
invariant-loop-name l = record {
  names_kept : l.kept.items ≡ take l.name-index l.names;
  types_kept : map (type_named (fields_of l.self)) (take l.name-index l.names) ≡ map Some (map type_of l.dtypes.items);
}
