-- The version, the types, and then the filter.
use Rattle.std.proofs.Common.{map, [], ◌∷◌}
use Rattle.vortex_dtype.specs.TypeOf.{type_of}
use Rattle.filter_encoding.specs.Encoding.{CanBeWritten, IsPlain, parts_of}
use Rattle.filter_encoding.specs.Lists.{AreListed}
use Rattle.filter_encoding.proofs.WriteSteps.{begins_later, encoding_written, passed_on}
use Rattle.filter_encoding.proofs.writing.append_parts.Goals as goal

pub returns-in_err-append_byte : goal.returns-in_err-append_byte
returns-in_err-append_byte c =
    let w = c.in_err-append_byte.ensures in
    passed_on _ (Unit {0}) (CanBeWritten c.args.depth (parts_of c.args.columns.now c.args.filter.now)) _ _ _ _ _ c.from_residual.ensures (λ h. tt) w.0 w.1

pub returns-in_err-append_types : goal.returns-in_err-append_types
returns-in_err-append_types c =
    let w = c.in_err-append_types.ensures in
    passed_on _ (AreListed IsPlain (map type_of c.args.columns.now)) (CanBeWritten c.args.depth (parts_of c.args.columns.now c.args.filter.now)) _ _ _ _ _ c.from_residual-in_err-append_types.ensures (λ h. h.types) w.0
    (begins_later (c.version_of.result ∷ []) _ _ _ c.in_ok-append_byte.ensures.1 w.1)

pub returns : goal.returns
returns c = encoding_written c.args.depth c.version_of.result (parts_of c.args.columns.now c.args.filter.now) c.append_node.result _ _ _ _ c.version_of.ensures c.in_ok-append_byte.ensures.1 c.in_ok-append_types.ensures c.append_node.ensures
