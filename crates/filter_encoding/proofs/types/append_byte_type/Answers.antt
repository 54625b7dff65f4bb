-- The byte, if there is one.
use Rattle.std.proofs.Common.{◌∷◌, [], ap}
use Rattle.vortex_dtype.specs.TypeOf.{type_of}
use Rattle.filter_encoding.specs.Encoding.{HasByte}
use Rattle.filter_encoding.proofs.WriteSteps.{begins_itself, written_as}
use Rattle.filter_encoding.proofs.types.append_byte_type.Goals as goal

pub returns-in-Some : goal.returns-in-Some
returns-in-Some c = written_as (Unit {0}) (HasByte (type_of c.args.dtype.now)) (Unit {0}) (HasByte (type_of c.args.dtype.now)) _ _ _ _ _ (λ u. c.in-Some.ensures.0) (λ h. tt) (ap (λ b. b ∷ []) c.in-Some.ensures.1) c.append_byte.ensures

pub returns-in-None : goal.returns-in-None
returns-in-None c = (c.in-None.ensures, begins_itself _)
