-- Where memory is asked for the scalar at which a literal stands.
use Rattle.std.proofs.Common.{◌≡◌, ℤ, List, ℕ, Option, Some, IfErr, Result, option_and_then, option_map, sym, subst, ap}
use Rattle.vortex_dtype.specs.TypeTree.{IsFlat, TypeTree, as_nullable, bool_type, integer_type, null_type}
use Rattle.logical_scalars.specs.Stored.{IsOfLogicalType}
use Rattle.logical_scalars.specs.TypeShapes.{shape_in}
use Rattle.logical_types.specs.Shapes.{Shape, shape_of}
use Rattle.logical_types.specs.Words.{Writes}
use Rattle.logical_types.specs.declared.decimals.places.DecimalPlace.{DecimalPlace}
use Rattle.logical_types.specs.declared.logical.LogicalType.{LogicalType}
use Rattle.vortex_filter.specs.declared.error.FilterError.{FilterError}
use Rattle.vortex_filter.specs.declared.error.FilterError.TheVariants.{OutOfMemory}
use Rattle.vortex_filter.specs.declared.literals.Position.{Position}
use Rattle.vortex_filter.specs.Literals.{AsksMemory, logical_cell, written_value}
use Rattle.vortex_filter.specs.Positions.{PositionTree, exactly}
use Rattle.vortex_filter.proofs.LiteralTypes.{WordsSay}

pub flat_nullable : (t : TypeTree) → IsFlat (as_nullable t) → IsFlat t
flat_nullable null_type h = tt
flat_nullable (bool_type n) h = tt
flat_nullable (integer_type k n) h = tt
flat_nullable t h = absurd h

-- no logical type is flat
pub not_flat : (t : TypeTree) (l : LogicalType) → IsOfLogicalType t l → ¬ (IsFlat t)
not_flat t l is flat = subst IsFlat is.typed flat

-- memory may be refused for what stands there
abbrev Asks : Option PositionTree → Result (Option Position) FilterError → Type 0
Asks o r = IfErr r (λ e. (e ≡ OutOfMemory) × AsksMemory o)

pub asks_shape : (f : Shape → Option PositionTree) (t : TypeTree) (s : Shape) (r : Result (Option Position) FilterError) → shape_in t ≡ Some s → Asks (f s) r → Asks (option_and_then f (shape_in t)) r
asks_shape f t s r e h = subst (λ (o : Option Shape). Asks (option_and_then f o) r) (sym e) h

pub asks_place : (f : DecimalPlace → PositionTree) (o : Option DecimalPlace) (place : DecimalPlace) (r : Result (Option Position) FilterError) → Some place ≡ o → Asks (Some (f place)) r → Asks (option_map f o) r
asks_place f o place r e h = subst (λ (q : Option DecimalPlace). Asks (option_map f q) r) e h

pub asks_word : WordsSay → (t : TypeTree) (l : LogicalType) (word : List ℕ) (z : ℤ) → Writes l word z → ¬ (IsFlat t) → AsksMemory (written_value t (shape_of l) word)
asks_word says t l word z w h = subst AsksMemory (sym (ap (option_map (λ (y : ℤ). exactly (logical_cell t (shape_of l) y))) ((says l word z).1 w))) h
