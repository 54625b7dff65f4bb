-- The parts of values, and what calls that lend or copy a part say of it.
use Rattle.std.specs.Prelude.{ℕ, Bool, true, false, List, [], ◌∷◌, map, Option, Some, None, slice_get, if◌then◌else◌}
use Rattle.vortex_dtype.specs.Parts.{element_in, map_in}
use Rattle.vortex_dtype.specs.TypeOf.{MapParts}
use Rattle.vortex_dtype.specs.TypeTree.{TypeTree, IsFlat}
use Rattle.vortex_value.specs.Validity.{Valid}
use Rattle.vortex_value.specs.Values.RawOf.{raw_or_absent}
use Rattle.vortex_value.specs.Values.RawTree.{RawTree, absent, raw_tuple, RawTrees, no_raws, raw_then, is_absent}
use Rattle.vortex_value.specs.Values.Refs.{ref_type, ref_raw}
use Rattle.vortex_value.specs.Values.Scalars.{IsValid, scalar_type, scalar_raw}
use Rattle.vortex_value.specs.declared.refs.ScalarRef.{ScalarRef}
use Rattle.vortex_value.specs.declared.scalars.Scalar.{Scalar}
pub use Rattle.vortex_leaves.specs.RefViews.{ref_feed}

-- a type, and a raw value of it
abbrev pub Part : Type 0
Part = TypeTree × RawTree

-- what a borrowed scalar lends
abbrev pub ref_part : ScalarRef → Part
ref_part x = (ref_type x, ref_raw x)

-- what a scalar holds
abbrev pub scalar_part : Scalar → Part
scalar_part x = (scalar_type x, scalar_raw x)

-- what a pair of borrowed scalars lends, and what a pair of scalars holds: a key and a value
abbrev pub ref_entry : ScalarRef × ScalarRef → Part × Part
ref_entry e = (ref_part e.0, ref_part e.1)

abbrev pub scalar_entry : Scalar × Scalar → Part × Part
scalar_entry e = (scalar_part e.0, scalar_part e.1)

-- the raw value is valid for the type
abbrev pub IsValidPart : Part → Type 0
IsValidPart p = Valid p.0 p.1

-- a key and a value are valid for their types
abbrev pub AreValidParts : Part × Part → Type 0
AreValidParts e = IsValidPart e.0 × IsValidPart e.1

abbrev pub AreValid : Scalar × Scalar → Type 0
AreValid e = IsValid e.0 × IsValid e.1

-- the type is flat: its values take no memory
abbrev pub IsFlatPart : Part → Type 0
IsFlatPart p = IsFlat p.0

-- the types of a key and a value are flat
abbrev pub AreFlatParts : Part × Part → Type 0
AreFlatParts e = IsFlatPart e.0 × IsFlatPart e.1

-- a copy of the part takes no memory: its type is flat, and it is valid
abbrev pub NeedsNoMemory : Part → Type 0
NeedsNoMemory p = IsFlatPart p × IsValidPart p

-- copies of a key and a value take no memory
abbrev pub NeedNoMemory : Part × Part → Type 0
NeedNoMemory e = NeedsNoMemory e.0 × NeedsNoMemory e.1

-- the values that a tree holds, as a list
abbrev pub listed_raws : RawTrees → List RawTree
listed_raws no_raws = []
listed_raws (raw_then v vs) = v ∷ listed_raws vs

-- the values of a list, a struct, a map or a map's entry, in order; other raw values have none
abbrev pub parts_of : RawTree → List RawTree
parts_of (raw_tuple vs) = listed_raws vs
parts_of _ = []

-- the value at a place; a null past the end
abbrev pub part_or_null : RawTree → ℕ → RawTree
part_or_null v place = raw_or_absent (slice_get (parts_of v) place)

-- an entry of a map with these types
abbrev pub entry_of : MapParts → RawTree → Part × Part
entry_of m v = ((m.key, part_or_null v 0), (m.value, part_or_null v 1))

-- the parts of a value, each with the type that the value's type holds for it; there are none if it holds no such type
abbrev pub parts_by : {X Y : Type 0} → (X → RawTree → Y) → Option X → RawTree → List Y
parts_by part None v = []
parts_by part (Some x) v = map (part x) (parts_of v)

-- the elements of a list, of fixed size or not, in order
abbrev pub elements_of : Part → List Part
elements_of p = parts_by (λ e w. (e, w)) (element_in p.0) p.1

-- the entries of a map, in order: each a key, which is the first value of its tuple, and a value, which is the second
abbrev pub entries_of : Part → List (Part × Part)
entries_of p = parts_by entry_of (map_in p.0) p.1

-- whether the raw value is null, or the value of a list, a struct or a map
abbrev pub is_null_or_tuple : RawTree → Bool
is_null_or_tuple absent = true
is_null_or_tuple (raw_tuple vs) = true
is_null_or_tuple _ = false

-- None for a null, and else x
abbrev pub unless_null : {X : Type 0} → RawTree → X → Option X
unless_null v x = if is_absent v then None else Some x
