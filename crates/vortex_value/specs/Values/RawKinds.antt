-- Which variant of raw value a tree is, and which values take no memory.
use Rattle.vortex_value.specs.Values.RawTree.{RawTree, absent, raw_bool, raw_integer, raw_text, raw_bytes, raw_tuple, raw_union, raw_variant}

-- a truth value
abbrev pub IsBoolValue : RawTree → Type 0
IsBoolValue (raw_bool b) = Unit {0}
IsBoolValue _ = ⊥

-- an integer
abbrev pub IsIntegerValue : RawTree → Type 0
IsIntegerValue (raw_integer k z) = Unit {0}
IsIntegerValue _ = ⊥

-- a string
abbrev pub IsTextValue : RawTree → Type 0
IsTextValue (raw_text bs) = Unit {0}
IsTextValue _ = ⊥

-- bytes
abbrev pub IsBytesValue : RawTree → Type 0
IsBytesValue (raw_bytes bs) = Unit {0}
IsBytesValue _ = ⊥

-- the parts of a list, a struct or a map
abbrev pub IsTupleValue : RawTree → Type 0
IsTupleValue (raw_tuple vs) = Unit {0}
IsTupleValue _ = ⊥

-- a union's id and child
abbrev pub IsUnionValue : RawTree → Type 0
IsUnionValue (raw_union id v) = Unit {0}
IsUnionValue _ = ⊥

-- a scalar with its type
abbrev pub IsVariantValue : RawTree → Type 0
IsVariantValue (raw_variant t v) = Unit {0}
IsVariantValue _ = ⊥

-- no value, a truth value or an integer: what takes no memory
abbrev pub TakesNoMemory : RawTree → Type 0
TakesNoMemory absent = Unit {0}
TakesNoMemory (raw_bool b) = Unit {0}
TakesNoMemory (raw_integer k z) = Unit {0}
TakesNoMemory _ = ⊥
