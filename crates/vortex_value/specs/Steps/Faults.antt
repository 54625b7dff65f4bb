-- What the check of validity leaves behind: why a raw value is not valid, with the path or without.
use Rattle.std.specs.Prelude.{◌≡◌, ◌≢◌, ◌&&◌, List, [], Bool, true, false, Option, Some, reverse}
use Rattle.std.specs.Global.{Global}
use Rattle.std.specs.Option.{is_some}
use Rattle.vortex_dtype.specs.PTypes.{same_ptype}
use Rattle.vortex_dtype.specs.TypeTree.{TypeTree, bool_type, integer_type, utf8_type, binary_type}
use Rattle.vortex_pvalue.specs.Numbers.{in_range}
use Rattle.vortex_value.specs.Breaches.{Found, HasSteps, first}
use Rattle.vortex_value.specs.Values.RawTree.{RawTree, raw_bool, raw_integer, raw_text, raw_bytes}
use Rattle.vortex_value.specs.declared.validate.ValidityError.{ValidityError}
use Rattle.vortex_value.specs.declared.validate.ValidityError.TheVariants.{NoMemory, NoPath, First}
use Rattle.vortex_value.specs.declared.validate.Trace.{Trace}

-- the error is the first of these breaches, or there was no memory for the steps to it; or there is one, and no path is kept
abbrev pub Shows : Bool → ValidityError → List Found → Type 0
Shows kept NoMemory fs = HasSteps (first fs)
Shows kept NoPath fs = (kept ≡ false) × (fs ≢ [])
Shows kept (First steps breach) fs = first fs ≡ Some (reverse steps.items, breach)

-- a check with this memory for the path, or without a path, passes if there is no breach, and else leaves the first
abbrev pub Checks : Option Global → Bool → Trace → List Found → Type 0
Checks alloc true trace fs = (trace.alloc ≡ alloc) × (fs ≡ [])
Checks alloc false trace fs = Shows (is_some alloc) trace.fault fs

-- the error is not that no path is kept
abbrev pub HasPath : ValidityError → Type 0
HasPath NoPath = ⊥
HasPath _ = Unit {0}

-- whether the raw value has no parts and is of just this type
abbrev pub is_leaf : TypeTree → RawTree → Bool
is_leaf (bool_type n) (raw_bool b) = true
is_leaf (utf8_type n) (raw_text bs) = true
is_leaf (binary_type n) (raw_bytes bs) = true
is_leaf (integer_type k n) (raw_integer l z) = same_ptype l k && in_range k z
is_leaf _ _ = false
