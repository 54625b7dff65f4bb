-- What the contracts of callers say of scalars with their keys.
use Rattle.std.specs.Prelude.{Bool}
use Rattle.std.specs.Ordering.{is_lt, is_some_and}
use Rattle.std.specs.declared.cmp.Ordering.{Ordering}
use Rattle.vortex_value.specs.Equality.{EqualContents}
use Rattle.vortex_value.specs.Values.Scalars.{scalar_content, scalar_order}
use Rattle.vortex_row.specs.ContentOrder.{content_cmp}
use Rattle.law_callers.specs.declared.keyed.Keyed.{Keyed}

-- the order of the contents
abbrev pub keyed_cmp : Keyed → Keyed → Ordering
keyed_cmp x y = content_cmp (scalar_content x.scalar) (scalar_content y.scalar)

-- whether the first is below the second by `partial_cmp`
abbrev pub is_below : Keyed → Keyed → Bool
is_below x y = is_some_and is_lt (scalar_order x.scalar y.scalar)

-- the content of the second equals that of the first
abbrev pub HasEqualContent : Keyed → Keyed → Type 0
HasEqualContent x y = EqualContents (scalar_content x.scalar) (scalar_content y.scalar)
