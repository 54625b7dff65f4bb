-- Names tell logical types apart.
use Rattle.std.specs.Prelude.{◌≡◌, ◌≢◌, []}
use Rattle.logical_scalars.specs.Stored.{IsOfLogicalType}
use Rattle.logical_types.specs.declared.logical.LogicalType.{LogicalType}
use Rattle.vortex_dtype.specs.TypeTree.{TypeTree}
use Rattle.vortex_statistics.specs.Statistics.{Known}
use Rattle.named_statistics.specs.Heads.{head_of}
use Rattle.named_statistics.specs.Named.{named_encoding}

-- A logical type has a name. Two logical types that have one name are one, whatever the zones of their timestamps are called.
pub record NamesTellTypes : Type 0 where
  pub named : (t : TypeTree) (l : LogicalType) → IsOfLogicalType t l → head_of t ≢ []
  pub apart : (t u : TypeTree) (l m : LogicalType) → IsOfLogicalType t l → IsOfLogicalType u m → head_of t ≡ head_of u → IsOfLogicalType u l

-- bytes that were written of statistics of two types have one name
abbrev pub StatisticsTellNames : Type 0
StatisticsTellNames = (t u : TypeTree) (s r : Known) → named_encoding t s ≡ named_encoding u r → head_of t ≡ head_of u
