-- The bytes have one name, and so the two types are of one logical type.
use Rattle.std.proofs.Common.{◌≡◌, ◌∙◌, ℕ, List, Err, Ok, Result, sym}
use Rattle.std.specs.Prelude.{IfOk}
use Rattle.logical_scalars.specs.Stored.{IsOfLogicalType}
use Rattle.logical_types.specs.declared.logical.LogicalType.{LogicalType}
use Rattle.named_statistics.specs.Laws.{NamesTellTypes, StatisticsTellNames}
use Rattle.named_statistics.specs.Named.{named_encoding}
use Rattle.vortex_dtype.specs.TypeOf.{type_of}
use Rattle.vortex_dtype.specs.TypeTree.{TypeTree}
use Rattle.vortex_statistics.specs.Statistics.{Known, known}
use Rattle.vortex_statistics.specs.declared.column_statistics.ColumnStatistics.{ColumnStatistics}
use Rattle.vortex_statistics.specs.declared.error.StatisticsError.{StatisticsError}
use Rattle.statistics_bytes.specs.Encoding.{AreOf}
use Rattle.law_callers.proofs.statistics_names.read_of_type.Goals as goal

by-name : NamesTellTypes → StatisticsTellNames → (u : TypeTree) (bytes : List ℕ) (r : Result ColumnStatistics StatisticsError) → IfOk r (λ s. AreOf u (known s) × (bytes ≡ named_encoding u (known s)))
    → IfOk r (λ _. (t : TypeTree) (s : Known) (written read : LogicalType) → IsOfLogicalType t written → IsOfLogicalType u read → bytes ≡ named_encoding t s → IsOfLogicalType u written)
by-name names apart u bytes (Ok found) h = λ t s written read of_written of_read is. names.apart t u written read of_written of_read (apart t u s (known found) (sym is ∙ h.1))
by-name names apart u bytes (Err e) h = tt

pub returns : goal.returns
returns c =
    by-name c.names_tell_types.ensures c.statistics_tell_names.ensures (type_of c.args.dtype.now) c.args.bytes.now c.decode_named_statistics.result c.decode_named_statistics.ensures.read
