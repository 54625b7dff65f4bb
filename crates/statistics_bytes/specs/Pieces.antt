-- Pieces: what is known of one column in one zone, in bytes.
use Rattle.std.specs.Prelude.{◌≢◌, ◌≡◌, ℕ, ◌-◌, ◌^◌, List, [], ◌∷◌, None}
use Rattle.vortex_dtype.specs.TypeTree.{TypeTree}
use Rattle.vortex_statistics.specs.Statistics.{Known}
use Rattle.vortex_statistics.specs.declared.error.StatisticsError.{StatisticsError}
use Rattle.statistics_bytes.specs.Encoding.{IsEncodingAs}
use Rattle.statistics_bytes.specs.EncodingAnswers.{IsBadEncoding}

-- the statistics of a column of which nothing is known: there may be rows, and any cells in them
abbrev pub nothing_known : Known
nothing_known = record { row_count = 2 ^ 64 - 1; null_count = None; lower = None; upper = None }

-- what a piece says of a column of the type: nothing if it is empty, and else the statistics whose encoding it is
abbrev pub Says : TypeTree → List ℕ → Known → Type 0
Says t [] s = s ≡ nothing_known
Says t (b ∷ bytes) s = IsEncodingAs t (b ∷ bytes) s

-- why it says nothing of a column of the type: it has bytes, which are no encoding
abbrev pub IsBadPiece : TypeTree → List ℕ → StatisticsError → Type 0
IsBadPiece t piece e = (piece ≢ []) × IsBadEncoding t piece e
