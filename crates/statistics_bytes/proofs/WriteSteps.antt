-- What is appended of an encoding.
use Rattle.std.proofs.Common.{◌≡◌, ◌<◌, ◌^◌, [], ◌∷◌, ◌++◌, IfSome, OnOk, Ok, Err, Result, ap₂, ◌∙◌}
use Rattle.std.proofs.lemmas.List.{append-nil}
use Rattle.vortex_value.specs.Values.Content.{Content}
use Rattle.vortex_row.specs.Columns.{key_with, row_key}
use Rattle.vortex_row.specs.Keys.{key}
use Rattle.statistics_bytes.specs.Encoding.{IsHeldBound, IsHeldKnown}
use Rattle.statistics_bytes.specs.EncodingSteps.{ascending}
use Rattle.vortex_statistics.specs.Statistics.{Known}
use Rattle.vortex_statistics.specs.declared.error.StatisticsError.{StatisticsError}
use Rattle.statistics_bytes.proofs.KeyBounds.{key-ascending}

-- the row of two columns has the keys of both
pub two_keys : (c d : Content) → row_key (ascending ∷ ascending ∷ []) (c ∷ d ∷ []) ≡ key c ++ key d
two_keys c d = ap₂ (λ xs ys. xs ++ ys) (key-ascending c) (append-nil (key_with ascending d) ∙ key-ascending d)

pub ruleset keys = (key-ascending, two_keys)

-- the parts of what was written
pub encoding_held : (r : Result (Unit {0}) StatisticsError) (s : Known) → s.row_count < 2 ^ 64 → IfSome s.null_count (λ n. n < 2 ^ 64) → OnOk r (IsHeldBound s.lower) → OnOk r (IsHeldBound s.upper) → OnOk r (IsHeldKnown s)
encoding_held (Ok u) s rows nulls lower upper = record { rows = rows; nulls = nulls; lower = lower; upper = upper }
encoding_held (Err e) s rows nulls lower upper = tt
