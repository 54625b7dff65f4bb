-- Steps of reading the columns of a table.
use Rattle.std.proofs.Common.{◌≡◌, ℕ, ◌+◌, ◌<◌, ◌≤◌, ◌⊎◌, inl, inr, List, length, get_or, sym, subst, ◌∙◌, arith, Some, slice_get}
use Rattle.std.proofs.lemmas.Bool.{cases_lt}
use Rattle.std.proofs.lemmas.Option.{slice_get-get_or, same_Some}
use Rattle.arrow_columns.specs.declared.columns.Column.{Column}
use Rattle.column_cells.specs.Tables.{AreSoundTo, HasFirstError}

pub sound-none : (IsSoundAt : ℕ → Column → Type 0) (columns : List Column) → AreSoundTo IsSoundAt columns 0
sound-none IsSoundAt columns j column less got = absurd (omega arith)

got-is : (columns : List Column) (k : ℕ) (d other : Column) → k < length columns → slice_get columns k ≡ Some other → get_or columns k d ≡ other
got-is columns k d other here got = same_Some (get_or columns k d) other (sym (slice_get-get_or columns k d here) ∙ got)

-- one column more
pub sound-more : (IsSoundAt : ℕ → Column → Type 0) (columns : List Column) (k : ℕ) (d : Column) → k < length columns → AreSoundTo IsSoundAt columns k → IsSoundAt k (get_or columns k d) → AreSoundTo IsSoundAt columns (k + 1)
sound-more IsSoundAt columns k d here all one j other less got = by_place (cases_lt j k)
  where
    by_place : (j < k) ⊎ (k ≤ j) → IsSoundAt j other
    by_place (inl before) = all j other before got
    by_place (inr after) =
        let at : j ≡ k = omega arith in
        let found : get_or columns k d ≡ other = got-is columns k d other here (subst (λ n. slice_get columns n ≡ Some other) at got) in
        subst (λ c. IsSoundAt j c) found (subst (λ n. IsSoundAt n (get_or columns k d)) (sym at) one)

-- the error of a column is that of the table
pub first-error : (IsSoundAt IsErrorAt : ℕ → Column → Type 0) (columns : List Column) (k : ℕ) (d : Column) → k < length columns → AreSoundTo IsSoundAt columns k → IsErrorAt k (get_or columns k d) → HasFirstError IsSoundAt IsErrorAt columns
first-error IsSoundAt IsErrorAt columns k d here all h = (k, get_or columns k d, slice_get-get_or columns k d here, all, h)

pub ruleset shown = (sound-none)
