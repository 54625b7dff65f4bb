-- What a text says as a filter, whoever reads it.
use Rattle.std.specs.Prelude.{◌≡◌, ◌≢◌, ℕ, suc, max, ◌+◌, ◌*◌, ◌≤◌, List}
use Rattle.vortex_filter.specs.Formula.{Formula, both, either, negation}
use Rattle.filter_sql.specs.declared.error.ParseError.{ParseError}
use Rattle.filter_sql.specs.declared.error.ParseError.TheVariants.{OutOfMemory}
use Rattle.filter_sql.specs.ColumnNames.{ColumnTree}
use Rattle.filter_sql.specs.Parsing.{IsSqlWithin, RefusesSqlWithin}

-- A text is one filter at most, however deep it is read.
abbrev pub TextsSayOneFilter : Type 0
TextsSayOneFilter = (m n : ℕ) (columns : List ColumnTree) (sql : List ℕ) (f g : Formula) → IsSqlWithin m columns sql f → IsSqlWithin n columns sql g → f ≡ g

-- A text that is refused for a mistake is no filter.
abbrev pub RefusedTextsSayNone : Type 0
RefusedTextsSayNone = (n : ℕ) (columns : List ColumnTree) (sql : List ℕ) (e : ParseError) (f : Formula) → e ≢ OutOfMemory → RefusesSqlWithin n columns sql e → ¬ (IsSqlWithin n columns sql f)

-- how many connectives nest in a formula
abbrev pub height : Formula → ℕ
height (both f g) = suc (max (height f) (height g))
height (either f g) = suc (max (height f) (height g))
height (negation f) = suc (height f)
height _ = 0

-- In the filter that a text says at most twice as many connectives nest as connectives and parentheses in the text, and 5 more:
-- left operands nest too, and so does what a test stands for.
abbrev pub TextsNestSo : Type 0
TextsNestSo = (n : ℕ) (columns : List ColumnTree) (sql : List ℕ) (f : Formula) → IsSqlWithin n columns sql f → height f ≤ 2 * n + 5
