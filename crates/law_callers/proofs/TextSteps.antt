-- Why a text that is a filter is refused, and how deep its bytes nest.
use Rattle.std.proofs.Common.{◌≡◌, ℕ, suc, max, List, ap, ap₂, refl, subst, sym, ◌≤◌}
use Rattle.filter_encoding.specs.Encoding.{CanBeWritten}
use Rattle.filter_encoding.specs.Laws.{LowFiltersNest, height as encoded_height}
use Rattle.filter_sql.specs.ColumnNames.{ColumnTree}
use Rattle.filter_sql.specs.Parsing.{IsSql, RefusesSql, nesting}
use Rattle.filter_sql.specs.TextLaws.{RefusedTextsSayNone, TextsNestSo, TextsSayOneFilter, height}
use Rattle.filter_sql.specs.declared.error.ParseError.{ParseError}
use Rattle.filter_sql.specs.declared.error.ParseError.TheVariants.{BadText, Expected, NoColumn, NoLiteral, NumberTooLong, OutOfMemory, TooDeep, TypesDiffer}
use Rattle.vortex_dtype.specs.TypeTree.{TypeTree}
use Rattle.vortex_filter.specs.Formula.{Formula, both, comparison, constant, either, membership, negation, null_test, pattern_test, prefix_test, range}

-- only for want of memory
pub only_memory : RefusedTextsSayNone → (columns : List ColumnTree) (sql : List ℕ) (e : ParseError) (f : Formula) → RefusesSql columns sql e → IsSql columns sql f → e ≡ OutOfMemory
only_memory law columns sql OutOfMemory f h k = refl
only_memory law columns sql (Expected place what) f h k = absurd (law nesting columns sql (Expected place what) f (λ e. cc) h k)
only_memory law columns sql (NoColumn place) f h k = absurd (law nesting columns sql (NoColumn place) f (λ e. cc) h k)
only_memory law columns sql (TypesDiffer place) f h k = absurd (law nesting columns sql (TypesDiffer place) f (λ e. cc) h k)
only_memory law columns sql (NoLiteral place) f h k = absurd (law nesting columns sql (NoLiteral place) f (λ e. cc) h k)
only_memory law columns sql (NumberTooLong place) f h k = absurd (law nesting columns sql (NumberTooLong place) f (λ e. cc) h k)
only_memory law columns sql (BadText place) f h k = absurd (law nesting columns sql (BadText place) f (λ e. cc) h k)
only_memory law columns sql (TooDeep place) f h k = absurd (law nesting columns sql (TooDeep place) f (λ e. cc) h k)

-- both crates count the same
same_height : (f : Formula) → encoded_height f ≡ height f
same_height (constant t) = refl
same_height (comparison k op x) = refl
same_height (null_test k) = refl
same_height (membership k xs) = refl
same_height (range k x y) = refl
same_height (prefix_test k x) = refl
same_height (pattern_test k case parts) = refl
same_height (both f g) = ap₂ (λ (m n : ℕ). suc (max m n)) (same_height f) (same_height g)
same_height (either f g) = ap₂ (λ (m n : ℕ). suc (max m n)) (same_height f) (same_height g)
same_height (negation f) = ap suc (same_height f)

-- the filter that a text is can be written at this depth, if at any
pub encodable : TextsSayOneFilter → TextsNestSo → LowFiltersNest → (columns : List ColumnTree) (sql : List ℕ) (types : List TypeTree) (f g : Formula) (m : ℕ) → IsSql columns sql g → IsSql columns sql f
    → CanBeWritten m (record { types = types; filter = f }) → CanBeWritten 517 (record { types = types; filter = g })
encodable one so low columns sql types f g m read is can =
    let high : encoded_height f ≤ 517 = subst (λ (n : ℕ). n ≤ 517) (sym (same_height f)) (so nesting columns sql f is) in
    subst (λ (x : Formula). CanBeWritten 517 (record { types = types; filter = x })) (one nesting nesting columns sql f g is read) (low m 517 (record { types = types; filter = f }) can high)
