-- The keys of columns that are sorted by options, and of rows of several columns.
use Rattle.std.specs.Prelude.{ℕ, Bool, true, false, List, [], ◌∷◌, ◌++◌, if◌then◌else◌}
use Rattle.std.specs.Ordering.{ordering_reverse, ordering_then}
use Rattle.std.specs.declared.cmp.Ordering.{Ordering}
use Rattle.std.specs.declared.cmp.Ordering.TheVariants.{Less, Equal, Greater}
use Rattle.vortex_value.specs.Values.Content.{Content, null}
use Rattle.vortex_row.specs.ContentOrder.{content_cmp}
use Rattle.vortex_row.specs.Keys.{key, inverted}
use Rattle.vortex_row.specs.declared.options.SortOptions.{SortOptions}

-- the key of a null in a column: below, or above, the first byte of each other key, inverted or not
abbrev pub null_byte : Bool → ℕ
null_byte true = 1
null_byte false = 255

-- the key of a content in a column
abbrev pub key_with : SortOptions → Content → List ℕ
key_with o null = null_byte o.nulls_first ∷ []
key_with o c = inverted o.descending (key c)

-- where the order of two contents stands in a column, if r is their own: nulls stand at the end that is asked for, and
-- the order of others is reversed if greater ones come first
abbrev pub in_column : SortOptions → Content → Content → Ordering → Ordering
in_column o null null r = Equal
in_column o null d r = if o.nulls_first then Less else Greater
in_column o c null r = if o.nulls_first then Greater else Less
in_column o c d r = if o.descending then ordering_reverse r else r

-- the order of two contents in a column
abbrev pub column_cmp : SortOptions → Content → Content → Ordering
column_cmp o c d = in_column o c d (content_cmp c d)

-- the key of a row: those of its columns, one after the other
abbrev pub row_key : List SortOptions → List Content → List ℕ
row_key (o ∷ os) (c ∷ cs) = key_with o c ++ row_key os cs
row_key _ _ = []

-- the order of two rows: the first column that is not Equal decides
abbrev pub row_cmp : List SortOptions → List Content → List Content → Ordering
row_cmp (o ∷ os) (c ∷ cs) (d ∷ ds) = ordering_then (column_cmp o c d) (row_cmp os cs ds)
row_cmp _ _ _ = Equal
