-- What is told of a record that is refused, and which records are.
use Rattle.std.proofs.Common.{◌≡◌, ◌&&◌, ◌⊎◌, inl, inr, ℕ, suc, List, [], ◌∷◌, Bool, true, false, not, Option, None, Some, MatchBool, is_some, refl, sym, subst}
use Rattle.csv_records.specs.Rows.{Field, rows_of}
use Rattle.record_rows.specs.Cells.{Means}
use Rattle.record_rows.specs.Readings.{Reading, is_null_field}
use Rattle.record_rows.specs.Rows.{HasFirstError, IsFirstError, IsUntaken, Refuses, fitted}
use Rattle.record_rows.specs.declared.errors.RowReadError.{RowReadError}
use Rattle.record_rows.specs.declared.errors.RowReadError.TheVariants as row_faults
use Rattle.record_rows.specs.declared.schema.ColumnType.{ColumnType}
use Rattle.record_rows.specs.declared.schema.Schema.{Schema}
use Rattle.vortex_cells.specs.Cells.{Cell}
use Rattle.vortex_dtype.specs.declared.nullability.Nullability.{Nullability}
use Rattle.vortex_dtype.specs.declared.nullability.Nullability.TheVariants.{NonNullable, Nullable}
use Rattle.vortex_value.specs.Values.Content.{Content, null}
use Rattle.zone_index.specs.Errors.{IfRecordRefused, TellsRecord}
use Rattle.record_search.specs.Contents.{cell_before, cells_of, field_content, only_row, or_null, word_content}
use Rattle.record_search.specs.Named.{AgreeAsRows}
use Rattle.record_search.specs.Refused.{RefusesRecord, fault_at_place}
use Rattle.record_search.specs.Searched.{has_fields, has_row, is_refused, row_under}
use Rattle.record_search.proofs.RowLaws.{WordsSay, none_word}

pub row_refused : (s : Schema) (place : ℕ) (line : List ℕ) (f : RowReadError) → Refuses s.delimiter.byte s.reading s.columns.items line f → IfRecordRefused (TellsRecord (RefusesRecord s) place line) (fault_at_place place f)
row_refused s place line row_faults.Memory h = tt
row_refused s place line (row_faults.Word column word) h = record { begins = refl; cause = h }
row_refused s place line row_faults.FieldCount h = record { begins = refl; cause = h }
row_refused s place line row_faults.LoneReturn h = record { begins = refl; cause = h }

-- ---- a record with a fault has no row

strict_none : (l : Bool) (n : Nullability) → (l ≡ false) ⊎ (n ≡ NonNullable) → or_null l n None ≡ None
strict_none false Nullable h = refl
strict_none false NonNullable h = refl
strict_none true NonNullable h = refl
strict_none true Nullable (inl e) = absurd cc
strict_none true Nullable (inr e) = absurd cc

null_or_none : WordsSay → (l : Reading) (c : ColumnType) (f : Field) (b : Bool) → is_null_field l c.nullability f ≡ b → IsUntaken l c f → field_content l c f ≡ None
null_or_none say l c f true e h = absurd (h.0 null (subst (λ (b : Bool). MatchBool b (null ≡ null) (Means c.kind f.text null)) (sym e) refl))
null_or_none say l c f false e h = rw (e, none_word say l c f (word_content c.kind f.text) refl e h.0) (strict_none l.is_lenient c.nullability h.1)

before_none : (c : ColumnType) (o : Option Content) (cells : Option (List Cell)) → cells ≡ None → cell_before c o cells ≡ None
before_none c (Some x) cells e = rw e refl
before_none c None cells e = refl

cells_none : WordsSay → (l : Reading) (k : ℕ) (cs : List ColumnType) (fs : List Field) (fault : RowReadError) → IsFirstError l k cs fs [] fault → cells_of l cs fs ≡ None
cells_none say l k [] [] fault h = absurd h
cells_none say l k [] (f ∷ fs) fault h = refl
cells_none say l k (c ∷ cs) [] fault h = refl
cells_none say l k (c ∷ cs) (f ∷ fs) fault (inl p) = rw (null_or_none say l c f (is_null_field l c.nullability f) refl p.1) refl
cells_none say l k (c ∷ cs) (f ∷ fs) fault (inr p) = before_none c (field_content l c f) (cells_of l cs fs) (cells_none say l (suc k) cs fs fault p.1)

row_none : WordsSay → (l : Reading) (cs : List ColumnType) (fs : List Field) (others : List (List Field)) (fault : RowReadError) → IsFirstError l 0 cs (fitted l.is_lenient cs fs) others fault → only_row l cs (fs ∷ others) ≡ None
row_none say l cs fs [] fault h = cells_none say l 0 cs (fitted l.is_lenient cs fs) fault h
row_none say l cs fs (next ∷ others) fault h = refl

rows_refused : WordsSay → (l : Reading) (cs : List ColumnType) (rows : List (List Field)) (fault : RowReadError) → HasFirstError l cs rows fault → (has_fields rows && not (is_some (only_row l cs rows))) ≡ true
rows_refused say l cs [] fault h = absurd h
rows_refused say l cs (fields ∷ others) fault h = rw (row_none say l cs fields others fault h) refl

-- so it is refused
pub refused_right : WordsSay → (s : Schema) (place : ℕ) (line : List ℕ) (f : RowReadError) → Refuses s.delimiter.byte s.reading s.columns.items line f → IfRecordRefused (λ _. is_refused s line ≡ true) (fault_at_place place f)
refused_right say s place line row_faults.Memory h = tt
refused_right say s place line (row_faults.Word column word) h = rows_refused say s.reading s.columns.items (rows_of s.delimiter.byte line) (row_faults.Word column word) h
refused_right say s place line row_faults.FieldCount h = rows_refused say s.reading s.columns.items (rows_of s.delimiter.byte line) row_faults.FieldCount h
refused_right say s place line row_faults.LoneReturn h = rows_refused say s.reading s.columns.items (rows_of s.delimiter.byte line) row_faults.LoneReturn h

-- ---- a record with a row, or without fields, is not

and_false : (b : Bool) → (b && false) ≡ false
and_false true = refl
and_false false = refl

row_passes : (rows : List (List Field)) (o : Option (List Cell)) (row : List Cell) → o ≡ Some row → (has_fields rows && not (is_some o)) ≡ false
row_passes rows o row e = rw e (and_false (has_fields rows))

pub passed_row : (s : Schema) (line : List ℕ) (row : List Cell) → row_under s line ≡ Some row → is_refused s line ≡ false
passed_row s line row e = row_passes (rows_of s.delimiter.byte line) (row_under s line) row e

-- a record that has a row is not refused
pub passed_has : (s : Schema) (line : List ℕ) → has_row s line ≡ true → is_refused s line ≡ false
passed_has s line has = by_row (row_under s line) refl has
  where
    by_row : (o : Option (List Cell)) → row_under s line ≡ o → is_some o ≡ true → is_refused s line ≡ false
    by_row None e t = absurd cc
    by_row (Some row) e t = passed_row s line row e

pub passed_none : (s : Schema) (line : List ℕ) → rows_of s.delimiter.byte line ≡ [] → is_refused s line ≡ false
passed_none s line e = rw e refl

agrees_some : (wanted : List Bool) (xs : List Cell) (o : Option (List Cell)) → AgreeAsRows wanted (Some xs) o → (row : List Cell) × (o ≡ Some row)
agrees_some wanted xs None h = absurd h
agrees_some wanted xs (Some ys) h = (ys, refl)

pub passed_agreeing : (s : Schema) (line : List ℕ) (wanted : List Bool) (xs : List Cell) → AgreeAsRows wanted (Some xs) (row_under s line) → is_refused s line ≡ false
passed_agreeing s line wanted xs h =
    let some = agrees_some wanted xs (row_under s line) h in
    passed_row s line some.0 some.1
