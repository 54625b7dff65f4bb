-- Bounds that were cut: they are values of the type, and only long ones and those of logical types take memory.
use Rattle.std.proofs.Common.{◌≡◌, ◌⊎◌, inl, inr, ℕ, ◌<◌, List, Contains, Option, Some, None, IfSome, slice_get, arith, refl, subst, sym}
use Rattle.arrow_columns.specs.Checked.{AreRowsOf}
use Rattle.arrow_columns.specs.Columns.{kind_in}
use Rattle.arrow_columns.specs.declared.columns.Column.{Column}
use Rattle.arrow_columns.specs.declared.tested_rows.Rows.{Rows}
use Rattle.arrow_columns.specs.declared.tested_rows.Rows.TheVariants.{Booleans, Bytes, Integers, Nulls, Strings, Values}
use Rattle.std.specs.Prelude.{Result, Ok, Err, IfErr, IsSomeAnd}
use Rattle.column_cells.specs.Contents.{IsLongContent, TakesMemory, contents_of_column, contents_of_rows}
use Rattle.vortex_dtype.specs.declared.error.VortexError.{VortexError}
use Rattle.column_statistics.proofs.ContentLaws.{contains_got}
use Rattle.vortex_dtype.specs.TypeTree.{TypeTree, binary_type, utf8_type}
use Rattle.vortex_value.specs.Values.Content.{Content, content}
use Rattle.vortex_value.specs.Values.RawTree.{RawTree, raw_bytes, raw_text}
use Rattle.vortex_value.specs.Values.Scalars.{IsValid, scalar_content, scalar_raw, scalar_type}
use Rattle.vortex_statistics.specs.Truncating.{AreTruncated, IsLong, IsTruncatedLower, IsTruncatedUpper, LongAt, LowerAt, UpperAt}
use Rattle.vortex_statistics.specs.declared.column_statistics.Bound.{Bound}
use Rattle.vortex_statistics.specs.declared.column_statistics.ColumnStatistics.{ColumnStatistics}
use Rattle.column_statistics.specs.Cells.{HasBoundsIn, IsBoundIn}
use Rattle.column_statistics.specs.Extremes.{AreWholeOf, IsAmong}
use Rattle.column_statistics.specs.Errors.{HasLong, IsLogicalAt, TakeMemory}
use Rattle.vortex_dtype.specs.declared.buffer.TheConstants.{INLINE_BYTES}

-- ---- types

lower_typed : (t : TypeTree) (raw : RawTree) (n : ℕ) (b c : Bound) → scalar_type b.value ≡ t → IsValid b.value → LowerAt t raw n b c → IsBoundIn t c
lower_typed (utf8_type k) (raw_text bs) n b c e v h = record { typed = h.bound.bound.made.typed; valid = h.bound.bound.valid }
lower_typed (binary_type k) (raw_bytes bs) n b c e v h = record { typed = h.bound.bound.made.typed; valid = h.bound.bound.valid }
lower_typed t raw n b c e v h = subst (IsBoundIn t) (sym h) (record { typed = e; valid = v })

upper_typed : (t : TypeTree) (raw : RawTree) (n : ℕ) (b : Bound) (c : Option Bound) → scalar_type b.value ≡ t → IsValid b.value → UpperAt t raw n b c → IfSome c (IsBoundIn t)
upper_typed (utf8_type k) (raw_text bs) n b None e v h = tt
upper_typed (utf8_type k) (raw_text bs) n b (Some c) e v h = record { typed = h.bound.bound.made.typed; valid = h.bound.bound.valid }
upper_typed (binary_type k) (raw_bytes bs) n b None e v h = tt
upper_typed (binary_type k) (raw_bytes bs) n b (Some c) e v h = record { typed = h.bound.bound.made.typed; valid = h.bound.bound.valid }
upper_typed t raw n b c e v h = subst (λ o. IfSome o (IsBoundIn t)) (sym h) (record { typed = e; valid = v })

cut_lower : (t : TypeTree) (n : ℕ) (b c : Option Bound) → IfSome b (IsBoundIn t) → IsTruncatedLower n b c → IfSome c (IsBoundIn t)
cut_lower t n None c i h = subst (λ o. IfSome o (IsBoundIn t)) (sym h) tt
cut_lower t n (Some b) None i h = absurd h
cut_lower t n (Some b) (Some c) i h = subst (λ u. IsBoundIn u c) i.typed (lower_typed (scalar_type b.value) (scalar_raw b.value) n b c refl i.valid h)

cut_upper : (t : TypeTree) (n : ℕ) (b c : Option Bound) → IfSome b (IsBoundIn t) → IsTruncatedUpper n b c → IfSome c (IsBoundIn t)
cut_upper t n None c i h = subst (λ o. IfSome o (IsBoundIn t)) (sym h) tt
cut_upper t n (Some b) c i h = subst (λ u. IfSome c (IsBoundIn u)) i.typed (upper_typed (scalar_type b.value) (scalar_raw b.value) n b c refl i.valid h)

pub cut_typed : (t : TypeTree) (n : ℕ) (s r : ColumnStatistics) → HasBoundsIn t s → AreTruncated n s r → HasBoundsIn t r
cut_typed t n s r h k = record {
  lower = cut_lower t n s.lower r.lower h.lower k.lower;
  upper = cut_upper t n s.upper r.upper h.upper k.upper;
}

-- ---- lengths

long_content : (t : TypeTree) (raw : RawTree) (n : ℕ) → INLINE_BYTES < n → LongAt t raw n → IsLongContent (content raw)
long_content (utf8_type k) (raw_text bs) n l h = omega arith
long_content (binary_type k) (raw_bytes bs) n l h = omega arith
long_content t raw n l h = absurd h

long_in : (contents : List Content) (n : ℕ) (b : Option Bound) → IfSome b (IsAmong contents) → INLINE_BYTES < n → IsLong n b → HasLong contents
long_in contents n None i l h = absurd h
long_in contents n (Some b) i l h = record { content = scalar_content b.value; among = i; long = long_content (scalar_type b.value) (scalar_raw b.value) n l h }

pub cut_long : (t : TypeTree) (contents : List Content) (n : ℕ) (s : ColumnStatistics) → AreWholeOf t contents s → INLINE_BYTES < n → (IsLong n s.lower ⊎ IsLong n s.upper) → HasLong contents
cut_long t contents n s h l (inl k) = long_in contents n s.lower h.lower l k
cut_long t contents n s h l (inr k) = long_in contents n s.upper h.upper l k

-- ---- memory

-- rows take memory of their own for a long content, or as those of a logical type
pub takes_memory : (column : Column) (rows : Rows) → AreRowsOf column rows → contents_of_rows rows ≡ contents_of_column column → TakeMemory rows → HasLong (contents_of_column column) ⊎ IsLogicalAt (kind_in column)
takes_memory column (Values rows) is e h = inr (subst IsLogicalAt (sym is.0) tt)
takes_memory column (Integers rows) is e h = inl (subst HasLong e h)
takes_memory column (Booleans rows) is e h = inl (subst HasLong e h)
takes_memory column (Strings rows) is e h = inl (subst HasLong e h)
takes_memory column (Bytes rows) is e h = inl (subst HasLong e h)
takes_memory column (Nulls count) is e h = inl (subst HasLong e h)

-- and so does a content of a row
pub takes_at : (rows : Rows) (row : ℕ) (content : Content) → slice_get (contents_of_rows rows) row ≡ Some content → IsSomeAnd (slice_get (contents_of_rows rows) row) (TakesMemory rows) → TakeMemory rows
takes_at rows row content e h = by_rows rows (contains_got (contents_of_rows rows) row content e) (subst (λ o. IsSomeAnd o (TakesMemory rows)) e h)
  where
    by_rows : (rows : Rows) → Contains (contents_of_rows rows) content → TakesMemory rows content → TakeMemory rows
    by_rows (Values r) i l = tt
    by_rows (Integers r) i l = record { content = content; among = i; long = l }
    by_rows (Booleans r) i l = record { content = content; among = i; long = l }
    by_rows (Strings r) i l = record { content = content; among = i; long = l }
    by_rows (Bytes r) i l = record { content = content; among = i; long = l }
    by_rows (Nulls count) i l = record { content = content; among = i; long = l }

pub refused_with : {X : Type 0} (r : Result X VortexError) (P : Type 0) → P → IfErr r (λ _. P)
refused_with (Ok x) P h = tt
refused_with (Err e) P h = h
