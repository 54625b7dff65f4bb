-- Statistics of columns of one type: as encodings, and merged.
use Rattle.std.proofs.Common.{◌∙◌, ◌⊎◌, inl, inr, List, ap, ◌≡◌, ℕ, ◌+◌, ◌<◌, ◌^◌, Bool, true, false, nat_lt, Option, Some, None, IfSome, Ordering, Less, Equal, Greater, arith, refl, subst, sym, if◌then◌else◌, option_map}
use Rattle.std.proofs.lemmas.Bool.Decides.{nat_tests}
use Rattle.arrow_columns.specs.Columns.{kind_in}
use Rattle.arrow_columns.specs.declared.columns.Column.{Column}
use Rattle.arrow_columns.specs.declared.kinds.Kind.{Kind}
use Rattle.arrow_columns.specs.declared.kinds.Kind.TheVariants.{Binary, Boolean, Integer, LargeBinary, LargeUtf8, Logical, Null, Utf8}
use Rattle.column_cells.specs.Types.{IsLogical, type_at, type_of_column, type_of_kind}
use Rattle.vortex_dtype.specs.TypeTree.{TypeTree}
use Rattle.vortex_value.specs.Equality.{HasNoTyped}
use Rattle.vortex_value.specs.Validity.{Valid}
use Rattle.vortex_value.specs.TypesWithin.{HasNoVariant}
use Rattle.vortex_value.specs.Values.Scalars.{scalar_raw, scalar_type}
use Rattle.vortex_value.proofs.OrderAgrees.{no_typed}
use Rattle.vortex_cells.specs.Cells.{Cell, cell_order, order_from_above}
use Rattle.statistics_bytes.specs.EncodingSteps.{HasNoVariantIn, HasNoVariants}
use Rattle.vortex_statistics.specs.Merging.{AreRightTogether, bound_of_both, bound_order, merged, outer_by, sum_of}
use Rattle.vortex_statistics.specs.Statistics.{HasValidBounds, IsValidBound, Known, KnownBound, known, known_bound, may_be_value}
use Rattle.vortex_statistics.specs.declared.column_statistics.Bound.{Bound}
use Rattle.vortex_statistics.specs.declared.column_statistics.ColumnStatistics.{ColumnStatistics}
use Rattle.arrow_columns.specs.declared.formats.Format.TheVariants as formats
use Rattle.column_items.specs.Numbers.{HasContentOf}
use Rattle.column_items.proofs.FormatTypes.{no_variant_in as no_variant_in_format}
use Rattle.named_statistics.specs.Named.{IsBadNamedEncoding, IsWrongAt, SaysNamedBound, named_encoding}
use Rattle.statistics_bytes.specs.Encoding.{AreOf, IsBoundOf, IsCellOf, IsHeldBound, IsHeldKnown}
use Rattle.vortex_statistics.specs.declared.error.StatisticsError.{StatisticsError}
use Rattle.vortex_statistics.specs.declared.error.StatisticsError.TheVariants.{BadBytes, HasVariant, OutOfMemory as Memory, TooManyRows}
use Rattle.column_statistics.specs.Errors.{IsColumnStatisticsError}
use Rattle.column_statistics.specs.Encodings.{HaveValues, IsEncodingAs, IsEncodingError, IsExtensionType, IsMergeError, IsMergedEncoding, IsPieceOf, IsReadError, fault_of_piece, read_fault}
use Rattle.column_statistics.specs.declared.errors.MergeError.{MergeError}
use Rattle.column_statistics.specs.declared.errors.ReadError.{ReadError}
use Rattle.column_statistics.specs.declared.errors.ReadError.TheVariants as read
use Rattle.column_statistics.specs.declared.errors.ColumnStatisticsError.{ColumnStatisticsError}
use Rattle.column_statistics.specs.declared.errors.ColumnStatisticsError.TheVariants.{OutOfMemory, Unreadable}
use Rattle.column_statistics.specs.Cells.{HasBoundsIn, IsBoundIn}

-- ---- types of columns

pub no_variant : (kind : Kind) → HasNoVariant (type_of_kind kind)
no_variant (Integer kind) = tt
no_variant Boolean = tt
no_variant Utf8 = tt
no_variant LargeUtf8 = tt
no_variant Binary = tt
no_variant LargeBinary = tt
no_variant Null = tt
no_variant (Logical format) = no_variant_in_format format

no_variant_at : (kind : Option Kind) → HasNoVariant (type_at kind)
no_variant_at None = tt
no_variant_at (Some kind) = no_variant kind

pub no_variant_in : (column : Column) → HasNoVariant (type_of_column column)
no_variant_in column = no_variant_at (kind_in column)

-- ---- statistics of a type

bound_without : (t : TypeTree) (b : Option Bound) → HasNoVariant t → IfSome b (IsBoundIn t) → HasNoVariantIn (option_map known_bound b)
bound_without t None n h = tt
bound_without t (Some b) n h =
    let ordered : HasNoVariant (scalar_type b.value) = subst HasNoVariant (sym h.typed) n in
    record { ordered = ordered; untyped = no_typed (scalar_type b.value) (scalar_raw b.value) ordered h.valid }

pub without_variants : (t : TypeTree) (s : ColumnStatistics) → HasNoVariant t → HasBoundsIn t s → HasNoVariants (known s)
without_variants t s n h = record {
  lower = bound_without t s.lower n h.lower;
  upper = bound_without t s.upper n h.upper;
}

bound_of_type : (t : TypeTree) (b : Option Bound) → HasNoVariant t → IfSome b (IsBoundIn t) → IsHeldBound (option_map known_bound b) → IsBoundOf t (option_map known_bound b)
bound_of_type t None n h k = tt
bound_of_type t (Some b) n h k = record {
  typed = h.typed;
  ordered = n;
  value = scalar_raw b.value;
  is_value = record { valid = subst (λ u. Valid u (scalar_raw b.value)) h.typed h.valid; held = k };
  is = refl;
}

pub are_of : (t : TypeTree) (s : ColumnStatistics) → HasNoVariant t → HasBoundsIn t s → IsHeldKnown (known s) → AreOf t (known s)
are_of t s n h k = record {
  rows = k.rows;
  nulls = k.nulls;
  lower = bound_of_type t s.lower n h.lower k.lower;
  upper = bound_of_type t s.upper n h.upper k.upper;
}

-- ---- of two pieces

-- the bound, if it is there, is such a cell
abbrev IsBoundWith : (Cell → Type 0) → Option KnownBound → Type 0
IsBoundWith P b = IfSome b (λ b. P b.value)

-- the bounds of both are such cells, if those of each are
module _ (P : Cell → Type 0) where
  outer_of : (o : Option Ordering) (a b : Option KnownBound) → IsBoundWith P a → IsBoundWith P b → IsBoundWith P (outer_by o a b)
  outer_of None a b h k = tt
  outer_of (Some Less) a b h k = h
  outer_of (Some Greater) a b h k = k
  outer_of (Some Equal) None b h k = tt
  outer_of (Some Equal) (Some a) None h k = tt
  outer_of (Some Equal) (Some a) (Some b) h k = h

  both_of : (o : Option Ordering) (p q : Bool) (a b : Option KnownBound) → IsBoundWith P a → IsBoundWith P b → IsBoundWith P (bound_of_both o p q a b)
  both_of o true true a b h k = outer_of o a b h k
  both_of o true false a b h k = h
  both_of o false true a b h k = k
  both_of o false false None b h k = k
  both_of o false false (Some a) b h k = h

  lower_of : (s u : Known) → IsBoundWith P s.lower → IsBoundWith P u.lower → IsBoundWith P ((merged s u).lower)
  lower_of s u h k = both_of (bound_order cell_order s.lower u.lower) (may_be_value s) (may_be_value u) s.lower u.lower h k

  upper_of : (s u : Known) → IsBoundWith P s.upper → IsBoundWith P u.upper → IsBoundWith P ((merged s u).upper)
  upper_of s u h k = both_of (bound_order order_from_above s.upper u.upper) (may_be_value s) (may_be_value u) s.upper u.upper h k

-- so the bounds of both are null or values of the kind, if those of each are
merged_values : (kind : Kind) (s u : Known) → HaveValues kind s → HaveValues kind u → HaveValues kind (merged s u)
merged_values kind s u h k = record {
  lower = lower_of (λ x. HasContentOf kind x.content) s u h.lower k.lower;
  upper = upper_of (λ x. HasContentOf kind x.content) s u h.upper k.upper;
}

module _ (t : TypeTree) where
  small_sum : (m n : Option ℕ) → IfSome (sum_of m n) (λ k. k < 2 ^ 64)
  small_sum None n = tt
  small_sum (Some m) None = tt
  small_sum (Some m) (Some n) = by_test (nat_lt (m + n) (2 ^ 64)) refl
    where
      by_test : (b : Bool) → nat_lt (m + n) (2 ^ 64) ≡ b → IfSome (if b then Some (m + n) else None) (λ k. k < 2 ^ 64)
      by_test true e = grind (arith, nat_tests)
      by_test false e = tt

  pub merged_of : (s u : Known) → AreOf t s → AreOf t u → s.row_count + u.row_count < 2 ^ 64 → AreOf t (merged s u)
  merged_of s u h k l = record {
    rows = l;
    nulls = small_sum s.null_count u.null_count;
    lower = lower_of (IsCellOf t) s u h.lower k.lower;
    upper = upper_of (IsCellOf t) s u h.upper k.upper;
  }

-- what is of a type has keys, if the type has
key_bound : (t : TypeTree) (b : Option KnownBound) → IsBoundOf t b → HasNoVariantIn b
key_bound t None h = tt
key_bound t (Some b) h = record {
  ordered = subst HasNoVariant (sym h.typed) h.ordered;
  untyped = subst HasNoTyped (sym h.is) (no_typed t h.value h.ordered h.is_value.valid);
}

pub keyed : (t : TypeTree) (s : Known) → AreOf t s → HasNoVariants s
keyed t s h = record { lower = key_bound t s.lower h.lower; upper = key_bound t s.upper h.upper }

-- ---- what a function below answered, in the words of the function above

pub encoding_fault : (column : Column) (fault : ColumnStatisticsError) → IsColumnStatisticsError column fault → IsEncodingError column fault
encoding_fault column OutOfMemory h = h.0
encoding_fault column (Unreadable fault) h = h

-- what was read of bytes, of a type that is this one
pub as_encoding : (t u : TypeTree) (bytes : List ℕ) (s : Known) → t ≡ u → AreOf t s → bytes ≡ named_encoding t s → IsEncodingAs u bytes s
as_encoding t u bytes s e h f = record { of_type = subst (λ v. AreOf v s) e h; is = f ∙ ap (λ v. named_encoding v s) e }

-- and the other way round
pub read_whole : (t u : TypeTree) (bytes : List ℕ) (s : Known) → t ≡ u → IsEncodingAs t bytes s → AreOf u s × (bytes ≡ named_encoding u s)
read_whole t u bytes s e h = (subst (λ v. AreOf v s) e h.of_type, h.is ∙ ap (λ v. named_encoding v s) e)

-- why bytes are not read, of a type that is this one, in which no variant stands
pub not_read : (t : TypeTree) (kind : Kind) (bytes : List ℕ) (e : StatisticsError) (told : ReadError) → t ≡ type_of_kind kind → told ≡ read_fault e → IsBadNamedEncoding t bytes e → IsReadError kind bytes told
not_read t kind bytes HasVariant told q f v = absurd (v.0 (subst HasNoVariant (sym q) (no_variant kind)))
not_read t kind bytes Memory told q f h = subst (IsReadError kind bytes) (sym f) (inr (subst (λ v. SaysNamedBound v bytes) q h.1))
not_read t kind bytes TooManyRows told q f h = absurd h
not_read t kind bytes (BadBytes place) told q f h = subst (IsReadError kind bytes) (sym f) (subst (λ v. IsWrongAt v bytes place) q h.1)

-- the type of a kind takes memory
pub logical_takes : (kind : Kind) → IsLogical kind → IsExtensionType (type_of_kind kind)
logical_takes (Logical formats.Float32) h = tt
logical_takes (Logical formats.Float64) h = tt
logical_takes (Logical formats.Date32) h = tt
logical_takes (Logical (formats.Time unit)) h = tt
logical_takes (Logical (formats.Timestamp unit is_zoned)) h = tt
logical_takes (Logical (formats.Decimal width precision scale)) h = tt
logical_takes _ h = absurd h

-- both pieces, which are encodings
pub merged_keyed : (t : TypeTree) (one other : List ℕ) (s u m : Known) → IsEncodingAs t one s → IsEncodingAs t other u → s.row_count + u.row_count < 2 ^ 64 → m ≡ merged s u → HasNoVariants m
merged_keyed t one other s u m h k l e = subst HasNoVariants (sym e) (keyed t (merged s u) (merged_of t s u h.of_type k.of_type l))

pub merged_encoding_of : (kind : Kind) (v : TypeTree) (one other bytes : List ℕ) (s u m : Known) → v ≡ type_of_kind kind → IsPieceOf kind one s → IsPieceOf kind other u → s.row_count + u.row_count < 2 ^ 64
    → m ≡ merged s u → AreRightTogether s u m → bytes ≡ named_encoding v m → IsMergedEncoding kind one other bytes
merged_encoding_of kind v one other bytes s u m q h k l e r f =
    let t : TypeTree = type_of_kind kind in
    record {
      first = s;
      second = u;
      is_first = h;
      is_second = k;
      together = subst (AreRightTogether s u) e r;
      both = record {
        is_encoding = record { of_type = merged_of t s u h.is_encoding.of_type k.is_encoding.of_type l; is = f ∙ ap (λ w. named_encoding w m) q ∙ ap (named_encoding t) e };
        values = merged_values kind s u h.values k.values;
      };
    }

pub first_wrong : (kind : Kind) (one other : List ℕ) (fault : ReadError) (told : MergeError) → told ≡ fault_of_piece 0 fault → IsReadError kind one fault → IsMergeError kind one other told
first_wrong kind one other fault told e h = subst (IsMergeError kind one other) (sym e) (by_fault fault h)
  where
    by_memory : IsExtensionType (type_of_kind kind) ⊎ SaysNamedBound (type_of_kind kind) one → IsMergeError kind one other (fault_of_piece 0 read.OutOfMemory)
    by_memory (inl k) = inl k
    by_memory (inr k) = inr (inl k)

    by_fault : (fault : ReadError) → IsReadError kind one fault → IsMergeError kind one other (fault_of_piece 0 fault)
    by_fault read.OutOfMemory k = by_memory k
    by_fault (read.BadBytes place) k = inl (refl, k)
    by_fault read.NotAValue k = inl (refl, k)

pub second_wrong : (kind : Kind) (one other : List ℕ) (s : Known) (fault : ReadError) (told : MergeError) → told ≡ fault_of_piece 1 fault → IsPieceOf kind one s → IsReadError kind other fault → IsMergeError kind one other told
second_wrong kind one other s fault told e f h = subst (IsMergeError kind one other) (sym e) (by_fault fault h)
  where
    by_memory : IsExtensionType (type_of_kind kind) ⊎ SaysNamedBound (type_of_kind kind) other → IsMergeError kind one other (fault_of_piece 1 read.OutOfMemory)
    by_memory (inl k) = inl k
    by_memory (inr k) = inr (inr (inl ((s, f), k)))

    by_fault : (fault : ReadError) → IsReadError kind other fault → IsMergeError kind one other (fault_of_piece 1 fault)
    by_fault read.OutOfMemory k = by_memory k
    by_fault (read.BadBytes place) k = inr (refl, (s, f), k)
    by_fault read.NotAValue k = inr (refl, (s, f), k)

-- the bounds are values of the type
bound_in : (t : TypeTree) (b : Option Bound) → IsBoundOf t (option_map known_bound b) → IsValidBound b → IfSome b (IsBoundIn t)
bound_in t None of valid = tt
bound_in t (Some b) of valid = record { typed = of.typed; valid = valid }

pub bounds_in : (t : TypeTree) (s : ColumnStatistics) → AreOf t (known s) → HasValidBounds s → HasBoundsIn t s
bounds_in t s of valid = record { lower = bound_in t s.lower of.lower valid.lower; upper = bound_in t s.upper of.upper valid.upper }

pub ruleset shown = (without_variants, no_variant, no_variant_in, encoding_fault, logical_takes)
