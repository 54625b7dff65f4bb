-- The extremes of values of a logical type, as extremes of contents.
use Rattle.std.proofs.Common.{◌≡◌, ◌∙◌, ℕ, ℤ, ◌<◌, ◌≤◌, ◌≤ℤ◌, ◌^◌, Bool, true, false, FitsSigned, List, map, MatchOption, Option, Some, None, arith, ap, if◌then◌else◌, nat_le, refl, subst, sym, unsigned_abs}
use mir.Syntax.{w128}
use Rattle.std.proofs.Math.Nat.{pow-le-pow_right}
use Rattle.std.proofs.lemmas.Cmp.{int_cmp_total, tied_itself}
use Rattle.std.proofs.lemmas.Int.{fits_signed_from_abs}
use Rattle.std.specs.Cmp.Lexicographic.{slice_cmp}
use Rattle.std.specs.List.{All, Contains}
use Rattle.std.specs.Option.{IfSome, IsNone}
use Rattle.std.specs.Ordering.{int_cmp, nat_cmp}
use Rattle.arrow_columns.specs.Columns.{item_cells, logical_cells}
use Rattle.arrow_columns.specs.Formats.{IsSound, IsValueOf, greatest_precision, items_of}
use Rattle.arrow_columns.specs.Statistics.{AreStatisticsOf, IsGreatestOf, IsLeastOf}
use Rattle.arrow_columns.specs.declared.columns.Column.{Column}
use Rattle.arrow_columns.specs.declared.formats.DecimalWidth.{DecimalWidth}
use Rattle.arrow_columns.specs.declared.formats.DecimalWidth.TheVariants.{Bits32, Bits64, Bits128}
use Rattle.arrow_columns.specs.declared.formats.Format.{Format}
use Rattle.arrow_columns.specs.declared.formats.Format.TheVariants.{Float32, Float64, Date32, Time, Timestamp, Decimal}
use Rattle.arrow_columns.specs.declared.kinds.ItemKind.{ItemKind}
use Rattle.arrow_columns.specs.declared.statistics.IntegerExtremes.{IntegerExtremes}
use Rattle.arrow_columns.specs.declared.statistics.IntegerStatistics.{IntegerStatistics}
use Rattle.column_cells.specs.Contents.{content_or_null, stored_content}
use Rattle.column_cells.specs.Types.{type_of_format}
use Rattle.logical_types.specs.Storing.{decimal_bytes}
use Rattle.vortex_cells.specs.Cells.{is_null_content}
use Rattle.vortex_value.specs.Order.{order}
use Rattle.vortex_value.specs.Values.Content.{string, whole}
use Rattle.column_statistics.specs.Extremes.{AreSummaryOf, IsExtreme, IsScalarOf, SaysUpTo, order_down}
use Rattle.column_statistics.specs.declared.extremes.Extremes.{Extremes}
use Rattle.column_statistics.proofs.CompleteLaws.{extreme_scalar}
use Rattle.column_statistics.proofs.ContentLaws.{all_null, extreme_of, nulls_of, value_says}
use Rattle.column_statistics.proofs.KindLaws.{upto_whole}

-- ---- contents of values

decimal_some : (b : Bool) (z : ℤ) → is_null_content (if b then whole z else string (decimal_bytes z)) ≡ false
decimal_some true z = refl
decimal_some false z = refl

pub stored_some : (format : Format) (z : ℤ) → is_null_content (stored_content format z) ≡ false
stored_some Float32 z = refl
stored_some Float64 z = refl
stored_some Date32 z = refl
stored_some (Time unit) z = refl
stored_some (Timestamp unit is_zoned) z = refl
stored_some (Decimal width precision scale) z = decimal_some (nat_le precision 18) z

-- the bytes of decimals sort as their numbers
abbrev pub BytesSort : Type 0
BytesSort = (x y : ℤ) → FitsSigned w128 x → FitsSigned w128 y → slice_cmp nat_cmp (decimal_bytes x) (decimal_bytes y) ≡ int_cmp x y

few_digits : (width : DecimalWidth) (precision : ℕ) → precision ≤ greatest_precision width → precision ≤ 38
few_digits Bits32 precision h = omega (arith, h)
few_digits Bits64 precision h = omega (arith, h)
few_digits Bits128 precision h = h

wide_fits : (precision : ℕ) (z : ℤ) → precision ≤ 38 → unsigned_abs z < 10 ^ precision → FitsSigned w128 z
wide_fits precision z l h =
    let m : 10 ^ precision ≤ 10 ^ 38 = pow-le-pow_right (omega arith) l in
    fits_signed_from_abs w128 z (omega arith)

decimal_order : (b : Bool) (x y : ℤ) → BytesSort → FitsSigned w128 x → FitsSigned w128 y
    → order (if b then whole x else string (decimal_bytes x)) (if b then whole y else string (decimal_bytes y)) ≡ Some (int_cmp x y)
decimal_order true x y sort f g = refl
decimal_order false x y sort f g = ap Some (sort x y f g)

-- what stores two values sorts as their numbers
pub stored_order : BytesSort → (format : Format) (x y : ℤ) → IsSound format → IsValueOf format x → IsValueOf format y → order (stored_content format x) (stored_content format y) ≡ Some (int_cmp x y)
stored_order sort Float32 x y s f g = refl
stored_order sort Float64 x y s f g = refl
stored_order sort Date32 x y s f g = refl
stored_order sort (Time unit) x y s f g = refl
stored_order sort (Timestamp unit is_zoned) x y s f g = refl
stored_order sort (Decimal width precision scale) x y s f g =
    let few = few_digits width precision s.1 in
    decimal_order (nat_le precision 18) x y sort (wide_fits precision x few f) (wide_fits precision y few g)

-- ---- extremes

module _ (sort : BytesSort) (format : Format) (sound : IsSound format) (cells : List (Option ℤ)) (values : All (λ cell. IfSome cell (IsValueOf format)) cells) where
  is_value : (x : ℤ) → Contains cells (Some x) → IsValueOf format x
  is_value x i = value_says (IsValueOf format) cells x values i

  pub least_stored : (x : ℤ) → IsLeastOf cells x → IsExtreme order (map (content_or_null (stored_content format)) cells) (stored_content format x)
  least_stored x h =
      extreme_of (stored_content format) (stored_some format) order cells x h.0
      (λ y i. subst SaysUpTo (sym (stored_order sort format x y sound (is_value x h.0) (is_value y i))) (upto_whole x y (value_says (λ z. x ≤ℤ z) cells y h.1 i)))
      (stored_order sort format x x sound (is_value x h.0) (is_value x h.0) ∙ ap Some (tied_itself int_cmp_total x))

  pub greatest_stored : (x : ℤ) → IsGreatestOf cells x → IsExtreme order_down (map (content_or_null (stored_content format)) cells) (stored_content format x)
  greatest_stored x h =
      extreme_of (stored_content format) (stored_some format) order_down cells x h.0
      (λ y i. subst SaysUpTo (sym (stored_order sort format y x sound (is_value y i) (is_value x h.0))) (upto_whole y x (value_says (λ z. z ≤ℤ x) cells y h.1 i)))
      (stored_order sort format x x sound (is_value x h.0) (is_value x h.0) ∙ ap Some (tied_itself int_cmp_total x))

  pub extremes_valued : (e : IntegerExtremes) → IsLeastOf cells e.least × IsGreatestOf cells e.greatest → IsValueOf format e.least × IsValueOf format e.greatest
  extremes_valued e h = (is_value e.least h.0.0, is_value e.greatest h.1.0)

  pub summary_of_extremes : (s : IntegerStatistics) (numbers : IntegerExtremes) (e : Extremes) → AreStatisticsOf cells s → IsLeastOf cells numbers.least × IsGreatestOf cells numbers.greatest
      → IsScalarOf format numbers.least e.least → IsScalarOf format numbers.greatest e.greatest
      → AreSummaryOf (type_of_format format) (map (content_or_null (stored_content format)) cells) (record { null_count = s.null_count; extremes = Some e })
  summary_of_extremes s numbers e h among l g = record {
    nulls = h.nulls ∙ nulls_of (stored_content format) (stored_some format) cells;
    extremes = record {
      least = extreme_scalar order (type_of_format format) (map (content_or_null (stored_content format)) cells) (stored_content format numbers.least) e.least (least_stored numbers.least among.0) l.typed l.is l.valid;
      greatest = extreme_scalar order_down (type_of_format format) (map (content_or_null (stored_content format)) cells) (stored_content format numbers.greatest) e.greatest (greatest_stored numbers.greatest among.1) g.typed g.is g.valid;
    };
  }

pub summary_of_nulls : (format : Format) (cells : List (Option ℤ)) (s : IntegerStatistics) → AreStatisticsOf cells s → All IsNone cells
    → AreSummaryOf (type_of_format format) (map (content_or_null (stored_content format)) cells) (record { null_count = s.null_count; extremes = None })
summary_of_nulls format cells s h none = record {
  nulls = h.nulls ∙ nulls_of (stored_content format) (stored_some format) cells;
  extremes = all_null (stored_content format) (stored_some format) cells none;
}

-- the statistics of the numbers are those of the values
pub of_numbers : (format : Format) (kind : ItemKind) (column other : Column) (s : IntegerStatistics) → kind ≡ items_of format → other ≡ column → AreStatisticsOf (item_cells kind other) s → AreStatisticsOf (logical_cells format column) s
of_numbers format kind column other s k e h = subst (λ c. AreStatisticsOf (item_cells (items_of format) c) s) e (subst (λ j. AreStatisticsOf (item_cells j other) s) k h)

-- what the statistics say, by whether there are extremes
pub numbers_among : (cells : List (Option ℤ)) (s : IntegerStatistics) (e : IntegerExtremes) → AreStatisticsOf cells s → s.extremes ≡ Some e → IsLeastOf cells e.least × IsGreatestOf cells e.greatest
numbers_among cells s e h is = subst (λ o. MatchOption o (All IsNone cells) (λ e. IsLeastOf cells e.least × IsGreatestOf cells e.greatest)) is h.extremes

pub numbers_none : (cells : List (Option ℤ)) (s : IntegerStatistics) → AreStatisticsOf cells s → s.extremes ≡ None → All IsNone cells
numbers_none cells s h is = subst (λ o. MatchOption o (All IsNone cells) (λ e. IsLeastOf cells e.least × IsGreatestOf cells e.greatest)) is h.extremes
