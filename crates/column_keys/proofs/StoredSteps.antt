-- The values of logical types in rows.
use Rattle.std.proofs.Common.{◌≡◌, ◌≢◌, ◌∙◌, ◌⊎◌, inl, inr, ℕ, ℤ, ◌+◌, ◌*◌, ◌<◌, ◌≤◌, List, length, map, get_or, refl, sym, subst, ap, arith, Option, Some}
use Rattle.std.specs.Global.{Global}
use Rattle.std.specs.Prelude.{None, Vec}
use Rattle.std.proofs.Math.Nat.{mul-le-mul_right}
use Rattle.std.proofs.lemmas.Bool.{cases_lt}
use Rattle.arrow_columns.specs.Formats.{items_of}
use Rattle.arrow_columns.specs.Integers.{item_at, number_of, width_of_item}
use Rattle.arrow_columns.specs.declared.formats.Format.{Format}
use Rattle.arrow_columns.specs.declared.kinds.Kind.{Kind}
use Rattle.column_cells.specs.Contents.{stored_content}
use Rattle.column_items.specs.Items.{bytes_of_number}
use Rattle.column_items.specs.Numbers.{HasContentOf, StoresNumber}
use Rattle.vortex_value.specs.Values.Content.{Content, content, null, sequence, string, tagged, text, truth, typed, whole}
use Rattle.vortex_value.specs.declared.scalars.Scalar.{Scalar}
use Rattle.column_keys.specs.Cells.{raws_in}
use Rattle.column_keys.specs.Layout.{AreNumbers, IsItemIn, IsNumberIn}
use Rattle.column_keys.specs.Read.{AreStored, HaveStored}
use Rattle.column_keys.proofs.ColumnsRead.{same-kind}

-- ---- whether each row has a value

pub stored-none : (kind : Kind) (cells : List Content) → AreStored kind cells 0
stored-none kind cells row l = absurd (omega (arith, l))

pub stored-more : (kind : Kind) (cells : List Content) (n : ℕ) (c : Content) → get_or cells n null ≡ c → AreStored kind cells n → HasContentOf kind c → AreStored kind cells (n + 1)
stored-more kind cells n c there all one row l = by_place (cases_lt row n)
  where
    by_place : (row < n) ⊎ (n ≤ row) → HasContentOf kind (get_or cells row null)
    by_place (inl before) = all row before
    by_place (inr after) =
        let at : n ≡ row = omega (arith, after, l) in
        subst (λ k. HasContentOf kind (get_or cells k null)) at (subst (HasContentOf kind) (sym there) one)

pub columns-none : (found : List (Option Kind)) (rows : List (Vec Scalar Global)) → HaveStored found rows 0
columns-none found rows which kind l is = absurd (omega (arith, l))

pub columns-more : (found : List (Option Kind)) (rows : List (Vec Scalar Global)) (n : ℕ) (kind : Kind) → HaveStored found rows n → get_or found n None ≡ Some kind → AreStored kind (map content (raws_in rows n)) (length rows)
    → HaveStored found rows (n + 1)
columns-more found rows n kind all is one which k l same = by_place (cases_lt which n)
  where
    by_place : (which < n) ⊎ (n ≤ which) → AreStored k (map content (raws_in rows which)) (length rows)
    by_place (inl before) = all which k before same
    by_place (inr after) =
        let at : n ≡ which = omega (arith, after, l) in
        let of : kind ≡ k = same-kind (get_or found n None) kind k is (subst (λ w. get_or found w None ≡ Some k) (sym at) same) in
        subst (λ w. AreStored k (map content (raws_in rows w)) (length rows)) at (subst (λ q. AreStored q (map content (raws_in rows n)) (length rows)) of one)

-- ---- the number of a cell

pub number-in : (format : Format) (c : Content) (z y : ℤ) → c ≢ null → StoresNumber format c z → y ≡ z → IsNumberIn format c y
number-in format null z y some h e = absurd (some refl)
number-in format (truth b) z y some h e = ap (stored_content format) e ∙ sym h.is
number-in format (whole x) z y some h e = ap (stored_content format) e ∙ sym h.is
number-in format (text bs) z y some h e = ap (stored_content format) e ∙ sym h.is
number-in format (string bs) z y some h e = ap (stored_content format) e ∙ sym h.is
number-in format (sequence cs) z y some h e = ap (stored_content format) e ∙ sym h.is
number-in format (tagged id c) z y some h e = ap (stored_content format) e ∙ sym h.is
number-in format (typed t c) z y some h e = ap (stored_content format) e ∙ sym h.is

-- ---- the numbers of the rows so far

abbrev pub AreNumbersBefore : Format → List Content → ℕ → List ℕ → Type 0
AreNumbersBefore format cells row values = (k : ℕ) → k < row → IsItemIn format (get_or cells k null) (item_at (width_of_item (items_of format)) values k)

pub numbers-none : (format : Format) (cells : List Content) (values : List ℕ) → AreNumbersBefore format cells 0 values
numbers-none format cells values k l = absurd (omega (arith, l))

-- the item that is written of a number is the one of a content that has the number
pub item-in : (format : Format) (c : Content) (z y : ℤ) (item : List ℕ) → number_of (items_of format) item ≡ y → item ≡ bytes_of_number (items_of format) y → y ≡ z → IsNumberIn format c z → IsItemIn format c item
item-in format c z y item is bytes same number = record {
  number = subst (IsNumberIn format c) (sym (is ∙ same)) number;
  canonical = bytes ∙ ap (bytes_of_number (items_of format)) (sym is);
}

pub numbers-more : (format : Format) (cells : List Content) (row : ℕ) (values now item : List ℕ) (c : Content) → get_or cells row null ≡ c → AreNumbersBefore format cells row values → length item ≡ width_of_item (items_of format) → IsItemIn format c item
    → item_at (length item) now row ≡ item → ((k : ℕ) → k < row → item_at (length item) now k ≡ item_at (length item) values k) → AreNumbersBefore format cells (row + 1) now
numbers-more format cells row values now item c there all wide one here before k l = by_place (cases_lt k row)
  where
    width : ℕ
    width = width_of_item (items_of format)

    by_place : (k < row) ⊎ (row ≤ k) → IsItemIn format (get_or cells k null) (item_at width now k)
    by_place (inl less) =
        let kept : item_at width now k ≡ item_at width values k = ap (λ w. item_at w now k) (sym wide) ∙ before k less ∙ ap (λ w. item_at w values k) wide in
        subst (IsItemIn format (get_or cells k null)) (sym kept) (all k less)
    by_place (inr after) =
        let at : row ≡ k = omega (arith, after, l) in
        let bytes : item_at width now row ≡ item = ap (λ w. item_at w now row) (sym wide) ∙ here in
        subst (λ i. IsItemIn format (get_or cells i null) (item_at width now i)) at
        (subst (λ d. IsItemIn format d (item_at width now row)) (sym there) (subst (IsItemIn format c) (sym bytes) one))

pub numbers-done : (format : Format) (cells : List Content) (row : ℕ) (values : List ℕ) → row ≡ length cells → AreNumbersBefore format cells row values → AreNumbers format cells values
numbers-done format cells row values at all k l = all k (omega (arith, l, at))

-- there is buffer for the item of a row
pub item-buffer : (format : Format) (item : List ℕ) (row count size : ℕ) → length item ≡ width_of_item (items_of format) → row < count → count * width_of_item (items_of format) ≤ size → (row + 1) * length item ≤ size
item-buffer format item row count size wide l buffer =
    let less : (row + 1) * width_of_item (items_of format) ≤ count * width_of_item (items_of format) = mul-le-mul_right {m = row + 1} {n = count} (width_of_item (items_of format)) (omega (arith, l)) in
    subst (λ w. (row + 1) * w ≤ size) (sym wide) (omega (arith, less, buffer))
