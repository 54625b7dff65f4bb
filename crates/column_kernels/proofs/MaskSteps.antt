-- Masks that are written a block at a time.
use Rattle.std.proofs.Common.{◌≡◌, ◌∙◌, ◌+◌, ◌-◌, ◌*◌, ◌/◌, ◌%◌, ◌<◌, ◌≤◌, ◌==◌, ◌⊎◌, ◌++◌, Bool, List, ap, ap₂, arith, drop, get_or, inl, inr, length, refl, subst, sym, take, ℕ}
use Rattle.std.specs.Int.{bit_at}
use Rattle.std.proofs.Math.Seq.{drop-append-add}
use Rattle.std.proofs.lemmas.Bool.{cases_lt}
use Rattle.std.proofs.lemmas.List.{append-nil, drop-drop, drop_all, get_or-append-add, get_or-take, get_or_append_left, length-drop, length-take, take_all}
use borrow.Rule.Slice.PartMut.{mid_of, put_mid}
use Rattle.arrow_columns.specs.Bitmaps.{bit_of, bitmap_length}
use Rattle.arrow_columns.specs.declared.tested_rows.Rows.{Rows}
use Rattle.truth_bitmaps.specs.Truths as bitmaps
use Rattle.truth_bitmaps.specs.declared.words.TruthWord.{TruthWord}
use Rattle.vortex_filter.specs.Formula.{Formula, truth}
use Rattle.vortex_filter.specs.Truths.{is_true}
use Rattle.vortex_filter.specs.declared.truth.Truth.{Truth}
use Rattle.vortex_filter.specs.declared.truth.Truth.TheVariants.{False, Unknown, True}
use Rattle.column_kernels.specs.FilterWords.{AreTruths, IsMask, cells_of_row, matching, option_of}

-- ---- a block

match-of : (t : Truth) → bitmaps.is_match (option_of t) ≡ is_true t
match-of False = refl
match-of Unknown = refl
match-of True = refl

-- the rows that match, by their truth values
pub mask-of-words : (f : Formula) (columns : List Rows) (from count : ℕ) (words : List TruthWord) (mask : List ℕ) → AreTruths (λ row. option_of (truth f (cells_of_row columns (from + row)))) count words
    → bitmaps.AreMatches words count mask → IsMask (λ row. matching f (cells_of_row columns) (from + row)) count mask
mask-of-words f columns from count words mask are matches = record {
  rows = λ row below. matches.rows row below ∙ ap bitmaps.is_match (are row below) ∙ match-of (truth f (cells_of_row columns (from + row)));
  zeros = matches.zeros;
}

-- ---- one block more

bit-before : (mask part : List ℕ) (k row : ℕ) → row / 8 < k → k ≤ length mask → bit_of (take k mask ++ part) row ≡ bit_of mask row
bit-before mask part k row before within =
    ap (λ b. bit_at b (row % 8) == 1) (get_or_append_left (take k mask) part 0 (row / 8) (omega (arith, length-take k mask)) ∙ get_or-take k mask (row / 8) 0 before)

bit-behind : (mask part : List ℕ) (k row here : ℕ) → k ≤ length mask → row ≡ 8 * k + here → bit_of (take k mask ++ part) row ≡ bit_of part here
bit-behind mask part k row here within e =
    let byte : row / 8 ≡ length (take k mask) + here / 8 = omega (arith, length-take k mask) in
    let bit : row % 8 ≡ here % 8 = omega arith in
    ap₂ (λ i j. bit_at (get_or (take k mask ++ part) i 0) j == 1) byte bit ∙ ap (λ b. bit_at b (here % 8) == 1) (get_or-append-add (take k mask) part (here / 8) 0)

pub mask-none : (is_one : ℕ → Bool) (count : ℕ) (mask : List ℕ) → count ≡ 0 → IsMask is_one count mask
mask-none is_one count mask e = record { rows = λ row below. absurd (omega arith); zeros = λ row above below. absurd (omega arith) }

-- what is written behind k bytes ends the mask
put-end : (mask part : List ℕ) (k : ℕ) → k ≤ length mask → put_mid k (length mask - k) mask part ≡ take k mask ++ part
put-end mask part k within = ap (λ ys. take k mask ++ (part ++ ys)) (drop_all (length mask - k) (drop k mask) (omega (arith, length-drop k mask))) ∙ ap (λ ys. take k mask ++ ys) (append-nil part)

mid-end : (mask : List ℕ) (k : ℕ) → mid_of k (length mask - k) mask ≡ drop k mask
mid-end mask k = take_all (length mask - k) (drop k mask) (omega (arith, length-drop k mask))

-- the rows behind k whole bytes
pub mask-more : (is_one : ℕ → Bool) (from k n end : ℕ) (mask part : List ℕ) → k ≤ length mask → from ≡ 8 * k → end ≡ from + n → IsMask is_one from mask → IsMask (λ row. is_one (from + row)) n part
    → IsMask is_one end (put_mid k (length mask - k) mask part)
mask-more is_one from k n end mask part within at ends so_far block = subst (IsMask is_one end) (sym (put-end mask part k within)) (record {
  rows = λ row below. row-is row below (cases_lt row from);
  zeros = λ row above below.
      bit-behind mask part k row (row - from) within (omega arith) ∙ block.zeros (row - from) (omega arith) (omega arith);
})
  where
    row-is : (row : ℕ) → row < end → (row < from) ⊎ (from ≤ row) → bit_of (take k mask ++ part) row ≡ is_one row
    row-is row below (inl before) = bit-before mask part k row (omega arith) within ∙ so_far.rows row before
    row-is row below (inr behind) =
        let same : from + (row - from) ≡ row = omega arith in
        bit-behind mask part k row (row - from) within (omega arith) ∙ block.rows (row - from) (omega arith) ∙ ap is_one same

-- the bytes behind the bits stay
pub rest-more : (k n size : ℕ) (mask part given : List ℕ) → k ≤ length mask → k + bitmap_length n ≤ size → drop (bitmap_length n) part ≡ drop (bitmap_length n) (mid_of k (length mask - k) mask) → drop size mask ≡ drop size given
    → drop size (put_mid k (length mask - k) mask part) ≡ drop size given
rest-more k n size mask part given within inside block so_far =
    let m : ℕ = size - k - bitmap_length n in
    let long : length (take k mask) ≡ k = omega (arith, length-take k mask) in
    let place : size ≡ length (take k mask) + (bitmap_length n + m) = omega (arith, long) in
    let whole : k + (bitmap_length n + m) ≡ size = omega arith in
    ap (drop size) (put-end mask part k within) ∙ ap (λ i. drop i (take k mask ++ part)) place ∙ drop-append-add (take k mask) part (bitmap_length n + m) ∙ sym (drop-drop m (bitmap_length n) part)
    ∙ ap (drop m) (block ∙ ap (drop (bitmap_length n)) (mid-end mask k)) ∙ drop-drop m (bitmap_length n) (drop k mask) ∙ drop-drop (bitmap_length n + m) k mask ∙ ap (λ i. drop i mask) whole ∙ so_far
