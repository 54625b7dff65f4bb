-- Offsets as they lie in a buffer, and as a list of items.
use Rattle.std.proofs.Common.{◌≡◌, ◌≢◌, ◌∙◌, IsUtf8, ℕ, ◌+◌, ◌*◌, ◌/◌, ◌<◌, ◌≤◌, Bool, true, false, MatchBool, ◌⊎◌, inl, inr, zero, suc, ◌-◌, add-zero, ap, arith, below_more, drop, length, slice_index, subst, slice_index_or, slice_range, sym, take, List, []}
use Rattle.std.proofs.lemmas.List.{drop-drop, drop-take, get_or-drop, get_or-take, get_or_past, length-drop, length-take, take-take}
use Rattle.std.proofs.lemmas.Nat.{le-div}
use Rattle.std.proofs.lemmas.Str.{IsUtf8-between, IsUtf8-from_ascii}
use Rattle.std.specs.Bool.{OnTrue}
use Rattle.std.specs.Simd.{first_chunks}
use Rattle.std.specs.Str.{IsAscii, IsCharBoundary}
use Rattle.arrow_columns.specs.Columns.{HasOffsets, end_of}
use Rattle.arrow_columns.specs.Integers.{item_at}
use Rattle.arrow_columns.specs.Offsets.{AreRows, GoUp, IsRow, bytes_between, bytes_of_offset, offset_at, offset_of}
use Rattle.arrow_columns.specs.declared.offset_width.OffsetWidth.{OffsetWidth}
use Rattle.arrow_columns.specs.declared.columns.Column.{Column}
use Rattle.arrow_columns.proofs.BufferItems.{enough_items, item_is}

-- offsets alike below m
pub record SameOffsets (f g : ℕ → ℕ) (m : ℕ) : Type 0 where
  pub same : (i : ℕ) → i < m → f i ≡ g i

pub offsets_same : (width : OffsetWidth) (n m : ℕ) (offsets : List ℕ) (items : List (List ℕ)) → n ≡ bytes_of_offset width → items ≡ first_chunks n m offsets
    → SameOffsets (λ i. offset_of width (slice_index_or items i [])) (offset_at width offsets) m
offsets_same width n m offsets items w e = record {
  same = λ i h. ap (offset_of width) (item_is n m offsets items i e h ∙ ap (λ k. item_at k offsets i) w);
}

pub turned : (f g : ℕ → ℕ) (m : ℕ) → SameOffsets f g m → SameOffsets g f m
turned f g m s = record { same = λ i h. sym (s.same i h) }

pub row_same : (width : OffsetWidth) (f g : ℕ → ℕ) (m : ℕ) (bytes : List ℕ) (k : ℕ) → SameOffsets f g m → k + 1 < m → IsRow width bytes f k → IsRow width bytes g k
row_same width f g m bytes k s h r = (
  omega (arith, s.same k (omega arith), s.same (k + 1) h, r.0),
  omega (arith, s.same (k + 1) h, r.1),
  omega (arith, s.same (k + 1) h, r.2),
)

pub rows_same : (width : OffsetWidth) (f g : ℕ → ℕ) (m : ℕ) (bytes : List ℕ) (from end : ℕ) → SameOffsets f g m → end < m → AreRows width bytes f from end → AreRows width bytes g from end
rows_same width f g m bytes from end s h r = λ k l b. row_same width f g m bytes k s (omega arith) (r k l b)

pub bytes_same : (f g : ℕ → ℕ) (m : ℕ) (bytes : List ℕ) (k : ℕ) → SameOffsets f g m → k + 1 < m → bytes_between bytes f k ≡ bytes_between bytes g k
bytes_same f g m bytes k s h =
    ap (λ a. slice_range bytes a (f (k + 1))) (s.same k (omega arith)) ∙ ap (λ b. slice_range bytes (g k) b) (s.same (k + 1) h)

-- a column has the offsets that were counted
pub has_offsets : (width : OffsetWidth) (n : ℕ) (column : Column) (end : ℕ) → 0 < n → n ≡ bytes_of_offset width → end ≡ end_of column → end < length column.offsets.now / n → HasOffsets width column
has_offsets width n column end p w e h =
    let k : (end + 1) * n ≤ length column.offsets.now = enough_items n (end + 1) (length column.offsets.now) p (omega arith) in
    λ _. subst (λ z. (z + 1) * bytes_of_offset width ≤ length column.offsets.now) e (subst (λ z. (end + 1) * z ≤ length column.offsets.now) w k)

-- and the other way round
pub offset_count : (width : OffsetWidth) (n : ℕ) (column : Column) → 0 < n → n ≡ bytes_of_offset width → HasOffsets width column → column.length ≢ 0 → end_of column < length column.offsets.now / n
offset_count width n column p w h some =
    let k : (end_of column + 1) * n ≤ length column.offsets.now = subst (λ z. (end_of column + 1) * z ≤ length column.offsets.now) (sym w) (h some) in
    omega (arith, le-div (end_of column + 1) (length column.offsets.now) n p k)

-- the string of row k, by the offsets of the items and by those of the buffer
pub text_same : (f g : ℕ → ℕ) (m : ℕ) (bytes : List ℕ) (k : ℕ) → SameOffsets f g m → k + 1 < m → IsUtf8 (bytes_between bytes f k) → IsUtf8 (bytes_between bytes g k)
text_same f g m bytes k s h u = subst IsUtf8 (bytes_same f g m bytes k s h) u

-- offsets that go up, one more row
pub no_longer : (b : Bool) (P : Type 0) → b ≡ false → OnTrue b P
no_longer b P e = subst (λ t. OnTrue t P) (sym e) tt

up_more : (f : ℕ → ℕ) (from i : ℕ) → GoUp f from i → f i ≤ f (i + 1) → GoUp f from (i + 1)
up_more f from i h s =
    below_more (λ k. from ≤ k → (f k ≤ f (k + 1)) × (f (k + 1) ≤ f (i + 1))) i (λ k l b. ((h k l b).0, omega (arith, (h k l b).1, s))) (λ b. (s, omega arith))

pub weaker : (b : Bool) (P Q : Type 0) → OnTrue b P → (P → Q) → OnTrue b Q
weaker true P Q h f = f h
weaker false P Q h f = tt

pub still_up : (old new : Bool) (f : ℕ → ℕ) (from i : ℕ) → new ≡ old → OnTrue old (GoUp f from i) → f i ≤ f (i + 1) → OnTrue new (GoUp f from (i + 1))
still_up old new f from i e h s = subst (λ t. OnTrue t (GoUp f from (i + 1))) (sym e) (weaker old (GoUp f from i) (GoUp f from (i + 1)) h (λ g. up_more f from i g s))

-- offsets of rows go up
pub rises : (width : OffsetWidth) (bytes : List ℕ) (f : ℕ → ℕ) (from end a n : ℕ) → AreRows width bytes f from end → from ≤ a → a + n ≤ end → f a ≤ f (a + n)
rises width bytes f from end a zero r h l = let e : f (a + 0) ≡ f a = ap f (add-zero a) in omega (arith, e)
rises width bytes f from end a (suc n) r h l =
    let rest : f a ≤ f (a + n) = rises width bytes f from end a n r h (omega arith) in
    let step : f (a + n) ≤ f (a + n + 1) = (r (a + n) (omega arith) (omega arith)).0 in
    let e : f (a + suc n) ≡ f (a + n + 1) = ap f (omega arith) in
    omega (arith, rest, step, e)

pub rises_to : (width : OffsetWidth) (bytes : List ℕ) (f : ℕ → ℕ) (from end a b : ℕ) → AreRows width bytes f from end → from ≤ a → a ≤ b → b ≤ end → f a ≤ f b
rises_to width bytes f from end a b r h l m =
    let e : a + (b - a) ≡ b = omega arith in
    subst (λ k. f a ≤ f k) e (rises width bytes f from end a (b - a) r h (omega arith))

-- the last row ends within the bytes
pub ends_within : (width : OffsetWidth) (bytes : List ℕ) (f : ℕ → ℕ) (from end : ℕ) → AreRows width bytes f from end → from < end → f end ≤ length bytes
ends_within width bytes f from end r h =
    let e : f (end - 1 + 1) ≡ f end = ap f (omega arith) in
    omega (arith, (r (end - 1) (omega arith) (omega arith)).1, e)

-- a part of ASCII is ASCII

at_part : (xs : List ℕ) (a b i : ℕ) → i < b - a → slice_index (slice_range xs a b) i ≡ slice_index xs (a + i)
at_part xs a b i h = get_or-take (b - a) (drop a xs) i 0 h ∙ get_or-drop a xs i 0

before_or_past : (i n : ℕ) → (i < n) ⊎ (n ≤ i)
before_or_past i n = search (arith)

part_ascii : (xs : List ℕ) (begin stop p q : ℕ) → begin ≤ p → p ≤ q → q ≤ stop → IsAscii (slice_range xs begin stop) → IsAscii (slice_range xs p q)
part_ascii xs begin stop p q l m n h i =
    elim (before_or_past i (q - p)) [
      | inl k ↦
          let e : begin + (p - begin + i) ≡ p + i = omega arith in
          subst (λ z. z < 128) (at_part xs begin stop (p - begin + i) (omega arith) ∙ ap (slice_index xs) e ∙ sym (at_part xs p q i k)) (h (p - begin + i))
      | inr k ↦ subst (λ z. z < 128) (sym (get_or_past (slice_range xs p q) i 0 (omega (arith, k, length-take (q - p) (drop p xs))))) (omega arith)
    ]

pub ascii_rows : (b : Bool) (R : Type 0) (width : OffsetWidth) (bytes : List ℕ) (f : ℕ → ℕ) (from end begin stop : ℕ) → MatchBool b (IsAscii (slice_range bytes begin stop)) R → AreRows width bytes f from end → begin ≡ f from → stop ≡ f end
    → OnTrue b ((k : ℕ) → k < end → from ≤ k → IsUtf8 (bytes_between bytes f k))
ascii_rows true R width bytes f from end begin stop h r p q = λ k l g.
    IsUtf8-from_ascii (bytes_between bytes f k)
    (part_ascii bytes begin stop (f k) (f (k + 1)) (omega (arith, p, rises_to width bytes f from end from k r (omega arith) g (omega arith))) (r k l g).0 (omega (arith, q, rises_to width bytes f from end (k + 1) end r (omega arith) (omega arith) (omega arith))) h)
ascii_rows false R width bytes f from end begin stop h r p q = tt

-- a part of a text between two characters is one

part_of_part : (xs : List ℕ) (begin stop p q : ℕ) → begin ≤ p → p ≤ q → q ≤ stop → take (q - begin - (p - begin)) (drop (p - begin) (slice_range xs begin stop)) ≡ slice_range xs p q
part_of_part xs begin stop p q l m n =
    let front : p - begin + (stop - p) ≡ stop - begin = omega arith in
    let size : q - begin - (p - begin) ≡ q - p = omega arith in
    let start : begin + (p - begin) ≡ p = omega arith in
    ap (λ k. take (q - begin - (p - begin)) (drop (p - begin) (take k (drop begin xs)))) (sym front)
    ∙ ap (take (q - begin - (p - begin))) (drop-take (p - begin) (stop - p) (drop begin xs) ∙ ap (take (stop - p)) (drop-drop (p - begin) begin xs ∙ ap (λ k. drop k xs) start))
    ∙ ap (λ k. take k (take (stop - p) (drop p xs))) size
    ∙ take-take (q - p) (stop - p) (drop p xs) (omega arith)

part_length : (xs : List ℕ) (begin stop : ℕ) → stop ≤ length xs → length (slice_range xs begin stop) ≡ stop - begin
part_length xs begin stop h = let l : length xs - begin ≡ length (drop begin xs) = sym (length-drop begin xs) in omega (arith, l, h, length-take (stop - begin) (drop begin xs))

boundary_in : (xs : List ℕ) (begin stop p : ℕ) → begin ≤ p → p ≤ stop → stop ≤ length xs → IsCharBoundary xs p → IsCharBoundary (slice_range xs begin stop) (p - begin)
boundary_in xs begin stop p l m n h =
    let size = part_length xs begin stop n in
    let place : begin + (p - begin) ≡ p = omega arith in (
      omega (arith, size, l, m),
      λ below high.
          let same : slice_index (slice_range xs begin stop) (p - begin) ≡ slice_index xs p = at_part xs begin stop (p - begin) (omega (arith, below, size)) ∙ ap (slice_index xs) place in
          omega (arith, same, h.1 (omega (arith, below, size, l, m, n)) (omega (arith, same, high))),
    )

part_utf8 : (xs : List ℕ) (begin stop p q : ℕ) → begin ≤ p → p ≤ q → q ≤ stop → stop ≤ length xs → IsUtf8 (slice_range xs begin stop) → IsCharBoundary xs p → IsCharBoundary (slice_range xs begin stop) (q - begin) → IsUtf8 (slice_range xs p q)
part_utf8 xs begin stop p q l m n o h a b =
    subst IsUtf8 (part_of_part xs begin stop p q l m n)
    (IsUtf8-between (slice_range xs begin stop) (p - begin) (q - begin) h (omega arith) (boundary_in xs begin stop p l (omega arith) o a) b)

-- the end of a part is one
boundary_at_end : (xs : List ℕ) (begin stop q : ℕ) → begin ≤ stop → stop ≤ length xs → q ≡ stop → IsCharBoundary (slice_range xs begin stop) (q - begin)
boundary_at_end xs begin stop q l n e =
    let size = part_length xs begin stop n in
    (omega (arith, size, e), λ below high. absurd (omega (arith, below, size, e)))

last_or_not : (k end : ℕ) → k < end → (k + 1 < end) ⊎ (k + 1 ≡ end)
last_or_not k end h = search (arith)

pub utf8_rows : (width : OffsetWidth) (bytes : List ℕ) (f : ℕ → ℕ) (from end begin stop : ℕ) → IsUtf8 (slice_range bytes begin stop) → AreRows width bytes f from end → begin ≡ f from → stop ≡ f end
    → ((k : ℕ) → k < end → from ≤ k → IsCharBoundary bytes (f k)) → (k : ℕ) → k < end → from ≤ k → IsUtf8 (bytes_between bytes f k)
utf8_rows width bytes f from end begin stop h r p q starts = λ k l g.
    let within : stop ≤ length bytes = omega (arith, q, ends_within width bytes f from end r (omega arith)) in
    let low : begin ≤ f k = omega (arith, p, rises_to width bytes f from end from k r (omega arith) g (omega arith)) in
    let high : f (k + 1) ≤ stop = omega (arith, q, rises_to width bytes f from end (k + 1) end r (omega arith) (omega arith) (omega arith)) in
    let up : f k ≤ f (k + 1) = (r k l g).0 in
    let next : IsCharBoundary (slice_range bytes begin stop) (f (k + 1) - begin) =
    elim (last_or_not k end l) [
      | inl more ↦ boundary_in bytes begin stop (f (k + 1)) (omega arith) high within (starts (k + 1) more (omega arith))
      | inr last ↦ boundary_at_end bytes begin stop (f (k + 1)) (omega arith) within (ap f last ∙ sym q)
    ] in
    part_utf8 bytes begin stop (f k) (f (k + 1)) low up high within h (starts k l g) next
