-- Items as a list of chunks, and as they lie in a buffer.
use Rattle.std.proofs.Common.{◌≡◌, ◌∙◌, ℕ, ◌+◌, ◌-◌, ◌*◌, ◌/◌, ◌<◌, ◌≤◌, ap, arith, drop, slice_index_or, suc, take, zero, List, []}
use Rattle.std.proofs.Math.Nat.{div-mul-le_self, mul-le-mul_right}
use Rattle.std.proofs.lemmas.List.{drop-drop}
use Rattle.std.specs.Simd.{first_chunks}
use Rattle.arrow_columns.specs.Integers.{item_at}

chunk_at : (n m : ℕ) (buffer : List ℕ) (i : ℕ) → i < m → slice_index_or (first_chunks n m buffer) i [] ≡ take n (drop (i * n) buffer)
chunk_at n zero buffer i h = absurd (omega arith)
chunk_at n (suc m) buffer zero h =
    let e : 0 ≡ zero * n = grind arith in
    ap (λ a. take n (drop a buffer)) e
chunk_at n (suc m) buffer (suc i) h =
    let e : n + i * n ≡ suc i * n = grind arith in
    chunk_at n m (drop n buffer) i (omega arith) ∙ ap (take n) (drop-drop (i * n) n buffer) ∙ ap (λ a. take n (drop a buffer)) e

pub chunk_is_item : (n m : ℕ) (buffer : List ℕ) (i : ℕ) → i < m → slice_index_or (first_chunks n m buffer) i [] ≡ item_at n buffer i
chunk_is_item n m buffer i h =
    let e : n ≡ i * n + n - i * n = omega arith in
    chunk_at n m buffer i h ∙ ap (λ a. take a (drop (i * n) buffer)) e

-- the same, of a list that is equal to the chunks
pub item_is : (n m : ℕ) (buffer : List ℕ) (items : List (List ℕ)) (i : ℕ) → items ≡ first_chunks n m buffer → i < m → slice_index_or items i [] ≡ item_at n buffer i
item_is n m buffer items i e h = ap (λ xs. slice_index_or xs i []) e ∙ chunk_is_item n m buffer i h

-- so many items fit exactly if their bytes do
pub enough_items : (n m k : ℕ) → 0 < n → m ≤ k / n → m * n ≤ k
enough_items n m k p h = omega (arith, mul-le-mul_right n h, div-mul-le_self k n)
