-- The mask of the bytes that are not of ASCII.
use Rattle.std.proofs.Common.{◌≡◌, ◌≤◌, ◌<◌, ◌+◌, ◌^◌, ◌%◌, ℕ, List, Bool, cond, leb, sym, ap, ◌∙◌, length, map, replicate, get_or, arith, w8}
use Rattle.std.proofs.lemmas.Bool.{leb-false}
use Rattle.std.proofs.lemmas.List.{length-map}
use Rattle.std.proofs.lemmas.Simd.{length-chunk, mask_l-mod, none_from_empty_mask, tops_compared, zip2_splat_left}
use Rattle.std.specs.Simd.Lanes.{chunk, mask_l, top, zip2}

-- the mask of the lanes that are 128 and more
abbrev high_marks : List ℕ → ℕ
high_marks xs = mask_l (map (top 7) (zip2 (λ a b. cond (leb a b) 255 0) (replicate 16 128) xs)) % 2 ^ 64

high_marks_of : (xs : List ℕ) → length xs ≡ 16 → high_marks xs ≡ mask_l (map (λ x. leb 128 x) xs)
high_marks_of xs long =
    ap (λ (bs : List Bool). mask_l bs % 2 ^ 64) (tops_compared w8 leb (replicate 16 128) xs ∙ zip2_splat_left leb 128 16 xs long)
    ∙ mask_l-mod (map (λ x. leb 128 x) xs) 64 (omega (arith, length-map xs (λ x. leb 128 x), long))

-- without a mark each of the sixteen bytes is of ASCII
pub none_high : (word : List ℕ) (place : ℕ) → place + 16 ≤ length word → high_marks (chunk place 16 word) ≡ 0 → (k : ℕ) → place ≤ k → k < place + 16 → get_or word k 0 < 128
none_high word place room none k from to =
    let xs = chunk place 16 word in
    leb-false 128 (get_or word k 0) (none_from_empty_mask (λ x. leb 128 x) word place 16 0 room (sym (high_marks_of xs (length-chunk place 16 word room)) ∙ none) k from to)
