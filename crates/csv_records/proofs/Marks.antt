-- The mask of the bytes that end a field without quotes.
use Rattle.std.proofs.Common.{◌≡◌, ◌≢◌, ◌≤◌, ◌<◌, ◌+◌, ◌*◌, ◌^◌, ◌%◌, ℕ, suc, List, [], ◌∷◌, ◌||◌, Bool, true, false, cond, eqb, refl, sym, ap, ◌∙◌, length, map, not, replicate, arith, bit_or, get_or}
use Rattle.std.proofs.lemmas.List.{length-map}
use Rattle.std.proofs.lemmas.Simd.{length-chunk, map-map, mask_l-mod, none_from_empty_mask, run_in_chunk_fails, run_in_chunk_stops, trailing_mask_l, zip2_of_maps, zip2_splat}
use Rattle.std.specs.List.{prefix_len}
use Rattle.std.specs.Simd.Lanes.{chunk, zip2, mask_l, top}
use lib.Count.{count_trailing_zeros}
use Rattle.memchr.specs.Find.{NoneBefore, Nowhere, Passes, is_byte3}

abbrev equals : ℕ → ℕ → ℕ
equals a b = cond (eqb a b) 255 0

-- the lanes that hold one of three bytes
abbrev pub any_of : ℕ → ℕ → ℕ → ℕ → List ℕ → List ℕ
any_of n a b c xs = zip2 bit_or (zip2 bit_or (zip2 equals xs (replicate n a)) (zip2 equals xs (replicate n b))) (zip2 equals xs (replicate n c))

lane : ℕ → ℕ → ℕ → ℕ → ℕ
lane a b c x = bit_or (bit_or (equals x a) (equals x b)) (equals x c)

top_of : (p q r : Bool) → top 7 (bit_or (bit_or (cond p 255 0) (cond q 255 0)) (cond r 255 0)) ≡ (p || q || r)
top_of true true true = refl
top_of true true false = refl
top_of true false true = refl
top_of true false false = refl
top_of false true true = refl
top_of false true false = refl
top_of false false true = refl
top_of false false false = refl

tops : (a b c : ℕ) (xs : List ℕ) → map (λ x. top 7 (bit_or (bit_or (equals x a) (equals x b)) (equals x c))) xs ≡ map (is_byte3 a b c) xs
tops a b c [] = refl
tops a b c (x ∷ xs) = (λ i. top_of (eqb x a) (eqb x b) (eqb x c) i ∷ tops a b c xs i)

pub marks_of : (a b c n : ℕ) (xs : List ℕ) → length xs ≡ n → n ≤ 64 → mask_l (map (top 7) (any_of n a b c xs)) % 2 ^ 64 ≡ mask_l (map (is_byte3 a b c) xs)
marks_of a b c n xs long few =
    let one : (y : ℕ) → zip2 equals xs (replicate n y) ≡ map (λ x. equals x y) xs = λ y. zip2_splat equals xs n y long in
    let two = zip2_of_maps bit_or (λ x. equals x a) (λ x. equals x b) xs (one a) (one b) in
    let all = zip2_of_maps bit_or (λ x. bit_or (equals x a) (equals x b)) (λ x. equals x c) xs two (one c) in
    ap (λ (v : List ℕ). mask_l (map (top 7) v) % 2 ^ 64) all
    ∙ ap (λ (v : List Bool). mask_l v % 2 ^ 64) (map-map (top 7) (λ x. bit_or (bit_or (equals x a) (equals x b)) (equals x c)) xs ∙ tops a b c xs)
    ∙ mask_l-mod (map (is_byte3 a b c) xs) 64 (omega (arith, length-map xs (is_byte3 a b c)))

both_ways : (b : Bool) → b ≡ false → b ≡ true → ⊥
both_ways true e h = absurd cc
both_ways false e h = absurd cc

some_step : (b : Bool) (k m n : ℕ) → 0 < cond b 1 0 + 2 * m → (0 < m → k < n) → cond (not b) (1 + k) 0 < suc n
some_step true k m n h later = omega arith
some_step false k m n h later = omega (arith, later (omega (arith, h)))

-- where a bit is set, some lane passes
pub some_passes : (p : ℕ → Bool) (xs : List ℕ) → 0 < mask_l (map p xs) → prefix_len (λ x. not (p x)) xs < length xs
some_passes p [] h = absurd (omega (arith, h))
some_passes p (x ∷ xs) h = some_step (p x) (prefix_len (λ y. not (p y)) xs) (mask_l (map p xs)) (length xs) h (some_passes p xs)

-- the lowest mark of sixteen bytes is the first that passes
pub first_marked : (p : ℕ → Bool) (text : List ℕ) (place marks : ℕ) → place + 16 ≤ length text → marks ≡ mask_l (map p (chunk place 16 text)) → marks ≢ 0
    → NoneBefore (Passes p text) place (place + 16) (place + count_trailing_zeros 64 marks) × Passes p text (place + count_trailing_zeros 64 marks)
first_marked p text place marks room is some =
    let xs = chunk place 16 text in
    let long = length-chunk place 16 text room in
    let set : 0 < mask_l (map p xs) = omega (arith, is, some) in
    let counted = ap (count_trailing_zeros 64) is ∙ trailing_mask_l p 64 xs (omega arith) set in
    let short : count_trailing_zeros 64 marks < 16 = omega (arith, counted, long, some_passes p xs set) in (
      record {
        low = omega arith;
        high = omega arith;
        before = λ k from to passes. both_ways (p (get_or text k 0)) (run_in_chunk_fails p text place 16 (count_trailing_zeros 64 marks) 0 room counted k from to) passes;
      },
      run_in_chunk_stops p text place 16 (count_trailing_zeros 64 marks) 0 room counted short,
    )

-- without a mark none passes
pub none_marked : (p : ℕ → Bool) (text : List ℕ) (place marks : ℕ) → place + 16 ≤ length text → marks ≡ mask_l (map p (chunk place 16 text)) → marks ≡ 0 → Nowhere (Passes p text) place (place + 16)
none_marked p text place marks room is none k from to passes =
    both_ways (p (get_or text k 0)) (none_from_empty_mask p text place 16 0 room (sym is ∙ none) k from to) passes
