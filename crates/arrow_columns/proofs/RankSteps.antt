-- Storages by their ranks.
use Rattle.std.proofs.Common.{Bool, ◌≡◌, ◌∙◌, ◌⊎◌, ℕ, ℤ, pos, negsuc, ◌+◌, ◌-◌, ◌%◌, ◌<◌, ◌≤◌, ◌≤ℤ◌, ◌<ℤ◌, ◌+ℤ◌, ◌-ℤ◌, ap, arith, cond, inl, inr, int_lt, sym, true, false}
use Rattle.std.proofs.lemmas.Int.{ints, clamps}
use Rattle.std.specs.Float.{Format}
use Rattle.std.specs.Int.{int_max, int_min}
use lib.Ieee.{top}
use lib.IntN.{neg_ℤ}
use native.Mathlib.Nat.{eq-zero-or-pos}
use Rattle.float_storage.proofs.Order.{negative_storage, positive_storage, storage_by_size_nan}
use Rattle.float_storage.specs.Storage.{infinity, storage_of_bits}
use Rattle.arrow_columns.specs.Ranks.{signed_nans, storage_of_rank}

-- ---- what is below a number, and what is not
negative : (z : ℤ) → z <ℤ pos 0 → int_lt z (pos 0) ≡ true
negative z h = grind (arith, ints)

positive : (z : ℤ) → pos 0 ≤ℤ z → int_lt z (pos 0) ≡ false
positive z h = grind (arith, ints)

first : (x y : ℤ) → x ≤ℤ y → int_min x y ≡ x
first x y h = omega (arith, ints, clamps)

second : (x y : ℤ) → y ≤ℤ x → int_min x y ≡ y
second x y h = omega (arith, ints, clamps)

first_above : (x y : ℤ) → y ≤ℤ x → int_max x y ≡ x
first_above x y h = omega (arith, ints, clamps)

second_above : (x y : ℤ) → x ≤ℤ y → int_max x y ≡ y
second_above x y h = omega (arith, ints, clamps)

-- ---- the ranks of numbers with a sign, of the other numbers, and of NaNs
chosen : (f : Format) (z : ℤ) (b : Bool) → int_lt z (pos 0) ≡ b → int_min (cond (int_lt z (pos 0)) (z +ℤ pos 1) z) (pos (infinity f + 1)) ≡ int_min (cond b (z +ℤ pos 1) z) (pos (infinity f + 1))
chosen f z b e = ap (λ (b : Bool). int_min (cond b (z +ℤ pos 1) z) (pos (infinity f + 1))) e

rank_of_negative : (f : Format) (r : ℤ) → (r +ℤ pos (signed_nans f)) <ℤ pos 0 → storage_of_rank f r ≡ (r +ℤ pos (signed_nans f)) +ℤ pos 1
rank_of_negative f r h =
    let z : ℤ = r +ℤ pos (signed_nans f) in
    let low : (z +ℤ pos 1) ≤ℤ pos (infinity f + 1) = omega (arith, ints, h) in
    chosen f z true (negative z h) ∙ first (z +ℤ pos 1) (pos (infinity f + 1)) low

rank_of_positive : (f : Format) (r : ℤ) → pos 0 ≤ℤ (r +ℤ pos (signed_nans f)) → (r +ℤ pos (signed_nans f)) ≤ℤ pos (infinity f) → storage_of_rank f r ≡ r +ℤ pos (signed_nans f)
rank_of_positive f r h l =
    let z : ℤ = r +ℤ pos (signed_nans f) in
    let low : z ≤ℤ pos (infinity f + 1) = omega (arith, ints, l) in
    chosen f z false (positive z h) ∙ first z (pos (infinity f + 1)) low

rank_of_nan : (f : Format) (r : ℤ) → pos (infinity f + 1) ≤ℤ (r +ℤ pos (signed_nans f)) → storage_of_rank f r ≡ pos (infinity f + 1)
rank_of_nan f r h =
    let z : ℤ = r +ℤ pos (signed_nans f) in
    let some : pos 0 ≤ℤ z = omega (arith, ints, h) in
    chosen f z false (positive z some) ∙ second z (pos (infinity f + 1)) h

-- the same of ranks that are made of bits
negative_by_rank : (f : Format) (b : ℕ) (r : ℤ) → b % top f ≤ infinity f → top f ≤ b → (r +ℤ pos (signed_nans f)) +ℤ pos 1 ≡ neg_ℤ (pos (b % top f)) → storage_of_rank f r ≡ storage_of_bits f b
negative_by_rank f b r h g e = rank_of_negative f r (omega (arith, ints, e)) ∙ e ∙ sym (negative_storage f b h g)

positive_by_rank : (f : Format) (b : ℕ) (r : ℤ) → b % top f ≤ infinity f → b < top f → r +ℤ pos (signed_nans f) ≡ pos (b % top f) → storage_of_rank f r ≡ storage_of_bits f b
positive_by_rank f b r h g e = rank_of_positive f r (omega (arith, ints, e)) (omega (arith, ints, e, h)) ∙ e ∙ sym (positive_storage f b h g)

nan_by_rank : (f : Format) (b : ℕ) (r : ℤ) → infinity f < b % top f → pos (infinity f + 1) ≤ℤ (r +ℤ pos (signed_nans f)) → storage_of_rank f r ≡ storage_of_bits f b
nan_by_rank f b r h l = rank_of_nan f r l ∙ sym (storage_by_size_nan f b h)

-- as bodies make ranks: from bits with a sign, and from others
pub size : (m n : ℕ) → (m ≤ n) ⊎ (n < m)
size m n = elim (eq-zero-or-pos (m - n)) [ inl z ↦ inl (omega arith) | inr z ↦ inr (omega arith) ]

pub rank_with_sign : (f : Format) (b : ℕ) (r : ℤ) → top f ≤ b → (b % top f ≤ infinity f → (r +ℤ pos (signed_nans f)) +ℤ pos 1 ≡ neg_ℤ (pos (b % top f))) → (infinity f < b % top f → pos (infinity f + 1) ≤ℤ (r +ℤ pos (signed_nans f))) → storage_of_rank f r ≡ storage_of_bits f b
rank_with_sign f b r s e l = elim (size (b % top f) (infinity f)) [ inl h ↦ negative_by_rank f b r h s (e h) | inr h ↦ nan_by_rank f b r h (l h) ]

pub rank_without_sign : (f : Format) (b : ℕ) (r : ℤ) → b < top f → r +ℤ pos (signed_nans f) ≡ pos (b % top f) → storage_of_rank f r ≡ storage_of_bits f b
rank_without_sign f b r s e = elim (size (b % top f) (infinity f)) [ inl h ↦ positive_by_rank f b r h s e | inr h ↦ nan_by_rank f b r h (omega (arith, ints, e, h)) ]

-- ---- the storage of the lesser and of the greater rank
sign : (z : ℤ) → (z <ℤ pos 0) ⊎ (pos 0 ≤ℤ z)
sign (pos n) = inr (omega (arith, ints))
sign (negsuc n) = inl (omega (arith, ints))

order : (x y : ℤ) → (x <ℤ y) ⊎ (y ≤ℤ x)
order x y = elim (sign (x -ℤ y)) [ inl h ↦ inl (omega (arith, ints)) | inr h ↦ inr (omega (arith, ints)) ]

below_nan : (f : Format) (r : ℤ) → storage_of_rank f r ≤ℤ pos (infinity f + 1)
below_nan f r = omega (arith, ints, clamps)

keeps_order : (f : Format) (x y : ℤ) → x ≤ℤ y → storage_of_rank f x ≤ℤ storage_of_rank f y
keeps_order f x y o =
    let z : ℤ = x +ℤ pos (signed_nans f) in
    let w : ℤ = y +ℤ pos (signed_nans f) in
    elim (order w (pos (infinity f + 1))) [
      | inr h ↦ omega (arith, ints, rank_of_nan f y h, below_nan f x)
      | inl l ↦
          elim (sign w) [
            | inl h ↦ omega (arith, ints, o, rank_of_negative f y h, rank_of_negative f x (omega (arith, ints, o, h)))
            | inr h ↦
                let e : storage_of_rank f y ≡ w = rank_of_positive f y h (omega (arith, ints, l)) in
                elim (sign z) [
                  | inl g ↦ omega (arith, ints, e, rank_of_negative f x g)
                  | inr g ↦ omega (arith, ints, o, e, rank_of_positive f x g (omega (arith, ints, o, l)))
                ]
          ]
    ]

pub storage_of_lesser : (f : Format) (x y : ℤ) → storage_of_rank f (int_min x y) ≡ int_min (storage_of_rank f x) (storage_of_rank f y)
storage_of_lesser f x y =
    elim (order y x) [
      | inl h ↦ ap (storage_of_rank f) (second x y (omega (arith, ints))) ∙ sym (second _ _ (keeps_order f y x (omega (arith, ints))))
      | inr h ↦ ap (storage_of_rank f) (first x y h) ∙ sym (first _ _ (keeps_order f x y h))
    ]

pub storage_of_greater : (f : Format) (x y : ℤ) → storage_of_rank f (int_max x y) ≡ int_max (storage_of_rank f x) (storage_of_rank f y)
storage_of_greater f x y =
    elim (order y x) [
      | inl h ↦ ap (storage_of_rank f) (first_above x y (omega (arith, ints))) ∙ sym (first_above _ _ (keeps_order f y x (omega (arith, ints))))
      | inr h ↦ ap (storage_of_rank f) (second_above x y h) ∙ sym (second_above _ _ (keeps_order f x y h))
    ]
