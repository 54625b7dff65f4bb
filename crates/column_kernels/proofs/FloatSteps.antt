-- Floats that are compared with a number, by their bits.
use Rattle.std.proofs.Common.{◌≡◌, ◌∙◌, ◌⊎◌, ◌&&◌, ◌||◌, ◌+◌, ◌-◌, ◌%◌, ◌^◌, ◌<◌, ◌≤◌, ◌≤ℤ◌, ◌<ℤ◌, ◌-ℤ◌, if◌then◌else◌, Bool, ap, arith, cond, false, inl, inr, int_lt, negsuc, not, pos, refl, suc, sym, to_z, true, w64, ℕ, ℤ}
use Rattle.std.proofs.lemmas.Int.{clamps, ints}
use Rattle.std.specs.Float.{binary64}
use Rattle.std.specs.Int.{int_max}
use Rattle.std.specs.Ordering.{int_cmp, is_eq, is_ge, is_gt, is_le, is_lt, is_ne}
use Rattle.std.specs.declared.cmp.Ordering.{Ordering}
use Rattle.std.specs.declared.cmp.Ordering.TheVariants.{Equal, Greater, Less}
use lib.IntN.{neg_ℤ}
use mir.Facts.{to_z-neg}
use Rattle.float_storage.proofs.Order.{negative_storage, positive_storage, storage_by_size_nan}
use Rattle.float_storage.specs.Storage.{infinity, storage_of_bits}
use Rattle.vortex_filter.specs.Operators.{holds}
use Rattle.vortex_filter.specs.declared.operator.CompareOperator.{CompareOperator}
use Rattle.vortex_filter.specs.declared.operator.CompareOperator.TheVariants.{Eq, Gt, Gte, Lt, Lte, NotEq}

is-lt : (x y : ℤ) → x <ℤ y → int_lt x y ≡ true
is-lt x y h = grind (arith, ints)

not-lt : (x y : ℤ) → y ≤ℤ x → int_lt x y ≡ false
not-lt x y h = grind (arith, ints)

first : (p q t : Bool) → p ≡ true → t ≡ true → (p || q) ≡ t
first true q t e f = sym f
first false q t e f = cc

second : (p q t : Bool) → q ≡ true → t ≡ true → (p || q) ≡ t
second true true t e f = sym f
second false true t e f = sym f
second p false t e f = cc

no-one : (p q t : Bool) → p ≡ false → q ≡ false → t ≡ false → (p || q) ≡ t
no-one false false t d e f = sym f
no-one true q t d e f = cc
no-one false true t d e f = cc

order : (x y : ℤ) → (x <ℤ y) ⊎ (y ≤ℤ x)
order x y = search (arith, ints)

half : (b : ℕ) → (b < 9223372036854775808) ⊎ (9223372036854775808 ≤ b)
half b = search (arith)

number : (m : ℕ) → (m ≤ 9218868437227405312) ⊎ (9218868437227405312 < m)
number m = search (arith)

-- a word as that of an integer with a sign
low-word : (n : ℕ) → n < 9223372036854775808 → to_z w64 n ≡ pos n
low-word n h = omega (arith, ints, h)

high-word : (n : ℕ) → 9223372036854775808 ≤ n → n < 18446744073709551616 → to_z w64 n ≡ pos n -ℤ pos 18446744073709551616
high-word n h small =
    let k : ℕ = 18446744073709551615 - n in
    let low_half : k < 9223372036854775808 = omega (arith, h) in
    let place : n ≡ 18446744073709551616 - suc k = omega (arith, small) in
    let sum : negsuc k ≡ pos n -ℤ pos 18446744073709551616 = omega (arith, ints, h, small) in
    ap (to_z w64) place ∙ to_z-neg w64 k low_half ∙ sum

-- where it begins to be above, with a sign
with-sign : (z : ℤ) → z <ℤ pos 0 → (if int_lt z (pos 0) then pos 4503599627370495 -ℤ z else negsuc 9218868437227405312) ≡ pos 4503599627370495 -ℤ z
with-sign z h = ap (λ (b : Bool). if b then pos 4503599627370495 -ℤ z else negsuc 9218868437227405312) (is-lt z (pos 0) h)

without-sign : (z : ℤ) → pos 0 ≤ℤ z → (if int_lt z (pos 0) then pos 4503599627370495 -ℤ z else negsuc 9218868437227405312) ≡ negsuc 9218868437227405312
without-sign z h = ap (λ (b : Bool). if b then pos 4503599627370495 -ℤ z else negsuc 9218868437227405312) (not-lt z (pos 0) h)

module _ (b : ℕ) (z a d : ℤ) (small : b < 18446744073709551616) (low : z ≤ℤ pos 9218868437227405312) (positive : a ≡ int_max z (negsuc 0))
    (negative : d ≡ (if int_lt z (pos 0) then pos 4503599627370495 -ℤ z else negsuc 9218868437227405312)) where
  abbrev turned : ℕ
  turned = (b + 9227875636482146303) % 18446744073709551616

  no-sign : b < 9223372036854775808 → (int_lt a (to_z w64 b) || int_lt (to_z w64 turned) d) ≡ int_lt z (storage_of_bits binary64 b)
  no-sign h =
      let s : to_z w64 b ≡ pos b = low-word b h in
      elim (number (b % 9223372036854775808)) [
        | inl m ↦
            let st : storage_of_bits binary64 b ≡ pos (b % 9223372036854775808) = positive_storage binary64 b m h in
            elim (order z (pos b)) [
              | inl l ↦ first _ _ _ (is-lt a (to_z w64 b) (omega (arith, ints, clamps, s, positive, l))) (is-lt z _ (omega (arith, ints, st, l, h)))
              | inr l ↦
                  let some : pos 0 ≤ℤ z = omega (arith, ints, l) in
                  let end : d ≡ negsuc 9218868437227405312 = negative ∙ without-sign z some in
                  let t : turned ≡ b + 9227875636482146303 = omega (arith, h, m) in
                  let r : to_z w64 turned ≡ pos turned -ℤ pos 18446744073709551616 = high-word turned (omega (arith, t)) (omega (arith, t, h, m)) in
                  no-one _ _ _ (not-lt a (to_z w64 b) (omega (arith, ints, clamps, s, positive, l))) (not-lt (to_z w64 turned) d (omega (arith, ints, r, t, end))) (not-lt z _ (omega (arith, ints, st, l, h)))
            ]
        | inr m ↦
            let st : storage_of_bits binary64 b ≡ pos 9218868437227405313 = storage_by_size_nan binary64 b m in
            first _ _ _ (is-lt a (to_z w64 b) (omega (arith, ints, clamps, s, positive, low, m, h))) (is-lt z _ (omega (arith, ints, st, low)))
      ]

  sign : 9223372036854775808 ≤ b → (int_lt a (to_z w64 b) || int_lt (to_z w64 turned) d) ≡ int_lt z (storage_of_bits binary64 b)
  sign h =
      let s : to_z w64 b ≡ pos b -ℤ pos 18446744073709551616 = high-word b h small in
      let t : turned ≡ 4503599627370495 + b % 9223372036854775808 = omega (arith, h, small) in
      elim (number (b % 9223372036854775808)) [
        | inl m ↦
            let st : storage_of_bits binary64 b ≡ neg_ℤ (pos (b % 9223372036854775808)) = negative_storage binary64 b m h in
            let r : to_z w64 turned ≡ pos turned = low-word turned (omega (arith, t, m)) in
            elim (order z (neg_ℤ (pos (b % 9223372036854775808)))) [
              | inl l ↦
                  let end : d ≡ pos 4503599627370495 -ℤ z = negative ∙ with-sign z (omega (arith, ints, l)) in
                  second (int_lt a (to_z w64 b)) _ _ (is-lt (to_z w64 turned) d (omega (arith, ints, r, t, end, l))) (is-lt z _ (omega (arith, ints, st, l)))
              | inr l ↦
                  no-one _ _ _ (not-lt a (to_z w64 b) (omega (arith, ints, clamps, s, positive, small)))
                  (elim (order z (pos 0)) [
                    | inl g ↦ let end : d ≡ pos 4503599627370495 -ℤ z = negative ∙ with-sign z g in not-lt (to_z w64 turned) d (omega (arith, ints, r, t, end, l))
                    | inr g ↦ let end : d ≡ negsuc 9218868437227405312 = negative ∙ without-sign z g in not-lt (to_z w64 turned) d (omega (arith, ints, r, end))
                  ])
                  (not-lt z _ (omega (arith, ints, st, l)))
            ]
        | inr m ↦
            let st : storage_of_bits binary64 b ≡ pos 9218868437227405313 = storage_by_size_nan binary64 b m in
            let r : to_z w64 turned ≡ pos turned -ℤ pos 18446744073709551616 = high-word turned (omega (arith, t, m)) (omega (arith, t)) in
            second (int_lt a (to_z w64 b)) _ _
            (elim (order z (pos 0)) [
              | inl g ↦ let end : d ≡ pos 4503599627370495 -ℤ z = negative ∙ with-sign z g in is-lt (to_z w64 turned) d (omega (arith, ints, r, t, end, g))
              | inr g ↦ let end : d ≡ negsuc 9218868437227405312 = negative ∙ without-sign z g in is-lt (to_z w64 turned) d (omega (arith, ints, r, t, end, small))
            ])
            (is-lt z _ (omega (arith, ints, st, low)))
      ]

  pub threshold-told : (int_lt a (to_z w64 b) || int_lt (to_z w64 turned) d) ≡ int_lt z (storage_of_bits binary64 b)
  threshold-told = elim (half b) [ inl h ↦ no-sign h | inr h ↦ sign h ]

-- ---- how a number stands to another one, by whether it is above that, and above the one before

is-less-order : (x z : ℤ) → x <ℤ z → int_cmp x z ≡ Less
is-less-order x z h = ap (λ l. cond l Less (cond (int_lt z x) Greater Equal)) (is-lt x z h)

is-not-less : (x z : ℤ) → z ≤ℤ x → int_cmp x z ≡ cond (int_lt z x) Greater Equal
is-not-less x z h = ap (λ l. cond l Less (cond (int_lt z x) Greater Equal)) (not-lt x z h)

at-least : (b : Bool) → is_ge (cond b Greater Equal) ≡ true
at-least true = refl
at-least false = refl

beyond : (b : Bool) → is_gt (cond b Greater Equal) ≡ b
beyond true = refl
beyond false = refl

pub from-told : (x z before : ℤ) → before ≡ z -ℤ pos 1 → int_lt before x ≡ is_ge (int_cmp x z)
from-told x z before e =
    elim (order x z) [
      | inl l ↦ not-lt before x (omega (arith, ints, e, l)) ∙ sym (ap is_ge (is-less-order x z l))
      | inr l ↦ is-lt before x (omega (arith, ints, e, l)) ∙ sym (ap is_ge (is-not-less x z l) ∙ at-least (int_lt z x))
    ]

pub above-told : (x z : ℤ) → int_lt z x ≡ is_gt (int_cmp x z)
above-told x z =
    elim (order x z) [
      | inl l ↦ not-lt z x (omega (arith, ints, l)) ∙ sym (ap is_gt (is-less-order x z l))
      | inr l ↦ sym (ap is_gt (is-not-less x z l) ∙ beyond (int_lt z x))
    ]

eq-order : (o : Ordering) → (is_ge o && not (is_gt o)) ≡ is_eq o
eq-order Less = refl
eq-order Equal = refl
eq-order Greater = refl

ne-order : (o : Ordering) → (not (is_ge o) || is_gt o) ≡ is_ne o
ne-order Less = refl
ne-order Equal = refl
ne-order Greater = refl

lt-order : (o : Ordering) → not (is_ge o) ≡ is_lt o
lt-order Less = refl
lt-order Equal = refl
lt-order Greater = refl

le-order : (o : Ordering) → not (is_gt o) ≡ is_le o
le-order Less = refl
le-order Equal = refl
le-order Greater = refl

module _ (x z before : ℤ) (p q : Bool) (follows : before ≡ z -ℤ pos 1) (from : p ≡ int_lt before x) (above : q ≡ int_lt z x) where
  ge : p ≡ is_ge (int_cmp x z)
  ge = from ∙ from-told x z before follows

  gt : q ≡ is_gt (int_cmp x z)
  gt = above ∙ above-told x z

  pub eq-stands : (op : CompareOperator) → op ≡ Eq → (p && not q) ≡ holds op (int_cmp x z)
  eq-stands op e = ap (λ a. a && not q) ge ∙ ap (λ b. is_ge (int_cmp x z) && not b) gt ∙ eq-order (int_cmp x z) ∙ ap (λ k. holds k (int_cmp x z)) (sym e)

  pub ne-stands : (op : CompareOperator) → op ≡ NotEq → (not p || q) ≡ holds op (int_cmp x z)
  ne-stands op e = ap (λ a. not a || q) ge ∙ ap (λ b. not (is_ge (int_cmp x z)) || b) gt ∙ ne-order (int_cmp x z) ∙ ap (λ k. holds k (int_cmp x z)) (sym e)

  pub gt-stands : (op : CompareOperator) → op ≡ Gt → q ≡ holds op (int_cmp x z)
  gt-stands op e = gt ∙ ap (λ k. holds k (int_cmp x z)) (sym e)

  pub ge-stands : (op : CompareOperator) → op ≡ Gte → p ≡ holds op (int_cmp x z)
  ge-stands op e = ge ∙ ap (λ k. holds k (int_cmp x z)) (sym e)

  pub lt-stands : (op : CompareOperator) → op ≡ Lt → not p ≡ holds op (int_cmp x z)
  lt-stands op e = ap not ge ∙ lt-order (int_cmp x z) ∙ ap (λ k. holds k (int_cmp x z)) (sym e)

  pub le-stands : (op : CompareOperator) → op ≡ Lte → not q ≡ holds op (int_cmp x z)
  le-stands op e = ap not gt ∙ le-order (int_cmp x z) ∙ ap (λ k. holds k (int_cmp x z)) (sym e)
