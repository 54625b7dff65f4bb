use Rattle.std.proofs.Common.{◌≡◌, ◌∙◌, ◌==◌, ap, Some, false, arith, ℤ, pos, negsuc, neg_ℤ, unsigned_abs, subst, codes, refl, true, w64, to_z, of_z}
use Rattle.std.proofs.lemmas.Bool.Decides.{nat_tests}
use Rattle.std.proofs.lemmas.Int.{ints}
use Rattle.std.specs.Float.{Float, binary64, float_is_finite}
use Rattle.ryu.specs.Plain.{IsLaidOutNumber, word_of}
use Rattle.float_storage.specs.Storage.{float_of_storage, infinity}
use Rattle.logical_types.specs.Printed.{IsFloatText}
use Rattle.logical_types.proofs.FloatWords.{below_all_text, finite_reads, inf_64, infinite_text, minus_inf_64, number_text, zero_64, zero_text}
use Rattle.logical_types.proofs.floats.word_of_f64_storage.Goals as goal

pub returns-then-storage-eq-INFINITY_64-clause-reads : goal.returns-then-storage-eq-INFINITY_64-clause-reads
returns-then-storage-eq-INFINITY_64-clause-reads c =
    let e : pos 9218868437227405312 ≡ c.args.storage = omega (arith, ints, c.if-storage-eq-INFINITY_64.true) in
    inf_64 ∙ ap Some e

pub returns-then-storage-clause-reads : goal.returns-then-storage-clause-reads
returns-then-storage-clause-reads c =
    let e : negsuc 9218868437227405311 ≡ c.args.storage = omega (arith, ints, c.if-storage.true) in
    minus_inf_64 ∙ ap Some e

pub returns-else-storage-clause-reads : goal.returns-else-storage-clause-reads
returns-else-storage-clause-reads c =
    let e : to_z w64 (of_z w64 c.args.storage) ≡ c.args.storage = omega (arith, ints) in
    let n : (unsigned_abs c.args.storage == infinity binary64) ≡ false = grind (arith, nat_tests, ints, c.if-storage-eq-INFINITY_64.false, c.if-storage.false) in
    finite_reads binary64 c.format.result.now c.args.storage c.requires n
    (c.format.ensures.parses ∙ ap Some c.f64_of_storage.ensures ∙ ap (λ (z : ℤ). Some (float_of_storage binary64 z)) e)

pub returns-then-storage-eq0-clause-reads : goal.returns-then-storage-eq0-clause-reads
returns-then-storage-eq0-clause-reads c =
    let e : pos 0 ≡ c.args.storage = omega (arith, ints, c.if-storage-eq0.true) in
    zero_64 ∙ ap Some e

pub returns-then-storage-eq0-clause-text : goal.returns-then-storage-eq0-clause-text
returns-then-storage-eq0-clause-text c =
    let e : pos 0 ≡ c.args.storage = omega (arith, ints, c.if-storage-eq0.true) in
    subst (IsFloatText binary64 16 4 (codes "0.0")) e (zero_text binary64 16 4)

pub returns-then-storage-eq-INFINITY_64-clause-text : goal.returns-then-storage-eq-INFINITY_64-clause-text
returns-then-storage-eq-INFINITY_64-clause-text c =
    let e : pos 9218868437227405312 ≡ c.args.storage = omega (arith, ints, c.if-storage-eq-INFINITY_64.true) in
    subst (IsFloatText binary64 16 4 (codes "inf")) e (infinite_text binary64 16 4)

pub returns-then-storage-clause-text : goal.returns-then-storage-clause-text
returns-then-storage-clause-text c =
    let e : negsuc 9218868437227405311 ≡ c.args.storage = omega (arith, ints, c.if-storage.true) in
    let t : IsFloatText binary64 16 4 (codes "-inf") (negsuc 9218868437227405311) = below_all_text binary64 16 4 _ refl refl in
    subst (IsFloatText binary64 16 4 (codes "-inf")) e t

pub returns-else-storage-clause-text : goal.returns-else-storage-clause-text
returns-else-storage-clause-text c =
    let e : to_z w64 (of_z w64 c.args.storage) ≡ c.args.storage = omega (arith, ints) in
    let same = c.f64_of_storage.ensures ∙ ap (λ (z : ℤ). float_of_storage binary64 z) e in
    let laid = subst (λ (x : Float). float_is_finite x ≡ true → IsLaidOutNumber 16 4 c.format.result.now) same c.format.ensures.layout in
    let named = subst (λ (x : Float). float_is_finite x ≡ false → c.format.result.now ≡ word_of x) same c.format.ensures.word in
    let not_zero : c.args.storage ≡ pos 0 → ⊥ = λ h. omega (arith, ints, h, c.if-storage-eq0.false) in
    let not_infinite : c.args.storage ≡ pos 9218868437227405312 → ⊥ = λ h. omega (arith, ints, h, c.if-storage-eq-INFINITY_64.false) in
    let not_below : c.args.storage ≡ neg_ℤ (pos 9218868437227405312) → ⊥ = λ h. omega (arith, ints, h, c.if-storage.false) in
    number_text binary64 16 4 c.format.result.now c.args.storage c.requires not_zero not_infinite not_below laid named
