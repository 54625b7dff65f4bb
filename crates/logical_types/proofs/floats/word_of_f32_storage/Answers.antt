use Rattle.std.proofs.Common.{◌≡◌, ◌∙◌, ◌==◌, ap, Some, false, arith, ℤ, pos, negsuc, neg_ℤ, unsigned_abs, subst, codes, refl, true, w32, to_z, of_z}
use Rattle.std.proofs.lemmas.Bool.Decides.{nat_tests}
use Rattle.std.proofs.lemmas.Int.{ints}
use Rattle.std.specs.Float.{Float, binary32, float_is_finite}
use Rattle.ryu.specs.Plain.{IsLaidOutNumber, word_of}
use Rattle.float_storage.specs.Storage.{float_of_storage, infinity}
use Rattle.logical_types.specs.Printed.{IsFloatText}
use Rattle.logical_types.proofs.FloatWords.{below_all_text, finite_reads, inf_32, infinite_text, minus_inf_32, number_text, zero_32, zero_text}
use Rattle.logical_types.proofs.floats.word_of_f32_storage.Goals as goal

pub returns-then-storage-eq-INFINITY_32-clause-reads : goal.returns-then-storage-eq-INFINITY_32-clause-reads
returns-then-storage-eq-INFINITY_32-clause-reads c =
    let e : pos 2139095040 ≡ c.args.storage = omega (arith, ints, c.if-storage-eq-INFINITY_32.true) in
    inf_32 ∙ ap Some e

pub returns-then-storage-clause-reads : goal.returns-then-storage-clause-reads
returns-then-storage-clause-reads c =
    let e : negsuc 2139095039 ≡ c.args.storage = omega (arith, ints, c.if-storage.true) in
    minus_inf_32 ∙ ap Some e

pub returns-else-storage-clause-reads : goal.returns-else-storage-clause-reads
returns-else-storage-clause-reads c =
    let e : to_z w32 (of_z w32 c.args.storage) ≡ c.args.storage = omega (arith, ints) in
    let n : (unsigned_abs c.args.storage == infinity binary32) ≡ false = grind (arith, nat_tests, ints, c.if-storage-eq-INFINITY_32.false, c.if-storage.false) in
    finite_reads binary32 c.format.result.now c.args.storage c.requires n
    (c.format.ensures.parses ∙ ap Some c.f32_of_storage.ensures ∙ ap (λ (z : ℤ). Some (float_of_storage binary32 z)) e)

pub returns-then-storage-eq0-clause-reads : goal.returns-then-storage-eq0-clause-reads
returns-then-storage-eq0-clause-reads c =
    let e : pos 0 ≡ c.args.storage = omega (arith, ints, c.if-storage-eq0.true) in
    zero_32 ∙ ap Some e

pub returns-then-storage-eq0-clause-text : goal.returns-then-storage-eq0-clause-text
returns-then-storage-eq0-clause-text c =
    let e : pos 0 ≡ c.args.storage = omega (arith, ints, c.if-storage-eq0.true) in
    subst (IsFloatText binary32 13 5 (codes "0.0")) e (zero_text binary32 13 5)

pub returns-then-storage-eq-INFINITY_32-clause-text : goal.returns-then-storage-eq-INFINITY_32-clause-text
returns-then-storage-eq-INFINITY_32-clause-text c =
    let e : pos 2139095040 ≡ c.args.storage = omega (arith, ints, c.if-storage-eq-INFINITY_32.true) in
    subst (IsFloatText binary32 13 5 (codes "inf")) e (infinite_text binary32 13 5)

pub returns-then-storage-clause-text : goal.returns-then-storage-clause-text
returns-then-storage-clause-text c =
    let e : negsuc 2139095039 ≡ c.args.storage = omega (arith, ints, c.if-storage.true) in
    let t : IsFloatText binary32 13 5 (codes "-inf") (negsuc 2139095039) = below_all_text binary32 13 5 _ refl refl in
    subst (IsFloatText binary32 13 5 (codes "-inf")) e t

pub returns-else-storage-clause-text : goal.returns-else-storage-clause-text
returns-else-storage-clause-text c =
    let e : to_z w32 (of_z w32 c.args.storage) ≡ c.args.storage = omega (arith, ints) in
    let same = c.f32_of_storage.ensures ∙ ap (λ (z : ℤ). float_of_storage binary32 z) e in
    let laid = subst (λ (x : Float). float_is_finite x ≡ true → IsLaidOutNumber 13 5 c.format.result.now) same c.format.ensures.layout in
    let named = subst (λ (x : Float). float_is_finite x ≡ false → c.format.result.now ≡ word_of x) same c.format.ensures.word in
    let not_zero : c.args.storage ≡ pos 0 → ⊥ = λ h. omega (arith, ints, h, c.if-storage-eq0.false) in
    let not_infinite : c.args.storage ≡ pos 2139095040 → ⊥ = λ h. omega (arith, ints, h, c.if-storage-eq-INFINITY_32.false) in
    let not_below : c.args.storage ≡ neg_ℤ (pos 2139095040) → ⊥ = λ h. omega (arith, ints, h, c.if-storage.false) in
    number_text binary32 13 5 c.format.result.now c.args.storage c.requires not_zero not_infinite not_below laid named
