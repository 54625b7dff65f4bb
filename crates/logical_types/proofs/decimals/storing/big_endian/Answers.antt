use Rattle.std.proofs.Common.{◌≡◌, ◌∙◌, ◌+◌, ◌*◌, ◌<◌, [], ◌∷◌, ◌++◌, List, ℕ, suc, sym, ap, arith, get_or}
use Rattle.std.proofs.lemmas.List.{take_more}
use Rattle.std.specs.Int.{bytes_high_first}
use Rattle.logical_types.proofs.WideBytes.{next_byte, one_more}
use Rattle.logical_types.proofs.decimals.storing.big_endian.Goals as goal

pub overflow_mul-value : goal.overflow_mul-value
overflow_mul-value c = let m = one_more c.loop-byte.byte-index c.loop-byte.value 0 (omega (arith, c.requires, c.loop-byte-test.true)) c.loop-byte.invariant.1 (omega arith) in omega (arith, m.1)

pub overflow_add-value : goal.overflow_add-value
overflow_add-value c =
    let b : get_or c.args.bytes.now c.loop-byte.byte-index 0 < 256 = omega (arith, c.type_inv.bytes c.loop-byte.byte-index) in
    let m = one_more c.loop-byte.byte-index c.loop-byte.value (get_or c.args.bytes.now c.loop-byte.byte-index 0) (omega (arith, c.requires, c.loop-byte-test.true)) c.loop-byte.invariant.1 b in
    omega (arith, m.1)

pub loop-byte-preserved : goal.loop-byte-preserved
loop-byte-preserved c =
    let index = c.loop-byte.byte-index in
    let byte = get_or c.args.bytes.now c.loop-byte.byte-index 0 in
    let b : get_or c.args.bytes.now c.loop-byte.byte-index 0 < 256 = omega (arith, c.type_inv.bytes c.loop-byte.byte-index) in
    let m = one_more index c.loop-byte.value byte (omega (arith, c.requires, c.loop-byte-test.true)) c.loop-byte.invariant.1 b in
    let s : c.loop-byte.byte-index + 1 ≡ suc c.loop-byte.byte-index = omega arith in (
      ap (λ (k : ℕ). bytes_high_first k (c.loop-byte.value * 256 + byte)) s
          ∙ next_byte index c.loop-byte.value byte b
          ∙ ap (λ (xs : List ℕ). xs ++ byte ∷ []) c.loop-byte.invariant.0
          ∙ sym (take_more c.args.bytes.now index 0 c.loop-byte-test.true),
      m.0,
    )
