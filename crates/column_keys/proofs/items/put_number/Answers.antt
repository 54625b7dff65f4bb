-- The integers before stay.
use Rattle.std.proofs.Common.{◌≡◌, ◌∙◌, ◌*◌, ℕ, ap, arith}
use Rattle.vortex_dtype.specs.PTypes.{byte_width_of}
use Rattle.vortex_pvalue.specs.Whole.{ptype_of}
use Rattle.column_keys.proofs.NumberSteps.{below-item, item-kept, next-item}
use Rattle.column_keys.proofs.items.put_number.Goals as goal

pub returns-clause-before : goal.returns-clause-before
returns-clause-before c =
    let w : ℕ = byte_width_of (ptype_of c.args.number) in
    let same : c.len.result ≡ byte_width_of (ptype_of c.args.number) = c.len.ensures.value ∙ c.to_le_bytes-bytes.ensures.width in
    let at : c.args.row * c.len.result ≡ c.args.row * byte_width_of (ptype_of c.args.number) = ap (λ m. c.args.row * m) same in
    λ k l. item-kept (c.args.row * c.len.result) _ c.args.values.now c.copy_from_slice.new.self (byte_width_of (ptype_of c.args.number)) k (omega (arith, at, below-item k c.args.row (byte_width_of (ptype_of c.args.number)) l))
    (omega (arith, at, c.requires, next-item c.args.row (byte_width_of (ptype_of c.args.number))))
