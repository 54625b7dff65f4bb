use Rattle.std.proofs.Common.{◌∙◌, ◌+◌, ◌-◌, ◌*◌, ◌/◌, ◌≤◌, arith, ℕ}
use Rattle.std.proofs.Math.Nat.{mul-le-mul_right}
use Rattle.arrow_columns.proofs.BufferSteps.{alike_further}
use Rattle.arrow_columns.proofs.casts.write_rows.Goals as goal

pub returns-clause-rest : goal.returns-clause-rest
returns-clause-rest g c =
    let M : ℕ = g.row.M in
    let from : ℕ = c.args.span.from in
    let end : ℕ = c.args.span.end in
    let last : (8 * (end / 8) - from) * M ≤ (end - from) * M = mul-le-mul_right M (omega arith) in
    let first : (8 * (from / 8 + 1) - from) * M ≤ (end - from) * M = mul-le-mul_right M (omega (arith, c.if-end_byte-first_byte.false)) in
    c.write_by_rows-3.ensures.rest ∙ alike_further ((8 * (end / 8) - from) * M) ((end - from) * M) c.write_by_bytes.new.buffer c.write_by_rows-2.new.buffer last c.write_by_bytes.ensures.rest
    ∙ alike_further ((8 * (from / 8 + 1) - from) * M) ((end - from) * M) c.write_by_rows-2.new.buffer c.args.buffer.now first c.write_by_rows-2.ensures.rest
