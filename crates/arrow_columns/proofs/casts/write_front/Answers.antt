use Rattle.std.proofs.Common.{[], ◌≡◌, ◌-◌, ◌*◌, ◌≤◌, Option, arith, ℕ, ℤ, slice_index_or, subst, sym, unwrap_or}
use Rattle.std.proofs.Math.Nat.{mul-le-mul_right}
use Rattle.arrow_columns.specs.Casts.{AllFit}
use Rattle.arrow_columns.specs.Cells.{cell_at}
use Rattle.arrow_columns.specs.Integers.{number_of}
use Rattle.arrow_columns.proofs.BufferSteps.{fit_before, stop_within}
use Rattle.arrow_columns.proofs.casts.write_front.Goals as goal

pub write_rows-requires : goal.write_rows-requires
write_rows-requires g c =
    let V : ℕ → ℤ = λ i. number_of g.T.Item.kind (slice_index_or c.args.span.items.now i []) in
    let C : ℕ → Option ℤ = cell_at c.args.span.validity.now V in
    let kind = g.U.Integer.kind in
    let from : ℕ = c.args.span.from in
    let end : ℕ = c.args.span.end in
    let found : Option ℕ = c.first_without-found.result in
    let stop : ℕ = c.unwrap_or-end.result in
    let is : stop ≡ unwrap_or found end = c.unwrap_or-end.ensures in
    let within = stop_within kind C from end found c.requires.range c.first_without-found.ensures in
    let after : from ≤ stop = omega (arith, is, within.0) in
    let below : stop ≤ end = omega (arith, is, within.1) in
    let buffer : (stop - from) * g.row.M ≤ (end - from) * g.row.M = mul-le-mul_right g.row.M (omega arith) in
    let fit : AllFit kind C from stop = subst (AllFit kind C from) (sym is) (fit_before kind C from end found c.first_without-found.ensures) in (
      omega (arith, c.requires.narrow),
      (
        c.requires.narrow,
        (
          c.requires.narrow_to,
          (
            after,
            (
              omega (arith, below, c.requires.items),
              (
                λ bitmap. omega (arith, below, c.requires.bits bitmap),
                (omega (arith, buffer, c.requires.buffer), fit),
              ),
            ),
          ),
        ),
      ),
    )
