use Rattle.std.proofs.Common.{[], ◌≡◌, ◌∙◌, ◌-◌, ◌*◌, ◌≤◌, Option, arith, drop, rules, ℕ, ℤ, slice_index_or, subst, sym, unwrap_or}
use Rattle.std.proofs.Math.Nat.{mul-le-mul_right}
use Rattle.arrow_columns.specs.Casts.{AllFit}
use Rattle.arrow_columns.specs.Cells.{cell_at}
use Rattle.arrow_columns.specs.Integers.{number_of}
use Rattle.arrow_columns.proofs.BufferSteps.{alike_further, fit_before, found_after, stop_within}
use Rattle.arrow_columns.proofs.casts.write_front_by_blocks.Goals as goal

pub write_by_rows-requires : goal.write_by_rows-requires
write_by_rows-requires g c =
    let V : ℕ → ℤ = λ i. number_of g.T.Item.kind (slice_index_or c.args.span.items.now i []) in
    let C : ℕ → Option ℤ = cell_at [] V in
    let kind = g.U.Integer.kind in
    let from : ℕ = c.args.span.from in
    let start : ℕ = c.write_blocks-start.result in
    let end : ℕ = c.args.span.end in
    let found : Option ℕ = c.find_without-found.result in
    let stop : ℕ = c.unwrap_or-end.result in
    let is : stop ≡ unwrap_or found end = c.unwrap_or-end.ensures in
    let within = stop_within kind C start end found c.write_blocks-start.ensures.end c.find_without-found.ensures in
    let after : start ≤ stop = omega (arith, is, within.0) in
    let below : stop ≤ end = omega (arith, is, within.1) in
    let buffer : (stop - from) * g.row.M ≤ (end - from) * g.row.M = mul-le-mul_right g.row.M (omega arith) in
    let fit : AllFit kind C from stop =
    subst (AllFit kind C from) (sym is) (fit_before kind C from end found (found_after kind C from start end found c.write_blocks-start.ensures.from c.write_blocks-start.ensures.fit c.find_without-found.ensures)) in (
      omega (arith, c.requires.narrow),
      (
        c.requires.narrow,
        (
          c.requires.narrow_to,
          (
            c.write_blocks-start.ensures.from,
            (
              after,
              (
                omega (arith, below, c.requires.items),
                (
                  search rules,
                  (
                    omega (arith, buffer, c.requires.buffer, c.write_blocks-start.auto.buffer),
                    (fit, c.write_blocks-start.ensures.written),
                  ),
                ),
              ),
            ),
          ),
        ),
      ),
    )

pub returns-clause-found : goal.returns-clause-found
returns-clause-found g c =
    let V : ℕ → ℤ = λ i. number_of g.T.Item.kind (slice_index_or c.args.span.items.now i []) in
    found_after g.U.Integer.kind (cell_at [] V) c.args.span.from c.write_blocks-start.result c.args.span.end c.find_without-found.result
    c.write_blocks-start.ensures.from c.write_blocks-start.ensures.fit c.find_without-found.ensures

pub returns-clause-rest : goal.returns-clause-rest
returns-clause-rest g c =
    let V : ℕ → ℤ = λ i. number_of g.T.Item.kind (slice_index_or c.args.span.items.now i []) in
    let M : ℕ = g.row.M in
    let from : ℕ = c.args.span.from in
    let start : ℕ = c.write_blocks-start.result in
    let end : ℕ = c.args.span.end in
    let found : Option ℕ = c.find_without-found.result in
    let stop : ℕ = unwrap_or found end in
    let within = stop_within g.U.Integer.kind (cell_at [] V) start end found c.write_blocks-start.ensures.end c.find_without-found.ensures in
    let further : (start - from) * M ≤ (stop - from) * M = mul-le-mul_right M (omega (arith, within.0)) in
    subst (λ (s : ℕ). drop ((s - from) * M) c.write_by_rows.new.buffer ≡ drop ((s - from) * M) c.write_blocks-start.new.buffer) c.unwrap_or-end.ensures c.write_by_rows.ensures.rest
    ∙ alike_further ((start - from) * M) ((stop - from) * M) c.write_blocks-start.new.buffer c.args.buffer.now further c.write_blocks-start.ensures.rest
