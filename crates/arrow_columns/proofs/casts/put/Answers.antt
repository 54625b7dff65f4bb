use Rattle.std.proofs.Common.{◌+◌, ◌-◌, ◌*◌, arith, ℕ}
use Rattle.std.proofs.lemmas.Slice.{drop-put_mid}
use Rattle.arrow_columns.proofs.BufferSteps.{below_item, kept_before, one_more}
use Rattle.arrow_columns.proofs.casts.put.Goals as goal

pub returns-clause-before : goal.returns-clause-before
returns-clause-before g c =
    let M : ℕ = g.row.M in
    let a : ℕ = c.args.k * M in
    λ j l. kept_before a (a + M - a) c.args.buffer.now c.copy_from_slice.new.self (j * M) (j * M + M) (below_item j c.args.k M l) (omega (arith, c.requires, one_more c.args.k M))

pub returns-clause-after : goal.returns-clause-after
returns-clause-after g c =
    let M : ℕ = g.row.M in
    let a : ℕ = c.args.k * M in
    drop-put_mid a (a + M - a) c.args.buffer.now c.copy_from_slice.new.self ((c.args.k + 1) * M) (omega (arith, one_more c.args.k M)) (omega (arith, c.requires, one_more c.args.k M)) (omega (arith, c.copy_from_slice.ensures.len))
