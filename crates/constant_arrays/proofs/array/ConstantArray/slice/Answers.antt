use Rattle.std.proofs.Common.{arith}
use Rattle.constant_arrays.specs.Words.{IsRange, len_of, scalar_of}
use Rattle.constant_arrays.proofs.Rows.{sliced_rows}
use Rattle.constant_arrays.proofs.array.ConstantArray.slice.Goals as goal

pub returns-clause-items : goal.returns-clause-items
returns-clause-items c =
    let range : IsRange c.args.start c.args.end (len_of c.args.self.now) = record { ordered = omega arith; within = omega arith } in
    sliced_rows (len_of c.args.self.now) c.args.start c.args.end (scalar_of c.args.self.now) c.in_ok-copied.field-0 range c.in_ok-copied.ensures.copied
