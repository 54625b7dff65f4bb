use Rattle.constant_arrays.specs.Words.{len_of, scalar_of, type_of}
use Rattle.constant_arrays.proofs.Rows.{cast_rows}
use Rattle.constant_arrays.proofs.array.ConstantArray.cast.Goals as goal

pub returns-clause-items : goal.returns-clause-items
returns-clause-items c = cast_rows (len_of c.args.self.now) (type_of c.args.target.now) (scalar_of c.args.self.now) c.in_ok-scalar.scalar c.in_ok-scalar.ensures.one
