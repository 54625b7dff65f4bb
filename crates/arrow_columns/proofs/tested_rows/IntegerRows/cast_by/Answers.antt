use Rattle.std.proofs.Common.{◌≡◌, IfErr, subst, sym, take}
use Rattle.arrow_columns.specs.Casts.{AreCastTo, IsFirstWithout}
use Rattle.arrow_columns.specs.Columns.{integer_cells}
use Rattle.arrow_columns.specs.declared.casts.Extent.TheVariants.{Front}
use Rattle.arrow_columns.specs.declared.kinds.IntegerKind.{IntegerKind}
use Rattle.arrow_columns.proofs.tested_rows.IntegerRows.cast_by.Goals as goal

pub returns-in-U8-clause-fault : goal.returns-in-U8-clause-fault
returns-in-U8-clause-fault c =
    subst (λ (k : IntegerKind). IfErr c.cast_from.result (λ fault. IsFirstWithout c.args.to (integer_cells k c.args.self.now.column) fault.row)) (sym c.in-U8.is) c.cast_from.ensures.fault

pub returns-in-U8-clause-front : goal.returns-in-U8-clause-front
returns-in-U8-clause-front c =
    subst (λ (k : IntegerKind). c.args.extent ≡ Front → IfErr c.cast_from.result (λ fault. AreCastTo c.args.to (take fault.row (integer_cells k c.args.self.now.column)) c.cast_from.new.buffer)) (sym c.in-U8.is) c.cast_from.ensures.front

pub returns-in-U16-clause-fault : goal.returns-in-U16-clause-fault
returns-in-U16-clause-fault c =
    subst (λ (k : IntegerKind). IfErr c.cast_from-in-U16.result (λ fault. IsFirstWithout c.args.to (integer_cells k c.args.self.now.column) fault.row)) (sym c.in-U16.is) c.cast_from-in-U16.ensures.fault

pub returns-in-U16-clause-front : goal.returns-in-U16-clause-front
returns-in-U16-clause-front c =
    subst (λ (k : IntegerKind). c.args.extent ≡ Front → IfErr c.cast_from-in-U16.result (λ fault. AreCastTo c.args.to (take fault.row (integer_cells k c.args.self.now.column)) c.cast_from-in-U16.new.buffer)) (sym c.in-U16.is) c.cast_from-in-U16.ensures.front

pub returns-in-U32-clause-fault : goal.returns-in-U32-clause-fault
returns-in-U32-clause-fault c =
    subst (λ (k : IntegerKind). IfErr c.cast_from-in-U32.result (λ fault. IsFirstWithout c.args.to (integer_cells k c.args.self.now.column) fault.row)) (sym c.in-U32.is) c.cast_from-in-U32.ensures.fault

pub returns-in-U32-clause-front : goal.returns-in-U32-clause-front
returns-in-U32-clause-front c =
    subst (λ (k : IntegerKind). c.args.extent ≡ Front → IfErr c.cast_from-in-U32.result (λ fault. AreCastTo c.args.to (take fault.row (integer_cells k c.args.self.now.column)) c.cast_from-in-U32.new.buffer)) (sym c.in-U32.is) c.cast_from-in-U32.ensures.front

pub returns-in-U64-clause-fault : goal.returns-in-U64-clause-fault
returns-in-U64-clause-fault c =
    subst (λ (k : IntegerKind). IfErr c.cast_from-in-U64.result (λ fault. IsFirstWithout c.args.to (integer_cells k c.args.self.now.column) fault.row)) (sym c.in-U64.is) c.cast_from-in-U64.ensures.fault

pub returns-in-U64-clause-front : goal.returns-in-U64-clause-front
returns-in-U64-clause-front c =
    subst (λ (k : IntegerKind). c.args.extent ≡ Front → IfErr c.cast_from-in-U64.result (λ fault. AreCastTo c.args.to (take fault.row (integer_cells k c.args.self.now.column)) c.cast_from-in-U64.new.buffer)) (sym c.in-U64.is) c.cast_from-in-U64.ensures.front

pub returns-in-I8-clause-fault : goal.returns-in-I8-clause-fault
returns-in-I8-clause-fault c =
    subst (λ (k : IntegerKind). IfErr c.cast_from-in-I8.result (λ fault. IsFirstWithout c.args.to (integer_cells k c.args.self.now.column) fault.row)) (sym c.in-I8.is) c.cast_from-in-I8.ensures.fault

pub returns-in-I8-clause-front : goal.returns-in-I8-clause-front
returns-in-I8-clause-front c =
    subst (λ (k : IntegerKind). c.args.extent ≡ Front → IfErr c.cast_from-in-I8.result (λ fault. AreCastTo c.args.to (take fault.row (integer_cells k c.args.self.now.column)) c.cast_from-in-I8.new.buffer)) (sym c.in-I8.is) c.cast_from-in-I8.ensures.front

pub returns-in-I16-clause-fault : goal.returns-in-I16-clause-fault
returns-in-I16-clause-fault c =
    subst (λ (k : IntegerKind). IfErr c.cast_from-in-I16.result (λ fault. IsFirstWithout c.args.to (integer_cells k c.args.self.now.column) fault.row)) (sym c.in-I16.is) c.cast_from-in-I16.ensures.fault

pub returns-in-I16-clause-front : goal.returns-in-I16-clause-front
returns-in-I16-clause-front c =
    subst (λ (k : IntegerKind). c.args.extent ≡ Front → IfErr c.cast_from-in-I16.result (λ fault. AreCastTo c.args.to (take fault.row (integer_cells k c.args.self.now.column)) c.cast_from-in-I16.new.buffer)) (sym c.in-I16.is) c.cast_from-in-I16.ensures.front

pub returns-in-I32-clause-fault : goal.returns-in-I32-clause-fault
returns-in-I32-clause-fault c =
    subst (λ (k : IntegerKind). IfErr c.cast_from-in-I32.result (λ fault. IsFirstWithout c.args.to (integer_cells k c.args.self.now.column) fault.row)) (sym c.in-I32.is) c.cast_from-in-I32.ensures.fault

pub returns-in-I32-clause-front : goal.returns-in-I32-clause-front
returns-in-I32-clause-front c =
    subst (λ (k : IntegerKind). c.args.extent ≡ Front → IfErr c.cast_from-in-I32.result (λ fault. AreCastTo c.args.to (take fault.row (integer_cells k c.args.self.now.column)) c.cast_from-in-I32.new.buffer)) (sym c.in-I32.is) c.cast_from-in-I32.ensures.front

pub returns-in-I64-clause-fault : goal.returns-in-I64-clause-fault
returns-in-I64-clause-fault c =
    subst (λ (k : IntegerKind). IfErr c.cast_from-in-I64.result (λ fault. IsFirstWithout c.args.to (integer_cells k c.args.self.now.column) fault.row)) (sym c.in-I64.is) c.cast_from-in-I64.ensures.fault

pub returns-in-I64-clause-front : goal.returns-in-I64-clause-front
returns-in-I64-clause-front c =
    subst (λ (k : IntegerKind). c.args.extent ≡ Front → IfErr c.cast_from-in-I64.result (λ fault. AreCastTo c.args.to (take fault.row (integer_cells k c.args.self.now.column)) c.cast_from-in-I64.new.buffer)) (sym c.in-I64.is) c.cast_from-in-I64.ensures.front
