use Rattle.std.proofs.Common.{◌≡◌, IfErr, OnOk, ℤ, List, Option, subst, sym, take}
use Rattle.arrow_columns.specs.Casts.{AreCastTo, IsFirstWithout}
use Rattle.arrow_columns.specs.Cells.{cells_from}
use Rattle.arrow_columns.specs.Integers.{item_at, number_of}
use Rattle.arrow_columns.specs.declared.casts.Extent.TheVariants.{Front}
use Rattle.arrow_columns.specs.declared.kinds.IntegerKind.{IntegerKind}
use Rattle.arrow_columns.proofs.casts.cast_from.Goals as goal

pub returns-in-U8-clause-cast : goal.returns-in-U8-clause-cast
returns-in-U8-clause-cast g c =
    let cells : List (Option ℤ) = cells_from c.args.column.validity.now (λ i. number_of g.T.Item.kind (item_at g.row.N c.args.column.values.now i)) c.args.column.offset c.args.column.length in
    subst (λ (k : IntegerKind). OnOk c.cast_between.result (AreCastTo k cells c.cast_between.new.buffer)) (sym c.in-U8.is) c.cast_between.ensures.cast

pub returns-in-U8-clause-fault : goal.returns-in-U8-clause-fault
returns-in-U8-clause-fault g c =
    let cells : List (Option ℤ) = cells_from c.args.column.validity.now (λ i. number_of g.T.Item.kind (item_at g.row.N c.args.column.values.now i)) c.args.column.offset c.args.column.length in
    subst (λ (k : IntegerKind). IfErr c.cast_between.result (λ fault. IsFirstWithout k cells fault.row)) (sym c.in-U8.is) c.cast_between.ensures.fault

pub returns-in-U8-clause-front : goal.returns-in-U8-clause-front
returns-in-U8-clause-front g c =
    let cells : List (Option ℤ) = cells_from c.args.column.validity.now (λ i. number_of g.T.Item.kind (item_at g.row.N c.args.column.values.now i)) c.args.column.offset c.args.column.length in
    subst (λ (k : IntegerKind). c.args.extent ≡ Front → IfErr c.cast_between.result (λ fault. AreCastTo k (take fault.row cells) c.cast_between.new.buffer)) (sym c.in-U8.is) c.cast_between.ensures.front

pub returns-in-U16-clause-cast : goal.returns-in-U16-clause-cast
returns-in-U16-clause-cast g c =
    let cells : List (Option ℤ) = cells_from c.args.column.validity.now (λ i. number_of g.T.Item.kind (item_at g.row.N c.args.column.values.now i)) c.args.column.offset c.args.column.length in
    subst (λ (k : IntegerKind). OnOk c.cast_between-in-U16.result (AreCastTo k cells c.cast_between-in-U16.new.buffer)) (sym c.in-U16.is) c.cast_between-in-U16.ensures.cast

pub returns-in-U16-clause-fault : goal.returns-in-U16-clause-fault
returns-in-U16-clause-fault g c =
    let cells : List (Option ℤ) = cells_from c.args.column.validity.now (λ i. number_of g.T.Item.kind (item_at g.row.N c.args.column.values.now i)) c.args.column.offset c.args.column.length in
    subst (λ (k : IntegerKind). IfErr c.cast_between-in-U16.result (λ fault. IsFirstWithout k cells fault.row)) (sym c.in-U16.is) c.cast_between-in-U16.ensures.fault

pub returns-in-U16-clause-front : goal.returns-in-U16-clause-front
returns-in-U16-clause-front g c =
    let cells : List (Option ℤ) = cells_from c.args.column.validity.now (λ i. number_of g.T.Item.kind (item_at g.row.N c.args.column.values.now i)) c.args.column.offset c.args.column.length in
    subst (λ (k : IntegerKind). c.args.extent ≡ Front → IfErr c.cast_between-in-U16.result (λ fault. AreCastTo k (take fault.row cells) c.cast_between-in-U16.new.buffer)) (sym c.in-U16.is) c.cast_between-in-U16.ensures.front

pub returns-in-U32-clause-cast : goal.returns-in-U32-clause-cast
returns-in-U32-clause-cast g c =
    let cells : List (Option ℤ) = cells_from c.args.column.validity.now (λ i. number_of g.T.Item.kind (item_at g.row.N c.args.column.values.now i)) c.args.column.offset c.args.column.length in
    subst (λ (k : IntegerKind). OnOk c.cast_between-in-U32.result (AreCastTo k cells c.cast_between-in-U32.new.buffer)) (sym c.in-U32.is) c.cast_between-in-U32.ensures.cast

pub returns-in-U32-clause-fault : goal.returns-in-U32-clause-fault
returns-in-U32-clause-fault g c =
    let cells : List (Option ℤ) = cells_from c.args.column.validity.now (λ i. number_of g.T.Item.kind (item_at g.row.N c.args.column.values.now i)) c.args.column.offset c.args.column.length in
    subst (λ (k : IntegerKind). IfErr c.cast_between-in-U32.result (λ fault. IsFirstWithout k cells fault.row)) (sym c.in-U32.is) c.cast_between-in-U32.ensures.fault

pub returns-in-U32-clause-front : goal.returns-in-U32-clause-front
returns-in-U32-clause-front g c =
    let cells : List (Option ℤ) = cells_from c.args.column.validity.now (λ i. number_of g.T.Item.kind (item_at g.row.N c.args.column.values.now i)) c.args.column.offset c.args.column.length in
    subst (λ (k : IntegerKind). c.args.extent ≡ Front → IfErr c.cast_between-in-U32.result (λ fault. AreCastTo k (take fault.row cells) c.cast_between-in-U32.new.buffer)) (sym c.in-U32.is) c.cast_between-in-U32.ensures.front

pub returns-in-U64-clause-cast : goal.returns-in-U64-clause-cast
returns-in-U64-clause-cast g c =
    let cells : List (Option ℤ) = cells_from c.args.column.validity.now (λ i. number_of g.T.Item.kind (item_at g.row.N c.args.column.values.now i)) c.args.column.offset c.args.column.length in
    subst (λ (k : IntegerKind). OnOk c.cast_between-in-U64.result (AreCastTo k cells c.cast_between-in-U64.new.buffer)) (sym c.in-U64.is) c.cast_between-in-U64.ensures.cast

pub returns-in-U64-clause-fault : goal.returns-in-U64-clause-fault
returns-in-U64-clause-fault g c =
    let cells : List (Option ℤ) = cells_from c.args.column.validity.now (λ i. number_of g.T.Item.kind (item_at g.row.N c.args.column.values.now i)) c.args.column.offset c.args.column.length in
    subst (λ (k : IntegerKind). IfErr c.cast_between-in-U64.result (λ fault. IsFirstWithout k cells fault.row)) (sym c.in-U64.is) c.cast_between-in-U64.ensures.fault

pub returns-in-U64-clause-front : goal.returns-in-U64-clause-front
returns-in-U64-clause-front g c =
    let cells : List (Option ℤ) = cells_from c.args.column.validity.now (λ i. number_of g.T.Item.kind (item_at g.row.N c.args.column.values.now i)) c.args.column.offset c.args.column.length in
    subst (λ (k : IntegerKind). c.args.extent ≡ Front → IfErr c.cast_between-in-U64.result (λ fault. AreCastTo k (take fault.row cells) c.cast_between-in-U64.new.buffer)) (sym c.in-U64.is) c.cast_between-in-U64.ensures.front

pub returns-in-I8-clause-cast : goal.returns-in-I8-clause-cast
returns-in-I8-clause-cast g c =
    let cells : List (Option ℤ) = cells_from c.args.column.validity.now (λ i. number_of g.T.Item.kind (item_at g.row.N c.args.column.values.now i)) c.args.column.offset c.args.column.length in
    subst (λ (k : IntegerKind). OnOk c.cast_between-in-I8.result (AreCastTo k cells c.cast_between-in-I8.new.buffer)) (sym c.in-I8.is) c.cast_between-in-I8.ensures.cast

pub returns-in-I8-clause-fault : goal.returns-in-I8-clause-fault
returns-in-I8-clause-fault g c =
    let cells : List (Option ℤ) = cells_from c.args.column.validity.now (λ i. number_of g.T.Item.kind (item_at g.row.N c.args.column.values.now i)) c.args.column.offset c.args.column.length in
    subst (λ (k : IntegerKind). IfErr c.cast_between-in-I8.result (λ fault. IsFirstWithout k cells fault.row)) (sym c.in-I8.is) c.cast_between-in-I8.ensures.fault

pub returns-in-I8-clause-front : goal.returns-in-I8-clause-front
returns-in-I8-clause-front g c =
    let cells : List (Option ℤ) = cells_from c.args.column.validity.now (λ i. number_of g.T.Item.kind (item_at g.row.N c.args.column.values.now i)) c.args.column.offset c.args.column.length in
    subst (λ (k : IntegerKind). c.args.extent ≡ Front → IfErr c.cast_between-in-I8.result (λ fault. AreCastTo k (take fault.row cells) c.cast_between-in-I8.new.buffer)) (sym c.in-I8.is) c.cast_between-in-I8.ensures.front

pub returns-in-I16-clause-cast : goal.returns-in-I16-clause-cast
returns-in-I16-clause-cast g c =
    let cells : List (Option ℤ) = cells_from c.args.column.validity.now (λ i. number_of g.T.Item.kind (item_at g.row.N c.args.column.values.now i)) c.args.column.offset c.args.column.length in
    subst (λ (k : IntegerKind). OnOk c.cast_between-in-I16.result (AreCastTo k cells c.cast_between-in-I16.new.buffer)) (sym c.in-I16.is) c.cast_between-in-I16.ensures.cast

pub returns-in-I16-clause-fault : goal.returns-in-I16-clause-fault
returns-in-I16-clause-fault g c =
    let cells : List (Option ℤ) = cells_from c.args.column.validity.now (λ i. number_of g.T.Item.kind (item_at g.row.N c.args.column.values.now i)) c.args.column.offset c.args.column.length in
    subst (λ (k : IntegerKind). IfErr c.cast_between-in-I16.result (λ fault. IsFirstWithout k cells fault.row)) (sym c.in-I16.is) c.cast_between-in-I16.ensures.fault

pub returns-in-I16-clause-front : goal.returns-in-I16-clause-front
returns-in-I16-clause-front g c =
    let cells : List (Option ℤ) = cells_from c.args.column.validity.now (λ i. number_of g.T.Item.kind (item_at g.row.N c.args.column.values.now i)) c.args.column.offset c.args.column.length in
    subst (λ (k : IntegerKind). c.args.extent ≡ Front → IfErr c.cast_between-in-I16.result (λ fault. AreCastTo k (take fault.row cells) c.cast_between-in-I16.new.buffer)) (sym c.in-I16.is) c.cast_between-in-I16.ensures.front

pub returns-in-I32-clause-cast : goal.returns-in-I32-clause-cast
returns-in-I32-clause-cast g c =
    let cells : List (Option ℤ) = cells_from c.args.column.validity.now (λ i. number_of g.T.Item.kind (item_at g.row.N c.args.column.values.now i)) c.args.column.offset c.args.column.length in
    subst (λ (k : IntegerKind). OnOk c.cast_between-in-I32.result (AreCastTo k cells c.cast_between-in-I32.new.buffer)) (sym c.in-I32.is) c.cast_between-in-I32.ensures.cast

pub returns-in-I32-clause-fault : goal.returns-in-I32-clause-fault
returns-in-I32-clause-fault g c =
    let cells : List (Option ℤ) = cells_from c.args.column.validity.now (λ i. number_of g.T.Item.kind (item_at g.row.N c.args.column.values.now i)) c.args.column.offset c.args.column.length in
    subst (λ (k : IntegerKind). IfErr c.cast_between-in-I32.result (λ fault. IsFirstWithout k cells fault.row)) (sym c.in-I32.is) c.cast_between-in-I32.ensures.fault

pub returns-in-I32-clause-front : goal.returns-in-I32-clause-front
returns-in-I32-clause-front g c =
    let cells : List (Option ℤ) = cells_from c.args.column.validity.now (λ i. number_of g.T.Item.kind (item_at g.row.N c.args.column.values.now i)) c.args.column.offset c.args.column.length in
    subst (λ (k : IntegerKind). c.args.extent ≡ Front → IfErr c.cast_between-in-I32.result (λ fault. AreCastTo k (take fault.row cells) c.cast_between-in-I32.new.buffer)) (sym c.in-I32.is) c.cast_between-in-I32.ensures.front

pub returns-in-I64-clause-cast : goal.returns-in-I64-clause-cast
returns-in-I64-clause-cast g c =
    let cells : List (Option ℤ) = cells_from c.args.column.validity.now (λ i. number_of g.T.Item.kind (item_at g.row.N c.args.column.values.now i)) c.args.column.offset c.args.column.length in
    subst (λ (k : IntegerKind). OnOk c.cast_between-in-I64.result (AreCastTo k cells c.cast_between-in-I64.new.buffer)) (sym c.in-I64.is) c.cast_between-in-I64.ensures.cast

pub returns-in-I64-clause-fault : goal.returns-in-I64-clause-fault
returns-in-I64-clause-fault g c =
    let cells : List (Option ℤ) = cells_from c.args.column.validity.now (λ i. number_of g.T.Item.kind (item_at g.row.N c.args.column.values.now i)) c.args.column.offset c.args.column.length in
    subst (λ (k : IntegerKind). IfErr c.cast_between-in-I64.result (λ fault. IsFirstWithout k cells fault.row)) (sym c.in-I64.is) c.cast_between-in-I64.ensures.fault

pub returns-in-I64-clause-front : goal.returns-in-I64-clause-front
returns-in-I64-clause-front g c =
    let cells : List (Option ℤ) = cells_from c.args.column.validity.now (λ i. number_of g.T.Item.kind (item_at g.row.N c.args.column.values.now i)) c.args.column.offset c.args.column.length in
    subst (λ (k : IntegerKind). c.args.extent ≡ Front → IfErr c.cast_between-in-I64.result (λ fault. AreCastTo k (take fault.row cells) c.cast_between-in-I64.new.buffer)) (sym c.in-I64.is) c.cast_between-in-I64.ensures.front
