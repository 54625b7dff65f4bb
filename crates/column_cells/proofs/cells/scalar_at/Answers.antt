-- The type of the rows and the value of one.
use Rattle.std.proofs.Common.{◌≡◌, IsSomeAnd, Some, slice_get, subst, sym}
use Rattle.vortex_dtype.specs.declared.error.VortexError.TheVariants.{OutOfMemory}
use Rattle.vortex_value.specs.Validity.{Valid}
use Rattle.vortex_value.specs.Values.Content.{content}
use Rattle.vortex_value.specs.Values.RawOf.{raw_of}
use Rattle.vortex_value.specs.Values.Scalars.{IsValid, scalar_content, scalar_type}
use Rattle.column_cells.specs.Contents.{IsLongContent, TakesMemory, contents_of_rows}
use Rattle.column_cells.specs.Types.{type_of_rows}
use Rattle.column_cells.proofs.ContentLaws.{made_err, made_ok, type_refused, value_refused}
use Rattle.column_cells.proofs.cells.scalar_at.Goals as goal

pub returns-clause-typed : goal.returns-clause-typed
returns-clause-typed c =
    made_ok c.value_at.result c.in_ok-dtype.dtype c.with_value.result (λ v. Valid (type_of_rows c.args.rows.now) (raw_of v)) (λ x. scalar_type x ≡ type_of_rows c.args.rows.now)
    c.with_value.ensures c.value_at.ensures.valid (λ v h. c.in_ok-dtype.ensures.made)

pub returns-clause-content : goal.returns-clause-content
returns-clause-content c =
    let got = slice_get (contents_of_rows c.args.rows.now) c.args.row in
    made_ok c.value_at.result c.in_ok-dtype.dtype c.with_value.result (λ v. got ≡ Some (content (raw_of v))) (λ x. got ≡ Some (scalar_content x))
    c.with_value.ensures c.value_at.ensures.content (λ v h. h)

pub returns-clause-valid : goal.returns-clause-valid
returns-clause-valid c =
    made_ok c.value_at.result c.in_ok-dtype.dtype c.with_value.result (λ v. Valid (type_of_rows c.args.rows.now) (raw_of v)) IsValid
    c.with_value.ensures c.value_at.ensures.valid (λ v h. subst (λ t. Valid t (raw_of v)) (sym c.in_ok-dtype.ensures.made) h)

pub returns-clause-refused : goal.returns-clause-refused
returns-clause-refused c =
    let got = slice_get (contents_of_rows c.args.rows.now) c.args.row in
    made_err c.value_at.result c.in_ok-dtype.dtype c.with_value.result (λ e. (e ≡ OutOfMemory) × IsSomeAnd got IsLongContent) (λ e. (e ≡ OutOfMemory) × IsSomeAnd got (TakesMemory c.args.rows.now))
    c.with_value.ensures c.value_at.ensures.refused (value_refused c.args.rows.now got)

pub returns-in_err-dtype-clause-refused : goal.returns-in_err-dtype-clause-refused
returns-in_err-dtype-clause-refused c =
    type_refused c.args.rows.now c.args.row _ _ c.requires.row c.from_residual.ensures c.in_err-dtype.ensures.made c.in_err-dtype.ensures.refused
