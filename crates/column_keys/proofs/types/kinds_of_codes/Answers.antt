-- One kind more, or the first code of none.
use Rattle.std.proofs.Common.{◌∙◌, ap, map, sym}
use Rattle.column_keys.specs.Types.{IsTypesError}
use Rattle.column_keys.specs.declared.errors.KeysError.TheVariants.{OutOfMemory}
use Rattle.column_keys.proofs.TypeSteps.{first-unknown, have-types, mapped-more, no-memory, passed-on}
use Rattle.column_keys.proofs.types.kinds_of_codes.Goals as goal

pub returns-in-Some-clause-fault : goal.returns-in-Some-clause-fault
returns-in-Some-clause-fault g c =
    first-unknown g.C.ToKind.kind_of c.args.codes.now c.args.options.now c.args.columns c.if-options-codes.false c.if-columns-codes.false c.in_ok-expect_options.ensures.options c.in-Some.column (sym c.in-Some.ensures)

pub returns-in_err-kinds-clause-fault : goal.returns-in_err-kinds-clause-fault
returns-in_err-kinds-clause-fault g c =
    passed-on _ OutOfMemory (IsTypesError (map g.C.ToKind.kind_of c.args.codes.now) c.args.options.now c.args.columns) c.from_residual-in_err-kinds.ensures
    (no-memory g.C.ToKind.kind_of c.args.codes.now c.args.options.now c.args.columns c.if-options-codes.false c.if-columns-codes.false c.in_ok-expect_options.ensures.options (sym c.in_default.ensures))

pub returns-in_err-push-clause-fault : goal.returns-in_err-push-clause-fault
returns-in_err-push-clause-fault g c =
    passed-on _ OutOfMemory (IsTypesError (map g.C.ToKind.kind_of c.args.codes.now) c.args.options.now c.args.columns) c.from_residual-in_err-push.ensures
    (no-memory g.C.ToKind.kind_of c.args.codes.now c.args.options.now c.args.columns c.if-options-codes.false c.if-columns-codes.false c.in_ok-expect_options.ensures.options (sym c.in_default.ensures))

pub loop-code-preserved : goal.loop-code-preserved
loop-code-preserved g c =
    mapped-more g.C.ToKind.kind_of c.args.codes.now c.loop-code.code-index c.code-item.result c.loop-code.kinds.items c.push.new.self.items c.to_kind.result c.loop-code-test.true c.loop-code.invariant (c.to_kind.ensures ∙ ap g.C.ToKind.kind_of c.code-item.is) c.in_ok-push.ensures.items

pub returns-clause-types : goal.returns-clause-types
returns-clause-types g c = have-types g.C.ToKind.kind_of c.args.codes.now c.args.options.now c.args.columns c.if-options-codes.false c.if-columns-codes.false c.in_ok-expect_options.ensures.options (sym c.in_default.ensures)
