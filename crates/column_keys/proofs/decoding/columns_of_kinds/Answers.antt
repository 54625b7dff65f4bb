-- The types are those of the kinds, and the columns those of the rows.
use Rattle.std.proofs.Common.{◌≡◌, ◌∙◌, Err, ap, map, rules, subst, sym}
use Rattle.vortex_dtype.specs.TypeOf.{type_of}
use Rattle.column_keys.specs.Answers.{IsRefusal}
use Rattle.column_keys.specs.Cells.{AreRowsOf}
use Rattle.column_keys.specs.declared.errors.KeysError.{KeysError}
use Rattle.column_keys.specs.declared.keys.RowKeys.{RowKeys}
use Rattle.column_keys.proofs.ColumnsRead.{counts-there}
use Rattle.column_keys.proofs.GivenSteps.{AreReadFrom, buffer-lacks, column-there, columns-given, counts-given, typed, types-there, value-lacks}
use Rattle.column_keys.proofs.TypeSteps.{passed-on}
use Rattle.column_keys.proofs.decoding.columns_of_kinds.Goals as goal

pub returns-in_err-types-clause-refused : goal.returns-in_err-types-clause-refused
returns-in_err-types-clause-refused c =
    let refuses : KeysError → Type 0 = IsRefusal c.args.kinds.now c.args.options.now c.args.bytes.now c.args.offsets.now c.args.columns.now in
    passed-on _ _ refuses c.from_residual.ensures (subst refuses (sym c.in_err-types.ensures.refused) ((c.requires.types.counts, c.requires.lengths), c.requires.types))

pub read_rows-requires : goal.read_rows-requires
read_rows-requires c =
    typed c.args.kinds.now c.args.options.now _
    (record { types = ap (map type_of) c.deref.ensures.value ∙ c.in_ok-types.ensures.types; options' = c.deref-2.ensures.value ∙ c.in_ok-types.ensures.options; sound = c.requires.types })

pub expect_values-requires-clause-cells : goal.expect_values-requires-clause-cells
expect_values-requires-clause-cells c =
    let keys : RowKeys = record { dtypes = c.deref.result; options = c.deref-2.result; offsets = c.args.offsets; bytes = c.args.bytes } in
    let read : AreReadFrom c.args.kinds.now c.args.options.now keys = record { types = ap (map type_of) c.deref.ensures.value ∙ c.in_ok-types.ensures.types; options' = c.deref-2.ensures.value ∙ c.in_ok-types.ensures.options; sound = c.requires.types } in
    let all : AreRowsOf keys c.as_slice-rows.result.now = subst (AreRowsOf keys) (sym c.as_slice-rows.ensures.value) c.in_ok-rows.ensures.rows in
    λ which l. column-there c.args.kinds.now c.args.options.now keys c.as_slice-rows.result.now read all which l

pub returns-in_err-expect_values-clause-refused : goal.returns-in_err-expect_values-clause-refused
returns-in_err-expect_values-clause-refused c =
    let keys : RowKeys = record { dtypes = c.deref.result; options = c.deref-2.result; offsets = c.args.offsets; bytes = c.args.bytes } in
    let read : AreReadFrom c.args.kinds.now c.args.options.now keys = record { types = ap (map type_of) c.deref.ensures.value ∙ c.in_ok-types.ensures.types; options' = c.deref-2.ensures.value ∙ c.in_ok-types.ensures.options; sound = c.requires.types } in
    let all : AreRowsOf keys c.as_slice-rows.result.now = subst (AreRowsOf keys) (sym c.as_slice-rows.ensures.value) c.in_ok-rows.ensures.rows in
    let is : c.from_residual-in_err-expect_values.result ≡ Err c.in_err-expect_values.field-0.0 = search rules in
    rw is (value-lacks c.args.kinds.now c.args.options.now keys c.as_slice-rows.result.now c.args.columns.now c.in_err-expect_values.field-0.0 read all c.requires.lengths c.in_err-expect_values.ensures.fault)

pub count_columns-requires-clause-cells : goal.count_columns-requires-clause-cells
count_columns-requires-clause-cells c =
    let keys : RowKeys = record { dtypes = c.deref.result; options = c.deref-2.result; offsets = c.args.offsets; bytes = c.args.bytes } in
    let read : AreReadFrom c.args.kinds.now c.args.options.now keys = record { types = ap (map type_of) c.deref.ensures.value ∙ c.in_ok-types.ensures.types; options' = c.deref-2.ensures.value ∙ c.in_ok-types.ensures.options; sound = c.requires.types } in
    let all : AreRowsOf keys c.as_slice-rows.result.now = subst (AreRowsOf keys) (sym c.as_slice-rows.ensures.value) c.in_ok-rows.ensures.rows in
    λ which l. column-there c.args.kinds.now c.args.options.now keys c.as_slice-rows.result.now read all which l

pub returns-then-not-count_columns-clause-refused : goal.returns-then-not-count_columns-clause-refused
returns-then-not-count_columns-clause-refused c =
    let keys : RowKeys = record { dtypes = c.deref.result; options = c.deref-2.result; offsets = c.args.offsets; bytes = c.args.bytes } in
    let read : AreReadFrom c.args.kinds.now c.args.options.now keys = record { types = ap (map type_of) c.deref.ensures.value ∙ c.in_ok-types.ensures.types; options' = c.deref-2.ensures.value ∙ c.in_ok-types.ensures.options; sound = c.requires.types } in
    let all : AreRowsOf keys c.as_slice-rows.result.now = subst (AreRowsOf keys) (sym c.as_slice-rows.ensures.value) c.in_ok-rows.ensures.rows in
    buffer-lacks c.args.kinds.now c.args.options.now keys c.as_slice-rows.result.now c.args.columns.now c.count_columns.new.columns read all c.requires.lengths c.in_ok-expect_values.ensures.stored c.count_columns.ensures.counted c.if-not-count_columns.ensures.space

pub returns-then-not-count_columns-clause-counted : goal.returns-then-not-count_columns-clause-counted
returns-then-not-count_columns-clause-counted c =
    let keys : RowKeys = record { dtypes = c.deref.result; options = c.deref-2.result; offsets = c.args.offsets; bytes = c.args.bytes } in
    let read : AreReadFrom c.args.kinds.now c.args.options.now keys = record { types = ap (map type_of) c.deref.ensures.value ∙ c.in_ok-types.ensures.types; options' = c.deref-2.ensures.value ∙ c.in_ok-types.ensures.options; sound = c.requires.types } in
    let all : AreRowsOf keys c.as_slice-rows.result.now = subst (AreRowsOf keys) (sym c.as_slice-rows.ensures.value) c.in_ok-rows.ensures.rows in
    λ same. counts-given c.args.kinds.now c.args.options.now keys c.as_slice-rows.result.now c.args.columns.now c.count_columns.new.columns read all c.count_columns.ensures.counted

pub write_columns-requires-clause-cells : goal.write_columns-requires-clause-cells
write_columns-requires-clause-cells c =
    let keys : RowKeys = record { dtypes = c.deref.result; options = c.deref-2.result; offsets = c.args.offsets; bytes = c.args.bytes } in
    let read : AreReadFrom c.args.kinds.now c.args.options.now keys = record { types = ap (map type_of) c.deref.ensures.value ∙ c.in_ok-types.ensures.types; options' = c.deref-2.ensures.value ∙ c.in_ok-types.ensures.options; sound = c.requires.types } in
    let all : AreRowsOf keys c.as_slice-rows.result.now = subst (AreRowsOf keys) (sym c.as_slice-rows.ensures.value) c.in_ok-rows.ensures.rows in
    λ which l. column-there c.args.kinds.now c.args.options.now keys c.as_slice-rows.result.now read all which l

pub write_columns-requires-clause-typed : goal.write_columns-requires-clause-typed
write_columns-requires-clause-typed c =
    let keys : RowKeys = record { dtypes = c.deref.result; options = c.deref-2.result; offsets = c.args.offsets; bytes = c.args.bytes } in
    let read : AreReadFrom c.args.kinds.now c.args.options.now keys = record { types = ap (map type_of) c.deref.ensures.value ∙ c.in_ok-types.ensures.types; options' = c.deref-2.ensures.value ∙ c.in_ok-types.ensures.options; sound = c.requires.types } in
    let all : AreRowsOf keys c.as_slice-rows.result.now = subst (AreRowsOf keys) (sym c.as_slice-rows.ensures.value) c.in_ok-rows.ensures.rows in
    λ which l. types-there c.args.kinds.now c.args.options.now keys c.as_slice-rows.result.now read all which l

pub write_columns-requires-clause-counts : goal.write_columns-requires-clause-counts
write_columns-requires-clause-counts c = counts-there c.args.kinds.now c.as_slice-rows.result.now c.args.columns.now c.count_columns.new.columns c.count_columns.ensures.counted c.if-not-count_columns.ensures.space

pub returns-clause-columns : goal.returns-clause-columns
returns-clause-columns c =
    let keys : RowKeys = record { dtypes = c.deref.result; options = c.deref-2.result; offsets = c.args.offsets; bytes = c.args.bytes } in
    let read : AreReadFrom c.args.kinds.now c.args.options.now keys = record { types = ap (map type_of) c.deref.ensures.value ∙ c.in_ok-types.ensures.types; options' = c.deref-2.ensures.value ∙ c.in_ok-types.ensures.options; sound = c.requires.types } in
    let all : AreRowsOf keys c.as_slice-rows.result.now = subst (AreRowsOf keys) (sym c.as_slice-rows.ensures.value) c.in_ok-rows.ensures.rows in
    columns-given c.args.kinds.now c.args.options.now keys c.as_slice-rows.result.now c.args.columns.now c.count_columns.new.columns c.write_columns.new.columns read all c.requires.lengths c.in_ok-expect_values.ensures.stored c.count_columns.ensures.counted c.write_columns.ensures
