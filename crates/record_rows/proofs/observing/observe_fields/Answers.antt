-- A field more, the end, and a word that is refused.
use Rattle.std.proofs.Common.{◌<◌, arith, get_or, length, map, refl, rules, set, subst, sym}
use Rattle.std.proofs.lemmas.List.{get_or_default}
use Rattle.std.proofs.lemmas.Result.{err_from_is_err_and}
use Rattle.record_rows.specs.Cells.{column_type}
use Rattle.record_rows.specs.Observed.{HasBoundsOf, Step}
use Rattle.record_rows.specs.Walks.{IsNext, field_of}
use Rattle.record_rows.specs.declared.schema.ColumnType.{ColumnType}
use Rattle.record_rows.proofs.ObservedFields.{begun_taken, ended, full_among, more}
use Rattle.record_rows.proofs.Reading.{one_at_most}
use Rattle.record_rows.proofs.Typed.{types_stay}
use Rattle.record_rows.proofs.Walking.{word_refused}
use Rattle.vortex_statistics.specs.Statistics.{known}
use Rattle.record_rows.proofs.observing.observe_fields.Goals as goal

pub returns-in_err-field-clause-refused : goal.returns-in_err-field-clause-refused
returns-in_err-field-clause-refused c =
    let p = err_from_is_err_and c.from_residual.result c.from_residual.ensures.1 in
    let s = c.args.schema.now in
    let b = c.loop-field.invariant.0 in
    rw (p.1, p.2) (c.in_err-field.ensures.refused s.delimiter.byte s.reading s.columns.items c.args.text.now (map (λ (p : Step). p.field) b.steps) b.walked (begun_taken _ _ _ _ _ _ _ _ b))

pub offset_bounds-statistics-field : goal.offset_bounds-statistics-field
offset_bounds-statistics-field c =
    let s = c.args.schema.now in
    let b = c.loop-field.invariant.0 in
    let is : IsNext s.delimiter.byte s.reading s.columns.items c.args.text.now c.next_field.new.self (map (λ (p : Step). p.field) b.steps) c.in-Some.field =
    rw c.in-Some.is at (c.in_ok-field.ensures.next s.delimiter.byte s.reading s.columns.items c.args.text.now (map (λ (p : Step). p.field) b.steps) b.walked) in
    let within : c.in-Some.field.place < length c.loop-field.statistics = omega (arith, c.requires.many, b.stepped.long, is.within) in
    search rules

pub bounds-statistics-field : goal.bounds-statistics-field
bounds-statistics-field c =
    let s = c.args.schema.now in
    let b = c.loop-field.invariant.0 in
    let is : IsNext s.delimiter.byte s.reading s.columns.items c.args.text.now c.next_field.new.self (map (λ (p : Step). p.field) b.steps) c.in-Some.field =
    rw c.in-Some.is at (c.in_ok-field.ensures.next s.delimiter.byte s.reading s.columns.items c.args.text.now (map (λ (p : Step). p.field) b.steps) b.walked) in
    omega (arith, c.requires.many, b.stepped.long, is.within)

pub observe_field-requires-clause-few : goal.observe_field-requires-clause-few
observe_field-requires-clause-few c = λ full.
    let s = c.args.schema.now in
    let b = c.loop-field.invariant.0 in
    let fields = map (λ (p : Step). p.field) b.steps in
    let is : IsNext s.delimiter.byte s.reading s.columns.items c.args.text.now c.next_field.new.self fields c.in-Some.field =
    rw c.in-Some.is at (c.in_ok-field.ensures.next s.delimiter.byte s.reading s.columns.items c.args.text.now fields b.walked) in
    let i = c.in-Some.field.place in
    let within : i < length c.loop-field.statistics = omega (arith, c.requires.many, b.stepped.long, is.within) in
    c.requires.few (full_among s.delimiter.byte s.reading s.columns.items c.args.text.now c.loop-field.walk c.next_field.new.self c.in-Some.field c.args.statistics.now c.loop-field.statistics (get_or c.loop-field.statistics i c.index-statistics-field.result) c.loop-field.refused
    c.requires.many b is (get_or_default c.loop-field.statistics i c.index-statistics-field.result _ within) full)

pub observe_field-requires-clause-typed : goal.observe_field-requires-clause-typed
observe_field-requires-clause-typed c =
    let s = c.args.schema.now in
    let b = c.loop-field.invariant.0 in
    let fields = map (λ (p : Step). p.field) b.steps in
    let is : IsNext s.delimiter.byte s.reading s.columns.items c.args.text.now c.next_field.new.self fields c.in-Some.field =
    rw c.in-Some.is at (c.in_ok-field.ensures.next s.delimiter.byte s.reading s.columns.items c.args.text.now fields b.walked) in
    let i = c.in-Some.field.place in
    let within : i < length c.loop-field.statistics = omega (arith, c.requires.many, b.stepped.long, is.within) in
    subst (λ (column : ColumnType). HasBoundsOf (column_type column) (known (get_or c.loop-field.statistics i c.index-statistics-field.result))) (sym is.column) (c.loop-field.invariant.2 i c.in-Some.field.column c.index-statistics-field.result is.within within)

pub returns-in_err-flag-clause-refused : goal.returns-in_err-flag-clause-refused
returns-in_err-flag-clause-refused c =
    let p = err_from_is_err_and c.from_residual-in_err-flag.result c.from_residual-in_err-flag.ensures.1 in
    let s = c.args.schema.now in
    let b = c.loop-field.invariant.0 in
    let fields = map (λ (p : Step). p.field) b.steps in
    let is : IsNext s.delimiter.byte s.reading s.columns.items c.args.text.now c.next_field.new.self fields c.in-Some.field =
    rw c.in-Some.is at (c.in_ok-field.ensures.next s.delimiter.byte s.reading s.columns.items c.args.text.now fields b.walked) in
    rw (p.1, p.2) (word_refused s.delimiter.byte s.reading s.columns.items c.args.text.now c.next_field.new.self fields c.in-Some.field c.in_err-flag.field-0.0 is (begun_taken _ _ _ _ _ _ _ _ b) c.in_err-flag.ensures.refused)

pub loop-field-preserved : goal.loop-field-preserved
loop-field-preserved c =
    let s = c.args.schema.now in
    let b = c.loop-field.invariant.0 in
    let fields = map (λ (p : Step). p.field) b.steps in
    let is : IsNext s.delimiter.byte s.reading s.columns.items c.args.text.now c.next_field.new.self fields c.in-Some.field =
    rw c.in-Some.is at (c.in_ok-field.ensures.next s.delimiter.byte s.reading s.columns.items c.args.text.now fields b.walked) in
    let moves = rw c.in-Some.is at c.in_ok-field.ensures.moves in
    let i = c.in-Some.field.place in
    let within : i < length c.loop-field.statistics = omega (arith, c.requires.many, b.stepped.long, is.within) in (
      more s.delimiter.byte s.reading s.columns.items c.args.text.now c.loop-field.walk c.next_field.new.self c.in-Some.field c.args.statistics.now c.loop-field.statistics (set c.loop-field.statistics i c.observe_field.new.statistics) (get_or c.loop-field.statistics i c.index-statistics-field.result) c.observe_field.new.statistics c.in_ok-flag.flag c.loop-field.refused c.one_more-refused.result
          c.requires.many b is (get_or_default c.loop-field.statistics i c.index-statistics-field.result _ within) refl c.in_ok-flag.ensures.valid c.in_ok-flag.ensures.observed c.one_more-refused.ensures,
      omega (arith, one_at_most c.in_ok-flag.flag, c.one_more-refused.ensures, moves.0, c.loop-field.invariant.1),
      types_stay s.reading s.columns.items c.loop-field.statistics i c.in-Some.field.column (field_of c.in-Some.field) (get_or c.loop-field.statistics i c.index-statistics-field.result) c.observe_field.new.statistics c.in_ok-flag.flag
          is.within within is.column (get_or_default c.loop-field.statistics i c.index-statistics-field.result _ within) c.in_ok-flag.ensures.observed c.loop-field.invariant.2,
    )

pub returns-clause-fields : goal.returns-clause-fields
returns-clause-fields c =
    let s = c.args.schema.now in
    let b = c.loop-field.invariant.0 in
    let none = rw c.in_default.is at (c.in_ok-field.ensures.next s.delimiter.byte s.reading s.columns.items c.args.text.now (map (λ (p : Step). p.field) b.steps) b.walked) in
    ended s.delimiter.byte s.reading s.columns.items c.args.text.now c.loop-field.walk c.next_field.new.self c.args.statistics.now c.loop-field.statistics c.loop-field.refused c.requires.many b none
