-- The rows of the records are counted, and described.
use Rattle.std.proofs.Common.{◌≡◌, ◌∙◌, [], ap, arith, drop, length, subst, sym, take_at}
use Rattle.csv_records.specs.Records.{records_of}
use Rattle.record_rows.specs.Observed.{HaveTypes}
use Rattle.record_search.specs.Searched.{AreAllComplete, AreAllValid, row_under, rows_under}
use Rattle.record_search.proofs.DescribeLaws.{rows_counted}
use Rattle.record_search.proofs.RowLaws.{rows_are_typed}
use Rattle.record_search.proofs.describing.RowDescriberDescriber.describe.Goals as goal

pub observe_text-requires-clause-many : goal.observe_text-requires-clause-many
observe_text-requires-clause-many c = omega (arith, ap length c.deref_mut.ensures.value, c.in_ok-columns.ensures.0, c.len.ensures, c.args.self.now.schema.now.columns.ok)

pub observe_text-requires-clause-fresh : goal.observe_text-requires-clause-fresh
observe_text-requires-clause-fresh c = subst (AreAllComplete 0 []) (sym c.deref_mut.ensures.value) c.in_ok-columns.ensures.1

pub encodings_of-requires : goal.encodings_of-requires
encodings_of-requires c =
    let slice = c.observe_text.new.statistics in
    let vector = c.in_ok-columns.columns in
    let held : length slice ≡ vector.len = c.observe_text.auto.statistics ∙ c.deref_mut.ensures.len in
    let back = ap length (take_at slice (drop (length slice) vector.items) vector.len held) in
    omega (arith, back, c.in_ok-records.ensures.length, ap length c.deref_mut.ensures.value, c.in_ok-columns.ensures.0, c.len.ensures, c.args.self.now.schema.now.columns.ok)

pub returns-clause-rows : goal.returns-clause-rows
returns-clause-rows c =
    let s = c.args.self.now.schema.now in
    c.in_ok-records.ensures.rows ∙ rows_counted (row_under s) (records_of s.delimiter.byte c.args.text.now)

pub returns-clause-describes : goal.returns-clause-describes
returns-clause-describes c =
    let s = c.args.self.now.schema.now in
    let slice = c.observe_text.new.statistics in
    let vector = c.in_ok-columns.columns in
    let held : length slice ≡ vector.len = c.observe_text.auto.statistics ∙ c.deref_mut.ensures.len in
    let rows = rows_under s (records_of s.delimiter.byte c.args.text.now) in
    c.in_ok-statistics.ensures.right rows (rows_are_typed s.delimiter.byte s.reading s.columns.items (records_of s.delimiter.byte c.args.text.now))
    (subst (AreAllComplete 0 rows) (sym (take_at slice (drop (length slice) vector.items) vector.len held)) c.in_ok-records.ensures.complete)

pub returns-clause-full : goal.returns-clause-full
returns-clause-full c =
    let s = c.args.self.now.schema.now in
    let slice = c.observe_text.new.statistics in
    let vector = c.in_ok-columns.columns in
    let held : length slice ≡ vector.len = c.observe_text.auto.statistics ∙ c.deref_mut.ensures.len in
    let rows = rows_under s (records_of s.delimiter.byte c.args.text.now) in
    let same = sym (take_at slice (drop (length slice) vector.items) vector.len held) in
    c.in_ok-statistics.ensures.full rows (rows_are_typed s.delimiter.byte s.reading s.columns.items (records_of s.delimiter.byte c.args.text.now))
    (subst (AreAllComplete 0 rows) same c.in_ok-records.ensures.complete)
    (subst (HaveTypes s.columns.items) same c.in_ok-records.ensures.typed)
    (subst AreAllValid same c.in_ok-records.ensures.valid)

pub returns-clause-nulls : goal.returns-clause-nulls
returns-clause-nulls c = c.in_ok-records.ensures.nulls

pub returns-clause-longer : goal.returns-clause-longer
returns-clause-longer c = c.in_ok-records.ensures.longer

pub returns-clause-passed : goal.returns-clause-passed
returns-clause-passed c = c.in_ok-records.ensures.passed
