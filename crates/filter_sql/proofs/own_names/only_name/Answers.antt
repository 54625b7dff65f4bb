-- The first column that has the name in another case is the only one, if no other has.
use Rattle.std.proofs.Common.{◌≡◌, arith, rules, None, Some}
use Rattle.std.proofs.lemmas.Grind.{common_steps}
use Rattle.std.specs.Prelude.{string_bytes}
use Rattle.filter_sql.specs.ColumnNames.{column_trees}
use Rattle.filter_sql.specs.OwnNames.{AreSameButCase}
use Rattle.filter_sql.proofs.OwnNames.{alike_more, alike_of, another_more, first_found, none_left, only_found, still_found, unlike_of}
use Rattle.filter_sql.proofs.own_names.only_name.Goals.{else-eq_ignore_ascii_case, then-eq_ignore_ascii_case+else-is_some}
use Rattle.filter_sql.proofs.own_names.only_name.Goals as goal

pub loop-column-preserved : goal.loop-column-preserved
loop-column-preserved c = λ ns h.
    elim c.if-eq_ignore_ascii_case.branch [
      | then-eq_ignore_ascii_case+else-is_some w ↦
          let same : AreSameButCase (string_bytes c.column-item.result.name) c.args.name.now = alike_of c.column-item.result.name c.deref.result.now c.args.name.now c.eq_ignore_ascii_case.result c.deref.ensures c.eq_ignore_ascii_case.ensures.test w.if-eq_ignore_ascii_case.true in
          let none : c.loop-column.found ≡ None = first_of (search rules, grind (arith, common_steps)) in
          let is : w.as_str.result.now ≡ string_bytes c.column-item.result.name = first_of (search rules, grind (arith, common_steps)) in
          first_found c.args.name.now (string_bytes c.column-item.result.name) (column_trees c.args.columns.now) c.loop-column.found c.if-eq_ignore_ascii_case.found w.as_str.result ns none w.found-is is
          (c.loop-column.invariant _ (alike_more c.args.name.now c.loop-column.column-index c.args.columns.now c.column-item.result ns c.loop-column-test.true c.column-item.is same h))
      | else-eq_ignore_ascii_case w ↦
          let other : ¬ (AreSameButCase (string_bytes c.column-item.result.name) c.args.name.now) = unlike_of c.column-item.result.name c.deref.result.now c.args.name.now c.eq_ignore_ascii_case.result c.deref.ensures c.eq_ignore_ascii_case.ensures.test w.if-eq_ignore_ascii_case.false in
          still_found c.args.name.now (column_trees c.args.columns.now) c.loop-column.found c.if-eq_ignore_ascii_case.found ns w.found-is
          (c.loop-column.invariant _ (another_more c.args.name.now c.loop-column.column-index c.args.columns.now c.column-item.result ns c.loop-column-test.true c.column-item.is other h))
    ]

pub returns : goal.returns
returns c = only_found c.args.name.now (column_trees c.args.columns.now) c.loop-column.found (c.loop-column.invariant _ (none_left c.args.name.now c.loop-column.column-index c.args.columns.now c.loop-column-test.false))
