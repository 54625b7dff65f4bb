-- Each line is that of the next column.
use Rattle.std.proofs.Common.{◌≡◌, ◌∙◌, ◌++◌, List, ap, sym, subst, rules, arith, length, None, Some}
use Rattle.std.proofs.lemmas.List.{append-nil}
use Rattle.std.proofs.lemmas.Str.Pattern.{split_after}
use Rattle.csv_columns.specs.Names.{IsName}
use Rattle.csv_columns.specs.Setups.{ColumnValue, HaveNames, column_lines, column_values}
use Rattle.csv_columns.specs.declared.column_words.NamedColumn.{NamedColumn}
use Rattle.csv_columns.proofs.Clear.{BeginsWith, begins_with, column_words, names_more, none_left, one_column_more, same_column, words_lack_feed}
use Rattle.csv_columns.proofs.setup.columns_of_lines.Goals as goal

pub returns-in_default-clause-back : goal.returns-in_default-clause-back
returns-in_default-clause-back c = λ columns names is.
    let so_far = c.loop-rest.invariant.0 columns names is in
    let head : BeginsWith c.loop-rest.rest.now so_far.0 = begins_with c.loop-rest.rest.now so_far.0 so_far.1 so_far.2 (search rules) in
    split_after 10 c.loop-rest.rest.now (column_words head.column) (column_lines head.more) None c.in_default.ensures.cases (omega arith) head.is (λ i h. words_lack_feed head.column head.named i 0 h)

pub returns-in_default-column_of_line-clause-back : goal.returns-in_default-column_of_line-clause-back
returns-in_default-column_of_line-clause-back c = λ columns names is.
    let so_far = c.loop-rest.invariant.0 columns names is in
    let head : BeginsWith c.loop-rest.rest.now so_far.0 = begins_with c.loop-rest.rest.now so_far.0 so_far.1 so_far.2 (search rules) in
    let parts = split_after 10 c.loop-rest.rest.now (column_words head.column) (column_lines head.more) (Some (c.in-Some.line, c.in-Some.after)) c.in-Some.ensures.cases (omega arith) head.is (λ i h. words_lack_feed head.column head.named i 0 h) in
    c.in_default-column_of_line.ensures.back head.column head.named parts.0

pub loop-rest-preserved : goal.loop-rest-preserved
loop-rest-preserved c = (
  λ columns names is.
      let so_far = c.loop-rest.invariant.0 columns names is in
      let head : BeginsWith c.loop-rest.rest.now so_far.0 = begins_with c.loop-rest.rest.now so_far.0 so_far.1 so_far.2 (search rules) in
      let parts = split_after 10 c.loop-rest.rest.now (column_words head.column) (column_lines head.more) (Some (c.in-Some.line, c.in-Some.after)) c.in-Some.ensures.cases (omega arith) head.is (λ i h. words_lack_feed head.column head.named i 0 h) in
      let found = c.in-Some-column_of_line.ensures.back head.column head.named parts.0 in (
        head.more,
        head.names,
        parts.1,
        subst (λ (l : List NamedColumn). columns ≡ column_values l ++ head.more) (sym c.in_ok-push.ensures.items)
            (one_column_more columns so_far.0 head.more head.column c.loop-rest.columns.items _ so_far.3 head.others_are
            (same_column head.column _ _ (c.in_ok-name.ensures.ok ∙ found.1) found.0)),
      ),
  search rules,
  subst (λ (l : List NamedColumn). HaveNames (column_values l)) (sym c.in_ok-push.ensures.items)
      (names_more c.loop-rest.columns.items _ c.loop-rest.invariant.2 (subst IsName (sym c.in_ok-name.ensures.ok) c.in-Some-column_of_line.ensures.name)),
)

pub returns-clause-back : goal.returns-clause-back
returns-clause-back c = λ columns names is.
    let so_far = c.loop-rest.invariant.0 columns names is in
    let short : length c.loop-rest.rest.now ≡ 0 = search rules in
    let none = none_left so_far.0 (ap length (sym so_far.2) ∙ short) in
    sym (so_far.3 ∙ ap (λ (o : List ColumnValue). column_values c.loop-rest.columns.items ++ o) none ∙ append-nil _)
