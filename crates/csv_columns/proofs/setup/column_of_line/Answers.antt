-- A kind has no blank.
use Rattle.std.proofs.Common.{arith, None, Some, subst, sym}
use Rattle.std.proofs.lemmas.Str.Pattern.{split_after}
use Rattle.csv_columns.specs.Names.{IsName}
use Rattle.csv_columns.specs.Setups.{ColumnValue, kind_text}
use Rattle.csv_columns.proofs.Clear.{Lacks, kind_lacks_blank, lacks_from, none_is_not, some_same}
use Rattle.csv_columns.proofs.setup.column_of_line.Goals as goal

no_blank : (c : ColumnValue) → Lacks 32 (kind_text c.column)
no_blank c = lacks_from 32 (kind_text c.column) (kind_lacks_blank c.column.kind c.column.nullability)

pub returns-in_err-word-clause-back : goal.returns-in_err-word-clause-back
returns-in_err-word-clause-back c = λ column named is.
    absurd (split_after 32 c.args.line.now (kind_text column.column) column.name None c.in_err-word.ensures.cases (omega arith) is (λ i h. no_blank column i 0 h))

pub returns-in_err-column-clause-back : goal.returns-in_err-column-clause-back
returns-in_err-column-clause-back c = λ column named is.
    let parts = split_after 32 c.args.line.now (kind_text column.column) column.name (Some (c.in_ok-word.word, c.in_ok-word.name)) c.in_ok-word.ensures.cases (omega arith) is (λ i h. no_blank column i 0 h) in
    absurd (none_is_not column.column (c.in_err-column.ensures.back column.column parts.0))

pub returns-then-is_name-clause-back : goal.returns-then-is_name-clause-back
returns-then-is_name-clause-back c = λ column named is.
    let parts = split_after 32 c.args.line.now (kind_text column.column) column.name (Some (c.in_ok-word.word, c.in_ok-word.name)) c.in_ok-word.ensures.cases (omega arith) is (λ i h. no_blank column i 0 h) in
    (some_same c.in_ok-column.column column.column (c.in_ok-column.ensures.back column.column parts.0), parts.1)

pub returns-else-is_name-clause-back : goal.returns-else-is_name-clause-back
returns-else-is_name-clause-back c = λ column named is.
    let parts = split_after 32 c.args.line.now (kind_text column.column) column.name (Some (c.in_ok-word.word, c.in_ok-word.name)) c.in_ok-word.ensures.cases (omega arith) is (λ i h. no_blank column i 0 h) in
    absurd ((rw c.if-is_name.false at c.is_name.ensures) (subst IsName (sym parts.1) named))
