-- A word is of one kind.
use Rattle.std.proofs.Common.{◌≡◌, ◌∙◌, Some, ap, rules}
use Rattle.record_rows.specs.declared.schema.Kind.{Kind}
use Rattle.record_rows.specs.declared.schema.Kind.TheVariants as kinds
use Rattle.csv_columns.specs.Setups.{kind_word}
use Rattle.csv_columns.proofs.KindWords.{one_kind}
use Rattle.csv_columns.proofs.column_words.kind_of.Goals as goal

pub returns-in-Some-clause-back : goal.returns-in-Some-clause-back
returns-in-Some-clause-back c = λ kind is.
    let named : kind_word (kinds.Logical c.in-Some.logical) ≡ c.args.word.now = search rules in
    ap (λ (k : Kind). Some k) (one_kind (kinds.Logical c.in-Some.logical) kind (named ∙ is))
