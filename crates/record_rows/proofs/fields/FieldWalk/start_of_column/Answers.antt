-- The field that follows, or one that is missing.
use Rattle.std.proofs.Common.{[], refl, subst, sym}
use Rattle.csv_records.specs.declared.fields.Follows.{Follows}
use Rattle.record_rows.specs.Walks.{StartsAt}
use Rattle.record_rows.proofs.fields.FieldWalk.start_of_column.Goals as goal

pub returns-in-Another-clause-start : goal.returns-in-Another-clause-start
returns-in-Another-clause-start c = (c.requires, rw c.in-Another.is refl)

pub returns-then-may_miss-clause-start : goal.returns-then-may_miss-clause-start
returns-then-may_miss-clause-start c = (c.requires, subst (λ (f : Follows). StartsAt f c.args.self.now []) (sym c.in-Nothing.is) (rw c.if-may_miss.true at c.may_miss.ensures))

pub returns-else-may_miss-clause-refused : goal.returns-else-may_miss-clause-refused
returns-else-may_miss-clause-refused c = rw c.in-Nothing.is (c.requires, rw c.if-may_miss.false at c.may_miss.ensures)

pub returns-in-Row-clause-refused : goal.returns-in-Row-clause-refused
returns-in-Row-clause-refused c = rw c.in-Row.is tt
