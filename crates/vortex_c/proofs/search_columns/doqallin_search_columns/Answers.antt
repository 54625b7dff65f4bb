-- What is written, or why nothing is, of what is sought.
use Rattle.std.proofs.Common.{inr}
use Rattle.vortex_filter.specs.Formula.{formula}
use Rattle.vortex_c.proofs.search_columns.doqallin_search_columns.Goals as goal

pub returns-in-Ok-clause-given : goal.returns-in-Ok-clause-given
returns-in-Ok-clause-given c = λ g. record { schema = c.in-Ok.sought.schema; f = formula c.in-Ok.sought.filter; sought = c.in-Ok.ensures.sought; found = c.columns_into.ensures.given g }

pub returns-in-Ok-clause-counted : goal.returns-in-Ok-clause-counted
returns-in-Ok-clause-counted c = λ g. record { schema = c.in-Ok.sought.schema; f = formula c.in-Ok.sought.filter; sought = c.in-Ok.ensures.sought; counts = c.columns_into.ensures.counted g }

pub returns-in-Ok-clause-refused : goal.returns-in-Ok-clause-refused
returns-in-Ok-clause-refused c = λ other. inr (c.in-Ok.sought.schema, formula c.in-Ok.sought.filter, c.in-Ok.ensures.sought, c.columns_into.ensures.refused other)
