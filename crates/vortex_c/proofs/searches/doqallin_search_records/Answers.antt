-- What is found, or the record that is refused, of what is sought.
use Rattle.std.proofs.Common.{inr}
use Rattle.vortex_filter.specs.Formula.{formula}
use Rattle.vortex_c.proofs.searches.doqallin_search_records.Goals as goal

pub returns-in-Ok-clause-given : goal.returns-in-Ok-clause-given
returns-in-Ok-clause-given c = λ g. record { schema = c.in-Ok.sought.schema; f = formula c.in-Ok.sought.filter; sought = c.in-Ok.ensures.sought; found_in = c.find_into.ensures.given g }

pub returns-in-Ok-clause-refused : goal.returns-in-Ok-clause-refused
returns-in-Ok-clause-refused c = λ other. inr (c.in-Ok.sought.schema, formula c.in-Ok.sought.filter, c.in-Ok.ensures.sought, c.find_into.ensures.refused other)

pub returns-in-Ok-clause-part : goal.returns-in-Ok-clause-part
returns-in-Ok-clause-part c = λ was.
    let told = c.find_into.ensures.part was in
    record { schema = c.in-Ok.sought.schema; f = formula c.in-Ok.sought.filter; sought = c.in-Ok.ensures.sought; refusal = told.0; part = told.1 }

pub returns-in-Ok-clause-some : goal.returns-in-Ok-clause-some
returns-in-Ok-clause-some c = λ was.
    let told = c.find_into.ensures.some was in
    inr (record { schema = c.in-Ok.sought.schema; f = formula c.in-Ok.sought.filter; sought = c.in-Ok.ensures.sought; searched = told.0; part = told.1 })
