-- The zones are those that the setup says; or why there are none.
use Rattle.std.proofs.Common.{inl, inr}
use Rattle.vortex_c.proofs.indexes.doqallin_index_records.Goals as goal

pub returns-in-Ok-clause-given : goal.returns-in-Ok-clause-given
returns-in-Ok-clause-given c = λ g.
    record { read = c.in-Ok.setup; schema = c.in-Ok.schema; is = c.in-Ok.ensures.is; schema_is = c.in-Ok.ensures.schema; near = c.index_into.ensures.near (inl g); zones_are = c.index_into.ensures.given g }

pub returns-in-Ok-clause-needed : goal.returns-in-Ok-clause-needed
returns-in-Ok-clause-needed c = λ has.
    let all = c.index_into.ensures.needed has in
    (all.0, all.1, record { read = c.in-Ok.setup; schema = c.in-Ok.schema; is = c.in-Ok.ensures.is; schema_is = c.in-Ok.ensures.schema; near = c.index_into.ensures.near has; zones_are = all.2 }, all.3, all.4)

pub returns-in-Ok-clause-refused : goal.returns-in-Ok-clause-refused
returns-in-Ok-clause-refused c =
    elim c.index_into.ensures.refused [
      | inl has ↦ inl has
      | inr why ↦ inr (inr (c.in-Ok.setup, c.in-Ok.schema, c.in-Ok.ensures.is, c.in-Ok.ensures.schema, why))
    ]
