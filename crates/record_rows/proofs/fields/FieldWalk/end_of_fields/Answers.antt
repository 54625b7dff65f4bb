-- The fields that follow are passed over, or none follows.
use Rattle.std.proofs.Common.{refl}
use Rattle.record_rows.proofs.fields.FieldWalk.end_of_fields.Goals as goal

pub returns-in-Nothing-clause-end : goal.returns-in-Nothing-clause-end
returns-in-Nothing-clause-end c = (c.requires, rw c.in-Nothing.is refl)

pub returns-in-Row-clause-refused : goal.returns-in-Row-clause-refused
returns-in-Row-clause-refused c = rw c.in-Row.is tt
