-- No field is given before the first one.
use Rattle.std.proofs.Common.{[], arith, refl, rules}
use Rattle.record_rows.proofs.fields.FieldWalk.of.Goals as goal

pub returns : goal.returns
returns c = record {
  delimiter_is = refl;
  lenient_is = c.is_lenient.ensures;
  columns_are = search rules;
  place = refl;
  within = omega arith;
  shorter = refl;
  read = [];
  few = omega arith;
  follow = refl;
  given = refl;
}
