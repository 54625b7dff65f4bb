-- The next column takes a null, or none.
use Rattle.std.proofs.Common.{drop, refl}
use Rattle.record_rows.proofs.Walking.{fitted_missing, missing_not, misses}
use Rattle.record_rows.proofs.fields.FieldWalk.may_miss.Goals as goal

pub returns-in-Nullable : goal.returns-in-Nullable
returns-in-Nullable c =
    let walk = c.args.self.now in
    misses walk _ c.requires c.in-Nullable.is walk.is_lenient refl

pub returns-in-NonNullable : goal.returns-in-NonNullable
returns-in-NonNullable c =
    let walk = c.args.self.now in
    fitted_missing walk.is_lenient (drop walk.place walk.columns.now) (missing_not walk.columns.now walk.place _ c.requires c.in-NonNullable.is)
