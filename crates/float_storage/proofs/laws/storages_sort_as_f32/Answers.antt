-- A float's type says that its format holds it.
use Rattle.std.proofs.Common.{T, subst, sym}
use Rattle.std.specs.Float.{binary32}
use Rattle.std.proofs.lemmas.Float.{T_from_true}
use Rattle.float_storage.proofs.Order.{le_of_storages, le_to_storages, one_storage, order_of_storages}
use Rattle.float_storage.proofs.laws.storages_sort_as_f32.Goals as goal

pub returns-clause-order : goal.returns-clause-order
returns-clause-order c = order_of_storages binary32 c.args.x c.args.y (subst T (sym c.well_formed.0.1) tt) (subst T (sym c.well_formed.1.0.1) tt)

pub returns-clause-keeps : goal.returns-clause-keeps
returns-clause-keeps c = le_to_storages binary32 c.args.x c.args.y (subst T (sym c.well_formed.0.1) tt) (subst T (sym c.well_formed.1.0.1) tt)

pub returns-clause-reflects : goal.returns-clause-reflects
returns-clause-reflects c = le_of_storages binary32 c.args.x c.args.y (subst T (sym c.well_formed.0.1) tt) (subst T (sym c.well_formed.1.0.1) tt)

pub returns-clause-equal : goal.returns-clause-equal
returns-clause-equal c = λ h. one_storage binary32 c.args.x c.args.y (subst T (sym c.well_formed.0.1) tt) (subst T (sym c.well_formed.1.0.1) tt) (T_from_true _ h)
