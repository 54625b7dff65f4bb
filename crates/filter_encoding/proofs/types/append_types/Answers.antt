-- Their number, and then each.
use Rattle.std.proofs.Common.{length, map, refl}
use Rattle.vortex_dtype.specs.TypeOf.{type_of}
use Rattle.filter_encoding.specs.Encoding.{IsPlain, type_bytes}
use Rattle.filter_encoding.specs.Lists.{AreListed}
use Rattle.filter_encoding.proofs.ListLaws.{fit_of, list_written}
use Rattle.filter_encoding.proofs.WriteSteps.{passed_on}
use Rattle.filter_encoding.proofs.types.append_types.Goals as goal

pub returns-in_err-append_place : goal.returns-in_err-append_place
returns-in_err-append_place c =
    let w = c.in_err-append_place.ensures in
    passed_on _ _ (AreListed IsPlain (map type_of c.args.dtypes.now)) _ _ _ _ _ c.from_residual.ensures (λ h. fit_of type_of c.args.dtypes.now (length c.args.dtypes.now) refl h.fit) w.0 w.1

pub returns : goal.returns
returns c = list_written type_bytes IsPlain IsPlain type_of c.args.dtypes.now (length c.args.dtypes.now) c.append_each.result _ _ _ refl c.in_ok-append_place.ensures c.append_each.ensures
