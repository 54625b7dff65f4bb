use Rattle.std.proofs.Common.{◌≡◌, refl, ◌∙◌}
use Rattle.std.specs.Str.{bytes_eq}
use Rattle.vortex_dtype.specs.Names.{ids_left}
use Rattle.vortex_value.proofs.SameIds.{eq_compares}
use Rattle.vortex_value.proofs.cast.rules.same_ids.Goals as goal

pub returns : goal.returns
returns c =
    let d = c.eq.ensures.ran in
    let same : c.eq.result ≡ bytes_eq (ids_left c.type_ids.result) (ids_left d.0) =
    eq_compares ids_left c.eq.result d.1 d.2 d.3 d.4 c.type_ids.result d.0 d.5 d.6 d.8 d.9 d.10 d.11 in
    let other : d.0 ≡ c.type_ids-2.result = d.7 in
    same ∙ rw (c.type_ids.ensures, other, c.type_ids-2.ensures) refl
