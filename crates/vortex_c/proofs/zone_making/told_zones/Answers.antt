-- The zones of the front.
use Rattle.std.proofs.Common.{◌≡◌, ◌∙◌, ◌++◌, ℕ, List, arith, drop, length, refl, subst, sym, take}
use Rattle.std.proofs.lemmas.List.{length-take}
use Rattle.zone_index.specs.Zones.{IsIndexOf}
use Rattle.vortex_c.specs.IndexCuts.{IsZoneCut}
use Rattle.vortex_c.proofs.FullZones.{full_zones}
use Rattle.vortex_c.proofs.zone_making.told_zones.Goals as goal

pub returns-in-Ok-in_numbers-clause-told : goal.returns-in-Ok-in_numbers-clause-told
returns-in-Ok-in_numbers-clause-told g c =
    let text = c.args.text.now in
    let taken = c.taken_length-taken.result in
    let d = g.D.Records.delimiter c.args.describer.now in
    let front = take taken text in
    let zones = c.in-Ok.indexed.zones.items in
    let long : length front ≡ taken = omega (arith, length-take taken text, c.taken_length-taken.ensures.within) in
    let cut : IsZoneCut d c.args.size text c.args.is_end front (drop taken text) = subst (λ (b : ℕ). IsZoneCut b c.args.size text c.args.is_end front (drop taken text)) c.delimiter_byte.ensures c.taken_length-taken.ensures.cut in
    let index : (before : List ℕ) → length before ≡ c.args.start → IsIndexOf d (g.D.Records.has_row c.args.describer.now) (g.D.Describer.DescribesFully c.args.describer.now) c.args.start zones (before ++ front) = λ before long. c.in-Ok.ensures.full before front long refl in
    let sizes = c.in-Ok.ensures.sizes front refl in
    record {
      front = front;
      rest = drop taken text;
      zones = zones;
      cut = cut;
      index = index;
      sizes = sizes;
      full = λ unended. full_zones d c.args.size c.args.start (cut.full unended).0 _ _ front zones c.requires index sizes (cut.full unended).1;
      passed = c.in-Ok.ensures.passed front refl;
      numbers_are = c.in-Ok-in_numbers.ensures.zones;
      statistics_are = c.in-Ok-in_numbers.ensures.statistics;
      taken_are = c.in-Ok-in_numbers.ensures.taken ∙ sym long;
      nulls_are = c.in-Ok-in_numbers.ensures.nulls ∙ c.in-Ok.ensures.nulls front refl;
      longer_are = c.in-Ok-in_numbers.ensures.longer ∙ c.in-Ok.ensures.longer front refl;
    }
