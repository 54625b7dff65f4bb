-- The parts are the whole.
use Rattle.std.proofs.Common.{◌<◌, ◌^◌, ◌++◌, ◌∙◌, ℕ, List, Vec, ap, length, map, subst, sym}
use Rattle.std.proofs.lemmas.List.{length-map}
use Rattle.std.specs.Global.{Global}
use Rattle.std.specs.Int.{to_le_bytes, w64}
use Rattle.std.specs.List.{AllByRecursion, flat_map}
use Rattle.zone_index.specs.Encoding.{FitsZone, index_value, zone_encoding, zone_value, zone_values}
use Rattle.zone_index.specs.declared.zones.Zone.{Zone}
use Rattle.zone_index.proofs.WriteSteps.{content_whole}
use Rattle.zone_index.proofs.writing.content_of.Goals as goal

abbrev view : Vec ℕ Global → List ℕ
view b = b.items

pub returns-clause-content : goal.returns-clause-content
returns-clause-content c =
    let zones = c.args.index.now.zones.items in
    let blocks = c.args.blocks.now in
    content_whole (index_value c.args.index.now) (map view blocks) (length zones) (length blocks) c.new-output.result.items c.push_file.new.output.items c.push_counted_zones.new.output.items _ (sym (length-map zones zone_value)) (sym (length-map blocks view)) c.new-output.ensures.items c.in_ok-push_file.ensures.pushed
    (c.in_ok-push_counted_zones.ensures.pushed ∙ ap (λ (zs : List Zone). c.push_file.new.output.items ++ (to_le_bytes w64 (length zs) ++ flat_map zone_encoding (zone_values zs))) c.deref.ensures.value) c.in_ok-push_counted_blocks.ensures.pushed

pub returns-clause-fits : goal.returns-clause-fits
returns-clause-fits c =
    let zones = c.args.index.now.zones.items in
    let blocks = c.args.blocks.now in
    let few : length zones < 2 ^ 64 = subst (λ (zs : List Zone). length zs < 2 ^ 64) c.deref.ensures.value c.in_ok-push_counted_zones.ensures.count in
    record {
      file = c.in_ok-push_file.ensures.fits;
      count = subst (λ (n : ℕ). n < 2 ^ 64) (sym (length-map zones zone_value)) few;
      zones = subst (λ (zs : List Zone). AllByRecursion FitsZone (zone_values zs)) c.deref.ensures.value c.in_ok-push_counted_zones.ensures.fits;
      columns = subst (λ (n : ℕ). n < 2 ^ 64) (sym (length-map blocks view)) c.in_ok-push_counted_blocks.ensures.count;
      blocks_long = c.in_ok-push_counted_blocks.ensures.fits;
    }
