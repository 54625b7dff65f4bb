-- A zone more, and one whose statistics are no pieces.
use Rattle.std.proofs.Common.{◌≡◌, ◌+◌, ℕ, List, Vec, Err, ap, arith, drop, length, map, rules, subst, sym, take, take_at}
use Rattle.std.specs.Global.{Global}
use Rattle.zone_index.specs.Encoding.{AreDealt, zone_value, zone_values}
use Rattle.zone_index.specs.EncodingReading.{dealt_at}
use Rattle.zone_index.proofs.WriteSteps.{AreBlocks, all_taken, append, blocks_with, no_pieces, none_yet, taken_more}
use Rattle.zone_index.proofs.writing.blocks_of.Goals as goal

abbrev view : Vec ℕ Global → List ℕ
view b = b.items

pub loop-zone-init : goal.loop-zone-init
loop-zone-init c = none_yet c.args.columns (map view c.in_ok-blocks.blocks.items) c.in_ok-blocks.ensures

pub unreachable-requires : goal.unreachable-requires
unreachable-requires c =
    let f = c.in-Err-Fault.field-0-0 in
    let fails : dealt_at append (map view c.deref_mut.result.now) c.deref.result.now ≡ Err f = rw c.in-Err-Fault.field-0-is at c.in-Err-Fault.ensures.exact in
    let here : dealt_at append (map view c.loop-zone.blocks.items) c.deref.result.now ≡ Err f = subst (λ (bs : List (Vec ℕ Global)). dealt_at append (map view bs) c.deref.result.now ≡ Err f) c.deref_mut.ensures.value fails in
    let there : dealt_at append (map view c.loop-zone.blocks.items) c.zone-item.result.statistics.items ≡ Err f = subst (λ (s : List ℕ). dealt_at append (map view c.loop-zone.blocks.items) s ≡ Err f) c.deref.ensures.value here in
    no_pieces zone_value c.args.columns _ c.args.zones.now c.loop-zone.zone-index c.zone-item.result (map view c.loop-zone.blocks.items) f c.loop-zone.invariant (search rules) c.zone-item.is there c.requires.0 c.requires.1

pub loop-zone-preserved : goal.loop-zone-preserved
loop-zone-preserved c =
    let old = c.loop-zone.blocks.items in
    let new = c.deal.new.blocks in
    let long : length new ≡ length old = omega (arith, c.deal.auto.blocks, c.deref_mut.ensures.len, ap length c.deref_mut.ensures.value) in
    let back = take_at new (drop (length new) old) c.loop-zone.blocks.len (omega (arith, long)) in
    let one : AreDealt append (map view c.deref_mut.result.now) c.deref.result.now (map view new) = c.in-Ok.ensures.dealt in
    let here : AreDealt append (map view old) c.deref.result.now (map view new) = subst (λ (bs : List (Vec ℕ Global)). AreDealt append (map view bs) c.deref.result.now (map view new)) c.deref_mut.ensures.value one in
    let there : AreDealt append (map view old) c.zone-item.result.statistics.items (map view new) = subst (λ (s : List ℕ). AreDealt append (map view old) s (map view new)) c.deref.ensures.value here in
    let more = taken_more zone_value c.args.zones.now c.loop-zone.zone-index c.zone-item.result (search rules) c.zone-item.is in
    let with_it = blocks_with c.args.columns _ _ (zone_value c.zone-item.result) (map view old) (map view new) more c.loop-zone.invariant there in
    subst (λ (bs : List (Vec ℕ Global)). AreBlocks c.args.columns (zone_values (take (c.loop-zone.zone-index + 1) c.args.zones.now)) (map view bs)) (sym back) with_it

pub returns : goal.returns
returns c =
    let all = subst (λ zs. AreBlocks c.args.columns zs (map view c.loop-zone.blocks.items)) (all_taken zone_value c.args.zones.now c.loop-zone.zone-index (search rules)) c.loop-zone.invariant in
    (all.pieces, all.have, all.are)
