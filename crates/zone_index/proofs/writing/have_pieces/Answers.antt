-- A zone more, one that has no such pieces, and all of them.
use Rattle.std.proofs.Common.{◌≡◌, ◌<◌, ◌+◌, ℕ, List, arith, length, rules, subst, sym, take}
use Rattle.zone_index.specs.Encoding.{ArePieces, HavePieces, ZoneValue, zone_value, zone_values}
use Rattle.zone_index.proofs.WriteSteps.{all_taken, pieces_with, taken_more, zone_pieces}
use Rattle.zone_index.proofs.writing.have_pieces.Goals as goal

pub loop-zone-preserved : goal.loop-zone-preserved
loop-zone-preserved c =
    let zones = c.args.zones.now in
    let i = c.loop-zone.zone-index in
    let item = c.zone-item.result in
    let inside : i < length zones = search rules in
    let one : (pieces : List (List ℕ)) × ArePieces c.args.columns item.statistics.items pieces =
    subst (λ (bytes : List ℕ). (pieces : List (List ℕ)) × ArePieces c.args.columns bytes pieces) c.deref.ensures.value (c.are_pieces.ensures.are (search rules)) in
    pieces_with c.args.columns (zone_values (take i zones)) (zone_values (take (i + 1) zones)) (zone_value item) (taken_more zone_value zones i item inside c.zone-item.is) c.loop-zone.invariant one

pub returns-then-not-are_pieces-clause-none : goal.returns-then-not-are_pieces-clause-none
returns-then-not-are_pieces-clause-none c = λ no pieces have.
    let zones = c.args.zones.now in
    let i = c.loop-zone.zone-index in
    let item = c.zone-item.result in
    let inside : i < length zones = search rules in
    let one = zone_pieces zone_value c.args.columns zones i item inside c.zone-item.is pieces have in
    c.are_pieces.ensures.none (search rules) one.0 (subst (λ (bytes : List ℕ). ArePieces c.args.columns bytes one.0) (sym c.deref.ensures.value) one.1)

pub returns-clause-have : goal.returns-clause-have
returns-clause-have c = λ yes.
    subst (λ (zs : List ZoneValue). (pieces : List (List (List ℕ))) × HavePieces c.args.columns zs pieces) (all_taken zone_value c.args.zones.now c.loop-zone.zone-index (search rules)) c.loop-zone.invariant
