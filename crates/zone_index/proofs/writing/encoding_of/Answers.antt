-- The root, and the blocks.
use Rattle.std.proofs.Common.{◌≡◌, ◌<◌, ◌^◌, ◌++◌, ◌∙◌, ℕ, List, Vec, ap, length, map, subst, sym}
use Rattle.std.specs.Global.{Global}
use Rattle.std.specs.List.{concat}
use Rattle.sha2.specs.Sha256.{sha256}
use Rattle.zone_index.specs.Encoding.{FitsContent, HavePieces, blocks_of, bytes_encoding, content_encoding, index_value, root_of, zone_values}
use Rattle.zone_index.specs.declared.zones.Zone.{Zone}
use Rattle.zone_index.proofs.WriteSteps.{written}
use Rattle.zone_index.proofs.writing.encoding_of.Goals as goal

abbrev view : Vec ℕ Global → List ℕ
view b = b.items

pub blocks_of-requires : goal.blocks_of-requires
blocks_of-requires c = subst (λ (zs : List Zone). (pieces : List (List (List ℕ))) × HavePieces c.args.columns (zone_values zs) pieces) (sym c.deref.ensures.value) c.requires

pub returns : goal.returns
returns c =
    let n = c.args.columns in
    let x = index_value c.args.index.now in
    let bs = map view c.in_ok-blocks.blocks.items in
    let made = subst (λ (zs : List Zone). (pieces : List (List (List ℕ))) × HavePieces n (zone_values zs) pieces × (bs ≡ blocks_of n pieces)) c.deref.ensures.value c.in_ok-blocks.ensures in
    let fits = subst (λ (l : List (Vec ℕ Global)). FitsContent x (map view l)) c.deref-2.ensures.value c.in_ok-content.ensures.fits in
    let content = c.in_ok-content.ensures.content ∙ ap (λ (l : List (Vec ℕ Global)). content_encoding (root_of x (map view l))) c.deref-2.ensures.value in
    written n x bs c.in_ok-content.content.items c.new-output.result.items c.extend_from_slice.new.self.items c.extend_from_slice-2.new.self.items c.push_signed.new.output.items _ made fits content (subst (λ (l : List ℕ). length l < 2 ^ 64) c.deref-3.ensures.value c.in_ok-push_signed.ensures.fits) c.new-output.ensures.items
    (c.in_ok-extend_from_slice.ensures.items ∙ ap (λ (l : List ℕ). c.new-output.result.items ++ l) c.to_le_bytes.ensures)
    (c.in_ok-extend_from_slice-2.ensures.items ∙ ap (λ (l : List ℕ). c.extend_from_slice.new.self.items ++ l) c.to_le_bytes-2.ensures)
    (c.in_ok-push_signed.ensures.pushed ∙ ap (λ (l : List ℕ). c.extend_from_slice-2.new.self.items ++ (bytes_encoding l ++ sha256 l)) c.deref-3.ensures.value)
    (c.in_ok-push_all.ensures ∙ ap (λ (l : List (Vec ℕ Global)). c.push_signed.new.output.items ++ concat (map view l)) c.deref-4.ensures.value)
