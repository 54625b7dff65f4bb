-- The first records that the reader has at hand, or none.
use Rattle.std.proofs.Common.{◌≡◌, drop, sym, ap, subst, ◌∙◌, rules, length, le_refl, drop_of_length-le, []}
use Rattle.std.specs.Io.{appended_bytes}
use Rattle.std.specs.Io.KnownBytes.{Consumes}
use Rattle.std.specs.Io.BufRead.{FillKeeps}
use Rattle.std.proofs.KnownBytes.{Consumes-nil, Consumes-kept}
use Rattle.std.proofs.BufReadLemmas.{Consumes_shown}
use Rattle.std.proofs.Transfers.{starts_with_of_eq, starts_with_of_append, drop-appended}
use Rattle.csv.specs.declared.parser.State.TheVariants.{StartRecord}
use Rattle.zone_index.specs.Taking.{AreWhole}
use Rattle.zone_index.proofs.taking.append_plain.Goals as goal

pub returns-in_err-extend_from_slice : goal.returns-in_err-extend_from_slice
returns-in_err-extend_from_slice g c =
    let items = c.in_err-extend_from_slice.ensures.items in
    let none : appended_bytes c.args.text.now.items c.extend_from_slice.new.self.items ≡ [] = ap (drop (length c.args.text.now.items)) items ∙ drop_of_length-le c.args.text.now.items (le_refl _) in
    record { few = search rules; appends = starts_with_of_eq _ _ items; bytes = subst (Consumes _ _) (sym none) (Consumes-kept _ _ _ [] (Consumes-nil _) c.fill_buf.follows.holds-at-none.0); whole = search rules }

pub returns : goal.returns
returns g c =
    let items = c.in_ok-extend_from_slice.ensures.items in
    let tail = sym (drop-appended _ _ _ items) in
    let front = c.plain_front-end in
    let rested = c.fill_buf.follows.lender-at-none in
    let filled = subst (FillKeeps _ (g.B.Read.remaining rested) (g.B.BufRead.consumable_len rested)) c.in-Ok.is c.fill_buf.follows.holds-at-none in
    let moved = Consumes_shown _ _ _ _ c.in-Ok.available.now front.result.0 front.ensures.within c.in-Ok.ensures.front c.in-Ok.ensures.end filled.0 filled.1 c.consume.ensures.bytes in
    record {
      few = front.ensures.few;
      appends = starts_with_of_append _ _ _ items;
      bytes = subst (Consumes _ _) tail moved.0;
      whole = subst (AreWhole c.args.delimiter.byte StartRecord front.result.1) tail front.ensures.whole;
    }
