-- What is read of the merged bytes is right for both pieces.
use Rattle.std.proofs.Common.{◌≡◌, rules, subst}
use Rattle.column_cells.specs.Types.{type_of_kind}
use Rattle.column_statistics.specs.Encodings.{IsEncodingAs}
use Rattle.vortex_statistics.specs.Statistics.{known}
use Rattle.law_callers.proofs.PieceSteps.{both_right, merged_of}
use Rattle.law_callers.proofs.column_pieces.statistics_of_pieces.Goals as goal

pub returns-in-Ok-read_encoding-clause-right : goal.returns-in-Ok-read_encoding-clause-right
returns-in-Ok-read_encoding-clause-right c =
    let t = type_of_kind c.args.kind in
    let one = c.in-Ok.one.items in
    let other = c.in-Ok-column_encoding.other.items in
    let both = c.in-Ok-merged_encoding.both.items in
    let s = known c.in-Ok-read_encoding.statistics in
    let first : c.deref.result.now ≡ c.in-Ok.one.items = search rules in
    let second : c.deref-2.result.now ≡ c.in-Ok-column_encoding.other.items = search rules in
    let third : c.deref-3.result.now ≡ c.in-Ok-merged_encoding.both.items = search rules in
    both_right c.encodings_stay_right.ensures c.args.kind c.args.first c.args.second c.args.limit one other both s c.requires.first c.requires.second c.in-Ok.ensures.encoding c.in-Ok-column_encoding.ensures.encoding
    (merged_of c.args.kind one other c.deref.result.now c.deref-2.result.now both first second c.in-Ok-merged_encoding.ensures.encoding)
    (subst (λ bs. IsEncodingAs t bs s) third c.in-Ok-read_encoding.ensures.read)
