-- Both pieces are encodings of the type, and so is what is merged of them; else the first that is none decides.
use Rattle.std.proofs.Common.{inr}
use Rattle.column_cells.specs.Types.{type_of_kind}
use Rattle.vortex_dtype.specs.TypeOf.{type_of}
use Rattle.vortex_statistics.specs.Statistics.{known}
use Rattle.column_statistics.proofs.EncodingLaws.{first_wrong, merged_encoding_of, merged_keyed, second_wrong}
use Rattle.column_statistics.specs.Encodings.{IsPieceOf}
use Rattle.column_statistics.proofs.encodings.merged_encoding.Goals as goal

pub written-requires : goal.written-requires
written-requires c =
    let h = c.in-Ok-merge.ensures in
    merged_keyed (type_of_kind c.args.kind) c.args.one.now c.args.other.now (known c.in-Ok-read_as.first) (known c.in-Ok-read_as-2.second) (known c.in-Ok-merge.both) c.in-Ok-read_as.ensures.read c.in-Ok-read_as-2.ensures.read h.fits h.value

pub returns-in-Some-clause-encoding : goal.returns-in-Some-clause-encoding
returns-in-Some-clause-encoding c =
    let h = c.in-Ok-merge.ensures in
    let one : IsPieceOf c.args.kind c.args.one.now (known c.in-Ok-read_as.first) = record { is_encoding = c.in-Ok-read_as.ensures.read; values = c.in-Ok-read_as.ensures.values } in
    let other : IsPieceOf c.args.kind c.args.other.now (known c.in-Ok-read_as-2.second) = record { is_encoding = c.in-Ok-read_as-2.ensures.read; values = c.in-Ok-read_as-2.ensures.values } in
    merged_encoding_of c.args.kind (type_of c.in-Ok.dtype) c.args.one.now c.args.other.now c.in-Some.bytes.items (known c.in-Ok-read_as.first) (known c.in-Ok-read_as-2.second) (known c.in-Ok-merge.both)
    c.in-Ok.ensures.made one other h.fits h.value h.right c.in-Some.ensures.written

pub returns-in-Err-clause-refused : goal.returns-in-Err-clause-refused
returns-in-Err-clause-refused c =
    first_wrong c.args.kind c.args.one.now c.args.other.now c.in-Err.fault c.fault_of_piece.result c.fault_of_piece.ensures c.in-Err.ensures.refused

pub returns-in-Err-read_as-clause-refused : goal.returns-in-Err-read_as-clause-refused
returns-in-Err-read_as-clause-refused c =
    let one : IsPieceOf c.args.kind c.args.one.now (known c.in-Ok-read_as.first) = record { is_encoding = c.in-Ok-read_as.ensures.read; values = c.in-Ok-read_as.ensures.values } in
    second_wrong c.args.kind c.args.one.now c.args.other.now (known c.in-Ok-read_as.first) c.in-Err-read_as.fault c.fault_of_piece-in-Err-read_as.result c.fault_of_piece-in-Err-read_as.ensures
    one c.in-Err-read_as.ensures.refused

pub returns-in-Err-merge-clause-refused : goal.returns-in-Err-merge-clause-refused
returns-in-Err-merge-clause-refused c = record {
  first = known c.in-Ok-read_as.first;
  second = known c.in-Ok-read_as-2.second;
  is_first = record { is_encoding = c.in-Ok-read_as.ensures.read; values = c.in-Ok-read_as.ensures.values };
  is_second = record { is_encoding = c.in-Ok-read_as-2.ensures.read; values = c.in-Ok-read_as-2.ensures.values };
  many = c.in-Err-merge.ensures.refused.1;
}

pub returns-clause-refused : goal.returns-clause-refused
returns-clause-refused c = inr (inr (inr (record {
  first = known c.in-Ok-read_as.first;
  second = known c.in-Ok-read_as-2.second;
  is_first = record { is_encoding = c.in-Ok-read_as.ensures.read; values = c.in-Ok-read_as.ensures.values };
  is_second = record { is_encoding = c.in-Ok-read_as-2.ensures.read; values = c.in-Ok-read_as-2.ensures.values };
  few = c.in-Ok-merge.ensures.fits;
})))
