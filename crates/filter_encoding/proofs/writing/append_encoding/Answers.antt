-- Clause by clause.
use Rattle.filter_encoding.specs.Encoding.{CanBeWritten, IsWritten, encoding, parts_of}
use Rattle.filter_encoding.proofs.ReadableLaws.{can_be_read, could_be_written}
use Rattle.filter_encoding.proofs.WriteSteps.{appended_of, begun_of, known_of, no_encoding_of, refused_of}
use Rattle.filter_encoding.proofs.writing.append_encoding.Goals as goal

pub returns : goal.returns
returns c =
    let n = c.args.depth in
    let p = parts_of c.args.columns.now c.args.filter.now in
    let r = c.append_parts.result in
    let w = c.append_parts.ensures in
    record {
      appended = appended_of (IsWritten n p) (CanBeWritten n p) (encoding p) r _ _ w;
      written = known_of (IsWritten n p) (CanBeWritten n p) _ (encoding p) r _ _ (could_be_written n p) w;
      readable = known_of (IsWritten n p) (CanBeWritten n p) _ (encoding p) r _ _ (can_be_read n c.args.columns.now c.args.filter.now) w;
      no_encoding = no_encoding_of (IsWritten n p) (CanBeWritten n p) (encoding p) r _ _ w;
      refused = refused_of (IsWritten n p) (CanBeWritten n p) (encoding p) r _ _ w;
      begun = begun_of (IsWritten n p) (CanBeWritten n p) (encoding p) r _ _ w;
    }
