-- The bytes so far were taken from the front of the reader, and have no line feed.
use Rattle.std.proofs.Common.{◌≡◌, ◌≢◌, ◌≤◌, All, length, drop, vec_len, vec_items}
use Rattle.std.specs.Io.{StartsWith}
use Rattle.std.specs.Io.KnownBytes.{Consumes}
use Rattle.zone_index.proofs.lines.read_line.Given as goal

abbrev pub invariant-loop : goal.invariant-loop
invariant-loop g l = record {
  start : l.start ≡ vec_len l.initial.text;
  grows : l.start ≤ vec_len l.text;
  appends : StartsWith (vec_items l.text) (vec_items l.initial.text);
  no_feed : All (λ x. x ≢ 10) (drop (length (vec_items l.initial.text)) (vec_items l.text));
  bytes : Consumes (g.B.Read.remaining l.initial.reader) (g.B.Read.remaining l.reader) (drop (length (vec_items l.initial.text)) (vec_items l.text));
}
