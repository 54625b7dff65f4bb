-- What is read so far stands before the rest.
use Rattle.std.proofs.Common.{◌≡◌, IsUtf8, length}
use Rattle.std.specs.String.{string_bytes}
use Rattle.filter_sql.specs.Lexing.{unquoted_at}
use Rattle.filter_sql.proofs.Cuts.{behind}
use Rattle.filter_sql.proofs.lex.unquoted.Given as goal

abbrev pub invariant-loop-part : goal.invariant-loop-part
invariant-loop-part l = record {
  read : behind (string_bytes l.content) (unquoted_at l.quote l.rest) ≡ unquoted_at l.quote l.text;
  utf8 : IsUtf8 l.rest;
}

abbrev pub decreases-loop-part : goal.decreases-loop-part
decreases-loop-part l = length l.rest
