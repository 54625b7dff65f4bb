-- The tokens so far lead to the rest.
use Rattle.std.proofs.Common.{◌≤◌, IsUtf8, length}
use Rattle.filter_sql.specs.Texts.{Leads, items, trimmed}
use Rattle.filter_sql.proofs.lex.lex.Given as goal

abbrev pub invariant-loop-rest : goal.invariant-loop-rest
invariant-loop-rest l = record {
  read : Leads (length l.text) (trimmed l.text) (items l.placed.items) l.rest;
  within : length l.rest ≤ length l.text;
  utf8 : IsUtf8 l.rest;
}

abbrev pub decreases-loop-rest : goal.decreases-loop-rest
decreases-loop-rest l = length l.rest
