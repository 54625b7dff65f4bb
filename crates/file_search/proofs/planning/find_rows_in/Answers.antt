-- The matcher is that of what is sought.
use Rattle.std.proofs.Common.{subst}
use Rattle.std.specs.Prelude.{IfErr}
use Rattle.record_rows.specs.declared.schema.Schema.{Schema}
use Rattle.record_search.specs.Searched.{is_refused, records_under}
use Rattle.zone_index.specs.Errors.{IfRefused, TellsOffset, before_refused}
use Rattle.file_search.proofs.planning.find_rows_in.Goals as goal

pub returns-clause-first : goal.returns-clause-first
returns-clause-first c =
    subst (λ (s : Schema). IfErr c.find_records.result (IfRefused (TellsOffset c.args.start.place (before_refused (is_refused s) (records_under s c.args.text.now))))) c.matcher.ensures.schema c.find_records.ensures.first
