-- The matcher is that of what is sought.
use Rattle.std.proofs.Common.{subst}
use Rattle.std.specs.Prelude.{IfSome}
use Rattle.record_rows.specs.declared.schema.Schema.{Schema}
use Rattle.record_search.specs.Searched.{is_refused, records_under}
use Rattle.zone_index.specs.Errors.{IfRefused, TellsOffset, before_refused}
use Rattle.file_search.proofs.planning.find_rows_until_fault.Goals as goal

pub returns-clause-first : goal.returns-clause-first
returns-clause-first c =
    subst (λ (s : Schema). IfSome c.find_records_until_fault.result.fault (IfRefused (TellsOffset c.args.start.place (before_refused (is_refused s) (records_under s c.args.text.now))))) c.matcher.ensures.schema c.find_records_until_fault.ensures.first
