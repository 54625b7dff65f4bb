-- What the search answers of the keys holds of the contents.
use Rattle.std.proofs.Common.{get_or}
use Rattle.law_callers.proofs.KeySteps.{equal-found, never-falls, none-equal}
use Rattle.law_callers.proofs.key_laws.find_by_key.Goals as goal

pub returns-in-Ok : goal.returns-in-Ok
returns-in-Ok c = λ d. equal-found c.keys_are_apart.ensures (get_or c.args.column.now c.in-Ok.place d) c.args.sought.now (c.in-Ok.ensures.ok d)

pub returns-in-Err : goal.returns-in-Err
returns-in-Err c =
    none-equal c.args.column.now c.args.sought.now c.in-Err.field-0
    (c.in-Err.ensures.position (never-falls c.keys_are_ordered.ensures c.args.column.now c.args.sought.now c.requires))
