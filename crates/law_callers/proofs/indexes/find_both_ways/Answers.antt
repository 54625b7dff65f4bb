-- Both are what is written of all records that match.
use Rattle.law_callers.proofs.indexes.find_both_ways.Goals as goal

pub returns-clause-same : goal.returns-clause-same
returns-clause-same g c = λ header bytes long is held whole. (_, c.in_ok-is_kept.ensures.found header bytes long is held, c.in_ok-find_rest.ensures.written bytes whole)
