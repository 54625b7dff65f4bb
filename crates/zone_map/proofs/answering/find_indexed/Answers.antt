-- A flush keeps what was written.
use Rattle.zone_map.proofs.Flushing.{find_flushed}
use Rattle.zone_map.proofs.answering.find_indexed.Goals as goal

pub returns-clause-answer : goal.returns-clause-answer
returns-clause-answer g c = find_flushed _ _ _ _ _ _ _ _ _ _ _ _ (g.S.Sink.contents c.find_both-found.new.sink) _ c.find_both-found.result _ c.flush.result c.find_both-found.ensures.answer c.flush.ensures.kept c.flush.ensures.fault c.flushed.ensures.done c.flushed.ensures.failed
