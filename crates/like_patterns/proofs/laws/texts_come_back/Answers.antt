-- The laws.
use Rattle.like_patterns.proofs.PatternLaws.{plain_texts_come_back, texts_come_back}
use Rattle.like_patterns.proofs.laws.texts_come_back.Goals as goal

pub returns : goal.returns
returns c = record { escaped = texts_come_back; plain = plain_texts_come_back }
