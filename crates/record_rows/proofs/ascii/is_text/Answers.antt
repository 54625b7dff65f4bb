-- ASCII is UTF-8.
use Rattle.std.proofs.lemmas.Str.{IsUtf8-from_ascii}
use Rattle.record_rows.proofs.ascii.is_text.Goals as goal

pub returns-then-is_ascii : goal.returns-then-is_ascii
returns-then-is_ascii c = IsUtf8-from_ascii c.args.word.now (c.is_ascii.ensures c.if-is_ascii.true)
