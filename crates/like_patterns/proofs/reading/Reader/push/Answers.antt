-- The wildcard is behind what was read.
use Rattle.std.specs.String.{string_bytes}
use Rattle.like_patterns.specs.Reading.{reader_parts}
use Rattle.like_patterns.proofs.ReadSteps.{open_push, parts_push}
use Rattle.like_patterns.proofs.reading.Reader.push.Goals as goal

pub returns-clause-parts : goal.returns-clause-parts
returns-clause-parts c =
    parts_push (reader_parts c.args.self.now) c.end_run.new.self.pieces.items c.push.new.self.items (string_bytes c.end_run.new.self.run) c.args.wildcard
    c.in_ok-end_run.ensures.parts c.in_ok-push.ensures.items c.in_ok-end_run.ensures.run

pub returns-clause-open : goal.returns-clause-open
returns-clause-open c = open_push c.end_run.new.self _ c.args.wildcard c.requires.wildcard c.in_ok-end_run.ensures.runs c.in_ok-push.ensures.items
