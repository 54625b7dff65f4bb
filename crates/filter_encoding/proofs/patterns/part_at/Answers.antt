-- What a character is.
use Rattle.std.proofs.Common.{◌≢◌, arith}
use Rattle.filter_encoding.proofs.PatternSteps.{goes_character, goes_escape, goes_escaped, goes_other, goes_string}
use Rattle.filter_encoding.proofs.patterns.part_at.Goals as goal

pub returns-then-is_escaped-clause-goes : goal.returns-then-is_escaped-clause-goes
returns-then-is_escaped-clause-goes c = goes_escaped c.args.is_escaped c.args.character c.if-is_escaped.true

pub returns-in-92-clause-goes : goal.returns-in-92-clause-goes
returns-in-92-clause-goes c = goes_escape c.args.is_escaped c.args.character c.if-is_escaped.false c.in-92.is

pub returns-in-37-clause-goes : goal.returns-in-37-clause-goes
returns-in-37-clause-goes c = goes_string c.args.is_escaped c.args.character c.if-is_escaped.false c.in-37.is

pub returns-in-95-clause-goes : goal.returns-in-95-clause-goes
returns-in-95-clause-goes c = goes_character c.args.is_escaped c.args.character c.if-is_escaped.false c.in-95.is

pub returns-in_default-clause-goes : goal.returns-in_default-clause-goes
returns-in_default-clause-goes c =
    let no_escape : c.args.character ≢ 92 = omega arith in
    let no_percent : c.args.character ≢ 37 = omega arith in
    let no_underscore : c.args.character ≢ 95 = omega arith in
    goes_other c.args.is_escaped c.args.character c.if-is_escaped.false no_escape no_percent no_underscore
