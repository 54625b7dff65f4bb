-- The text is the bytes up to its end.
use Rattle.std.proofs.Common.{refl, sym, subst, IsUtf8}
use Rattle.vortex_row.specs.Reading.{left}
use Rattle.vortex_row.specs.Strings.{HasString}
use Rattle.vortex_row.proofs.StringSteps.{plain-read, plain-within}
use Rattle.vortex_row.proofs.decode.strings.read_text.Goals as goal

pub advance-requires : goal.advance-requires
advance-requires c = plain-within c.args.reader.now.invert c.in-Some.text.now c.args.reader.now.rest.now _ c.in-Some.ensures

pub returns-in-Some : goal.returns-in-Some
returns-in-Some c =
    subst (λ bs. HasString IsUtf8 bs (left c.args.reader.now) (left c.advance.new.self)) (sym c.in_ok-buffer.ensures)
    (plain-read c.args.reader.now.invert c.in-Some.text.now c.args.reader.now.rest.now (left c.args.reader.now) (left c.advance.new.self) c.if-not-reader.true c.in-Some.ensures refl c.advance.ensures)
