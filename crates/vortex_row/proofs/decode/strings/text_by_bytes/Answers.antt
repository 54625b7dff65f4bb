-- Since no text is there, a byte is found that comes next in none.
use Rattle.std.proofs.Common.{inl, inr, sym, subst, IsUtf8}
use Rattle.vortex_row.specs.Reading.{IsStuck, left}
use Rattle.vortex_row.specs.Strings.{IsEscaped}
use Rattle.vortex_row.proofs.decode.strings.text_by_bytes.Goals as goal

pub returns-in-Err-Bad : goal.returns-in-Err-Bad
returns-in-Err-Bad c = λ bad. elim c.first_bad.ensures.bad [
  | inl stuck ↦ subst (IsStuck (IsEscaped IsUtf8) (left c.args.reader.now)) (sym c.advance.ensures) stuck
  | inr text ↦ absurd (c.in-Err-Bad.ensures c.in-Err-Bad.field-0-is text)
]
