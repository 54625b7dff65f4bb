-- The text is the bytes before the first that is none of a character, if that is 0.
use Rattle.std.proofs.Common.{IsAscii, ◌∙◌, subst, sym}
use Rattle.vortex_row.proofs.StringSteps.{ascii-before, ascii-found}
use Rattle.vortex_row.proofs.decode.strings.ascii_text.Goals as goal

pub ascii-requires : goal.ascii-requires
ascii-requires c = subst IsAscii (sym c.bytes_to.ensures) (ascii-before c.args.bytes.now c.in_ok-end.end c.in_ok-end.ensures.plain)

pub returns-then-bytes-end-eq-END : goal.returns-then-bytes-end-eq-END
returns-then-bytes-end-eq-END c =
    ascii-found c.args.bytes.now _ c.in_ok-end.end (λ k. (c.type_inv.bytes k).fits) c.in_ok-end.ensures.within c.in_ok-end.ensures.plain c.if-bytes-end-eq-END.true (c.ascii.ensures ∙ c.bytes_to.ensures)
