-- A refused cast is one of a number that the kind does not have.
use Rattle.vortex_pvalue.specs.Whole.{ptype_of, whole_of}
use Rattle.rows.proofs.Castings.{refused}
use Rattle.rows.proofs.answers.number_in_ptype.Goals as goal

pub returns : goal.returns
returns c =
    refused (ptype_of c.args.number) c.args.ptype (whole_of c.args.number) _
    (rw (c.scalar_of-source.ensures.typed, c.scalar_of-source.ensures.content) at c.in-Err.ensures.refuses_only)
