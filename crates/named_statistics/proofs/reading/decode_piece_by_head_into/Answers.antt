-- An empty piece says nothing, and any other what its bytes say.
use Rattle.std.proofs.Common.{◌<◌, ◌∙◌, arith, length, rules, sym}
use Rattle.std.proofs.lemmas.Bool.{eqb-true}
use Rattle.std.proofs.lemmas.Bool.Decides.{nat_tests}
use Rattle.vortex_dtype.specs.TypeOf.{type_of}
use Rattle.named_statistics.proofs.PieceSteps.{bad_piece, encoding_said, no_variant, reads_nothing, right_for_nothing, said_if_read, says_nothing}
use Rattle.named_statistics.proofs.reading.decode_piece_by_head_into.Goals as goal

pub returns-then-is_empty-clause-said : goal.returns-then-is_empty-clause-said
returns-then-is_empty-clause-said c = says_nothing (type_of c.args.dtype.now) c.args.piece.now _ (eqb-true _ _ (sym c.is_empty.ensures ∙ c.if-is_empty.true)) c.nothing_known.ensures.known

pub returns-then-is_empty-clause-whole : goal.returns-then-is_empty-clause-whole
returns-then-is_empty-clause-whole c = λ s said. reads_nothing (type_of c.args.dtype.now) c.args.piece.now _ s (eqb-true _ _ (sym c.is_empty.ensures ∙ c.if-is_empty.true)) c.nothing_known.ensures.known said

pub returns-then-is_empty-clause-right : goal.returns-then-is_empty-clause-right
returns-then-is_empty-clause-right c = right_for_nothing (type_of c.args.dtype.now) c.args.piece.now _ (eqb-true _ _ (sym c.is_empty.ensures ∙ c.if-is_empty.true))

pub returns-then-is_empty-clause-variant : goal.returns-then-is_empty-clause-variant
returns-then-is_empty-clause-variant c = no_variant (type_of c.args.dtype.now) c.args.piece.now _ (eqb-true _ _ (sym c.is_empty.ensures ∙ c.if-is_empty.true))

pub returns-clause-said : goal.returns-clause-said
returns-clause-said c =
    let some : 0 < length c.args.piece.now = first_of (search rules, grind (arith, nat_tests)) in
    said_if_read (type_of c.args.dtype.now) c.args.piece.now _ c.decode_by_head_into.result some c.decode_by_head_into.ensures.read

pub returns-clause-whole : goal.returns-clause-whole
returns-clause-whole c =
    let some : 0 < length c.args.piece.now = first_of (search rules, grind (arith, nat_tests)) in
    λ s said. let w = encoding_said (type_of c.args.dtype.now) c.args.piece.now s some said in c.decode_by_head_into.ensures.whole s w.0 w.1

pub returns-clause-refused : goal.returns-clause-refused
returns-clause-refused c =
    let some : 0 < length c.args.piece.now = first_of (search rules, grind (arith, nat_tests)) in
    bad_piece (type_of c.args.dtype.now) c.args.piece.now c.decode_by_head_into.result some c.decode_by_head_into.ensures.refused
