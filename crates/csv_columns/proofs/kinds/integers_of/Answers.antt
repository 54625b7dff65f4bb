-- What `parse` says of a plain number, and none of another word.
use Rattle.std.proofs.Common.{◌∙◌, List, subst, ℕ}
use Rattle.std.specs.Int.{w64}
use Rattle.std.specs.Str.Parse.{ParsesSigned, ParsesUnsigned}
use Rattle.vortex_dtype.specs.declared.ptype.PType.TheVariants.{I64, U64}
use Rattle.csv_columns.proofs.PlainNumbers.{not_plain_no_integer, signed_is, unsigned_is}
use Rattle.csv_columns.proofs.kinds.integers_of.Goals as goal

pub returns-in-Some-clause-signed : goal.returns-in-Some-clause-signed
returns-in-Some-clause-signed c =
    let plain = c.in-Some.ensures.some in
    c.is_ok.ensures.value ∙ signed_is c.args.word.now c.parse.result plain.1 (subst (λ (x : List ℕ). ParsesSigned w64 10 x c.parse.result) plain.0 c.parse.ensures.value.0)

pub returns-in-Some-clause-unsigned : goal.returns-in-Some-clause-unsigned
returns-in-Some-clause-unsigned c =
    let plain = c.in-Some.ensures.some in
    c.is_ok-in-Some.ensures.value ∙ unsigned_is c.args.word.now c.parse-in-Some.result plain.1 (subst (λ (x : List ℕ). ParsesUnsigned 64 10 x c.parse-in-Some.result) plain.0 c.parse-in-Some.ensures.value.0)

pub returns-in-None-clause-signed : goal.returns-in-None-clause-signed
returns-in-None-clause-signed c = not_plain_no_integer I64 c.args.word.now c.in-None.ensures.none

pub returns-in-None-clause-unsigned : goal.returns-in-None-clause-unsigned
returns-in-None-clause-unsigned c = not_plain_no_integer U64 c.args.word.now c.in-None.ensures.none
