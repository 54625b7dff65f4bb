-- Memory is wanted for what was read.
use Rattle.std.proofs.Common.{◌≡◌, ℕ, ◌<◌, ◌++◌, Result, Ok, Err, length, take, length-append, arith, rules}
use Rattle.std.proofs.lemmas.Grind.{common_steps}
use Rattle.std.proofs.lemmas.List.{length-take}
use Rattle.std.specs.Prelude.{IfErr}
use Rattle.std.specs.Io.KnownBytes.{Consumes}
use Rattle.rows.specs.declared.faults.RowsError.{RowsError}
use Rattle.rows.specs.declared.faults.RowsError.TheVariants.{Memory}
use Rattle.rows.proofs.KnownReads.{reads}
use Rattle.rows.proofs.input.read_all.Goals as goal

if_err : {A : Type 0} (r : Result A RowsError) (Q : Type 0) → Q → IfErr r (λ e. e ≡ Memory → Q)
if_err (Ok x) Q q = tt
if_err (Err e) Q q = λ _. q

pub returns-in_err-extend_from_slice-clause-memory : goal.returns-in_err-extend_from_slice-clause-memory
returns-in_err-extend_from_slice-clause-memory g c =
    let n = c.in_ok-count.count in
    let took : Consumes (g.R.Read.remaining c.args.reader.now) (g.R.Read.remaining c.read.new.self) (c.loop-turn.input.items ++ take n c.read.new.buf) = first_of (grind (arith, common_steps, reads), search (rules, reads)) in
    let some : 0 < length (c.loop-turn.input.items ++ take n c.read.new.buf) = first_of (grind (arith, common_steps, length-append {A = ℕ}), grind (arith, length-append {A = ℕ}, length-take {A = ℕ})) in
    if_err _ _ (c.loop-turn.input.items ++ take n c.read.new.buf, took, some)
