-- No characters, or some behind the pieces.
use Rattle.std.proofs.Common.{◌≡◌, ◌<◌, List, [], true, false, length, arith, sym, subst, ◌∙◌}
use Rattle.std.proofs.lemmas.Bool.{eqb-false, eqb-true}
use Rattle.std.specs.String.{string_bytes, string_len}
use Rattle.like_patterns.specs.declared.case.Case.TheVariants.{Sensitive}
use Rattle.like_patterns.specs.declared.pieces.Piece.{Piece}
use Rattle.like_patterns.specs.Pieces.{are_in_runs, parts_of}
use Rattle.like_patterns.proofs.Stripping.{no_bytes}
use Rattle.like_patterns.proofs.ReadSteps.{run_nil, runs_push_text, text_some}
use Rattle.like_patterns.proofs.reading.Reader.end_run.Goals as goal

pub returns-then-is_empty-clause-parts : goal.returns-then-is_empty-clause-parts
returns-then-is_empty-clause-parts c =
    let zero : string_len c.args.self.now.run ≡ 0 = eqb-true (string_len c.args.self.now.run) 0 (sym c.is_empty.ensures ∙ c.if-is_empty.true) in
    let none : string_bytes c.args.self.now.run ≡ [] = no_bytes (string_bytes c.args.self.now.run) (omega (arith, c.args.self.now.run.bytes.ok.0)) in
    sym (run_nil (parts_of Sensitive c.args.self.now.pieces.items) (string_bytes c.args.self.now.run) none)

pub returns-clause-runs : goal.returns-clause-runs
returns-clause-runs c =
    let some : 0 < length (string_bytes c.args.self.now.run) =
    omega (arith, c.args.self.now.run.bytes.ok.0, eqb-false (string_len c.args.self.now.run) 0 (sym c.is_empty.ensures ∙ c.if-is_empty.false)) in
    subst (λ (l : List Piece). are_in_runs false l ≡ true) (sym c.in_ok-push.ensures.items)
    (runs_push_text false c.args.self.now.pieces.items c.in_ok-text.text c.requires.in_runs c.requires.open_end
    (text_some c.in_ok-text.text c.args.self.now.run (c.in_ok-text.ensures ∙ c.replace-run.ensures.value) some))
