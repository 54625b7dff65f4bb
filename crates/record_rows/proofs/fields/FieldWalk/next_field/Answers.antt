-- The next field, and why there is none.
use Rattle.std.proofs.Common.{◌≡◌, ◌<◌, ◌+◌, ap, ◌∙◌, arith, cond, get_or, length, List, ℕ}
use Rattle.std.proofs.lemmas.List.{get_or_default}
use Rattle.std.proofs.lemmas.Result.{err_from_is_err_and}
use Rattle.csv_records.specs.Rows.{Field}
use Rattle.record_rows.specs.declared.fields.FieldWalk.{FieldWalk}
use Rattle.record_rows.proofs.Walking.{is_last, is_next, memory_asked, walk_ends}
use Rattle.record_rows.proofs.fields.FieldWalk.next_field.Goals as goal

pub returns-in_err-rest-clause-refused : goal.returns-in_err-rest-clause-refused
returns-in_err-rest-clause-refused c =
    let p = err_from_is_err_and c.from_residual.result c.from_residual.ensures.1 in
    rw (p.1, p.2) (λ d l columns bytes fields h taken. walk_ends d l columns bytes c.args.self.now fields c.in_err-rest.field-0.0 h taken c.in_err-rest.ensures.refused)

pub returns-in_default-clause-next : goal.returns-in_default-clause-next
returns-in_default-clause-next c = λ d r columns bytes fields h.
    is_last d r columns bytes c.args.self.now c.next_start.new.self fields h (rw c.in_default.is at c.in_ok-rest.ensures.end)

pub returns-clause-next : goal.returns-clause-next
returns-clause-next c = λ d r columns bytes fields h.
    let quoted = c.in_ok-cut.cut.is_quoted in
    let text = cond quoted c.cut_field.new.buffer.items c.in_ok-cut.cut.bare.now in
    let word : c.word_of.result.now ≡ text = c.word_of.ensures ∙ ap (λ (l : List ℕ). cond quoted l c.in_ok-cut.cut.bare.now) c.deref.ensures.value in
    let start = rw c.in-Some.is at c.in_ok-rest.ensures.start in
    let same = rw c.in-Some.is at c.in_ok-rest.ensures.stays in
    is_next d r columns bytes c.in-Some.rest.now c.args.self.now _ fields _ (record { text = text; is_quoted = quoted }) h start (rw same at c.in_ok-cut.ensures.cut) (ap (λ w. w.delimiter) same) (ap (λ w. w.is_lenient) same) (ap (λ w. w.is_longer) same) (ap (λ w. w.columns) same) (ap (λ w. w.place + 1) same) (ap (λ w. w.place) same)
    (ap (λ (w : FieldWalk). get_or w.columns.now w.place c.index-self-self.result) same ∙ get_or_default c.args.self.now.columns.now c.args.self.now.place _ _ start.0) (ap (λ (t : List ℕ). let f : Field = record { text = t; is_quoted = quoted } in f) word)

pub returns-in_err-cut-clause-refused : goal.returns-in_err-cut-clause-refused
returns-in_err-cut-clause-refused c =
    let p = err_from_is_err_and c.from_residual-in_err-cut.result c.from_residual-in_err-cut.ensures.1 in
    let start = rw c.in-Some.is at c.in_ok-rest.ensures.start in
    rw (p.1, p.2) (λ d l columns bytes fields h taken. let within : c.args.self.now.place < length columns = omega (arith, start.0, ap length h.columns_are) in memory_asked d l columns bytes c.args.self.now.place within)
