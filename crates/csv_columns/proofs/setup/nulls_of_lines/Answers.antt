-- Each line is that of the next word.
use Rattle.std.proofs.Common.{◌≡◌, ◌∙◌, ◌++◌, List, ℕ, ap, sym, rules, arith, None, Some, refl, subst}
use Rattle.std.specs.Prelude.{codes}
use Rattle.std.specs.Global.{Global}
use Rattle.std.specs.declared.string.String.{String}
use Rattle.std.proofs.lemmas.List.{append-nil}
use Rattle.std.proofs.lemmas.Str.Pattern.{split_after}
use Rattle.csv_columns.specs.Names.{IsLine, texts}
use Rattle.csv_columns.specs.Setups.{AreLines, null_lines, setup_lines}
use Rattle.csv_columns.proofs.NullLines.{BeginsWithNull, begins_with_null, line_before, lines_more, no_nulls_left, one_null_more, strip_text}
use Rattle.csv_columns.proofs.setup.nulls_of_lines.Goals as goal

pub loop-line-init : goal.loop-line-init
loop-line-init c = (λ s setup is. (s.nulls, setup.nulls, is, rw c.new-nulls.ensures.items refl), search rules, rw c.new-nulls.ensures.items tt)

pub returns-in_default-split_once-clause-back : goal.returns-in_default-split_once-clause-back
returns-in_default-split_once-clause-back c = λ s setup is.
    let so_far = c.loop-line.invariant.0 s setup is in
    let begins = strip_text (codes "null ") c.loop-line.rest.now (Some c.in-Some.line) c.in-Some.ensures.cases in
    let head : BeginsWithNull s c.in-Some.line.now so_far.0 = begins_with_null s c.loop-line.rest.now c.in-Some.line.now so_far.0 setup so_far.1 so_far.2 begins in
    split_after 10 c.in-Some.line.now head.null (null_lines head.more ++ setup_lines s) None c.in_default-split_once.ensures.cases (omega arith) head.is (λ i h. head.one_line i 0 h)

pub loop-line-preserved : goal.loop-line-preserved
loop-line-preserved c = (
  λ s setup is.
      let so_far = c.loop-line.invariant.0 s setup is in
      let begins = strip_text (codes "null ") c.loop-line.rest.now (Some c.in-Some.line) c.in-Some.ensures.cases in
      let head : BeginsWithNull s c.in-Some.line.now so_far.0 = begins_with_null s c.loop-line.rest.now c.in-Some.line.now so_far.0 setup so_far.1 so_far.2 begins in
      let parts = split_after 10 c.in-Some.line.now head.null (null_lines head.more ++ setup_lines s) (Some (c.in-Some-split_once.word, c.in-Some-split_once.after)) c.in-Some-split_once.ensures.cases (omega arith) head.is (λ i h. head.one_line i 0 h) in (
        head.more,
        head.lines,
        parts.1,
        subst (λ (l : List (String Global)). s.nulls ≡ texts l ++ head.more) (sym c.in_ok-push.ensures.items)
            (one_null_more s.nulls so_far.0 head.more head.null c.loop-line.nulls.items _ so_far.3 head.others_are (c.in_ok-from_str.ensures.ok ∙ parts.0)),
      ),
  search rules,
  subst (λ (l : List (String Global)). AreLines (texts l)) (sym c.in_ok-push.ensures.items)
      (lines_more c.loop-line.nulls.items _ c.loop-line.invariant.2
      (subst IsLine (sym c.in_ok-from_str.ensures.ok) (line_before c.in-Some.line.now c.in-Some-split_once.word c.in-Some-split_once.after c.in-Some-split_once.ensures.cases))),
)

pub returns-clause-back : goal.returns-clause-back
returns-clause-back c = λ s setup is.
    let so_far = c.loop-line.invariant.0 s setup is in
    let none = no_nulls_left s c.loop-line.rest.now so_far.0 so_far.2 (strip_text (codes "null ") c.loop-line.rest.now None c.in_default.ensures.cases) in
    (sym (so_far.3 ∙ ap (λ (o : List (List ℕ)). texts c.loop-line.nulls.items ++ o) none ∙ append-nil _), so_far.2 ∙ ap (λ (o : List (List ℕ)). null_lines o ++ setup_lines s) none)
