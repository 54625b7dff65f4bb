use Rattle.std.proofs.Common.{◌≡◌, ◌∙◌, ◌++◌, ◌∷◌, [], ℕ, Bool, None, false, arith, ap, sym, List}
use Rattle.jiff_fmt.specs.Text.{datetime_text}
use Rattle.logical_types.specs.Printed.{civil_text}
use Rattle.logical_types.proofs.TimestampWords.{by_options}
use Rattle.logical_types.proofs.times.word_of_civil.Goals as goal

pub returns-then-not-is_zoned : goal.returns-then-not-is_zoned
returns-then-not-is_zoned c =
    let text : c.push_str.new.self.bytes ≡ datetime_text false 84 None c.args.civil =
    c.push_str.ensures.bytes ∙ ap (λ (x : List ℕ). x ++ c.as_str.result.now) c.new-word.ensures ∙ c.as_str.ensures.value ∙ c.datetime_text.ensures ∙ by_options c.new.result c.args.civil c.new.ensures in
    text ∙ ap (λ (z : Bool). civil_text z c.args.civil) (sym c.if-not-is_zoned.true)

pub returns : goal.returns
returns c =
    let text : c.push_str.new.self.bytes ≡ datetime_text false 84 None c.args.civil =
    c.push_str.ensures.bytes ∙ ap (λ (x : List ℕ). x ++ c.as_str.result.now) c.new-word.ensures ∙ c.as_str.ensures.value ∙ c.datetime_text.ensures ∙ by_options c.new.result c.args.civil c.new.ensures in
    c.push.ensures.ascii (omega arith) ∙ ap (λ (x : List ℕ). x ++ 90 ∷ []) text ∙ ap (λ (z : Bool). civil_text z c.args.civil) (sym c.if-not-is_zoned.false)
