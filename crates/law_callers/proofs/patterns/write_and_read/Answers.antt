-- What is written are the characters of the pattern, which is read of them, by the law.
use Rattle.std.proofs.Common.{◌≡◌, ◌∙◌, ℕ, List, IfOk, Option, Some, Result, Ok, Err, ap, sym}
use Rattle.std.proofs.lemmas.Option.{same_Some}
use Rattle.std.proofs.lemmas.Str.{chars_from_encodes}
use Rattle.std.specs.Str.{chars}
use Rattle.like_patterns.specs.Texts.{pattern_of, pattern_text}
use Rattle.like_patterns.specs.declared.error.PatternError.{PatternError}
use Rattle.like_patterns.specs.declared.pattern.Pattern.{Pattern}
use Rattle.law_callers.proofs.patterns.write_and_read.Goals.{then-needs_escape, else-needs_escape}
use Rattle.law_callers.proofs.patterns.write_and_read.Goals as goal

comes_back : (parts : Pattern) (escape : Option ℕ) (cs : List ℕ) (r : Result Pattern PatternError) → pattern_text parts ≡ cs → pattern_of escape (pattern_text parts) ≡ Some parts → IfOk r (λ pattern. pattern_of escape cs ≡ Some pattern) → IfOk r (λ again. again ≡ parts)
comes_back parts escape cs (Ok again) written back read = same_Some again parts (sym read ∙ ap (pattern_of escape) (sym written) ∙ back)
comes_back parts escape cs (Err e) written back read = tt

pub returns : goal.returns
returns c =
    let pattern = c.args.pattern.now in
    let escape = c.if-needs_escape.escape in
    let written : pattern_text pattern ≡ chars c.as_str.result.now = chars_from_encodes (pattern_text pattern) c.as_str.result.now c.as_str.utf8 (sym (c.as_str.ensures.value ∙ c.in-Ok.ensures.ok)) in
    let back : pattern_of escape (pattern_text pattern) ≡ Some pattern = elim c.if-needs_escape.branch [
      | then-needs_escape w ↦ ap (λ (e : Option ℕ). pattern_of e (pattern_text pattern)) w.escape-is ∙ c.texts_come_back.ensures.escaped pattern
      | else-needs_escape w ↦ ap (λ (e : Option ℕ). pattern_of e (pattern_text pattern)) w.escape-is ∙ c.texts_come_back.ensures.plain pattern (sym c.needs_escape.ensures ∙ w.if-needs_escape.false)
    ] in
    comes_back pattern escape (chars c.as_str.result.now) c.parse.result written back c.parse.ensures.read
