-- A string that the pattern matches begins with its prefix, by the law.
use Rattle.std.proofs.Common.{◌≡◌, ◌∙◌, ◌++◌, Bool, List, ℕ, ap, not, refl, sym, true, false}
use Rattle.std.proofs.lemmas.Bool.{false≢true}
use Rattle.std.proofs.lemmas.Str.{chars_from_encodes}
use Rattle.std.specs.Str.{chars}
use Rattle.like_patterns.specs.Patterns.{leading, matches}
use Rattle.law_callers.proofs.patterns.can_skip_string.Goals as goal

skips : (begins met : Bool) → (met ≡ true → begins ≡ true) → not begins ≡ true → met ≡ false
skips true met has skip = absurd (false≢true skip)
skips false true has skip = absurd (false≢true (has refl))
skips false false has skip = refl

pub returns : goal.returns
returns c =
    let cs = chars c.args.text.now in
    let prefix : leading c.args.pattern.now ≡ chars c.prefix.result.now = chars_from_encodes (leading c.args.pattern.now) c.prefix.result.now c.prefix.utf8 (sym c.prefix.ensures) in
    skips c.begins_with.result (matches c.args.pattern.now cs)
    (λ met.
    let begins = c.matches_begin_with_prefix.ensures c.args.pattern.now cs met in
    c.begins_with.ensures.1 (begins.0, begins.1 ∙ ap (λ (front : List ℕ). front ++ begins.0) prefix))
