-- A character that is escaped, the escape, and another.
use Rattle.std.proofs.Common.{◌≢◌, ◌∷◌, Bool, List, false, arith, ap, sym, ◌∙◌}
use Rattle.std.proofs.lemmas.Str.{IsUtf8-string_bytes}
use Rattle.std.specs.String.{string_bytes}
use Rattle.like_patterns.specs.declared.case.Case.TheVariants.{Sensitive}
use Rattle.like_patterns.specs.Patterns.{Part, literal, any_character, any_string}
use Rattle.like_patterns.specs.Pieces.{parts_of}
use Rattle.like_patterns.specs.Reading.{parts_behind, reader_parts}
use Rattle.like_patterns.specs.Texts.{part_of}
use Rattle.like_patterns.proofs.ReadSteps.{goes_escaped, goes_on, goes_to_escape, part_other, run_push}
use Rattle.like_patterns.proofs.reading.Reader.take.Goals as goal

pub returns-then-is_escaped-clause-read : goal.returns-then-is_escaped-clause-read
returns-then-is_escaped-clause-read c = λ cs.
    let old = reader_parts c.args.self.now in
    let run = string_bytes c.args.self.now.run in
    ap (λ (b : Bool). parts_behind old c.args.escape b (c.args.character ∷ cs)) c.if-is_escaped.true
    ∙ goes_escaped c.args.escape old c.args.character cs
    ∙ ap (λ (l : List Part). parts_behind l c.args.escape false cs)
    (sym (run_push (parts_of Sensitive c.args.self.now.pieces.items) run (string_bytes c.push.new.self) c.args.character (IsUtf8-string_bytes c.args.self.now.run) c.ranges.character.0 c.in_ok-push.ensures.bytes))

pub returns-then-is_escape-clause-read : goal.returns-then-is_escape-clause-read
returns-then-is_escape-clause-read c = λ cs.
    let old = reader_parts c.args.self.now in
    ap (λ (b : Bool). parts_behind old c.args.escape b (c.args.character ∷ cs)) c.if-is_escaped.false
    ∙ goes_to_escape c.args.escape old c.args.character (sym c.is_escape.ensures ∙ c.if-is_escape.true) cs

pub returns-in_ok-push-in-37-clause-read : goal.returns-in_ok-push-in-37-clause-read
returns-in_ok-push-in-37-clause-read c = λ cs.
    let old = reader_parts c.args.self.now in
    ap (λ (b : Bool). parts_behind old c.args.escape b (c.args.character ∷ cs)) c.if-is_escaped.false
    ∙ goes_on c.args.escape old c.args.character any_string (sym c.is_escape.ensures ∙ c.if-is_escape.false) (ap part_of c.in-37.is) cs
    ∙ ap (λ (l : List Part). parts_behind l c.args.escape false cs) (sym c.in_ok-push-in-37.ensures.parts)

pub returns-in_ok-push-in-95-clause-read : goal.returns-in_ok-push-in-95-clause-read
returns-in_ok-push-in-95-clause-read c = λ cs.
    let old = reader_parts c.args.self.now in
    ap (λ (b : Bool). parts_behind old c.args.escape b (c.args.character ∷ cs)) c.if-is_escaped.false
    ∙ goes_on c.args.escape old c.args.character any_character (sym c.is_escape.ensures ∙ c.if-is_escape.false) (ap part_of c.in-95.is) cs
    ∙ ap (λ (l : List Part). parts_behind l c.args.escape false cs) (sym c.in_ok-push-in-95.ensures.parts)

pub returns-in_ok-push-in_default-clause-read : goal.returns-in_ok-push-in_default-clause-read
returns-in_ok-push-in_default-clause-read c = λ cs.
    let old = reader_parts c.args.self.now in
    let run = string_bytes c.args.self.now.run in
    let no_percent : c.args.character ≢ 37 = omega arith in
    let no_underscore : c.args.character ≢ 95 = omega arith in
    ap (λ (b : Bool). parts_behind old c.args.escape b (c.args.character ∷ cs)) c.if-is_escaped.false
    ∙ goes_on c.args.escape old c.args.character (literal c.args.character) (sym c.is_escape.ensures ∙ c.if-is_escape.false) (part_other c.args.character no_percent no_underscore) cs
    ∙ ap (λ (l : List Part). parts_behind l c.args.escape false cs)
    (sym (run_push (parts_of Sensitive c.args.self.now.pieces.items) run (string_bytes c.push-in_default.new.self) c.args.character (IsUtf8-string_bytes c.args.self.now.run) c.ranges.character.0 c.in_ok-push-in_default.ensures.bytes))
