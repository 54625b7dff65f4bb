-- The characters are nowhere, the pieces behind match there, or they do not.
use Rattle.std.proofs.Common.{ℕ, List, ◌∙◌, subst, sym}
use Rattle.std.proofs.lemmas.List.{take_rest}
use Rattle.std.proofs.lemmas.Str.{IsUtf8-string_bytes}
use Rattle.std.specs.Str.{IsUtf8}
use Rattle.std.specs.String.{string_bytes}
use Rattle.like_patterns.specs.Characters.{BeginsWithOne, compared}
use Rattle.like_patterns.specs.Pieces.{FailsAtFront, StripsTo, parts_of}
use Rattle.like_patterns.proofs.Finding.{after_is, found_at, found_at_end, found_goes_on, found_match, found_no_place}
use Rattle.like_patterns.proofs.Stripping.{stops_loose}
use Rattle.like_patterns.proofs.matching.find_piece.Goals as goal

pub strip_front-requires : goal.strip_front-requires
strip_front-requires c =
    let rest = c.loop-place.rest.now in
    let wanted = string_bytes c.args.wanted.now.string in
    let found = found_at c.args.case rest wanted c.in-Some.place c.loop-place.invariant.utf8 (IsUtf8-string_bytes c.args.wanted.now.string) c.in-Some.ensures in
    subst IsUtf8 (sym (after_is rest c.in-Some.place c.len.result wanted c.len.ensures)) found.behind_utf8

pub returns-in-Some-strip_front-clause-left : goal.returns-in-Some-strip_front-clause-left
returns-in-Some-strip_front-clause-left c =
    let case = c.args.case in
    let rest = c.loop-place.rest.now in
    let wanted = string_bytes c.args.wanted.now.string in
    let left = c.in-Some-strip_front.left in
    let parts = parts_of case c.args.behind.now in
    let found = found_at case rest wanted c.in-Some.place c.loop-place.invariant.utf8 (IsUtf8-string_bytes c.args.wanted.now.string) c.in-Some.ensures in
    c.loop-place.invariant.same
    ∙ found_match case rest wanted c.in-Some.place parts (parts_of case left.0.now) (compared case left.1.now) found (stops_loose case left.0.now c.in-Some-strip_front.ensures.stops)
    (subst (λ (l : List ℕ). StripsTo parts (compared case l) (parts_of case left.0.now) (compared case left.1.now)) (after_is rest c.in-Some.place c.len.result wanted c.len.ensures) c.in-Some-strip_front.ensures.left)

pub after_character-requires : goal.after_character-requires
after_character-requires c =
    let rest = c.loop-place.rest.now in
    let wanted = string_bytes c.args.wanted.now.string in
    let found = found_at c.args.case rest wanted c.in-Some.place c.loop-place.invariant.utf8 (IsUtf8-string_bytes c.args.wanted.now.string) c.in-Some.ensures in
    subst IsUtf8 (sym (take_rest rest c.in-Some.place)) found.found_utf8

pub loop-place-preserved : goal.loop-place-preserved
loop-place-preserved c =
    let case = c.args.case in
    let rest = c.loop-place.rest.now in
    let wanted = string_bytes c.args.wanted.now.string in
    let next = c.in-Some-after_character.next.now in
    let parts = parts_of case c.args.behind.now in
    let found = found_at case rest wanted c.in-Some.place c.loop-place.invariant.utf8 (IsUtf8-string_bytes c.args.wanted.now.string) c.in-Some.ensures in
    let begins = subst (λ (l : List ℕ). BeginsWithOne l next) (take_rest rest c.in-Some.place) c.in-Some-after_character.ensures.rest in
    record {
      same = c.loop-place.invariant.same
          ∙ found_goes_on case rest wanted c.in-Some.place parts next found
          (subst (λ (l : List ℕ). FailsAtFront parts (compared case l)) (after_is rest c.in-Some.place c.len.result wanted c.len.ensures) c.in_default-strip_front.ensures.left) begins;
      utf8 = begins.utf8;
    }

pub returns-in-None-clause-left : goal.returns-in-None-clause-left
returns-in-None-clause-left c =
    let case = c.args.case in
    let rest = c.loop-place.rest.now in
    let wanted = string_bytes c.args.wanted.now.string in
    let parts = parts_of case c.args.behind.now in
    let found = found_at case rest wanted c.in-Some.place c.loop-place.invariant.utf8 (IsUtf8-string_bytes c.args.wanted.now.string) c.in-Some.ensures in
    c.loop-place.invariant.same
    ∙ found_at_end case rest wanted c.in-Some.place parts found
    (subst (λ (l : List ℕ). FailsAtFront parts (compared case l)) (after_is rest c.in-Some.place c.len.result wanted c.len.ensures) c.in_default-strip_front.ensures.left)
    (sym (take_rest rest c.in-Some.place) ∙ c.in-None.ensures.rest)

pub returns-clause-left : goal.returns-clause-left
returns-clause-left c =
    let case = c.args.case in
    c.loop-place.invariant.same
    ∙ found_no_place case c.loop-place.rest.now (string_bytes c.args.wanted.now.string) (parts_of case c.args.behind.now) c.loop-place.invariant.utf8 (IsUtf8-string_bytes c.args.wanted.now.string) c.in_default.ensures
