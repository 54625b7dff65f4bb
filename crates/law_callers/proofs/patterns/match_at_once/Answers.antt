-- One string, or all that begin with one, by the laws.
use Rattle.std.proofs.Common.{◌≡◌, ◌++◌, List, ℕ, subst, sym}
use Rattle.std.proofs.lemmas.Bool.Decides.{same_from_decides}
use Rattle.std.specs.Bool.{Decides}
use Rattle.std.specs.Str.{chars}
use Rattle.like_patterns.specs.Patterns.{Part, matches}
use Rattle.law_callers.proofs.patterns.match_at_once.Goals as goal

pub returns-in-Some : goal.returns-in-Some
returns-in-Some c =
    let cs = chars c.args.text.now in
    let wanted = chars c.in-Some.exact.now in
    same_from_decides c.are_same.result (matches c.args.pattern.now cs) c.are_same.ensures
    (subst (λ (parts : List Part). Decides (matches parts cs) (cs ≡ wanted)) (sym (c.in-Some.ensures)) (c.exact_match.ensures wanted cs))

pub returns-in-Some-as_prefix : goal.returns-in-Some-as_prefix
returns-in-Some-as_prefix c =
    let cs = chars c.args.text.now in
    let wanted = chars c.in-Some-as_prefix.prefix.now in
    same_from_decides c.begins_with.result (matches c.args.pattern.now cs) c.begins_with.ensures
    (subst (λ (parts : List Part). Decides (matches parts cs) ((rest : List ℕ) × (cs ≡ wanted ++ rest))) (sym (c.in-Some-as_prefix.ensures)) (c.prefix_matches.ensures wanted cs))
