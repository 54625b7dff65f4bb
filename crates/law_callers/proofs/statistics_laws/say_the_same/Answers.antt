-- The same bytes are one encoding.
use Rattle.std.proofs.Common.{◌≡◌, [], ◌++◌, List, ℕ, sym, ap, ◌∙◌}
use Rattle.std.specs.Cmp.Lexicographic.{same_text}
use Rattle.law_callers.proofs.statistics_laws.say_the_same.Goals as goal

pub returns : goal.returns
returns c = λ same s t g h lower upper first second.
    let one : c.args.first.now ≡ c.args.second.now = same_text c.args.first.now c.args.second.now (sym same ∙ c.eq.ensures) in
    (c.encodings_are_apart.ensures s t [] [] g h lower upper (ap (λ xs. xs ++ []) (sym first ∙ one ∙ second))).0
