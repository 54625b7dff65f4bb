use Rattle.std.proofs.Common.{◌≡◌, ◌∙◌, ℤ, List, ℕ, arith, subst, sym, w64, to_z, of_z}
use Rattle.std.proofs.lemmas.Int.{ints}
use Rattle.std.specs.String.{string_bytes}
use Rattle.logical_types.specs.Clock.{IsTimeWord}
use Rattle.logical_types.specs.Printed.{IsTimeText}
use Rattle.logical_types.proofs.words.time_word.Goals as goal

pub returns-in_ok-text-in-Some-clause-reads : goal.returns-in_ok-text-in-Some-clause-reads
returns-in_ok-text-in-Some-clause-reads c =
    let e : to_z w64 (of_z w64 c.in-Ok.time) ≡ c.args.storage = omega (arith, ints, c.in-Ok.ensures) in
    let text : string_bytes c.in_ok-text-in-Some.text ≡ c.in-Some.word.bytes = c.in_ok-text-in-Some.ensures.ok ∙ c.as_str.ensures.value in
    let at = subst (λ (z : ℤ). IsTimeWord c.args.unit c.in-Some.word.bytes z) e c.in-Some.ensures.word in
    subst (λ (w : List ℕ). IsTimeWord c.args.unit w c.args.storage) (sym text) at

pub returns-in_ok-text-in-Some-clause-printed : goal.returns-in_ok-text-in-Some-clause-printed
returns-in_ok-text-in-Some-clause-printed c =
    let e : to_z w64 (of_z w64 c.in-Ok.time) ≡ c.args.storage = omega (arith, ints, c.in-Ok.ensures) in
    let text : string_bytes c.in_ok-text-in-Some.text ≡ c.in-Some.word.bytes = c.in_ok-text-in-Some.ensures.ok ∙ c.as_str.ensures.value in
    let at = subst (λ (z : ℤ). IsTimeText c.args.unit c.in-Some.word.bytes z) e c.in-Some.ensures.text in
    subst (λ (w : List ℕ). IsTimeText c.args.unit w c.args.storage) (sym text) at
