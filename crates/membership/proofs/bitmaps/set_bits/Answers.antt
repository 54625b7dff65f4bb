use Rattle.std.proofs.Common.{◌≡◌, ◌+◌, ◌/◌, ◌∙◌, refl, sym, ap, subst, List, ℕ, drop, length}
use Rattle.std.specs.List.{fold}
use Rattle.membership.specs.BloomFilters.{place, places, with_bit, with_hash}
use Rattle.membership.proofs.Contained.{next-bit}
use Rattle.membership.proofs.bitmaps.set_bits.Goals as goal

pub loop-word-init : goal.loop-word-init
unfolding with_hash
loop-word-init c = refl

pub loop-word-preserved : goal.loop-word-preserved
loop-word-preserved c =
    let count = length c.args.filter.now / 32 in
    let before = c.loop-word.filter in
    let set : c.set_bit.new.filter ≡ with_bit before (place count c.args.hash c.loop-word.word) = c.set_bit.ensures ∙ ap (with_bit before) c.place.ensures.value in
    let P : List ℕ → Type 0 = λ filter. fold with_bit filter (drop (c.loop-word.word + 1) (places count c.args.hash)) ≡ with_hash c.args.filter.now c.args.hash in
    subst P (sym set) (next-bit before (with_hash c.args.filter.now c.args.hash) count c.args.hash c.loop-word.word c.loop-word-test.true c.loop-word.invariant)
