use Rattle.std.proofs.Common.{◌≡◌, ◌/◌, ◌∙◌, refl, sym, ap, rules, true, length}
use Rattle.membership.specs.BloomFilters.{is_set, may_contain, place}
use Rattle.membership.proofs.Contained.{test-passed}
use Rattle.membership.proofs.bitmaps.has_bits.Goals as goal

pub loop-word-init : goal.loop-word-init
unfolding may_contain
loop-word-init c = refl

pub loop-word-preserved : goal.loop-word-preserved
loop-word-preserved c =
    let filter = c.args.filter.now in
    let count = length filter / 32 in
    let answered : c.is_set.result ≡ true = search rules in
    let set : is_set filter (place count c.args.hash c.loop-word.word) ≡ true = ap (is_set filter) (sym c.place.ensures.value) ∙ sym c.is_set.ensures ∙ answered in
    test-passed (is_set filter) count c.args.hash c.loop-word.word (may_contain filter c.args.hash) c.loop-word-test.true set c.loop-word.invariant
