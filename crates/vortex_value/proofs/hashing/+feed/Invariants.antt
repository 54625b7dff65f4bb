-- What is left to feed, and that each call goes down the value.
use Rattle.std.proofs.Common.{◌≡◌, ◌+◌, ◌*◌, fold, drop}
use Rattle.vortex_value.specs.Values.Content.{contents}
use Rattle.vortex_value.specs.Hashing.{contents_feed, counted_feed}
use Rattle.vortex_value.specs.Values.RawOf.{value_trees}
use Rattle.vortex_value.proofs.Lent.{lent_size}
use Rattle.vortex_value.proofs.hashing.+feed.Given as goal

-- the rest of the parts, fed from here, gives what all give from the start
abbrev pub invariant-feed_tuple-loop-item : goal.invariant-feed_tuple-loop-item
invariant-feed_tuple-loop-item g l =
    fold g.H.Hasher.write l.state (contents_feed (contents (value_trees (drop l.item-index l.items)))) ≡ fold g.H.Hasher.write l.fn.state (counted_feed (contents (value_trees l.items)))

abbrev pub decreases-feed : goal.decreases-feed
decreases-feed g l = 3 * lent_size l.value + 1

abbrev pub decreases-feed_value : goal.decreases-feed_value
decreases-feed_value g l = 3 * goal.size-feed_value g l

abbrev pub decreases-feed_tuple : goal.decreases-feed_tuple
decreases-feed_tuple g l = 3 * goal.size-feed_tuple g l + 2

abbrev pub decreases-feed_union : goal.decreases-feed_union
decreases-feed_union g l = 3 * goal.size-feed_union g l + 1

abbrev pub decreases-feed_scalar : goal.decreases-feed_scalar
decreases-feed_scalar g l = 3 * goal.size-feed_scalar g l + 1
