use Rattle.std.proofs.Common.{◌≡◌, fold, drop}
use Rattle.vortex_dtype.specs.TypeTree.{trim_all}
use Rattle.vortex_dtype.specs.Feeds.{trees_feed}
use Rattle.vortex_dtype.specs.TypeOf.{dtype_trees}
use Rattle.vortex_dtype.proofs.types.hashing.+feed.Given as goal

-- the rest of the types, fed from here, gives what all give from the start
abbrev pub invariant-feed_all-loop-dtype : goal.invariant-feed_all-loop-dtype
invariant-feed_all-loop-dtype g l =
    fold g.H.Hasher.write l.state (trees_feed (trim_all l.exact (dtype_trees (drop l.dtype-index l.dtypes)))) ≡ fold g.H.Hasher.write l.initial.state (trees_feed (trim_all l.exact (dtype_trees l.dtypes)))
