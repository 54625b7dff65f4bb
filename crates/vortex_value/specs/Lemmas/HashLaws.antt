-- Laws for the hashes of values: equal contents feed alike. They stand here because trait implementations cite them.
use Rattle.std.proofs.Common.{◌≡◌, ◌++◌, suc, refl, ap}
use Rattle.std.specs.Hash.{Alike}
use Rattle.vortex_dtype.specs.Feeds.{tree_feed}
use Rattle.vortex_dtype.specs.TypeTree.{TypeTree, Same, erase}
use Rattle.vortex_value.specs.Values.Content.{Content, null, truth, whole, text, string, sequence, tagged, typed, Contents, no_contents, content_then}
use Rattle.vortex_value.specs.Equality.{EqualContents, AllEqual, equal, same_type}
use Rattle.vortex_value.specs.Lemmas.EqualityLaws.{contents-from_equal, same_type-Decides}
use Rattle.vortex_value.specs.Hashing.{place_count, content_feed, contents_feed, EqualFeedSame}

mutual
  content_feed-same : (c d : Content) → EqualContents c d → content_feed c ≡ content_feed d
  content_feed-same null null h = refl
  content_feed-same (truth b) (truth c) h = rw h
  content_feed-same (whole z) (whole w) h = rw h
  content_feed-same (text bs) (text cs) h = rw h
  content_feed-same (string bs) (string cs) h = rw h
  content_feed-same (sequence cs) (sequence ds) h = rw (place_count-same cs ds h, contents_feed-same cs ds h)
  content_feed-same (tagged i c) (tagged j d) h = rw (h.0, content_feed-same c d h.1)
  content_feed-same (typed t c) (typed u d) h = rw (h.0, content_feed-same c d h.1)
  content_feed-same _ _ h = absurd h

  contents_feed-same : (cs ds : Contents) → AllEqual cs ds → contents_feed cs ≡ contents_feed ds
  contents_feed-same no_contents no_contents h = refl
  contents_feed-same (content_then c cs) (content_then d ds) h = rw (content_feed-same c d h.0, contents_feed-same cs ds h.1)
  contents_feed-same _ _ h = absurd h

  place_count-same : (cs ds : Contents) → AllEqual cs ds → place_count cs ≡ place_count ds
  place_count-same no_contents no_contents h = refl
  place_count-same (content_then c cs) (content_then d ds) h = ap suc (place_count-same cs ds h.1)
  place_count-same _ _ h = absurd h

typed_feed-same : (t u : TypeTree) (c d : Content) → Same t u → EqualContents c d → tree_feed (erase t) ++ content_feed c ≡ tree_feed (erase u) ++ content_feed d
typed_feed-same t u c d h k = rw (h, content_feed-same c d k)

pub equal_feed_same : EqualFeedSame
equal_feed_same = record { contents = content_feed-same; typed = typed_feed-same }

-- what the test finds equal is fed alike
pub content_feed-Alike : Alike equal content_feed
content_feed-Alike = record { fed = λ c d h. content_feed-same c d (contents-from_equal c d h) }

-- and types that are the same up to nullability are too
pub type_feed-Alike : Alike same_type (λ t. tree_feed (erase t))
type_feed-Alike = record { fed = λ t u h. ap tree_feed ((same_type-Decides t u).0 h) }
