-- What contents and scalars feed a hasher: nullability is left out, all else that tells contents apart is fed.
use Rattle.std.specs.Prelude.{◌≡◌, ℕ, suc, [], ◌++◌}
use Rattle.std.specs.Hash as fed
use Rattle.std.specs.Hash.{HashWrites}
use Rattle.vortex_dtype.specs.Feeds.{bytes_feed, tree_feed}
use Rattle.vortex_dtype.specs.TypeTree.{TypeTree, Same, erase}
use Rattle.vortex_value.specs.Values.Content.{Content, null, truth, whole, text, string, sequence, tagged, typed, Contents, no_contents, content_then}
use Rattle.vortex_value.specs.Equality.{EqualContents}

-- how many places
abbrev pub place_count : Contents → ℕ
place_count no_contents = 0
place_count (content_then c cs) = suc (place_count cs)

-- A content feeds the number of its case, and then its parts in order. A number is fed as one of 128 bits whatever its
-- PType. A sequence feeds how many places it has and each of them. A typed child feeds its type too, without nullability.
abbrev mutual
  pub content_feed : Content → HashWrites
  content_feed null = fed.u8 0
  content_feed (truth b) = fed.u8 1 ++ fed.bool b
  content_feed (whole z) = fed.u8 2 ++ fed.i128 z
  content_feed (text bs) = fed.u8 3 ++ bytes_feed bs
  content_feed (string bs) = fed.u8 4 ++ bytes_feed bs
  content_feed (sequence cs) = fed.u8 5 ++ (fed.usize (place_count cs) ++ contents_feed cs)
  content_feed (tagged id c) = fed.u8 6 ++ fed.u8 id ++ content_feed c
  content_feed (typed t c) = fed.u8 7 ++ (tree_feed (erase t) ++ content_feed c)

  pub contents_feed : Contents → HashWrites
  contents_feed no_contents = []
  contents_feed (content_then c cs) = content_feed c ++ contents_feed cs

-- places feed how many they are, and each of them
abbrev pub counted_feed : Contents → HashWrites
counted_feed cs = fed.usize (place_count cs) ++ contents_feed cs

-- a scalar feeds its type without nullability, and then its content
abbrev pub typed_feed : TypeTree → Content → HashWrites
typed_feed t c = tree_feed (erase t) ++ content_feed c

-- Equal contents feed a hasher alike, also with types that are the same up to nullability.
pub record EqualFeedSame : Type 0 where
  pub contents : (c d : Content) → EqualContents c d → content_feed c ≡ content_feed d
  pub typed : (t u : TypeTree) (c d : Content) → Same t u → EqualContents c d → typed_feed t c ≡ typed_feed u d
