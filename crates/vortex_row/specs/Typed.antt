-- Whether a variant's child stands in a content: then it has no key.
use Rattle.std.specs.Prelude.{Bool, true, false, ◌||◌}
use Rattle.vortex_dtype.specs.TypeTree.{TypeTree}
use Rattle.vortex_value.specs.Equality.{HasNoTyped}
use Rattle.vortex_value.specs.TypesWithin.{HasNoVariant}
use Rattle.vortex_value.specs.Values.Content.{Content, null, truth, whole, text, string, sequence, tagged, typed, Contents, no_contents, content_then}

-- a variant's child stands in the content, at any depth
abbrev mutual
  pub has_typed : Content → Bool
  has_typed null = false
  has_typed (truth b) = false
  has_typed (whole z) = false
  has_typed (text bs) = false
  has_typed (string bs) = false
  has_typed (sequence cs) = have_typed cs
  has_typed (tagged id c) = has_typed c
  has_typed (typed t c) = true

  -- in one of the parts
  pub have_typed : Contents → Bool
  have_typed no_contents = false
  have_typed (content_then c cs) = has_typed c || have_typed cs

-- no variant stands in the type, and no variant's child in the content: so a scalar of these has a key
pub record HasKey (t : TypeTree) (c : Content) : Type 0 where
  pub ordered : HasNoVariant t
  pub untyped : HasNoTyped c
