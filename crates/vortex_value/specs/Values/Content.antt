-- What an optional raw value says without its type.
use Rattle.std.specs.Prelude.{ℕ, ℤ, Bool, List}
use Rattle.vortex_dtype.specs.TypeTree.{TypeTree}
use Rattle.vortex_value.specs.Values.RawTree.{RawTree, absent, raw_bool, raw_integer, raw_text, raw_bytes, raw_tuple, raw_union, raw_variant, RawTrees, no_raws, raw_then}

-- a content: null, a truth value, a whole number, a string, bytes, a sequence, a tagged child or a typed child
mutual
  pub data Content : Type 0 where
    null : Content
    truth : Bool → Content
    whole : ℤ → Content
    text : List ℕ → Content
    string : List ℕ → Content
    sequence : Contents → Content
    tagged : ℕ → Content → Content
    typed : TypeTree → Content → Content

  pub data Contents : Type 0 where
    no_contents : Contents
    content_then : Content → Contents → Contents

-- the content of an optional raw value: integer types, names and extensions are forgotten, but in the types of typed children
abbrev mutual
  pub content : RawTree → Content
  content absent = null
  content (raw_bool b) = truth b
  content (raw_integer k z) = whole z
  content (raw_text bs) = text bs
  content (raw_bytes bs) = string bs
  content (raw_tuple vs) = sequence (contents vs)
  content (raw_union id v) = tagged id (content v)
  content (raw_variant t v) = typed t (content v)

  -- what each of the values means
  pub contents : RawTrees → Contents
  contents no_raws = no_contents
  contents (raw_then v vs) = content_then (content v) (contents vs)
