-- Which contents each type has.
use Rattle.std.specs.Prelude.{◌≡◌, ◌↔◌, ℕ, suc}
use Rattle.vortex_dtype.specs.TypeTree.{TypeTree, null_type, bool_type, integer_type, utf8_type, binary_type, list_type, fixed_size_list_type, map_type, struct_type, union_type, variant_type, TypeTrees, no_types, type_then, IsNullable, storage}
use Rattle.vortex_pvalue.specs.Numbers.{InRange}
use Rattle.vortex_value.specs.Casts.{Has}
use Rattle.vortex_value.specs.Values.Content.{Content, null, truth, whole, text, string, sequence, tagged, typed, Contents, no_contents, content_then}
use Rattle.vortex_value.specs.Validity.{type_with, HasType}

-- how many contents
abbrev pub count_contents : Contents → ℕ
count_contents no_contents = 0
count_contents (content_then c cs) = suc (count_contents cs)

-- a variant may hold the content of this type: it is not null, or its type is Null
abbrev pub MayStandInside : TypeTree → Content → Type 0
MayStandInside t null = t ≡ null_type
MayStandInside t _ = Unit {0}

-- for a type that is no extension: a null if the type takes one, and else a content of the type's values
abbrev mutual
  pub HasAt : TypeTree → Content → Type 0
  HasAt t null = IsNullable t
  HasAt (bool_type n) (truth b) = Unit {0}
  HasAt (utf8_type n) (text bs) = Unit {0}
  HasAt (binary_type n) (string bs) = Unit {0}
  HasAt (integer_type k n) (whole z) = InRange k z
  HasAt (list_type e n) (sequence cs) = HasEach e cs
  HasAt (fixed_size_list_type e size n) (sequence cs) = (count_contents cs ≡ size) × HasEach e cs
  HasAt (map_type k w sorted n) (sequence cs) = HasEntries k w cs
  HasAt (struct_type names ts n) (sequence cs) = HasFields ts cs
  HasAt (union_type names ts ids n) (tagged id c) = HasType (type_with id ids ts) (λ t. HasAt (storage t) c)
  HasAt (variant_type n) (typed t c) = MayStandInside t c × HasAt (storage t) c
  HasAt _ _ = ⊥

  -- the type has each
  pub HasEach : TypeTree → Contents → Type 0
  HasEach e no_contents = Unit {0}
  HasEach e (content_then c cs) = HasAt (storage e) c × HasEach e cs

  -- each is a pair, of a content that the type of keys has and one that the type of values has
  pub HasEntries : TypeTree → TypeTree → Contents → Type 0
  HasEntries k w no_contents = Unit {0}
  HasEntries k w (content_then (sequence (content_then a (content_then b no_contents))) cs) = HasAt (storage k) a × HasAt (storage w) b × HasEntries k w cs
  HasEntries k w _ = ⊥

  -- as many as fields, each one that its field's type has
  pub HasFields : TypeTrees → Contents → Type 0
  HasFields no_types no_contents = Unit {0}
  HasFields (type_then t ts) (content_then c cs) = HasAt (storage t) c × HasFields ts cs
  HasFields _ _ = ⊥

-- the type has the content, by cases; an extension has what its storage has
abbrev pub HasContent : TypeTree → Content → Type 0
HasContent t c = HasAt (storage t) c

-- Some valid raw value of a type has a content exactly if the cases say so.
abbrev pub HasByCases : Type 0
HasByCases = (t : TypeTree) (c : Content) → Has t c ↔ HasContent t c
