-- The zero and the default of a type, and which contents are zero.
use Rattle.std.specs.Prelude.{◌≡◌, ◌↔◌, ◌==◌, ◌&&◌, ℕ, zero, suc, pos, not, Bool, true, false, List, [], ◌∷◌, length, Option, Some, None, IsSome, option_map, unwrap_or, if◌then◌else◌}
use Rattle.std.specs.Ordering.{int_eq}
use Rattle.vortex_dtype.specs.TypeTree.{TypeTree, null_type, bool_type, integer_type, utf8_type, binary_type, list_type, fixed_size_list_type, map_type, struct_type, union_type, variant_type, extension_type, TypeTrees, no_types, type_then, IsNullable, storage}
use Rattle.vortex_dtype.specs.declared.nullability.Nullability.{Nullability}
use Rattle.vortex_dtype.specs.declared.nullability.Nullability.TheVariants.{Nullable}
use Rattle.vortex_value.specs.Casts.{Has, IsNull}
use Rattle.vortex_value.specs.Values.Content.{Content, null, truth, whole, text, string, sequence, tagged, typed, Contents, no_contents, content_then, content}
use Rattle.vortex_value.specs.Values.RawTree.{RawTree}
use Rattle.vortex_value.specs.Values.Scalars.{IsTheOne}
use Rattle.vortex_value.specs.TypesWithin.{HasNoVariant, UnionsHaveVariants}
use Rattle.vortex_value.specs.Validity.{Valid}
use Rattle.vortex_value.specs.declared.scalars.Scalar.{Scalar}

-- if nulls are taken, the null for a type that takes one; else the other
abbrev pub null_or : Bool → Nullability → Option Content → Option Content
null_or true Nullable other = Some null
null_or _ _ other = other

-- the content, so many times
abbrev pub repeated : ℕ → Content → Contents
repeated zero c = no_contents
repeated (suc n) c = content_then c (repeated n c)

-- so many places of the content; without a content only no places can be filled
abbrev pub places_of : ℕ → Option Content → Option Content
places_of size (Some c) = Some (sequence (repeated size c))
places_of zero None = Some (sequence no_contents)
places_of (suc n) None = None

-- a content and the rest, if there are both
abbrev pub and_rest : Option Content → Option Contents → Option Contents
and_rest (Some c) (Some cs) = Some (content_then c cs)
and_rest _ _ = None

-- what fills a type, if something does: false, 0 and what is empty, and in parts what fills them; if nulls are
-- taken, a null wherever the type takes one
abbrev mutual
  pub filling : Bool → TypeTree → Option Content
  filling nulls null_type = null_or nulls Nullable None
  filling nulls (bool_type n) = null_or nulls n (Some (truth false))
  filling nulls (integer_type k n) = null_or nulls n (Some (whole (pos 0)))
  filling nulls (utf8_type n) = null_or nulls n (Some (text []))
  filling nulls (binary_type n) = null_or nulls n (Some (string []))
  filling nulls (list_type e n) = null_or nulls n (Some (sequence no_contents))
  filling nulls (map_type k w sorted n) = null_or nulls n (Some (sequence no_contents))
  filling nulls (fixed_size_list_type e size n) = null_or nulls n (places_of size (filling nulls e))
  filling nulls (struct_type names ts n) = null_or nulls n (option_map sequence (fillings nulls ts))
  filling nulls (union_type names (type_then t ts) (id ∷ ids) n) = null_or nulls n (option_map (tagged id) (filling nulls t))
  filling nulls (union_type names ts ids n) = null_or nulls n None
  filling nulls (variant_type n) = null_or nulls n (Some (typed null_type null))
  filling nulls (extension_type id metadata t) = filling nulls t

  -- what fills each of the types, if something fills them all
  pub fillings : Bool → TypeTrees → Option Contents
  fillings nulls no_types = Some no_contents
  fillings nulls (type_then t ts) = and_rest (filling nulls t) (fillings nulls ts)

-- the zero of a type, which takes no notice of nullability and is never null
abbrev pub zero_of : TypeTree → Option Content
zero_of = filling false

-- the default of a type: the null of one that takes it, and else as its zero, with defaults in its parts
abbrev pub default_of : TypeTree → Option Content
default_of = filling true

-- whether there are no places
abbrev pub has_no_places : Contents → Bool
has_no_places no_contents = true
has_no_places (content_then c cs) = false

-- what the variant says, if the id is that of the first; another is no zero
abbrev pub of_first : List ℕ → TypeTrees → ℕ → (TypeTree → Option Bool) → Option Bool
of_first (i ∷ ids) (type_then t ts) id says = if i == id then says t else Some false
of_first _ _ id says = Some false

-- the null of Null in a variant is zero; of another scalar its own content says
abbrev pub of_inner : TypeTree → Content → Option Bool → Option Bool
of_inner null_type null says = Some true
of_inner t c says = says

-- whether the content is zero at a type that is no extension; `None` of a null, and of what no value of the type has
abbrev mutual
  pub is_zero_at : TypeTree → Content → Option Bool
  is_zero_at t null = None
  is_zero_at (bool_type n) (truth b) = Some (not b)
  is_zero_at (integer_type k n) (whole z) = Some (int_eq z (pos 0))
  is_zero_at (utf8_type n) (text bs) = Some (length bs == 0)
  is_zero_at (binary_type n) (string bs) = Some (length bs == 0)
  is_zero_at (list_type e n) (sequence cs) = Some (has_no_places cs)
  is_zero_at (map_type k w sorted n) (sequence cs) = Some (has_no_places cs)
  is_zero_at (fixed_size_list_type e size n) (sequence cs) = Some (each_zero e cs)
  is_zero_at (struct_type names ts n) (sequence cs) = Some (fields_zero ts cs)
  is_zero_at (union_type names ts ids n) (tagged id c) = of_first ids ts id (λ t. is_zero_at (storage t) c)
  is_zero_at (variant_type n) (typed t c) = of_inner t c (is_zero_at (storage t) c)
  is_zero_at _ _ = None

  -- each is zero for the type; one that is neither zero nor not is not
  pub each_zero : TypeTree → Contents → Bool
  each_zero e no_contents = true
  each_zero e (content_then c cs) = unwrap_or (is_zero_at (storage e) c) false && each_zero e cs

  -- as many as fields, and each zero for its field
  pub fields_zero : TypeTrees → Contents → Bool
  fields_zero no_types no_contents = true
  fields_zero (type_then t ts) (content_then c cs) = unwrap_or (is_zero_at (storage t) c) false && fields_zero ts cs
  fields_zero _ _ = false

-- whether the content is the zero of the type; for an extension its storage says
abbrev pub is_zero_of : TypeTree → Content → Option Bool
is_zero_of t c = is_zero_at (storage t) c

-- the optional scalar is the one of type t with the content, if there is a content
abbrev pub IsTheOneOf : TypeTree → Option Content → Option Scalar → Type 0
IsTheOneOf t None None = Unit {0}
IsTheOneOf t (Some c) (Some y) = IsTheOne t c y
IsTheOneOf t _ _ = ⊥

-- A zero is the content of a valid value of the type, no null, and zero. If the type has no variant at any depth,
-- no other valid value is zero.
pub record ZeroIsZero : Type 0 where
  pub valid : (t : TypeTree) (c : Content) → zero_of t ≡ Some c → Has t c
  pub present : (t : TypeTree) (c : Content) → zero_of t ≡ Some c → ¬ (IsNull c)
  pub is_zero : (t : TypeTree) (c : Content) → zero_of t ≡ Some c → is_zero_of t c ≡ Some true
  pub only : (t : TypeTree) (v : RawTree) → HasNoVariant t → Valid t v → is_zero_of t (content v) ≡ Some true → zero_of t ≡ Some (content v)

-- A type whose unions have variants at every depth has a default. A default is the content of a valid value of the
-- type, and null exactly if the type takes a null.
pub record DefaultExists : Type 0 where
  pub exists : (t : TypeTree) → UnionsHaveVariants t → IsSome (default_of t)
  pub valid : (t : TypeTree) (c : Content) → default_of t ≡ Some c → Has t c
  pub null_exactly : (t : TypeTree) (c : Content) → default_of t ≡ Some c → IsNull c ↔ IsNullable t
