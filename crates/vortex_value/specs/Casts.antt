-- Which casts the table allows, which contents a type has, and the one value of a content.
use Rattle.std.specs.Prelude.{◌≡◌, ◌==◌, ℕ, Bool, true, false, List, ◌∷◌}
use Rattle.vortex_dtype.specs.TypeTree.{TypeTree, null_type, bool_type, integer_type, utf8_type, binary_type, list_type, fixed_size_list_type, map_type, struct_type, union_type, variant_type, extension_type, TypeTrees, no_types, type_then, IsFlat, Same}
use Rattle.vortex_dtype.specs.declared.error.VortexError.{VortexError}
use Rattle.vortex_dtype.specs.declared.error.VortexError.TheVariants.{CannotCast, OutOfMemory}
use Rattle.vortex_value.specs.Values.Content.{Content, null, sequence, tagged, Contents, no_contents, content_then, content}
use Rattle.vortex_value.specs.Values.RawTree.{RawTree}
use Rattle.vortex_value.specs.Validity.{Valid}

-- the null
abbrev pub IsNull : Content → Type 0
IsNull null = Unit {0}
IsNull _ = ⊥

-- one of the eight types of integers
abbrev pub IsInteger : TypeTree → Type 0
IsInteger (integer_type k n) = Unit {0}
IsInteger _ = ⊥

-- an extension, whatever its storage
abbrev pub IsExtension : TypeTree → Type 0
IsExtension (extension_type id metadata t) = Unit {0}
IsExtension _ = ⊥

-- s is an extension whose storage is t up to nullability
abbrev pub Wraps : TypeTree → TypeTree → Type 0
Wraps (extension_type id metadata u) t = Same u t
Wraps _ t = ⊥

-- s is an unsorted map, and t a sorted one
abbrev pub Sorts : TypeTree → TypeTree → Type 0
Sorts (map_type k v false n) (map_type l w true m) = Unit {0}
Sorts _ _ = ⊥

-- p holds at each place
abbrev pub EachPlace : (Content → Type 0) → Contents → Type 0
EachPlace p no_contents = Unit {0}
EachPlace p (content_then c cs) = p c × EachPlace p cs

-- each place is an entry, p holds of its key and q of its value
abbrev pub EachEntry : (Content → Type 0) → (Content → Type 0) → Contents → Type 0
EachEntry p q no_contents = Unit {0}
EachEntry p q (content_then (sequence (content_then a (content_then b no_contents))) cs) = p a × q b × EachEntry p q cs
EachEntry p q _ = ⊥

-- s is a list, of a fixed size or not, and p holds of its element type at each place of the sequence
abbrev pub ByElement : (TypeTree → Content → Type 0) → TypeTree → Content → Type 0
ByElement p (list_type e n) (sequence cs) = EachPlace (p e) cs
ByElement p (fixed_size_list_type e size n) (sequence cs) = EachPlace (p e) cs
ByElement p _ _ = ⊥

-- s is a map, p holds of its key type and q of its value type at each entry of the sequence
abbrev pub ByEntry : (TypeTree → Content → Type 0) → (TypeTree → Content → Type 0) → TypeTree → Content → Type 0
ByEntry p q (map_type k v sorted n) (sequence cs) = EachEntry (p k) (q v) cs
ByEntry p q _ _ = ⊥

-- s is a struct, and p holds of its field types and the places of the sequence
abbrev pub ByField : (TypeTrees → Contents → Type 0) → TypeTree → Content → Type 0
ByField p (struct_type names ts n) (sequence cs) = p ts cs
ByField p _ _ = ⊥

-- p if the id is found, and else q
abbrev pub ForId : Bool → Type 0 → Type 0 → Type 0
ForId true p q = p
ForId false p q = q

-- s is a union with these ids, and p holds of the id and the child, and of its variant types
abbrev pub ByChild : (ℕ → TypeTrees → Content → Type 0) → TypeTree → List ℕ → Content → Type 0
ByChild p (union_type names ss is n) js (tagged id c) = (is ≡ js) × p id ss c
ByChild p _ js _ = ⊥

-- The rows of the cast table, from a type s and a content c to a type t. The last five parts say what the parts of t
-- allow. These are the storage of an extension, a list's elements, a map's entries, a struct's fields, and the variant of
-- a union that the content's id gives.
pub data Row (s t : TypeTree) (c : Content) (wrapped elements entries fields children : Type 0) : Type 0 where
  same_type : Same s t → Row s t c wrapped elements entries fields children
  a_null : IsNull c → ¬ (Sorts s t) → Row s t c wrapped elements entries fields children
  into_extension : wrapped → Row s t c wrapped elements entries fields children
  integers : IsInteger s → IsInteger t → Row s t c wrapped elements entries fields children
  lists : elements → Row s t c wrapped elements entries fields children
  maps : entries → Row s t c wrapped elements entries fields children
  structs : fields → Row s t c wrapped elements entries fields children
  unions : children → Row s t c wrapped elements entries fields children
  from_extension : Wraps s t → ¬ (IsExtension t) → Row s t c wrapped elements entries fields children

-- some row of the table allows the cast from s to t of this content
abbrev mutual
  pub Allows : TypeTree → TypeTree → Content → Type 0
  Allows s null_type c = Row s null_type c ⊥ ⊥ ⊥ ⊥ ⊥
  Allows s (bool_type n) c = Row s (bool_type n) c ⊥ ⊥ ⊥ ⊥ ⊥
  Allows s (integer_type k n) c = Row s (integer_type k n) c ⊥ ⊥ ⊥ ⊥ ⊥
  Allows s (utf8_type n) c = Row s (utf8_type n) c ⊥ ⊥ ⊥ ⊥ ⊥
  Allows s (binary_type n) c = Row s (binary_type n) c ⊥ ⊥ ⊥ ⊥ ⊥
  Allows s (list_type f n) c = Row s (list_type f n) c ⊥ (ByElement (λ e d. Allows e f d) s c) ⊥ ⊥ ⊥
  Allows s (fixed_size_list_type f size n) c = Row s (fixed_size_list_type f size n) c ⊥ (ByElement (λ e d. Allows e f d) s c) ⊥ ⊥ ⊥
  Allows s (map_type l w sorted n) c =
      Row s (map_type l w sorted n) c ⊥ ⊥ (¬ (Sorts s (map_type l w sorted n)) × ByEntry (λ k d. Allows k l d) (λ v d. Allows v w d) s c) ⊥ ⊥
  Allows s (struct_type names us n) c = Row s (struct_type names us n) c ⊥ ⊥ ⊥ (ByField (λ ss cs. AllowsFields ss us cs) s c) ⊥
  Allows s (union_type names us ids n) c = Row s (union_type names us ids n) c ⊥ ⊥ ⊥ ⊥ (ByChild (λ id ss d. AllowsChild id ids ss us d) s ids c)
  Allows s (variant_type n) c = Row s (variant_type n) c ⊥ ⊥ ⊥ ⊥ ⊥
  Allows s (extension_type id metadata u) c = Row s (extension_type id metadata u) c (¬ (IsNull c) × Allows s u c) ⊥ ⊥ ⊥ ⊥

  -- equally many fields and places, each place allowed between the fields at it
  pub AllowsFields : TypeTrees → TypeTrees → Contents → Type 0
  AllowsFields no_types no_types no_contents = Unit {0}
  AllowsFields (type_then s ss) (type_then u us) (content_then c cs) = Allows s u c × AllowsFields ss us cs
  AllowsFields _ _ _ = ⊥

  -- between the variant types of the id
  pub AllowsChild : ℕ → List ℕ → TypeTrees → TypeTrees → Content → Type 0
  AllowsChild id (i ∷ is) (type_then s ss) (type_then u us) c = ForId (i == id) (Allows s u c) (AllowsChild id is ss us c)
  AllowsChild id _ _ _ c = ⊥

-- some valid raw value of the type has the content
pub record Has (t : TypeTree) (c : Content) : Type 0 where
  pub value : RawTree
  pub valid : Valid t value
  pub same : content value ≡ c

-- the table allows the cast, and the target has the content
abbrev pub CanCast : TypeTree → TypeTree → Content → Type 0
CanCast s t c = Allows s t c × Has t c

-- Types that are the same up to nullability have one raw value of each content.
abbrev pub OneValue : Type 0
OneValue = (s t : TypeTree) (v w : RawTree) → Same s t → Valid s v → Valid t w → content v ≡ content w → v ≡ w

-- the value w of type t is what a cast of the value v of type s gives
pub record IsCast (s t : TypeTree) (v w : RawTree) : Type 0 where
  pub allowed : Allows s t (content v)
  pub valid : Valid t w
  pub same : content w ≡ content v

-- a cast to t, possible if p holds, is refused: because it is impossible, or as out of memory, which flat types never
-- answer; for nothing else
abbrev pub RefusesCast : TypeTree → Type 0 → VortexError → Type 0
RefusesCast t p CannotCast = ¬ p
RefusesCast t p OutOfMemory = ¬ (IsFlat t)
RefusesCast t p _ = ⊥
