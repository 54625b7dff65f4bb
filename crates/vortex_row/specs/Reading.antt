-- What the steps of a decoder answer: what they read, or that the bytes go on as no key does.
use Rattle.std.specs.Prelude.{◌≡◌, ℕ, ◌<◌, ◌⊎◌, List, [], ◌∷◌, ◌++◌, MatchResult, Option, Result, Bool, false, true, None, Some}
use Rattle.vortex_dtype.specs.TypeTree.{TypeTree, list_type, fixed_size_list_type, map_type, struct_type, union_type, variant_type, extension_type, TypeTrees, no_types, type_then}
use Rattle.vortex_dtype.specs.declared.nullability.Nullability.TheVariants.{NonNullable}
use Rattle.vortex_value.specs.Equality.{HasNoTyped, HaveNoTyped}
use Rattle.vortex_value.specs.Validity.{EachValid, Valid, type_with}
use Rattle.vortex_value.specs.Values.Content.{content, contents}
use Rattle.vortex_value.specs.Values.RawOf.{raw_of}
use Rattle.vortex_value.specs.Values.RawTree.{RawTree, RawTrees, count, is_absent}
use Rattle.vortex_value.specs.declared.values.ScalarValue.{ScalarValue}
use Rattle.vortex_row.specs.Held.{IsHeld, AreHeld}
use Rattle.vortex_row.specs.Keys.{inverted, key, keys}
use Rattle.vortex_row.specs.declared.reader.KeyDecodeError.{KeyDecodeError}
use Rattle.vortex_row.specs.declared.reader.KeyDecodeError.TheVariants.{Bad}
use Rattle.vortex_row.specs.declared.reader.Reader.{Reader}
use Rattle.vortex_row.specs.declared.reader.ValueError.{ValueError}
use Rattle.vortex_row.specs.declared.reader.ValueError.TheVariants.{Key, NoValue}

-- what is left to be read
abbrev pub left : Reader → List ℕ
left r = inverted r.invert r.rest.now

-- the two begin with the same byte, or both are empty
abbrev pub BeginAlike : List ℕ → List ℕ → Type 0
BeginAlike [] [] = Unit {0}
BeginAlike (x ∷ xs) (y ∷ ys) = x ≡ y
BeginAlike _ _ = ⊥

-- Of what was to be read, the bytes before now, if there are any, may begin one of the strings; and what now begins with, a
-- byte or the end, comes next in none of them.
pub record IsStuck (Is : List ℕ → Type 0) (old now : List ℕ) : Type 0 where
  pub done : List ℕ
  pub split : old ≡ done ++ now
  pub begins : (done ≡ []) ⊎ ((more : List ℕ) × Is (done ++ more))
  pub none : (s zs rest : List ℕ) → Is s → BeginAlike now zs → ¬ (done ++ zs ≡ s ++ rest)

-- after front come just the strings of Rest: with them it is one of the strings, and no other string agrees with it
pub record ContinueWith (front : List ℕ) (Is Rest : List ℕ → Type 0) : Type 0 where
  pub join : (q : List ℕ) → Rest q → Is (front ++ q)
  pub split : (s zs rest : List ℕ) → Is s → front ++ zs ≡ s ++ rest → (q : List ℕ) × Rest q × (zs ≡ q ++ rest)

-- the bytes begin with one of the strings
pub record BeginsWithOne (Is : List ℕ → Type 0) (bs : List ℕ) : Type 0 where
  pub string : List ℕ
  pub rest : List ℕ
  pub is_one : Is string
  pub is : bs ≡ string ++ rest

-- none of the strings begins with this byte, nor is one empty
abbrev pub NoneBegins : (List ℕ → Type 0) → ℕ → Type 0
NoneBegins Is b = (s zs rest : List ℕ) → Is s → ¬ (b ∷ zs ≡ s ++ rest)

-- a value of this kind that a key can have: one that memory holds, without typed children
pub record IsPlain (IsOne : RawTree → Type 0) (v : RawTree) : Type 0 where
  pub kind : IsOne v
  pub held : IsHeld (content v)
  pub untyped : HasNoTyped (content v)

-- the same of several
pub record ArePlain (AreAll : RawTrees → Type 0) (vs : RawTrees) : Type 0 where
  pub kind : AreAll vs
  pub held : AreHeld (contents vs)
  pub untyped : HaveNoTyped (contents vs)

-- the key of such a value
pub record IsKey (IsOne : RawTree → Type 0) (bs : List ℕ) : Type 0 where
  pub value : RawTree
  pub plain : IsPlain IsOne value
  pub is : bs ≡ key (content value)

-- the keys of such parts, and their end
pub record AreKeys (AreAll : RawTrees → Type 0) (bs : List ℕ) : Type 0 where
  pub values : RawTrees
  pub plain : ArePlain AreAll values
  pub is : bs ≡ keys (contents values)

-- the value was read: its key came first
pub record HasRead (IsOne : RawTree → Type 0) (v : RawTree) (old now : List ℕ) : Type 0 where
  pub plain : IsPlain IsOne v
  pub is : old ≡ key (content v) ++ now

-- the parts were read: their keys came first, and their end
pub record HaveRead (AreAll : RawTrees → Type 0) (vs : RawTrees) (old now : List ℕ) : Type 0 where
  pub plain : ArePlain AreAll vs
  pub is : old ≡ keys (contents vs) ++ now

-- there is a value of this kind that a key can have
abbrev pub HasPlain : (RawTree → Type 0) → Type 0
HasPlain IsOne = (v : RawTree) × IsPlain IsOne v

-- there are parts of this kind that keys can have
abbrev pub HavePlain : (RawTrees → Type 0) → Type 0
HavePlain AreAll = (vs : RawTrees) × ArePlain AreAll vs

-- a value of this kind is read, or memory is refused, or the bytes go on as no key of such a value
abbrev pub Reads : {A : Type 0} → (RawTree → Type 0) → (A → RawTree) → Result A KeyDecodeError → List ℕ → List ℕ → Type 0
Reads IsOne view r old now = MatchResult r (λ x. HasRead IsOne (view x) old now) (λ e. e ≡ Bad → IsStuck (IsKey IsOne) old now)

-- a value of this kind is read into its place, or memory is refused, or the bytes go on as no key of such a value
abbrev pub ReadsInto : (RawTree → Type 0) → Result Unit KeyDecodeError → RawTree → List ℕ → List ℕ → Type 0
ReadsInto IsOne r v old now = MatchResult r (λ u. HasRead IsOne v old now) (λ e. e ≡ Bad → IsStuck (IsKey IsOne) old now)

-- a value of this kind was read and put to the others
abbrev pub HasPut : (RawTree → Type 0) → List (Option ScalarValue) → List (Option ScalarValue) → List ℕ → List ℕ → Type 0
HasPut IsOne parts more old now = (part : Option ScalarValue) × (more ≡ parts ++ part ∷ []) × HasRead IsOne (raw_of part) old now

-- a value of this kind is read and put to the others, or memory is refused, or the bytes go on as no key of such a value
abbrev pub Puts : (RawTree → Type 0) → Result Unit KeyDecodeError → List (Option ScalarValue) → List (Option ScalarValue) → List ℕ → List ℕ → Type 0
Puts IsOne r parts more old now =
    MatchResult r (λ u. HasPut IsOne parts more old now) (λ e. e ≡ Bad → IsStuck (IsKey IsOne) old now)

-- the Boolean says whether this is so
abbrev pub Tells : Bool → Type 0 → Type 0
Tells true P = P
Tells false P = ¬ P

-- why no value of this kind is read: there is none, or memory is refused, or the bytes go on as no key of one
abbrev pub Refuses : (RawTree → Type 0) → ValueError → List ℕ → List ℕ → Type 0
Refuses IsOne NoValue old now = ¬ (HasPlain IsOne)
Refuses IsOne (Key e) old now = e ≡ Bad → HasPlain IsOne × IsStuck (IsKey IsOne) old now

-- a value of this kind is read, or it is told why none is
abbrev pub ReadsOne : {A : Type 0} → (RawTree → Type 0) → (A → RawTree) → Result A ValueError → List ℕ → List ℕ → Type 0
ReadsOne IsOne view r old now = MatchResult r (λ x. HasRead IsOne (view x) old now) (λ e. Refuses IsOne e old now)

-- a value of this kind is read and put to the others, or it is told why none is
abbrev pub PutsOne : (RawTree → Type 0) → Result Unit ValueError → List (Option ScalarValue) → List (Option ScalarValue) → List ℕ → List ℕ → Type 0
PutsOne IsOne r parts more old now = MatchResult r (λ u. HasPut IsOne parts more old now) (λ e. Refuses IsOne e old now)

-- the refusal of bytes, of a kind that has values or has none
abbrev pub bad_or_none : Bool → ValueError
bad_or_none true = Key Bad
bad_or_none false = NoValue

-- the refusal of a whole by that of a part: those before it have values, and those after it have them or not
abbrev pub of_whole : ValueError → Bool → ValueError
of_whole (Key Bad) has_rest = bad_or_none has_rest
of_whole e has_rest = e

-- it is that of a whole, by that of a part, if this is what comes after that part
abbrev pub IsOfWhole : ValueError → Type 0 → ValueError → Type 0
IsOfWhole part Rest e = (b : Bool) × (e ≡ of_whole part b) × Tells b Rest

-- where no value need come: if there is none, the byte at start is bad
abbrev pub GoesBack : List ℕ → ValueError → KeyDecodeError → List ℕ → List ℕ → Type 0
GoesBack start NoValue e old now = (e ≡ Bad) × (now ≡ start)
GoesBack start (Key f) e old now = (e ≡ f) × (now ≡ old)

-- where one of several may come: if there is not that one, the byte at start is bad, and the others are there or not
abbrev pub GoesBackIn : Type 0 → List ℕ → ValueError → ValueError → List ℕ → List ℕ → Type 0
GoesBackIn Others start NoValue e old now = (b : Bool) × (e ≡ bad_or_none b) × Tells b Others × (now ≡ start)
GoesBackIn Others start (Key f) e old now = (e ≡ Key f) × (now ≡ old)

-- the type has values that keys can have: no variant stands in it, and each union in it has a variant, whose id is a byte
abbrev mutual
  pub HasValues : TypeTree → Type 0
  HasValues (variant_type n) = ⊥
  HasValues (union_type names (type_then t ts) (id ∷ ids) n) = (id < 256) × HasValues t × AllHaveValues ts
  HasValues (union_type names ts ids n) = ⊥
  HasValues (list_type e n) = HasValues e
  HasValues (fixed_size_list_type e size n) = HasValues e
  HasValues (map_type k w sorted n) = HasValues k × HasValues w
  HasValues (struct_type names ts n) = AllHaveValues ts
  HasValues (extension_type id metadata t) = HasValues t
  HasValues _ = Unit {0}

  -- and so has each of the types
  pub AllHaveValues : TypeTrees → Type 0
  AllHaveValues no_types = Unit {0}
  AllHaveValues (type_then t ts) = HasValues t × AllHaveValues ts

-- there is such a string
abbrev pub HasOne : (List ℕ → Type 0) → Type 0
HasOne Is = (s : List ℕ) × Is s

-- one of the types has this id, and has a value that a key can have
pub record HasChild (id : ℕ) (ids : List ℕ) (ts : TypeTrees) : Type 0 where
  pub type : TypeTree
  pub has : type_with id ids ts ≡ Some type
  pub value : HasPlain (Valid type)

-- the type with this id, if there is an id, has no such value
abbrev pub LacksChild : Option ℕ → List ℕ → TypeTrees → Type 0
LacksChild None ids ts = Unit {0}
LacksChild (Some id) ids ts = ¬ (HasChild id ids ts)

-- a value of the type that is no null
pub record IsPresent (t : TypeTree) (v : RawTree) : Type 0 where
  pub valid : Valid t v
  pub present : is_absent v ≡ false

-- an id that one of the types has, and the key of a value of that type
pub record IsChild (ids : List ℕ) (ts : TypeTrees) (bs : List ℕ) : Type 0 where
  pub id : ℕ
  pub small : id < 256
  pub type : TypeTree
  pub has : type_with id ids ts ≡ Some type
  pub child : List ℕ
  pub is_key : IsKey (Valid type) child
  pub is : bs ≡ id ∷ child

-- an entry of a map: a present struct of a key and a value
abbrev pub entry_type : TypeTree → TypeTree → TypeTree
entry_type k w = struct_type [] (type_then k (type_then w no_types)) NonNullable

-- the string, inverted or not, of one of these
pub record IsInverted (invert : Bool) (Is : List ℕ → Type 0) (bs : List ℕ) : Type 0 where
  pub string : List ℕ
  pub is_one : Is string
  pub is : bs ≡ inverted invert string

-- so many values of the type
pub record AreSized (size : ℕ) (t : TypeTree) (vs : RawTrees) : Type 0 where
  pub count : count vs ≡ size
  pub valid : EachValid t vs
