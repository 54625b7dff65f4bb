-- The bytes of numbers in keys, which a decoder reads after it knows how many they are.
use Rattle.std.specs.Prelude.{◌≡◌, ◌↔◌, ℕ, suc, ℤ, pos, negsuc, ◌+◌, ◌-◌, ◌^◌, ◌<◌, ◌≤◌, Bool, true, false, List, [], ◌∷◌, ◌++◌, length, drop}
use Rattle.vortex_dtype.specs.TypeTree.{integer_type}
use Rattle.vortex_dtype.specs.declared.nullability.Nullability.TheVariants.{NonNullable}
use Rattle.vortex_dtype.specs.declared.ptype.PType.{PType}
use Rattle.vortex_pvalue.specs.Numbers.{InRange}
use Rattle.vortex_pvalue.specs.Whole.{ptype_of, whole_of}
use Rattle.vortex_pvalue.specs.declared.pvalues.PValue.{PValue}
use Rattle.vortex_value.specs.Values.RawTree.{RawTree, raw_integer}
use Rattle.vortex_row.specs.Keys.{inverted, number_bytes, whole_key}
use Rattle.vortex_row.specs.Reading.{ContinueWith, IsInverted, IsKey, IsPlain, IsPresent}

-- the bytes of a number up to the limit, which are so many
pub record IsMagnitude (width limit : ℕ) (bs : List ℕ) : Type 0 where
  pub number : ℕ
  pub small : number ≤ limit
  pub count : length (number_bytes number) ≡ width
  pub is : bs ≡ number_bytes number

-- the bytes begin with those of the number, which is one up to the limit and has so many
pub record HasMagnitude (width limit : ℕ) (bs : List ℕ) (number : ℕ) : Type 0 where
  pub small : number ≤ limit
  pub count : length (number_bytes number) ≡ width
  pub is : bs ≡ number_bytes number ++ drop width bs

-- what is read begins with the bytes of the distance of a number from 0, inverted if it is below: so many, up to a limit
pub record HasDistance (below : Bool) (width limit number : ℕ) (old now : List ℕ) : Type 0 where
  pub small : number ≤ limit
  pub count : length (number_bytes number) ≡ width
  pub is : old ≡ inverted below (number_bytes number) ++ now

-- the first byte of the key of a number below 0 or not, of which so many bytes follow
pub record IsSide (head : ℕ) (below : Bool) (width : ℕ) : Type 0 where
  pub few : width ≤ 8
  pub down : below ≡ true → (head + width ≡ 12) × (0 < width)
  pub up : below ≡ false → head ≡ 12 + width

-- the tree of a number
abbrev pub number_tree : PValue → RawTree
number_tree n = raw_integer (ptype_of n) (whole_of n)

-- the kind has the numbers from below less than 0 up to above
pub record HasLimits (k : PType) (above below : ℕ) : Type 0 where
  pub up : (n : ℕ) → n ≤ above ↔ InRange k (pos n)
  pub down : (n : ℕ) → suc n ≤ below ↔ InRange k (negsuc n)
  pub deepest : below ≤ 2 ^ 63

-- the number that is so far above 0, or below it
abbrev pub whole_at : Bool → ℕ → ℤ
whole_at false n = pos n
whole_at true n = negsuc (n - 1)

-- After this first byte the keys of numbers of the kind go on with just the bytes of how far they are above 0, or below
-- it, inverted: so many bytes, up to a limit.
pub record GoesOnAs (k : PType) (head : ℕ) (below : Bool) (width limit : ℕ) : Type 0 where
  pub goes : ContinueWith (head ∷ []) (IsKey (IsPresent (integer_type k NonNullable))) (IsInverted below (IsMagnitude width limit))
  pub some : (bs : List ℕ) × IsInverted below (IsMagnitude width limit) bs
  pub few : width ≤ 8
  pub away : below ≡ true → 0 < width
  pub value : (n : ℕ) → n ≤ limit → length (number_bytes n) ≡ width
      → IsPlain (IsPresent (integer_type k NonNullable)) (raw_integer k (whole_at below n)) × (whole_key (whole_at below n) ≡ head ∷ inverted below (number_bytes n))
