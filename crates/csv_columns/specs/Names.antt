-- The names of columns.
use Rattle.std.specs.Prelude.{◌≡◌, ◌≢◌, ◌<◌, ◌+◌, ◌⊎◌, ◌++◌, ◌∷◌, ℕ, min, List, [], Bool, All, Contains, codes, length, map, replicate, slice_index_or, string_bytes, take, if◌then◌else◌}
use Rattle.std.specs.Fmt.{decimal}
use Rattle.std.specs.declared.string.String.{String}
use Rattle.std.specs.Global.{Global}

-- the bytes of names
abbrev pub texts : List (String Global) → List (List ℕ)
texts names = map string_bytes names

-- a text without a line feed
abbrev pub IsLine : List ℕ → Type 0
IsLine text = All (λ b. b ≢ 10) text

-- a column may have this name: it has a byte, and no line feed
pub record IsName (name : List ℕ) : Type 0 where
  pub some : 0 < length name
  pub one_line : IsLine name

-- each name that is given to a column is kept, if it is one and no column before is given the same
abbrev pub KeepsNames : List (List ℕ) → List (List ℕ) → Type 0
KeepsNames given names = (k : ℕ) → k < length names → k < length given → IsName (slice_index_or given k []) → ¬ (Contains (take k given) (slice_index_or given k [])) → slice_index_or names k [] ≡ slice_index_or given k []

-- the name of a column without one: its number behind $, or the word for whole lines
abbrev pub made_up : Bool → ℕ → List ℕ
made_up are_divided place = if are_divided then 36 ∷ decimal (min (place + 1) (18446744073709551615)) else codes "line"

-- the name is the first one with so many _ behind it, and the first that none of these is
pub record IsFirstFree (first : List ℕ) (given names : List (List ℕ)) (name : List ℕ) : Type 0 where
  pub count : ℕ
  pub is : name ≡ first ++ replicate count 95
  pub least : (n : ℕ) → n < count → Contains given (first ++ replicate n 95) ⊎ Contains names (first ++ replicate n 95)
  pub new : ¬ (Contains given name)
  pub other : ¬ (Contains names name)

-- each name is the one that is given at its place, or made up: the first free one of all that are given and of those before
abbrev pub AreGivenOrMade : Bool → List (List ℕ) → List (List ℕ) → Type 0
AreGivenOrMade are_divided given names = (k : ℕ) → k < length names → (slice_index_or names k [] ≡ slice_index_or given k []) ⊎ IsFirstFree (made_up are_divided k) given (take k names) (slice_index_or names k [])
