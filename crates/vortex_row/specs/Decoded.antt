-- What a decoder answers of bytes: the value whose key they begin with, or the first byte that no key has there.
use Rattle.std.specs.Prelude.{◌≡◌, ◌⊎◌, ℕ, suc, ◌<◌, ◌≤◌, List, [], ◌∷◌, ◌++◌, length, map, take, MatchResult, Result, Vec}
use Rattle.std.specs.Global.{Global}
use Rattle.vortex_dtype.specs.TypeTree.{TypeTree, TypeTrees, no_types, type_then}
use Rattle.vortex_value.specs.Validity.{Valid}
use Rattle.vortex_value.specs.Values.Content.{content}
use Rattle.vortex_value.specs.Values.RawTree.{RawTree}
use Rattle.vortex_value.specs.Values.Scalars.{IsMadeOf, scalar_content, scalar_raw, scalar_type}
use Rattle.vortex_value.specs.declared.scalars.Scalar.{Scalar}
use Rattle.vortex_row.specs.Columns.{key_with, row_key}
use Rattle.vortex_row.specs.Held.{IsHeld}
use Rattle.vortex_row.specs.declared.error.RowError.{RowError}
use Rattle.vortex_row.specs.declared.error.RowError.TheVariants.{OutOfMemory}
use Rattle.vortex_row.specs.declared.options.SortOptions.{SortOptions}

-- v is a value of the type that memory can hold
pub record IsValueOf (t : TypeTree) (v : RawTree) : Type 0 where
  pub valid : Valid t v
  pub held : IsHeld (content v)

-- as many as the types, each a value of its type
abbrev pub AreValuesOf : TypeTrees → List RawTree → Type 0
AreValuesOf no_types [] = Unit {0}
AreValuesOf (type_then t ts) (v ∷ vs) = IsValueOf t v × AreValuesOf ts vs
AreValuesOf _ _ = ⊥

-- the key of a row of these values
abbrev pub values_key : List SortOptions → List RawTree → List ℕ
values_key os vs = row_key os (map content vs)

-- the bytes begin with the key of v, a value of the type, and go on with rest
pub record BeginsWithKey (o : SortOptions) (t : TypeTree) (bytes : List ℕ) (v : RawTree) (rest : List ℕ) : Type 0 where
  pub value : IsValueOf t v
  pub is : bytes ≡ key_with o (content v) ++ rest

-- the bytes begin with the key of a row of these values of the types, and go on with rest
pub record BeginsWithRow (os : List SortOptions) (ts : TypeTrees) (bytes : List ℕ) (vs : List RawTree) (rest : List ℕ) : Type 0 where
  pub values : AreValuesOf ts vs
  pub is : bytes ≡ values_key os vs ++ rest

-- the key of a value of the type
pub record IsKeyOf (o : SortOptions) (t : TypeTree) (bs : List ℕ) : Type 0 where
  pub value : RawTree
  pub begins : BeginsWithKey o t bs value []

-- the key of a row of values of the types
pub record IsRowKeyOf (os : List SortOptions) (ts : TypeTrees) (bs : List ℕ) : Type 0 where
  pub values : List RawTree
  pub begins : BeginsWithRow os ts bs values []

-- some bytes that begin with these begin with one of the keys
pub record MayBegin (IsOne : List ℕ → Type 0) (bytes : List ℕ) : Type 0 where
  pub key : List ℕ
  pub more : List ℕ
  pub rest : List ℕ
  pub is_one : IsOne key
  pub is : bytes ++ more ≡ key ++ rest

-- The offset of the first byte that none of the keys has: those before, if there are any, may begin a key, and with it they
-- may not. If there are no keys, it is 0. If the bytes end too early, it is the offset after them
pub record IsFirstBad (IsOne : List ℕ → Type 0) (bytes : List ℕ) (place : ℕ) : Type 0 where
  pub within : place ≤ length bytes
  pub before : (place ≡ 0) ⊎ MayBegin IsOne (take place bytes)
  pub bad : place < length bytes → ¬ (MayBegin IsOne (take (suc place) bytes))
  pub no_key : (k rest : List ℕ) → IsOne k → ¬ (bytes ≡ k ++ rest)

-- the answer is exactly this value of the type and how long its key is, or there is no memory
abbrev pub DecodesTo : SortOptions → TypeTree → RawTree → Result (Scalar × ℕ) RowError → Type 0
DecodesTo o t v r = MatchResult r (λ p. IsMadeOf t v p.0 × (p.1 ≡ length (key_with o (content v)))) (λ e. e ≡ OutOfMemory)

-- the same of a scalar that stands already
abbrev pub DecodesInto : SortOptions → TypeTree → RawTree → Scalar → Result ℕ RowError → Type 0
DecodesInto o t v x r = MatchResult r (λ n. IsMadeOf t v x × (n ≡ length (key_with o (content v)))) (λ e. e ≡ OutOfMemory)

-- as many scalars as the types, each of its type and its value
abbrev pub AreMadeOf : TypeTrees → List RawTree → List Scalar → Type 0
AreMadeOf no_types [] [] = Unit {0}
AreMadeOf (type_then t ts) (v ∷ vs) (x ∷ xs) = IsMadeOf t v x × AreMadeOf ts vs xs
AreMadeOf _ _ _ = ⊥

-- the scalar is of the type and is a value of it, and the bytes begin with its key, which has so many
pub record IsDecoded (o : SortOptions) (t : TypeTree) (bytes : List ℕ) (x : Scalar) (n : ℕ) : Type 0 where
  pub typed : scalar_type x ≡ t
  pub rest : List ℕ
  pub begins : BeginsWithKey o t bytes (scalar_raw x) rest
  pub count : n ≡ length (key_with o (scalar_content x))

-- as many scalars as types, each of its type
abbrev pub AreOfTypes : TypeTrees → List Scalar → Type 0
AreOfTypes no_types [] = Unit {0}
AreOfTypes (type_then t ts) (x ∷ xs) = (scalar_type x ≡ t) × AreOfTypes ts xs
AreOfTypes _ _ = ⊥

-- the scalars are of the types and are values of them, and the bytes begin with the key of their row, which has so many
pub record IsDecodedRow (os : List SortOptions) (ts : TypeTrees) (bytes : List ℕ) (xs : List Scalar) (n : ℕ) : Type 0 where
  pub typed : AreOfTypes ts xs
  pub rest : List ℕ
  pub begins : BeginsWithRow os ts bytes (map scalar_raw xs) rest
  pub count : n ≡ length (values_key os (map scalar_raw xs))

-- the answer is exactly the scalars of these values and how long the key of their row is, or there is no memory
abbrev pub DecodesRowTo : List SortOptions → TypeTrees → List RawTree → Result (Vec Scalar Global × ℕ) RowError → Type 0
DecodesRowTo os ts vs r = MatchResult r (λ p. AreMadeOf ts vs p.0.items × (p.1 ≡ length (values_key os vs))) (λ e. e ≡ OutOfMemory)
