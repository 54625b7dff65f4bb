-- What truncation gives for a value that has bytes: a scalar, and whether the value was cut.
use Rattle.std.specs.Prelude.{◌≡◌, ℕ, ◌<◌, ◌≤◌, ◌↔◌, ◌⊎◌, List, length, Bool, IsTrue, Option, Some, Result, IfErr, IfNone, IfOk, IfSome, IsNone, IsOk, IsOkAnd, IsSomeAnd, MatchOption}
use Rattle.std.specs.declared.cmp.Ordering.{Ordering}
use Rattle.std.specs.declared.cmp.Ordering.TheVariants.{Less, Equal}
use Rattle.vortex_dtype.specs.TypeTree.{TypeTree, Same, nullability_of}
use Rattle.vortex_dtype.specs.declared.buffer.TheConstants.{INLINE_BYTES}
use Rattle.vortex_dtype.specs.declared.error.VortexError.{VortexError}
use Rattle.vortex_dtype.specs.declared.error.VortexError.TheVariants.{OutOfMemory}
use Rattle.vortex_dtype.specs.declared.nullability.Nullability.{Nullability}
use Rattle.vortex_value.specs.Values.RawTree.{RawTree, absent}
use Rattle.vortex_value.specs.Values.Scalars.{IsMadeOf, IsValid, scalar_order, scalar_raw, scalar_type}
use Rattle.vortex_value.specs.declared.scalars.Scalar.{Scalar}

-- t is this type at some nullability
abbrev pub IsTypeOfKind : (Nullability → TypeTree) → TypeTree → Type 0
IsTypeOfKind type_at t = (n : Nullability) × (t ≡ type_at n)

-- v is null, or the raw value of some bytes
abbrev pub MayHold : (List ℕ → RawTree) → RawTree → Type 0
MayHold raw v = (v ≡ absent) ⊎ ((b : List ℕ) × (v ≡ raw b))

-- the order says Less or Equal
abbrev pub IsUpTo : Option Ordering → Type 0
IsUpTo o = (o ≡ Some Less) ⊎ (o ≡ Some Equal)

-- x is a scalar of the raw value v, and its type is t up to nullability
pub record IsSource (t : TypeTree) (v : RawTree) (x : Scalar) : Type 0 where
  pub typed : Same (scalar_type x) t
  pub value : scalar_raw x ≡ v

-- y is the scalar of the bytes b if these are at most n, else of a best bound of them at n bytes; cut says which
pub record IsBoundOf (Best : List ℕ → ℕ → List ℕ → Type 0) (raw : List ℕ → RawTree) (t : TypeTree) (b : List ℕ) (n : ℕ) (y : Scalar) (cut : Bool) : Type 0 where
  pub bytes : List ℕ
  pub made : IsMadeOf t (raw bytes) y
  pub valid : IsValid y
  pub flag : IsTrue cut ↔ (n < length b)
  pub whole : length b ≤ n → bytes ≡ b
  pub best : n < length b → Best b n bytes

-- y is the scalar of the bytes b or of a best bound of them, and is not above any scalar of b
pub record IsLowerOf (Best : List ℕ → ℕ → List ℕ → Type 0) (raw : List ℕ → RawTree) (t : TypeTree) (b : List ℕ) (n : ℕ) (y : Scalar) (cut : Bool) : Type 0 where
  pub bound : IsBoundOf Best raw t b n y cut
  pub not_above : (x : Scalar) → IsSource t (raw b) x → IsUpTo (scalar_order y x)

-- y is the scalar of the bytes b or of a best bound of them, and is not below any scalar of b
pub record IsUpperOf (Best : List ℕ → ℕ → List ℕ → Type 0) (raw : List ℕ → RawTree) (t : TypeTree) (b : List ℕ) (n : ℕ) (y : Scalar) (cut : Bool) : Type 0 where
  pub bound : IsBoundOf Best raw t b n y cut
  pub not_below : (x : Scalar) → IsSource t (raw b) x → IsUpTo (scalar_order x y)

-- the error is want of memory, for a value of more than n bytes
abbrev pub IsOutOfMemoryFor : {V : Type 0} → (V → List ℕ) → Option V → ℕ → VortexError → Type 0
IsOutOfMemoryFor bytes value n e = (e ≡ OutOfMemory) × IsSomeAnd value (λ v. n < length (bytes v))

-- the scalar, if there is one, has this nullability
abbrev pub HasNullability : Nullability → Option (Scalar × Bool) → Type 0
HasNullability nullable given = IfSome given (λ x. nullability_of (scalar_type x.0) ≡ nullable)

-- what `lower_bound` answers: None of None, else the lower bound of the value at n bytes
pub record IsLowerAnswer {V : Type 0} (Best : List ℕ → ℕ → List ℕ → Type 0) (raw : List ℕ → RawTree) (type_at : Nullability → TypeTree) (bytes : V → List ℕ) (value : Option V) (n : ℕ) (nullable : Nullability) (result : Result (Option (Scalar × Bool)) VortexError) : Type 0 where
  pub none : IfNone value (IsOkAnd result IsNone)
  pub bound : IfSome value (λ v. IfOk result (λ given. IsSomeAnd given (λ x. IsLowerOf Best raw (type_at nullable) (bytes v) n x.0 x.1)))
  pub refused : IfErr result (IsOutOfMemoryFor bytes value n)
  pub nullability : IfOk result (HasNullability nullable)
  pub inline : n ≤ INLINE_BYTES → IsOk result

-- what `upper_bound` answers: None of None and of a longer value that has no upper bound, else the upper bound of the value at n bytes
pub record IsUpperAnswer {V : Type 0} (Best : List ℕ → ℕ → List ℕ → Type 0) (HasNone : List ℕ → ℕ → Type 0) (raw : List ℕ → RawTree) (type_at : Nullability → TypeTree) (bytes : V → List ℕ) (value : Option V) (n : ℕ) (nullable : Nullability) (result : Result (Option (Scalar × Bool)) VortexError) : Type 0 where
  pub none : IfNone value (IsOkAnd result IsNone)
  pub bound : IfSome value (λ v. IfOk result (λ given. MatchOption given
      ((n < length (bytes v)) × HasNone (bytes v) n)
      (λ x. IsUpperOf Best raw (type_at nullable) (bytes v) n x.0 x.1)))
  pub refused : IfErr result (IsOutOfMemoryFor bytes value n)
  pub nullability : IfOk result (HasNullability nullable)
  pub inline : n ≤ INLINE_BYTES → IsOk result
