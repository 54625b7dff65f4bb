-- Strings of bytes that come from the front of others, and where bytes go on as none of them.
use Rattle.std.specs.Prelude.{◌≡◌, ℕ, List, [], ◌∷◌, ◌++◌, MatchResult, Result}
use Rattle.filter_encoding.specs.declared.reader.FilterDecodeError.{FilterDecodeError}
use Rattle.filter_encoding.specs.declared.reader.FilterDecodeError.TheVariants.{Bad}
use Rattle.filter_encoding.specs.declared.reader.Reader.{Reader}

-- what is left to be read
abbrev pub left : Reader → List ℕ
left r = r.rest.now

-- the bytes of something of this kind
pub record IsEncodingOf {X : Type 0} (bytes_of : X → List ℕ) (Is : X → Type 0) (bs : List ℕ) : Type 0 where
  pub value : X
  pub is_one : Is value
  pub is : bs ≡ bytes_of value

-- x is of this kind, and its bytes came first
pub record HasRead {X : Type 0} (bytes_of : X → List ℕ) (Is : X → Type 0) (x : X) (old now : List ℕ) : Type 0 where
  pub is_one : Is x
  pub is : old ≡ bytes_of x ++ now

-- the two begin with the same byte, or both are empty
abbrev pub BeginAlike : List ℕ → List ℕ → Type 0
BeginAlike [] [] = Unit {0}
BeginAlike (x ∷ xs) (y ∷ ys) = x ≡ y
BeginAlike _ _ = ⊥

-- Of what was to be read, the bytes before now begin one of the strings; and what now begins with, a byte or the end, comes
-- next in none of them.
pub record IsStuck (Is : List ℕ → Type 0) (old now : List ℕ) : Type 0 where
  pub done : List ℕ
  pub split : old ≡ done ++ now
  pub more : List ℕ
  pub begins : Is (done ++ more)
  pub none : (s zs rest : List ℕ) → Is s → BeginAlike now zs → ¬ (done ++ zs ≡ s ++ rest)

-- one of this kind is read, or memory is refused, or the bytes go on as those of none
abbrev pub Reads : {X A : Type 0} → (X → List ℕ) → (X → Type 0) → (A → X) → Result A FilterDecodeError → List ℕ → List ℕ → Type 0
Reads bytes_of Is view r old now = MatchResult r (λ x. HasRead bytes_of Is (view x) old now) (λ e. e ≡ Bad → IsStuck (IsEncodingOf bytes_of Is) old now)

-- one string and then another
pub record Then (A B : List ℕ → Type 0) (bs : List ℕ) : Type 0 where
  pub first : List ℕ
  pub second : List ℕ
  pub is_first : A first
  pub is_second : B second
  pub is : bs ≡ first ++ second
