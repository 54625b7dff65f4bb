-- What holds of all casts and of all chains of them.
use Rattle.std.specs.Prelude.{◌≡◌, ◌↔◌, ◌⊎◌, Bool, List, [], ◌∷◌, Option, Result}
use Rattle.std.specs.declared.cmp.Ordering.{Ordering}
use Rattle.vortex_dtype.specs.TypeTree.{TypeTree, Same, as_nullable}
use Rattle.vortex_dtype.specs.declared.error.VortexError.{VortexError}
use Rattle.vortex_value.specs.Casts.{CanCast, IsCast}
use Rattle.vortex_value.specs.CastAnswers.{AnswersCast, GivesCast}
use Rattle.vortex_value.specs.Chains.{last_of, Runs}
use Rattle.vortex_value.specs.Values.Content.{Content, null, sequence, tagged, Contents, no_contents, content_then, content}
use Rattle.vortex_value.specs.Equality.{EqualContents}
use Rattle.vortex_value.specs.Order.{order}
use Rattle.vortex_value.specs.Values.RawTree.{RawTree}
use Rattle.vortex_value.specs.Values.Scalars.{IsMadeOf, IsTheOne, IsValid, scalar_content, scalar_raw, scalar_type}
use Rattle.vortex_value.specs.TypesWithin.{HasNoExtension, HasNoMap}
use Rattle.vortex_value.specs.Validity.{Valid}
use Rattle.vortex_value.specs.declared.scalars.Scalar.{Scalar}

-- Two chains from one value give one value if their last types are the same up to nullability, whatever types they go
-- through.
abbrev pub ChainsAgree : Type 0
ChainsAgree = (s : TypeTree) (v : RawTree) (t u : TypeTree) (ts us : List TypeTree) (w x : RawTree)
    → Runs s v t ts w → Runs s v u us x → Same (last_of t ts) (last_of u us) → w ≡ x

-- A value that was cast, cast back to the first type, is the first value.
abbrev pub ThereAndBack : Type 0
ThereAndBack = (s t : TypeTree) (v w x : RawTree) → Valid s v → IsCast s t v w → IsCast t s w x → x ≡ v

-- the values x and y are equal, one, and ordered, as the values v and w are
pub record AreAlike (v w x y : RawTree) : Type 0 where
  pub equality : EqualContents (content x) (content y) ↔ EqualContents (content v) (content w)
  pub value : (x ≡ y) ↔ (v ≡ w)
  pub ordered : order (content x) (content y) ≡ order (content v) (content w)

-- Chains to types that are the same up to nullability, from types that are so too, keep equality and order, whatever types
-- they go through. A cast is a chain of one.
abbrev pub ChainsKeepValues : Type 0
ChainsKeepValues = (s u : TypeTree) (v w : RawTree) (t r : TypeTree) (ts rs : List TypeTree) (x y : RawTree)
    → Same s u → Same (last_of t ts) (last_of r rs) → Runs s v t ts x → Runs u w r rs y → AreAlike v w x y

-- The test and the order say of the scalars that casts to one type give what they say of those that were cast.
abbrev pub CastsKeepScalars : (Scalar → Scalar → Bool) → (Scalar → Scalar → Option Ordering) → Type 0
CastsKeepScalars eq cmp = (x y a b : Scalar) (t : TypeTree) → Same (scalar_type x) (scalar_type y) → IsTheOne t (scalar_content x) a → IsTheOne t (scalar_content y) b
    → (eq a b ≡ eq x y) × (cmp a b ≡ cmp x y)

-- no null stands in the content, at any depth; typed children are not looked into
abbrev mutual
  pub HasNoNull : Content → Type 0
  HasNoNull null = ⊥
  HasNoNull (sequence cs) = HaveNoNull cs
  HasNoNull (tagged id c) = HasNoNull c
  HasNoNull _ = Unit {0}

  -- nor in any of the contents
  pub HaveNoNull : Contents → Type 0
  HaveNoNull no_contents = Unit {0}
  HaveNoNull (content_then c cs) = HasNoNull c × HaveNoNull cs

-- Between types without extensions one cast gives what a chain does, unless maps stand in the types and nulls in the content.
abbrev pub NoWayRound : Type 0
NoWayRound = (s : TypeTree) (v : RawTree) (t : TypeTree) (ts : List TypeTree) (w : RawTree) → Runs s v t ts w
    → HasNoExtension s → HasNoExtension (last_of t ts) → (HasNoMap s × HasNoMap (last_of t ts)) ⊎ HasNoNull (content v)
    → IsCast s (last_of t ts) v w

-- So what a chain gives, the direct cast answers, unless there is no memory.
abbrev pub NoCallFurther : Type 0
NoCallFurther = (s : TypeTree) (v : RawTree) (t : TypeTree) (ts : List TypeTree) (w : RawTree) (r : Result Scalar VortexError) → Runs s v t ts w
    → HasNoExtension s → HasNoExtension (last_of t ts) → (HasNoMap s × HasNoMap (last_of t ts)) ⊎ HasNoNull (content v)
    → AnswersCast s (last_of t ts) v r → GivesCast (last_of t ts) w r

-- A valid value is what its casts to its type made nullable, and back, give.
abbrev pub IntoNullableAndBack : Type 0
IntoNullableAndBack = (s : TypeTree) (v : RawTree) → Valid s v → IsCast s (as_nullable s) v v × IsCast (as_nullable s) s v v

-- So y, which is x made nullable, cast back answers x, unless there is no memory.
abbrev pub NullableCastsBack : Type 0
NullableCastsBack = (x y : Scalar) (r : Result Scalar VortexError) → IsValid x → IsMadeOf (as_nullable (scalar_type x)) (scalar_raw x) y
    → AnswersCast (scalar_type y) (scalar_type x) (scalar_raw y) r → GivesCast (scalar_type x) (scalar_raw x) r

-- Casts that calls make, owned or of what is lent, and chains. What a cast of the value v of type s answered is a cast. A
-- cast and a chain that goes on from it are a chain. Back from a chain, its first cast is possible, and what is cast so
-- goes on along the rest. What a call answers is the value that the cast gives.
pub record CallsAreChains : Type 0 where
  pub cast : (s t : TypeTree) (v : RawTree) (y : Scalar) → CanCast s t (content v) → IsTheOne t (content v) y → IsCast s t v (scalar_raw y)
  pub alone : (s t : TypeTree) (v w : RawTree) → Valid s v → IsCast s t v w → Runs s v t [] w
  pub further : (s t u : TypeTree) (us : List TypeTree) (v w x : RawTree) → Valid s v → IsCast s t v w → Runs t w u us x → Runs s v t (u ∷ us) x
  pub possible : (s t : TypeTree) (ts : List TypeTree) (v x : RawTree) → Runs s v t ts x → CanCast s t (content v)
  pub last : (s t : TypeTree) (v w : RawTree) → Runs s v t [] w → IsCast s t v w
  pub rest : (s t u : TypeTree) (us : List TypeTree) (v w x : RawTree) → Runs s v t (u ∷ us) x → IsCast s t v w → Runs t w u us x
  pub answered : (s t : TypeTree) (v w : RawTree) (r : Result Scalar VortexError) → IsCast s t v w → AnswersCast s t v r → GivesCast t w r
