-- What calls of casts answer.
use Rattle.std.specs.Prelude.{◌≡◌, ◌⊎◌, Result, IfErr, IfOk, MatchResult}
use Rattle.vortex_dtype.specs.TypeTree.{TypeTree, IsFlat}
use Rattle.vortex_dtype.specs.declared.error.VortexError.{VortexError}
use Rattle.vortex_dtype.specs.declared.error.VortexError.TheVariants.{OutOfMemory}
use Rattle.vortex_value.specs.Casts.{CanCast, IsExtension, RefusesCast}
use Rattle.vortex_value.specs.Values.Content.{Content, sequence, tagged, content}
use Rattle.vortex_value.specs.Values.RawTree.{RawTree}
use Rattle.vortex_value.specs.Values.Scalars.{IsMadeOf, IsTheOne}
use Rattle.vortex_value.specs.declared.scalars.Scalar.{Scalar}

-- no sequence, neither the content nor the child of a union at any depth
abbrev pub IsLeaf : Content → Type 0
IsLeaf (sequence cs) = ⊥
IsLeaf (tagged id c) = IsLeaf c
IsLeaf _ = Unit {0}

-- a cast from s looks at no parts of the content: s is an extension, or the content a leaf
abbrev pub IsTakenWhole : TypeTree → Content → Type 0
IsTakenWhole s c = IsExtension s ⊎ IsLeaf c

-- e refuses a cast from s of the content c, which is possible if p holds. If c is taken whole, out of memory never comes
-- in place of an impossible cast.
abbrev pub OutOfMemoryOnlyIfPossible : TypeTree → Content → Type 0 → VortexError → Type 0
OutOfMemoryOnlyIfPossible s c p e = IsTakenWhole s c → e ≡ OutOfMemory → p

-- r answers a cast of the value v of type s to t: the contract of every call that casts. It succeeds only if the table
-- allows the cast and t has the content, and gives the one scalar of t and the content. It is refused because the cast is
-- impossible, or out of memory, and of what is taken whole in that order.
pub record AnswersCast (s t : TypeTree) (v : RawTree) (r : Result Scalar VortexError) : Type 0 where
  pub succeeds_only : IfOk r (λ _. CanCast s t (content v))
  pub one : IfOk r (IsTheOne t (content v))
  pub refuses_only : IfErr r (RefusesCast t (CanCast s t (content v)))
  pub leaf_refused : IfErr r (OutOfMemoryOnlyIfPossible s (content v) (CanCast s t (content v)))

-- r is the scalar of type t and value w, or out of memory, which flat types never answer
abbrev pub GivesCast : TypeTree → RawTree → Result Scalar VortexError → Type 0
GivesCast t w r = MatchResult r (IsMadeOf t w) (λ e. (e ≡ OutOfMemory) × ¬ (IsFlat t))
