-- Which casts between lists of integers are possible, and what the laws say of the scalars that several casts give.
use Rattle.std.proofs.Common.{◌≡◌, ℤ, pos, negsuc, [], ◌∷◌, Ok, Err, IfErr, IfOk, arith, refl}
use Rattle.std.specs.Prelude.{Result}
use Rattle.vortex_dtype.specs.TypeTree.{TypeTree, as_nullable, integer_type, list_type}
use Rattle.vortex_dtype.specs.declared.error.VortexError.{VortexError}
use Rattle.vortex_dtype.specs.declared.error.VortexError.TheVariants.{CannotCast, OutOfMemory}
use Rattle.vortex_dtype.specs.declared.nullability.Nullability.TheVariants.{NonNullable}
use Rattle.vortex_dtype.specs.declared.ptype.PType.{PType}
use Rattle.vortex_dtype.specs.declared.ptype.PType.TheVariants.{I32, I64}
use Rattle.vortex_pvalue.specs.Numbers.{InRange}
use Rattle.vortex_value.specs.CastAnswers.{AnswersCast, GivesCast}
use Rattle.vortex_value.specs.Laws.CastLaws.{CallsAreChains, ChainsAgree, NullableCastsBack, ThereAndBack}
use Rattle.vortex_value.specs.Casts.{Allows, CanCast, EachPlace, IsCast, RefusesCast, integers, lists}
use Rattle.vortex_value.specs.Chains.{Runs}
use Rattle.vortex_value.specs.Values.Content.{Content, null, whole, sequence, Contents, no_contents, content_then, content}
use Rattle.vortex_value.specs.Laws.HasContent.{HasByCases, HasContent, HasEach}
use Rattle.vortex_value.specs.Values.RawTree.{RawTree}
use Rattle.vortex_value.specs.Values.Scalars.{IsMadeOf, IsTheOne, IsValid, scalar_content, scalar_raw, scalar_type}
use Rattle.vortex_value.specs.Validity.{Valid}
use Rattle.vortex_value.specs.declared.scalars.Scalar.{Scalar}

-- integers of the PType, and lists of them
abbrev pub ints : PType → TypeTree
ints k = integer_type k NonNullable

abbrev pub list_of : PType → TypeTree
list_of k = list_type (ints k) NonNullable

wider : (z : ℤ) → InRange I32 z → InRange I64 z
wider (pos n) h = omega (arith, h)
wider (negsuc n) h = omega (arith, h)

each_wider : (cs : Contents) → HasEach (ints I32) cs → HasEach (ints I64) cs
each_wider no_contents h = tt
each_wider (content_then null cs) h = (h.0, each_wider cs h.1)
each_wider (content_then (whole z) cs) h = (wider z h.0, each_wider cs h.1)
each_wider (content_then c cs) h = absurd h.0

has_wider : (c : Content) → HasContent (list_of I32) c → HasContent (list_of I64) c
has_wider null h = h
has_wider (sequence cs) h = each_wider cs h
has_wider c h = absurd h

each_allowed : (k l : PType) (cs : Contents) → EachPlace (λ c. Allows (ints k) (ints l) c) cs
each_allowed k l no_contents = tt
each_allowed k l (content_then c cs) = (integers tt tt, each_allowed k l cs)

allowed : (k l : PType) (c : Content) → HasContent (list_of k) c → Allows (list_of k) (list_of l) c
allowed k l (sequence cs) h = lists (each_allowed k l cs)
allowed k l null h = let e : ⊥ = cc in absurd e
allowed k l c h = absurd h

-- a list of 32-bit integers can be cast to 64 bits, and back
widens : HasByCases → (v : RawTree) → Valid (list_of I32) v
    → CanCast (list_of I32) (list_of I64) (content v) × CanCast (list_of I64) (list_of I32) (content v)
widens law v valid =
    let c = content v in
    let has = (law (list_of I32) c).0 (record { value = v; valid = valid; same = refl }) in (
      (allowed I32 I64 c has, (law (list_of I64) c).1 (has_wider c has)),
      (allowed I64 I32 c (has_wider c has), record { value = v; valid = valid; same = refl }),
    )

pub can_widen : HasByCases → (s t : TypeTree) (v : RawTree) → s ≡ list_of I32 → t ≡ list_of I64 → Valid s v
    → CanCast s t (content v) × CanCast t s (content v)
can_widen law s t v e f valid = rw e (rw f (widens law v (rw e at valid)))

-- out of memory alone refuses a possible cast
pub only_memory : (t : TypeTree) (p : Type 0) (e : VortexError) → p → RefusesCast t p e → e ≡ OutOfMemory
only_memory t p CannotCast h r = absurd (r h)
only_memory t p OutOfMemory h r = refl
only_memory t p e h r = absurd r

-- casts there and back of the scalar x
pub back_again : CallsAreChains → ThereAndBack → (x y z : Scalar) (t : TypeTree) → IsValid x
    → CanCast (scalar_type x) t (scalar_content x) → IsTheOne t (scalar_content x) y
    → CanCast (scalar_type y) (scalar_type x) (scalar_content y) → IsTheOne (scalar_type x) (scalar_content y) z
    → IsMadeOf (scalar_type x) (scalar_raw x) z
back_again calls law x y z t valid can one can' one' =
    let first : IsCast (scalar_type x) t (scalar_raw x) (scalar_raw y) = calls.cast (scalar_type x) t (scalar_raw x) y can one in
    let e : scalar_type y ≡ t = one.typed in
    let second : IsCast t (scalar_type x) (scalar_raw y) (scalar_raw z) = rw e at (calls.cast (scalar_type y) (scalar_type x) (scalar_raw y) z can' one') in
    record { typed = one'.typed; value = law (scalar_type x) t _ _ _ valid first second }

-- a cast of the value v to u by way of t
pub by_way : CallsAreChains → (s : TypeTree) (v : RawTree) (y z : Scalar) (t u : TypeTree) → Valid s v
    → CanCast s t (content v) → IsTheOne t (content v) y → CanCast (scalar_type y) u (scalar_content y) → IsTheOne u (scalar_content y) z
    → Runs s v t (u ∷ []) (scalar_raw z)
by_way calls s v y z t u valid can one can' one' =
    let e : scalar_type y ≡ t = one.typed in
    let first = calls.cast s t v y can one in
    let second : IsCast t u (scalar_raw y) (scalar_raw z) = rw e at (calls.cast (scalar_type y) u (scalar_raw y) z can' one') in
    let between : Valid t (scalar_raw y) = rw e at one.valid in
    calls.further s t u [] v _ _ valid first (calls.alone t u _ _ between second)

-- casts of the value v to u by way of t, and at once
pub ways_agree : CallsAreChains → ChainsAgree → (s : TypeTree) (v : RawTree) (y z w : Scalar) (t u : TypeTree) → Valid s v
    → CanCast s t (content v) → IsTheOne t (content v) y
    → CanCast (scalar_type y) u (scalar_content y) → IsTheOne u (scalar_content y) z
    → CanCast s u (content v) → IsTheOne u (content v) w
    → scalar_raw z ≡ scalar_raw w
ways_agree calls law s v y z w t u valid can one can' one' can'' one'' =
    let chained = by_way calls s v y z t u valid can one can' one' in
    law s v t u (u ∷ []) [] _ _ chained (calls.alone s u _ _ valid (calls.cast s u v w can'' one'')) refl

-- y, which is x made nullable, cast back to the type of x
pub comes_back : NullableCastsBack → (x y : Scalar) (t : TypeTree) (r : Result Scalar VortexError) → t ≡ scalar_type x → IsValid x
    → IsMadeOf (as_nullable (scalar_type x)) (scalar_raw x) y → AnswersCast (scalar_type y) t (scalar_raw y) r → GivesCast (scalar_type x) (scalar_raw x) r
comes_back law x y t r e valid made answers = law x y r valid made (rw e at answers)

-- of a result: what holds of its value by two facts, and why it is a refusal
pub if_both : {A B : Type 0} (r : Result A B) (P Q R : A → Type 0) → IfOk r P → IfOk r Q → ((x : A) → P x → Q x → R x) → IfOk r R
if_both (Ok x) P Q R p q f = f x p q
if_both (Err e) P Q R p q f = tt

pub refused_with : {A B : Type 0} (r : Result A B) (e : B) (P : B → Type 0) → r ≡ Err e → P e → IfErr r P
refused_with r e P is p = rw is p

pub if_refused : {A : Type 0} (r : Result A VortexError) (t : TypeTree) (p : Type 0) → p → IfErr r (RefusesCast t p) → IfErr r (λ e. e ≡ OutOfMemory)
if_refused (Ok x) t p h refused = tt
if_refused (Err e) t p h refused = only_memory t p e h refused
