-- What the bounds of a string print as.
use Rattle.std.proofs.Common.{◌≡◌, ℕ, ◌<◌, ◌≤◌, true, false, Bool, List, [], length, IsSomeAnd, MatchOption, Option, Some, None, nat_le, refl, sym, ap, ◌∙◌, subst, arith, ⊎_elim, if◌then◌else◌}
use Rattle.std.proofs.lemmas.Bool.Decides.{nat_tests}
use Rattle.std.proofs.str.Laws.{order}
use Rattle.hex.specs.Hex.{encode_lower}
use Rattle.vortex_bounds.specs.Laws.{BoundsAreComputed, BoundsAreUnique}
use Rattle.vortex_bounds.specs.Strings.{IsString, IsLower, IsUpper, HasNoUpper, lower_of, upper_of}
use Rattle.vortex_bounds.specs.Truncation.{IsBoundOf, IsLowerOf, IsUpperOf}
use Rattle.vortex_dtype.specs.TypeTree.{TypeTree}
use Rattle.vortex_value.specs.Values.RawKinds.{IsBytesValue}
use Rattle.vortex_value.specs.Values.RawTree.{RawTree, raw_bytes}
use Rattle.vortex_value.specs.Values.Scalars.{scalar_raw, scalar_type}
use Rattle.vortex_value.specs.declared.scalars.Scalar.{Scalar}
use Rattle.rows.specs.Grammar.{bound}
use Rattle.rows.specs.Rows.{bound_text, request_text}
use Rattle.rows.specs.declared.commands.Side.TheVariants.{Lower, Upper}

-- what holds of an optional value that is there
pub is_given : {X : Type 0} (o : Option X) (x : X) (P : X → Type 0) → o ≡ Some x → IsSomeAnd o P → P x
is_given o x P e h = rw e at h

pub is_match : {X : Type 0} (o : Option X) (x : X) (N : Type 0) (P : X → Type 0) → o ≡ Some x → MatchOption o N P → P x
is_match o x N P e h = rw e at h

-- the string itself, or else its bound
choice : (b : List ℕ) (n : ℕ) (r : List ℕ) (o : Option (List ℕ)) → (length b ≤ n → r ≡ b) → (n < length b → o ≡ Some r)
    → encode_lower r ≡ (if nat_le (length b) n then encode_lower b else bound_text o)
choice b n r o whole best =
    ⊎_elim
    (λ l. let t : nat_le (length b) n ≡ false = grind (arith, nat_tests) in rw (t, best l) refl)
    (λ l. let t : nat_le (length b) n ≡ true = grind (arith, nat_tests) in rw (t, whole l) refl)
    (order n (length b))

abbrev bytes_in : RawTree → List ℕ
bytes_in (raw_bytes b) = b
bytes_in _ = []

pub has_bytes : (v : RawTree) (r : List ℕ) → v ≡ raw_bytes r → IsBytesValue v
has_bytes v r e = subst IsBytesValue (sym e) tt

same_bytes : {Best : List ℕ → ℕ → List ℕ → Type 0} (t : TypeTree) (b : List ℕ) (n : ℕ) (y : Scalar) (cut : Bool) (r : List ℕ)
    → (h : IsBoundOf Best raw_bytes t b n y cut) → scalar_raw y ≡ raw_bytes r → h.bytes ≡ r
same_bytes t b n y cut r h e = ap bytes_in (sym h.made.value ∙ e)

-- the scalar that is given is of the type that was asked for
pub lower_typed : (o : Option (Scalar × Bool)) (x : Scalar × Bool) (t : TypeTree) (b : List ℕ) (n : ℕ) → o ≡ Some x → IsSomeAnd o (λ p. IsLowerOf IsLower raw_bytes t b n p.0 p.1) → scalar_type x.0 ≡ t
lower_typed o x t b n e h =
    let given : IsLowerOf IsLower raw_bytes t b n x.0 x.1 = is_given o x _ e h in
    given.bound.made.typed

pub upper_typed : (N : Type 0) (o : Option (Scalar × Bool)) (x : Scalar × Bool) (t : TypeTree) (b : List ℕ) (n : ℕ) → o ≡ Some x → MatchOption o N (λ p. IsUpperOf IsUpper raw_bytes t b n p.0 p.1) → scalar_type x.0 ≡ t
upper_typed N o x t b n e h =
    let given : IsUpperOf IsUpper raw_bytes t b n x.0 x.1 = is_match o x N _ e h in
    given.bound.made.typed

pub lower_text : (t : TypeTree) (b : List ℕ) (n : ℕ) (y : Scalar) (cut : Bool) (r : List ℕ) → BoundsAreComputed → BoundsAreUnique → IsString b
    → IsLowerOf IsLower raw_bytes t b n y cut → scalar_raw y ≡ raw_bytes r → encode_lower r ≡ request_text (bound Lower n b)
lower_text t b n y cut r computed unique s h e =
    let q = same_bytes t b n y cut r h.bound e in
    choice b n r (Some (lower_of b n))
    (λ l. sym q ∙ h.bound.whole l)
    (λ l. ap (λ x. Some x) (unique.lower b n (lower_of b n) h.bound.bytes (computed.lower b n s) (h.bound.best l) ∙ q))

is_some : (b : List ℕ) (n : ℕ) (r : List ℕ) (o : Option (List ℕ)) → BoundsAreUnique → MatchOption o (HasNoUpper b n) (IsUpper b n) → IsUpper b n r → o ≡ Some r
is_some b n r None unique h k = absurd (h r k.string k.exact k.above)
is_some b n r (Some x) unique h k = ap (λ v. Some v) (unique.upper b n x r h k)

pub upper_text : (t : TypeTree) (b : List ℕ) (n : ℕ) (y : Scalar) (cut : Bool) (r : List ℕ) → BoundsAreComputed → BoundsAreUnique → IsString b
    → IsUpperOf IsUpper raw_bytes t b n y cut → scalar_raw y ≡ raw_bytes r → encode_lower r ≡ request_text (bound Upper n b)
upper_text t b n y cut r computed unique s h e =
    let q = same_bytes t b n y cut r h.bound e in
    choice b n r (upper_of b n)
    (λ l. sym q ∙ h.bound.whole l)
    (λ l. subst (λ x. upper_of b n ≡ Some x) q
    (is_some b n h.bound.bytes (upper_of b n) unique (computed.upper b n s (omega arith)) (h.bound.best l)))
