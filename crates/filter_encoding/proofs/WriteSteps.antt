-- Steps of writing, one after the other.
use Rattle.std.proofs.Common.{◌≡◌, ◌⊎◌, inl, inr, ℕ, List, [], ◌∷◌, ◌++◌, refl, sym, subst, ap, ◌∙◌, append_assoc, append-nil, true≢false}
use Rattle.std.specs.Prelude.{Err, IfErr, IsErr, Ok, OnErr, OnOk, Result}
use Rattle.std.specs.Result.{IsErrAnd}
use Rattle.vortex_dtype.specs.TypeTree.{TypeTree}
use Rattle.vortex_value.specs.Equality.{HasNoTyped}
use Rattle.vortex_value.specs.Values.Content.{Content}
use Rattle.vortex_value.specs.Values.Scalars.{scalar_content}
use Rattle.vortex_value.specs.declared.scalars.Scalar.{Scalar}
use Rattle.vortex_row.specs.Held.{IsHeld}
use Rattle.vortex_row.specs.Keys.{key}
use Rattle.vortex_cells.specs.Cells.{Cell}
use Rattle.vortex_filter.specs.Formula.{Formula}
use Rattle.filter_encoding.specs.Encoding.{CanBeWritten, IsHeldCell, IsLogicallyValid, IsPlain, IsPlainCell, IsWritten, Nests, Prepared, encoding, literal_bytes, node_bytes, type_bytes, version_of}
use Rattle.filter_encoding.specs.Lists.{AreListed, listed}
use Rattle.filter_encoding.specs.Steps.{Appends, Begins, IsRefused}
use Rattle.filter_encoding.specs.declared.error.FilterEncodingError.{FilterEncodingError}
use Rattle.filter_encoding.specs.declared.error.FilterEncodingError.TheVariants.{BadBytes, NoEncoding, NotAValue, OutOfMemory}

-- what is refused of a part is refused of the whole
pub refused_too : (P Q : Type 0) (e : FilterEncodingError) → (Q → P) → IsRefused P e → IsRefused Q e
refused_too P Q OutOfMemory part h = tt
refused_too P Q NoEncoding part h = λ q. h (part q)
refused_too P Q (BadBytes place) part h = h
refused_too P Q (NotAValue place) part h = h

pub begins_itself : (old : List ℕ) → Begins old old
begins_itself old = record { more = []; is = sym (append-nil old) }

pub begins_later : (xs old mid now : List ℕ) → mid ≡ old ++ xs → Begins mid now → Begins old now
begins_later xs old mid now e h = record { more = xs ++ h.more; is = h.is ∙ ap (λ ys. ys ++ h.more) e ∙ append_assoc old xs h.more }

-- a step, and what is written after it
pub then_written : (K L Q R : Type 0) (xs ys : List ℕ) (r : Result Unit FilterEncodingError) (old mid now : List ℕ) → (K → L) → (R → Q) → mid ≡ old ++ xs → Appends K Q ys r mid now → Appends L R (xs ++ ys) r old now
then_written K L Q R xs ys (Ok u) old mid now to from e w = (to w.0, w.1 ∙ ap (λ zs. zs ++ ys) e ∙ append_assoc old xs ys)
then_written K L Q R xs ys (Err d) old mid now to from e w = (refused_too Q R d from w.0, begins_later xs old mid now e w.1)

-- a refusal that is passed on
pub passed_on : (K P R : Type 0) (bytes : List ℕ) (r : Result Unit FilterEncodingError) (e : FilterEncodingError) (old now : List ℕ) → IsErr r × IsErrAnd r (λ f. f ≡ e) → (R → P) → IsRefused P e → Begins old now → Appends K R bytes r old now
passed_on K P R bytes (Ok u) e old now is part h b = absurd (true≢false (sym is.0))
passed_on K P R bytes (Err f) e old now is part h b = (refused_too P R f part (subst (IsRefused P) (sym is.1) h), b)

-- what is allowed alike, and has the same bytes
pub written_as : (K L P Q : Type 0) (xs ys : List ℕ) (r : Result Unit FilterEncodingError) (old now : List ℕ) → (K → L) → (Q → P) → xs ≡ ys → Appends K P xs r old now → Appends L Q ys r old now
written_as K L P Q xs ys (Ok u) old now to from e w = (to w.0, w.1 ∙ ap (λ zs. old ++ zs) e)
written_as K L P Q xs ys (Err d) old now to from e w = (refused_too P Q d from w.0, w.1)

-- what was begun goes on
pub begins_on : (old mid now : List ℕ) → Begins old mid → Begins mid now → Begins old now
begins_on old mid now h g = begins_later h.more old mid now h.is g

-- the key of a content that has no variant's child
pub content_written : (x : Scalar) (c : Content) (r : Result Unit FilterEncodingError) (old now : List ℕ) → scalar_content x ≡ c → HasNoTyped c → OnOk r (now ≡ old ++ key (scalar_content x)) → OnOk r (IsHeld (scalar_content x))
    → IfErr r (IsRefused (HasNoTyped (scalar_content x))) → OnErr r (now ≡ old) → Appends (IsHeld c) (Unit {0}) (key c) r old now
content_written x c (Ok u) old now e untyped ok held err same = (subst IsHeld e held, ok ∙ ap (λ d. old ++ key d) e)
content_written x c (Err d) old now e untyped ok held err same =
    (refused_too (HasNoTyped (scalar_content x)) (Unit {0}) d (λ u. subst HasNoTyped (sym e) untyped) err, record { more = []; is = same ∙ sym (append-nil old) })

-- a key, after the byte of its type
pub key_written : (x : Cell) (t : TypeTree) (r : Result Unit FilterEncodingError) (old mid now : List ℕ) → x.typed ≡ t → IsPlain t × (mid ≡ old ++ type_bytes t) → OnOk r (now ≡ mid ++ key x.content) → OnOk r (IsHeld x.content) → OnOk r (HasNoTyped x.content)
    → IfErr r (IsRefused (HasNoTyped x.content)) → IsLogicallyValid x
    → OnErr r (now ≡ mid) → Appends (IsHeldCell x) (IsPlainCell x) (literal_bytes x) r old now
key_written x t (Ok u) old mid now e w ok held untyped err logical same =
    (record { plain = subst IsPlain (sym e) w.0; untyped = untyped; logical = logical; held = held }, ok ∙ ap (λ xs. xs ++ key x.content) w.1 ∙ append_assoc old (type_bytes t) (key x.content) ∙ ap (λ u. old ++ (type_bytes u ++ key x.content)) (sym e))
key_written x t (Err d) old mid now e w ok held untyped err logical same =
    (refused_too (HasNoTyped x.content) (IsPlainCell x) d (λ p. p.untyped) err, record { more = type_bytes t; is = same ∙ w.1 })

-- ---- tests

-- a test is written
pub node_written : (n : ℕ) (K P : Type 0) (xs : List ℕ) (f : Formula) (g : Formula) (r : Result Unit FilterEncodingError) (old now : List ℕ) → f ≡ g → (K → Nests IsHeldCell n g) → (Nests IsPlainCell n g → P) → xs ≡ node_bytes g → Appends K P xs r old now
    → Appends (Nests IsHeldCell n f) (Nests IsPlainCell n f) (node_bytes f) r old now
node_written n K P xs f g r old now e to from is w =
    subst (λ k. Appends (Nests IsHeldCell n k) (Nests IsPlainCell n k) (node_bytes k) r old now) (sym e) (written_as K (Nests IsHeldCell n g) P (Nests IsPlainCell n g) xs (node_bytes g) r old now to from is w)

-- ---- the whole

pub encoding_written : (n version : ℕ) (p : Prepared) (r : Result Unit FilterEncodingError) (old mid here now : List ℕ) → version ≡ version_of p → mid ≡ old ++ version ∷ [] → AreListed IsPlain p.types × (here ≡ mid ++ listed type_bytes p.types)
    → Appends (Nests IsHeldCell n p.filter) (Nests IsPlainCell n p.filter) (node_bytes p.filter) r here now → Appends (IsWritten n p) (CanBeWritten n p) (encoding p) r old now
encoding_written n version p r old mid here now is first types w =
    let at : here ≡ old ++ version_of p ∷ listed type_bytes p.types = types.1 ∙ ap (λ xs. xs ++ listed type_bytes p.types) (first ∙ ap (λ v. old ++ v ∷ []) is) ∙ append_assoc old (version_of p ∷ []) (listed type_bytes p.types) in
    then_written (Nests IsHeldCell n p.filter) (IsWritten n p) (Nests IsPlainCell n p.filter) (CanBeWritten n p) (version_of p ∷ listed type_bytes p.types) (node_bytes p.filter) r old here now (λ f. record { types = types.0; filter = f }) (λ a. a.filter) at w

-- what writing answers, clause by clause
pub appended_of : (K P : Type 0) (bytes : List ℕ) (r : Result Unit FilterEncodingError) (old now : List ℕ) → Appends K P bytes r old now → OnOk r (now ≡ old ++ bytes)
appended_of K P bytes (Ok u) old now w = w.1
appended_of K P bytes (Err e) old now w = tt

pub known_of : (K P Q : Type 0) (bytes : List ℕ) (r : Result Unit FilterEncodingError) (old now : List ℕ) → (K → Q) → Appends K P bytes r old now → OnOk r Q
known_of K P Q bytes (Ok u) old now to w = to w.0
known_of K P Q bytes (Err e) old now to w = tt

pub no_encoding_of : (K P : Type 0) (bytes : List ℕ) (r : Result Unit FilterEncodingError) (old now : List ℕ) → Appends K P bytes r old now → r ≡ Err NoEncoding → ¬ P
no_encoding_of K P bytes (Ok u) old now w e = absurd (cc)
no_encoding_of K P bytes (Err d) old now w e = let same : d ≡ NoEncoding = cc in subst (IsRefused P) same w.0

cause_of : (P : Type 0) (d : FilterEncodingError) → IsRefused P d → (d ≡ NoEncoding) ⊎ (d ≡ OutOfMemory)
cause_of P OutOfMemory h = inr refl
cause_of P NoEncoding h = inl refl
cause_of P (BadBytes place) h = absurd h
cause_of P (NotAValue place) h = absurd h

pub refused_of : (K P : Type 0) (bytes : List ℕ) (r : Result Unit FilterEncodingError) (old now : List ℕ) → Appends K P bytes r old now → IfErr r (λ e. (e ≡ NoEncoding) ⊎ (e ≡ OutOfMemory))
refused_of K P bytes (Ok u) old now w = tt
refused_of K P bytes (Err d) old now w = cause_of P d w.0

pub begun_of : (K P : Type 0) (bytes : List ℕ) (r : Result Unit FilterEncodingError) (old now : List ℕ) → Appends K P bytes r old now → (more : List ℕ) × (now ≡ old ++ more)
begun_of K P bytes (Ok u) old now w = (bytes, w.1)
begun_of K P bytes (Err d) old now w = (w.1.more, w.1.is)
