-- Steps of reading types and options.
use Rattle.std.proofs.Common.{◌≡◌, ◌≢◌, ◌∙◌, ℕ, ◌+◌, ◌<◌, List, [], ◌∷◌, ◌++◌, length, map, take, get_or, refl, sym, subst, ap, ap₂, arith, Bool, true, false, Option, Some, None, cond, not, nat_lt}
use Rattle.std.specs.List.{position, position_or_len}
use Rattle.std.specs.Option.{is_none}
use Rattle.std.specs.Prelude.{Result, Ok, Err, IsErr, IsErrAnd, IfErr}
use Rattle.std.proofs.lemmas.Bool.Decides.{nat_tests}
use Rattle.std.proofs.lemmas.List.{length-map, map-append, take_more}
use Rattle.std.proofs.lemmas.List.Quantifiers.{position-Some}
use Rattle.std.proofs.lemmas.List.Sums.{prefix_len_passes}
use Rattle.arrow_columns.specs.declared.kinds.Kind.{Kind}
use Rattle.column_cells.specs.Types.{type_at, type_of_kind}
use Rattle.vortex_dtype.specs.TypeOf.{type_of}
use Rattle.vortex_dtype.specs.declared.types.DType.{DType}
use Rattle.column_keys.specs.Types.{AreOptions, HaveLengths, HaveTypes, IsTypesError, types_of_kinds}
use Rattle.column_keys.specs.declared.errors.KeysError.{KeysError}
use Rattle.column_keys.specs.declared.errors.KeysError.TheVariants.{OutOfMemory, UnknownKind}

-- one element more
pub mapped-more : {X Y : Type 0} (f : X → Y) (codes : List X) (k : ℕ) (d : X) (found more : List Y) (one : Y) → k < length codes → found ≡ map f (take k codes) → one ≡ f (get_or codes k d) → more ≡ found ++ one ∷ [] → more ≡ map f (take (k + 1) codes)
mapped-more f codes k d found more one l all is e =
    e ∙ ap₂ (λ xs x. xs ++ x ∷ []) all is ∙ sym (map-append f (take k codes) (get_or codes k d ∷ [])) ∙ ap (map f) (sym (take_more codes k d l))

pub types-more : (found : List (Option Kind)) (k : ℕ) (read more : List DType) (one : DType) (kind : Kind) → k < length found → map type_of read ≡ types_of_kinds (take k found) → get_or found k None ≡ Some kind → type_of one ≡ type_of_kind kind
    → more ≡ read ++ one ∷ [] → map type_of more ≡ types_of_kinds (take (k + 1) found)
types-more found k read more one kind l all at is e =
    ap (map type_of) e ∙ map-append type_of read (one ∷ []) ∙ ap₂ (λ xs x. xs ++ x ∷ []) all (is ∙ sym (ap type_at at)) ∙ sym (map-append type_at (take k found) (get_or found k None ∷ []))
    ∙ ap types_of_kinds (sym (take_more found k None l))

-- ---- the first code of no kind

none-is : (o : Option Kind) → is_none o ≡ true → o ≡ None
none-is None e = refl
none-is (Some kind) e = absurd cc

some-is : (o : Option Kind) → is_none o ≡ false → o ≢ None
some-is None e none = cc
some-is (Some kind) e none = cc

unfound : (b : Bool) (n : ℕ) → cond b (Some n) None ≡ None → b ≡ false
unfound true n e = absurd cc
unfound false n e = refl

not-true : (b : Bool) → not b ≡ true → b ≡ false
not-true true e = absurd cc
not-true false e = refl

nowhere : {X : Type 0} (p : X → Bool) (xs : List X) (k : ℕ) (d : X) → position p xs ≡ None → k < length xs → p (get_or xs k d) ≡ false
nowhere p xs k d e l =
    let past : nat_lt (position_or_len p xs) (length xs) ≡ false = unfound (nat_lt (position_or_len p xs) (length xs)) (position_or_len p xs) e in
    let far : k < position_or_len p xs = grind (arith, nat_tests) in
    not-true (p (get_or xs k d)) (prefix_len_passes (λ x. not (p x)) xs k d far)

-- the first code of no kind is the first of the kinds that is none
len-among : {X : Type 0} (f : X → Option Kind) (codes : List X) → position_or_len is_none (map f codes) ≡ position_or_len (λ code. is_none (f code)) codes
len-among f [] = refl
len-among f (code ∷ codes) = ap (λ n. cond (not (is_none (f code))) (1 + n) 0) (len-among f codes)

first-among : {X : Type 0} (f : X → Option Kind) (codes : List X) → position is_none (map f codes) ≡ position (λ code. is_none (f code)) codes
first-among f codes = ap₂ (λ n l. cond (nat_lt n l) (Some n) None) (len-among f codes) (length-map codes f)

module _ {X : Type 0} (f : X → Option Kind) (codes : List X) (options : List ℕ) (columns : ℕ) (as-many : length options ≡ length codes) (all-there : columns ≡ length codes) (sorted : AreOptions options (length options)) where
  lengths : HaveLengths (map f codes) options columns
  lengths = (as-many ∙ sym (length-map codes f), all-there ∙ sym (length-map codes f))

  pub first-unknown : (k : ℕ) → position (λ code. is_none (f code)) codes ≡ Some k → IsTypesError (map f codes) options columns (UnknownKind k)
  first-unknown k e =
      let found = position-Some is_none (map f codes) k None (first-among f codes ∙ e) in
      (lengths, sorted, (found.0, λ j l none. some-is (get_or (map f codes) j None) (found.2 j l) none, none-is (get_or (map f codes) k None) found.1))

  pub have-types : position (λ code. is_none (f code)) codes ≡ None → HaveTypes (map f codes) options
  have-types e = record {
    counts = lengths.0;
    options' = sorted;
    kinds = λ k l none. some-is (get_or (map f codes) k None) (nowhere is_none (map f codes) k None (first-among f codes ∙ e) l) none;
  }

  pub no-memory : position (λ code. is_none (f code)) codes ≡ None → IsTypesError (map f codes) options columns OutOfMemory
  no-memory e = (lengths, have-types e)

-- a refusal that is passed on
pub passed-on : {X : Type 0} (r : Result X KeysError) (e : KeysError) (P : KeysError → Type 0) → IsErr r × IsErrAnd r (λ f. f ≡ e) → P e → IfErr r P
passed-on (Ok n) e P h w = tt
passed-on (Err f) e P h w = subst P (sym h.1) w
