-- The bounds of the least and of the greatest value answer for the column.
use Rattle.std.proofs.Common.{◌≡◌, ◌≢◌, ℕ, ◌+◌, ◌<◌, ◌≤◌, List, [], length, take, unwrap_or, Bool, true, false, Option, Some, None, MatchOption, refl, sym, subst, ap, ◌∙◌, is_some, IfSome, IsTrue, IsUtf8, Bor, inl, inr, ◌⊎◌, ⊎_elim, ◌-◌, drop, slice_index, length-drop, arith}
use Rattle.std.proofs.lemmas.List.{length-take}
use Rattle.std.specs.Option.{option_copied, option_map}
use Rattle.vortex_c.specs.Bounds.{HasNone, IsWholeOrBest}
use Rattle.vortex_c.specs.ColumnAnswers.{AnswersColumn}
use Rattle.vortex_c.specs.ColumnBounds.{AreColumnBounds, HasColumnBounds, IsColumn, IsGreatestAt, IsLeastAt, some_where, value_at}
use Rattle.vortex_c.specs.Uppers.{bytes_of}
use Rattle.vortex_c.specs.declared.bounds.Upper.{Upper}
use Rattle.vortex_c.specs.declared.column_bounds.BoundLengths.{BoundLengths}
use Rattle.vortex_c.specs.declared.status.TheConstants.{GIVEN, NO_MEMORY, BUFFER_TOO_SMALL, NOT_UTF8}
use Rattle.vortex_dtype.specs.declared.buffer.TheConstants.{INLINE_BYTES}

-- the upper bound, and whether there is one
shown : (upper : Option (List ℕ)) (h : Bool) → h ≡ is_some upper → some_where h (unwrap_or upper []) ≡ upper
shown None true e = cc
shown None false e = refl
shown (Some r) true e = refl
shown (Some r) false e = cc

-- no upper bound has no bytes
none_is_empty : (upper : Option (List ℕ)) (h : Bool) → h ≡ is_some upper → h ≡ false → length (unwrap_or upper []) ≡ 0
none_is_empty None h e n = refl
none_is_empty (Some r) h e n = cc

-- what is said of an upper bound by its bytes is said of these
said_of_bytes : (o : Option Upper) (N : Type 0) (P : List ℕ → Type 0) → MatchOption o N (λ r. P (bytes_of r)) → MatchOption (option_map bytes_of o) N P
said_of_bytes None N P h = h
said_of_bytes (Some r) N P h = h

bytes_within : (o : Option Upper) (m : ℕ) → IfSome o (λ r. length (bytes_of r) ≤ m) → length (unwrap_or (option_map bytes_of o) []) ≤ m
bytes_within None m h = omega arith
bytes_within (Some r) m h = h

pub bytes_are_text : (o : Option Upper) → IfSome o (λ r. IsUtf8 (bytes_of r)) → IfSome (option_map bytes_of o) (λ v. IsUtf8 v)
bytes_are_text None h = h
bytes_are_text (Some r) h = h

-- a slice is there if its bytes are
slice_is_there : (slice : Option (Bor (List ℕ))) → is_some slice ≡ is_some (option_copied slice)
slice_is_there None = refl
slice_is_there (Some r) = refl

column_given : (L U : List ℕ → ℕ → List ℕ → Type 0) (H : List ℕ → ℕ → Type 0) (bytes offsets : List ℕ) (n least greatest : ℕ) (x y lower lower' : List ℕ) (upper : Option Upper) (upper' : Option (List ℕ))
    → IsLeastAt bytes offsets least → IsGreatestAt bytes offsets greatest → x ≡ value_at bytes offsets least → y ≡ value_at bytes offsets greatest
    → IsWholeOrBest L x n lower → MatchOption upper (HasNone H y n) (λ r. IsWholeOrBest U y n (bytes_of r)) → lower' ≡ lower → upper' ≡ option_map bytes_of upper
    → AreColumnBounds L U H bytes offsets n lower' upper'
column_given L U H bytes offsets n least greatest x y lower lower' upper upper' is_least is_greatest ex ey is_lower is_upper el eu =
    record {
      least = least;
      greatest = greatest;
      is_least = is_least;
      is_greatest = is_greatest;
      is_lower = subst (λ r. IsWholeOrBest L (value_at bytes offsets least) n r) (sym el) (subst (λ v. IsWholeOrBest L v n lower) ex is_lower);
      is_upper = subst (λ o. MatchOption o (HasNone H (value_at bytes offsets greatest) n) (λ r. IsWholeOrBest U (value_at bytes offsets greatest) n r)) (sym eu)
          (subst (λ v. MatchOption (option_map bytes_of upper) (HasNone H v n) (λ r. IsWholeOrBest U v n r)) ey
          (said_of_bytes upper (HasNone H y n) (λ r. IsWholeOrBest U y n r) is_upper));
    }

column_needed : (L U : List ℕ → ℕ → List ℕ → Type 0) (H : List ℕ → ℕ → Type 0) (bytes offsets : List ℕ) (n least greatest : ℕ) (x y lower : List ℕ) (upper : Option Upper) (lower_length upper_length : ℕ) (has_upper : Bool)
    → IsLeastAt bytes offsets least → IsGreatestAt bytes offsets greatest → x ≡ value_at bytes offsets least → y ≡ value_at bytes offsets greatest
    → IsWholeOrBest L x n lower → MatchOption upper (HasNone H y n) (λ r. IsWholeOrBest U y n (bytes_of r))
    → lower_length ≡ length lower → upper_length ≡ length (unwrap_or (option_map bytes_of upper) []) → has_upper ≡ is_some (option_map bytes_of upper)
    → HasColumnBounds L U H bytes offsets n lower_length upper_length has_upper
column_needed L U H bytes offsets n least greatest x y lower upper ll ul hu is_least is_greatest ex ey is_lower is_upper el eu eh =
    let given = option_map bytes_of upper in (
      lower,
      unwrap_or given [],
      column_given L U H bytes offsets n least greatest x y lower lower upper (some_where hu (unwrap_or given [])) is_least is_greatest ex ey is_lower is_upper refl (shown given hu eh),
      sym el,
      sym eu,
    )

-- buffers that suffice are not too small
not_small : (a b m ll ul : ℕ) → ll ≤ m → ul ≤ m → (m ≤ a) × (m ≤ b) → (a < ll) ⊎ (b < ul) → ⊥
not_small a b m ll ul h k w (inl s) = let l = w.0 in omega arith
not_small a b m ll ul h k w (inr s) = let l = w.1 in omega arith

-- a value is no longer than the bytes
value_within : (bytes offsets : List ℕ) (k : ℕ) → length (value_at bytes offsets k) ≤ length bytes
value_within bytes offsets k =
    let i = slice_index offsets k in
    let j = slice_index offsets (k + 1) in
    omega (arith, length-take (j - i) (drop i bytes), length-drop i bytes)

-- an upper bound that there is, is UTF-8 if each such bound is
pub text_of_some : (h : Bool) (r : List ℕ) (o : Option (List ℕ)) → some_where h r ≡ o → IfSome o (λ v. IsUtf8 v) → IsTrue h → IsUtf8 r
text_of_some true r o e f t = subst (λ u. IfSome u (λ v. IsUtf8 v)) (sym e) f
text_of_some false r o e f t = cc

-- a status that is one of two is no third one
neither : (status a b k : ℕ) → a ≢ k → b ≢ k → (status ≡ a) ⊎ (status ≡ b) → status ≢ k
neither status a b k f g (inl e) = λ h. f (sym e ∙ h)
neither status a b k f g (inr e) = λ h. g (sym e ∙ h)

-- there is a column, but no memory, or an end that is no string: nothing is written
pub stopped : (L U : List ℕ → ℕ → List ℕ → Type 0) (H : List ℕ → ℕ → Type 0) (bytes offsets : List ℕ) (n greatest : ℕ) (y lower_buffer upper_buffer : List ℕ) (lengths : BoundLengths) (status : ℕ)
    → (status ≡ NO_MEMORY) ⊎ (status ≡ NOT_UTF8) → IsColumn bytes offsets → IsGreatestAt bytes offsets greatest → y ≡ value_at bytes offsets greatest
    → (n ≤ INLINE_BYTES → status ≢ NO_MEMORY) → (length y ≤ n → status ≢ NO_MEMORY)
    → AnswersColumn L U H bytes offsets n lower_buffer upper_buffer lengths status
stopped L U H bytes offsets n greatest y lower_buffer upper_buffer lengths status stop column is_greatest ey inline whole =
    let no = λ (k : ℕ) (f : NO_MEMORY ≢ k) (g : NOT_UTF8 ≢ k). neither status NO_MEMORY NOT_UTF8 k f g stop in
    let value = is_greatest.0 in
    record {
      statuses = ⊎_elim (λ m. inr (inr (inl m))) (λ u. inr (inr (inr (inr (inl u))))) stop;
      given = λ e. absurd (no GIVEN (λ f. cc) (λ f. cc) e);
      within = λ e. absurd (no GIVEN (λ f. cc) (λ f. cc) e);
      no_upper = λ e. absurd (⊎_elim (no GIVEN (λ f. cc) (λ f. cc)) (no BUFFER_TOO_SMALL (λ f. cc) (λ f. cc)) e);
      none = λ e. absurd (no 1 (λ f. cc) (λ f. cc) e);
      some = λ _. omega arith;
      refused = λ e. absurd (no 6 (λ f. cc) (λ f. cc) e);
      column = λ _. column;
      inline = inline;
      whole = λ w. whole (omega (arith, ap length ey, value_within bytes offsets greatest));
      small = λ e. absurd (no BUFFER_TOO_SMALL (λ f. cc) (λ f. cc) e);
      needed = λ e. absurd (no BUFFER_TOO_SMALL (λ f. cc) (λ f. cc) e);
      enough = λ _. no BUFFER_TOO_SMALL (λ f. cc) (λ f. cc);
      enough_of_bytes = λ _. no BUFFER_TOO_SMALL (λ f. cc) (λ f. cc);
    }

-- The bounds are written, or a buffer is too small for one of them. `passed` and `slice` are the two bounds as they are
-- passed on.
pub written : (L U : List ℕ → ℕ → List ℕ → Type 0) (H : List ℕ → ℕ → Type 0) (bytes offsets : List ℕ) (n least greatest : ℕ) (x y lower passed : List ℕ) (upper : Option Upper) (slice : Option (Bor (List ℕ)))
    (lower_buffer upper_buffer : List ℕ) (lengths : BoundLengths) (status : ℕ)
    → IsColumn bytes offsets → IsLeastAt bytes offsets least → IsGreatestAt bytes offsets greatest → x ≡ value_at bytes offsets least → y ≡ value_at bytes offsets greatest
    → IsWholeOrBest L x n lower → length lower ≤ n → length lower ≤ length x → passed ≡ lower
    → MatchOption upper (HasNone H y n) (λ r. IsWholeOrBest U y n (bytes_of r)) → IfSome upper (λ r. length (bytes_of r) ≤ n) → IfSome upper (λ r. length (bytes_of r) ≤ length y) → option_copied slice ≡ option_map bytes_of upper
    → (status ≡ GIVEN) ⊎ (status ≡ BUFFER_TOO_SMALL)
    → lengths.lower ≡ length passed → lengths.upper ≡ length (unwrap_or (option_copied slice) []) → lengths.has_upper ≡ is_some slice
    → (status ≡ GIVEN → take lengths.lower lower_buffer ≡ passed)
    → (status ≡ GIVEN → some_where lengths.has_upper (take lengths.upper upper_buffer) ≡ option_copied slice)
    → (status ≡ GIVEN → (lengths.lower ≤ length lower_buffer) × (lengths.upper ≤ length upper_buffer))
    → (status ≡ BUFFER_TOO_SMALL → (length lower_buffer < lengths.lower) ⊎ (length upper_buffer < lengths.upper))
    → AnswersColumn L U H bytes offsets n lower_buffer upper_buffer lengths status
written L U H bytes offsets n least greatest x y lower passed upper slice lower_buffer upper_buffer lengths status column is_least is_greatest ex ey is_lower lower_fits lower_within ew is_upper upper_fits upper_within es done ll ul hu lower_given upper_given within small =
    let no = λ (k : ℕ) (f : GIVEN ≢ k) (g : BUFFER_TOO_SMALL ≢ k). neither status GIVEN BUFFER_TOO_SMALL k f g done in
    let value = is_least.0 in
    let lower_length : lengths.lower ≡ length lower = ll ∙ ap length ew in
    let upper_length : lengths.upper ≡ length (unwrap_or (option_map bytes_of upper) []) = ul ∙ ap (λ o. length (unwrap_or o [])) es in
    let has_upper : lengths.has_upper ≡ is_some (option_map bytes_of upper) = hu ∙ slice_is_there slice ∙ ap is_some es in
    record {
      statuses = ⊎_elim (λ g. inl g) (λ r. inr (inr (inr (inl r)))) done;
      given = λ g. column_given L U H bytes offsets n least greatest x y lower (take lengths.lower lower_buffer) upper (some_where lengths.has_upper (take lengths.upper upper_buffer)) is_least is_greatest ex ey is_lower is_upper
          (lower_given g ∙ ew) (upper_given g ∙ es);
      within = within;
      no_upper = λ _ e. upper_length ∙ none_is_empty (option_map bytes_of upper) lengths.has_upper has_upper e;
      none = λ e. absurd (no 1 (λ f. cc) (λ f. cc) e);
      some = λ _. omega arith;
      refused = λ e. absurd (no 6 (λ f. cc) (λ f. cc) e);
      column = λ _. column;
      inline = λ _. no NO_MEMORY (λ f. cc) (λ f. cc);
      whole = λ _. no NO_MEMORY (λ f. cc) (λ f. cc);
      small = small;
      needed = λ _. column_needed L U H bytes offsets n least greatest x y lower upper lengths.lower lengths.upper lengths.has_upper is_least is_greatest ex ey is_lower is_upper lower_length upper_length has_upper;
      enough = λ w r. not_small (length lower_buffer) (length upper_buffer) n lengths.lower lengths.upper
          (omega arith) (omega (arith, bytes_within upper n upper_fits)) w (small r);
      enough_of_bytes = λ w r. not_small (length lower_buffer) (length upper_buffer) (length bytes) lengths.lower lengths.upper
          (omega (arith, ap length ex, value_within bytes offsets least))
          (omega (arith, bytes_within upper (length y) upper_within, ap length ey, value_within bytes offsets greatest)) w (small r);
    }
