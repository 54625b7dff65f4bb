-- Steps of the exports for statistics.
use Rattle.std.proofs.Common.{◌≡◌, ◌≢◌, ◌∙◌, ◌<◌, ◌≤◌, ◌⊎◌, ℕ, Bool, true, List, drop, length, take, Option, Some, None, is_some, option_map, unwrap_or, ap, arith, inl, inr, refl, subst, sym}
use Rattle.arrow_columns.specs.declared.kinds.Kind.{Kind}
use Rattle.arrow_columns.specs.declared.kinds.Kind.TheVariants.{Binary, Boolean, Integer, LargeBinary, LargeUtf8, Logical, Null, Utf8}
use Rattle.arrow_columns.specs.Formats.{items_of}
use Rattle.arrow_columns.specs.Integers.{number_of}
use Rattle.std.proofs.lemmas.Bool.{false≢true}
use Rattle.vortex_cells.specs.Cells.{is_null_content}
use Rattle.column_statistics.proofs.ValueLaws.{stored_some}
use Rattle.vortex_value.specs.Values.Content.{Content, null, sequence, string, tagged, text, truth, typed, whole}
use Rattle.vortex_value.specs.Values.Scalars.{scalar_content}
use Rattle.vortex_statistics.specs.Statistics.{Known, KnownBound, known_bound}
use Rattle.vortex_statistics.specs.declared.column_statistics.Bound.{Bound}
use Rattle.column_statistics.specs.Items.{IsItemOf}
use Rattle.vortex_c.specs.Parts.{AreParts, IsBoundTold, IsCountTold, IsValueTold}
use Rattle.vortex_c.specs.EncodingAnswers.{AnswersEncoding, HasAnswer}
use Rattle.vortex_c.specs.declared.parts.StatisticsParts.{StatisticsParts}
use Rattle.vortex_c.specs.declared.status.TheConstants.{GIVEN, BUFFER_TOO_SMALL}

-- ---- an encoding in a buffer

encoding_given : (Is : List ℕ → Type 0) (bytes slice buffer : List ℕ) (count : ℕ) → Is bytes → slice ≡ bytes → count ≡ length slice → take (length slice) buffer ≡ slice → Is (take count buffer)
encoding_given Is bytes slice buffer count h e n t = subst Is (sym (ap (λ k. take k buffer) n ∙ t ∙ e)) h

-- what giving bytes that are so comes to
pub encoding_answered : (Is : List ℕ → Type 0) (bytes slice buffer_before buffer_after : List ℕ) (before after status : ℕ) → Is bytes → slice ≡ bytes → HasAnswer status → after ≡ length slice
    → (status ≡ GIVEN → length slice ≤ length buffer_before) → (status ≡ GIVEN → take (length slice) buffer_after ≡ slice) → (status ≡ GIVEN → drop (length slice) buffer_after ≡ drop (length slice) buffer_before)
    → (status ≡ BUFFER_TOO_SMALL → length buffer_before < length slice) → (status ≢ GIVEN → buffer_after ≡ buffer_before) → AnswersEncoding Is buffer_before buffer_after before after status
encoding_answered Is bytes slice buffer_before buffer_after before after status h e has n within begins rest small kept = record {
  given = λ g. encoding_given Is bytes slice buffer_after after h e n (begins g);
  within = λ g. subst (λ k. k ≤ length buffer_before) (sym n) (within g);
  needed = λ _. (bytes, h, n ∙ ap length e);
  small = λ g. subst (λ k. length buffer_before < k) (sym n) (small g);
  rest = λ g. subst (λ k. drop k buffer_after ≡ drop k buffer_before) (sym n) (rest g);
  kept_buffer = kept;
  kept_count = inl has;
}

-- what giving nothing comes to
pub encoding_unanswered : (Is : List ℕ → Type 0) (buffer : List ℕ) (count status : ℕ) → ¬ (HasAnswer status) → AnswersEncoding Is buffer buffer count count status
encoding_unanswered Is buffer count status missing = record {
  given = λ g. absurd (missing (inl g));
  within = λ g. absurd (missing (inl g));
  needed = λ has. absurd (missing has);
  small = λ g. absurd (missing (inr g));
  rest = λ _. refl;
  kept_buffer = λ _. refl;
  kept_count = inr refl;
}

-- ---- parts

pub count_told : (o : Option ℕ) (is_known : Bool) (count : ℕ) → is_known ≡ is_some o → count ≡ unwrap_or o 0 → IsCountTold o is_known count
count_told None is_known count e n = (e, n)
count_told (Some k) is_known count e n = (e, n)

null_item : (kind : Kind) (bytes : List ℕ) → ¬ (IsItemOf kind null bytes)
null_item (Integer k) bytes h = h
null_item Boolean bytes h = h
null_item Utf8 bytes h = h
null_item LargeUtf8 bytes h = h
null_item Binary bytes h = h
null_item LargeBinary bytes h = h
null_item Null bytes h = h
null_item (Logical format) bytes h = false≢true (sym (stored_some format (number_of (items_of format) bytes)) ∙ ap is_null_content h.1)

-- a value that has bytes is told with these
value_told : (kind : Kind) (x : Content) (exact : Bool) (bytes : List ℕ) → IsItemOf kind x bytes → IsValueTold kind x exact true exact bytes
value_told kind null exact bytes h = absurd (null_item kind bytes h)
value_told kind (truth b) exact bytes h = (refl, refl, h)
value_told kind (whole z) exact bytes h = (refl, refl, h)
value_told kind (text s) exact bytes h = (refl, refl, h)
value_told kind (string s) exact bytes h = (refl, refl, h)
value_told kind (sequence cs) exact bytes h = (refl, refl, h)
value_told kind (tagged id c) exact bytes h = (refl, refl, h)
value_told kind (typed t c) exact bytes h = (refl, refl, h)

-- a bound that is there and has bytes
pub some_told : (kind : Kind) (o : Option Bound) (b : Bound) (bytes : List ℕ) → o ≡ Some b → IsItemOf kind (scalar_content b.value) bytes → IsBoundTold kind (option_map known_bound o) true b.is_exact bytes
some_told kind o b bytes e h = subst (λ p. IsBoundTold kind (option_map known_bound p) true b.is_exact bytes) (sym e) (value_told kind (scalar_content b.value) b.is_exact bytes h)

-- the same bound by its bytes in a slice
pub bound_told : (kind : Kind) (b : Option KnownBound) (is_there is_exact : Bool) (item slice : List ℕ) → slice ≡ item → IsBoundTold kind b is_there is_exact item → IsBoundTold kind b is_there is_exact slice
bound_told kind b is_there is_exact item slice e h = subst (IsBoundTold kind b is_there is_exact) (sym e) h

-- the same parts by what stands in the buffers
pub parts_given : (kind : Kind) (s : Known) (lower upper lower_buffer upper_buffer : List ℕ) (p : StatisticsParts) → AreParts kind s lower upper p
    → take (length lower) lower_buffer ≡ lower → take (length upper) upper_buffer ≡ upper → AreParts kind s (take p.lower_length lower_buffer) (take p.upper_length upper_buffer) p
parts_given kind s lower upper lower_buffer upper_buffer p h e f =
    let l : take p.lower_length lower_buffer ≡ lower = ap (λ n. take n lower_buffer) h.lower_length ∙ e in
    let u : take p.upper_length upper_buffer ≡ upper = ap (λ n. take n upper_buffer) h.upper_length ∙ f in
    subst (λ bs. AreParts kind s bs (take p.upper_length upper_buffer) p) (sym l) (subst (λ bs. AreParts kind s lower bs p) (sym u) h)

pub not_small : (m n k l : ℕ) → (k ≤ m) × (l ≤ n) → ¬ ((m < k) ⊎ (n < l))
not_small m n k l fit (inl less) = absurd (omega (arith, fit.0, less))
not_small m n k l fit (inr less) = absurd (omega (arith, fit.1, less))
