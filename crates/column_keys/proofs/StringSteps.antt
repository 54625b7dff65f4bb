-- The strings of rows.
use Rattle.std.proofs.Common.{◌≡◌, ◌∙◌, ℕ, zero, suc, ◌+◌, ◌<◌, ◌≤◌, ◌⊎◌, inl, inr, List, [], ◌∷◌, ◌++◌, length, drop, take, get_or, refl, set, sym, subst, ap, ap₂, arith}
use Rattle.std.specs.Prelude.{slice_index, slice_range}
use Rattle.std.proofs.lemmas.Bool.{cases_lt}
use Rattle.std.proofs.lemmas.List.{drop_at, get_or-set_other, get_or-set_same, length-append, take-append-le, take_all, take_more}
use Rattle.std.proofs.lemmas.Slice.{between_is}
use Rattle.vortex_value.specs.Size.{capped}
use Rattle.vortex_value.specs.Values.Content.{Content, null}
use Rattle.column_keys.specs.Layout.{AreStrings, bytes_in, bytes_length}

-- ---- what was kept before stays

range-kept : (xs bs : List ℕ) (a b : ℕ) → b ≤ length xs → slice_range (xs ++ bs) a b ≡ slice_range xs a b
range-kept xs bs a b less = between_is (xs ++ bs) a b ∙ ap (drop a) (take-append-le b xs bs less) ∙ sym (between_is xs a b)

range-put : (xs bs : List ℕ) (p q : ℕ) → p ≡ length xs → q ≡ p + length bs → slice_range (xs ++ bs) p q ≡ bs
range-put xs bs p q e f =
    between_is (xs ++ bs) p q ∙ ap (drop p) (take_all q (xs ++ bs) (omega (arith, e, f, length-append xs bs))) ∙ drop_at xs bs p (sym e)

-- ---- the strings of the rows so far

pub record AreStringsBefore (cells : List Content) (row : ℕ) (values offsets : List ℕ) : Type 0 where
  pub start : slice_index offsets 0 ≡ 0
  pub here : slice_index offsets row ≡ length values
  pub size : length values ≡ bytes_length (take row cells)
  pub below : (k : ℕ) → k ≤ row → slice_index offsets k ≤ length values
  pub ends : (k : ℕ) → k < row → slice_index offsets (k + 1) ≡ slice_index offsets k + length (bytes_in (get_or cells k null))
  pub strings : (k : ℕ) → k < row → slice_range values (slice_index offsets k) (slice_index offsets (k + 1)) ≡ bytes_in (get_or cells k null)

pub strings-none : (cells : List Content) (values offsets : List ℕ) → length values ≡ 0 → slice_index offsets 0 ≡ 0 → AreStringsBefore cells 0 values offsets
strings-none cells values offsets none e = record {
  start = e;
  here = e ∙ sym none;
  size = none;
  below = λ k l. let at : k ≡ 0 = omega (arith, l) in subst (λ i. slice_index offsets i ≤ length values) (sym at) (omega (arith, e));
  ends = λ k l. absurd (omega (arith, l));
  strings = λ k l. absurd (omega (arith, l));
}

length-pushed : (cells : List Content) (d : Content) → bytes_length (cells ++ d ∷ []) ≡ bytes_length cells + length (bytes_in d)
length-pushed [] d = omega arith
length-pushed (c ∷ cells) d = let more = length-pushed cells d in omega arith

-- the bytes of one cell more
pub length-more : (cells : List Content) (row : ℕ) (d : Content) → row < length cells → get_or cells row null ≡ d → bytes_length (take (row + 1) cells) ≡ bytes_length (take row cells) + length (bytes_in d)
length-more cells row d within there =
    let pushed = length-pushed (take row cells) (get_or cells row null) in
    let taken = ap bytes_length (take_more cells row null within) in
    let same = ap (λ c. length (bytes_in c)) there in
    omega (arith, pushed, taken, same)

length-front : (cells : List Content) (n : ℕ) → bytes_length (take n cells) ≤ bytes_length cells
length-front [] zero = omega arith
length-front [] (suc n) = omega arith
length-front (c ∷ cells) zero = omega arith
length-front (c ∷ cells) (suc n) = let less = length-front cells n in omega (arith, less)

-- the buffer holds the bytes of the next cell
pub length-fits : (cells : List Content) (row place : ℕ) (d : Content) → row < length cells → get_or cells row null ≡ d → place ≡ bytes_length (take row cells) → place + length (bytes_in d) ≤ bytes_length cells
length-fits cells row place d within there at = let more = length-more cells row d within there in let less = length-front cells (row + 1) in omega (arith, more, less, at)

-- how many bytes were counted
pub counted-more : (cells : List Content) (row total part now : ℕ) (d : Content) → row < length cells → get_or cells row null ≡ d → total ≡ capped (bytes_length (take row cells)) → part ≡ length (bytes_in d) → now ≡ capped (total + part) → now ≡ capped (bytes_length (take (row + 1) cells))
counted-more cells row total part now d within there is e f = let more = length-more cells row d within there in omega (arith, more, is, e, f)

pub strings-more : (cells : List Content) (row next : ℕ) (values now offsets : List ℕ) (d : Content) → row < length cells → row + 1 < length offsets → get_or cells row null ≡ d → AreStringsBefore cells row values offsets
    → now ≡ values ++ bytes_in d → next ≡ length now → AreStringsBefore cells (row + 1) now (set offsets (row + 1) next)
strings-more cells row next values now offsets d within inside there all is count = record {
  start = kept 0 (omega arith) ∙ all.start;
  here = last ∙ count;
  size = sized;
  below = λ k g. below_at k (cases_lt k (row + 1)) g;
  ends = λ k g. ends_at k (cases_lt k row) g;
  strings = λ k g. strings_at k (cases_lt k row) g;
}
  where
    kept : (k : ℕ) → k ≤ row → slice_index (set offsets (row + 1) next) k ≡ slice_index offsets k
    kept k less = get_or-set_other offsets (row + 1) k next 0 (λ e. omega (arith, e, less))

    last : slice_index (set offsets (row + 1) next) (row + 1) ≡ next
    last = get_or-set_same offsets (row + 1) next 0 inside

    more : next ≡ length values + length (bytes_in d)
    more = count ∙ ap length is ∙ length-append values (bytes_in d)

    sized : length now ≡ bytes_length (take (row + 1) cells)
    sized =
        let grown = length-more cells row d within there in
        omega (arith, grown, more, count, all.size)

    below_at : (k : ℕ) → (k < row + 1) ⊎ (row + 1 ≤ k) → k ≤ row + 1 → slice_index (set offsets (row + 1) next) k ≤ length now
    below_at k (inl less) g = let few : k ≤ row = omega (arith, less) in omega (arith, kept k few, all.below k few, more, count)
    below_at k (inr least) g = let at : k ≡ row + 1 = omega (arith, least, g) in subst (λ i. slice_index (set offsets (row + 1) next) i ≤ length now) (sym at) (omega (arith, last, count))

    ends_at : (k : ℕ) → (k < row) ⊎ (row ≤ k) → k < row + 1 → slice_index (set offsets (row + 1) next) (k + 1) ≡ slice_index (set offsets (row + 1) next) k + length (bytes_in (get_or cells k null))
    ends_at k (inl less) g = kept (k + 1) (omega (arith, less)) ∙ all.ends k less ∙ ap (λ n. n + length (bytes_in (get_or cells k null))) (sym (kept k (omega (arith, less))))
    ends_at k (inr least) g =
        let at : row ≡ k = omega (arith, least, g) in
        subst (λ i. slice_index (set offsets (row + 1) next) (i + 1) ≡ slice_index (set offsets (row + 1) next) i + length (bytes_in (get_or cells i null))) at
        (last ∙ more ∙ ap₂ (λ p bs. p + length bs) (sym (kept row (omega arith) ∙ all.here)) (ap bytes_in (sym there)))

    strings_at : (k : ℕ) → (k < row) ⊎ (row ≤ k) → k < row + 1 → slice_range now (slice_index (set offsets (row + 1) next) k) (slice_index (set offsets (row + 1) next) (k + 1)) ≡ bytes_in (get_or cells k null)
    strings_at k (inl less) g =
        ap₂ (λ a b. slice_range now a b) (kept k (omega (arith, less))) (kept (k + 1) (omega (arith, less)))
        ∙ ap (λ xs. slice_range xs (slice_index offsets k) (slice_index offsets (k + 1))) is
        ∙ range-kept values (bytes_in d) (slice_index offsets k) (slice_index offsets (k + 1)) (all.below (k + 1) (omega (arith, less)))
        ∙ all.strings k less
    strings_at k (inr least) g =
        let at : row ≡ k = omega (arith, least, g) in
        subst (λ i. slice_range now (slice_index (set offsets (row + 1) next) i) (slice_index (set offsets (row + 1) next) (i + 1)) ≡ bytes_in (get_or cells i null)) at
        (ap₂ (λ a b. slice_range now a b) (kept row (omega arith) ∙ all.here) last ∙ ap (λ xs. slice_range xs (length values) next) is ∙ range-put values (bytes_in d) (length values) next refl more ∙ ap bytes_in (sym there))

-- all bytes are in place
pub strings-done : (cells : List Content) (row place : ℕ) (values offsets : List ℕ) → row ≡ length cells → length values ≡ bytes_length cells → place ≡ length (take place values) → AreStringsBefore cells row (take place values) offsets → AreStrings cells values offsets
strings-done cells row place values offsets at size here all =
    let whole : take place values ≡ values = take_all place values (omega (arith, size, here, all.size, ap bytes_length (take_all row cells (omega (arith, at))))) in
    record {
      start = all.start;
      ends = λ k l. all.ends k (omega (arith, l, at));
      strings = λ k l. ap (λ bs. slice_range bs (slice_index offsets k) (slice_index offsets (k + 1))) (sym whole) ∙ all.strings k (omega (arith, l, at));
    }
