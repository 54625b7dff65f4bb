-- Steps of all rows.
use Rattle.std.proofs.Common.{◌≡◌, ℕ, zero, suc, ◌+◌, ◌-◌, ◌<◌, ◌≤◌, List, length, drop, take, set, ◌⊎◌, inl, inr, sym, subst, ap, ap₂, ◌∙◌, arith}
use Rattle.std.specs.Prelude.{slice_index, slice_range}
use Rattle.std.proofs.lemmas.List.{drop_at, get_or-set_same, get_or-set_other, length-take-le, take-take, take_at}
use Rattle.std.proofs.lemmas.Bool.{cases_lt}
use Rattle.std.proofs.lemmas.Slice.{between_is}
use Rattle.vortex_row.specs.Slots.{HasSlot, Writes}
use Rattle.column_keys.specs.Keys.{AreRowKeys, key_of_row, keys_length}
use Rattle.column_keys.specs.Tables.{HasRow, HaveRows, options_of, table_of}
use Rattle.column_keys.specs.declared.key_columns.KeyColumn.{KeyColumn}

-- each of the rows is one

pub has-row : (columns : List KeyColumn) (count row : ℕ) → row < count → HaveRows columns count → HasRow columns row
has-row columns count row less all i d h = let one = all i d h in (omega (arith, one.0), one.1)

-- the sum grows

pub length-grows : (columns : List KeyColumn) (row more : ℕ) → keys_length (options_of columns) (table_of columns) row ≤ keys_length (options_of columns) (table_of columns) (row + more)
length-grows columns row zero = let same : row + zero ≡ row = omega arith in rw same (omega arith)
length-grows columns row (suc more) =
    let rest = length-grows columns row more in
    let same : row + suc more ≡ suc (row + more) = omega arith in
    rw same (omega arith)

pub length-next : (columns : List KeyColumn) (row count : ℕ) → row < count → keys_length (options_of columns) (table_of columns) row + length (key_of_row (options_of columns) (table_of columns) row) ≤ keys_length (options_of columns) (table_of columns) count
length-next columns row count less =
    let same : suc row + (count - suc row) ≡ count = omega arith in
    subst (λ n. keys_length (options_of columns) (table_of columns) row + length (key_of_row (options_of columns) (table_of columns) row) ≤ keys_length (options_of columns) (table_of columns) n) same (length-grows columns (suc row) (count - suc row))

pub row-slot : (columns : List KeyColumn) (row count place : ℕ) (buffer : List ℕ) → row < count → place ≡ keys_length (options_of columns) (table_of columns) row → length buffer ≡ keys_length (options_of columns) (table_of columns) count → HasSlot buffer place (key_of_row (options_of columns) (table_of columns) row)
row-slot columns row count place buffer less is long = let next = length-next columns row count less in omega arith

pub length-more : (columns : List KeyColumn) (row : ℕ) → keys_length (options_of columns) (table_of columns) (row + 1) ≡ keys_length (options_of columns) (table_of columns) row + length (key_of_row (options_of columns) (table_of columns) row)
length-more columns row = let one : row + 1 ≡ suc row = omega arith in ap (keys_length (options_of columns) (table_of columns)) one

pub place-more : (columns : List KeyColumn) (row place next : ℕ) → place ≡ keys_length (options_of columns) (table_of columns) row → next ≡ place + length (key_of_row (options_of columns) (table_of columns) row)
    → next ≡ keys_length (options_of columns) (table_of columns) (row + 1)
place-more columns row place next e f = f ∙ ap (λ n. n + length (key_of_row (options_of columns) (table_of columns) row)) e ∙ sym (length-more columns row)

-- offsets go up

offsets-grow : (columns : List KeyColumn) (count : ℕ) (offsets bytes : List ℕ) → AreRowKeys (options_of columns) (table_of columns) count offsets bytes → (k more : ℕ) → k + more ≤ count → slice_index offsets k ≤ slice_index offsets (k + more)
offsets-grow columns count offsets bytes all k zero less = let same : k + zero ≡ k = omega arith in rw same (omega arith)
offsets-grow columns count offsets bytes all k (suc more) less =
    let rest = offsets-grow columns count offsets bytes all k more (omega arith) in
    let next = all.ends (k + more) (omega arith) in
    let same : k + suc more ≡ k + more + 1 = omega arith in
    rw same (omega arith)

-- what was written before stays

range-is : (xs : List ℕ) (a b : ℕ) → slice_range xs a b ≡ drop a (take b xs)
range-is xs a b = between_is xs a b

range-kept : (xs ys : List ℕ) (a b place : ℕ) → b ≤ place → take place ys ≡ take place xs → slice_range ys a b ≡ slice_range xs a b
range-kept xs ys a b place less same =
    range-is ys a b ∙ ap (drop a) (sym (take-take b place ys less) ∙ ap (take b) same ∙ take-take b place xs less) ∙ sym (range-is xs a b)

front-kept : (bs : List ℕ) (p q : ℕ) (x y : List ℕ) → p ≤ length x → Writes bs p q x y → take p y ≡ take p x
front-kept bs p q x y inside w =
    let next = w.next' in
    sym (take-take p q y (omega arith)) ∙ ap (take p) w.items ∙ take_at (take p x) bs p (length-take-le p x inside)

range-written : (bs : List ℕ) (p q : ℕ) (x y : List ℕ) → p ≤ length x → Writes bs p q x y → slice_range y p q ≡ bs
range-written bs p q x y inside w = range-is y p q ∙ ap (drop p) w.items ∙ drop_at (take p x) bs p (length-take-le p x inside)

-- one row more

pub keys-more : (columns : List KeyColumn) (row place next : ℕ) (offsets buffer written : List ℕ) → AreRowKeys (options_of columns) (table_of columns) row offsets buffer → slice_index offsets row ≡ place → HasSlot buffer place (key_of_row (options_of columns) (table_of columns) row)
    → Writes (key_of_row (options_of columns) (table_of columns) row) place next buffer written → row + 1 < length offsets → AreRowKeys (options_of columns) (table_of columns) (row + 1) (set offsets (row + 1) next) written
keys-more columns row place next offsets buffer written all here slot w inside =
    let key = key_of_row (options_of columns) (table_of columns) row in
    let more = w.next' in
    let before : (k : ℕ) → k ≤ row → slice_index (set offsets (row + 1) next) k ≡ slice_index offsets k = λ k less. get_or-set_other offsets (row + 1) k next 0 (λ e. omega (arith, e, less)) in
    let last : slice_index (set offsets (row + 1) next) (row + 1) ≡ next = get_or-set_same offsets (row + 1) next 0 inside in
    record {
      start = before 0 (omega arith) ∙ all.start;
      ends = λ k less. ends_at before last all k (cases_lt k row) less;
      keys = λ k less. keys_at before last all k (cases_lt k row) less;
    }
  where
    ends_at : ((k : ℕ) → k ≤ row → slice_index (set offsets (row + 1) next) k ≡ slice_index offsets k) → slice_index (set offsets (row + 1) next) (row + 1) ≡ next → AreRowKeys (options_of columns) (table_of columns) row offsets buffer → (k : ℕ) → (k < row) ⊎ (row ≤ k) → k < row + 1
        → slice_index (set offsets (row + 1) next) (k + 1) ≡ slice_index (set offsets (row + 1) next) k + length (key_of_row (options_of columns) (table_of columns) k)
    ends_at before last all k (inl less) inside = before (k + 1) (omega arith) ∙ all.ends k less ∙ ap (λ n. n + length (key_of_row (options_of columns) (table_of columns) k)) (sym (before k (omega arith)))
    ends_at before last all k (inr least) inside =
        let same : k ≡ row = omega arith in
        subst (λ r. slice_index (set offsets (row + 1) next) (r + 1) ≡ slice_index (set offsets (row + 1) next) r + length (key_of_row (options_of columns) (table_of columns) r)) (sym same)
        (last ∙ w.next' ∙ ap (λ n. n + length (key_of_row (options_of columns) (table_of columns) row)) (sym here ∙ sym (before row (omega arith))))

    keys_at : ((k : ℕ) → k ≤ row → slice_index (set offsets (row + 1) next) k ≡ slice_index offsets k) → slice_index (set offsets (row + 1) next) (row + 1) ≡ next → AreRowKeys (options_of columns) (table_of columns) row offsets buffer → (k : ℕ) → (k < row) ⊎ (row ≤ k) → k < row + 1
        → slice_range written (slice_index (set offsets (row + 1) next) k) (slice_index (set offsets (row + 1) next) (k + 1)) ≡ key_of_row (options_of columns) (table_of columns) k
    keys_at before last all k (inl less) inside =
        let to : k + 1 + (row - (k + 1)) ≡ row = omega arith in
        let grown = subst (λ n. slice_index offsets (k + 1) ≤ slice_index offsets n) to (offsets-grow columns row offsets buffer all (k + 1) (row - (k + 1)) (omega arith)) in
        ap₂ (λ a b. slice_range written a b) (before k (omega arith)) (before (k + 1) (omega arith))
        ∙ range-kept buffer written (slice_index offsets k) (slice_index offsets (k + 1)) place (omega (arith, grown, here)) (front-kept (key_of_row (options_of columns) (table_of columns) row) place next buffer written (omega arith) w)
        ∙ all.keys k less
    keys_at before last all k (inr least) inside =
        let same : k ≡ row = omega arith in
        subst (λ r. slice_range written (slice_index (set offsets (row + 1) next) r) (slice_index (set offsets (row + 1) next) (r + 1)) ≡ key_of_row (options_of columns) (table_of columns) r) (sym same)
        (ap₂ (λ a b. slice_range written a b) (before row (omega arith) ∙ here) last ∙ range-written (key_of_row (options_of columns) (table_of columns) row) place next buffer written (omega arith) w)

pub keys-none : (columns : List KeyColumn) (offsets buffer : List ℕ) → slice_index offsets 0 ≡ 0 → AreRowKeys (options_of columns) (table_of columns) 0 offsets buffer
keys-none columns offsets buffer e = record { start = e; ends = λ k less. absurd (omega arith); keys = λ k less. absurd (omega arith) }

pub ruleset shown = (has-row, keys-none)
