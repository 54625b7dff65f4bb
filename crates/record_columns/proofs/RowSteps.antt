-- The records of a text, one after another, and the rows of those that match.
use Rattle.std.proofs.Common.{◌≡◌, ◌+◌, ◌-◌, ◌^◌, ◌∙◌, ℕ, List, [], ◌∷◌, ◌++◌, Bool, true, false, Option, None, Some, append-nil, append_assoc, ap, arith, length, map, min, refl, subst, sym}
use Rattle.std.proofs.lemmas.List.{length-append}
use Rattle.std.proofs.lemmas.List.Elements.{filter-append, filter_map-append}
use Rattle.std.proofs.lemmas.List.Folds.{concat-append}
use Rattle.std.specs.Global.{Global}
use Rattle.std.specs.List.{AllByRecursion, concat, filter}
use Rattle.std.specs.Prelude.{Vec, option_map}
use Rattle.csv_records.specs.Records.{records_of}
use Rattle.record_rows.specs.declared.schema.Schema.{Schema}
use Rattle.record_search.specs.Refused.{RefusesRecord}
use Rattle.record_search.specs.Searched.{is_refused, matches_record, records_under, row_cells, row_under, rows_under}
use Rattle.vortex_cells.specs.Cells.{Cell}
use Rattle.vortex_filter.specs.Formula.{Formula}
use Rattle.vortex_value.specs.declared.scalars.Scalar.{Scalar}
use Rattle.zone_index.specs.Errors.{IfRecordRefused, TellsOffset, TellsRecord, before_refused}
use Rattle.zone_index.specs.declared.errors.RecordError.{RecordError}
use Rattle.zone_index.specs.declared.errors.RecordError.TheVariants as faults
use Rattle.record_columns.specs.Rows.{matching_rows}
use Rattle.record_columns.specs.Refused.{ArePassed, IsRecordFault}
use Rattle.record_columns.specs.Values.{HaveValues}

-- ---- the rows of records that match

matching-append : (s : Schema) (f : Formula) (xs ys : List (List ℕ)) → matching_rows s f (xs ++ ys) ≡ matching_rows s f xs ++ matching_rows s f ys
matching-append s f xs ys =
    ap (rows_under s) (filter-append (matches_record s f) xs ys) ∙ filter_map-append (row_under s) (filter (matches_record s f) xs) (filter (matches_record s f) ys)

-- ---- the records of a text that were read

-- these were read, and their rows are these; the next one stands at this place
pub record AreReadTo (s : Schema) (f : Formula) (place : ℕ) (text rest : List ℕ) (rows : List (Vec Scalar Global)) (here : ℕ) : Type 0 where
  pub judged : List (List ℕ)
  pub records : records_under s text ≡ judged ++ records_under s rest
  pub rows_are : map row_cells rows ≡ matching_rows s f judged
  pub values : HaveValues s.columns.items rows
  pub passed : AllByRecursion (λ line. is_refused s line ≡ false) judged
  pub stands : here ≡ min (place + length (concat judged)) (2 ^ 64 - 1)

all_passed : (R : List ℕ → Bool) (xs : List (List ℕ)) (line : List ℕ) → AllByRecursion (λ x. R x ≡ false) xs → R line ≡ false → AllByRecursion (λ x. R x ≡ false) (xs ++ line ∷ [])
all_passed R [] line h one = (one, tt)
all_passed R (x ∷ xs) line h one = (h.0, all_passed R xs line h.1 one)

-- a record more
pub read_more : (s : Schema) (f : Formula) (place : ℕ) (text rest line after : List ℕ) (rows more : List (Vec Scalar Global)) (here next : ℕ) → AreReadTo s f place text rest rows here → records_of s.delimiter.byte rest ≡ line ∷ records_of s.delimiter.byte after
    → map row_cells more ≡ map row_cells rows ++ matching_rows s f (line ∷ []) → HaveValues s.columns.items more → is_refused s line ≡ false → next ≡ min (here + length line) (2 ^ 64 - 1) → AreReadTo s f place text after more next
read_more s f place text rest line after rows more here next h cut pushed values passes at =
    let one : length (concat (line ∷ [])) ≡ length line = ap length (append-nil line) in
    let all : length (concat (h.judged ++ line ∷ [])) ≡ length (concat h.judged) + length (concat (line ∷ [])) = ap length (concat-append h.judged (line ∷ [])) ∙ length-append (concat h.judged) (concat (line ∷ [])) in
    let stands : next ≡ min (place + length (concat (h.judged ++ line ∷ []))) (2 ^ 64 - 1) = omega (arith, at, h.stands, all, one) in
    record {
      judged = h.judged ++ line ∷ [];
      records = h.records ∙ ap (λ (l : List (List ℕ)). h.judged ++ l) cut ∙ sym (append_assoc h.judged (line ∷ []) (records_under s after));
      rows_are = pushed ∙ ap (λ (l : List (List Cell)). l ++ matching_rows s f (line ∷ [])) h.rows_are ∙ sym (matching-append s f h.judged (line ∷ []));
      values = values;
      passed = all_passed (is_refused s) h.judged line h.passed passes;
      stands = stands;
    }

none_refused : (R : List ℕ → Bool) (xs : List (List ℕ)) → AllByRecursion (λ x. R x ≡ false) xs → before_refused R xs ≡ None
none_refused R [] h = refl
none_refused R (x ∷ xs) h = rw h.0 (ap (option_map (λ n. length x + n)) (none_refused R xs h.1))

-- all were read
all_judged : (s : Schema) (f : Formula) (place : ℕ) (text rest : List ℕ) (rows : List (Vec Scalar Global)) (here : ℕ) (h : AreReadTo s f place text rest rows here) → rest ≡ [] → records_under s text ≡ h.judged
all_judged s f place text rest rows here h none = h.records ∙ ap (λ (l : List ℕ). h.judged ++ records_under s l) none ∙ append-nil h.judged

pub passed_all : (s : Schema) (f : Formula) (place : ℕ) (text rest : List ℕ) (rows : List (Vec Scalar Global)) (here : ℕ) → AreReadTo s f place text rest rows here → rest ≡ [] → ArePassed s text
passed_all s f place text rest rows here h none = ap (before_refused (is_refused s)) (all_judged s f place text rest rows here h none) ∙ none_refused (is_refused s) h.judged h.passed

-- ---- the record that is refused

refused_at : (R : List ℕ → Bool) (xs ys : List (List ℕ)) (line : List ℕ) → AllByRecursion (λ x. R x ≡ false) xs → R line ≡ true → before_refused R (xs ++ line ∷ ys) ≡ Some (length (concat xs))
refused_at R [] ys line h so = rw so refl
refused_at R (x ∷ xs) ys line h so = rw h.0 (ap (option_map (λ n. length x + n)) (refused_at R xs ys line h.1 so) ∙ ap Some (sym (length-append x (concat xs))))

pub fault_told : (s : Schema) (f : Formula) (place : ℕ) (text rest line after : List ℕ) (rows : List (Vec Scalar Global)) (here : ℕ) (e : RecordError) → AreReadTo s f place text rest rows here → records_of s.delimiter.byte rest ≡ line ∷ records_of s.delimiter.byte after
    → IfRecordRefused (TellsRecord (RefusesRecord s) here line) e → IfRecordRefused (λ _. is_refused s line ≡ true) e → IsRecordFault s place text e
fault_told s f place text rest line after rows here faults.Memory h cut told right = record { refused = tt; first = tt }
fault_told s f place text rest line after rows here (faults.Refused r) h cut told right =
    let among : records_under s text ≡ h.judged ++ line ∷ records_under s after = h.records ∙ ap (λ (l : List (List ℕ)). h.judged ++ l) cut in
    let at : before_refused (is_refused s) (records_under s text) ≡ Some (length (concat h.judged)) = ap (before_refused (is_refused s)) among ∙ refused_at (is_refused s) h.judged (records_under s after) line h.passed right in
    let begins : r.place ≡ min (place + length (concat h.judged)) (2 ^ 64 - 1) = told.begins ∙ h.stands in
    record {
      refused = record { before = h.judged; line = line; others = records_under s after; among = among; told = record { begins = begins; cause = told.cause } };
      first = subst (λ (o : Option ℕ). TellsOffset place o r) (sym at) begins;
    }
