-- The records of a stream that were taken so far.
use Rattle.std.proofs.Common.{◌≡◌, ◌+◌, ℕ, List, [], ◌++◌, Bool, Option, None, Some, refl, sym, ap, ◌∙◌, subst, append_assoc, append-nil, arith, length}
use Rattle.std.proofs.KnownBytes.{Appends-nil, Appends-trans}
use Rattle.std.proofs.lemmas.List.{length-append}
use Rattle.std.proofs.lemmas.List.Sums.{sum_by-append}
use Rattle.std.specs.Io.KnownBytes.{Appends, Keeps}
use Rattle.std.specs.List.{count_by}
use Rattle.std.specs.Prelude.{if◌then◌else◌}
use Rattle.csv_records.specs.Records.{records_of}
use Rattle.zone_index.specs.Sinks.{WritesFirst, told, written_of}
use Rattle.zone_index.specs.Taking.{IsTaken}
use Rattle.zone_index.proofs.Sinking.{first_given, first_of_more, first_then, written-append, written_told}

-- of these records so many match, and those are written; the others are left, of which the first has this number
pub record Searched (f : ℕ → List ℕ → List ℕ) (first d : ℕ) (keep : List ℕ → Bool) (bytes : List ℕ) (left : Option (List ℕ)) (old new : Option (List ℕ)) (found number : ℕ) : Type 0 where
  pub done : List (List ℕ)
  pub rest : List ℕ
  pub is : left ≡ Some rest
  pub records : records_of d bytes ≡ done ++ records_of d rest
  pub written : Appends old new (written_of f keep first done)
  pub count : found ≡ count_by keep done
  pub next : told number ≡ told (first + length done)

pub searched_none : (f : ℕ → List ℕ → List ℕ) (first d : ℕ) (keep : List ℕ → Bool) (bytes : List ℕ) (left out : Option (List ℕ)) → left ≡ Some bytes → Searched f first d keep bytes left out out 0 first
searched_none f first d keep bytes left out is = record { done = []; rest = bytes; is = is; records = refl; written = Appends-nil out; count = refl; next = omega arith }

count-append : (keep : List ℕ → Bool) (xs ys : List (List ℕ)) → count_by keep (xs ++ ys) ≡ count_by keep xs + count_by keep ys
count-append keep xs ys = sum_by-append (λ (x : List ℕ). if keep x then 1 else 0) xs ys

-- a piece more
pub searched_more : (f : ℕ → List ℕ → List ℕ) (first d e : ℕ) (keep : List ℕ → Bool) (bytes text view output : List ℕ) (left next old mid same new : Option (List ℕ)) (found hits sum number after : ℕ) (s : Searched f first d keep bytes left old mid found number) → e ≡ d → IsTaken e s.rest text next → view ≡ text
    → output ≡ written_of f keep number (records_of d view) → same ≡ mid → Appends same new output → hits ≡ count_by keep (records_of d view) → told after ≡ told (number + length (records_of d view)) → sum ≡ found + hits → Searched f first d keep bytes next old new sum after
searched_more f first d e keep bytes text view output left next old mid same new found hits sum number after s by t viewed output_is unwritten out hits_is after_is sum_is =
    let taken : IsTaken d s.rest text next = subst (λ (n : ℕ). IsTaken n s.rest text next) by t in
    let here = records_of d text in
    let lines : records_of d view ≡ here = ap (records_of d) viewed in
    let number_is = s.next in
    let piece : output ≡ written_of f keep (first + length s.done) here = output_is ∙ ap (written_of f keep number) lines ∙ written_told f keep number (first + length s.done) here number_is in
    let count : found + hits ≡ count_by keep (s.done ++ here) = ap (λ (n : ℕ). n + hits) s.count ∙ ap (λ (n : ℕ). count_by keep s.done + n) (hits_is ∙ ap (count_by keep) lines) ∙ sym (count-append keep s.done here) in
    let long : length (s.done ++ here) ≡ length s.done + length (records_of d view) = length-append s.done here ∙ ap (λ (l : List (List ℕ)). length s.done + length l) (sym lines) in
    record {
      done = s.done ++ here;
      rest = taken.rest;
      is = taken.is;
      records = s.records ∙ ap (λ (l : List (List ℕ)). s.done ++ l) taken.records ∙ sym (append_assoc s.done here (records_of d taken.rest));
      written = subst (Appends old new) (sym (written-append f keep first s.done here)) (Appends-trans old mid new _ _ s.written (subst (λ (o : Option (List ℕ)). Appends o new (written_of f keep (first + length s.done) here)) unwritten (subst (Appends same new) piece out)));
      count = sum_is ∙ count;
      next = omega (arith, after_is, number_is, long);
    }

all_done : (f : ℕ → List ℕ → List ℕ) (first d : ℕ) (keep : List ℕ → Bool) (bytes : List ℕ) (left old new : Option (List ℕ)) (found number : ℕ) (s : Searched f first d keep bytes left old new found number) → s.rest ≡ [] → s.done ≡ records_of d bytes
all_done f first d keep bytes left old new found number s none = sym (append-nil s.done) ∙ ap (λ (l : List ℕ). s.done ++ records_of d l) (sym none) ∙ sym s.records

pub keeps-same : (a b : Option (List ℕ)) → b ≡ a → Keeps a b
keeps-same None b e = tt
keeps-same (Some x) b e = subst (λ (o : Option (List ℕ)). Keeps (Some x) o) (sym e) refl

-- and after a flush
pub appends-kept : (a b c : Option (List ℕ)) (bs : List ℕ) → Appends a b bs → Keeps b c → Appends a c bs
appends-kept None b c bs p q = tt
appends-kept (Some x) None c bs p q = absurd p
appends-kept (Some x) (Some y) None bs p q = absurd q
appends-kept (Some x) (Some y) (Some z) bs p q = q ∙ p

-- nothing is left
pub all_written : (f : ℕ → List ℕ → List ℕ) (first d : ℕ) (keep : List ℕ → Bool) (bytes : List ℕ) (left old new out : Option (List ℕ)) (found number : ℕ) (s : Searched f first d keep bytes left old new found number) → s.rest ≡ [] → Keeps new out → Appends old out (written_of f keep first (records_of d bytes))
all_written f first d keep bytes left old new out found number s none same =
    subst (Appends old out) (ap (written_of f keep first) (all_done f first d keep bytes left old new found number s none)) (appends-kept old new out (written_of f keep first s.done) s.written same)

pub all_counted : (f : ℕ → List ℕ → List ℕ) (first d : ℕ) (keep : List ℕ → Bool) (bytes : List ℕ) (left old new : Option (List ℕ)) (found number : ℕ) (s : Searched f first d keep bytes left old new found number) → s.rest ≡ [] → found ≡ count_by keep (records_of d bytes)
all_counted f first d keep bytes left old new found number s none = s.count ∙ ap (count_by keep) (all_done f first d keep bytes left old new found number s none)

-- what is written of all begins with what was of those that were taken
written_parts : (f : ℕ → List ℕ → List ℕ) (first d : ℕ) (keep : List ℕ → Bool) (bytes : List ℕ) (left old new : Option (List ℕ)) (found number : ℕ) (s : Searched f first d keep bytes left old new found number)
    → written_of f keep first (records_of d bytes) ≡ written_of f keep first s.done ++ written_of f keep number (records_of d s.rest)
written_parts f first d keep bytes left old new found number s =
    ap (written_of f keep first) s.records ∙ written-append f keep first s.done (records_of d s.rest) ∙ ap (λ (l : List ℕ). written_of f keep first s.done ++ l) (written_told f keep (first + length s.done) number (records_of d s.rest) (sym s.next))

-- nothing more was written, or nothing that is known
pub searched_first : (f : ℕ → List ℕ → List ℕ) (first d : ℕ) (keep : List ℕ → Bool) (bytes : List ℕ) (left old new now : Option (List ℕ)) (found number : ℕ) → Searched f first d keep bytes left old new found number → Keeps new now → WritesFirst old now (written_of f keep first (records_of d bytes))
searched_first f first d keep bytes left old new now found number s same =
    (written_of f keep first s.done, written_of f keep number (records_of d s.rest), written_parts f first d keep bytes left old new found number s, appends-kept old new now (written_of f keep first s.done) s.written same)

-- a beginning of a piece more
pub searched_then : (f : ℕ → List ℕ → List ℕ) (first d e : ℕ) (keep : List ℕ → Bool) (bytes text view output : List ℕ) (left next old mid same new : Option (List ℕ)) (found number : ℕ) (s : Searched f first d keep bytes left old mid found number) → e ≡ d → IsTaken e s.rest text next → view ≡ text
    → output ≡ written_of f keep number (records_of d view) → same ≡ mid → WritesFirst same new output → WritesFirst old new (written_of f keep first (records_of d bytes))
searched_then f first d e keep bytes text view output left next old mid same new found number s by t viewed output_is unwritten h =
    let taken : IsTaken d s.rest text next = subst (λ (n : ℕ). IsTaken n s.rest text next) by t in
    let front = written_of f keep first s.done in
    let here = written_of f keep number (records_of d text) in
    let back = written_of f keep (number + length (records_of d text)) (records_of d taken.rest) in
    let piece : output ≡ here = output_is ∙ ap (λ (l : List ℕ). written_of f keep number (records_of d l)) viewed in
    let rest_is : written_of f keep number (records_of d s.rest) ≡ here ++ back = ap (written_of f keep number) taken.records ∙ written-append f keep number (records_of d text) (records_of d taken.rest) in
    let begun : WritesFirst mid new (here ++ back) = first_of_more mid new here back (first_given mid same new output here piece unwritten h) in
    subst (WritesFirst old new) (sym (written_parts f first d keep bytes left old mid found number s ∙ ap (λ (l : List ℕ). front ++ l) rest_is)) (first_then old mid new front (here ++ back) s.written begun)

-- those of the first records that match were written
pub first_written : (f : ℕ → List ℕ → List ℕ) (first d : ℕ) (keep : List ℕ → Bool) (bytes : List ℕ) (left old new now : Option (List ℕ)) (found number : ℕ) → Searched f first d keep bytes left old new found number → now ≡ new → (begin others : List (List ℕ)) × (records_of d bytes ≡ begin ++ others) × Appends old now (written_of f keep first begin)
first_written f first d keep bytes left old new now found number s same = (s.done, records_of d s.rest, s.records, subst (λ (o : Option (List ℕ)). Appends old o (written_of f keep first s.done)) (sym same) s.written)

-- ---- counting

-- of these records so many match; the others are left
pub record Counted (d : ℕ) (keep : List ℕ → Bool) (bytes : List ℕ) (left : Option (List ℕ)) (total : ℕ) : Type 0 where
  pub rest : List ℕ
  pub is : left ≡ Some rest
  pub count : total + count_by keep (records_of d rest) ≡ count_by keep (records_of d bytes)

pub counted_none : (d : ℕ) (keep : List ℕ → Bool) (bytes : List ℕ) (left : Option (List ℕ)) → left ≡ Some bytes → Counted d keep bytes left 0
counted_none d keep bytes left is = record { rest = bytes; is = is; count = omega arith }

pub counted_more : (d e : ℕ) (keep : List ℕ → Bool) (bytes text view : List ℕ) (left next : Option (List ℕ)) (total hits sum : ℕ) (s : Counted d keep bytes left total) → e ≡ d → IsTaken e s.rest text next → view ≡ text
    → hits ≡ count_by keep (records_of d view) → sum ≡ total + hits → Counted d keep bytes next sum
counted_more d e keep bytes text view left next total hits sum s by t same hits_is sum_is =
    let taken : IsTaken d s.rest text next = subst (λ (n : ℕ). IsTaken n s.rest text next) by t in
    let here : hits ≡ count_by keep (records_of d text) = hits_is ∙ ap (λ (l : List ℕ). count_by keep (records_of d l)) same in
    let parts : count_by keep (records_of d s.rest) ≡ count_by keep (records_of d text) + count_by keep (records_of d taken.rest) = ap (count_by keep) taken.records ∙ count-append keep (records_of d text) (records_of d taken.rest) in
    let before = s.count in
    record { rest = taken.rest; is = taken.is; count = omega arith }

pub counted_all : (d : ℕ) (keep : List ℕ → Bool) (bytes : List ℕ) (left : Option (List ℕ)) (total : ℕ) (s : Counted d keep bytes left total) → s.rest ≡ [] → total ≡ count_by keep (records_of d bytes)
counted_all d keep bytes left total s none =
    let zero : count_by keep (records_of d s.rest) ≡ 0 = ap (λ (l : List ℕ). count_by keep (records_of d l)) none in
    let all = s.count in
    omega arith
