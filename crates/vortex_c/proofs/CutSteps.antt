-- Whole records, one behind another.
use Rattle.std.proofs.Common.{◌≡◌, ◌+◌, ◌*◌, inl, inr, ℕ, List, [], ◌∷◌, ◌++◌, Bool, false, refl, sym, ap, ◌∙◌, subst, length, take, drop, arith, append_assoc, append-nil}
use Rattle.std.proofs.lemmas.Bool.{false≢true}
use Rattle.std.proofs.lemmas.List.{length-append, take-append-drop}
use Rattle.csv.specs.declared.parser.State.{State}
use Rattle.csv.specs.declared.parser.State.TheVariants as st
use Rattle.csv_records.specs.Lemmas.RecordLaws.{EndsRecord, records_of-append, state_after-append}
use Rattle.csv_records.specs.Records.{records_of}
use Rattle.csv_records.specs.Rows.{state_after}
use Rattle.zone_index.specs.Taking.{AreWhole}
use Rattle.vortex_c.specs.IndexCuts.{HasNoZone, IsZoneCut}
use lib.Seq.{take-add}

ends_both : (d : ℕ) (xs ys : List ℕ) → EndsRecord d xs → EndsRecord d ys → EndsRecord d (xs ++ ys)
ends_both d xs ys g h = record {
  front = xs ++ h.front;
  is = ap (λ (l : List ℕ). xs ++ l) h.is ∙ sym (append_assoc xs h.front (10 ∷ []));
  start = state_after-append d st.StartRecord xs ys ∙ ap (λ (r : State). state_after d r ys) g.start ∙ h.start;
}

whole_both : (d : ℕ) (xs ys : List ℕ) (m n : ℕ) → AreWhole d st.StartRecord m xs → AreWhole d st.StartRecord n ys → AreWhole d st.StartRecord (m + n) (xs ++ ys)
whole_both d xs ys m n (inl none) h =
    let many : n ≡ m + n = omega (arith, none.1) in
    let same : ys ≡ xs ++ ys = ap (λ (l : List ℕ). l ++ ys) (sym none.0) in
    subst (λ (k : ℕ). AreWhole d st.StartRecord k (xs ++ ys)) many (subst (AreWhole d st.StartRecord n) same h)
whole_both d xs ys m n (inr g) (inl none) =
    let many : m ≡ m + n = omega (arith, none.1) in
    let same : xs ≡ xs ++ ys = sym (append-nil xs) ∙ ap (λ (l : List ℕ). xs ++ l) (sym none.0) in
    subst (λ (k : ℕ). AreWhole d st.StartRecord k (xs ++ ys)) many (subst (AreWhole d st.StartRecord m) same (inr g))
whole_both d xs ys m n (inr g) (inr h) =
    inr (refl, ends_both d xs ys g.1 h.1, omega (arith, ap length (records_of-append d xs ys g.1), length-append (records_of d xs) (records_of d ys), g.2, h.2))

-- a zone more
pub zone_more : (d size zones : ℕ) (text rest : List ℕ) (end n : ℕ) → rest ≡ drop end text → AreWhole d st.StartRecord (zones * size) (take end text) → AreWhole d st.StartRecord size (take n rest) → AreWhole d st.StartRecord ((zones + 1) * size) (take (end + n) text)
zone_more d size zones text rest end n same before here =
    let one : AreWhole d st.StartRecord size (take n (drop end text)) = subst (λ (l : List ℕ). AreWhole d st.StartRecord size (take n l)) same here in
    let many : zones * size + size ≡ (zones + 1) * size = grind arith in
    subst (λ (k : ℕ). AreWhole d st.StartRecord k (take (end + n) text)) many
    (subst (AreWhole d st.StartRecord (zones * size + size)) (sym (take-add end n text)) (whole_both d (take end text) (take n (drop end text)) (zones * size) size before one))

-- whatever follows whole records, they stay
closed : (d n : ℕ) (xs more : List ℕ) → AreWhole d st.StartRecord n xs → records_of d (xs ++ more) ≡ records_of d xs ++ records_of d more
closed d n xs more (inl none) = ap (λ (l : List ℕ). records_of d (l ++ more)) none.0 ∙ ap (λ (l : List ℕ). records_of d l ++ records_of d more) (sym none.0)
closed d n xs more (inr h) = records_of-append d xs more h.1

many_are : (d n : ℕ) (xs : List ℕ) → AreWhole d st.StartRecord n xs → length (records_of d xs) ≡ n
many_are d n xs (inl none) = ap (λ (l : List ℕ). length (records_of d l)) none.0 ∙ sym none.1
many_are d n xs (inr h) = h.2

-- nothing but full zones in front, and no other one behind
pub cut_there : (d size zones : ℕ) (text : List ℕ) (end : ℕ) (is_end : Bool) → is_end ≡ false → AreWhole d st.StartRecord (zones * size) (take end text) → HasNoZone d size (drop end text) → IsZoneCut d size text is_end (take end text) (drop end text)
cut_there d size zones text end is_end unended whole none =
    let front = take end text in
    let rest = drop end text in
    let parts : text ≡ front ++ rest = sym (take-append-drop end text) in
    record {
      parts = parts;
      records = ap (records_of d) parts ∙ closed d (zones * size) front rest whole;
      certain = λ _ more. ap (records_of d) (ap (λ (l : List ℕ). l ++ more) parts ∙ append_assoc front rest more) ∙ closed d (zones * size) front (rest ++ more) whole;
      full = λ _. (zones, many_are d (zones * size) front whole);
      left = λ _. none;
      all = λ ended. absurd (false≢true (sym unended ∙ ended));
    }
