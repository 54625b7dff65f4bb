-- Steps of reading, one after the other.
use Rattle.std.proofs.Common.{◌≡◌, ℕ, suc, List, [], ◌∷◌, ◌++◌, Box, Global, refl, sym, subst, ap, ◌∙◌, append_assoc, true≢false}
use Rattle.std.specs.Prelude.{Err, IsErr, Ok, Result}
use Rattle.std.specs.Result.{IsErrAnd}
use Rattle.like_patterns.specs.declared.case.Case.{Case}
use Rattle.like_patterns.specs.Patterns.{Part}
use Rattle.vortex_cells.specs.Cells.{Cell}
use Rattle.vortex_filter.specs.Formula.{Formula, formula, constant, comparison, null_test, membership, range, prefix_test, pattern_test, both, either, negation}
use Rattle.vortex_filter.specs.declared.filter.Filter.{Filter}
use Rattle.vortex_filter.specs.declared.operator.CompareOperator.{CompareOperator}
use Rattle.vortex_filter.specs.declared.truth.Truth.{Truth}
use Rattle.filter_encoding.specs.Encoding.{IsLiteral, literal_bytes, node_bytes, operator_byte, truth_byte}
use Rattle.filter_encoding.specs.Lists.{AreListed, Fits, count_bytes, listed}
use Rattle.filter_encoding.specs.Patterns.{IsCase, IsPart, case_bytes, part_bytes}
use Rattle.filter_encoding.specs.Steps.{IsNode, IsNodeEncoding, MayBegin, ReadsBehind, ReadsBoth, head_byte}
use Rattle.filter_encoding.specs.Strings.{HasRead, IsEncodingOf, IsStuck, Reads, Then}
use Rattle.filter_encoding.specs.declared.heads.Head.{Head}
use Rattle.filter_encoding.specs.declared.reader.FilterDecodeError.{FilterDecodeError}
use Rattle.filter_encoding.specs.declared.reader.FilterDecodeError.TheVariants.{Bad}
use Rattle.filter_encoding.proofs.NodeLaws.{Literal, Literals, OneCase, OnePattern, Place, both_goes_on, comparison_goes_on, either_goes_on, first_stuck, like_goes_on, membership_goes_on, negation_goes_on, nodes_apart, null_test_goes_on, prefix_goes_on, range_goes_on, second_stuck, some_literal, some_literal_pair, some_literals, some_matching, some_pattern}
use Rattle.filter_encoding.proofs.HeadLaws.{some_node}
use Rattle.filter_encoding.proofs.LiteralLaws.{literals_apart}
use Rattle.filter_encoding.proofs.PartLaws.{cases_apart}
use Rattle.filter_encoding.proofs.PlaceLaws.{places_apart}
use Rattle.filter_encoding.proofs.Stuck.{alone_of, encoding_of, stuck_later, stuck_within, then_begins, then_goes_on}

-- ---- refusals

-- a refusal that is passed on
pub passed_on : {X A : Type 0} (bytes_of : X → List ℕ) (Is : X → Type 0) (view : A → X) (r : Result A FilterDecodeError) (e : FilterDecodeError) (old now : List ℕ) → IsErr r × IsErrAnd r (λ f. f ≡ e) → (e ≡ Bad → IsStuck (IsEncodingOf bytes_of Is) old now)
    → Reads bytes_of Is view r old now
passed_on bytes_of Is view (Ok x) e old now h g = absurd (true≢false (sym h.0))
passed_on bytes_of Is view (Err f) e old now h g = λ bad. g (sym h.1 ∙ bad)

-- ---- tests

pub comparison_read : (n : ℕ) (op : CompareOperator) (k : ℕ) (x : Cell) (f : Formula) (old mid now : List ℕ) → f ≡ comparison k op x → HasRead count_bytes Fits k old mid → HasRead literal_bytes IsLiteral x mid now
    → HasRead node_bytes (IsNode n) f (operator_byte op ∷ old) now
comparison_read n op k x f old mid now e h g = record {
  is_one = subst (IsNode n) (sym e) (h.is_one, g.is_one);
  is = ap (λ xs. operator_byte op ∷ xs) (h.is ∙ ap (λ xs. count_bytes k ++ xs) g.is ∙ sym (append_assoc (count_bytes k) (literal_bytes x) now)) ∙ ap (λ h. node_bytes h ++ now) (sym e);
}

pub null_test_read : (n k : ℕ) (f : Formula) (old now : List ℕ) → f ≡ null_test k → HasRead count_bytes Fits k old now → HasRead node_bytes (IsNode n) f (9 ∷ old) now
null_test_read n k f old now e h = record {
  is_one = subst (IsNode n) (sym e) h.is_one;
  is = ap (λ xs. 9 ∷ xs) h.is ∙ ap (λ h. node_bytes h ++ now) (sym e);
}

pub membership_read : (n k : ℕ) (ls : List Cell) (f : Formula) (old mid now : List ℕ) → f ≡ membership k ls → HasRead count_bytes Fits k old mid → HasRead (listed literal_bytes) (AreListed IsLiteral) ls mid now
    → HasRead node_bytes (IsNode n) f (10 ∷ old) now
membership_read n k ls f old mid now e h g = record {
  is_one = subst (IsNode n) (sym e) (h.is_one, g.is_one);
  is = ap (λ xs. 10 ∷ xs) (h.is ∙ ap (λ xs. count_bytes k ++ xs) g.is ∙ sym (append_assoc (count_bytes k) (listed literal_bytes ls) now)) ∙ ap (λ h. node_bytes h ++ now) (sym e);
}

pub range_read : (n k : ℕ) (x y : Cell) (f : Formula) (old mid here now : List ℕ) → f ≡ range k x y → HasRead count_bytes Fits k old mid → HasRead literal_bytes IsLiteral x mid here → HasRead literal_bytes IsLiteral y here now
    → HasRead node_bytes (IsNode n) f (11 ∷ old) now
range_read n k x y f old mid here now e h g i = record {
  is_one = subst (IsNode n) (sym e) (h.is_one, (g.is_one, i.is_one));
  is =
      ap (λ xs. 11 ∷ xs)
      (h.is ∙ ap (λ xs. count_bytes k ++ xs) (g.is ∙ ap (λ xs. literal_bytes x ++ xs) i.is ∙ sym (append_assoc (literal_bytes x) (literal_bytes y) now)) ∙ sym (append_assoc (count_bytes k) (literal_bytes x ++ literal_bytes y) now))
      ∙ ap (λ h. node_bytes h ++ now) (sym e);
}

pub prefix_read : (n k : ℕ) (x : Cell) (f : Formula) (old mid now : List ℕ) → f ≡ prefix_test k x → HasRead count_bytes Fits k old mid → HasRead literal_bytes IsLiteral x mid now → HasRead node_bytes (IsNode n) f (12 ∷ old) now
prefix_read n k x f old mid now e h g = record {
  is_one = subst (IsNode n) (sym e) (h.is_one, g.is_one);
  is = ap (λ xs. 12 ∷ xs) (h.is ∙ ap (λ xs. count_bytes k ++ xs) g.is ∙ sym (append_assoc (count_bytes k) (literal_bytes x) now)) ∙ ap (λ h. node_bytes h ++ now) (sym e);
}

pub like_read : (n k : ℕ) (case : Case) (parts : List Part) (f : Formula) (old mid here now : List ℕ) → f ≡ pattern_test k case parts → HasRead count_bytes Fits k old mid → HasRead case_bytes IsCase case mid here
    → HasRead (listed part_bytes) (AreListed IsPart) parts here now → HasRead node_bytes (IsNode n) f (16 ∷ old) now
like_read n k case parts f old mid here now e h g i = record {
  is_one = subst (IsNode n) (sym e) (h.is_one, (g.is_one, i.is_one));
  is =
      ap (λ xs. 16 ∷ xs)
      (h.is ∙ ap (λ xs. count_bytes k ++ xs) (g.is ∙ ap (λ xs. case_bytes case ++ xs) i.is ∙ sym (append_assoc (case_bytes case) (listed part_bytes parts) now)) ∙ sym (append_assoc (count_bytes k) (case_bytes case ++ listed part_bytes parts) now))
      ∙ ap (λ h. node_bytes h ++ now) (sym e);
}

pub comparison_place_stuck : (n : ℕ) (op : CompareOperator) (old now : List ℕ) → IsStuck Place old now → IsStuck (IsNodeEncoding n) (operator_byte op ∷ old) now
comparison_place_stuck n op old now stuck = first_stuck (operator_byte op ∷ []) (IsNodeEncoding n) Place Literal (operator_byte op ∷ old) old now (comparison_goes_on n op) some_literal refl stuck

pub comparison_literal_stuck : (n : ℕ) (op : CompareOperator) (k : ℕ) (old mid now : List ℕ) → HasRead count_bytes Fits k old mid → IsStuck Literal mid now → IsStuck (IsNodeEncoding n) (operator_byte op ∷ old) now
comparison_literal_stuck n op k old mid now h stuck = second_stuck count_bytes Fits (operator_byte op ∷ []) (IsNodeEncoding n) Literal k (operator_byte op ∷ old) old mid now places_apart (comparison_goes_on n op) refl h stuck

pub null_test_stuck : (n : ℕ) (old now : List ℕ) → IsStuck Place old now → IsStuck (IsNodeEncoding n) (9 ∷ old) now
null_test_stuck n old now stuck = stuck_later (9 ∷ []) (IsNodeEncoding n) Place (9 ∷ old) old now (null_test_goes_on n) refl stuck

pub membership_place_stuck : (n : ℕ) (old now : List ℕ) → IsStuck Place old now → IsStuck (IsNodeEncoding n) (10 ∷ old) now
membership_place_stuck n old now stuck = first_stuck (10 ∷ []) (IsNodeEncoding n) Place Literals (10 ∷ old) old now (membership_goes_on n) some_literals refl stuck

pub membership_literals_stuck : (n k : ℕ) (old mid now : List ℕ) → HasRead count_bytes Fits k old mid → IsStuck Literals mid now → IsStuck (IsNodeEncoding n) (10 ∷ old) now
membership_literals_stuck n k old mid now h stuck = second_stuck count_bytes Fits (10 ∷ []) (IsNodeEncoding n) Literals k (10 ∷ old) old mid now places_apart (membership_goes_on n) refl h stuck

pub range_place_stuck : (n : ℕ) (old now : List ℕ) → IsStuck Place old now → IsStuck (IsNodeEncoding n) (11 ∷ old) now
range_place_stuck n old now stuck = first_stuck (11 ∷ []) (IsNodeEncoding n) Place (Then Literal Literal) (11 ∷ old) old now (range_goes_on n) some_literal_pair refl stuck

pub range_lower_stuck : (n k : ℕ) (old mid now : List ℕ) → HasRead count_bytes Fits k old mid → IsStuck Literal mid now → IsStuck (IsNodeEncoding n) (11 ∷ old) now
range_lower_stuck n k old mid now h stuck =
    second_stuck count_bytes Fits (11 ∷ []) (IsNodeEncoding n) (Then Literal Literal) k (11 ∷ old) old mid now places_apart (range_goes_on n) refl h
    (stuck_within Literal (Then Literal Literal) mid now (then_begins Literal Literal some_literal) stuck)

pub range_upper_stuck : (n k : ℕ) (x : Cell) (old mid here now : List ℕ) → HasRead count_bytes Fits k old mid → HasRead literal_bytes IsLiteral x mid here → IsStuck Literal here now → IsStuck (IsNodeEncoding n) (11 ∷ old) now
range_upper_stuck n k x old mid here now h g stuck =
    second_stuck count_bytes Fits (11 ∷ []) (IsNodeEncoding n) (Then Literal Literal) k (11 ∷ old) old mid now places_apart (range_goes_on n) refl h
    (stuck_later (literal_bytes x) (Then Literal Literal) Literal mid here now (then_goes_on Literal Literal (literal_bytes x) (alone_of literal_bytes IsLiteral literals_apart) (encoding_of literal_bytes IsLiteral x g.is_one)) g.is stuck)

pub prefix_place_stuck : (n : ℕ) (old now : List ℕ) → IsStuck Place old now → IsStuck (IsNodeEncoding n) (12 ∷ old) now
prefix_place_stuck n old now stuck = first_stuck (12 ∷ []) (IsNodeEncoding n) Place Literal (12 ∷ old) old now (prefix_goes_on n) some_literal refl stuck

pub prefix_literal_stuck : (n k : ℕ) (old mid now : List ℕ) → HasRead count_bytes Fits k old mid → IsStuck Literal mid now → IsStuck (IsNodeEncoding n) (12 ∷ old) now
prefix_literal_stuck n k old mid now h stuck = second_stuck count_bytes Fits (12 ∷ []) (IsNodeEncoding n) Literal k (12 ∷ old) old mid now places_apart (prefix_goes_on n) refl h stuck

pub like_place_stuck : (n : ℕ) (old now : List ℕ) → IsStuck Place old now → IsStuck (IsNodeEncoding n) (16 ∷ old) now
like_place_stuck n old now stuck = first_stuck (16 ∷ []) (IsNodeEncoding n) Place (Then OneCase OnePattern) (16 ∷ old) old now (like_goes_on n) some_matching refl stuck

pub like_case_stuck : (n k : ℕ) (old mid now : List ℕ) → HasRead count_bytes Fits k old mid → IsStuck OneCase mid now → IsStuck (IsNodeEncoding n) (16 ∷ old) now
like_case_stuck n k old mid now h stuck =
    second_stuck count_bytes Fits (16 ∷ []) (IsNodeEncoding n) (Then OneCase OnePattern) k (16 ∷ old) old mid now places_apart (like_goes_on n) refl h
    (stuck_within OneCase (Then OneCase OnePattern) mid now (then_begins OneCase OnePattern some_pattern) stuck)

pub like_pattern_stuck : (n k : ℕ) (case : Case) (old mid here now : List ℕ) → HasRead count_bytes Fits k old mid → HasRead case_bytes IsCase case mid here → IsStuck OnePattern here now → IsStuck (IsNodeEncoding n) (16 ∷ old) now
like_pattern_stuck n k case old mid here now h g stuck =
    second_stuck count_bytes Fits (16 ∷ []) (IsNodeEncoding n) (Then OneCase OnePattern) k (16 ∷ old) old mid now places_apart (like_goes_on n) refl h
    (stuck_later (case_bytes case) (Then OneCase OnePattern) OnePattern mid here now (then_goes_on OneCase OnePattern (case_bytes case) (alone_of case_bytes IsCase cases_apart) (encoding_of case_bytes IsCase case g.is_one)) g.is stuck)

-- ---- connectives

pub constant_read : (n : ℕ) (t : Truth) (f : Formula) (old now : List ℕ) → f ≡ constant t → old ≡ truth_byte t ∷ now → HasRead node_bytes (IsNode n) f old now
constant_read n t f old now e is = record { is_one = subst (IsNode n) (sym e) tt; is = is ∙ ap (λ h. node_bytes h ++ now) (sym e) }

pub both_read : (n d : ℕ) (f g h : Formula) (old mid now : List ℕ) → n ≡ suc d → h ≡ both f g → old ≡ 13 ∷ mid → IsNode d f × IsNode d g → mid ≡ node_bytes f ++ (node_bytes g ++ now) → HasRead node_bytes (IsNode n) h old now
both_read n d f g h old mid now deep e is parts rest = record {
  is_one = subst (IsNode n) (sym e) (subst (λ m. IsNode m (both f g)) (sym deep) parts);
  is = is ∙ ap (λ xs. 13 ∷ xs) (rest ∙ sym (append_assoc (node_bytes f) (node_bytes g) now)) ∙ ap (λ h. node_bytes h ++ now) (sym e);
}

pub either_read : (n d : ℕ) (f g h : Formula) (old mid now : List ℕ) → n ≡ suc d → h ≡ either f g → old ≡ 14 ∷ mid → IsNode d f × IsNode d g → mid ≡ node_bytes f ++ (node_bytes g ++ now) → HasRead node_bytes (IsNode n) h old now
either_read n d f g h old mid now deep e is parts rest = record {
  is_one = subst (IsNode n) (sym e) (subst (λ m. IsNode m (either f g)) (sym deep) parts);
  is = is ∙ ap (λ xs. 14 ∷ xs) (rest ∙ sym (append_assoc (node_bytes f) (node_bytes g) now)) ∙ ap (λ h. node_bytes h ++ now) (sym e);
}

pub negation_read : (n d : ℕ) (f h : Formula) (old mid now : List ℕ) → n ≡ suc d → h ≡ negation f → old ≡ 15 ∷ mid → HasRead node_bytes (IsNode d) f mid now → HasRead node_bytes (IsNode n) h old now
negation_read n d f h old mid now deep e is g = record {
  is_one = subst (IsNode n) (sym e) (subst (λ m. IsNode m (negation f)) (sym deep) g.is_one);
  is = is ∙ ap (λ xs. 15 ∷ xs) g.is ∙ ap (λ h. node_bytes h ++ now) (sym e);
}

abbrev Parts : ℕ → List ℕ → Type 0
Parts d = Then (IsNodeEncoding d) (IsNodeEncoding d)

pub both_stuck : (n d : ℕ) (old mid now : List ℕ) → n ≡ suc d → old ≡ 13 ∷ mid → IsStuck (Parts d) mid now → IsStuck (IsNodeEncoding n) old now
both_stuck n d old mid now deep is stuck = subst (λ m. IsStuck (IsNodeEncoding m) old now) (sym deep) (stuck_later (13 ∷ []) (IsNodeEncoding (suc d)) (Parts d) old mid now (both_goes_on d) is stuck)

pub either_stuck : (n d : ℕ) (old mid now : List ℕ) → n ≡ suc d → old ≡ 14 ∷ mid → IsStuck (Parts d) mid now → IsStuck (IsNodeEncoding n) old now
either_stuck n d old mid now deep is stuck = subst (λ m. IsStuck (IsNodeEncoding m) old now) (sym deep) (stuck_later (14 ∷ []) (IsNodeEncoding (suc d)) (Parts d) old mid now (either_goes_on d) is stuck)

pub negation_stuck : (n d : ℕ) (old mid now : List ℕ) → n ≡ suc d → old ≡ 15 ∷ mid → IsStuck (IsNodeEncoding d) mid now → IsStuck (IsNodeEncoding n) old now
negation_stuck n d old mid now deep is stuck = subst (λ m. IsStuck (IsNodeEncoding m) old now) (sym deep) (stuck_later (15 ∷ []) (IsNodeEncoding (suc d)) (IsNodeEncoding d) old mid now (negation_goes_on d) is stuck)

pub left_stuck : (d : ℕ) (old now : List ℕ) → IsStuck (IsNodeEncoding d) old now → IsStuck (Parts d) old now
left_stuck d old now stuck = stuck_within (IsNodeEncoding d) (Parts d) old now (then_begins (IsNodeEncoding d) (IsNodeEncoding d) (some_node d)) stuck

pub right_stuck : (d : ℕ) (f : Formula) (old mid now : List ℕ) → HasRead node_bytes (IsNode d) f old mid → IsStuck (IsNodeEncoding d) mid now → IsStuck (Parts d) old now
right_stuck d f old mid now h stuck =
    stuck_later (node_bytes f) (Parts d) (IsNodeEncoding d) old mid now (then_goes_on (IsNodeEncoding d) (IsNodeEncoding d) (node_bytes f) (alone_of node_bytes (IsNode d) (nodes_apart d)) (encoding_of node_bytes (IsNode d) f h.is_one)) h.is stuck

-- a refusal of two parts that is passed on
pub parts_passed_on : (d : ℕ) (r : Result (Box Filter Global × Box Filter Global) FilterDecodeError) (e : FilterDecodeError) (old now : List ℕ) → IsErr r × IsErrAnd r (λ f. f ≡ e) → (e ≡ Bad → IsStuck (Parts d) old now) → ReadsBoth d r old now
parts_passed_on d (Ok x) e old now h g = absurd (true≢false (sym h.0))
parts_passed_on d (Err f) e old now h g = λ bad. g (sym h.1 ∙ bad)

-- what was read behind the first byte
pub behind : (n head : ℕ) (r : Result Filter FilterDecodeError) (old mid now : List ℕ) → old ≡ head ∷ mid → ReadsBehind head n r mid now → Reads node_bytes (IsNode n) formula r old now
behind n head r old mid now e h = subst (λ xs. Reads node_bytes (IsNode n) formula r xs now) (sym e) h

-- the first byte was that of this kind
pub begun : (n : ℕ) (h k : Head) (old now : List ℕ) → h ≡ k → (old ≡ head_byte h ∷ now) × MayBegin n h → (old ≡ head_byte k ∷ now) × MayBegin n k
begun n h k old now e w = subst (λ j. (old ≡ head_byte j ∷ now) × MayBegin n j) e w
