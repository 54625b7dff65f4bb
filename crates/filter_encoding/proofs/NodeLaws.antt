-- Filters: what begins with two of them, and what comes after the first byte of each kind.
use Rattle.std.proofs.Common.{◌≡◌, ℕ, zero, suc, List, [], ◌∷◌, ◌++◌, refl, sym, subst, ap, ap₂, ◌∙◌, append_assoc, arith}
use Rattle.like_patterns.specs.declared.case.Case.TheVariants.{Sensitive}
use Rattle.vortex_filter.specs.Formula.{Formula, constant, comparison, null_test, membership, range, prefix_test, pattern_test, both, either, negation}
use Rattle.vortex_filter.specs.declared.operator.CompareOperator.{CompareOperator}
use Rattle.filter_encoding.specs.Encoding.{IsLiteral, literal_bytes, node_bytes, operator_byte}
use Rattle.filter_encoding.specs.Lists.{AreListed, Fits, count_bytes, listed}
use Rattle.filter_encoding.specs.Patterns.{IsCase, IsPart, case_bytes, part_bytes}
use Rattle.filter_encoding.specs.Steps.{IsNode, IsNodeEncoding}
use Rattle.filter_encoding.specs.Strings.{HasRead, IsEncodingOf, IsStuck, Then}
use Rattle.filter_encoding.specs.declared.heads.Head.TheVariants.{Constant, Compare, IsNull, In, Between, StartsWith, Like, And, Or, Not}
use Rattle.filter_encoding.proofs.HeadLaws.{head_goes_on, same_head}
use Rattle.filter_encoding.proofs.ListLaws.{listed_apart}
use Rattle.filter_encoding.proofs.LiteralLaws.{literals_apart, null_literal}
use Rattle.filter_encoding.proofs.PartLaws.{cases_apart, parts_apart}
use Rattle.filter_encoding.proofs.PlaceLaws.{places_apart}
use Rattle.filter_encoding.proofs.Stuck.{AreApart, GoesOn, alone_of, encoding_of, stuck_later, stuck_within, then_begins, then_goes_on}
use Rattle.filter_encoding.proofs.TypeLaws.{first_same}

-- the strings that come after first bytes
abbrev pub Place : List ℕ → Type 0
Place = IsEncodingOf count_bytes Fits

abbrev pub Literal : List ℕ → Type 0
Literal = IsEncodingOf literal_bytes IsLiteral

abbrev pub Literals : List ℕ → Type 0
Literals = IsEncodingOf (listed literal_bytes) (AreListed IsLiteral)

abbrev pub OneCase : List ℕ → Type 0
OneCase = IsEncodingOf case_bytes IsCase

abbrev pub OnePattern : List ℕ → Type 0
OnePattern = IsEncodingOf (listed part_bytes) (AreListed IsPart)

-- ---- what begins with two filters

lists_apart : AreApart (listed literal_bytes) (AreListed IsLiteral)
lists_apart = listed_apart places_apart literal_bytes IsLiteral literals_apart

pub patterns_apart : AreApart (listed part_bytes) (AreListed IsPart)
patterns_apart = listed_apart places_apart part_bytes IsPart parts_apart

-- what begins with a place and a string of a kind
placed_apart : {X : Type 0} (bytes_of : X → List ℕ) (Is : X → Type 0) → AreApart bytes_of Is → (j k : ℕ) (x y : X) (xs ys : List ℕ) → Fits j → Fits k → Is x → Is y
    → (count_bytes j ++ bytes_of x) ++ xs ≡ (count_bytes k ++ bytes_of y) ++ ys → (j ≡ k) × (x ≡ y) × (xs ≡ ys)
placed_apart bytes_of Is law j k x y xs ys f g p q e =
    let w = places_apart.apart j k (bytes_of x ++ xs) (bytes_of y ++ ys) f g (sym (append_assoc (count_bytes j) (bytes_of x) xs) ∙ e ∙ append_assoc (count_bytes k) (bytes_of y) ys) in
    let v = law.apart x y xs ys p q w.1 in
    (w.0, v.0, v.1)

record BothHold (m : ℕ) (f g : Formula) : Type 0 where
  depth : ℕ
  left : IsNode depth f
  right : IsNode depth g

of_both : (m : ℕ) (f g : Formula) → IsNode m (both f g) → BothHold m f g
of_both zero f g h = absurd h
of_both (suc m) f g h = record { depth = m; left = h.0; right = h.1 }

of_either : (m : ℕ) (f g : Formula) → IsNode m (either f g) → BothHold m f g
of_either zero f g h = absurd h
of_either (suc m) f g h = record { depth = m; left = h.0; right = h.1 }

of_negation : (m : ℕ) (f : Formula) → IsNode m (negation f) → (n : ℕ) × IsNode n f
of_negation zero f h = absurd h
of_negation (suc m) f h = (m, h)

pub node_apart : (n m : ℕ) (f g : Formula) (xs ys : List ℕ) → IsNode n f → IsNode m g → node_bytes f ++ xs ≡ node_bytes g ++ ys → (f ≡ g) × (xs ≡ ys)
node_apart n m (constant t) g xs ys p q e =
    let w = same_head (Constant t) g xs ys e in
    let v = first_same _ _ xs ys (e ∙ ap (λ h. node_bytes h ++ ys) w.is) in
    (sym w.is, v.1)
node_apart n m (comparison k op x) g xs ys p q e =
    let w = same_head (Compare op) g _ ys e in
    let b = w.body in
    let r : IsNode m (comparison b.0 op b.1) = subst (IsNode m) w.is q in
    let v = first_same _ _ ((count_bytes k ++ literal_bytes x) ++ xs) ((count_bytes b.0 ++ literal_bytes b.1) ++ ys) (e ∙ ap (λ h. node_bytes h ++ ys) w.is) in
    let u = placed_apart literal_bytes IsLiteral literals_apart k b.0 x b.1 xs ys p.0 r.0 p.1 r.1 v.1 in
    (ap₂ (λ j y. comparison j op y) u.0 u.1 ∙ sym w.is, u.2)
node_apart n m (null_test k) g xs ys p q e =
    let w = same_head IsNull g _ ys e in
    let b = w.body in
    let r : IsNode m (null_test b) = subst (IsNode m) w.is q in
    let v = first_same _ _ (count_bytes k ++ xs) (count_bytes b ++ ys) (e ∙ ap (λ h. node_bytes h ++ ys) w.is) in
    let u = places_apart.apart k b xs ys p r v.1 in
    (ap null_test u.0 ∙ sym w.is, u.1)
node_apart n m (membership k ls) g xs ys p q e =
    let w = same_head In g _ ys e in
    let b = w.body in
    let r : IsNode m (membership b.0 b.1) = subst (IsNode m) w.is q in
    let v = first_same _ _ ((count_bytes k ++ listed literal_bytes ls) ++ xs) ((count_bytes b.0 ++ listed literal_bytes b.1) ++ ys) (e ∙ ap (λ h. node_bytes h ++ ys) w.is) in
    let u = placed_apart (listed literal_bytes) (AreListed IsLiteral) lists_apart k b.0 ls b.1 xs ys p.0 r.0 p.1 r.1 v.1 in
    (ap₂ membership u.0 u.1 ∙ sym w.is, u.2)
node_apart n m (range k x y) g xs ys p q e =
    let w = same_head Between g _ ys e in
    let b = w.body in
    let r : IsNode m (range b.0 b.1.0 b.1.1) = subst (IsNode m) w.is q in
    let v = first_same _ _ ((count_bytes k ++ (literal_bytes x ++ literal_bytes y)) ++ xs) ((count_bytes b.0 ++ (literal_bytes b.1.0 ++ literal_bytes b.1.1)) ++ ys) (e ∙ ap (λ h. node_bytes h ++ ys) w.is) in
    let u = places_apart.apart k b.0 ((literal_bytes x ++ literal_bytes y) ++ xs) ((literal_bytes b.1.0 ++ literal_bytes b.1.1) ++ ys) p.0 r.0
    (sym (append_assoc (count_bytes k) (literal_bytes x ++ literal_bytes y) xs) ∙ v.1 ∙ append_assoc (count_bytes b.0) (literal_bytes b.1.0 ++ literal_bytes b.1.1) ys) in
    let s = literals_apart.apart x b.1.0 (literal_bytes y ++ xs) (literal_bytes b.1.1 ++ ys) p.1.0 r.1.0
    (sym (append_assoc (literal_bytes x) (literal_bytes y) xs) ∙ u.1 ∙ append_assoc (literal_bytes b.1.0) (literal_bytes b.1.1) ys) in
    let t = literals_apart.apart y b.1.1 xs ys p.1.1 r.1.1 s.1 in
    (ap (λ j. range j x y) u.0 ∙ ap₂ (λ c d. range b.0 c d) s.0 t.0 ∙ sym w.is, t.1)
node_apart n m (prefix_test k x) g xs ys p q e =
    let w = same_head StartsWith g _ ys e in
    let b = w.body in
    let r : IsNode m (prefix_test b.0 b.1) = subst (IsNode m) w.is q in
    let v = first_same _ _ ((count_bytes k ++ literal_bytes x) ++ xs) ((count_bytes b.0 ++ literal_bytes b.1) ++ ys) (e ∙ ap (λ h. node_bytes h ++ ys) w.is) in
    let u = placed_apart literal_bytes IsLiteral literals_apart k b.0 x b.1 xs ys p.0 r.0 p.1 r.1 v.1 in
    (ap₂ prefix_test u.0 u.1 ∙ sym w.is, u.2)
node_apart n m (pattern_test k case parts) g xs ys p q e =
    let w = same_head Like g _ ys e in
    let b = w.body in
    let r : IsNode m (pattern_test b.0 b.1.0 b.1.1) = subst (IsNode m) w.is q in
    let v = first_same _ _ ((count_bytes k ++ (case_bytes case ++ listed part_bytes parts)) ++ xs) ((count_bytes b.0 ++ (case_bytes b.1.0 ++ listed part_bytes b.1.1)) ++ ys) (e ∙ ap (λ h. node_bytes h ++ ys) w.is) in
    let u = places_apart.apart k b.0 ((case_bytes case ++ listed part_bytes parts) ++ xs) ((case_bytes b.1.0 ++ listed part_bytes b.1.1) ++ ys) p.0 r.0
    (sym (append_assoc (count_bytes k) (case_bytes case ++ listed part_bytes parts) xs) ∙ v.1 ∙ append_assoc (count_bytes b.0) (case_bytes b.1.0 ++ listed part_bytes b.1.1) ys) in
    let s = cases_apart.apart case b.1.0 (listed part_bytes parts ++ xs) (listed part_bytes b.1.1 ++ ys) p.1.0 r.1.0
    (sym (append_assoc (case_bytes case) (listed part_bytes parts) xs) ∙ u.1 ∙ append_assoc (case_bytes b.1.0) (listed part_bytes b.1.1) ys) in
    let t = patterns_apart.apart parts b.1.1 xs ys p.1.1 r.1.1 s.1 in
    (ap (λ j. pattern_test j case parts) u.0 ∙ ap₂ (λ c d. pattern_test b.0 c d) s.0 t.0 ∙ sym w.is, t.1)
node_apart n m (both f1 f2) g xs ys p q e =
    let w = same_head And g _ ys e in
    let b = w.body in
    let h = of_both n f1 f2 p in
    let r = of_both m b.0 b.1 (subst (IsNode m) w.is q) in
    let v = first_same _ _ ((node_bytes f1 ++ node_bytes f2) ++ xs) ((node_bytes b.0 ++ node_bytes b.1) ++ ys) (e ∙ ap (λ h. node_bytes h ++ ys) w.is) in
    let u = node_apart h.depth r.depth f1 b.0 (node_bytes f2 ++ xs) (node_bytes b.1 ++ ys) h.left r.left (sym (append_assoc (node_bytes f1) (node_bytes f2) xs) ∙ v.1 ∙ append_assoc (node_bytes b.0) (node_bytes b.1) ys) in
    let t = node_apart h.depth r.depth f2 b.1 xs ys h.right r.right u.1 in
    (ap₂ both u.0 t.0 ∙ sym w.is, t.1)
node_apart n m (either f1 f2) g xs ys p q e =
    let w = same_head Or g _ ys e in
    let b = w.body in
    let h = of_either n f1 f2 p in
    let r = of_either m b.0 b.1 (subst (IsNode m) w.is q) in
    let v = first_same _ _ ((node_bytes f1 ++ node_bytes f2) ++ xs) ((node_bytes b.0 ++ node_bytes b.1) ++ ys) (e ∙ ap (λ h. node_bytes h ++ ys) w.is) in
    let u = node_apart h.depth r.depth f1 b.0 (node_bytes f2 ++ xs) (node_bytes b.1 ++ ys) h.left r.left (sym (append_assoc (node_bytes f1) (node_bytes f2) xs) ∙ v.1 ∙ append_assoc (node_bytes b.0) (node_bytes b.1) ys) in
    let t = node_apart h.depth r.depth f2 b.1 xs ys h.right r.right u.1 in
    (ap₂ either u.0 t.0 ∙ sym w.is, t.1)
node_apart n m (negation f1) g xs ys p q e =
    let w = same_head Not g _ ys e in
    let b = w.body in
    let h = of_negation n f1 p in
    let r = of_negation m b (subst (IsNode m) w.is q) in
    let v = first_same _ _ (node_bytes f1 ++ xs) (node_bytes b ++ ys) (e ∙ ap (λ h. node_bytes h ++ ys) w.is) in
    let u = node_apart h.0 r.0 f1 b xs ys h.1 r.1 v.1 in
    (ap negation u.0 ∙ sym w.is, u.1)

pub nodes_apart : (n : ℕ) → AreApart node_bytes (IsNode n)
nodes_apart n = record { apart = λ f g xs ys p q e. node_apart n n f g xs ys p q e }

-- ---- after the first byte

pub comparison_goes_on : (n : ℕ) (op : CompareOperator) → GoesOn (operator_byte op ∷ []) (IsNodeEncoding n) (Then Place Literal)
comparison_goes_on n op =
    head_goes_on (Compare op) n (Then Place Literal) (λ b. count_bytes b.0 ++ literal_bytes b.1) (λ b. refl)
    (λ q r. ((r.is_first.value, r.is_second.value), (r.is_first.is_one, r.is_second.is_one), r.is ∙ ap₂ (λ xs ys. xs ++ ys) r.is_first.is r.is_second.is))
    (λ b h. record { first = count_bytes b.0; second = literal_bytes b.1; is_first = encoding_of count_bytes Fits b.0 h.0; is_second = encoding_of literal_bytes IsLiteral b.1 h.1; is = refl })

pub null_test_goes_on : (n : ℕ) → GoesOn (9 ∷ []) (IsNodeEncoding n) Place
null_test_goes_on n = head_goes_on IsNull n Place (λ b. count_bytes b) (λ b. refl) (λ q r. (r.value, r.is_one, r.is)) (λ b h. encoding_of count_bytes Fits b h)

pub membership_goes_on : (n : ℕ) → GoesOn (10 ∷ []) (IsNodeEncoding n) (Then Place Literals)
membership_goes_on n =
    head_goes_on In n (Then Place Literals) (λ b. count_bytes b.0 ++ listed literal_bytes b.1) (λ b. refl)
    (λ q r. ((r.is_first.value, r.is_second.value), (r.is_first.is_one, r.is_second.is_one), r.is ∙ ap₂ (λ xs ys. xs ++ ys) r.is_first.is r.is_second.is))
    (λ b h. record { first = count_bytes b.0; second = listed literal_bytes b.1; is_first = encoding_of count_bytes Fits b.0 h.0; is_second = encoding_of (listed literal_bytes) (AreListed IsLiteral) b.1 h.1; is = refl })

pub range_goes_on : (n : ℕ) → GoesOn (11 ∷ []) (IsNodeEncoding n) (Then Place (Then Literal Literal))
range_goes_on n =
    head_goes_on Between n (Then Place (Then Literal Literal)) (λ b. count_bytes b.0 ++ (literal_bytes b.1.0 ++ literal_bytes b.1.1)) (λ b. refl)
    (λ q r.
    let ends = r.is_second in (
      (r.is_first.value, (ends.is_first.value, ends.is_second.value)),
      (r.is_first.is_one, (ends.is_first.is_one, ends.is_second.is_one)),
      r.is ∙ ap₂ (λ xs ys. xs ++ ys) r.is_first.is (ends.is ∙ ap₂ (λ xs ys. xs ++ ys) ends.is_first.is ends.is_second.is),
    ))
    (λ b h. record {
      first = count_bytes b.0;
      second = literal_bytes b.1.0 ++ literal_bytes b.1.1;
      is_first = encoding_of count_bytes Fits b.0 h.0;
      is_second = record {
        first = literal_bytes b.1.0;
        second = literal_bytes b.1.1;
        is_first = encoding_of literal_bytes IsLiteral b.1.0 h.1.0;
        is_second = encoding_of literal_bytes IsLiteral b.1.1 h.1.1;
        is = refl;
      };
      is = refl;
    })

pub prefix_goes_on : (n : ℕ) → GoesOn (12 ∷ []) (IsNodeEncoding n) (Then Place Literal)
prefix_goes_on n =
    head_goes_on StartsWith n (Then Place Literal) (λ b. count_bytes b.0 ++ literal_bytes b.1) (λ b. refl)
    (λ q r. ((r.is_first.value, r.is_second.value), (r.is_first.is_one, r.is_second.is_one), r.is ∙ ap₂ (λ xs ys. xs ++ ys) r.is_first.is r.is_second.is))
    (λ b h. record { first = count_bytes b.0; second = literal_bytes b.1; is_first = encoding_of count_bytes Fits b.0 h.0; is_second = encoding_of literal_bytes IsLiteral b.1 h.1; is = refl })

pub like_goes_on : (n : ℕ) → GoesOn (16 ∷ []) (IsNodeEncoding n) (Then Place (Then OneCase OnePattern))
like_goes_on n =
    head_goes_on Like n (Then Place (Then OneCase OnePattern)) (λ b. count_bytes b.0 ++ (case_bytes b.1.0 ++ listed part_bytes b.1.1)) (λ b. refl)
    (λ q r.
    let ends = r.is_second in (
      (r.is_first.value, (ends.is_first.value, ends.is_second.value)),
      (r.is_first.is_one, (ends.is_first.is_one, ends.is_second.is_one)),
      r.is ∙ ap₂ (λ xs ys. xs ++ ys) r.is_first.is (ends.is ∙ ap₂ (λ xs ys. xs ++ ys) ends.is_first.is ends.is_second.is),
    ))
    (λ b h. record {
      first = count_bytes b.0;
      second = case_bytes b.1.0 ++ listed part_bytes b.1.1;
      is_first = encoding_of count_bytes Fits b.0 h.0;
      is_second = record {
        first = case_bytes b.1.0;
        second = listed part_bytes b.1.1;
        is_first = encoding_of case_bytes IsCase b.1.0 h.1.0;
        is_second = encoding_of (listed part_bytes) (AreListed IsPart) b.1.1 h.1.1;
        is = refl;
      };
      is = refl;
    })

pub both_goes_on : (n : ℕ) → GoesOn (13 ∷ []) (IsNodeEncoding (suc n)) (Then (IsNodeEncoding n) (IsNodeEncoding n))
both_goes_on n =
    head_goes_on And (suc n) (Then (IsNodeEncoding n) (IsNodeEncoding n)) (λ b. node_bytes b.0 ++ node_bytes b.1) (λ b. refl)
    (λ q r. ((r.is_first.value, r.is_second.value), (r.is_first.is_one, r.is_second.is_one), r.is ∙ ap₂ (λ xs ys. xs ++ ys) r.is_first.is r.is_second.is))
    (λ b h. record { first = node_bytes b.0; second = node_bytes b.1; is_first = encoding_of node_bytes (IsNode n) b.0 h.0; is_second = encoding_of node_bytes (IsNode n) b.1 h.1; is = refl })

pub either_goes_on : (n : ℕ) → GoesOn (14 ∷ []) (IsNodeEncoding (suc n)) (Then (IsNodeEncoding n) (IsNodeEncoding n))
either_goes_on n =
    head_goes_on Or (suc n) (Then (IsNodeEncoding n) (IsNodeEncoding n)) (λ b. node_bytes b.0 ++ node_bytes b.1) (λ b. refl)
    (λ q r. ((r.is_first.value, r.is_second.value), (r.is_first.is_one, r.is_second.is_one), r.is ∙ ap₂ (λ xs ys. xs ++ ys) r.is_first.is r.is_second.is))
    (λ b h. record { first = node_bytes b.0; second = node_bytes b.1; is_first = encoding_of node_bytes (IsNode n) b.0 h.0; is_second = encoding_of node_bytes (IsNode n) b.1 h.1; is = refl })

pub negation_goes_on : (n : ℕ) → GoesOn (15 ∷ []) (IsNodeEncoding (suc n)) (IsNodeEncoding n)
negation_goes_on n = head_goes_on Not (suc n) (IsNodeEncoding n) (λ b. node_bytes b) (λ b. refl) (λ q r. (r.value, r.is_one, r.is)) (λ b h. encoding_of node_bytes (IsNode n) b h)

-- ---- where a part does not go on

-- the first of two strings is stuck after a beginning, or the second
pub first_stuck : (p : List ℕ) (Is A B : List ℕ → Type 0) (old mid now : List ℕ) → GoesOn p Is (Then A B) → (s : List ℕ) × B s → old ≡ p ++ mid → IsStuck A mid now → IsStuck Is old now
first_stuck p Is A B old mid now go some e stuck = stuck_later p Is (Then A B) old mid now go e (stuck_within A (Then A B) mid now (then_begins A B some) stuck)

pub second_stuck : {X : Type 0} (bytes_of : X → List ℕ) (One : X → Type 0) (p : List ℕ) (Is B : List ℕ → Type 0) (x : X) (old mid here now : List ℕ) → AreApart bytes_of One
    → GoesOn p Is (Then (IsEncodingOf bytes_of One) B) → old ≡ p ++ mid → HasRead bytes_of One x mid here → IsStuck B here now → IsStuck Is old now
second_stuck bytes_of One p Is B x old mid here now law go e h stuck =
    stuck_later p Is (Then (IsEncodingOf bytes_of One) B) old mid now go e
    (stuck_later (bytes_of x) (Then (IsEncodingOf bytes_of One) B) B mid here now (then_goes_on (IsEncodingOf bytes_of One) B (bytes_of x) (alone_of bytes_of One law) (encoding_of bytes_of One x h.is_one)) h.is stuck)

pub some_literal : (s : List ℕ) × Literal s
some_literal = (_, encoding_of literal_bytes IsLiteral _ null_literal)

pub some_literals : (s : List ℕ) × Literals s
some_literals = (_, encoding_of (listed literal_bytes) (AreListed IsLiteral) [] (record { fit = omega arith; each = tt }))

pub some_literal_pair : (s : List ℕ) × Then Literal Literal s
some_literal_pair = (_, record { first = some_literal.0; second = some_literal.0; is_first = some_literal.1; is_second = some_literal.1; is = refl })

pub some_pattern : (s : List ℕ) × OnePattern s
some_pattern = (_, encoding_of (listed part_bytes) (AreListed IsPart) [] (record { fit = omega arith; each = tt }))

pub some_matching : (s : List ℕ) × Then OneCase OnePattern s
some_matching = (_, record { first = case_bytes Sensitive; second = some_pattern.0; is_first = encoding_of case_bytes IsCase Sensitive tt; is_second = some_pattern.1; is = refl })
