-- What begins with the keys of two contents, one without typed children, has one content and one rest.
use Rattle.std.proofs.Common.{◌≡◌, ℕ, List, [], ◌∷◌, ◌++◌, length, Bool, true, false, if◌then◌else◌, Ordering, Less, Equal, Greater, nat_cmp, refl, sym, ap, ◌∙◌, arith, append_assoc}
use Rattle.std.specs.List.{All}
use Rattle.std.specs.Ordering.{ordering_reverse, ordering_then}
use Rattle.std.proofs.lemmas.Bool.Decides.{nat_tests}
use Rattle.std.proofs.lemmas.List.Elements.{All-head, All-tail}
use Rattle.std.proofs.lemmas.Map.Lookups.{exact_bytes, exact_signed}
use Rattle.vortex_value.specs.Equality.{HasNoTyped, HaveNoTyped}
use Rattle.vortex_value.specs.Order.{truth_cmp}
use Rattle.vortex_value.specs.Values.Content.{Content, null, truth, whole, text, string, sequence, tagged, typed, Contents, no_contents, content_then}
use Rattle.vortex_row.specs.Columns.{key_with, column_cmp, row_key}
use Rattle.vortex_row.specs.ContentOrder.{content_cmp, contents_cmp}
use Rattle.vortex_row.specs.Held.{IsHeld}
use Rattle.vortex_row.specs.Keys.{key}
use Rattle.vortex_row.specs.declared.options.SortOptions.{SortOptions}
use Rattle.vortex_row.proofs.ColumnLaws.{column-ordered}
use Rattle.vortex_row.proofs.OrderLaws.{key-ordered}
use Rattle.vortex_row.proofs.PlaceLaws.{ordered-one}

-- contents of which none is below the other are one

then_equal : (o q : Ordering) → ordering_then o q ≡ Equal → (o ≡ Equal) × (q ≡ Equal)
then_equal Less q e = absurd (cc)
then_equal Equal q e = (refl, e)
then_equal Greater q e = absurd (cc)

one_number : (i j : ℕ) → nat_cmp i j ≡ Equal → i ≡ j
one_number i j e = grind (arith, nat_tests)

one_truth : (b c : Bool) → truth_cmp b c ≡ Equal → truth b ≡ truth c
one_truth true true e = refl
one_truth false false e = refl
one_truth true false e = absurd (cc)
one_truth false true e = absurd (cc)

mutual
  cmp-one : (c d : Content) → HasNoTyped c → content_cmp c d ≡ Equal → c ≡ d
  cmp-one null null n e = refl
  cmp-one (truth b) (truth c) n e = one_truth b c e
  cmp-one (whole y) (whole z) n e = ap whole (exact_signed y z e)
  cmp-one (text bs) (text cs) n e = ap text (exact_bytes bs cs e)
  cmp-one (string bs) (string cs) n e = ap string (exact_bytes bs cs e)
  cmp-one (sequence cs) (sequence ds) n e = ap sequence (cmps-one cs ds n e)
  cmp-one (tagged i c) (tagged j d) n e =
      let both = then_equal (nat_cmp i j) (content_cmp c d) e in
      let ids = one_number i j both.0 in
      let child = cmp-one c d n both.1 in
      cc
  cmp-one (typed t c) d n e = absurd n
  cmp-one c d n e = absurd (cc)

  cmps-one : (cs ds : Contents) → HaveNoTyped cs → contents_cmp cs ds ≡ Equal → cs ≡ ds
  cmps-one no_contents no_contents n e = refl
  cmps-one no_contents (content_then d ds) n e = absurd (cc)
  cmps-one (content_then c cs) no_contents n e = absurd (cc)
  cmps-one (content_then c cs) (content_then d ds) n e =
      let both = then_equal (content_cmp c d) (contents_cmp cs ds) e in
      let first = cmp-one c d n.0 both.0 in
      let rest = cmps-one cs ds n.1 both.1 in
      cc

nulls_equal : (b : Bool) (G : Type 0) → (if b then Less else Greater) ≡ Equal → G
nulls_equal true G e = absurd (cc)
nulls_equal false G e = absurd (cc)

others_equal : (b : Bool) (G : Type 0) → (if b then Greater else Less) ≡ Equal → G
others_equal true G e = absurd (cc)
others_equal false G e = absurd (cc)

reverse_equal : (b : Bool) (o : Ordering) → (if b then ordering_reverse o else o) ≡ Equal → o ≡ Equal
reverse_equal false o e = e
reverse_equal true Less e = absurd (cc)
reverse_equal true Equal e = refl
reverse_equal true Greater e = absurd (cc)

column-one : (o : SortOptions) (c d : Content) → HasNoTyped c → column_cmp o c d ≡ Equal → c ≡ d
column-one o null null n e = refl
column-one o null d n e = nulls_equal o.nulls_first _ e
column-one o c null n e = others_equal o.nulls_first _ e
column-one o c d n e = cmp-one c d n (reverse_equal o.descending (content_cmp c d) e)

-- what begins with two keys

pub key-apart : (c d : Content) (xs ys : List ℕ) → HasNoTyped c → IsHeld c → IsHeld d → key c ++ xs ≡ key d ++ ys → (c ≡ d) × (xs ≡ ys)
key-apart c d xs ys n p q e =
    let one = ordered-one (content_cmp c d) (key c) (key d) xs ys (key-ordered c d p q) e in
    (cmp-one c d n one.0, one.1)

pub column-apart : (o : SortOptions) (c d : Content) (xs ys : List ℕ) → HasNoTyped c → IsHeld c → IsHeld d → key_with o c ++ xs ≡ key_with o d ++ ys → (c ≡ d) × (xs ≡ ys)
column-apart o c d xs ys n p q e =
    let one = ordered-one (column_cmp o c d) (key_with o c) (key_with o d) xs ys (column-ordered o c d p q) e in
    (column-one o c d n one.0, one.1)

row_one : (c d : Content) (cs ds : List Content) (xs ys : List ℕ) → c ≡ d → (cs ≡ ds) × (xs ≡ ys) → (c ∷ cs ≡ d ∷ ds) × (xs ≡ ys)
row_one c d cs ds xs ys e p = let q = p.0 in (cc, p.1)

pub row-apart : (os : List SortOptions) (cs ds : List Content) (xs ys : List ℕ) → length cs ≡ length os → length ds ≡ length os
    → All HasNoTyped cs → All IsHeld cs → All IsHeld ds → row_key os cs ++ xs ≡ row_key os ds ++ ys → (cs ≡ ds) × (xs ≡ ys)
row-apart [] [] [] xs ys l m n p q e = (refl, e)
row-apart [] (c ∷ cs) ds xs ys l m n p q e = absurd (omega arith)
row-apart [] [] (d ∷ ds) xs ys l m n p q e = absurd (omega arith)
row-apart (o ∷ os) [] ds xs ys l m n p q e = absurd (omega arith)
row-apart (o ∷ os) (c ∷ cs) [] xs ys l m n p q e = absurd (omega arith)
row-apart (o ∷ os) (c ∷ cs) (d ∷ ds) xs ys l m n p q e =
    let f : key_with o c ++ (row_key os cs ++ xs) ≡ key_with o d ++ (row_key os ds ++ ys) = sym (append_assoc (key_with o c) (row_key os cs) xs) ∙ e ∙ append_assoc (key_with o d) (row_key os ds) ys in
    let first = column-apart o c d (row_key os cs ++ xs) (row_key os ds ++ ys) (All-head HasNoTyped c cs n) (All-head IsHeld c cs p) (All-head IsHeld d ds q) f in
    row_one c d cs ds xs ys first.0
    (row-apart os cs ds xs ys (omega arith) (omega arith) (All-tail HasNoTyped c cs n) (All-tail IsHeld c cs p) (All-tail IsHeld d ds q) first.1)
