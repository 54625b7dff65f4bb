-- The columns of rows, one by one: how many bytes their values have, whether the buffers are long enough, and what is written.
use Rattle.std.proofs.Common.{◌≡◌, ◌&&◌, ◌∙◌, ℕ, ◌+◌, ◌<◌, ◌≤◌, ◌⊎◌, inl, inr, List, length, map, get_or, set, refl, sym, subst, ap, ap₂, arith, Option, Some, Bool, true, false, MatchBool}
use Rattle.std.specs.Global.{Global}
use Rattle.std.specs.List.{All}
use Rattle.std.specs.Prelude.{None, Vec}
use Rattle.std.proofs.lemmas.Bool.{cases_lt}
use Rattle.std.proofs.lemmas.List.{get_or_default, get_or-set_other, get_or-set_same, get_or_read}
use Rattle.std.proofs.lemmas.Option.{same_Some}
use Rattle.arrow_columns.specs.declared.kinds.Kind.{Kind}
use Rattle.column_cells.specs.Types.{type_at, type_of_kind}
use Rattle.vortex_value.specs.Size.{capped}
use Rattle.vortex_value.specs.Validity.{Valid}
use Rattle.vortex_value.specs.Values.Content.{Content, content}
use Rattle.vortex_value.specs.declared.scalars.Scalar.{Scalar}
use Rattle.column_keys.specs.Cells.{raws_in}
use Rattle.column_keys.specs.Layout.{values_length}
use Rattle.column_keys.specs.Read.{AreCountedIn, AreWrittenIn, HasSpace, HaveCounts, HaveSpace, IsWritten, LackSpace}
use Rattle.column_keys.specs.declared.buffers.ColumnBuffers.{ColumnBuffers}

-- a code is of one kind
pub same-kind : (o : Option Kind) (one other : Kind) → o ≡ Some one → o ≡ Some other → one ≡ other
same-kind o one other e f = same_Some one other (sym e ∙ f)

-- the type of a kind that was found
pub of-kind : (o : Option Kind) (kind : Kind) (rows : List (Vec Scalar Global)) (which : ℕ) → o ≡ Some kind → All (Valid (type_at o)) (raws_in rows which) → All (Valid (type_of_kind kind)) (raws_in rows which)
of-kind o kind rows which is all = subst (λ t. All (Valid t) (raws_in rows which)) (ap type_at is) all

-- the same buffers, said to have so many bytes
abbrev with_count : ColumnBuffers → ℕ → ColumnBuffers
with_count c n = record c { count = n }

-- ---- how many bytes

pub counted-none : (found : List (Option Kind)) (rows : List (Vec Scalar Global)) (columns : List ColumnBuffers) → AreCountedIn found rows 0 columns columns
counted-none found rows columns = record { each = λ which d l. absurd (omega (arith, l)); others = λ which d l. refl }

pub counted-next : (found : List (Option Kind)) (rows : List (Vec Scalar Global)) (n count : ℕ) (old columns now : List ColumnBuffers) (kind : Kind) (c : ColumnBuffers) → AreCountedIn found rows n old columns → n < length columns → get_or found n None ≡ Some kind
    → count ≡ capped (values_length kind (map content (raws_in rows n))) → c ≡ get_or columns n c → now ≡ set columns n (record c { count = count }) → AreCountedIn found rows (n + 1) old now
counted-next found rows n count old columns now kind c all l is counted at e = record {
  each = λ which d less. each which d (cases_lt which n) less;
  others = λ which d least. ap (λ xs. get_or xs which d) e ∙ get_or-set_other columns n which (record c { count = count }) d (λ same. omega (arith, same, least)) ∙ all.others which d (omega (arith, least));
}
  where
    is_old : (d : ColumnBuffers) → c ≡ get_or old n d
    is_old d = get_or_read columns n c l at d ∙ all.others n d (omega arith)

    each : (which : ℕ) (d : ColumnBuffers) → (which < n) ⊎ (n ≤ which) → which < n + 1
        → (k : Kind) × (get_or found which None ≡ Some k) × (get_or now which d ≡ record (get_or old which d) { count = capped (values_length k (map content (raws_in rows which))) })
    each which d (inl before) less =
        let one = all.each which d before in
        (one.0, one.1, ap (λ xs. get_or xs which d) e ∙ get_or-set_other columns n which (record c { count = count }) d (λ same. omega (arith, same, before)) ∙ one.2)
    each which d (inr after) less =
        let here : n ≡ which = omega (arith, after, less) in
        subst (λ w. (k : Kind) × (get_or found w None ≡ Some k) × (get_or now w d ≡ record (get_or old w d) { count = capped (values_length k (map content (raws_in rows w))) })) here (
          kind,
          is,
          ap (λ xs. get_or xs n d) e ∙ get_or-set_same columns n (record c { count = count }) d l ∙ ap₂ (λ (x : ColumnBuffers) (m : ℕ). with_count x m) (is_old d) counted,
        )

-- one column more, as it is read out of the slice
pub counted-after : (found : List (Option Kind)) (rows : List (Vec Scalar Global)) (n : ℕ) (old columns : List ColumnBuffers) (kind : Kind) (d one : ColumnBuffers) → AreCountedIn found rows n old columns → n < length columns → get_or found n None ≡ Some kind
    → one ≡ record (get_or columns n d) { count = capped (values_length kind (map content (raws_in rows n))) } → AreCountedIn found rows (n + 1) old (set columns n one)
counted-after found rows n old columns kind d one all l is e =
    counted-next found rows n (capped (values_length kind (map content (raws_in rows n)))) old columns (set columns n one) kind (get_or columns n d) all l is refl (get_or_default columns n d (get_or columns n d) l) (ap (set columns n) e)

-- the buffers of the columns so far are long enough, or those of one of them are not
abbrev pub TellsSpace : Bool → List (Option Kind) → List (Vec Scalar Global) → ℕ → List ColumnBuffers → Type 0
TellsSpace b found rows n columns = MatchBool b (HaveSpace found rows n columns) (LackSpace found rows n columns)

pub space-none : (found : List (Option Kind)) (rows : List (Vec Scalar Global)) (columns : List ColumnBuffers) → HaveSpace found rows 0 columns
space-none found rows columns which d kind l is = absurd (omega (arith, l))

-- what one column more is does not change those before
kept-before : (n which : ℕ) (columns now : List ColumnBuffers) (one d : ColumnBuffers) → now ≡ set columns n one → which < n → get_or now which d ≡ get_or columns which d
kept-before n which columns now one d e l = ap (λ xs. get_or xs which d) e ∙ get_or-set_other columns n which one d (λ same. omega (arith, same, l))

pub space-next : (found : List (Option Kind)) (rows : List (Vec Scalar Global)) (n : ℕ) (columns now : List ColumnBuffers) (kind : Kind) (one : ColumnBuffers) → n < length columns → now ≡ set columns n one → get_or found n None ≡ Some kind → HasSpace kind (length rows) one
    → HaveSpace found rows n columns → HaveSpace found rows (n + 1) now
space-next found rows n columns now kind one l e is has all which d k less same = by_place (cases_lt which n)
  where
    by_place : (which < n) ⊎ (n ≤ which) → HasSpace k (length rows) (get_or now which d)
    by_place (inl before) = subst (HasSpace k (length rows)) (sym (kept-before n which columns now one d e before)) (all which d k before same)
    by_place (inr after) =
        let here : which ≡ n = omega (arith, after, less) in
        let there : get_or now n d ≡ one = ap (λ xs. get_or xs n d) e ∙ get_or-set_same columns n one d l in
        let of : kind ≡ k = same-kind (get_or found n None) kind k is (subst (λ w. get_or found w None ≡ Some k) here same) in
        subst (λ w. HasSpace k (length rows) (get_or now w d)) (sym here) (subst (λ x. HasSpace x (length rows) (get_or now n d)) of (subst (HasSpace kind (length rows)) (sym there) has))

pub lack-kept : (found : List (Option Kind)) (rows : List (Vec Scalar Global)) (n : ℕ) (columns now : List ColumnBuffers) (one : ColumnBuffers) → now ≡ set columns n one → LackSpace found rows n columns → LackSpace found rows (n + 1) now
lack-kept found rows n columns now one e lack = record {
  which = lack.which;
  within = omega (arith, lack.within);
  kind = lack.kind;
  is = lack.is;
  lacks = λ d. subst (λ c. ¬ (HasSpace lack.kind (length rows) c)) (sym (kept-before n lack.which columns now one d e lack.within)) (lack.lacks d);
}

pub lack-next : (found : List (Option Kind)) (rows : List (Vec Scalar Global)) (n : ℕ) (columns now : List ColumnBuffers) (kind : Kind) (one : ColumnBuffers) → n < length columns → now ≡ set columns n one → get_or found n None ≡ Some kind → ¬ (HasSpace kind (length rows) one)
    → LackSpace found rows (n + 1) now
lack-next found rows n columns now kind one l e is lacks = record {
  which = n;
  within = omega arith;
  kind = kind;
  is = is;
  lacks = λ d. subst (λ c. ¬ (HasSpace kind (length rows) c)) (sym (ap (λ xs. get_or xs n d) e ∙ get_or-set_same columns n one d l)) lacks;
}

-- one column more
pub tells-next : (found : List (Option Kind)) (rows : List (Vec Scalar Global)) (n : ℕ) (columns now : List ColumnBuffers) (kind : Kind) (one : ColumnBuffers) (fits b : Bool) → n < length columns → now ≡ set columns n one → get_or found n None ≡ Some kind
    → MatchBool fits (HasSpace kind (length rows) one) (¬ (HasSpace kind (length rows) one)) → TellsSpace b found rows n columns → TellsSpace (b && fits) found rows (n + 1) now
tells-next found rows n columns now kind one true true l e is has all = space-next found rows n columns now kind one l e is has all
tells-next found rows n columns now kind one false true l e is lacks all = lack-next found rows n columns now kind one l e is lacks
tells-next found rows n columns now kind one true false l e is has lack = lack-kept found rows n columns now one e lack
tells-next found rows n columns now kind one false false l e is lacks lack = lack-kept found rows n columns now one e lack

-- once the buffers of each are long enough, the counts are the numbers of bytes
pub counts-there : (found : List (Option Kind)) (rows : List (Vec Scalar Global)) (old now : List ColumnBuffers) → AreCountedIn found rows (length found) old now → HaveSpace found rows (length found) now → HaveCounts found rows now
counts-there found rows old now counted space which d kind l is =
    let one = counted.each which d l in
    let same : one.0 ≡ kind = same-kind (get_or found which None) one.0 kind one.1 is in
    let said : (get_or now which d).count ≡ capped (values_length kind (map content (raws_in rows which))) = ap (λ (c : ColumnBuffers). c.count) one.2 ∙ ap (λ k. capped (values_length k (map content (raws_in rows which)))) same in
    let few = (space which d kind l is).counted in
    omega (arith, said, few)

-- ---- what is written

pub written-none : (found : List (Option Kind)) (rows : List (Vec Scalar Global)) (columns : List ColumnBuffers) → AreWrittenIn found rows 0 columns columns
written-none found rows columns = record { each = λ which d l. absurd (omega (arith, l)); others = λ which d l. refl }

pub written-next : (found : List (Option Kind)) (rows : List (Vec Scalar Global)) (n : ℕ) (old columns now : List ColumnBuffers) (kind : Kind) (c one : ColumnBuffers) → AreWrittenIn found rows n old columns → n < length columns → get_or found n None ≡ Some kind
    → c ≡ get_or columns n c → IsWritten kind (map content (raws_in rows n)) c one → now ≡ set columns n one → AreWrittenIn found rows (n + 1) old now
written-next found rows n old columns now kind c one all l is at written e = record {
  each = λ which d less. each which d (cases_lt which n) less;
  others = λ which d least. ap (λ xs. get_or xs which d) e ∙ get_or-set_other columns n which one d (λ same. omega (arith, same, least)) ∙ all.others which d (omega (arith, least));
}
  where
    each : (which : ℕ) (d : ColumnBuffers) → (which < n) ⊎ (n ≤ which) → which < n + 1
        → (k : Kind) × (get_or found which None ≡ Some k) × IsWritten k (map content (raws_in rows which)) (get_or old which d) (get_or now which d)
    each which d (inl before) less =
        let it = all.each which d before in
        (it.0, it.1, subst (IsWritten it.0 (map content (raws_in rows which)) (get_or old which d)) (sym (kept-before n which columns now one d e before)) it.2)
    each which d (inr after) less =
        let here : n ≡ which = omega (arith, after, less) in
        let was : c ≡ get_or old n d = get_or_read columns n c l at d ∙ all.others n d (omega arith) in
        let there : get_or now n d ≡ one = ap (λ xs. get_or xs n d) e ∙ get_or-set_same columns n one d l in
        subst (λ w. (k : Kind) × (get_or found w None ≡ Some k) × IsWritten k (map content (raws_in rows w)) (get_or old w d) (get_or now w d)) here
        (kind, is, subst (IsWritten kind (map content (raws_in rows n)) (get_or old n d)) (sym there) (subst (λ x. IsWritten kind (map content (raws_in rows n)) x one) was written))

-- one column more, as it is read out of the slice
pub written-after : (found : List (Option Kind)) (rows : List (Vec Scalar Global)) (n : ℕ) (old columns : List ColumnBuffers) (kind : Kind) (d one : ColumnBuffers) → AreWrittenIn found rows n old columns → n < length columns → get_or found n None ≡ Some kind
    → IsWritten kind (map content (raws_in rows n)) (get_or columns n d) one → AreWrittenIn found rows (n + 1) old (set columns n one)
written-after found rows n old columns kind d one all l is written =
    written-next found rows n old columns (set columns n one) kind (get_or columns n d) one all l is (get_or_default columns n d (get_or columns n d) l) written refl

-- the buffers of the next column are as they were
pub space-there : (found : List (Option Kind)) (rows : List (Vec Scalar Global)) (n : ℕ) (old columns : List ColumnBuffers) (kind : Kind) (d : ColumnBuffers) → HaveSpace found rows (length found) old → AreWrittenIn found rows n old columns → n < length found
    → get_or found n None ≡ Some kind → HasSpace kind (length rows) (get_or columns n d)
space-there found rows n old columns kind d space all l is = subst (HasSpace kind (length rows)) (sym (all.others n d (omega arith))) (space n d kind l is)

-- the count that was written between does not matter
pub written-before : (kind : Kind) (cells : List Content) (count : ℕ) (old between new : ColumnBuffers) → between ≡ record old { count = count } → IsWritten kind cells between new → IsWritten kind cells old new
written-before kind cells count old between new e h =
    let it : IsWritten kind cells (record old { count = count }) new = subst (λ x. IsWritten kind cells x new) e h in
    record {
      counted = it.counted;
      column = it.column;
      bits = it.bits;
      items = it.items;
      places = it.places;
      rest_bits = it.rest_bits;
      rest_items = it.rest_items;
      rest_places = it.rest_places;
      same = it.same;
    }
