-- What the bounds of a zone say of the strings between them that match a pattern.
use Rattle.std.proofs.Common.{◌≡◌, ◌⊎◌, inl, inr, ℕ, Bool, true, false, not, ◌&&◌, cond, eqb, List, [], ◌∷◌, ◌++◌, length, take, Option, Some, None, IfSome, is_some, Ordering, Less, Equal, Greater, refl, sym, ap, ap₂, subst, ◌∙◌}
use Rattle.std.proofs.Math.Seq.{take-append_seam}
use Rattle.std.proofs.lemmas.Bool.{and_parts, eq-eqb, eqb-true, false≢true}
use Rattle.std.proofs.lemmas.Map.Lookups.{exact_bytes}
use Rattle.std.proofs.lemmas.Str.{IsUtf8-from_is_utf8, chars-encodes, encodes-append, encodes-chars, is_utf8-from_IsUtf8, scalars-chars}
use Rattle.std.specs.Cmp.Lexicographic.{slice_cmp, nat_list_cmp_total}
use Rattle.std.specs.Ordering.{is_eq, is_gt, is_lt, is_some_and, nat_cmp, ordering_reverse}
use Rattle.std.specs.Str.{IsUtf8, all_scalars, chars, encode_utf8_all, is_utf8}
use Rattle.like_patterns.specs.declared.case.Case.{Case}
use Rattle.like_patterns.specs.declared.case.Case.TheVariants.{Sensitive, Insensitive}
use Rattle.like_patterns.specs.Patterns.{Part, literal, any_character, any_string, leading, matches}
use Rattle.like_patterns.specs.Pieces.{literals}
use Rattle.vortex_dtype.specs.Parts.{is_utf8_type}
use Rattle.vortex_dtype.specs.TypeTree.{TypeTree, Same, erase, utf8_type}
use Rattle.vortex_value.specs.Equality.{same_type}
use Rattle.vortex_value.specs.Lemmas.EqualityLaws.{same_type-Decides}
use Rattle.vortex_value.specs.Order.{order}
use Rattle.vortex_value.specs.Values.Content.{Content, null, text}
use Rattle.vortex_cells.specs.Cells.{Cell, IsUpTo, cell_order, is_null_cell, is_null_content, order_from_above}
use Rattle.vortex_cells.proofs.CellLaws.{IsOrder}
use Rattle.vortex_statistics.specs.Statistics.{Known, KnownBound, may_be_null, may_be_value}
use Rattle.vortex_filter.specs.declared.truth.Truth.{Truth}
use Rattle.vortex_filter.specs.declared.truth.Truth.TheVariants.{False, Unknown, True}
use Rattle.vortex_filter.specs.PatternTests.{are_like, match_truth, pattern_truth}
use Rattle.vortex_filter.specs.Truths.{truth_of}
use Rattle.filter_pruning.specs.Exactness.{Admits, IsWithin}
use Rattle.filter_pruning.specs.Orders.{is_plain, rules_out}
use Rattle.filter_pruning.specs.OutcomeSets.{allows, any}
use Rattle.filter_pruning.specs.PatternOutcomes.{bound_front_order, cell_front_order, compared_bytes, content_front_order, front, has_no_wildcard, is_exact, is_whole, pattern_outcomes}
use Rattle.filter_pruning.proofs.Bounds.{reached_from, reached_to}
use Rattle.filter_pruning.proofs.Plain.{plain_value, typed_parts, typed_whole}
use Rattle.filter_pruning.proofs.PrefixLaws.{beginnings_up, none_is_some, not_gt, not_lt, reverse_of_up, some_same, up_greater}
use Rattle.filter_pruning.proofs.Tests.{and_true, none_or_some, not_both, or_left, or_none, or_right}

-- ---- patterns and characters

-- what matches begins with what stands before the first wildcard
begins : (parts : List Part) (cs : List ℕ) → matches parts cs ≡ true → (rest : List ℕ) × (cs ≡ leading parts ++ rest)
unfolding matches
begins [] cs met = (cs, refl)
begins (literal d ∷ parts) [] met = absurd (false≢true met)
begins (literal d ∷ parts) (c ∷ cs) met =
    let both = and_parts (eqb c d) (matches parts cs) met in
    let more = begins parts cs both.1 in
    (more.0, ap (λ (n : ℕ). n ∷ cs) (eqb-true c d both.0) ∙ ap (λ (l : List ℕ). d ∷ l) more.1)
begins (any_character ∷ parts) cs met = (cs, refl)
begins (any_string ∷ parts) cs met = (cs, refl)

-- and is that, if there is no wildcard
whole_is : (parts : List Part) (cs : List ℕ) → has_no_wildcard parts ≡ true → matches parts cs ≡ true → cs ≡ leading parts
unfolding matches
whole_is [] [] w met = refl
whole_is [] (c ∷ cs) w met = absurd (false≢true met)
whole_is (literal d ∷ parts) [] w met = absurd (false≢true met)
whole_is (literal d ∷ parts) (c ∷ cs) w met =
    let both = and_parts (eqb c d) (matches parts cs) met in
    ap (λ (n : ℕ). n ∷ cs) (eqb-true c d both.0) ∙ ap (λ (l : List ℕ). d ∷ l) (whole_is parts cs w both.1)
whole_is (any_character ∷ parts) cs w met = absurd (false≢true w)
whole_is (any_string ∷ parts) cs w met = absurd (false≢true w)

whole_matches : (parts : List Part) → has_no_wildcard parts ≡ true → matches parts (leading parts) ≡ true
unfolding matches
whole_matches [] w = refl
whole_matches (literal d ∷ parts) w = and_true (eqb d d) (matches parts (leading parts)) (eq-eqb d d refl) (whole_matches parts w)
whole_matches (any_character ∷ parts) w = absurd (false≢true w)
whole_matches (any_string ∷ parts) w = absurd (false≢true w)

-- ---- patterns and bytes

sensitive_begins : (parts : List Part) (bs : List ℕ) (b : Bool) → is_exact parts ≡ b → matches parts (chars bs) ≡ true → encode_utf8_all (chars bs) ≡ bs
    → compared_bytes b (encode_utf8_all (leading parts)) bs ≡ encode_utf8_all (leading parts)
sensitive_begins parts bs true e met spelled =
    sym spelled ∙ ap encode_utf8_all (whole_is parts (chars bs) (and_parts (has_no_wildcard parts) (all_scalars (leading parts)) e).0 met)
sensitive_begins parts bs false e met spelled =
    let more = begins parts (chars bs) met in
    ap (take (length (encode_utf8_all (leading parts)))) (sym spelled ∙ ap encode_utf8_all more.1 ∙ encodes-append (leading parts) more.0)
    ∙ take-append_seam (encode_utf8_all (leading parts)) (encode_utf8_all more.0)

-- what matches begins with the front
front_begins : (case : Case) (parts : List Part) (bs : List ℕ) → are_like case parts bs ≡ true → compared_bytes (is_whole case parts) (front case parts) bs ≡ front case parts
front_begins Sensitive parts bs h =
    let both = and_parts (is_utf8 bs) (matches parts (chars bs)) h in
    sensitive_begins parts bs (is_exact parts) refl both.1 (encodes-chars bs (IsUtf8-from_is_utf8 bs both.0))
front_begins Insensitive parts bs h = refl

-- the front matches, if it is the whole pattern
whole_like : (case : Case) (parts : List Part) → is_whole case parts ≡ true → are_like case parts (front case parts) ≡ true
whole_like Sensitive parts w =
    let both = and_parts (has_no_wildcard parts) (all_scalars (leading parts)) w in
    and_true (is_utf8 (encode_utf8_all (leading parts))) (matches parts (chars (encode_utf8_all (leading parts))))
    (is_utf8-from_IsUtf8 (encode_utf8_all (leading parts)) (leading parts, (both.1, refl)))
    (ap (matches parts) (chars-encodes (leading parts) both.1) ∙ whole_matches parts both.0)
whole_like Insensitive parts w = absurd (false≢true w)

-- ---- a pattern that is one string

literals_fixed : (cs : List ℕ) → has_no_wildcard (literals cs) ≡ true
literals_fixed [] = refl
literals_fixed (c ∷ cs) = literals_fixed cs

leading-literals : (cs : List ℕ) → leading (literals cs) ≡ cs
leading-literals [] = refl
leading-literals (c ∷ cs) = ap (λ (l : List ℕ). c ∷ l) (leading-literals cs)

fixed_literals : (parts : List Part) → has_no_wildcard parts ≡ true → parts ≡ literals (leading parts)
fixed_literals [] w = refl
fixed_literals (literal c ∷ parts) w = ap (λ (l : List Part). literal c ∷ l) (fixed_literals parts w)
fixed_literals (any_character ∷ parts) w = absurd (false≢true w)
fixed_literals (any_string ∷ parts) w = absurd (false≢true w)

pub one_string : (parts : List Part) (bs : List ℕ) → IsUtf8 bs → parts ≡ literals (chars bs) → is_exact parts ≡ true
one_string parts bs utf8 e =
    ap is_exact e ∙ and_true (has_no_wildcard (literals (chars bs))) (all_scalars (leading (literals (chars bs)))) (literals_fixed (chars bs))
    (ap all_scalars (leading-literals (chars bs)) ∙ scalars-chars bs utf8)

pub no_one_string : (parts : List Part) → ¬ ((cs : List ℕ) × (parts ≡ literals cs)) → is_exact parts ≡ false
no_one_string parts h = not_both (has_no_wildcard parts) (all_scalars (leading parts)) (λ w s. h (leading parts, fixed_literals parts w))

pub ruleset exactly = (one_string, no_one_string)

-- ---- bytes in order

abbrev IsUp : Ordering → Type 0
IsUp o = (o ≡ Less) ⊎ (o ≡ Equal)

compared_up : (w : Bool) (p xs ys : List ℕ) → IsUp (slice_cmp nat_cmp xs ys) → IsUp (slice_cmp nat_cmp (compared_bytes w p xs) (compared_bytes w p ys))
compared_up true p xs ys h = h
compared_up false p xs ys h = beginnings_up (length p) xs ys h

-- what begins with the front is not above what the front is below
not_below : (w : Bool) (p ls bs : List ℕ) → IsUp (slice_cmp nat_cmp ls bs) → compared_bytes w p bs ≡ p → is_lt (slice_cmp nat_cmp p (compared_bytes w p ls)) ≡ false
not_below w p ls bs h e =
    let up : IsUp (slice_cmp nat_cmp (compared_bytes w p ls) p) = subst (λ l. IsUp (slice_cmp nat_cmp (compared_bytes w p ls) l)) e (compared_up w p ls bs h) in
    not_lt _ (reverse_of_up (slice_cmp nat_cmp (compared_bytes w p ls) p) _ (nat_list_cmp_total.antisymm p (compared_bytes w p ls)) up)

not_above : (w : Bool) (p us bs : List ℕ) → IsUp (slice_cmp nat_cmp bs us) → compared_bytes w p bs ≡ p → is_gt (slice_cmp nat_cmp p (compared_bytes w p us)) ≡ false
not_above w p us bs h e = not_gt _ (subst (λ l. IsUp (slice_cmp nat_cmp l (compared_bytes w p us))) e (compared_up w p bs us h))

same_between : (p bs : List ℕ) → IsUp (slice_cmp nat_cmp p bs) → IsUp (slice_cmp nat_cmp bs p) → p ≡ bs
same_between p bs (inr h) k = exact_bytes p bs h
same_between p bs (inl h) k = up_greater (subst IsUp (nat_list_cmp_total.antisymm bs p ∙ ap ordering_reverse h) k)

-- ---- cells that are strings

abbrev is_text : Content → Bool
is_text (text bs) = true
is_text _ = false

text_bytes : (c : Content) → is_text c ≡ true → (bs : List ℕ) × (c ≡ text bs)
text_bytes (text bs) h = (bs, refl)
text_bytes _ h = absurd (false≢true h)

-- what compares with a string, and is no null, is one
text_right : (c d : Content) → is_text c ≡ true → is_null_content d ≡ false → is_some (order c d) ≡ true → is_text d ≡ true
text_right (text bs) null k f h = absurd (false≢true (sym f))
text_right (text bs) (text cs) k f h = refl
text_right (text bs) _ k f h = absurd (false≢true h)
text_right _ d k f h = absurd (false≢true k)

text_left : (c d : Content) → is_text d ≡ true → is_null_content c ≡ false → is_some (order c d) ≡ true → is_text c ≡ true
text_left null (text cs) k f h = absurd (false≢true (sym f))
text_left (text bs) (text cs) k f h = refl
text_left _ (text cs) k f h = absurd (false≢true h)
text_left c _ k f h = absurd (false≢true k)

erased_utf8 : (t : TypeTree) → is_utf8_type (erase t) ≡ is_utf8_type t
erased_utf8 (utf8_type n) = refl
erased_utf8 _ = refl

same_utf8 : (s t : TypeTree) → same_type s t ≡ true → is_utf8_type s ≡ is_utf8_type t
same_utf8 s t h = let e : Same s t = (same_type-Decides s t).0 h in sym (erased_utf8 s) ∙ ap is_utf8_type e ∙ erased_utf8 t

abbrev is_string : Cell → Bool
is_string x = is_utf8_type x.typed && is_text x.content

record IsString (x : Cell) : Type 0 where
  bytes : List ℕ
  typed : is_utf8_type x.typed ≡ true
  content : x.content ≡ text bytes

string_of : (x : Cell) → is_string x ≡ true → IsString x
string_of x h =
    let both = and_parts (is_utf8_type x.typed) (is_text x.content) h in
    let spelled = text_bytes x.content both.1 in
    record { bytes = spelled.0; typed = both.0; content = spelled.1 }

pattern_of_string : (case : Case) (parts : List Part) (x : Cell) (s : IsString x) → pattern_truth case parts x ≡ truth_of (are_like case parts s.bytes)
pattern_of_string case parts x s = ap (λ b. cond b (match_truth case parts x.content) Unknown) s.typed ∙ ap (match_truth case parts) s.content

no_text_unknown : (case : Case) (parts : List Part) (c : Content) → is_text c ≡ false → match_truth case parts c ≡ Unknown
no_text_unknown case parts (text bs) h = absurd (false≢true (sym h))
no_text_unknown case parts _ h = refl

no_string_unknown : (case : Case) (parts : List Part) (x : Cell) → is_string x ≡ false → pattern_truth case parts x ≡ Unknown
no_string_unknown case parts x h = by_type (is_utf8_type x.typed) h
  where
    by_type : (b : Bool) → (b && is_text x.content) ≡ false → cond b (match_truth case parts x.content) Unknown ≡ Unknown
    by_type true e = no_text_unknown case parts x.content e
    by_type false e = refl

null_no_text : (c : Content) → is_null_content c ≡ true → is_text c ≡ false
null_no_text (text bs) h = absurd (false≢true h)
null_no_text _ h = refl

null_no_string : (x : Cell) → is_null_cell x ≡ true → is_string x ≡ false
null_no_string x h = not_both (is_utf8_type x.typed) (is_text x.content) (λ t c. false≢true (sym (null_no_text x.content h) ∙ c))

-- ---- bounds that are strings

cond_some : {A : Type 0} (b : Bool) (o : Option A) (a : A) → cond b o None ≡ Some a → (b ≡ true) × (o ≡ Some a)
cond_some true o a e = (refl, e)
cond_some false o a e = let clash : None ≡ Some a = e in cc

-- the front stands so to a string
record StandsSo (w : Bool) (p : List ℕ) (b : Cell) (a : Ordering) : Type 0 where
  bytes : List ℕ
  typed : is_utf8_type b.typed ≡ true
  content : b.content ≡ text bytes
  is : a ≡ slice_cmp nat_cmp p (compared_bytes w p bytes)

content_stands : (w : Bool) (p : List ℕ) (c : Content) (a : Ordering) → content_front_order w p c ≡ Some a
    → (bs : List ℕ) × (c ≡ text bs) × (a ≡ slice_cmp nat_cmp p (compared_bytes w p bs))
content_stands w p (text bs) a e = (bs, refl, some_same _ _ (sym e))
content_stands w p _ a e = none_is_some a e

stands_so : (w : Bool) (p : List ℕ) (b : Cell) (a : Ordering) → cell_front_order w p b ≡ Some a → StandsSo w p b a
stands_so w p b a e =
    let parts = cond_some (is_utf8_type b.typed) (content_front_order w p b.content) a e in
    let k = content_stands w p b.content a parts.1 in
    record { bytes = k.0; typed = parts.0; content = k.1; is = k.2 }

text_stands : (w : Bool) (p : List ℕ) (c : Content) → is_text c ≡ true → is_some (content_front_order w p c) ≡ true
text_stands w p (text bs) h = refl
text_stands w p _ h = absurd (false≢true h)

-- two strings in order, by their bytes
ordered_bytes : (b x : Cell) (ls bs : List ℕ) (o : Ordering) → b.content ≡ text ls → x.content ≡ text bs → cell_order b x ≡ Some o → slice_cmp nat_cmp ls bs ≡ o
ordered_bytes b x ls bs o h k e =
    some_same _ _ (sym (ap₂ order h k) ∙ (cond_some (same_type b.typed x.typed) (order b.content x.content) o e).1)

up_bytes : (b x : Cell) (ls bs : List ℕ) → b.content ≡ text ls → x.content ≡ text bs → IsUpTo cell_order b x → IsUp (slice_cmp nat_cmp ls bs)
up_bytes b x ls bs h k (inl e) = inl (ordered_bytes b x ls bs Less h k e)
up_bytes b x ls bs h k (inr e) = inr (ordered_bytes b x ls bs Equal h k e)

-- ---- what the bounds say of a value that is no string

abbrev Reach : Option KnownBound → Cell → Type 0
Reach bound x = IfSome bound (λ b. is_some (cell_order b.value x) ≡ true)

string_reached : (b x : Cell) → is_utf8_type b.typed ≡ true → is_text b.content ≡ true → is_null_cell x ≡ false → is_some (cell_order b x) ≡ true → is_string x ≡ true
string_reached b x t c f h =
    let parts = typed_parts (same_type b.typed x.typed) (order b.content x.content) h in
    and_true (is_utf8_type x.typed) (is_text x.content) (sym (same_utf8 b.typed x.typed parts.0) ∙ t) (text_right b.content x.content c f parts.1)

silent : (w : Bool) (p : List ℕ) (bound : Option KnownBound) (x : Cell) → is_null_cell x ≡ false → is_string x ≡ false → Reach bound x → is_some (bound_front_order w p bound) ≡ false
silent w p None x f n h = refl
silent w p (Some b) x f n h = by_order (cell_front_order w p b.value) (stands_so w p b.value)
  where
    by_order : (o : Option Ordering) → ((a : Ordering) → o ≡ Some a → StandsSo w p b.value a) → is_some o ≡ false
    by_order None said = refl
    by_order (Some a) said =
        let k = said a refl in
        absurd (false≢true (sym n ∙ string_reached b.value x k.typed (ap is_text k.content) f h))

-- ---- what they say of a string

-- a bound without parts that a string compares with is one
kept_open : (w : Bool) (p : List ℕ) (bound : Option KnownBound) (x : Cell) → IsString x → Reach bound x → rules_out bound (bound_front_order w p bound) ≡ false
kept_open w p None x s h = refl
kept_open w p (Some b) x s h = not_both _ _ (λ n q. none_or_some _ n (stands q))
  where
    stands : is_plain b.value ≡ true → is_some (cell_front_order w p b.value) ≡ true
    stands q =
        let parts = typed_parts (same_type b.value.typed x.typed) (order b.value.content x.content) h in
        typed_whole (is_utf8_type b.value.typed) (content_front_order w p b.value.content) (same_utf8 b.value.typed x.typed parts.0 ∙ s.typed)
        (text_stands w p b.value.content (text_left b.value.content x.content (ap is_text s.content) (plain_value b.value q) parts.1))

lower_open : (w : Bool) (p : List ℕ) (lower : Option KnownBound) (x : Cell) (s : IsString x) → IfSome lower (λ b. IsUpTo cell_order b.value x) → compared_bytes w p s.bytes ≡ p
    → is_some_and is_lt (bound_front_order w p lower) ≡ false
lower_open w p None x s h e = refl
lower_open w p (Some b) x s h e = by_order (cell_front_order w p b.value) (stands_so w p b.value)
  where
    by_order : (o : Option Ordering) → ((a : Ordering) → o ≡ Some a → StandsSo w p b.value a) → is_some_and is_lt o ≡ false
    by_order None said = refl
    by_order (Some a) said =
        let k = said a refl in
        ap is_lt k.is ∙ not_below w p k.bytes s.bytes (up_bytes b.value x k.bytes s.bytes k.content s.content h) e

upper_open : (w : Bool) (p : List ℕ) (upper : Option KnownBound) (x : Cell) (s : IsString x) → IfSome upper (λ b. IsUpTo order_from_above b.value x) → compared_bytes w p s.bytes ≡ p
    → is_some_and is_gt (bound_front_order w p upper) ≡ false
upper_open w p None x s h e = refl
upper_open w p (Some b) x s h e = by_order (cell_front_order w p b.value) (stands_so w p b.value)
  where
    by_order : (o : Option Ordering) → ((a : Ordering) → o ≡ Some a → StandsSo w p b.value a) → is_some_and is_gt o ≡ false
    by_order None said = refl
    by_order (Some a) said =
        let k = said a refl in
        ap is_gt k.is ∙ not_above w p k.bytes s.bytes (up_bytes x b.value s.bytes k.bytes s.content k.content h) e

-- the bound that is the whole pattern
whole_bound : (w : Bool) (p : List ℕ) (b : Cell) → w ≡ true → is_some_and is_eq (cell_front_order w p b) ≡ true → b.content ≡ text p
whole_bound w p b e h = by_order (cell_front_order w p b) (stands_so w p b) h
  where
    by_order : (o : Option Ordering) → ((a : Ordering) → o ≡ Some a → StandsSo w p b a) → is_some_and is_eq o ≡ true → b.content ≡ text p
    by_order None said g = absurd (false≢true g)
    by_order (Some Less) said g = absurd (false≢true g)
    by_order (Some Greater) said g = absurd (false≢true g)
    by_order (Some Equal) said g =
        let k = said Equal refl in
        let whole : slice_cmp nat_cmp p k.bytes ≡ Equal = ap (λ c. slice_cmp nat_cmp p (compared_bytes c p k.bytes)) (sym e) ∙ sym k.is in
        k.content ∙ ap text (sym (exact_bytes p k.bytes whole))

whole_lower : (w : Bool) (p : List ℕ) (lower : Option KnownBound) (x : Cell) (s : IsString x) → w ≡ true → IfSome lower (λ b. IsUpTo cell_order b.value x)
    → is_some_and is_eq (bound_front_order w p lower) ≡ true → IsUp (slice_cmp nat_cmp p s.bytes)
whole_lower w p None x s e h g = absurd (false≢true g)
whole_lower w p (Some b) x s e h g = up_bytes b.value x p s.bytes (whole_bound w p b.value e g) s.content h

whole_upper : (w : Bool) (p : List ℕ) (upper : Option KnownBound) (x : Cell) (s : IsString x) → w ≡ true → IfSome upper (λ b. IsUpTo order_from_above b.value x)
    → is_some_and is_eq (bound_front_order w p upper) ≡ true → IsUp (slice_cmp nat_cmp s.bytes p)
whole_upper w p None x s e h g = absurd (false≢true g)
whole_upper w p (Some b) x s e h g = up_bytes x b.value s.bytes p s.content (whole_bound w p b.value e g) h

-- ---- outcomes

any_allows_truth : (t : Truth) → allows any t ≡ true
any_allows_truth False = refl
any_allows_truth Unknown = refl
any_allows_truth True = refl

module _ (law : IsOrder cell_order) (case : Case) (parts : List Part) where
  string_allowed : (s : Known) (x : Cell) (t : IsString x) → may_be_value s ≡ true → IsWithin s.lower s.upper x → (b : Bool) → are_like case parts t.bytes ≡ b
      → allows (pattern_outcomes (Some s) case parts) (truth_of b) ≡ true
  string_allowed s x t v h true e =
      let w = is_whole case parts in
      let p = front case parts in
      let same = front_begins case parts t.bytes e in
      and_true _ _ v (ap not (or_none _ _
      (or_none _ _ (kept_open w p s.lower x t (reached_from s.lower x h.from)) (kept_open w p s.upper x t (reached_to law s.upper x h.to)))
      (or_none _ _ (lower_open w p s.lower x t h.from same) (upper_open w p s.upper x t h.to same))))
  string_allowed s x t v h false e =
      let w = is_whole case parts in
      let p = front case parts in
      and_true _ _ v (ap not (or_none _ _
      (or_none _ _ (kept_open w p s.lower x t (reached_from s.lower x h.from)) (kept_open w p s.upper x t (reached_to law s.upper x h.to)))
      (not_both w _ (λ k q.
      let both = and_parts (is_some_and is_eq (bound_front_order w p s.lower)) (is_some_and is_eq (bound_front_order w p s.upper)) q in
      let same = same_between p t.bytes (whole_lower w p s.lower x t k h.from both.0) (whole_upper w p s.upper x t k h.to both.1) in
      false≢true (sym e ∙ sym (ap (are_like case parts) same) ∙ whole_like case parts k)))))

  value_allowed : (s : Known) (x : Cell) → is_null_cell x ≡ false → may_be_value s ≡ true → IsWithin s.lower s.upper x → allows (pattern_outcomes (Some s) case parts) (pattern_truth case parts x) ≡ true
  value_allowed s x f v h = by_string (is_string x) refl
    where
      by_string : (b : Bool) → is_string x ≡ b → allows (pattern_outcomes (Some s) case parts) (pattern_truth case parts x) ≡ true
      by_string true e =
          let t = string_of x e in
          ap (allows (pattern_outcomes (Some s) case parts)) (pattern_of_string case parts x t) ∙ string_allowed s x t v h (are_like case parts t.bytes) refl
      by_string false e =
          ap (allows (pattern_outcomes (Some s) case parts)) (no_string_unknown case parts x e)
          ∙ or_right (may_be_null s) _ (and_true _ _ v (ap not (or_none _ _
          (silent (is_whole case parts) (front case parts) s.lower x f e (reached_from s.lower x h.from))
          (silent (is_whole case parts) (front case parts) s.upper x f e (reached_to law s.upper x h.to)))))

  pub pattern_allowed : (column : Option Known) (x : Cell) → ((s : Known) → column ≡ Some s → Admits s x) → allows (pattern_outcomes column case parts) (pattern_truth case parts x) ≡ true
  pattern_allowed None x a = any_allows_truth (pattern_truth case parts x)
  pattern_allowed (Some s) x a = by_null (is_null_cell x) refl
    where
      by_null : (b : Bool) → is_null_cell x ≡ b → allows (pattern_outcomes (Some s) case parts) (pattern_truth case parts x) ≡ true
      by_null true e = ap (allows (pattern_outcomes (Some s) case parts)) (no_string_unknown case parts x (null_no_string x e)) ∙ or_left _ _ ((a s refl).null e)
      by_null false e = value_allowed s x e ((a s refl).value e) ((a s refl).within e)
