-- What the beginnings of bounds say of the beginnings of the values between them.
use Rattle.std.proofs.Common.{◌≡◌, ◌⊎◌, inl, inr, ℕ, zero, suc, Bool, true, false, not, ◌&&◌, cond, List, [], ◌∷◌, length, take, Option, Some, None, IfSome, is_some, option_map, Ordering, Less, Equal, Greater, refl, sym, ap, subst, ◌∙◌}
use Rattle.std.proofs.lemmas.Bool.{false≢true}
use Rattle.std.specs.Cmp.Lexicographic.{slice_cmp, nat_list_cmp_total}
use Rattle.std.specs.Ordering.{is_eq, is_gt, is_lt, is_some_and, nat_cmp, ordering_reverse, ordering_then}
use Rattle.vortex_value.specs.Equality.{same_type}
use Rattle.vortex_value.specs.Order.{order}
use Rattle.vortex_value.specs.Values.Content.{Content, null, text, string}
use Rattle.vortex_cells.specs.Cells.{Cell, IsUpTo, cell_order, is_null_cell, is_null_content, order_from_above}
use Rattle.vortex_statistics.specs.Statistics.{Known, KnownBound, may_be_null, may_be_value}
use Rattle.vortex_cells.proofs.CellLaws.{IsOrder, turned}
use Rattle.filter_pruning.specs.Exactness.{Admits, IsWithin}
use Rattle.filter_pruning.specs.Orders.{is_plain, is_plain_content, rules_out}
use Rattle.filter_pruning.specs.OutcomeSets.{allows, any, only}
use Rattle.filter_pruning.specs.Outcomes.{bound_prefix_order, is_prefix, is_prefix_content, never_begins, prefix_outcomes, prefix_outcomes_by}
use Rattle.vortex_filter.specs.Prefixes.{begins, begins_truth, cell_begins, cell_prefix_order, prefix_order, prefix_truth}
use Rattle.filter_pruning.proofs.Bounds.{reached_from, reached_to, some_of_up}
use Rattle.filter_pruning.proofs.Plain.{only_strings, only_texts, typed_parts, typed_whole, types_meet, types_reach}
use Rattle.vortex_filter.proofs.PrefixSteps.{begins_as_ordered}
use Rattle.filter_pruning.proofs.Tests.{and_true, none_or_some, not_both, or_left, or_none, or_right}

-- ---- lists

pub up_greater : {A : Type 0} → (Greater ≡ Less) ⊎ (Greater ≡ Equal) → A
up_greater (inl h) = absurd (false≢true (ap is_lt h))
up_greater (inr h) = absurd (false≢true (ap is_eq h))

then_up : (o r s : Ordering) → ((r ≡ Less) ⊎ (r ≡ Equal) → (s ≡ Less) ⊎ (s ≡ Equal)) → (ordering_then o r ≡ Less) ⊎ (ordering_then o r ≡ Equal) → (ordering_then o s ≡ Less) ⊎ (ordering_then o s ≡ Equal)
then_up Less r s f h = inl refl
then_up Equal r s f h = f h
then_up Greater r s f h = up_greater h

-- the beginnings stand as the lists do, or are equal
pub beginnings_up : (n : ℕ) (xs ys : List ℕ) → (slice_cmp nat_cmp xs ys ≡ Less) ⊎ (slice_cmp nat_cmp xs ys ≡ Equal)
    → (slice_cmp nat_cmp (take n xs) (take n ys) ≡ Less) ⊎ (slice_cmp nat_cmp (take n xs) (take n ys) ≡ Equal)
beginnings_up zero xs ys h = inr refl
beginnings_up (suc n) [] [] h = inr refl
beginnings_up (suc n) [] (y ∷ ys) h = inl refl
beginnings_up (suc n) (x ∷ xs) [] h = up_greater h
beginnings_up (suc n) (x ∷ xs) (y ∷ ys) h = then_up (nat_cmp x y) (slice_cmp nat_cmp xs ys) (slice_cmp nat_cmp (take n xs) (take n ys)) (beginnings_up n xs ys) h

equal_goes_on : (xs ys zs : List ℕ) → slice_cmp nat_cmp xs ys ≡ Equal → slice_cmp nat_cmp xs zs ≡ slice_cmp nat_cmp ys zs
equal_goes_on xs ys zs h = nat_list_cmp_total.congr xs ys zs h

pub reverse_of_up : (o r : Ordering) → r ≡ ordering_reverse o → (o ≡ Less) ⊎ (o ≡ Equal) → (r ≡ Greater) ⊎ (r ≡ Equal)
reverse_of_up o r e (inl h) = inl (e ∙ ap ordering_reverse h)
reverse_of_up o r e (inr h) = inr (e ∙ ap ordering_reverse h)

up_of_reverse : (o r : Ordering) → r ≡ ordering_reverse o → (o ≡ Greater) ⊎ (o ≡ Equal) → (r ≡ Less) ⊎ (r ≡ Equal)
up_of_reverse o r e (inl h) = inl (e ∙ ap ordering_reverse h)
up_of_reverse o r e (inr h) = inr (e ∙ ap ordering_reverse h)

along_up : (o r : Ordering) → r ≡ o → (o ≡ Less) ⊎ (o ≡ Equal) → (r ≡ Less) ⊎ (r ≡ Equal)
along_up o r e (inl h) = inl (e ∙ h)
along_up o r e (inr h) = inr (e ∙ h)

-- xs up to ys, and the prefix equal to the beginning of one: where it stands to that of the other
from_upper : (ps xs ys : List ℕ) → (slice_cmp nat_cmp xs ys ≡ Less) ⊎ (slice_cmp nat_cmp xs ys ≡ Equal) → slice_cmp nat_cmp ps (take (length ps) ys) ≡ Equal
    → (slice_cmp nat_cmp ps (take (length ps) xs) ≡ Greater) ⊎ (slice_cmp nat_cmp ps (take (length ps) xs) ≡ Equal)
from_upper ps xs ys up e =
    reverse_of_up _ _ (equal_goes_on ps (take (length ps) ys) (take (length ps) xs) e ∙ nat_list_cmp_total.antisymm (take (length ps) ys) (take (length ps) xs)) (beginnings_up (length ps) xs ys up)

from_lower : (ps xs ys : List ℕ) → (slice_cmp nat_cmp xs ys ≡ Less) ⊎ (slice_cmp nat_cmp xs ys ≡ Equal) → slice_cmp nat_cmp ps (take (length ps) xs) ≡ Equal
    → (slice_cmp nat_cmp ps (take (length ps) ys) ≡ Less) ⊎ (slice_cmp nat_cmp ps (take (length ps) ys) ≡ Equal)
from_lower ps xs ys up e = along_up _ _ (equal_goes_on ps (take (length ps) xs) (take (length ps) ys) e) (beginnings_up (length ps) xs ys up)

-- ---- contents of one kind

-- a bound c, a value d and a prefix p of one kind, by their bytes
record OfOneKind (c d p : Content) : Type 0 where
  bound : List ℕ
  value : List ℕ
  prefix : List ℕ
  bound_stands : prefix_order c p ≡ Some (slice_cmp nat_cmp prefix (take (length prefix) bound))
  value_stands : prefix_order d p ≡ Some (slice_cmp nat_cmp prefix (take (length prefix) value))
  ordered : order c d ≡ Some (slice_cmp nat_cmp bound value)

of_one_kind : (c d p : Content) → is_null_content d ≡ false → is_some (prefix_order c p) ≡ true → is_some (order c d) ≡ true → OfOneKind c d p
of_one_kind (text bs) d (text ps) f g h =
    let cs = only_texts bs d f h in
    let P : Content → Type 0 = λ e. OfOneKind (text bs) e (text ps) in
    subst P (sym cs.1) (record { bound = bs; value = cs.0; prefix = ps; bound_stands = refl; value_stands = refl; ordered = refl })
of_one_kind (string bs) d (string ps) f g h =
    let cs = only_strings bs d f h in
    let P : Content → Type 0 = λ e. OfOneKind (string bs) e (string ps) in
    subst P (sym cs.1) (record { bound = bs; value = cs.0; prefix = ps; bound_stands = refl; value_stands = refl; ordered = refl })
of_one_kind _ d _ f g h = absurd (false≢true g)

-- a plain content that compares with a string or bytes is of that kind
kind_reaches : (c d p : Content) → is_plain_content c ≡ true → is_some (order c d) ≡ true → is_some (prefix_order d p) ≡ true → is_some (prefix_order c p) ≡ true
kind_reaches null d p q h k = absurd (false≢true q)
kind_reaches (text bs) (text cs) (text ps) q h k = refl
kind_reaches (string bs) (string cs) (string ps) q h k = refl
kind_reaches _ (text cs) (text ps) q h k = absurd (false≢true h)
kind_reaches _ (string cs) (string ps) q h k = absurd (false≢true h)
kind_reaches _ _ _ q h k = absurd (false≢true k)

-- ---- cells of one kind

record AreOfOneKind (b x p : Cell) : Type 0 where
  bound : List ℕ
  value : List ℕ
  prefix : List ℕ
  bound_stands : cell_prefix_order b p ≡ Some (slice_cmp nat_cmp prefix (take (length prefix) bound))
  value_stands : cell_prefix_order x p ≡ Some (slice_cmp nat_cmp prefix (take (length prefix) value))
  ordered : cell_order b x ≡ Some (slice_cmp nat_cmp bound value)

pub chosen : {A : Type 0} (b : Bool) (o r : Option A) → b ≡ true → o ≡ r → cond b o None ≡ r
chosen true o r e h = h
chosen false o r e h = absurd (false≢true e)

are_of_one_kind : (b x p : Cell) → is_null_cell x ≡ false → is_some (cell_prefix_order b p) ≡ true → is_some (cell_order b x) ≡ true → AreOfOneKind b x p
are_of_one_kind b x p f g h =
    let gp = typed_parts (same_type b.typed p.typed) (prefix_order b.content p.content) g in
    let hp = typed_parts (same_type b.typed x.typed) (order b.content x.content) h in
    let k = of_one_kind b.content x.content p.content f gp.1 hp.1 in
    record {
      bound = k.bound;
      value = k.value;
      prefix = k.prefix;
      bound_stands = chosen _ _ _ gp.0 k.bound_stands;
      value_stands = chosen _ _ _ (types_meet b.typed x.typed p.typed hp.0 gp.0) k.value_stands;
      ordered = chosen _ _ _ hp.0 k.ordered;
    }

-- a plain cell that compares with one which can begin with the prefix can itself
prefix_reaches : (b x p : Cell) → is_plain b ≡ true → is_some (cell_order b x) ≡ true → is_some (cell_prefix_order x p) ≡ true → is_some (cell_prefix_order b p) ≡ true
prefix_reaches b x p q h k =
    let hx = typed_parts (same_type b.typed x.typed) (order b.content x.content) h in
    let hp = typed_parts (same_type x.typed p.typed) (prefix_order x.content p.content) k in
    typed_whole (same_type b.typed p.typed) (prefix_order b.content p.content) (types_reach b.typed x.typed p.typed hx.0 hp.0)
    (kind_reaches b.content x.content p.content q hx.1 hp.1)

pub some_same : (a b : Ordering) → Some a ≡ Some b → a ≡ b
some_same a b e = cc

-- ---- what a bound says of a value

-- a value that the prefix stands to as o, by a lower bound that it stands to as a
record SaidByLower (a : Ordering) (o : Option Ordering) : Type 0 where
  at : Ordering
  is : o ≡ Some at
  true_then : at ≡ Equal → is_lt a ≡ false
  equal_then : a ≡ Equal → (at ≡ Less) ⊎ (at ≡ Equal)

record SaidByUpper (a : Ordering) (o : Option Ordering) : Type 0 where
  at : Ordering
  is : o ≡ Some at
  true_then : at ≡ Equal → is_gt a ≡ false
  equal_then : a ≡ Equal → (at ≡ Greater) ⊎ (at ≡ Equal)

pub not_lt : (a : Ordering) → (a ≡ Greater) ⊎ (a ≡ Equal) → is_lt a ≡ false
not_lt a (inl h) = ap is_lt h
not_lt a (inr h) = ap is_lt h

pub not_gt : (a : Ordering) → (a ≡ Less) ⊎ (a ≡ Equal) → is_gt a ≡ false
not_gt a (inl h) = ap is_gt h
not_gt a (inr h) = ap is_gt h

said_by_lower : (l x p : Cell) → is_null_cell x ≡ false → IsUpTo cell_order l x → (a : Ordering) → cell_prefix_order l p ≡ Some a → SaidByLower a (cell_prefix_order x p)
said_by_lower l x p f up a e =
    let k = are_of_one_kind l x p f (ap is_some e) (some_of_up cell_order l x up) in
    let same : a ≡ slice_cmp nat_cmp k.prefix (take (length k.prefix) k.bound) = some_same _ _ (sym e ∙ k.bound_stands) in
    let ordered : (slice_cmp nat_cmp k.bound k.value ≡ Less) ⊎ (slice_cmp nat_cmp k.bound k.value ≡ Equal) = up_bytes (slice_cmp nat_cmp k.bound k.value) up k.ordered in
    record {
      at = slice_cmp nat_cmp k.prefix (take (length k.prefix) k.value);
      is = k.value_stands;
      true_then = λ t. ap is_lt same ∙ not_lt _ (from_upper k.prefix k.bound k.value ordered t);
      equal_then = λ t. from_lower k.prefix k.bound k.value ordered (sym same ∙ t);
    }
  where
    up_bytes : (o : Ordering) → IsUpTo cell_order l x → cell_order l x ≡ Some o → (o ≡ Less) ⊎ (o ≡ Equal)
    up_bytes o (inl h) k = inl (some_same _ _ (sym k ∙ h))
    up_bytes o (inr h) k = inr (some_same _ _ (sym k ∙ h))

module _ (law : IsOrder cell_order) where
  said_by_upper : (u x p : Cell) → is_null_cell x ≡ false → IsUpTo order_from_above u x → is_some (cell_order u x) ≡ true → (a : Ordering) → cell_prefix_order u p ≡ Some a → SaidByUpper a (cell_prefix_order x p)
  said_by_upper u x p f up there a e =
      let k = are_of_one_kind u x p f (ap is_some e) there in
      let same : a ≡ slice_cmp nat_cmp k.prefix (take (length k.prefix) k.bound) = some_same _ _ (sym e ∙ k.bound_stands) in
      let ordered : (slice_cmp nat_cmp k.value k.bound ≡ Less) ⊎ (slice_cmp nat_cmp k.value k.bound ≡ Equal) =
      up_of_reverse _ _ (nat_list_cmp_total.antisymm k.value k.bound) (down_bytes (slice_cmp nat_cmp k.bound k.value) up k.ordered) in
      record {
        at = slice_cmp nat_cmp k.prefix (take (length k.prefix) k.value);
        is = k.value_stands;
        true_then = λ t. ap is_gt same ∙ not_gt _ (from_lower k.prefix k.value k.bound ordered t);
        equal_then = λ t. from_upper k.prefix k.value k.bound ordered (sym same ∙ t);
      }
    where
      down_bytes : (o : Ordering) → IsUpTo order_from_above u x → cell_order u x ≡ Some o → (o ≡ Greater) ⊎ (o ≡ Equal)
      down_bytes o (inl h) k = inl (some_same _ _ (sym k ∙ turned cell_order law x u (Some Less) h))
      down_bytes o (inr h) k = inr (some_same _ _ (sym k ∙ turned cell_order law x u (Some Equal) h))

-- ---- outcomes

pub none_is_some : {A : Type 0} (o : Ordering) → None ≡ Some o → A
none_is_some o e = absurd (false≢true (ap is_some e))

less_not_down : {A : Type 0} (o : Ordering) → Some Less ≡ Some o → (o ≡ Greater) ⊎ (o ≡ Equal) → A
less_not_down o e (inl h) = absurd (false≢true (sym (ap is_lt (some_same _ _ e ∙ h))))
less_not_down o e (inr h) = absurd (false≢true (sym (ap is_lt (some_same _ _ e ∙ h))))

greater_not_up : {A : Type 0} (o : Ordering) → Some Greater ≡ Some o → (o ≡ Less) ⊎ (o ≡ Equal) → A
greater_not_up o e (inl h) = absurd (false≢true (sym (ap is_gt (some_same _ _ e ∙ h))))
greater_not_up o e (inr h) = absurd (false≢true (sym (ap is_gt (some_same _ _ e ∙ h))))

lower_silent : (L : Option Ordering) → ((a : Ordering) → L ≡ Some a → SaidByLower a None) → is_some L ≡ false
lower_silent None said = refl
lower_silent (Some a) said = none_is_some _ (said a refl).is

upper_silent : (U : Option Ordering) → ((a : Ordering) → U ≡ Some a → SaidByUpper a None) → is_some U ≡ false
upper_silent None said = refl
upper_silent (Some a) said = none_is_some _ (said a refl).is

lower_open : (L : Option Ordering) → ((a : Ordering) → L ≡ Some a → SaidByLower a (Some Equal)) → is_some_and is_lt L ≡ false
lower_open None said = refl
lower_open (Some a) said = (said a refl).true_then (some_same _ _ (sym (said a refl).is))

upper_open : (U : Option Ordering) → ((a : Ordering) → U ≡ Some a → SaidByUpper a (Some Equal)) → is_some_and is_gt U ≡ false
upper_open None said = refl
upper_open (Some a) said = (said a refl).true_then (some_same _ _ (sym (said a refl).is))

upper_apart : (U : Option Ordering) → ((a : Ordering) → U ≡ Some a → SaidByUpper a (Some Less)) → is_some_and is_eq U ≡ false
upper_apart None said = refl
upper_apart (Some Less) said = refl
upper_apart (Some Greater) said = refl
upper_apart (Some Equal) said = less_not_down _ (said Equal refl).is ((said Equal refl).equal_then refl)

lower_apart : (L : Option Ordering) → ((a : Ordering) → L ≡ Some a → SaidByLower a (Some Greater)) → is_some_and is_eq L ≡ false
lower_apart None said = refl
lower_apart (Some Less) said = refl
lower_apart (Some Greater) said = refl
lower_apart (Some Equal) said = greater_not_up _ (said Equal refl).is ((said Equal refl).equal_then refl)

not_first : (a b : Bool) → a ≡ false → (a && b) ≡ false
not_first true b e = absurd (false≢true (sym e))
not_first false b e = refl

not_second : (a b : Bool) → b ≡ false → (a && b) ≡ false
not_second true b e = e
not_second false b e = refl

allowed_by : (hn hv never : Bool) (L U X : Option Ordering) → hv ≡ true → (is_some X ≡ true → never ≡ false)
    → ((a : Ordering) → L ≡ Some a → SaidByLower a X) → ((a : Ordering) → U ≡ Some a → SaidByUpper a X)
    → allows (prefix_outcomes_by hn hv never L U) (begins_truth (option_map is_eq X)) ≡ true
allowed_by hn hv never L U None v n l u = or_right hn _ (and_true hv _ v (ap not (or_none _ _ (lower_silent L l) (upper_silent U u))))
allowed_by hn hv never L U (Some Equal) v n l u = and_true hv _ v (ap not (or_none _ _ (n refl) (or_none _ _ (lower_open L l) (upper_open U u))))
allowed_by hn hv never L U (Some Less) v n l u = and_true hv _ v (ap not (or_none _ _ (n refl) (not_second (is_some_and is_eq L) _ (upper_apart U u))))
allowed_by hn hv never L U (Some Greater) v n l u = and_true hv _ v (ap not (or_none _ _ (n refl) (not_first _ (is_some_and is_eq U) (lower_apart L l))))

lower_says : (lower : Option KnownBound) (x p : Cell) → is_null_cell x ≡ false → IfSome lower (λ b. IsUpTo cell_order b.value x) → (a : Ordering) → bound_prefix_order lower p ≡ Some a → SaidByLower a (cell_prefix_order x p)
lower_says None x p f h a e = none_is_some a e
lower_says (Some b) x p f h a e = said_by_lower b.value x p f h a e

-- ---- where nothing begins

pub null_begins : (d p : Content) → is_null_content d ≡ true → begins d p ≡ None
null_begins null p e = refl
null_begins _ p e = absurd (false≢true e)

no_prefix_begins : (d p : Content) → is_prefix_content p ≡ false → begins d p ≡ None
no_prefix_begins (text bs) (text ps) e = absurd (false≢true (sym e))
no_prefix_begins (string bs) (string ps) e = absurd (false≢true (sym e))
no_prefix_begins _ _ e = refl

pub neither_begins : (x p : Cell) → begins x.content p.content ≡ None → prefix_truth x p ≡ begins_truth None
neither_begins x p e = ap begins_truth (by_types (same_type x.typed p.typed))
  where
    by_types : (b : Bool) → cond b (begins x.content p.content) None ≡ None
    by_types true = e
    by_types false = refl

any_allows_begins : (o : Option Bool) → allows any (begins_truth o) ≡ true
any_allows_begins None = refl
any_allows_begins (Some true) = refl
any_allows_begins (Some false) = refl

content_prefix : (d p : Content) → is_some (prefix_order d p) ≡ true → is_prefix_content p ≡ true
content_prefix (text bs) (text ps) e = refl
content_prefix (string bs) (string ps) e = refl
content_prefix _ _ e = absurd (false≢true e)

pub prefix_needed : (x p : Cell) → is_some (cell_prefix_order x p) ≡ true → is_prefix p ≡ true
prefix_needed x p e = content_prefix x.content p.content (typed_parts (same_type x.typed p.typed) (prefix_order x.content p.content) e).1

-- a bound without parts that the value compares with rules nothing out, if the value can begin with the prefix
kept_open : (bound : Option KnownBound) (x p : Cell) → IfSome bound (λ b. is_some (cell_order b.value x) ≡ true) → is_some (cell_prefix_order x p) ≡ true → rules_out bound (bound_prefix_order bound p) ≡ false
kept_open None x p h k = refl
kept_open (Some b) x p h k = not_both _ _ (λ n q. none_or_some _ n (prefix_reaches b.value x p q h k))

module _ (law : IsOrder cell_order) where
  upper_says : (upper : Option KnownBound) (x p : Cell) → is_null_cell x ≡ false → IfSome upper (λ b. IsUpTo order_from_above b.value x) → IfSome upper (λ b. is_some (cell_order b.value x) ≡ true)
      → (a : Ordering) → bound_prefix_order upper p ≡ Some a → SaidByUpper a (cell_prefix_order x p)
  upper_says None x p f h t a e = none_is_some a e
  upper_says (Some b) x p f h t a e = said_by_upper law b.value x p f h t a e

  value_allowed : (s : Known) (x p : Cell) → is_null_cell x ≡ false → may_be_value s ≡ true → IsWithin s.lower s.upper x → allows (prefix_outcomes (Some s) p) (prefix_truth x p) ≡ true
  value_allowed s x p f v w =
      let from = reached_from s.lower x w.from in
      let to = reached_to law s.upper x w.to in
      ap (λ o. allows (prefix_outcomes (Some s) p) (begins_truth o)) (begins_as_ordered x p)
      ∙ allowed_by (may_be_null s) (may_be_value s) (never_begins s p) (bound_prefix_order s.lower p) (bound_prefix_order s.upper p) (cell_prefix_order x p) v
      (λ k. or_none _ _ (ap not (prefix_needed x p k)) (or_none _ _ (kept_open s.lower x p from k) (kept_open s.upper x p to k)))
      (lower_says s.lower x p f w.from) (upper_says s.upper x p f w.to to)

  pub prefix_allowed : (column : Option Known) (x p : Cell) → ((s : Known) → column ≡ Some s → Admits s x) → allows (prefix_outcomes column p) (prefix_truth x p) ≡ true
  prefix_allowed None x p a = by_prefix (is_prefix p) refl
    where
      by_prefix : (b : Bool) → is_prefix p ≡ b → allows (cond b any (only (begins_truth None))) (prefix_truth x p) ≡ true
      by_prefix true e = any_allows_begins (cell_begins x p)
      by_prefix false e = ap (allows (only (begins_truth None))) (neither_begins x p (no_prefix_begins x.content p.content e))
  prefix_allowed (Some s) x p a = by_null (is_null_cell x) refl
    where
      by_null : (b : Bool) → is_null_cell x ≡ b → allows (prefix_outcomes (Some s) p) (prefix_truth x p) ≡ true
      by_null true e = ap (allows (prefix_outcomes (Some s) p)) (neither_begins x p (null_begins x.content p.content e)) ∙ or_left _ _ ((a s refl).null e)
      by_null false e = value_allowed s x p e ((a s refl).value e) ((a s refl).within e)
