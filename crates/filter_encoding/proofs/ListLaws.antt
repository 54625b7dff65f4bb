-- Lists in bytes: what begins with two of them, and where one goes on.
use Rattle.std.proofs.Common.{◌≡◌, ℕ, zero, suc, ◌+◌, ◌<◌, ◌≤◌, ◌-◌, List, [], ◌∷◌, ◌++◌, drop, get_or, length, length-append, map, Vec, Global, refl, sym, subst, ap, ap₂, ◌∙◌, append_assoc, append-nil, arith}
use Rattle.std.specs.List.{AllByRecursion}
use Rattle.std.specs.Prelude.{Err, Ok, Result}
use Rattle.filter_encoding.specs.Lists.{AreListed, AreSo, Fits, count_bytes, each_bytes, listed}
use Rattle.filter_encoding.specs.Strings.{HasRead, IsEncodingOf, IsStuck, Reads, Then}
use Rattle.filter_encoding.specs.Steps.{Appends, Begins}
use Rattle.filter_encoding.specs.declared.error.FilterEncodingError.{FilterEncodingError}
use Rattle.filter_encoding.specs.declared.reader.FilterDecodeError.{FilterDecodeError}
use Rattle.filter_encoding.proofs.Stuck.{AreApart, GoesOn, encoding_of, stuck_later, stuck_within, then_begins}
use Rattle.filter_encoding.proofs.WriteSteps.{then_written}

-- ---- each after the other

each_append : {X : Type 0} (f : X → List ℕ) (xs ys : List X) → each_bytes f (xs ++ ys) ≡ each_bytes f xs ++ each_bytes f ys
each_append f [] ys = refl
each_append f (x ∷ xs) ys = ap (λ bs. f x ++ bs) (each_append f xs ys) ∙ sym (append_assoc (f x) (each_bytes f xs) (each_bytes f ys))

pub all_append : {X : Type 0} (Is : X → Type 0) (xs ys : List X) → AllByRecursion Is xs → AllByRecursion Is ys → AllByRecursion Is (xs ++ ys)
all_append Is [] ys h g = g
all_append Is (x ∷ xs) ys h g = (h.0, all_append Is xs ys h.1 g)

all_last : {X : Type 0} (Is : X → Type 0) (xs ys : List X) → AllByRecursion Is (xs ++ ys) → AllByRecursion Is ys
all_last Is [] ys h = h
all_last Is (x ∷ xs) ys h = all_last Is xs ys h.1

same_cons : {X : Type 0} (x y : X) (xs ys : List X) → x ≡ y → xs ≡ ys → x ∷ xs ≡ y ∷ ys
same_cons x y xs ys e f = cc

-- what begins with the bytes of some begins with some of those that it is the bytes of
each_front : {X : Type 0} (f : X → List ℕ) (Is : X → Type 0) → AreApart f Is → (xs zs : List X) (ws rest : List ℕ) → AllByRecursion Is xs → AllByRecursion Is zs → length xs ≤ length zs
    → each_bytes f xs ++ ws ≡ each_bytes f zs ++ rest → (ys : List X) × (zs ≡ xs ++ ys) × (ws ≡ each_bytes f ys ++ rest)
each_front f Is law [] zs ws rest h g l e = (zs, refl, e)
each_front f Is law (x ∷ xs) [] ws rest h g l e = absurd (omega arith)
each_front f Is law (x ∷ xs) (z ∷ zs) ws rest h g l e =
    let w = law.apart x z (each_bytes f xs ++ ws) (each_bytes f zs ++ rest) h.0 g.0 (sym (append_assoc (f x) (each_bytes f xs) ws) ∙ e ∙ append_assoc (f z) (each_bytes f zs) rest) in
    let v = each_front f Is law xs zs ws rest h.1 g.1 (omega arith) w.1 in
    (v.0, same_cons z x zs (xs ++ v.0) (sym w.0) v.1, v.2)

each_apart : {X : Type 0} (f : X → List ℕ) (Is : X → Type 0) → AreApart f Is → (xs ys : List X) (vs ws : List ℕ) → AllByRecursion Is xs → AllByRecursion Is ys → length xs ≡ length ys
    → each_bytes f xs ++ vs ≡ each_bytes f ys ++ ws → (xs ≡ ys) × (vs ≡ ws)
each_apart f Is law [] [] vs ws h g l e = (refl, e)
each_apart f Is law [] (y ∷ ys) vs ws h g l e = absurd (omega arith)
each_apart f Is law (x ∷ xs) [] vs ws h g l e = absurd (omega arith)
each_apart f Is law (x ∷ xs) (y ∷ ys) vs ws h g l e =
    let w = law.apart x y (each_bytes f xs ++ vs) (each_bytes f ys ++ ws) h.0 g.0 (sym (append_assoc (f x) (each_bytes f xs) vs) ∙ e ∙ append_assoc (f y) (each_bytes f ys) ws) in
    let v = each_apart f Is law xs ys vs ws h.1 g.1 (omega arith) w.1 in
    (same_cons x y xs ys w.0 v.0, v.1)

-- the same item so many times
abbrev repeated : {X : Type 0} → X → ℕ → List X
repeated x zero = []
repeated x (suc n) = x ∷ repeated x n

so_many : {X : Type 0} (Is : X → Type 0) (x : X) (n : ℕ) → Is x → AreSo n Is (repeated x n)
so_many Is x zero h = record { count = refl; each = tt }
so_many Is x (suc n) h = let w = so_many Is x n h in record { count = ap suc w.count; each = (h, w.each) }

-- ---- one more

pub none_read : {X : Type 0} (f : X → List ℕ) (Is : X → Type 0) (old : List ℕ) → HasRead (each_bytes f) (AreSo 0 Is) [] old old
none_read f Is old = record { is_one = record { count = refl; each = tt }; is = refl }

pub next_read : {X : Type 0} (f : X → List ℕ) (Is : X → Type 0) (i : ℕ) (xs : List X) (x : X) (old mid now : List ℕ) → HasRead (each_bytes f) (AreSo i Is) xs old mid → HasRead f Is x mid now
    → HasRead (each_bytes f) (AreSo (suc i) Is) (xs ++ x ∷ []) old now
next_read f Is i xs x old mid now h g = record {
  is_one = record {
    count = (let a = length-append xs (x ∷ []) in let b = h.is_one.count in omega arith);
    each = all_append Is xs (x ∷ []) h.is_one.each (g.is_one, tt);
  };
  is = h.is ∙ ap (λ bs. each_bytes f xs ++ bs) g.is ∙ sym (append_assoc (each_bytes f xs) (f x) now) ∙ ap (λ bs. bs ++ now) (sym (each_append f xs (x ∷ []) ∙ ap (λ bs. each_bytes f xs ++ bs) (append-nil (f x))));
}

next_goes_on : {X : Type 0} (f : X → List ℕ) (Is : X → Type 0) → AreApart f Is → (i m n : ℕ) (xs : List X) → i + suc m ≡ n → AreSo i Is xs
    → GoesOn (each_bytes f xs) (IsEncodingOf (each_bytes f) (AreSo n Is)) (Then (IsEncodingOf f Is) (IsEncodingOf (each_bytes f) (AreSo m Is)))
next_goes_on {X = X} f Is law i m n xs total so = record {
  join = λ q h.
      let x = h.is_first.value in
      let ys = h.is_second.value in
      record {
        value = xs ++ x ∷ ys;
        is_one = record {
          count = (let a = length-append xs (x ∷ ys) in let b = so.count in let c = h.is_second.is_one.count in omega arith);
          each = all_append Is xs (x ∷ ys) so.each (h.is_first.is_one, h.is_second.is_one.each);
        };
        is = ap (λ bs. each_bytes f xs ++ bs) (h.is ∙ ap₂ (λ bs cs. bs ++ cs) h.is_first.is h.is_second.is) ∙ sym (each_append f xs (x ∷ ys));
      };
  split = λ s zs rest h e.
      let vs = h.value in
      let w = each_front f Is law xs vs zs rest so.each h.is_one.each (let b = so.count in let c = h.is_one.count in omega arith) (e ∙ ap (λ bs. bs ++ rest) h.is) in
      let all : AllByRecursion Is (xs ++ w.0) = subst (AllByRecursion Is) w.1 h.is_one.each in
      rest_of w.0 zs rest (all_last Is xs w.0 all) (let a = length-append xs w.0 in let b = so.count in let c = h.is_one.count in let d = ap length w.1 in omega arith) w.2;
}
  where
    rest_of : (ys : List X) (zs rest : List ℕ) → AllByRecursion Is ys → length ys ≡ suc m → zs ≡ each_bytes f ys ++ rest
        → (q : List ℕ) × Then (IsEncodingOf f Is) (IsEncodingOf (each_bytes f) (AreSo m Is)) q × (zs ≡ q ++ rest)
    rest_of [] zs rest h l e = absurd (omega arith)
    rest_of (y ∷ ys) zs rest h l e = (
      f y ++ each_bytes f ys,
      record {
        first = f y;
        second = each_bytes f ys;
        is_first = encoding_of f Is y h.0;
        is_second = record { value = ys; is_one = record { count = omega arith; each = h.1 }; is = refl };
        is = refl;
      },
      e,
    )

-- the next one is stuck
pub next_stuck : {X : Type 0} (f : X → List ℕ) (Is : X → Type 0) → AreApart f Is → (x : X) → Is x → (i m n : ℕ) (xs : List X) (old mid now : List ℕ) → i + suc m ≡ n
    → HasRead (each_bytes f) (AreSo i Is) xs old mid → IsStuck (IsEncodingOf f Is) mid now → IsStuck (IsEncodingOf (each_bytes f) (AreSo n Is)) old now
next_stuck f Is law x one i m n xs old mid now total h stuck =
    stuck_later (each_bytes f xs) (IsEncodingOf (each_bytes f) (AreSo n Is)) (Then (IsEncodingOf f Is) (IsEncodingOf (each_bytes f) (AreSo m Is))) old mid now
    (next_goes_on f Is law i m n xs total h.is_one) h.is
    (stuck_within (IsEncodingOf f Is) (Then (IsEncodingOf f Is) (IsEncodingOf (each_bytes f) (AreSo m Is))) mid now
    (then_begins (IsEncodingOf f Is) (IsEncodingOf (each_bytes f) (AreSo m Is)) (each_bytes f (repeated x m), encoding_of (each_bytes f) (AreSo m Is) (repeated x m) (so_many Is x m one))) stuck)

-- ---- with their number

module _ (counts : AreApart count_bytes Fits) where
  pub listed_apart : {X : Type 0} (f : X → List ℕ) (Is : X → Type 0) → AreApart f Is → AreApart (listed f) (AreListed Is)
  listed_apart f Is law = record {
    apart = λ xs ys vs ws h g e.
        let w = counts.apart (length xs) (length ys) (each_bytes f xs ++ vs) (each_bytes f ys ++ ws) h.fit g.fit
        (sym (append_assoc (count_bytes (length xs)) (each_bytes f xs) vs) ∙ e ∙ append_assoc (count_bytes (length ys)) (each_bytes f ys) ws) in
        each_apart f Is law xs ys vs ws h.each g.each w.0 w.1;
  }

  pub listed_goes_on : {X : Type 0} (f : X → List ℕ) (Is : X → Type 0) (n : ℕ) → Fits n → GoesOn (count_bytes n) (IsEncodingOf (listed f) (AreListed Is)) (IsEncodingOf (each_bytes f) (AreSo n Is))
  listed_goes_on f Is n fits = record {
    join = λ q h. record {
      value = h.value;
      is_one = record { fit = subst Fits (sym h.is_one.count) fits; each = h.is_one.each };
      is = ap₂ (λ k bs. count_bytes k ++ bs) (sym h.is_one.count) h.is;
    };
    split = λ s zs rest h e.
        let xs = h.value in
        let w = counts.apart n (length xs) zs (each_bytes f xs ++ rest) fits h.is_one.fit (e ∙ ap (λ bs. bs ++ rest) h.is ∙ append_assoc (count_bytes (length xs)) (each_bytes f xs) rest) in
        (each_bytes f xs, record { value = xs; is_one = record { count = sym w.0; each = h.is_one.each }; is = refl }, w.1);
  }

  pub items_stuck : {X : Type 0} (f : X → List ℕ) (Is : X → Type 0) (n : ℕ) (old mid now : List ℕ) → HasRead count_bytes Fits n old mid → IsStuck (IsEncodingOf (each_bytes f) (AreSo n Is)) mid now → IsStuck (IsEncodingOf (listed f) (AreListed Is)) old now
  items_stuck f Is n old mid now h stuck =
      stuck_later (count_bytes n) (IsEncodingOf (listed f) (AreListed Is)) (IsEncodingOf (each_bytes f) (AreSo n Is)) old mid now (listed_goes_on f Is n h.is_one) h.is stuck

-- their number is stuck
pub count_stuck : {X : Type 0} (f : X → List ℕ) (Is : X → Type 0) (x : X) → Is x → (old now : List ℕ) → IsStuck (IsEncodingOf count_bytes Fits) old now → IsStuck (IsEncodingOf (listed f) (AreListed Is)) old now
count_stuck f Is x one old now stuck =
    stuck_within (IsEncodingOf count_bytes Fits) (IsEncodingOf (listed f) (AreListed Is)) old now
    (record {
      extend = λ q h.
          let n = h.value in
          let so = so_many Is x n one in (
            each_bytes f (repeated x n),
            record {
              value = repeated x n;
              is_one = record { fit = subst Fits (sym so.count) h.is_one; each = so.each };
              is = ap (λ bs. bs ++ each_bytes f (repeated x n)) h.is ∙ ap (λ k. count_bytes k ++ each_bytes f (repeated x n)) (sym so.count);
            },
          );
      front = λ s h. (count_bytes (length h.value), each_bytes f h.value, encoding_of count_bytes Fits (length h.value) h.is_one.fit, h.is);
    }) stuck

pub list_read : {X : Type 0} (f : X → List ℕ) (Is : X → Type 0) (n : ℕ) (xs : List X) (old mid now : List ℕ) → HasRead count_bytes Fits n old mid → HasRead (each_bytes f) (AreSo n Is) xs mid now → HasRead (listed f) (AreListed Is) xs old now
list_read f Is n xs old mid now h g = record {
  is_one = record { fit = subst Fits (sym g.is_one.count) h.is_one; each = g.is_one.each };
  is = h.is ∙ ap (λ bs. count_bytes n ++ bs) g.is ∙ ap (λ k. count_bytes k ++ (each_bytes f xs ++ now)) (sym g.is_one.count) ∙ sym (append_assoc (count_bytes (length xs)) (each_bytes f xs) now);
}

-- ---- loops

-- a loop that reads: nothing so far, one more, and all
pub loop_start : {X A : Type 0} (f : X → List ℕ) (Is : X → Type 0) (view : A → X) (items : List A) (old : List ℕ) → items ≡ [] → HasRead (each_bytes f) (AreSo 0 Is) (map view items) old old
loop_start f Is view items old e = subst (λ xs. HasRead (each_bytes f) (AreSo 0 Is) (map view xs) old old) (sym e) (none_read f Is old)

pub map_last : {X A : Type 0} (view : A → X) (xs : List A) (x : A) → map view (xs ++ x ∷ []) ≡ map view xs ++ view x ∷ []
map_last view [] x = refl
map_last view (y ∷ xs) x = ap (λ ys. view y ∷ ys) (map_last view xs x)

pub loop_more : {X A : Type 0} (f : X → List ℕ) (Is : X → Type 0) (view : A → X) (i j : ℕ) (items more : List A) (x : A) (old mid now : List ℕ) → j ≡ suc i → HasRead (each_bytes f) (AreSo i Is) (map view items) old mid → HasRead f Is (view x) mid now
    → more ≡ items ++ x ∷ [] → HasRead (each_bytes f) (AreSo j Is) (map view more) old now
loop_more f Is view i j items more x old mid now next h g e =
    let read = next_read f Is i (map view items) (view x) old mid now h g in
    subst (λ k. HasRead (each_bytes f) (AreSo k Is) (map view more) old now) (sym next) (subst (λ xs. HasRead (each_bytes f) (AreSo (suc i) Is) xs old now) (sym (ap (map view) e ∙ map_last view items x)) read)

pub loop_stuck : {X A : Type 0} (f : X → List ℕ) (Is : X → Type 0) (view : A → X) → AreApart f Is → (x : X) → Is x → (i n : ℕ) (items : List A) (old mid now : List ℕ) → i < n → HasRead (each_bytes f) (AreSo i Is) (map view items) old mid
    → IsStuck (IsEncodingOf f Is) mid now → IsStuck (IsEncodingOf (each_bytes f) (AreSo n Is)) old now
loop_stuck f Is view law x one i n items old mid now less h stuck =
    let total : i + suc (n - i - 1) ≡ n = omega arith in
    next_stuck f Is law x one i (n - i - 1) n (map view items) old mid now total h stuck

pub loop_end : {X A : Type 0} (f : X → List ℕ) (Is : X → Type 0) (view : A → X) (i n : ℕ) (items : List A) (old now : List ℕ) → i ≤ n → n ≤ i → HasRead (each_bytes f) (AreSo i Is) (map view items) old now
    → HasRead (each_bytes f) (AreSo n Is) (map view items) old now
loop_end f Is view i n items old now a b h = let same : i ≡ n = omega arith in subst (λ k. HasRead (each_bytes f) (AreSo k Is) (map view items) old now) same h

-- the items after their number
pub list_answer : {X A : Type 0} (counts : AreApart count_bytes Fits) (f : X → List ℕ) (Is : X → Type 0) (view : A → X) (n : ℕ) (r : Result (Vec A Global) FilterDecodeError) (old mid now : List ℕ) → HasRead count_bytes Fits n old mid
    → Reads (each_bytes f) (AreSo n Is) (λ v. map view v.items) r mid now → Reads (listed f) (AreListed Is) (λ v. map view v.items) r old now
list_answer counts f Is view n (Ok v) old mid now h g = list_read f Is n (map view v.items) old mid now h g
list_answer counts f Is view n (Err e) old mid now h g = λ bad. items_stuck counts f Is n old mid now h (g bad)

-- a loop that writes: what is written and what is left are all
pub record IsLeft {X : Type 0} (f : X → List ℕ) (Known Is : X → Type 0) (rest all : List X) (old now : List ℕ) : Type 0 where
  pub bytes : now ++ each_bytes f rest ≡ old ++ each_bytes f all
  pub all_are : AllByRecursion Known rest → AllByRecursion Known all
  pub rest_are : AllByRecursion Is all → AllByRecursion Is rest
  pub begins : Begins old now

pub left_start : {X : Type 0} (f : X → List ℕ) (Known Is : X → Type 0) (all : List X) (old : List ℕ) → IsLeft f Known Is all all old old
left_start f Known Is all old = record { bytes = refl; all_are = λ h. h; rest_are = λ h. h; begins = record { more = []; is = sym (append-nil old) } }

-- the items from a place on, if it is there
at_place : {A : Type 0} (i : ℕ) (items : List A) (x : A) → i < length items → x ≡ get_or items i x → drop i items ≡ x ∷ drop (suc i) items
at_place i [] x l e = absurd (omega arith)
at_place zero (y ∷ items) x l e = ap (λ z. z ∷ items) (sym e)
at_place (suc i) (y ∷ items) x l e = at_place i items x (omega arith) e

pub left_more : {X A : Type 0} (f : X → List ℕ) (Known Is : X → Type 0) (view : A → X) (i j : ℕ) (items : List A) (x : A) (old mid now : List ℕ) → j ≡ suc i → i < length items → x ≡ get_or items i x
    → IsLeft f Known Is (map view (drop i items)) (map view items) old mid → Known (view x) × (now ≡ mid ++ f (view x)) → IsLeft f Known Is (map view (drop j items)) (map view items) old now
left_more f Known Is view i j items x old mid now next less is h g =
    let at : map view (drop i items) ≡ view x ∷ map view (drop (suc i) items) = ap (map view) (at_place i items x less is) in
    let after : map view (drop (suc i) items) ≡ map view (drop j items) = ap (λ k. map view (drop k items)) (sym next) in
    subst (λ xs. IsLeft f Known Is xs (map view items) old now) after
    (record {
      bytes = ap (λ xs. xs ++ each_bytes f (map view (drop (suc i) items))) g.1 ∙ append_assoc mid (f (view x)) (each_bytes f (map view (drop (suc i) items))) ∙ ap (λ xs. mid ++ each_bytes f xs) (sym at) ∙ h.bytes;
      all_are = λ r. h.all_are (subst (AllByRecursion Known) (sym at) (g.0, r));
      rest_are = λ a. (subst (AllByRecursion Is) at (h.rest_are a)).1;
      begins = record { more = h.begins.more ++ f (view x); is = g.1 ∙ ap (λ xs. xs ++ f (view x)) h.begins.is ∙ append_assoc old h.begins.more (f (view x)) };
    })

-- one that may not be written
pub left_item : {X A : Type 0} (f : X → List ℕ) (Known Is : X → Type 0) (view : A → X) (i : ℕ) (items : List A) (x : A) (old mid : List ℕ) → i < length items → x ≡ get_or items i x → IsLeft f Known Is (map view (drop i items)) (map view items) old mid
    → AllByRecursion Is (map view items) → Is (view x)
left_item f Known Is view i items x old mid less is h a = (subst (AllByRecursion Is) (ap (map view) (at_place i items x less is)) (h.rest_are a)).0

none_left : {A : Type 0} (i : ℕ) (items : List A) → length items ≤ i → drop i items ≡ []
none_left zero [] l = refl
none_left (suc i) [] l = refl
none_left zero (x ∷ items) l = absurd (omega arith)
none_left (suc i) (x ∷ items) l = none_left i items (omega arith)

pub left_end : {X A : Type 0} (f : X → List ℕ) (Known Is : X → Type 0) (view : A → X) (i : ℕ) (items : List A) (old now : List ℕ) → length items ≤ i → IsLeft f Known Is (map view (drop i items)) (map view items) old now
    → AllByRecursion Known (map view items) × (now ≡ old ++ each_bytes f (map view items))
left_end f Known Is view i items old now l h =
    let none : map view (drop i items) ≡ [] = ap (map view) (none_left i items l) in
    (h.all_are (subst (AllByRecursion Known) (sym none) tt), sym (append-nil now) ∙ ap (λ xs. now ++ each_bytes f xs) (sym none) ∙ h.bytes)

-- ---- writing a list

length_map : {X A : Type 0} (view : A → X) (items : List A) → length (map view items) ≡ length items
length_map view [] = refl
length_map view (x ∷ items) = ap suc (length_map view items)

pub fit_of : {X A : Type 0} (view : A → X) (items : List A) (n : ℕ) → n ≡ length items → Fits (length (map view items)) → Fits n
fit_of view items n e fit = let same = length_map view items in omega arith

pub list_written : {X A : Type 0} (f : X → List ℕ) (Known Is : X → Type 0) (view : A → X) (items : List A) (n : ℕ) (r : Result Unit FilterEncodingError) (old mid now : List ℕ) → n ≡ length items → Fits n × (mid ≡ old ++ count_bytes n)
    → Appends (AllByRecursion Known (map view items)) (AllByRecursion Is (map view items)) (each_bytes f (map view items)) r mid now → Appends (AreListed Known (map view items)) (AreListed Is (map view items)) (listed f (map view items)) r old now
list_written f Known Is view items n r old mid now e w g =
    let same : n ≡ length (map view items) = e ∙ sym (length_map view items) in
    let fit : Fits (length (map view items)) = subst Fits same w.0 in
    subst (λ k. Appends (AreListed Known (map view items)) (AreListed Is (map view items)) (count_bytes k ++ each_bytes f (map view items)) r old now) same
    (then_written (AllByRecursion Known (map view items)) (AreListed Known (map view items)) (AllByRecursion Is (map view items)) (AreListed Is (map view items)) (count_bytes n) (each_bytes f (map view items)) r old mid now (λ a. record { fit = fit; each = a }) (λ a. a.each) w.1 g)
