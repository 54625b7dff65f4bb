-- Encodings: what begins with two of them, and the first byte that none has.
use Rattle.std.specs.List.{list_any}
use Rattle.std.proofs.Common.{◌≡◌, ◌≢◌, ◌⊎◌, ◌||◌, Bool, true, false, cond, inl, inr, true≢false, ℕ, zero, suc, ◌+◌, ◌-◌, ◌^◌, ◌<◌, ◌≤◌, List, [], ◌∷◌, ◌++◌, length, length-append, take, drop, refl, sym, subst, ap, ap₂, ◌∙◌, append_assoc, append-nil, arith}
use Rattle.std.specs.Prelude.{Err, IfErr, IfOk, IsErr, MatchResult, Ok, Result}
use Rattle.std.specs.Result.{IsErrAnd}
use Rattle.vortex_dtype.specs.TypeTree.{TypeTree}
use Rattle.vortex_filter.specs.Formula.{Formula, constant, formula}
use Rattle.vortex_filter.specs.declared.truth.Truth.TheVariants.{True}
use Rattle.vortex_row.proofs.ReaderSteps.{take-then}
use Rattle.filter_encoding.specs.Answers.{HasNoValue, HasVersion, IsFirstWrong, IsEncoding, ReadsAs}
use Rattle.filter_encoding.specs.Encoding.{EncodingsAreApart, HasEncoding, HasValues, IsFormed, IsPlain, IsVersion, Prepared, encoding_in, has_extended, is_extension, node_bytes, prepared, type_bytes, version_of}
use Rattle.filter_encoding.specs.Lists.{AreListed, listed}
use Rattle.filter_encoding.specs.Steps.{IsNoValueOf, IsNode, IsNodeEncoding, ReadsEncoding}
use Rattle.filter_encoding.specs.declared.error.FilterEncodingError.{FilterEncodingError}
use Rattle.filter_encoding.specs.declared.error.FilterEncodingError.TheVariants.{BadBytes, NotAValue, OutOfMemory}
use Rattle.filter_encoding.specs.declared.prepared.PreparedFilter.{PreparedFilter}
use Rattle.filter_encoding.specs.declared.reader.FilterDecodeError.{FilterDecodeError}
use Rattle.filter_encoding.specs.declared.reader.FilterDecodeError.TheVariants.{Bad, NoMemory}
use Rattle.filter_encoding.specs.Strings.{BeginAlike, HasRead, IsEncodingOf, IsStuck, Then}
use Rattle.filter_encoding.proofs.HeadLaws.{some_node}
use Rattle.filter_encoding.proofs.ListLaws.{listed_apart}
use Rattle.filter_encoding.proofs.LiteralLaws.{drop_front, inside}
use Rattle.filter_encoding.proofs.NoValueLaws.{first_within, none_in, told}
use Rattle.filter_encoding.proofs.NodeLaws.{first_stuck, node_apart, second_stuck}
use Rattle.filter_encoding.proofs.PlaceLaws.{places_apart}
use Rattle.filter_encoding.proofs.Stuck.{AreApart, GoesOn, NoneHere, alike_itself, encoding_of, stuck_here}
use Rattle.filter_encoding.proofs.TypeLaws.{first_same, types_apart}

-- ---- what begins with two encodings

columns_apart : AreApart (listed type_bytes) (AreListed IsPlain)
columns_apart = listed_apart places_apart type_bytes IsPlain types_apart

abbrev prepared_of : List TypeTree → Formula → Prepared
prepared_of ts f = record { types = ts; filter = f }

pub encodings_apart : EncodingsAreApart
encodings_apart m n v w p q xs ys h g e =
    let s = first_same v w ((listed type_bytes p.types ++ node_bytes p.filter) ++ xs) ((listed type_bytes q.types ++ node_bytes q.filter) ++ ys) e in
    let t = columns_apart.apart p.types q.types (node_bytes p.filter ++ xs) (node_bytes q.filter ++ ys) h.types g.types
    (sym (append_assoc (listed type_bytes p.types) (node_bytes p.filter) xs) ∙ s.1 ∙ append_assoc (listed type_bytes q.types) (node_bytes q.filter) ys) in
    let u = node_apart m n p.filter q.filter xs ys h.filter g.filter t.1 in
    (s.0, ap₂ prepared_of t.0 u.0, u.1)

-- ---- after the version

abbrev Columns : List ℕ → Type 0
Columns = IsEncodingOf (listed type_bytes) (AreListed IsPlain)

encoding_goes_on : (n version : ℕ) → IsVersion version → GoesOn (version ∷ []) (IsEncoding n) (Then Columns (IsNodeEncoding n))
encoding_goes_on n version one = record {
  join = λ q r. record {
    version = version;
    value = prepared_of r.is_first.value r.is_second.value;
    is_version = one;
    is_one = record { types = r.is_first.is_one; filter = r.is_second.is_one };
    is = ap (λ xs. version ∷ xs) (r.is ∙ ap₂ (λ xs ys. xs ++ ys) r.is_first.is r.is_second.is);
  };
  split = λ s zs rest h e.
      let p = h.value in
      let w = first_same version h.version zs ((listed type_bytes p.types ++ node_bytes p.filter) ++ rest) (e ∙ ap (λ xs. xs ++ rest) h.is) in (
        listed type_bytes p.types ++ node_bytes p.filter,
        record {
          first = listed type_bytes p.types;
          second = node_bytes p.filter;
          is_first = encoding_of (listed type_bytes) (AreListed IsPlain) p.types h.is_one.types;
          is_second = encoding_of node_bytes (IsNode n) p.filter h.is_one.filter;
          is = refl;
        },
        w.1,
      );
}

-- the version that is written
pub written_version : (p : Prepared) → IsVersion (version_of p)
written_version p = by_test (list_any is_extension p.types || has_extended p.filter)
  where
    by_test : (b : Bool) → IsVersion (cond b 2 1)
    by_test true = inr refl
    by_test false = inl refl

no_columns : AreListed IsPlain []
no_columns = record { fit = omega arith; each = tt }

-- the encoding of a prepared filter in a version
one_encoding : (n version : ℕ) (p : Prepared) → IsVersion version → IsFormed n p → IsEncoding n (encoding_in version p)
one_encoding n version p one h = record { version = version; value = p; is_version = one; is_one = h; is = refl }

some_encoding : (n : ℕ) → (s : List ℕ) × IsEncoding n s
some_encoding n = (encoding_in 1 (prepared_of [] (constant True)), one_encoding n 1 (prepared_of [] (constant True)) (inl refl) (record { types = no_columns; filter = tt }))

-- another version
pub version_stuck : (n : ℕ) (old now : List ℕ) → now ≡ old → ((version : ℕ) (bs : List ℕ) → IsVersion version → old ≢ version ∷ bs) → IsStuck (IsEncoding n) old now
version_stuck n old now same other = subst (IsStuck (IsEncoding n) old) (sym same) (stuck_here (IsEncoding n) old (some_encoding n) (none old other))
  where
    none : (old : List ℕ) → ((version : ℕ) (bs : List ℕ) → IsVersion version → old ≢ version ∷ bs) → NoneHere (IsEncoding n) old
    none [] other s [] rest h alike e = let f : [] ≡ encoding_in h.version h.value ++ rest = e ∙ ap (λ xs. xs ++ rest) h.is in absurd (cc)
    none [] other s (z ∷ zs) rest h alike e = alike
    none (b ∷ old) other s [] rest h alike e = alike
    none (b ∷ old) other s (z ∷ zs) rest h alike e =
        let p = h.value in
        let w = first_same z h.version zs ((listed type_bytes p.types ++ node_bytes p.filter) ++ rest) (e ∙ ap (λ xs. xs ++ rest) h.is) in
        other h.version old h.is_version (ap (λ c. c ∷ old) (alike ∙ w.0))

-- which version comes first
abbrev pub Begun : List ℕ → List ℕ → Type 0
Begun old now = (version : ℕ) × IsVersion version × (old ≡ version ∷ now)

pub has_version : (old now : List ℕ) → Begun old now → HasVersion old
has_version old now b = (b.0, now, b.1, b.2)

pub columns_stuck : (n : ℕ) (old mid now : List ℕ) → Begun old mid → IsStuck Columns mid now → IsStuck (IsEncoding n) old now
columns_stuck n old mid now b stuck = first_stuck (b.0 ∷ []) (IsEncoding n) Columns (IsNodeEncoding n) old mid now (encoding_goes_on n b.0 b.1) (some_node n) b.2 stuck

pub filter_stuck : (n : ℕ) (ts : List TypeTree) (old mid here now : List ℕ) → Begun old mid → HasRead (listed type_bytes) (AreListed IsPlain) ts mid here → IsStuck (IsNodeEncoding n) here now → IsStuck (IsEncoding n) old now
filter_stuck n ts old mid here now b h stuck = second_stuck (listed type_bytes) (AreListed IsPlain) (b.0 ∷ []) (IsEncoding n) (IsNodeEncoding n) ts old mid here now columns_apart (encoding_goes_on n b.0 b.1) b.2 h stuck

-- an encoding in some version is read
abbrev pub HasBeenRead : ℕ → Prepared → List ℕ → List ℕ → Type 0
HasBeenRead n p old now = (version : ℕ) × IsVersion version × HasRead (encoding_in version) (IsFormed n) p old now

pub encoding_read : (n : ℕ) (ts : List TypeTree) (f : Formula) (old mid here now : List ℕ) → Begun old mid → HasRead (listed type_bytes) (AreListed IsPlain) ts mid here → HasRead node_bytes (IsNode n) f here now
    → HasBeenRead n (prepared_of ts f) old now
encoding_read n ts f old mid here now b h g = (
  b.0,
  b.1,
  record {
    is_one = record { types = h.is_one; filter = g.is_one };
    is = b.2 ∙ ap (λ xs. b.0 ∷ xs) (h.is ∙ ap (λ xs. listed type_bytes ts ++ xs) g.is ∙ sym (append_assoc (listed type_bytes ts) (node_bytes f) now));
  },
)

-- a refusal that is passed on
pub refused_on : (n : ℕ) (r : Result PreparedFilter FilterDecodeError) (e : FilterDecodeError) (old now : List ℕ) → IsErr r × IsErrAnd r (λ f. f ≡ e) → (e ≡ Bad → IsStuck (IsEncoding n) old now) → ReadsEncoding n r old now
refused_on n (Ok x) e old now h g = absurd (true≢false (sym h.0))
refused_on n (Err f) e old now h g = λ bad. g (sym h.1 ∙ bad)

-- bytes that cannot go on so are no want of memory
pub not_memory : (r : Result PreparedFilter FilterDecodeError) (e : FilterDecodeError) (old : List ℕ) → IsErr r × IsErrAnd r (λ f. f ≡ e) → e ≡ Bad → r ≡ Err NoMemory → HasVersion old
not_memory (Ok x) e old h bad is = absurd cc
not_memory (Err f) e old h bad is = let same = h.1 in absurd cc

-- ---- the first wrong byte

same_ends : (xs ys zs : List ℕ) → xs ++ zs ≡ ys ++ zs → xs ≡ ys
same_ends [] [] zs e = refl
same_ends [] (y ∷ ys) zs e = let long = ap length e in let more = length-append ys zs in absurd (omega arith)
same_ends (x ∷ xs) [] zs e = let long = ap length e in let more = length-append xs zs in absurd (omega arith)
same_ends (x ∷ xs) (y ∷ ys) zs e = let first : x ≡ y = cc in ap₂ (λ b bs. b ∷ bs) first (same_ends xs ys zs (cc))

at_end : (n : ℕ) (xs : List ℕ) → n < length xs → (b : ℕ) × (now : List ℕ) × (drop n xs ≡ b ∷ now)
at_end zero [] l = absurd (omega arith)
at_end zero (x ∷ xs) l = (x, xs, refl)
at_end (suc n) [] l = absurd (omega arith)
at_end (suc n) (x ∷ xs) l = at_end n xs (omega arith)

-- where the bytes are stuck
stuck_wrong : (Is : List ℕ → Type 0) (bytes : List ℕ) (place : ℕ) → place ≤ length bytes → IsStuck Is bytes (drop place bytes) → IsFirstWrong Is bytes place
stuck_wrong Is bytes place within stuck =
    let done : stuck.done ≡ take place bytes = same_ends stuck.done (take place bytes) (drop place bytes) (sym stuck.split ∙ take-then place bytes) in
    record {
      within = within;
      before = record { more = stuck.more; is_one = subst (λ xs. Is (xs ++ stuck.more)) done stuck.begins };
      wrong = λ less go.
          let (b, now, is) = at_end place bytes less in
          let w = inside place bytes b now is in
          let e : stuck.done ++ b ∷ go.more ≡ (take (suc place) bytes ++ go.more) ++ [] =
          ap (λ xs. xs ++ b ∷ go.more) done ∙ sym (append_assoc (take place bytes) (b ∷ []) go.more) ∙ ap (λ xs. xs ++ go.more) (sym w.1) ∙ sym (append-nil (take (suc place) bytes ++ go.more)) in
          let alike : BeginAlike (drop place bytes) (b ∷ go.more) = subst (λ xs. BeginAlike xs (b ∷ go.more)) (sym is) refl in
          stuck.none (take (suc place) bytes ++ go.more) (b ∷ go.more) [] go.is_one alike e;
      none = λ one. stuck.none bytes (drop place bytes) [] one (alike_itself (drop place bytes)) (sym stuck.split ∙ sym (append-nil bytes));
    }

-- what is left is what comes from an offset on
place_of : (done bytes now : List ℕ) (left place : ℕ) → bytes ≡ done ++ now → length now ≡ left → place ≡ length bytes - left → (place ≡ length done) × (place ≤ length bytes) × (drop place bytes ≡ now)
place_of done bytes now left place split rest is =
    let long : length bytes ≡ length done + length now = ap length split ∙ length-append done now in
    let count : place ≡ length done = omega arith in
    (count, omega arith, ap₂ drop count split ∙ drop_front done now)

pub wrong_at : (n : ℕ) (bytes now : List ℕ) (left place : ℕ) → length now ≡ left → place ≡ length bytes - left → IsStuck (IsEncoding n) bytes now → IsFirstWrong (IsEncoding n) bytes place
wrong_at n bytes now left place rest is stuck =
    let w = place_of stuck.done bytes now left place stuck.split rest is in
    stuck_wrong (IsEncoding n) bytes place w.1 (subst (IsStuck (IsEncoding n) bytes) (sym w.2) stuck)

-- bytes after an encoding
pub wrong_after : (n : ℕ) (p : Prepared) (bytes now : List ℕ) (left place : ℕ) → length now ≡ left → place ≡ length bytes - left → HasBeenRead n p bytes now → place < length bytes → IsFirstWrong (IsEncoding n) bytes place
wrong_after n p bytes now left place rest is (version, one, h) less =
    let w = place_of (encoding_in version p) bytes now left place h.is rest is in
    let done : take place bytes ≡ encoding_in version p = same_ends (take place bytes) (encoding_in version p) now (ap (λ xs. take place bytes ++ xs) (sym w.2) ∙ sym (take-then place bytes) ∙ h.is) in
    let (b, more, at) = at_end place bytes less in
    let next = inside place bytes b more at in
    record {
      within = w.1;
      before = record { more = []; is_one = subst (IsEncoding n) (sym done ∙ sym (append-nil (take place bytes))) (one_encoding n version p one h.is_one) };
      wrong = λ _ go.
          let o = go.is_one in
          let v = encodings_apart n n version o.version p o.value (b ∷ go.more) [] h.is_one o.is_one
          (ap (λ xs. xs ++ b ∷ go.more) (sym done) ∙ sym (append_assoc (take place bytes) (b ∷ []) go.more) ∙ ap (λ xs. xs ++ go.more) (sym next.1) ∙ o.is ∙ sym (append-nil (encoding_in o.version o.value))) in
          absurd (cc (v.2));
      none = λ o.
          let v = encodings_apart n n version o.version p o.value now [] h.is_one o.is_one (sym h.is ∙ o.is ∙ sym (append-nil (encoding_in o.version o.value))) in
          let f : b ∷ more ≡ [] = sym at ∙ w.2 ∙ v.2 in
          cc;
    }

-- nothing is left after the whole encoding
pub whole_read : (n : ℕ) (p : Prepared) (bytes now : List ℕ) (left place : ℕ) → length now ≡ left → place ≡ length bytes - left → HasBeenRead n p bytes now → length bytes ≤ place → (version : ℕ) × IsVersion version × (bytes ≡ encoding_in version p)
whole_read n p bytes now left place rest is (version, one, h) more =
    let w = place_of (encoding_in version p) bytes now left place h.is rest is in
    let long : length bytes ≡ length (encoding_in version p) + length now = ap length h.is ∙ length-append (encoding_in version p) now in
    let empty : length now ≡ 0 = omega arith in
    (version, one, h.is ∙ ap (λ xs. encoding_in version p ++ xs) (none now empty) ∙ append-nil (encoding_in version p))
  where
    none : (xs : List ℕ) → length xs ≡ 0 → xs ≡ []
    none [] e = refl
    none (x ∷ xs) e = absurd (omega arith)

-- one encoding, one prepared filter
pub same_encoding : (n v w : ℕ) (p q : Prepared) → IsFormed n p → IsFormed n q → encoding_in v p ≡ encoding_in w q → p ≡ q
same_encoding n v w p q h g e = (encodings_apart n n v w p q [] [] h g (ap (λ xs. xs ++ []) e)).1

-- ---- what reading answers

module _ (n : ℕ) (p : PreparedFilter) (bytes now : List ℕ) (left taken : ℕ) (rest : length now ≡ left) (is : taken ≡ length bytes - left) (small : length bytes < 2 ^ 64) (h : HasBeenRead n (prepared p) bytes now) where
  abbrev Answers : Result PreparedFilter FilterEncodingError → Type 0
  Answers r =
      MatchResult r (λ q. (q ≡ p) × (length bytes ≤ taken) × HasValues (formula p.filter))
      (λ e. ((e ≡ BadBytes taken) × (taken < length bytes)) ⊎ ((length bytes ≤ taken) × IsNoValueOf (prepared p) e))

  whole : length bytes ≤ taken → (version : ℕ) × IsVersion version × (bytes ≡ encoding_in version (prepared p))
  whole more = whole_read n (prepared p) bytes now left taken rest is h more

  same : length bytes ≤ taken → (version : ℕ) (q : Prepared) → IsFormed n q → bytes ≡ encoding_in version q → prepared p ≡ q
  same more version q g e = let w = whole more in same_encoding n w.0 version (prepared p) q h.2.is_one g (sym w.2 ∙ e)

  pub ok_read : (r : Result PreparedFilter FilterEncodingError) → Answers r → IfOk r (λ q. (version : ℕ) × IsVersion version × HasEncoding n (prepared q) × (bytes ≡ encoding_in version (prepared q)))
  ok_read (Ok q) a =
      let w = whole a.1 in
      subst (λ q. (version : ℕ) × IsVersion version × HasEncoding n (prepared q) × (bytes ≡ encoding_in version (prepared q))) (sym a.0) (w.0, w.1, record { formed = h.2.is_one; values = a.2 }, w.2)
  ok_read (Err e) a = tt

  pub ok_whole : (r : Result PreparedFilter FilterEncodingError) → Answers r → (version : ℕ) (q : Prepared) → IsVersion version → HasEncoding n q → bytes ≡ encoding_in version q → ReadsAs q r
  ok_whole (Ok x) a version q one g e = ap prepared a.0 ∙ same a.1 version q g.formed e
  ok_whole (Err d) (inl a) version q one g e = absurd ((wrong_after n (prepared p) bytes now left taken rest is h a.1).none (record { version = version; value = q; is_version = one; is_one = g.formed; is = e }))
  ok_whole (Err d) (inr a) version q one g e =
      let t = told (prepared p) d a.1 in
      absurd (none_in (formula p.filter) t.place t.first (subst (λ (x : Prepared). HasValues x.filter) (sym (same a.0 version q g.formed e)) g.values))

  pub ok_bad : (r : Result PreparedFilter FilterEncodingError) → Answers r → (place : ℕ) → r ≡ Err (BadBytes place) → IsFirstWrong (IsEncoding n) bytes place
  ok_bad (Ok x) a place e = absurd (cc)
  ok_bad (Err d) (inl a) place e = let same : taken ≡ place = (let f = a.0 in cc) in subst (IsFirstWrong (IsEncoding n) bytes) same (wrong_after n (prepared p) bytes now left taken rest is h a.1)
  ok_bad (Err d) (inr a) place e = let f = (told (prepared p) d a.1).is in absurd (cc)

  pub ok_no_value : (r : Result PreparedFilter FilterEncodingError) → Answers r → (place : ℕ) → r ≡ Err (NotAValue place) → HasNoValue n bytes place
  ok_no_value (Ok x) a place e = absurd (cc)
  ok_no_value (Err d) (inl a) place e = let f = a.0 in absurd (cc)
  ok_no_value (Err d) (inr a) place e =
      let w = whole a.0 in
      let t = told (prepared p) d a.1 in
      let same_place : t.offset ≡ place = (let f = t.is in cc) in
      let long = ap length w.2 in
      record {
        encoded = record { version = w.0; value = prepared p; is_version = w.1; is_one = h.2.is_one; is = w.2 };
        first = (
          t.place,
          omega (arith, same_place, t.at, small, long, first_within (formula p.filter) t.place t.first, length-append (listed type_bytes (prepared p).types) (node_bytes (formula p.filter))),
          t.first,
        );
      }

  pub ok_refused : (r : Result PreparedFilter FilterEncodingError) → Answers r → IfErr r (λ e. (e ≡ OutOfMemory) ⊎ (((place : ℕ) × (e ≡ BadBytes place)) ⊎ ((place : ℕ) × (e ≡ NotAValue place))))
  ok_refused (Ok x) a = tt
  ok_refused (Err d) (inl a) = inr (inl (taken, a.0))
  ok_refused (Err d) (inr a) = let t = told (prepared p) d a.1 in inr (inr (t.offset, t.is))

  -- memory is asked for only before
  pub ok_memory : (r : Result PreparedFilter FilterEncodingError) → Answers r → r ≡ Err OutOfMemory → HasVersion bytes
  ok_memory (Ok x) a e = absurd cc
  ok_memory (Err d) (inl a) e = let f = a.0 in absurd cc
  ok_memory (Err d) (inr a) e = let f = (told (prepared p) d a.1).is in absurd cc

-- where the bytes are stuck
pub bad_whole : (n : ℕ) (bytes : List ℕ) (place : ℕ) → IsFirstWrong (IsEncoding n) bytes place → (version : ℕ) (q : Prepared) → IsVersion version → HasEncoding n q → bytes ≡ encoding_in version q → BadBytes place ≡ OutOfMemory
bad_whole n bytes place w version q one g e = absurd (w.none (record { version = version; value = q; is_version = one; is_one = g.formed; is = e }))

pub bad_bad : (n : ℕ) (bytes : List ℕ) (at : ℕ) → IsFirstWrong (IsEncoding n) bytes at → (r : Result PreparedFilter FilterEncodingError) → r ≡ Err (BadBytes at) → (place : ℕ) → r ≡ Err (BadBytes place) → IsFirstWrong (IsEncoding n) bytes place
bad_bad n bytes at w r here place e = let same : at ≡ place = cc in subst (IsFirstWrong (IsEncoding n) bytes) same w
