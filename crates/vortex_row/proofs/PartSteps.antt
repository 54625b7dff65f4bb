-- Steps of the reading of values and of parts, by the values that a type has.
use Rattle.std.proofs.Common.{◌≡◌, ◌≢◌, ℕ, zero, suc, ◌<◌, ◌≤◌, ◌==◌, false, true, true≢false, List, [], ◌∷◌, ◌++◌, Option, Some as Present, None, refl, sym, subst, ap, ap₂, ◌∙◌, append_assoc, append-nil, arith}
use Rattle.std.specs.Prelude.{Result, Ok, Err, IsErr, pos}
use Rattle.std.specs.Result.{IsErrAnd}
use Rattle.std.proofs.lemmas.Bool.Decides.{nat_tests}
use Rattle.std.proofs.lemmas.Option.{same_Some}
use Rattle.std.proofs.lemmas.Str.{IsUtf8-nil}
use Rattle.vortex_dtype.specs.TypeTree.{TypeTree, null_type, bool_type, integer_type, utf8_type, binary_type, list_type, fixed_size_list_type, map_type, struct_type, union_type, variant_type, extension_type, TypeTrees, no_types, type_then, IsNullable, storage}
use Rattle.vortex_dtype.specs.declared.nullability.Nullability.TheVariants.{NonNullable}
use Rattle.vortex_dtype.specs.declared.ptype.PType.{PType}
use Rattle.vortex_dtype.specs.declared.ptype.PType.TheVariants.{U8, U16, U32, U64, I8, I16, I32, I64}
use Rattle.vortex_pvalue.specs.Numbers.{InRange}
use Rattle.vortex_value.specs.Equality.{HasNoTyped}
use Rattle.vortex_value.specs.Validity.{EachValid, EntriesValid, FieldsValid, HasType, Valid, ValidAt, type_with}
use Rattle.vortex_value.specs.Values.Content.{Content, null, content, contents}
use Rattle.vortex_value.specs.Values.RawOf.{raw_of, value_trees}
use Rattle.vortex_value.specs.Values.RawTree.{RawTree, absent, raw_bool, raw_integer, raw_text, raw_bytes, raw_tuple, raw_union, RawTrees, no_raws, raw_then}
use Rattle.vortex_value.specs.declared.values.ScalarValue.{ScalarValue}
use Rattle.vortex_row.specs.Held.{IsHeld}
use Rattle.vortex_row.specs.Keys.{key, keys}
use Rattle.vortex_row.specs.Reading.{AllHaveValues, ArePlain, AreKeys, AreSized, BeginAlike, ContinueWith, entry_type, HasPlain, HasRead, HasValues, HavePlain, HaveRead, IsChild, IsKey, IsPlain, IsPresent, IsStuck, NoneBegins, Reads}
use Rattle.vortex_row.specs.declared.reader.KeyDecodeError.{KeyDecodeError}
use Rattle.vortex_row.specs.declared.reader.KeyDecodeError.TheVariants.{Bad}
use Rattle.vortex_row.proofs.ApartLaws.{key-apart}
use Rattle.vortex_row.proofs.ByteLaws.{no_bytes}
use Rattle.vortex_row.proofs.OrderLaws.{begins, least}
use Rattle.vortex_row.proofs.StuckLaws.{Begin, Some, continue-itself, continue-then, none-byte, none-end, stuck-here, stuck-later, stuck-same, stuck-within}
use Rattle.vortex_row.proofs.PlaceLaws.{first_of, rest_of}

pub null_allowed : (t : TypeTree) → Valid t absent → IsNullable t
null_allowed (extension_type id metadata t) h = null_allowed t h
null_allowed _ h = h

pub null_valid : (t : TypeTree) → IsNullable t → Valid t absent
null_valid (extension_type id metadata t) h = null_valid t h
null_valid _ h = h

-- each type that has values has one

pub zero_fits : (k : PType) → InRange k (pos 0)
zero_fits U8 = omega arith
zero_fits U16 = omega arith
zero_fits U32 = omega arith
zero_fits U64 = omega arith
zero_fits I8 = omega arith
zero_fits I16 = omega arith
zero_fits I32 = omega arith
zero_fits I64 = omega arith

pub copies : ℕ → RawTree → RawTrees
copies zero v = no_raws
copies (suc n) v = raw_then v (copies n v)

pub some_sized : (n : ℕ) (t : TypeTree) (v : RawTree) → IsPlain (Valid t) v → (vs : RawTrees) × ArePlain (AreSized n t) vs
some_sized zero t v h = (no_raws, record { kind = record { count = refl; valid = tt }; held = tt; untyped = tt })
some_sized (suc n) t v h =
    let (vs, all) = some_sized n t v h in
    (raw_then v vs, record { kind = record { count = ap suc all.kind.count; valid = (h.kind, all.kind.valid) }; held = (h.held, all.held); untyped = (h.untyped, all.untyped) })

first_child : (id : ℕ) (ids : List ℕ) (t : TypeTree) (ts : TypeTrees) (v : RawTree) → Valid t v → Valid (union_type [] (type_then t ts) (id ∷ ids) NonNullable) (raw_union id v)
first_child id ids t ts v h = let e : (id == id) ≡ true = grind (arith, nat_tests) in rw e h

mutual
  pub some_value : (t : TypeTree) → HasValues t → (v : RawTree) × IsPlain (Valid t) v
  some_value null_type h = (absent, record { kind = refl; held = tt; untyped = tt })
  some_value (bool_type n) h = (raw_bool false, record { kind = tt; held = tt; untyped = tt })
  some_value (integer_type k n) h = (raw_integer k (pos 0), record { kind = (refl, zero_fits k); held = omega arith; untyped = tt })
  some_value (utf8_type n) h = (raw_text [], record { kind = tt; held = (no_bytes, IsUtf8-nil); untyped = tt })
  some_value (binary_type n) h = (raw_bytes [], record { kind = tt; held = no_bytes; untyped = tt })
  some_value (list_type e n) h = (raw_tuple no_raws, record { kind = tt; held = tt; untyped = tt })
  some_value (fixed_size_list_type e size n) h =
      let (v, plain) = some_value e h in
      let (vs, all) = some_sized size e v plain in
      (raw_tuple vs, record { kind = (all.kind.count, all.kind.valid); held = all.held; untyped = all.untyped })
  some_value (map_type k w sorted n) h = (raw_tuple no_raws, record { kind = tt; held = tt; untyped = tt })
  some_value (struct_type names ts n) h = let (vs, all) = some_values ts h in (raw_tuple vs, record { kind = all.kind; held = all.held; untyped = all.untyped })
  some_value (union_type names (type_then t ts) (id ∷ ids) n) h =
      let (v, plain) = some_value t h.1 in
      (raw_union id v, record { kind = first_child id ids t ts v plain.kind; held = (h.0, plain.held); untyped = plain.untyped })
  some_value (union_type names no_types ids n) h = absurd h
  some_value (union_type names (type_then t ts) [] n) h = absurd h
  some_value (variant_type n) h = absurd h
  some_value (extension_type id metadata t) h = let (v, plain) = some_value t h in (v, record { kind = plain.kind; held = plain.held; untyped = plain.untyped })

  pub some_values : (ts : TypeTrees) → AllHaveValues ts → (vs : RawTrees) × ArePlain (FieldsValid ts) vs
  some_values no_types h = (no_raws, record { kind = tt; held = tt; untyped = tt })
  some_values (type_then t ts) h =
      let (v, plain) = some_value t h.0 in
      let (vs, all) = some_values ts h.1 in
      (raw_then v vs, record { kind = (plain.kind, all.kind); held = (plain.held, all.held); untyped = (plain.untyped, all.untyped) })

pub some-keys : (All : RawTrees → Type 0) → (vs : RawTrees) × ArePlain All vs → Some (AreKeys All)
some-keys All h = (keys (contents h.0), record { values = h.0; plain = h.1; is = refl })

pub some-key : (One : RawTree → Type 0) → (v : RawTree) × IsPlain One v → Some (IsKey One)
some-key One h = (key (content h.0), record { value = h.0; plain = h.1; is = refl })

-- nothing that begins with this byte, which all of the strings do

pub stuck-first : (Is : List ℕ → Type 0) (b : ℕ) (old : List ℕ) → ((s : List ℕ) → Is s → (more : List ℕ) × (s ≡ b ∷ more)) → ((bs : List ℕ) → old ≢ b ∷ bs) → IsStuck Is old old
stuck-first Is b old begins other = stuck-here Is old (λ s zs rest h alike e.
    let first = begins s h in
    not-alike old zs (first.0 ++ rest) other alike (e ∙ ap (λ xs. xs ++ rest) first.1))
  where
    not-alike : (old zs more : List ℕ) → ((bs : List ℕ) → old ≢ b ∷ bs) → BeginAlike old zs → zs ≡ b ∷ more → ⊥
    not-alike [] [] more other alike e = cc
    not-alike [] (z ∷ zs) more other alike e = alike
    not-alike (x ∷ old) [] more other alike e = alike
    not-alike (x ∷ old) (z ∷ zs) more other alike e = other old (ap (λ c. c ∷ old) (alike ∙ first_of z b zs more e))

-- parts that come after each other

-- All are the parts of which the first is one of One and the others are More
pub record Takes (All : RawTrees → Type 0) (One : RawTree → Type 0) (More : RawTrees → Type 0) : Type 0 where
  pub join : (v : RawTree) (vs : RawTrees) → One v → More vs → All (raw_then v vs)
  pub split : (v : RawTree) (vs : RawTrees) → All (raw_then v vs) → One v × More vs

key-first : (c : Content) → (first : ℕ) × (rest : List ℕ) × (key c ≡ first ∷ rest) × (0 < first)
key-first c = let head = begins c in (head.first, head.rest, head.is, some c head.first head.low)
  where
    some : (c : Content) (b : ℕ) → least c ≤ b → 0 < b
    some null b h = omega arith
    some _ b h = omega arith

-- no key begins as the end of parts does
pub no-end : (c : Content) (xs ys : List ℕ) → ¬ (0 ∷ xs ≡ key c ++ ys)
no-end c xs ys e =
    let (first, rest, is, some) = key-first c in
    let same : 0 ≡ first = first_of 0 first xs (rest ++ ys) (e ∙ ap (λ bs. bs ++ ys) is) in
    omega arith

part-split : (All : RawTrees → Type 0) (One : RawTree → Type 0) (More : RawTrees → Type 0) (v : RawTree) → Takes All One More → IsPlain One v → (vs : RawTrees) (zs rest : List ℕ) → ArePlain All vs
    → key (content v) ++ zs ≡ keys (contents vs) ++ rest → (q : List ℕ) × AreKeys More q × (zs ≡ q ++ rest)
part-split All One More v takes plain no_raws zs rest all e = absurd (no-end (content v) rest zs (sym e))
part-split All One More v takes plain (raw_then w ws) zs rest all e =
    let f : key (content v) ++ zs ≡ key (content w) ++ (keys (contents ws) ++ rest) = e ∙ append_assoc (key (content w)) (keys (contents ws)) rest in
    let one = key-apart (content v) (content w) zs (keys (contents ws) ++ rest) plain.untyped plain.held all.held.0 f in
    (keys (contents ws), record { values = ws; plain = record { kind = (takes.split w ws all.kind).1; held = all.held.1; untyped = all.untyped.1 }; is = refl }, one.1)

-- after a part come the others
pub continue-part : (All : RawTrees → Type 0) (One : RawTree → Type 0) (More : RawTrees → Type 0) (v : RawTree) → Takes All One More → IsPlain One v
    → ContinueWith (key (content v)) (AreKeys All) (AreKeys More)
continue-part All One More v takes plain = record {
  join = λ q h. record {
    values = raw_then v h.values;
    plain = record { kind = takes.join v h.values plain.kind h.plain.kind; held = (plain.held, h.plain.held); untyped = (plain.untyped, h.plain.untyped) };
    is = ap (λ xs. key (content v) ++ xs) h.is;
  };
  split = λ s zs rest h e. part-split All One More v takes plain h.values zs rest h.plain (e ∙ ap (λ xs. xs ++ rest) h.is);
}

part-front : (All : RawTrees → Type 0) (One : RawTree → Type 0) (More : RawTrees → Type 0) (old : List ℕ) → Takes All One More → (All no_raws → (bs : List ℕ) → old ≢ 0 ∷ bs)
    → (vs : RawTrees) (zs rest : List ℕ) → ArePlain All vs → BeginAlike old zs → zs ≡ keys (contents vs) ++ rest → (q more : List ℕ) × IsKey One q × (zs ≡ q ++ more)
part-front All One More [] takes other no_raws [] rest all alike e = absurd (cc)
part-front All One More [] takes other no_raws (z ∷ zs) rest all alike e = absurd alike
part-front All One More (b ∷ old) takes other no_raws [] rest all alike e = absurd alike
part-front All One More (b ∷ old) takes other no_raws (z ∷ zs) rest all alike e =
    absurd (other all.kind old (ap (λ c. c ∷ old) (alike ∙ first_of z 0 zs rest e)))
part-front All One More old takes other (raw_then w ws) zs rest all alike e = (
  key (content w),
  keys (contents ws) ++ rest,
  record { value = w; plain = record { kind = (takes.split w ws all.kind).0; held = all.held.0; untyped = all.untyped.0 }; is = refl },
  e ∙ append_assoc (key (content w)) (keys (contents ws)) rest,
)

-- a part is the beginning of the parts
pub begin-part : (All : RawTrees → Type 0) (One : RawTree → Type 0) (More : RawTrees → Type 0) (old : List ℕ) → Takes All One More → Some (AreKeys More)
    → (All no_raws → (bs : List ℕ) → old ≢ 0 ∷ bs) → Begin (IsKey One) (AreKeys All) old
begin-part All One More old takes some other = record {
  extend = λ q h.
      let (more, others) = some in (
        more,
        record {
          values = raw_then h.value others.values;
          plain = record { kind = takes.join h.value others.values h.plain.kind others.plain.kind; held = (h.plain.held, others.plain.held); untyped = (h.plain.untyped, others.plain.untyped) };
          is = ap₂ (λ xs ys. xs ++ ys) h.is others.is;
        },
      );
  front = λ s zs rest h alike e. part-front All One More old takes other h.values zs rest h.plain alike (e ∙ ap (λ xs. xs ++ rest) h.is);
}

-- the parts so far, of all, and what the others are

abbrev pub joined : RawTrees → RawTrees → RawTrees
joined no_raws ws = ws
joined (raw_then v vs) ws = raw_then v (joined vs ws)

joined-none : (vs : RawTrees) → joined vs no_raws ≡ vs
joined-none no_raws = refl
joined-none (raw_then v vs) = ap (raw_then v) (joined-none vs)

joined-more : (ps : List (Option ScalarValue)) (p : Option ScalarValue) (ws : RawTrees) → joined (value_trees (ps ++ p ∷ [])) ws ≡ joined (value_trees ps) (raw_then (raw_of p) ws)
joined-more [] p ws = refl
joined-more (q ∷ ps) p ws = ap (raw_then (raw_of q)) (joined-more ps p ws)

pub record SoFar (All : RawTrees → Type 0) (vs : RawTrees) (old : List ℕ) (More : RawTrees → Type 0) (now : List ℕ) : Type 0 where
  pub front : List ℕ
  pub split : old ≡ front ++ now
  pub go : ContinueWith front (AreKeys All) (AreKeys More)
  pub read : (ws : RawTrees) (end : List ℕ) → HaveRead More ws now end → HaveRead All (joined vs ws) old end

pub so-far-none : (All : RawTrees → Type 0) (old : List ℕ) → SoFar All no_raws old All old
so-far-none All old = record { front = []; split = refl; go = continue-itself (AreKeys All); read = λ ws end h. h }

then-read : (All : RawTrees → Type 0) (One : RawTree → Type 0) (More : RawTrees → Type 0) (v : RawTree) (ws : RawTrees) (now later end : List ℕ) → Takes All One More → HasRead One v now later → HaveRead More ws later end
    → HaveRead All (raw_then v ws) now end
then-read All One More v ws now later end takes one more = record {
  plain = record {
    kind = takes.join v ws one.plain.kind more.plain.kind;
    held = (one.plain.held, more.plain.held);
    untyped = (one.plain.untyped, more.plain.untyped);
  };
  is = one.is ∙ ap (λ xs. key (content v) ++ xs) more.is ∙ sym (append_assoc (key (content v)) (keys (contents ws)) end);
}

pub so-far-more : (All : RawTrees → Type 0) (One : RawTree → Type 0) (Rest More : RawTrees → Type 0) (ps qs : List (Option ScalarValue)) (p : Option ScalarValue) (old now later : List ℕ)
    → SoFar All (value_trees ps) old Rest now → Takes Rest One More → HasRead One (raw_of p) now later → qs ≡ ps ++ p ∷ [] → SoFar All (value_trees qs) old More later
so-far-more All One Rest More ps qs p old now later so takes one e = record {
  front = so.front ++ key (content (raw_of p));
  split = so.split ∙ ap (λ xs. so.front ++ xs) one.is ∙ sym (append_assoc so.front (key (content (raw_of p))) later);
  go = continue-then so.front (key (content (raw_of p))) (AreKeys All) (AreKeys Rest) (AreKeys More) so.go (continue-part Rest One More (raw_of p) takes one.plain);
  read = λ ws end h.
      subst (λ vs. HaveRead All vs old end) (sym (ap (λ xs. joined (value_trees xs) ws) e ∙ joined-more ps p ws))
      (so.read (raw_then (raw_of p) ws) end (then-read Rest One More (raw_of p) ws now later end takes one h));
}

-- the end comes, where it may
pub so-far-end : (All More : RawTrees → Type 0) (vs : RawTrees) (old now end : List ℕ) → SoFar All vs old More now → More no_raws → now ≡ 0 ∷ end → HaveRead All vs old end
so-far-end All More vs old now end so none e =
    subst (λ ws. HaveRead All ws old end) (joined-none vs) (so.read no_raws end (record { plain = record { kind = none; held = tt; untyped = tt }; is = e }))

-- the next part is not there
pub so-far-stuck : (All : RawTrees → Type 0) (One : RawTree → Type 0) (Rest More : RawTrees → Type 0) (vs : RawTrees) (old now later : List ℕ) → SoFar All vs old Rest now
    → Some (AreKeys Rest) → Some (AreKeys More) → Takes Rest One More → (Rest no_raws → (bs : List ℕ) → now ≢ 0 ∷ bs) → IsStuck (IsKey One) now later
    → IsStuck (AreKeys All) old later
so-far-stuck All One Rest More vs old now later so some others takes other stuck =
    stuck-later so.front (AreKeys All) (AreKeys Rest) old now later so.go so.split some
    (stuck-within (IsKey One) (AreKeys Rest) now later (begin-part Rest One More now takes others other) stuck)

-- the end is not there
pub so-far-open : (All Rest : RawTrees → Type 0) (vs : RawTrees) (old now : List ℕ) → SoFar All vs old Rest now → Rest no_raws → ((v : RawTree) (ws : RawTrees) → ¬ (Rest (raw_then v ws)))
    → ((bs : List ℕ) → now ≢ 0 ∷ bs) → IsStuck (AreKeys All) old now
so-far-open All Rest vs old now so none never other =
    let nothing : (ws : RawTrees) → ArePlain Rest ws → (more : List ℕ) × (keys (contents ws) ≡ 0 ∷ more) = λ ws h. only_none ws h in
    stuck-later so.front (AreKeys All) (AreKeys Rest) old now now so.go so.split
    (some-keys Rest (no_raws, record { kind = none; held = tt; untyped = tt }))
    (stuck-first (AreKeys Rest) 0 now (λ s h. let (more, e) = nothing h.values h.plain in (more, h.is ∙ e)) other)
  where
    only_none : (ws : RawTrees) → ArePlain Rest ws → (more : List ℕ) × (keys (contents ws) ≡ 0 ∷ more)
    only_none no_raws h = ([], refl)
    only_none (raw_then w ws) h = absurd (never w ws h.kind)

-- the parts of each kind of type

pub takes-each : (e : TypeTree) → Takes (EachValid e) (Valid e) (EachValid e)
takes-each e = record { join = λ v vs h k. (h, k); split = λ v vs h. h }

pub takes-sized : (n m : ℕ) (e : TypeTree) → n ≡ suc m → Takes (AreSized n e) (Valid e) (AreSized m e)
takes-sized n m e is = record {
  join = λ v vs h k. record { count = let c = k.count in omega arith; valid = (h, k.valid) };
  split = λ v vs h. (h.valid.0, record { count = let c = h.count in omega arith; valid = h.valid.1 });
}

pub takes-field : (t : TypeTree) (ts : TypeTrees) → Takes (FieldsValid (type_then t ts)) (Valid t) (FieldsValid ts)
takes-field t ts = record { join = λ v vs h k. (h, k); split = λ v vs h. h }

entry-join : (k w : TypeTree) (v : RawTree) (vs : RawTrees) → Valid (entry_type k w) v → EntriesValid k w vs → EntriesValid k w (raw_then v vs)
entry-join k w (raw_tuple (raw_then x (raw_then y no_raws))) vs h g = (h.0, h.1.0, g)
entry-join k w (raw_tuple (raw_then x (raw_then y (raw_then z zs)))) vs h g = absurd h.1.1
entry-join k w (raw_tuple (raw_then x no_raws)) vs h g = absurd h.1
entry-join k w (raw_tuple no_raws) vs h g = absurd h
entry-join k w absent vs h g = absurd (cc)
entry-join k w _ vs h g = absurd h

entry-split : (k w : TypeTree) (v : RawTree) (vs : RawTrees) → EntriesValid k w (raw_then v vs) → Valid (entry_type k w) v × EntriesValid k w vs
entry-split k w (raw_tuple (raw_then x (raw_then y no_raws))) vs h = ((h.0, (h.1, tt)), h.2)
entry-split k w (raw_tuple (raw_then x (raw_then y (raw_then z zs)))) vs h = absurd h
entry-split k w (raw_tuple (raw_then x no_raws)) vs h = absurd h
entry-split k w (raw_tuple no_raws) vs h = absurd h
entry-split k w _ vs h = absurd h

pub takes-entry : (k w : TypeTree) → Takes (EntriesValid k w) (Valid (entry_type k w)) (EntriesValid k w)
takes-entry k w = record { join = entry-join k w; split = entry-split k w }

-- keys of present values that all begin with one byte

-- the keys of the present values of the type are b and then one of Rest
pub record Opens (t : TypeTree) (b : ℕ) (Rest : List ℕ → Type 0) : Type 0 where
  pub join : (q : List ℕ) → Rest q → IsKey (IsPresent t) (b ∷ q)
  pub split : (v : RawTree) → IsPlain (IsPresent t) v → (q : List ℕ) × Rest q × (key (content v) ≡ b ∷ q)

opens-split : (t : TypeTree) (b : ℕ) (Rest : List ℕ → Type 0) → Opens t b Rest → (s zs rest : List ℕ) → IsKey (IsPresent t) s → b ∷ zs ≡ s ++ rest → (q : List ℕ) × Rest q × (zs ≡ q ++ rest)
opens-split t b Rest opens s zs rest h e =
    let (q, is_rest, is) = opens.split h.value h.plain in
    (q, is_rest, rest_of b b zs (q ++ rest) (e ∙ ap (λ xs. xs ++ rest) (h.is ∙ is)))

pub opens-continue : (t : TypeTree) (b : ℕ) (Rest : List ℕ → Type 0) → Opens t b Rest → ContinueWith (b ∷ []) (IsKey (IsPresent t)) Rest
opens-continue t b Rest opens = record { join = opens.join; split = opens-split t b Rest opens }

pub opens-stuck : (t : TypeTree) (b : ℕ) (Rest : List ℕ → Type 0) (old mid now : List ℕ) → Opens t b Rest → old ≡ b ∷ mid → Some Rest → IsStuck Rest mid now
    → IsStuck (IsKey (IsPresent t)) old now
opens-stuck t b Rest old mid now opens e some stuck = stuck-later (b ∷ []) (IsKey (IsPresent t)) Rest old mid now (opens-continue t b Rest opens) e some stuck

pub opens-none : (t : TypeTree) (b : ℕ) (Rest : List ℕ → Type 0) (old now : List ℕ) → Opens t b Rest → now ≡ old → ((bs : List ℕ) → old ≢ b ∷ bs) → IsStuck (IsKey (IsPresent t)) old now
opens-none t b Rest old now opens same other =
    subst (λ xs. IsStuck (IsKey (IsPresent t)) old xs) (sym same)
    (stuck-first (IsKey (IsPresent t)) b old (λ s h. let (q, is_rest, is) = opens.split h.value h.plain in (q, h.is ∙ is)) other)

-- tuples

-- the present values of the type are the tuples of these parts
pub record TupleOf (t : TypeTree) (All : RawTrees → Type 0) : Type 0 where
  pub join : (vs : RawTrees) → All vs → Valid t (raw_tuple vs)
  pub split : (v : RawTree) → IsPresent t v → (vs : RawTrees) × (v ≡ raw_tuple vs) × All vs

tuple-join : (t : TypeTree) (All : RawTrees → Type 0) → TupleOf t All → (q : List ℕ) → AreKeys All q → IsKey (IsPresent t) (23 ∷ q)
tuple-join t All of q h = record {
  value = raw_tuple h.values;
  plain = record { kind = record { valid = of.join h.values h.plain.kind; present = refl }; held = h.plain.held; untyped = h.plain.untyped };
  is = ap (λ xs. 23 ∷ xs) h.is;
}

tuple-split : (t : TypeTree) (All : RawTrees → Type 0) → TupleOf t All → (v : RawTree) → IsPlain (IsPresent t) v → (q : List ℕ) × AreKeys All q × (key (content v) ≡ 23 ∷ q)
tuple-split t All of v h =
    let (vs, is, all) = of.split v h.kind in
    let held = subst (λ x. IsHeld (content x)) is h.held in
    let untyped = subst (λ x. HasNoTyped (content x)) is h.untyped in
    (keys (contents vs), record { values = vs; plain = record { kind = all; held = held; untyped = untyped }; is = refl }, ap (λ x. key (content x)) is)

-- the parts of a value that a key can have
pub tuple-parts : (t : TypeTree) (All : RawTrees → Type 0) → TupleOf t All → HasPlain (IsPresent t) → HavePlain All
tuple-parts t All of p =
    let (vs, is, all) = of.split p.0 p.1.kind in
    (vs, record { kind = all; held = subst (λ x. IsHeld (content x)) is p.1.held; untyped = subst (λ x. HasNoTyped (content x)) is p.1.untyped })

-- a value of these parts
pub parts-tuple : (t : TypeTree) (All : RawTrees → Type 0) → TupleOf t All → HavePlain All → HasPlain (IsPresent t)
parts-tuple t All of h = (raw_tuple h.0, record { kind = record { valid = of.join h.0 h.1.kind; present = refl }; held = h.1.held; untyped = h.1.untyped })

pub tuple-opens : (t : TypeTree) (All : RawTrees → Type 0) → TupleOf t All → Opens t 23 (AreKeys All)
tuple-opens t All of = record { join = tuple-join t All of; split = tuple-split t All of }

pub tuple-read : (t : TypeTree) (All : RawTrees → Type 0) (vs : RawTrees) (old mid now : List ℕ) → TupleOf t All → old ≡ 23 ∷ mid → HaveRead All vs mid now → HasRead (IsPresent t) (raw_tuple vs) old now
tuple-read t All vs old mid now of e h = record {
  plain = record { kind = record { valid = of.join vs h.plain.kind; present = refl }; held = h.plain.held; untyped = h.plain.untyped };
  is = e ∙ ap (λ xs. 23 ∷ xs) h.is;
}

pub list-tuple : (e : TypeTree) → TupleOf (list_type e NonNullable) (EachValid e)
list-tuple e = record { join = λ vs h. h; split = from }
  where
    from : (v : RawTree) → IsPresent (list_type e NonNullable) v → (vs : RawTrees) × (v ≡ raw_tuple vs) × EachValid e vs
    from (raw_tuple vs) h = (vs, refl, h.valid)
    from absent h = let p = h.present in absurd (cc)
    from _ h = absurd h.valid

pub fixed-tuple : (e : TypeTree) (size : ℕ) → TupleOf (fixed_size_list_type e size NonNullable) (AreSized size e)
fixed-tuple e size = record { join = λ vs h. (h.count, h.valid); split = from }
  where
    from : (v : RawTree) → IsPresent (fixed_size_list_type e size NonNullable) v → (vs : RawTrees) × (v ≡ raw_tuple vs) × AreSized size e vs
    from (raw_tuple vs) h = (vs, refl, record { count = h.valid.0; valid = h.valid.1 })
    from absent h = let p = h.present in absurd (cc)
    from _ h = absurd h.valid

pub map-tuple : (k w : TypeTree) → TupleOf (map_type k w false NonNullable) (EntriesValid k w)
map-tuple k w = record { join = λ vs h. h; split = from }
  where
    from : (v : RawTree) → IsPresent (map_type k w false NonNullable) v → (vs : RawTrees) × (v ≡ raw_tuple vs) × EntriesValid k w vs
    from (raw_tuple vs) h = (vs, refl, h.valid)
    from absent h = let p = h.present in absurd (cc)
    from _ h = absurd h.valid

pub struct-tuple : (ts : TypeTrees) → TupleOf (struct_type [] ts NonNullable) (FieldsValid ts)
struct-tuple ts = record { join = λ vs h. h; split = from }
  where
    from : (v : RawTree) → IsPresent (struct_type [] ts NonNullable) v → (vs : RawTrees) × (v ≡ raw_tuple vs) × FieldsValid ts vs
    from (raw_tuple vs) h = (vs, refl, h.valid)
    from absent h = let p = h.present in absurd (cc)
    from _ h = absurd h.valid

-- a tagged child

pub tagged-join : (ids : List ℕ) (ts : TypeTrees) (q : List ℕ) → IsChild ids ts q → IsKey (IsPresent (union_type [] ts ids NonNullable)) (24 ∷ q)
tagged-join ids ts q h = record {
  value = raw_union h.id h.is_key.value;
  plain = record {
    kind = record { valid = subst (λ o. HasType o (λ t. ValidAt (storage t) h.is_key.value)) (sym h.has) h.is_key.plain.kind; present = refl };
    held = (h.small, h.is_key.plain.held);
    untyped = h.is_key.plain.untyped;
  };
  is = ap (λ xs. 24 ∷ xs) (h.is ∙ ap (λ xs. h.id ∷ xs) h.is_key.is);
}

child-of : (id : ℕ) (ids : List ℕ) (ts : TypeTrees) (v : RawTree) (o : Option TypeTree) → type_with id ids ts ≡ o → HasType o (λ t. ValidAt (storage t) v) → (t : TypeTree) × (type_with id ids ts ≡ Present t) × Valid t v
child-of id ids ts v None e h = absurd h
child-of id ids ts v (Present t) e h = (t, e, h)

tagged-split : (ids : List ℕ) (ts : TypeTrees) (v : RawTree) → IsPlain (IsPresent (union_type [] ts ids NonNullable)) v → (q : List ℕ) × IsChild ids ts q × (key (content v) ≡ 24 ∷ q)
tagged-split ids ts (raw_union id v) h =
    let (t, has, valid) = child-of id ids ts v (type_with id ids ts) refl h.kind.valid in (
      id ∷ key (content v),
      record {
        id = id;
        small = h.held.0;
        type = t;
        has = has;
        child = key (content v);
        is_key = record { value = v; plain = record { kind = valid; held = h.held.1; untyped = h.untyped }; is = refl };
        is = refl;
      },
      refl,
    )
tagged-split ids ts absent h = let p = h.kind.present in absurd (cc)
tagged-split ids ts _ h = absurd h.kind.valid

pub tagged-opens : (ids : List ℕ) (ts : TypeTrees) → Opens (union_type [] ts ids NonNullable) 24 (IsChild ids ts)
tagged-opens ids ts = record { join = tagged-join ids ts; split = tagged-split ids ts }

pub continue-child : (id : ℕ) (ids : List ℕ) (ts : TypeTrees) (t : TypeTree) → id < 256 → type_with id ids ts ≡ Present t → ContinueWith (id ∷ []) (IsChild ids ts) (IsKey (Valid t))
continue-child id ids ts t small has = record {
  join = λ q h. record { id = id; small = small; type = t; has = has; child = q; is_key = h; is = refl };
  split = λ s zs rest h e.
      let f : id ∷ zs ≡ h.id ∷ (h.child ++ rest) = e ∙ ap (λ xs. xs ++ rest) h.is in
      let same : id ≡ h.id = first_of id h.id zs (h.child ++ rest) f in
      let both : Present t ≡ Present h.type = sym has ∙ ap (λ i. type_with i ids ts) same ∙ h.has in
      (h.child, subst (λ u. IsKey (Valid u) h.child) (sym (same_Some t h.type both)) h.is_key, rest_of id h.id zs (h.child ++ rest) f);
}

-- no variant has the id
pub child-none : (old now : List ℕ) (ids : List ℕ) (ts : TypeTrees) (id : ℕ) (more : List ℕ) → now ≡ old → old ≡ id ∷ more → type_with id ids ts ≡ None → IsStuck (IsChild ids ts) old now
child-none old now ids ts id more same e none =
    subst (λ xs. IsStuck (IsChild ids ts) old xs) (sym same) (stuck-here (IsChild ids ts) old (none-byte (IsChild ids ts) id old more e no_id))
  where
    no_id : NoneBegins (IsChild ids ts) id
    no_id s zs rest h f =
        let same : id ≡ h.id = first_of id h.id zs (h.child ++ rest) (f ∙ ap (λ xs. xs ++ rest) h.is) in
        let both : Present h.type ≡ None = sym h.has ∙ ap (λ i. type_with i ids ts) (sym same) ∙ none in
        cc

-- the type of the variant with the id has no value
pub child-never : (old now : List ℕ) (ids : List ℕ) (ts : TypeTrees) (id : ℕ) (more : List ℕ) (t : TypeTree) → now ≡ old → old ≡ id ∷ more → type_with id ids ts ≡ Present t → ¬ (HasPlain (Valid t)) → IsStuck (IsChild ids ts) old now
child-never old now ids ts id more t same e has never =
    subst (λ xs. IsStuck (IsChild ids ts) old xs) (sym same) (stuck-here (IsChild ids ts) old (none-byte (IsChild ids ts) id old more e no_id))
  where
    no_id : NoneBegins (IsChild ids ts) id
    no_id s zs rest h f =
        let same : id ≡ h.id = first_of id h.id zs (h.child ++ rest) (f ∙ ap (λ xs. xs ++ rest) h.is) in
        let both : Present t ≡ Present h.type = sym has ∙ ap (λ i. type_with i ids ts) same ∙ h.has in
        never (subst (λ u. HasPlain (Valid u)) (sym (same_Some t h.type both)) (h.is_key.value, h.is_key.plain))

pub child-missing : (old now : List ℕ) (ids : List ℕ) (ts : TypeTrees) → now ≡ old → old ≡ [] → IsStuck (IsChild ids ts) old now
child-missing old now ids ts same e =
    subst (λ xs. IsStuck (IsChild ids ts) old xs) (sym same) (stuck-here (IsChild ids ts) old (none-end (IsChild ids ts) old e (λ h. let f = h.is in absurd (cc))))

-- nulls

-- a value that is no null, of a type that takes none or whose null is not there
pub present-stuck : (t : TypeTree) (old mid now : List ℕ) → mid ≡ old → (IsNullable t → (bs : List ℕ) → old ≢ 1 ∷ bs) → IsStuck (IsKey (IsPresent t)) mid now → IsStuck (IsKey (Valid t)) old now
present-stuck t old mid now same other stuck =
    stuck-within (IsKey (IsPresent t)) (IsKey (Valid t)) old now
    (record {
      extend = λ q h. ([], subst (IsKey (Valid t)) (sym (append-nil q)) (record { value = h.value; plain = record { kind = h.plain.kind.valid; held = h.plain.held; untyped = h.plain.untyped }; is = h.is }));
      front = λ s zs rest h alike e. null_or_value s zs rest h.value h.plain h.is alike e;
    }) (subst (λ xs. IsStuck (IsKey (IsPresent t)) xs now) same stuck)
  where
    no_null : (old zs rest : List ℕ) → (IsNullable t → (bs : List ℕ) → old ≢ 1 ∷ bs) → IsNullable t → BeginAlike old zs → zs ≡ 1 ∷ rest → ⊥
    no_null [] [] rest other n alike e = cc
    no_null [] (z ∷ zs) rest other n alike e = alike
    no_null (b ∷ old) [] rest other n alike e = alike
    no_null (b ∷ old) (z ∷ zs) rest other n alike e = other n old (ap (λ c. c ∷ old) (alike ∙ first_of z 1 zs rest e))

    null_or_value : (s zs rest : List ℕ) (v : RawTree) → IsPlain (Valid t) v → s ≡ key (content v) → BeginAlike old zs → zs ≡ s ++ rest → (q more : List ℕ) × IsKey (IsPresent t) q × (zs ≡ q ++ more)
    null_or_value s zs rest absent p is alike e = absurd (no_null old zs rest other (null_allowed t p.kind) alike (e ∙ ap (λ xs. xs ++ rest) is))
    null_or_value s zs rest v p is alike e = (s, rest, record { value = v; plain = record { kind = record { valid = p.kind; present = refl }; held = p.held; untyped = p.untyped }; is = is }, e)

pub null-read : (t : TypeTree) (old now : List ℕ) → IsNullable t → old ≡ 1 ∷ now → HasRead (Valid t) absent old now
null-read t old now n e = record { plain = record { kind = null_valid t n; held = tt; untyped = tt }; is = e }

pub present-read : (t : TypeTree) (v : RawTree) (old mid now : List ℕ) → mid ≡ old → HasRead (IsPresent t) v mid now → HasRead (Valid t) v old now
present-read t v old mid now same h = record { plain = record { kind = h.plain.kind.valid; held = h.plain.held; untyped = h.plain.untyped }; is = sym same ∙ h.is }

-- values of one type that are just those of another

pub record SameValues (u t : TypeTree) : Type 0 where
  pub to : (v : RawTree) → IsPresent u v → IsPresent t v
  pub from : (v : RawTree) → IsPresent t v → IsPresent u v

pub stuck-as : (u t : TypeTree) (old now : List ℕ) → SameValues u t → IsStuck (IsKey (IsPresent u)) old now → IsStuck (IsKey (IsPresent t)) old now
stuck-as u t old now same stuck =
    stuck-same (IsKey (IsPresent u)) (IsKey (IsPresent t)) old now
    (λ s h. record { value = h.value; plain = record { kind = same.to h.value h.plain.kind; held = h.plain.held; untyped = h.plain.untyped }; is = h.is })
    (λ s h. record { value = h.value; plain = record { kind = same.from h.value h.plain.kind; held = h.plain.held; untyped = h.plain.untyped }; is = h.is }) stuck

pub reads-as : {A : Type 0} (u t : TypeTree) (view : A → RawTree) (r : Result A KeyDecodeError) (old now : List ℕ) → SameValues u t → Reads (IsPresent u) view r old now → Reads (IsPresent t) view r old now
reads-as u t view (Ok x) old now same h = record { plain = record { kind = same.to (view x) h.plain.kind; held = h.plain.held; untyped = h.plain.untyped }; is = h.is }
reads-as u t view (Err e) old now same h = λ bad. stuck-as u t old now same (h bad)

-- a refusal that is passed on
pub refused : {A : Type 0} (One : RawTree → Type 0) (view : A → RawTree) (r : Result A KeyDecodeError) (e : KeyDecodeError) (old now : List ℕ) → IsErr r × IsErrAnd r (λ f. f ≡ e)
    → (e ≡ Bad → IsStuck (IsKey One) old now) → Reads One view r old now
refused One view (Ok x) e old now h g = absurd (true≢false (sym h.0))
refused One view (Err f) e old now h g = λ bad. g (sym h.1 ∙ bad)
