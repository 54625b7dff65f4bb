-- The kind that a text begins with.
use Rattle.std.proofs.Common.{◌≡◌, ◌≢◌, ◌<◌, ◌≤◌, ◌+◌, ◌==◌, ◌⊎◌, ℕ, suc, zero, true, false, Bool, List, [], ◌∷◌, Option, None, Some, length, get_or, take, drop, refl, sym, ap, ◌∙◌, subst, arith, ⊎_elim, inl, inr}
use Rattle.std.proofs.lemmas.Bool.{eq-eqb, false≢true}
use Rattle.std.proofs.lemmas.List.{get_or-take, length-take-le, take_rest}
use Rattle.std.proofs.lemmas.Option.{none-some}
use Rattle.std.proofs.lemmas.Slice.Eq.{bytes_eq-Decides}
use Rattle.std.specs.List.{find}
use Rattle.std.specs.Str.{bytes_eq}
use Rattle.vortex_dtype.specs.PTypes.{ptype_text}
use Rattle.vortex_dtype.specs.declared.ptype.PType.{PType}
use Rattle.vortex_dtype.specs.declared.ptype.PType.TheVariants.{U8, U16, U32, U64, I8, I16, I32, I64}
use Rattle.rows.specs.Fronts.{FirstSays, FirstSaysNone, IsNameEnd}
use Rattle.rows.specs.Grammar.{all_ptypes, ptype_named}
use Rattle.rows.specs.Lines.{words_of}
use Rattle.rows.proofs.Beginnings.{Begins, HasWord, begins_with, first_same, not_one, others_same, some_word, take_is}
use Rattle.rows.proofs.Cuts.{first_of_words}

-- the text of a kind is one word
pub text_alone : (ptype : PType) → words_of (ptype_text ptype) ≡ ptype_text ptype ∷ []
text_alone U8 = refl
text_alone U16 = refl
text_alone U32 = refl
text_alone U64 = refl
text_alone I8 = refl
text_alone I16 = refl
text_alone I32 = refl
text_alone I64 = refl

-- the kind that is found has the text
found : (word : List ℕ) (ptypes : List PType) (ptype : PType) → find (λ k. bytes_eq word (ptype_text k)) ptypes ≡ Some ptype → bytes_eq word (ptype_text ptype) ≡ true
found word [] ptype e = absurd (none-some ptype e)
found word (k ∷ ptypes) ptype e = by_test (bytes_eq word (ptype_text k)) refl (found word ptypes ptype)
  where
    by_test : (t : Bool) → bytes_eq word (ptype_text k) ≡ t → (find (λ j. bytes_eq word (ptype_text j)) ptypes ≡ Some ptype → bytes_eq word (ptype_text ptype) ≡ true) → bytes_eq word (ptype_text ptype) ≡ true
    by_test true t later = let same : Some k ≡ Some ptype = rw t at e in let is : k ≡ ptype = grind arith in subst (λ (j : PType). bytes_eq word (ptype_text j) ≡ true) is t
    by_test false t later = later (rw t at e)

-- what names a kind is its text
text_of : (word : List ℕ) (ptype : PType) → ptype_named word ≡ Some ptype → word ≡ ptype_text ptype
unfolding ptype_named
text_of word ptype e = (bytes_eq-Decides word (ptype_text ptype)).0 (found word all_ptypes ptype e)

-- what names a kind is one word
pub ptype_alone : (word : List ℕ) (ptype : PType) → ptype_named word ≡ Some ptype → words_of word ≡ word ∷ []
ptype_alone word ptype e = subst (λ (l : List ℕ). words_of l ≡ l ∷ []) (sym (text_of word ptype e)) (text_alone ptype)

-- a lone word has no space
no_space_in : (l : List ℕ) → words_of l ≡ l ∷ [] → (k : ℕ) → k < length l → get_or l k 0 ≢ 32
no_space_in [] e k inside is = absurd (omega arith)
no_space_in (b ∷ bs) e k inside is = by_test (b == 32) refl (some_word bs) (no_space_in bs) k inside is
  where
    at : (b == 32) ≡ false → (words_of bs ≡ bs ∷ [] → (j : ℕ) → j < length bs → get_or bs j 0 ≢ 32) → words_of bs ≡ bs ∷ [] → (j : ℕ) → j < length (b ∷ bs) → get_or (b ∷ bs) j 0 ≢ 32
    at t again alone zero below here = false≢true (sym t ∙ eq-eqb b 32 here)
    at t again alone (suc j) below here = again alone j (omega arith) here

    by_test : (t : Bool) → (b == 32) ≡ t → HasWord bs → (words_of bs ≡ bs ∷ [] → (j : ℕ) → j < length bs → get_or bs j 0 ≢ 32) → (j : ℕ) → j < length (b ∷ bs) → get_or (b ∷ bs) j 0 ≢ 32
    by_test true t more again =
        let q : words_of (b ∷ bs) ≡ [] ∷ more.0 ∷ more.1 = rw (t, more.2) refl in
        absurd (not_one _ _ _ _ (sym q ∙ e))
    by_test false t more again =
        let q : words_of (b ∷ bs) ≡ (b ∷ more.0) ∷ more.1 = rw (t, more.2) refl in
        let same : (b ∷ more.0) ∷ more.1 ≡ (b ∷ bs) ∷ [] = sym q ∙ e in
        let none : more.1 ≡ [] = others_same _ _ _ _ same in
        let tail : more.0 ≡ bs = ap (drop 1) (first_same _ _ _ _ same) in
        at t again (more.2 ∙ ap (λ (w : List ℕ). w ∷ more.1) tail ∙ ap (λ (ws : List (List ℕ)). bs ∷ ws) none)

-- a kind's name before a space is the first word
pub cut_says : (text : List ℕ) (end : ℕ) (k : PType) → end < length text → get_or text end 0 ≡ 32 → ptype_named (take end text) ≡ Some k → FirstSays ptype_named text k (drop (end + 1) text)
cut_says text end k inside space named =
    let count = length-take-le end text (omega arith) in
    let plain = no_space_in (take end text) (ptype_alone (take end text) k named) in
    record {
      word = take end text;
      first = first_of_words text end inside space (λ j below is. plain j (omega (arith, count)) (get_or-take end text j 0 below ∙ is));
      says = named;
    }

two_or_three : (k : PType) → (length (ptype_text k) ≡ 2) ⊎ (length (ptype_text k) ≡ 3)
two_or_three U8 = inl refl
two_or_three U16 = inr refl
two_or_three U32 = inr refl
two_or_three U64 = inr refl
two_or_three I8 = inl refl
two_or_three I16 = inr refl
two_or_three I32 = inr refl
two_or_three I64 = inr refl

-- a first word that names a kind has two bytes and a space after them, or three, of which the last is no space
name_length : (text w v : List ℕ) (ws : List (List ℕ)) (k : PType) → words_of text ≡ w ∷ v ∷ ws → ptype_named w ≡ Some k
    → ((length w ≡ 2) × (2 < length text) × (get_or text 2 0 ≡ 32)) ⊎ ((length w ≡ 3) × (get_or text 2 0 ≢ 32))
name_length text w v ws k e named =
    let begins = begins_with text w v ws e in
    let same : w ≡ ptype_text k = text_of w k named in
    let plain = no_space_in w (ptype_alone w k named) in
    let fits = begins.fits in
    ⊎_elim
    (λ (two : length (ptype_text k) ≡ 2).
    let count : length w ≡ 2 = ap length same ∙ two in
    inl (count, omega (arith, fits, count), subst (λ (j : ℕ). get_or text j 0 ≡ 32) count begins.ends))
    (λ (three : length (ptype_text k) ≡ 3).
    let count : length w ≡ 3 = ap length same ∙ three in
    let inside : 2 < length w = omega (arith, count) in
    inr (count, λ space. plain 2 inside (sym (begins.same 2 inside) ∙ space)))
    (two_or_three k)

-- before a space at offset 2 a name ends there
pub ends_at_two : (text : List ℕ) → 2 < length text → get_or text 2 0 ≡ 32 → IsNameEnd text 2
ends_at_two text inside space w v ws k e named =
    ⊎_elim (λ two. two.0) (λ three. absurd (three.1 space)) (name_length text w v ws k e named)

-- without a space at offset 2 a name ends after it
pub ends_at_three : (text : List ℕ) → (2 < length text → get_or text 2 0 ≢ 32) → IsNameEnd text 3
ends_at_three text other w v ws k e named =
    ⊎_elim (λ two. absurd (other two.1 two.2)) (λ three. three.0) (name_length text w v ws k e named)

pub ruleset ends = (ends_at_two, ends_at_three)

-- where no kind ends where a name does, the first word names none
names_none : (text : List ℕ) (end : ℕ) → IsNameEnd text end → ((w : List ℕ) (k : PType) → Begins text w → ptype_named w ≡ Some k → length w ≡ end → ⊥) → FirstSaysNone ptype_named text
names_none text end is not w v ws e = by_name (ptype_named w) refl
  where
    by_name : (o : Option PType) → ptype_named w ≡ o → ptype_named w ≡ None
    by_name None o = o
    by_name (Some k) o =
        absurd (not w k (begins_with text w v ws e) o (is w v ws k e o))

pub cut_none : (text : List ℕ) (end : ℕ) → IsNameEnd text end → ptype_named (take end text) ≡ None → FirstSaysNone ptype_named text
cut_none text end is none = names_none text end is (λ w k begins named count.
    let fits = begins.fits in
    let same : take (length w) text ≡ w = take_is text w (omega (arith, fits)) begins.same in
    none-some k (sym none ∙ ap ptype_named (subst (λ (j : ℕ). take j text ≡ w) count same) ∙ named))

pub cut_short : (text : List ℕ) (end : ℕ) → IsNameEnd text end → length text ≤ end → FirstSaysNone ptype_named text
cut_short text end is short = names_none text end is (λ w k begins named count. let fits = begins.fits in omega (arith, fits, count))

pub cut_other : (text : List ℕ) (end : ℕ) → IsNameEnd text end → get_or text end 0 ≢ 32 → FirstSaysNone ptype_named text
cut_other text end is other = names_none text end is (λ w k begins named count. other (subst (λ (j : ℕ). get_or text j 0 ≡ 32) count begins.ends))

pub ruleset cuts = (cut_says, cut_none, cut_short, cut_other, take_rest)
