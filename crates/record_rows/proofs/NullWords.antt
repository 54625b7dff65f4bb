-- Whether a word is one of those that are nulls.
use Rattle.std.proofs.Common.{◌≡◌, ◌<◌, ◌+◌, ◌||◌, ℕ, suc, arith, subst, List, ◌∷◌, Bool, true, false, refl, sym, ap, ◌∙◌, length, map, drop, get_or, drop-cons}
use Rattle.std.specs.Global.{Global}
use Rattle.std.specs.Prelude.{Vec}
use Rattle.std.specs.Str.{bytes_eq}
use Rattle.record_rows.specs.Readings.{is_null_word}

abbrev pub texts : List (Vec ℕ Global) → List (List ℕ)
texts words = map (λ one. one.items) words

-- one of the words from a place on is the one there, or one behind it
from_place : (words : List (Vec ℕ Global)) (i : ℕ) (x : Vec ℕ Global) (word : List ℕ) (t : Bool) → i < length words → x ≡ get_or words i x → t ≡ bytes_eq x.items word → is_null_word (texts (drop i words)) word ≡ (t || is_null_word (texts (drop (suc i) words)) word)
from_place words i x word t inside at is =
    let cut : drop i words ≡ x ∷ drop (suc i) words = drop-cons words i x inside ∙ ap (λ (y : Vec ℕ Global). y ∷ drop (suc i) words) (sym at) in
    rw (cut, is) refl

pub found_there : (words : List (Vec ℕ Global)) (i : ℕ) (x : Vec ℕ Global) (word : List ℕ) (t all : Bool) → i < length words → x ≡ get_or words i x → t ≡ bytes_eq x.items word → t ≡ true → is_null_word (texts (drop i words)) word ≡ all → true ≡ all
found_there words i x word t all inside at is found before =
    sym (from_place words i x word t inside at is ∙ ap (λ (b : Bool). b || is_null_word (texts (drop (suc i) words)) word) found) ∙ before

pub found_later : (words : List (Vec ℕ Global)) (i : ℕ) (x : Vec ℕ Global) (word : List ℕ) (t all : Bool) → i < length words → x ≡ get_or words i x → t ≡ bytes_eq x.items word → t ≡ false → is_null_word (texts (drop i words)) word ≡ all → is_null_word (texts (drop (i + 1) words)) word ≡ all
found_later words i x word t all inside at is other before =
    let one : suc i ≡ i + 1 = omega arith in
    subst (λ (n : ℕ). is_null_word (texts (drop n words)) word ≡ all) one
    (sym (from_place words i x word t inside at is ∙ ap (λ (b : Bool). b || is_null_word (texts (drop (suc i) words)) word) other) ∙ before)
