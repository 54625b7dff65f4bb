-- What the words after a command ask for: the last of those that are cut may be more than one word.
use Rattle.std.proofs.Common.{◌≡◌, ℕ, ℤ, true, false, Bool, List, [], ◌∷◌, Option, None, Some, refl, sym, ap, ◌∙◌}
use Rattle.std.proofs.lemmas.Slice.Eq.{bytes_eq-Decides}
use Rattle.std.specs.Prelude.{codes, if◌then◌else◌}
use Rattle.std.specs.Str.{bytes_eq}
use Rattle.vortex_dtype.specs.declared.ptype.PType.{PType}
use Rattle.rows.specs.Fronts.{FirstSays, FirstSaysNone}
use Rattle.rows.specs.Lines.{words_of}
use Rattle.rows.specs.Grammar.{bound_operands, cast_operands, cast_request, ptype_named, number_named, request_in, request_in_words}
use Rattle.rows.specs.declared.commands.Side.{Side}
use Rattle.rows.specs.declared.commands.Side.TheVariants.{Lower, Upper}
use Rattle.rows.proofs.Beginnings.{lone_word, some_word}
use Rattle.rows.proofs.Names.{ptype_alone}

-- without the kind to cast to, nothing is asked for
no_ptype : (from : Option PType) (number : Option ℤ) → cast_request from number None ≡ None
no_ptype None number = refl
no_ptype (Some from) None = refl
no_ptype (Some from) (Some z) = refl

-- the last of three may be more words, and then names no kind
three : (a b s : List ℕ) → cast_request (ptype_named a) (number_named b) (ptype_named s) ≡ cast_operands (a ∷ b ∷ words_of s)
three a b s = by_ptype (ptype_named s) refl
  where
    by_words : (w : List ℕ) (ws : List (List ℕ)) → words_of s ≡ w ∷ ws → ptype_named s ≡ None → cast_request (ptype_named a) (number_named b) None ≡ cast_operands (a ∷ b ∷ words_of s)
    by_words w [] q e =
        let same : w ≡ s = lone_word s w q in
        rw q (ap (cast_request (ptype_named a) (number_named b)) (sym e ∙ ap ptype_named (sym same)))
    by_words w (v ∷ ws) q e = rw q (no_ptype _ _)

    by_ptype : (o : Option PType) → ptype_named s ≡ o → cast_request (ptype_named a) (number_named b) (ptype_named s) ≡ cast_operands (a ∷ b ∷ words_of s)
    by_ptype None e = let more = some_word s in ap (cast_request (ptype_named a) (number_named b)) e ∙ by_words more.0 more.1 more.2 e
    by_ptype (Some ptype) e = rw (ptype_alone s ptype e) refl

-- what three words ask for, of which the last may be more
pub three_words : (l r s : List ℕ) (k : PType) (z : ℤ) → FirstSays ptype_named l k r → FirstSays number_named r z s → cast_request (Some k) (Some z) (ptype_named s) ≡ cast_operands (words_of l)
three_words l r s k z kind says =
    ap (λ from. cast_request from (Some z) (ptype_named s)) (sym kind.says)
    ∙ ap (λ number. cast_request (ptype_named kind.word) number (ptype_named s)) (sym says.says)
    ∙ three kind.word says.word s
    ∙ sym (ap cast_operands (kind.first ∙ ap (λ (ws : List (List ℕ)). kind.word ∷ ws) says.first))

-- without a first kind nothing is asked for
pub no_first : (l : List ℕ) → FirstSaysNone ptype_named l → None ≡ cast_operands (words_of l)
no_first l none = sym (by_words (words_of l) refl)
  where
    by_words : (ws : List (List ℕ)) → words_of l ≡ ws → cast_operands ws ≡ None
    by_words [] q = refl
    by_words (w ∷ []) q = refl
    by_words (w ∷ v ∷ []) q = refl
    by_words (w ∷ v ∷ u ∷ []) q = ap (λ from. cast_request from (number_named v) (ptype_named u)) (none w v (u ∷ []) q)
    by_words (w ∷ v ∷ u ∷ t ∷ ws) q = refl

-- without a number nothing is asked for
none_without : (from to : Option PType) → cast_request from None to ≡ None
none_without None to = refl
none_without (Some from) to = refl

pub no_number : (l r : List ℕ) (k : PType) → FirstSays ptype_named l k r → FirstSaysNone number_named r → None ≡ cast_operands (words_of l)
no_number l r k kind none = sym (ap cast_operands kind.first ∙ by_words (words_of r) refl)
  where
    by_words : (ws : List (List ℕ)) → words_of r ≡ ws → cast_operands (kind.word ∷ ws) ≡ None
    by_words [] q = refl
    by_words (w ∷ []) q = refl
    by_words (w ∷ v ∷ []) q = ap (λ number. cast_request (ptype_named kind.word) number (ptype_named v)) (none w v [] q) ∙ none_without _ _
    by_words (w ∷ v ∷ u ∷ ws) q = refl

-- more than two words are no operands of `lower` and `upper`
pub more_than_two : (side : Side) (l a r b s : List ℕ) → words_of l ≡ a ∷ words_of r → words_of r ≡ b ∷ words_of s → None ≡ bound_operands side (words_of l)
more_than_two side l a r b s e f =
    let more = some_word s in
    sym (ap (bound_operands side) (e ∙ ap (λ ws. a ∷ ws) (f ∙ ap (λ ws. b ∷ ws) more.2)))

-- without operands, and with another name, nothing is asked for
nothing : (w : List ℕ) (ws : List (List ℕ)) → (bytes_eq w (codes "cast") ≡ true → ws ≡ []) → (bytes_eq w (codes "lower") ≡ true → ws ≡ []) → (bytes_eq w (codes "upper") ≡ true → ws ≡ [])
    → request_in_words (w ∷ ws) ≡ None
nothing w ws = chain (bytes_eq w (codes "cast")) (bytes_eq w (codes "lower")) (bytes_eq w (codes "upper"))
  where
    chain : (x y z : Bool) → (x ≡ true → ws ≡ []) → (y ≡ true → ws ≡ []) → (z ≡ true → ws ≡ [])
        → (if x then cast_operands ws else if y then bound_operands Lower ws else if z then bound_operands Upper ws else None) ≡ None
    chain true y z a b c = ap cast_operands (a refl)
    chain false true z a b c = ap (bound_operands Lower) (b refl)
    chain false false true a b c = ap (bound_operands Upper) (c refl)
    chain false false false a b c = refl

-- a line that begins with no command
pub no_command : (line : List ℕ) → ((ws : List (List ℕ)) → words_of line ≡ codes "cast" ∷ ws → ws ≡ []) → ((ws : List (List ℕ)) → words_of line ≡ codes "lower" ∷ ws → ws ≡ [])
    → ((ws : List (List ℕ)) → words_of line ≡ codes "upper" ∷ ws → ws ≡ []) → None ≡ request_in line
no_command line a b c =
    let more = some_word line in
    let is = λ (name : List ℕ) (alone : (ws : List (List ℕ)) → words_of line ≡ name ∷ ws → ws ≡ []) (e : bytes_eq more.0 name ≡ true).
    alone more.1 (more.2 ∙ ap (λ (w : List ℕ). w ∷ more.1) ((bytes_eq-Decides more.0 name).0 e)) in
    sym (ap request_in_words more.2 ∙ nothing more.0 more.1 (is (codes "cast") a) (is (codes "lower") b) (is (codes "upper") c))

pub ruleset requests = (no_command, more_than_two, three_words, no_first, no_number)
