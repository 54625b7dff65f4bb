-- The words of literals: of one, of several, and of none where no literal is of a logical type.
use Rattle.std.proofs.Common.{◌≡◌, ◌||◌, ◌<◌, ◌+◌, ℕ, zero, suc, Bool, true, false, List, [], ◌∷◌, ◌++◌, length, drop, drop-cons, get_or, Option, Some, None, append_assoc, append-nil, refl, sym, ap, subst, ◌∙◌, arith}
use Rattle.std.specs.Prelude.{is_some, map, option_map}
use Rattle.std.specs.List.{list_any}
use Rattle.like_patterns.specs.declared.case.Case.{Case}
use Rattle.like_patterns.specs.Patterns.{Part}
use Rattle.vortex_dtype.specs.TypeTree.{TypeTree}
use Rattle.vortex_dtype.specs.TypeOf.{type_of}
use Rattle.vortex_value.specs.declared.scalars.Scalar.{Scalar}
use Rattle.vortex_cells.specs.Cells.{Cell, cell_of}
use Rattle.vortex_filter.specs.Formula.{Formula, constant, comparison, null_test, membership, range, prefix_test, pattern_test, both, either, negation}
use Rattle.vortex_filter.specs.declared.operator.CompareOperator.{CompareOperator}
use Rattle.vortex_filter.proofs.LiteralTypes.{TypesAre, TypesSay, unshaped}
use Rattle.logical_scalars.specs.Stored.{IsOfLogicalType}
use Rattle.logical_scalars.specs.TypeShapes.{shape_in}
use Rattle.logical_types.specs.Shapes.{shape_of}
use Rattle.logical_types.specs.declared.logical.LogicalType.{LogicalType}
use Rattle.filter_sql.specs.Choosing.{AddsEach, AddsWord, AddsWords, has_logical, is_logical_cell}
use Rattle.filter_sql.specs.LiteralWords.{AreWordsOf, AreWordsOfEach, IsWordOf, LiteralWords, first_word, is_logical, word_tree, word_trees, words_behind}
use Rattle.filter_sql.specs.declared.literal_words.Word.{Word}

-- ---- logical types

pub shape_at : TypesSay → (t : TypeTree) (l : LogicalType) → IsOfLogicalType t l → shape_in t ≡ Some (shape_of l)
shape_at say t l is = (say l t).1 is

-- the type of no logical type
pub is_none : TypesSay → TypesAre → (t : TypeTree) → ((l : LogicalType) → IsOfLogicalType t l → ⊥) → is_logical t ≡ false
is_none say are t none = ap is_some (unshaped say are t none)

pub is_one : TypesSay → (t : TypeTree) (l : LogicalType) → IsOfLogicalType t l → is_logical t ≡ true
is_one say t l is = ap is_some (shape_at say t l is)

pub ruleset logicals = (is_one, is_none)

-- ---- literals that have no words

or_false : (a b : Bool) → (a || b) ≡ false → (a ≡ false) × (b ≡ false)
or_false true b e = absurd cc
or_false false b e = (refl, e)

plain_cell : TypesSay → (x : Cell) → is_logical_cell x ≡ false → IsWordOf None x
plain_cell say x plain = λ l z is. let both : true ≡ false = sym (is_one say x.typed l is.typed) ∙ plain in absurd cc

plain_each : TypesSay → (xs : List Cell) → list_any is_logical_cell xs ≡ false → AreWordsOfEach [] xs
plain_each say [] h = tt
plain_each say (x ∷ xs) h = let p = or_false (is_logical_cell x) (list_any is_logical_cell xs) h in (plain_cell say x p.0, plain_each say xs p.1)

none_left : (n : ℕ) → ◌≡◌ {A = LiteralWords} (drop n []) []
none_left zero = refl
none_left (suc n) = refl

none_behind : (f : Formula) → words_behind f [] ≡ []
none_behind (constant t) = refl
none_behind (comparison k op x) = refl
none_behind (null_test k) = refl
none_behind (membership k xs) = none_left (length xs)
none_behind (range k x y) = refl
none_behind (prefix_test k x) = refl
none_behind (pattern_test k case parts) = refl
none_behind (both p q) = ap (words_behind q) (none_behind p) ∙ none_behind q
none_behind (either p q) = ap (words_behind q) (none_behind p) ∙ none_behind q
none_behind (negation p) = none_behind p

no_words_then : (p q : Formula) → AreWordsOf [] q → AreWordsOf (words_behind p []) q
no_words_then p q are = subst (λ (ws : LiteralWords). AreWordsOf ws q) (sym (none_behind p)) are

-- no literal of a formula without logical types has a word
pub no_words : TypesSay → (f : Formula) → has_logical f ≡ false → AreWordsOf [] f
no_words say (constant t) h = tt
no_words say (comparison k op x) h = plain_cell say x h
no_words say (null_test k) h = tt
no_words say (membership k xs) h = plain_each say xs h
no_words say (range k x y) h = let p = or_false (is_logical_cell x) (is_logical_cell y) h in (plain_cell say x p.0, plain_cell say y p.1)
no_words say (prefix_test k x) h = plain_cell say x h
no_words say (pattern_test k case parts) h = tt
no_words say (both p q) h = let w = or_false (has_logical p) (has_logical q) h in (no_words say p w.0, no_words_then p q (no_words say q w.1))
no_words say (either p q) h = let w = or_false (has_logical p) (has_logical q) h in (no_words say p w.0, no_words_then p q (no_words say q w.1))
no_words say (negation p) h = no_words say p h

-- ---- words that are gathered

pub all_added : (f : Formula) (ws : LiteralWords) → AddsWords f [] ws → AreWordsOf ws f
all_added f ws h = subst (λ (vs : LiteralWords). AreWordsOf vs f) (append-nil h.words ∙ sym h.added) (h.are [])

pub none_added : (xs : List Cell) (ws : LiteralWords) → xs ≡ [] → AddsEach xs ws ws
none_added xs ws e = subst (λ (ys : List Cell). AddsEach ys ws ws) (sym e) (record { words = []; are = λ rest. tt; ends = λ rest. refl; added = sym (append-nil ws) })

-- one literal and those behind it
pub more_added : (x : Cell) (xs : List Cell) (old mid now : LiteralWords) → AddsWord x old mid → AddsEach xs mid now → AddsEach (x ∷ xs) old now
more_added x xs old mid now a b = record {
  words = a.word ∷ b.words;
  are = λ rest. (a.is, b.are rest);
  ends = λ rest. b.ends rest;
  added = b.added ∙ ap (λ (ws : LiteralWords). ws ++ b.words) a.added ∙ append_assoc old (a.word ∷ []) b.words;
}

pub constant_added : (t : _) (ws : LiteralWords) → AddsWords (constant t) ws ws
constant_added t ws = record { words = []; are = λ rest. tt; ends = λ rest. refl; added = sym (append-nil ws) }

pub null_test_added : (k : ℕ) (ws : LiteralWords) → AddsWords (null_test k) ws ws
null_test_added k ws = record { words = []; are = λ rest. tt; ends = λ rest. refl; added = sym (append-nil ws) }

pub pattern_test_added : (k : ℕ) (case : Case) (parts : List Part) (ws : LiteralWords) → AddsWords (pattern_test k case parts) ws ws
pattern_test_added k case parts ws = record { words = []; are = λ rest. tt; ends = λ rest. refl; added = sym (append-nil ws) }

pub comparison_added : (k : ℕ) (op : CompareOperator) (x : Cell) (old now : LiteralWords) → AddsWord x old now → AddsWords (comparison k op x) old now
comparison_added k op x old now a = record { words = a.word ∷ []; are = λ rest. a.is; ends = λ rest. refl; added = a.added }

pub prefix_added : (k : ℕ) (x : Cell) (old now : LiteralWords) → AddsWord x old now → AddsWords (prefix_test k x) old now
prefix_added k x old now a = record { words = a.word ∷ []; are = λ rest. a.is; ends = λ rest. refl; added = a.added }

pub membership_added : (k : ℕ) (xs : List Cell) (old now : LiteralWords) → AddsEach xs old now → AddsWords (membership k xs) old now
membership_added k xs old now a = record { words = a.words; are = a.are; ends = a.ends; added = a.added }

pub range_added : (k : ℕ) (x y : Cell) (old mid now : LiteralWords) → AddsWord x old mid → AddsWord y mid now → AddsWords (range k x y) old now
range_added k x y old mid now a b = record {
  words = a.word ∷ b.word ∷ [];
  are = λ rest. (a.is, b.is);
  ends = λ rest. refl;
  added = b.added ∙ ap (λ (ws : LiteralWords). ws ++ b.word ∷ []) a.added ∙ append_assoc old (a.word ∷ []) (b.word ∷ []);
}

pub negation_added : (f : Formula) (old now : LiteralWords) → AddsWords f old now → AddsWords (negation f) old now
negation_added f old now a = record { words = a.words; are = a.are; ends = a.ends; added = a.added }

-- what two formulas have, one behind the other
record AddsBoth (p q : Formula) (old now : LiteralWords) : Type 0 where
  words : LiteralWords
  first : (rest : LiteralWords) → AreWordsOf (words ++ rest) p
  second : (rest : LiteralWords) → AreWordsOf (words_behind p (words ++ rest)) q
  ends : (rest : LiteralWords) → words_behind q (words_behind p (words ++ rest)) ≡ rest
  added : now ≡ old ++ words

both_add : (p q : Formula) (old mid now : LiteralWords) → AddsWords p old mid → AddsWords q mid now → AddsBoth p q old now
both_add p q old mid now a b = record {
  words = a.words ++ b.words;
  first = λ rest. subst (λ (ws : LiteralWords). AreWordsOf ws p) (sym (append_assoc a.words b.words rest)) (a.are (b.words ++ rest));
  second = λ rest. subst (λ (ws : LiteralWords). AreWordsOf ws q) (sym (behind rest)) (b.are rest);
  ends = λ rest. ap (words_behind q) (behind rest) ∙ b.ends rest;
  added = b.added ∙ ap (λ (ws : LiteralWords). ws ++ b.words) a.added ∙ append_assoc old a.words b.words;
}
  where
    behind : (rest : LiteralWords) → words_behind p ((a.words ++ b.words) ++ rest) ≡ b.words ++ rest
    behind rest = ap (words_behind p) (append_assoc a.words b.words rest) ∙ a.ends (b.words ++ rest)

pub both_added : (p q : Formula) (old mid now : LiteralWords) → AddsWords p old mid → AddsWords q mid now → AddsWords (both p q) old now
both_added p q old mid now a b = let w = both_add p q old mid now a b in record { words = w.words; are = λ rest. (w.first rest, w.second rest); ends = w.ends; added = w.added }

pub either_added : (p q : Formula) (old mid now : LiteralWords) → AddsWords p old mid → AddsWords q mid now → AddsWords (either p q) old now
either_added p q old mid now a b = let w = both_add p q old mid now a b in record { words = w.words; are = λ rest. (w.first rest, w.second rest); ends = w.ends; added = w.added }

pub ruleset gathered = (constant_added, null_test_added, comparison_added, prefix_added, pattern_test_added, membership_added, range_added, negation_added, both_added, either_added)

pub ruleset all_words = (no_words, all_added)

-- ---- words that are looked up

pub word_there : (words : List (Option Word)) (k : ℕ) → first_word (drop k (word_trees words)) ≡ option_map word_tree (get_or words k None)
word_there [] zero = refl
word_there [] (suc k) = refl
word_there (w ∷ ws) zero = refl
word_there (w ∷ ws) (suc k) = word_there ws k

-- ---- logical types among scalars

-- the scalar at a place, and the rest
pub any_logical-at : (i : ℕ) (xs : List Scalar) (x : Scalar) → i < length xs → x ≡ get_or xs i x
    → list_any is_logical_cell (map cell_of (drop i xs)) ≡ (is_logical (type_of x.dtype) || list_any is_logical_cell (map cell_of (drop (suc i) xs)))
any_logical-at i xs x h is = let e = drop-cons xs i x h in rw (e, ← is) refl

pub or_true : (b c : Bool) → b ≡ true → (b || c) ≡ true
or_true b c h = rw h refl

pub or_rest : (b c : Bool) → b ≡ false → (b || c) ≡ c
or_rest b c h = rw h refl

pub any_logical-rest : (i : ℕ) (xs : List Scalar) (x : Scalar) (b c : Bool) → i < length xs → x ≡ get_or xs i x → b ≡ is_logical (type_of x.dtype) → b ≡ false
    → list_any is_logical_cell (map cell_of (drop i xs)) ≡ c → list_any is_logical_cell (map cell_of (drop (i + 1) xs)) ≡ c
any_logical-rest i xs x b c less is e f h =
    let one : i + 1 ≡ suc i = omega arith in
    ap (λ n. list_any is_logical_cell (map cell_of (drop n xs))) one
    ∙ sym (or_rest (is_logical (type_of x.dtype)) (list_any is_logical_cell (map cell_of (drop (suc i) xs))) (sym e ∙ f)) ∙ sym (any_logical-at i xs x less is) ∙ h

pub any_logical-here : (i : ℕ) (xs : List Scalar) (x : Scalar) (b c : Bool) → i < length xs → x ≡ get_or xs i x → b ≡ is_logical (type_of x.dtype) → b ≡ true
    → list_any is_logical_cell (map cell_of (drop i xs)) ≡ c → true ≡ c
any_logical-here i xs x b c less is e f h =
    sym (or_true (is_logical (type_of x.dtype)) (list_any is_logical_cell (map cell_of (drop (suc i) xs))) (sym e ∙ f)) ∙ sym (any_logical-at i xs x less is) ∙ h

pub ruleset any_shown = (or_true, or_rest, any_logical-at)
