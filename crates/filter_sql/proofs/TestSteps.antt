-- What reading gives of literals in parentheses and of prefixes, step by step, as the code goes.
use Rattle.std.proofs.Common.{◌≡◌, ℕ, ◌<◌, suc, Bool, true, false, cond, List, [], ◌∷◌, ◌++◌, length, Option, Some, None, refl, sym, ap, ◌∙◌, append_assoc, arith, encode_utf8, IsUtf8}
use Rattle.std.specs.Prelude.{MatchOption, MatchResult, Result, Ok, Err, option_map}
use Rattle.std.specs.Borrow.{Bor}
use Rattle.std.specs.Str.{chars, encode_utf8_all}
use Rattle.std.proofs.lemmas.Bool.{false≢true}
use Rattle.std.proofs.lemmas.List.{append-nil, length-map}
use Rattle.std.proofs.lemmas.Str.{IsUtf8-past_char, chars-nil, chars_past_char, encodes-chars}
use Rattle.like_patterns.specs.declared.case.Case.{Case}
use Rattle.like_patterns.specs.declared.case.Case.TheVariants.{Sensitive}
use Rattle.like_patterns.specs.Patterns.{Part, literal, any_character, any_string}
use Rattle.like_patterns.specs.Pieces.{literals}
use Rattle.vortex_dtype.specs.Parts.{is_utf8_type}
use Rattle.vortex_dtype.specs.TypeTree.{TypeTree, utf8_type}
use Rattle.vortex_cells.specs.Cells.{Cell}
use Rattle.filter_sql.specs.declared.error.Expected.TheVariants as expects
use Rattle.filter_sql.specs.declared.parsing.errors.TokenError.{TokenError}
use Rattle.filter_sql.specs.declared.parsing.errors.TokenError.TheVariants as faults
use Rattle.filter_sql.specs.declared.token.Placed.{Placed}
use Rattle.vortex_filter.specs.Formula.{Formula, pattern_test, prefix_test}
use Rattle.vortex_filter.specs.Literals.{text_cell}
use Rattle.vortex_filter.specs.Positions.{PositionTree, exactly, cells_of, prefix_of}
use Rattle.filter_sql.specs.Literals.{before_percent, like_in, like_test, prefix_asked, prefix_or}
use Rattle.filter_sql.specs.Tokens.{TokenTree, token_tree, trees, closing, comma}
use Rattle.filter_sql.specs.Mistakes.{Fails, Gives, cells_mistake, expected, literal_mistake, more_mistake}
use Rattle.filter_sql.specs.Reading.{position_then, position_at, token_position, preceded, more_cells, cells_at, with_front, after_comma, after_closing, only_one, string_in}
use Rattle.filter_sql.proofs.ConditionSteps.{map_some}
use Rattle.filter_sql.proofs.ReadSteps.{fails_on}

some_is : {A : Type 0} (x y : A) → Some x ≡ Some y → x ≡ y
some_is x y e = cc

-- ---- one literal

-- a literal that was read is the first token
pub record Came (t : TypeTree) (ts : List TokenTree) (l : PositionTree) (us : List TokenTree) : Type 0 where
  pub token : TokenTree
  pub whole : ts ≡ token ∷ us
  pub says : token_position t token ≡ Some l

came_from : (t : TypeTree) (x : TokenTree) (ts : List TokenTree) (l : PositionTree) (us : List TokenTree) (o : Option PositionTree) → token_position t x ≡ o → position_then o ts ≡ Some (l, us) → Came t (x ∷ ts) l us
came_from t x ts l us None said e = absurd cc
came_from t x ts l us (Some m) said e =
    let made : PositionTree × List TokenTree = (m, ts) in
    let asked : PositionTree × List TokenTree = (l, us) in
    let same : made ≡ asked = some_is made asked e in
    let first : m ≡ l = ap (λ (p : PositionTree × List TokenTree). p.0) same in
    let rest : ts ≡ us = ap (λ (p : PositionTree × List TokenTree). p.1) same in
    record { token = x; whole = ap (λ (r : List TokenTree). x ∷ r) rest; says = said ∙ ap (λ (m : PositionTree). Some m) first }

pub literal_came : (t : TypeTree) (ts : List TokenTree) (l : PositionTree) (us : List TokenTree) → position_at t ts ≡ Some (l, us) → Came t ts l us
unfolding position_at
literal_came t [] l us e = absurd cc
literal_came t (x ∷ ts) l us e = came_from t x ts l us (token_position t x) refl e

none_said : (o : Option PositionTree) (ts : List TokenTree) (r : Option (List Cell × List TokenTree)) → position_then o ts ≡ None → preceded o r ≡ None
none_said None ts r e = refl
none_said (Some l) ts r e = absurd cc

-- ---- literals in parentheses

comma_came : (ts us : List TokenTree) → Some us ≡ after_comma ts → ts ≡ comma ∷ us
unfolding after_comma
comma_came (comma ∷ ts) us e = let rest : us ≡ ts = some_is us ts e in cc
comma_came _ us e = absurd cc

-- behind a comma come literals
pub comma_more : (t : TypeTree) (ts : List TokenTree) → more_cells t (comma ∷ ts) ≡ cells_at t ts
unfolding more_cells cells_at
comma_more t [] = refl
comma_more t (x ∷ ts) = refl

cells_fail : (t : TypeTree) (ts : List TokenTree) → position_at t ts ≡ None → cells_at t ts ≡ None
unfolding position_at cells_at
cells_fail t [] e = refl
cells_fail t (x ∷ ts) e = none_said (token_position t x) ts (more_cells t ts) e

cells_wrong : (t : TypeTree) (ts : List TokenTree) → position_at t ts ≡ None → cells_mistake t ts ≡ literal_mistake t ts
unfolding cells_mistake
cells_wrong t ts e = rw e refl

pub cells_left_fail : (e : TokenError) (t : TypeTree) (ts : List TokenTree) → Fails e (position_at t ts) (literal_mistake t ts) → Fails e (cells_at t ts) (cells_mistake t ts)
cells_left_fail e t ts failed = fails_on e _ _ _ _ (λ none. (cells_fail t ts none, cells_wrong t ts none)) failed

-- behind the first literal
pub cells_wrong_behind : (t : TypeTree) (ts : List TokenTree) (l : PositionTree) (us : List TokenTree) → position_at t ts ≡ Some (l, us) → cells_mistake t ts ≡ more_mistake t us
unfolding cells_mistake
cells_wrong_behind t ts l us e = rw e refl

-- what is wrong behind a comma
wrong_of_token : (t : TypeTree) (x : TokenTree) (us : List TokenTree) (l : PositionTree) → token_position t x ≡ Some l → more_mistake t (comma ∷ x ∷ us) ≡ more_mistake t us
unfolding more_mistake
wrong_of_token t x us l said = rw said refl

wrong_goes_on : (t : TypeTree) (ts us : List TokenTree) (l : PositionTree) → position_at t ts ≡ Some (l, us) → more_mistake t (comma ∷ ts) ≡ more_mistake t us
wrong_goes_on t ts us l e = let c = literal_came t ts l us e in ap (λ (r : List TokenTree). more_mistake t (comma ∷ r)) c.whole ∙ wrong_of_token t c.token us l c.says

no_literal_said : (t : TypeTree) (x : TokenTree) (ts : List TokenTree) (o : Option PositionTree) → token_position t x ≡ o → position_then o ts ≡ None → more_mistake t (comma ∷ x ∷ ts) ≡ literal_mistake t (x ∷ ts)
unfolding more_mistake
no_literal_said t x ts None said e = rw said refl
no_literal_said t x ts (Some l) said e = absurd cc

wrong_here : (t : TypeTree) (ts : List TokenTree) → position_at t ts ≡ None → more_mistake t (comma ∷ ts) ≡ literal_mistake t ts
unfolding position_at more_mistake
wrong_here t [] e = refl
wrong_here t (x ∷ ts) e = no_literal_said t x ts (token_position t x) refl e

front_cells : (l : PositionTree) (r : Option (List Cell × List TokenTree)) → preceded (Some l) r ≡ with_front (cells_of (l ∷ [])) r
front_cells l None = refl
front_cells l (Some x) = refl

cells_of_token : (t : TypeTree) (x : TokenTree) (us : List TokenTree) (l : PositionTree) → token_position t x ≡ Some l → cells_at t (x ∷ us) ≡ with_front (cells_of (l ∷ [])) (more_cells t us)
unfolding cells_at
cells_of_token t x us l said = rw said (front_cells l (more_cells t us))

-- the first literal, and those behind it
pub cells_begin : (t : TypeTree) (ts : List TokenTree) (l : PositionTree) (us : List TokenTree) → position_at t ts ≡ Some (l, us) → cells_at t ts ≡ with_front (cells_of (l ∷ [])) (more_cells t us)
cells_begin t ts l us e = let c = literal_came t ts l us e in ap (cells_at t) c.whole ∙ cells_of_token t c.token us l c.says

two_fronts : (front more : List Cell) (r : Option (List Cell × List TokenTree)) → with_front front (with_front more r) ≡ with_front (front ++ more) r
two_fronts front more None = refl
two_fronts front more (Some x) = ap (λ (cs : List Cell). Some (cs, x.1)) (sym (append_assoc front more x.0))

module _ (t : TypeTree) (front : List Cell) (ts : List TokenTree) (total : Option (List Cell × List TokenTree)) (so_far : with_front front (more_cells t ts) ≡ total) (wrong : TokenError) (mistake : more_mistake t ts ≡ wrong) where
  pub wrong_on : (us : List TokenTree) (l : PositionTree) (vs : List TokenTree) → Some us ≡ after_comma ts → position_at t us ≡ Some (l, vs) → more_mistake t vs ≡ wrong
  wrong_on us l vs word read = sym (wrong_goes_on t us vs l read) ∙ sym (ap (more_mistake t) (comma_came ts us word)) ∙ mistake

  pub goes_on : (us : List TokenTree) (l : PositionTree) (vs : List TokenTree) (fronts : List Cell) → Some us ≡ after_comma ts → position_at t us ≡ Some (l, vs) → fronts ≡ front ++ cells_of (l ∷ []) → with_front fronts (more_cells t vs) ≡ total
  goes_on us l vs fronts word read made =
      let one : more_cells t ts ≡ with_front (cells_of (l ∷ [])) (more_cells t vs) = ap (more_cells t) (comma_came ts us word) ∙ comma_more t us ∙ cells_begin t us l vs read in
      ap (λ (cs : List Cell). with_front cs (more_cells t vs)) made ∙ sym (two_fronts front (cells_of (l ∷ [])) (more_cells t vs)) ∙ ap (with_front front) (sym one) ∙ so_far

  none_ends : (us : List TokenTree) → Some us ≡ after_comma ts → position_at t us ≡ None → total ≡ None
  none_ends us word none =
      let one : more_cells t ts ≡ None = ap (more_cells t) (comma_came ts us word) ∙ comma_more t us ∙ cells_fail t us none in
      sym so_far ∙ ap (with_front front) one

  wrong_ends : (us : List TokenTree) → Some us ≡ after_comma ts → position_at t us ≡ None → wrong ≡ literal_mistake t us
  wrong_ends us word none = sym mistake ∙ ap (more_mistake t) (comma_came ts us word) ∙ wrong_here t us none

  pub literal_fails : (e : TokenError) (us : List TokenTree) → Some us ≡ after_comma ts → Fails e (position_at t us) (literal_mistake t us) → Fails e total wrong
  literal_fails e us word failed = fails_on e _ _ _ _ (λ none. (none_ends us word none, wrong_ends us word none)) failed

no_end : (t : TypeTree) (ts : List TokenTree) → None ≡ after_comma ts → after_closing ts ≡ None → more_cells t ts ≡ None
unfolding after_comma after_closing more_cells
no_end t [] c d = refl
no_end t (closing ∷ ts) c d = absurd cc
no_end t (comma ∷ ts) c d = absurd cc
no_end t (_ ∷ ts) c d = refl

closed_cells : (t : TypeTree) (ts us : List TokenTree) → after_closing ts ≡ Some us → more_cells t ts ≡ Some ([], us)
unfolding after_closing more_cells
closed_cells t (closing ∷ ts) us e = let rest : ts ≡ us = some_is ts us e in ap (λ (r : List TokenTree). Some ([], r)) rest
closed_cells t _ us e = absurd cc

no_comma : (t : TypeTree) (ts : List TokenTree) → None ≡ after_comma ts → more_mistake t ts ≡ expected ts expects.Closing
unfolding after_comma more_mistake
no_comma t [] c = refl
no_comma t (comma ∷ ts) c = absurd cc
no_comma t (_ ∷ ts) c = refl

module _ (t : TypeTree) (front : List Cell) (ts : List TokenTree) (total : Option (List Cell × List TokenTree)) (so_far : with_front front (more_cells t ts) ≡ total) (wrong : TokenError) (mistake : more_mistake t ts ≡ wrong) where
  not_ended : None ≡ after_comma ts → after_closing ts ≡ None → total ≡ None
  not_ended c d = sym so_far ∙ ap (with_front front) (no_end t ts c d)

  pub end_fails : (e : TokenError) → None ≡ after_comma ts → Fails e (after_closing ts) (expected ts expects.Closing) → Fails e total wrong
  end_fails e c failed = fails_on e _ _ _ _ (λ none. (not_ended c none, sym mistake ∙ no_comma t ts c)) failed

  pub ends : (us : List TokenTree) → after_closing ts ≡ Some us → total ≡ Some (front, us)
  ends us e = sym so_far ∙ ap (with_front front) (closed_cells t ts us e) ∙ ap (λ (cs : List Cell). Some (cs, us)) (append-nil front)

pub is_smaller : (t : TypeTree) (ps qs : List Placed) (us : List TokenTree) (l : PositionTree) → Some us ≡ after_comma (trees ps) → position_at t us ≡ Some (l, trees qs) → length qs < length ps
is_smaller t ps qs us l word read =
    let whole : trees ps ≡ comma ∷ us = comma_came (trees ps) us word in
    let c = literal_came t us l (trees qs) read in
    let long : length (trees ps) ≡ suc (suc (length (trees qs))) = ap length whole ∙ ap (λ (r : List TokenTree). suc (length r)) c.whole in
    let p : length (trees ps) ≡ length ps = length-map ps (λ (p : Placed). token_tree p.token) in
    let q : length (trees qs) ≡ length qs = length-map qs (λ (p : Placed). token_tree p.token) in
    omega arith

-- ---- prefixes

string_is : (t : TypeTree) (bs : List ℕ) (l : PositionTree) → string_in t bs ≡ Some l → l ≡ exactly (text_cell bs)
string_is (utf8_type n) bs l e = let made : PositionTree = exactly (text_cell bs) in sym (some_is made l e)
string_is _ bs l e = absurd cc

string_stands : (t : TypeTree) (bs : List ℕ) → is_utf8_type t ≡ true → string_in t bs ≡ Some (exactly (text_cell bs))
string_stands (utf8_type n) bs e = refl
string_stands _ bs e = absurd (false≢true e)

-- where something is read in any case, only memory can fail
memory_alone : {Y : Type 0} (e : TokenError) (read : Option Y) (y : Y) (mistake : TokenError) → read ≡ Some y → Fails e read mistake → e ≡ faults.NoMemory
memory_alone faults.NoMemory read y mistake is failed = refl
memory_alone (faults.At left cause) read y mistake is failed = let clash : None ≡ Some y = sym failed.0 ∙ is in absurd cc

given_or_memory : {X Y : Type 0} (view : X → Y) (r : Result X TokenError) (read : Option Y) (y : Y) (mistake : TokenError) → read ≡ Some y → Gives view r read mistake → MatchResult r (λ x. view x ≡ y) (λ e. e ≡ faults.NoMemory)
given_or_memory view (Ok x) read y mistake is given = some_is (view x) y (sym given ∙ is)
given_or_memory view (Err e) read y mistake is given = memory_alone e read y mistake is given

-- a column of strings has each string
pub string_fails : (e : TokenError) (t : TypeTree) (bs : List ℕ) (mistake : TokenError) → is_utf8_type t ≡ true → Fails e (string_in t bs) mistake → e ≡ faults.NoMemory
string_fails e t bs mistake strings failed = memory_alone e (string_in t bs) (exactly (text_cell bs)) mistake (string_stands t bs strings) failed

-- a string is a prefix
pub string_prefix : {X : Type 0} (view : X → Formula) (r : Result X TokenError) (k : ℕ) (t : TypeTree) (bs : List ℕ) (l : PositionTree) (mistake : TokenError) → IsUtf8 bs → string_in t bs ≡ Some l → Gives view r (prefix_of k l) mistake
    → MatchResult r (λ x. view x ≡ prefix_test k (text_cell (encode_utf8_all (chars bs)))) (λ e. e ≡ faults.NoMemory)
string_prefix view r k t bs l mistake utf8 said given =
    given_or_memory view r (prefix_of k l) (prefix_test k (text_cell (encode_utf8_all (chars bs)))) mistake (ap (prefix_of k) (string_is t bs l said) ∙ ap (λ (b : List ℕ). Some (prefix_test k (text_cell b))) (sym (encodes-chars bs utf8))) given

-- ---- patterns

-- a test that stands for a pattern, or fails for want of memory
pub prefix_like : {X : Type 0} (view : X → Formula) (r : Result X TokenError) (k : ℕ) (t : TypeTree) (case : Case) (parts : List Part) (cs : List ℕ) (mistake : TokenError) → is_utf8_type t ≡ true → prefix_asked case parts ≡ Some cs
    → MatchResult r (λ x. view x ≡ prefix_test k (text_cell (encode_utf8_all cs))) (λ e. e ≡ faults.NoMemory) → Gives view r (like_in k t case parts) mistake
prefix_like view (Ok x) k t case parts cs mistake strings asked given =
    ap (λ (b : Bool). cond b (Some (like_test k case parts)) None) strings ∙ ap (λ (o : Option (List ℕ)). Some (prefix_or k o (pattern_test k case parts))) asked ∙ ap (λ (f : Formula). Some f) (sym given)
prefix_like view (Err faults.NoMemory) k t case parts cs mistake strings asked given = tt
prefix_like view (Err (faults.At left cause)) k t case parts cs mistake strings asked given = let clash : faults.At left cause ≡ faults.NoMemory = given in absurd cc

pub pattern_like : (k : ℕ) (t : TypeTree) (case : Case) (parts : List Part) → is_utf8_type t ≡ true → prefix_asked case parts ≡ None → like_in k t case parts ≡ Some (pattern_test k case parts)
pattern_like k t case parts strings asked =
    ap (λ (b : Bool). cond b (Some (like_test k case parts)) None) strings ∙ ap (λ (o : Option (List ℕ)). Some (prefix_or k o (pattern_test k case parts))) asked

pub not_like : (k : ℕ) (t : TypeTree) (case : Case) (parts : List Part) → is_utf8_type t ≡ false → like_in k t case parts ≡ None
not_like k t case parts other = ap (λ (b : Bool). cond b (Some (like_test k case parts)) None) other

-- the prefix of a pattern with a % at its end alone
before_is : (cs : List ℕ) → before_percent (literals cs ++ any_string ∷ []) ≡ Some cs
before_is [] = refl
before_is (c ∷ cs) = ap (option_map (λ (ds : List ℕ). c ∷ ds)) (before_is cs)

before_came : (parts : List Part) (cs : List ℕ) → before_percent parts ≡ Some cs → parts ≡ literals cs ++ any_string ∷ []
before_came [] cs e = absurd cc
before_came (literal c ∷ parts) cs e =
    let m = map_some (before_percent parts) (λ (ds : List ℕ). c ∷ ds) cs e in
    ap (λ (ps : List Part). literal c ∷ ps) (before_came parts m.0 m.1) ∙ ap (λ (ds : List ℕ). literals ds ++ any_string ∷ []) m.2
before_came (any_character ∷ parts) cs e = absurd cc
before_came (any_string ∷ []) cs e = let same : [] ≡ cs = some_is [] cs e in ap (λ (ds : List ℕ). literals ds ++ any_string ∷ []) same
before_came (any_string ∷ part ∷ parts) cs e = absurd cc

pub prefix_is : (parts : List Part) (cs : List ℕ) → parts ≡ literals cs ++ any_string ∷ [] → prefix_asked Sensitive parts ≡ Some cs
prefix_is parts cs is = ap before_percent is ∙ before_is cs

no_prefix_by : (parts : List Part) (o : Option (List ℕ)) → before_percent parts ≡ o → ¬ ((cs : List ℕ) × (parts ≡ literals cs ++ any_string ∷ [])) → o ≡ None
no_prefix_by parts None e none = refl
no_prefix_by parts (Some cs) e none = absurd (none (cs, before_came parts cs e))

pub no_prefix : (parts : List Part) → ¬ ((cs : List ℕ) × (parts ≡ literals cs ++ any_string ∷ [])) → prefix_asked Sensitive parts ≡ None
no_prefix parts none = no_prefix_by parts (before_percent parts) refl none

-- what a call gives of a pattern that is compared with case
pub prefix_given : (case : Case) (parts : List Part) (r : Option (Bor (List ℕ))) → case ≡ Sensitive
    → MatchOption r (¬ ((cs : List ℕ) × (parts ≡ literals cs ++ any_string ∷ []))) (λ text. parts ≡ literals (chars text.now) ++ any_string ∷ []) → option_map (λ text. chars text.now) r ≡ prefix_asked case parts
prefix_given case parts None same none = sym (ap (λ (c : Case). prefix_asked c parts) same ∙ no_prefix parts none)
prefix_given case parts (Some text) same is = sym (ap (λ (c : Case). prefix_asked c parts) same ∙ prefix_is parts (chars text.now) is)

-- ---- escapes

pub no_character : (text : List ℕ) → text ≡ [] → only_one (chars text) ≡ None
no_character text none = ap (λ (bs : List ℕ). only_one (chars bs)) none ∙ ap only_one chars-nil

pub one_character : (text rest : List ℕ) (c : ℕ) → IsUtf8 text → text ≡ encode_utf8 c ++ rest → rest ≡ [] → only_one (chars text) ≡ Some c
one_character text rest c utf8 is none = ap only_one (chars_past_char text rest c utf8 is ∙ ap (λ (bs : List ℕ). c ∷ chars bs) none ∙ ap (λ (cs : List ℕ). c ∷ cs) chars-nil)

pub more_characters : (text rest more : List ℕ) (c d : ℕ) → IsUtf8 text → text ≡ encode_utf8 c ++ rest → rest ≡ encode_utf8 d ++ more → only_one (chars text) ≡ None
more_characters text rest more c d utf8 is then =
    ap only_one (chars_past_char text rest c utf8 is ∙ ap (λ (cs : List ℕ). c ∷ cs) (chars_past_char rest more d (IsUtf8-past_char text rest c utf8 is) then))
