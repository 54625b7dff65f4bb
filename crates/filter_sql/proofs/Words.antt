-- Single tokens, and what may follow a filter.
use Rattle.std.proofs.Common.{true≢false, ◌≡◌, Bool, true, false, cond, List, [], ◌∷◌, Some, None, refl, sym}
use Rattle.filter_sql.specs.declared.print.Level.{Level}
use Rattle.filter_sql.specs.declared.print.Level.TheVariants as levels
use Rattle.filter_sql.specs.declared.token.Keyword.{Keyword}
use Rattle.filter_sql.specs.declared.token.Keyword.TheVariants.{And, Or, Not, In, Is, Null, Between, Like, Ilike, Escape, True, False, StartsWith}
use Rattle.filter_sql.specs.Tokens.{TokenTree, keyword_token, opening, closing, comma}
use Rattle.filter_sql.specs.Reading.{after_keyword, same_keyword, after_opening, after_closing, after_comma}

-- ---- single tokens

-- the keyword comes next
pub keyword_comes : (k : Keyword) (ts : List TokenTree) → after_keyword k (keyword_token k ∷ ts) ≡ Some ts
unfolding after_keyword
keyword_comes And ts = refl
keyword_comes Or ts = refl
keyword_comes Not ts = refl
keyword_comes In ts = refl
keyword_comes Is ts = refl
keyword_comes Null ts = refl
keyword_comes Between ts = refl
keyword_comes Like ts = refl
keyword_comes Ilike ts = refl
keyword_comes Escape ts = refl
keyword_comes True ts = refl
keyword_comes False ts = refl
keyword_comes StartsWith ts = refl

pub some_is : {A : Type 0} (x y : A) → Some x ≡ Some y → x ≡ y
some_is x y e = cc

same_keyword-same : (j k : Keyword) → same_keyword j k ≡ true → j ≡ k
same_keyword-same And And e = refl
same_keyword-same Or Or e = refl
same_keyword-same Not Not e = refl
same_keyword-same In In e = refl
same_keyword-same Is Is e = refl
same_keyword-same Null Null e = refl
same_keyword-same Between Between e = refl
same_keyword-same Like Like e = refl
same_keyword-same Ilike Ilike e = refl
same_keyword-same Escape Escape e = refl
same_keyword-same True True e = refl
same_keyword-same False False e = refl
same_keyword-same StartsWith StartsWith e = refl
same_keyword-same _ _ e = absurd (true≢false (sym e))

chosen_word : (k j : Keyword) (ts us : List TokenTree) (b : Bool) → same_keyword k j ≡ b → cond b (Some ts) None ≡ Some us → keyword_token j ∷ ts ≡ keyword_token k ∷ us
chosen_word k j ts us true same e = let word : k ≡ j = same_keyword-same k j same in let rest : ts ≡ us = some_is ts us e in cc
chosen_word k j ts us false same e = absurd cc

-- what follows a keyword, follows it
pub keyword_came : (k : Keyword) (ts us : List TokenTree) → after_keyword k ts ≡ Some us → ts ≡ keyword_token k ∷ us
unfolding after_keyword
keyword_came k [] us e = absurd cc
keyword_came k (keyword_token j ∷ ts) us e = chosen_word k j ts us (same_keyword k j) refl e
keyword_came k (_ ∷ ts) us e = absurd cc

pub opening_came : (ts us : List TokenTree) → after_opening ts ≡ Some us → ts ≡ opening ∷ us
unfolding after_opening
opening_came (opening ∷ ts) us e = let rest : ts ≡ us = some_is ts us e in cc
opening_came _ us e = absurd cc

pub closing_came : (ts us : List TokenTree) → after_closing ts ≡ Some us → ts ≡ closing ∷ us
unfolding after_closing
closing_came (closing ∷ ts) us e = let rest : ts ≡ us = some_is ts us e in cc
closing_came _ us e = absurd cc

pub opening_comes : (ts : List TokenTree) → Some ts ≡ after_opening (opening ∷ ts)
unfolding after_opening
opening_comes ts = refl

pub opening_is_no_word : (ts : List TokenTree) → None ≡ after_keyword Not (opening ∷ ts)
unfolding after_keyword
opening_is_no_word ts = refl

pub closing_comes : (ts : List TokenTree) → Some ts ≡ after_closing (closing ∷ ts)
unfolding after_closing
closing_comes ts = refl

-- ---- what is in the grammar is read

-- what may follow a filter of a level, where it stands in another or alone
pub data MayFollow : Level → List TokenTree → Type 0 where
  ends : {l : Level} → MayFollow l []
  closes : {l : Level} {ts : List TokenTree} → MayFollow l (closing ∷ ts)
  or_after_and : {ts : List TokenTree} → MayFollow levels.And (keyword_token Or ∷ ts)
  or_after_operand : {ts : List TokenTree} → MayFollow levels.Not (keyword_token Or ∷ ts)
  and_after_operand : {ts : List TokenTree} → MayFollow levels.Not (keyword_token And ∷ ts)

pub no_or : {ts : List TokenTree} → MayFollow levels.Or ts → None ≡ after_keyword Or ts
unfolding after_keyword
no_or ends = refl
no_or closes = refl

pub no_and : {ts : List TokenTree} → MayFollow levels.And ts → None ≡ after_keyword And ts
unfolding after_keyword
no_and ends = refl
no_and closes = refl
no_and or_after_and = refl

pub follows_and : {ts : List TokenTree} → MayFollow levels.Or ts → MayFollow levels.And ts
follows_and ends = ends
follows_and closes = closes

pub follows_operand : {ts : List TokenTree} → MayFollow levels.And ts → MayFollow levels.Not ts
follows_operand ends = ends
follows_operand closes = closes
follows_operand or_after_and = or_after_operand

-- no `escape` follows a filter
pub no_escape : {l : Level} {ts : List TokenTree} → MayFollow l ts → after_keyword Escape ts ≡ None
unfolding after_keyword
no_escape ends = refl
no_escape closes = refl
no_escape or_after_and = refl
no_escape or_after_operand = refl
no_escape and_after_operand = refl

pub comma_came : (ts us : List TokenTree) → after_comma ts ≡ Some us → ts ≡ comma ∷ us
unfolding after_comma
comma_came (comma ∷ ts) us e = let rest : ts ≡ us = some_is ts us e in cc
comma_came _ us e = absurd cc
