-- Tokens one after the other.
use Rattle.std.proofs.Common.{◌≡◌, ℕ, ◌+◌, ◌-◌, ◌<◌, ◌≤◌, List, [], ◌∷◌, ◌++◌, Ok, Err, length, map, refl, sym, ap, subst, ◌∙◌, arith, length-append, length-drop}
use Rattle.std.specs.Char.{is_ascii_whitespace}
use Rattle.std.specs.List.{AllByRecursion, prefix_len}
use Rattle.filter_sql.specs.Tokens.{IsFront, TokenTree, token_tree, trees}
use Rattle.filter_sql.specs.Lexing.{Cut, mark_of, token_at}
use Rattle.filter_sql.specs.declared.lex.LexError.TheVariants.{BadText}
use Rattle.filter_sql.specs.declared.lex.LexError.{LexError}
use Rattle.filter_sql.specs.Texts.{AreItemsOf, Item, Leads, items, trimmed}
use Rattle.filter_sql.specs.declared.token.Placed.{Placed}
use Rattle.filter_sql.proofs.Again.{token_again}
use Rattle.filter_sql.proofs.Taken.{token_taken}

-- one more token behind others
pub leads_more : (end : ℕ) (text : List ℕ) (items : List Item) (rest after : List ℕ) (item : Item) → Leads end text items rest
    → token_at rest ≡ Ok (item.token, after) → item.place + length rest ≡ end → Leads end text (items ++ item ∷ []) (trimmed after)
leads_more end text [] rest after item same read here =
    let taken = token_taken text item.token after (ap token_at same ∙ read) in
    (taken.word, after, taken.front, ap (λ (l : List ℕ). item.place + length l) same ∙ here, refl)
leads_more end text (first ∷ items) rest after item (word, next, front, place, more) read here =
    (word, next, front, place, leads_more end (trimmed next) items rest after item more read here)

-- a front is what is read
pub front_again : (text : List ℕ) (t : TokenTree) (word after : List ℕ) → IsFront text t word after → token_at text ≡ Ok (t, after)
front_again text t word after front = ap token_at front.whole ∙ token_again t word after front.spelled front.ends

-- where reading fails there is no front
pub no_front : (text : List ℕ) (e : LexError) → token_at text ≡ Err e → (t : TokenTree) (word after : List ℕ) → IsFront text t word after → ⊥
no_front text e failed t word after front = cc (front_again text t word after front)

-- the items of tokens, and of one more
pub items_more : (placed : List Placed) (p : Placed) → items (placed ++ p ∷ []) ≡ items placed ++ record { token = token_tree p.token; place = p.place } ∷ []
items_more [] p = refl
items_more (q ∷ placed) p = ap (λ (l : List Item). record { token = token_tree q.token; place = q.place } ∷ l) (items_more placed p)

-- the tokens of a text without their offsets
abbrev pub Reads : List ℕ → List TokenTree → Type 0
Reads text [] = text ≡ []
Reads text (t ∷ ts) = (after : List ℕ) × (token_at text ≡ Ok (t, after)) × Reads (trimmed after) ts

abbrev pub trees_of : List Item → List TokenTree
trees_of items = map (λ item. item.token) items

nothing : token_at [] ≡ Err BadText
unfolding token_at mark_of
nothing = refl

-- a text begins with one token
same_token : (text : List ℕ) (t u : TokenTree) (a b : List ℕ) → token_at text ≡ Ok (t, a) → token_at text ≡ Ok (u, b) → (t ≡ u) × (a ≡ b)
same_token text t u a b p q =
    let same : ◌≡◌ {A = Cut} (t, a) (u, b) = cc in
    (ap (λ (c : Cut). c.0) same, ap (λ (c : Cut). c.1) same)

-- a text has one list of tokens
pub one_reading : (end : ℕ) (text : List ℕ) (items : List Item) (ts : List TokenTree) → Leads end text items [] → Reads text ts → trees_of items ≡ ts
one_reading end text [] [] a b = refl
one_reading end text [] (t ∷ ts) empty (after, read, more) = cc (nothing, ap token_at empty)
one_reading end text (item ∷ items) [] (word, after, front, place, more) empty = cc (nothing, ap token_at empty, front_again text item.token word after front)
one_reading end text (item ∷ items) (t ∷ ts) (word, after, front, place, more) (next, again, others) =
    let same = same_token text item.token t after next (front_again text item.token word after front) again in
    let rest = one_reading end (trimmed after) items ts more (subst (λ (l : List ℕ). Reads (trimmed l) ts) (sym same.1) others) in
    cc (same.0)

-- and no fault
pub no_fault : (end : ℕ) (text : List ℕ) (items : List Item) (rest : List ℕ) (e : LexError) (ts : List TokenTree) → Leads end text items rest → 0 < length rest → token_at rest ≡ Err e → Reads text ts → ⊥
no_fault end text [] rest e [] same some none empty = absurd (let size : length rest ≡ 0 = ap length (sym same ∙ empty) in omega arith)
no_fault end text [] rest e (t ∷ ts) same some none (next, again, others) = cc (ap token_at same)
no_fault end text (item ∷ items) rest e [] (word, after, front, place, more) some none empty = cc (nothing, ap token_at empty, front_again text item.token word after front)
no_fault end text (item ∷ items) rest e (t ∷ ts) (word, after, front, place, more) some none (next, again, others) =
    let same = same_token text item.token t after next (front_again text item.token word after front) again in
    no_fault end (trimmed after) items rest e ts more some none (subst (λ (l : List ℕ). Reads (trimmed l) ts) (sym same.1) others)

-- every offset is one of the text
pub placed_within : (end : ℕ) (text : List ℕ) (placed : List Placed) (rest : List ℕ) → Leads end text (items placed) rest → AllByRecursion (λ (p : Placed). p.place ≤ end) placed
placed_within end text [] rest same = tt
placed_within end text (p ∷ placed) rest (word, after, front, place, more) = (omega arith, placed_within end (trimmed after) placed rest more)

-- tokens lead to what is no longer
leads_shorter : (end : ℕ) (text : List ℕ) (placed : List Placed) (rest : List ℕ) → Leads end text (items placed) rest → length rest ≤ length text
leads_shorter end text [] rest same = let size : length text ≡ length rest = ap length same in omega arith
leads_shorter end text (p ∷ placed) rest (word, after, front, place, more) =
    let shorter = leads_shorter end (trimmed after) placed rest more in
    let whole : length text ≡ length word + length after = ap length front.whole ∙ length-append word after in
    let cut : length (trimmed after) ≡ length after - prefix_len is_ascii_whitespace after = length-drop (prefix_len is_ascii_whitespace after) after in
    omega arith

-- every place is one before the rest
pub placed_before : (end : ℕ) (text : List ℕ) (placed : List Placed) (rest : List ℕ) (place : ℕ) → Leads end text (items placed) rest → place + length rest ≡ end → AllByRecursion (λ (p : Placed). p.place ≤ place) placed
placed_before end text [] rest place same here = tt
placed_before end text (p ∷ placed) rest place (word, after, front, at, more) here =
    let shorter = leads_shorter end text (p ∷ placed) rest (word, after, front, at, more) in
    (omega arith, placed_before end (trimmed after) placed rest place more here)

trees_are : (placed : List Placed) → trees_of (items placed) ≡ trees placed
trees_are [] = refl
trees_are (p ∷ placed) = ap (λ (l : List TokenTree). token_tree p.token ∷ l) (trees_are placed)

-- the tokens of a text are those that it reads as
pub one_list : (text : List ℕ) (placed : List Placed) (ts : List TokenTree) → AreItemsOf text (items placed) → Reads (trimmed text) ts → trees placed ≡ ts
one_list text placed ts found reads = sym (trees_are placed) ∙ one_reading (length text) (trimmed text) (items placed) ts found reads
