-- What lexing a whole text comes to.
use Rattle.std.proofs.Common.{◌≡◌, ℕ, ◌-◌, ◌<◌, ◌≤◌, Vec, Global, List, [], ◌∷◌, ◌++◌, None, Ok, IfErr, IfOk, length, refl, sym, ap, subst, ◌∙◌, arith, length-drop}
use Rattle.std.specs.Char.{is_ascii_whitespace}
use Rattle.std.specs.List.{prefix_len}
use Rattle.std.proofs.lemmas.Str.Ascii.{trim_ascii_start_is}
use Rattle.std.specs.Str.{IsTrimAsciiStart}
use Rattle.filter_sql.specs.declared.error.ParseError.TheVariants as errors
use Rattle.filter_sql.specs.declared.lex.LexError.{LexError}
use Rattle.filter_sql.specs.declared.lex.LexError.TheVariants.{OutOfMemory, BadText}
use Rattle.filter_sql.specs.declared.token.Placed.{Placed}
use Rattle.filter_sql.specs.Tokens.{TokenTree, canonical, token_tree, trees, AreTokens}
use Rattle.filter_sql.specs.Lexing.{Fails, token_at}
use Rattle.filter_sql.specs.Texts.{AreItemsOf, EndsAt, Leads, items, stopped, trimmed}
use Rattle.filter_sql.proofs.Canonical.{canonical_reads, canonical_trimmed}
use Rattle.filter_sql.proofs.Runs.{Reads, items_more, leads_more, no_fault, no_front, one_list}
use Rattle.filter_sql.proofs.Taken.{token_shorter}

-- one more token was read
pub one_more : (text : List ℕ) (placed more : List Placed) (rest after next : List ℕ) (p : Placed)
    → Leads (length text) (trimmed text) (items placed) rest → token_at rest ≡ Ok (token_tree p.token, after) → p.place ≡ length text - length rest → length rest ≤ length text
    → more ≡ placed ++ p ∷ [] → IsTrimAsciiStart after next → Leads (length text) (trimmed text) (items more) next
one_more text placed more rest after next p before read place within pushed trim =
    let lead = leads_more (length text) (trimmed text) (items placed) rest after (record { token = token_tree p.token; place = p.place }) before read (omega arith) in
    rw (pushed, items_more placed p, trim_ascii_start_is after next trim) lead

-- and less is left
pub less_left : (rest after next : List ℕ) (t : TokenTree) → token_at rest ≡ Ok (t, after) → IsTrimAsciiStart after next → length next < length rest
less_left rest after next t read trim =
    let shorter = token_shorter rest t after read in
    let size : length next ≡ length after - prefix_len is_ascii_whitespace after = ap length (trim_ascii_start_is after next trim) ∙ length-drop (prefix_len is_ascii_whitespace after) after in
    omega arith

-- no token begins where reading stopped
pub stopped_ends : (text rest : List ℕ) (placed : Vec Placed Global) (fault : LexError) (place : ℕ) → Leads (length text) (trimmed text) (items placed.items) rest → 0 < length rest → length rest ≤ length text
    → place ≡ length text - length rest → Fails fault (token_at rest) → IfOk (stopped placed place fault) (λ lexed. EndsAt text (items lexed.tokens.items) lexed.ending)
stopped_ends text rest placed OutOfMemory place read some within here failed = tt
stopped_ends text rest placed BadText place read some within here failed = record { rest = rest; read = read; here = omega arith; some = some; none = no_front rest BadText failed; why = failed }

pub stopped_refuses : (placed : Vec Placed Global) (fault : LexError) (place : ℕ) → IfErr (stopped placed place fault) (λ e. e ≡ errors.OutOfMemory)
stopped_refuses placed OutOfMemory place = refl
stopped_refuses placed BadText place = tt

-- what holds of the tokens and the place holds of what is given
pub stopped_has : (P : List Placed → ℕ → Type 0) (placed : Vec Placed Global) (fault : LexError) (place : ℕ) → P placed.items place → IfOk (stopped placed place fault) (λ lexed. P lexed.tokens.items lexed.ending.place)
stopped_has P placed OutOfMemory place h = tt
stopped_has P placed BadText place h = h

reads_printed : (text : List ℕ) (ts : List TokenTree) → AreTokens ts → text ≡ canonical ts → Reads (trimmed text) ts
reads_printed text ts all same = subst (λ (l : List ℕ). Reads (trimmed l) ts) (sym same) (subst (λ (l : List ℕ). Reads l ts) (sym (canonical_trimmed ts all)) (canonical_reads ts all))

-- reading a printed text stops nowhere
pub printed_stops : (text rest : List ℕ) (placed : Vec Placed Global) (fault : LexError) (place : ℕ) → Leads (length text) (trimmed text) (items placed.items) rest → 0 < length rest → Fails fault (token_at rest)
    → (ts : List TokenTree) → AreTokens ts → text ≡ canonical ts → IfOk (stopped placed place fault) (λ lexed. (trees lexed.tokens.items ≡ ts) × (lexed.ending.fault ≡ None))
printed_stops text rest placed OutOfMemory place read some failed ts all same = tt
printed_stops text rest placed BadText place read some failed ts all same = absurd (no_fault (length text) (trimmed text) (items placed.items) rest BadText ts read some failed (reads_printed text ts all same))

-- and has the tokens that were printed
pub printed_tokens : (text : List ℕ) (placed : List Placed) → AreItemsOf text (items placed) → (ts : List TokenTree) → AreTokens ts → text ≡ canonical ts → trees placed ≡ ts
printed_tokens text placed found ts all same = one_list text placed ts found (reads_printed text ts all same)

-- nothing is left
pub all_read : (text rest : List ℕ) (placed : List Placed) → Leads (length text) (trimmed text) (items placed) rest → length rest ≡ 0 → AreItemsOf text (items placed)
all_read text [] placed read none = read
all_read text (b ∷ rest) placed read none = absurd (omega arith)
