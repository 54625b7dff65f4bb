-- The guesses are those of the records, and the names those of the header.
use Rattle.std.proofs.Common.{◌≡◌, ◌∙◌, List, ap, length, max, rules, subst, sym, ℕ}
use Rattle.std.proofs.lemmas.List.{length-map}
use Rattle.std.specs.Prelude.{string_bytes}
use Rattle.csv_columns.specs.Guesses.{column_count, divides, field_lists, header_names, width_of}
use Rattle.csv_columns.specs.Names.{AreGivenOrMade, KeepsNames, texts}
use Rattle.csv_columns.proofs.Columns.{columns_guessed, name_bytes, numbers_guessed, ok_then, take_fields}
use Rattle.csv_columns.proofs.guessing.guess_columns.Goals as goal

pub returns-clause-count : goal.returns-clause-count
returns-clause-count c =
    let rows = field_lists c.args.delimiter.byte c.args.records.now in
    let header = header_names c.args.delimiter.byte c.args.header.now in
    let names = c.in_ok-names.names.items in
    let guessed : c.len.result ≡ width_of rows = (let l : c.len.result ≡ length c.in_ok-guesses.guesses.items = search rules in l) ∙ c.in_ok-guesses.ensures.count in
    let given : c.len-2.result ≡ length header =
    (let l : c.len-2.result ≡ length c.in_ok-given.given.items = search rules in l)
    ∙ sym (length-map c.in_ok-given.given.items string_bytes) ∙ ap length c.in_ok-given.ensures in
    let most : c.max-count.result ≡ column_count rows header =
    (let m : c.max-count.result ≡ max (max c.len.result c.len-2.result) 1 = search rules in m)
    ∙ ap (λ (n : ℕ). max (max n c.len-2.result) 1) guessed ∙ ap (λ (n : ℕ). max (max (width_of rows) n) 1) given in
    let count : length names ≡ column_count rows header = c.in_ok-names.ensures.count ∙ most in
    ok_then c.columns_of.result _ _ c.columns_of.ensures.names
    (λ guessed same. sym (length-map guessed.columns.items name_bytes) ∙ ap length same ∙ length-map names string_bytes ∙ count)

pub returns-clause-kept : goal.returns-clause-kept
returns-clause-kept c =
    let header = header_names c.args.delimiter.byte c.args.header.now in
    let given : texts c.deref.result.now ≡ header = ap texts c.deref.ensures.value ∙ c.in_ok-given.ensures in
    let kept : KeepsNames header (texts c.in_ok-names.names.items) = subst (λ (x : List (List ℕ)). KeepsNames x (texts c.in_ok-names.names.items)) given c.in_ok-names.ensures.kept in
    ok_then c.columns_of.result _ _ c.columns_of.ensures.names (λ guessed same. subst (KeepsNames header) (sym same) kept)

pub returns-clause-made : goal.returns-clause-made
returns-clause-made c =
    let header = header_names c.args.delimiter.byte c.args.header.now in
    let divided = divides c.args.delimiter.byte in
    let given : texts c.deref.result.now ≡ header = ap texts c.deref.ensures.value ∙ c.in_ok-given.ensures in
    let made : AreGivenOrMade divided header (texts c.in_ok-names.names.items) = subst (λ (x : List (List ℕ)). AreGivenOrMade divided x (texts c.in_ok-names.names.items)) given c.in_ok-names.ensures.made in
    ok_then c.columns_of.result _ _ c.columns_of.ensures.names (λ guessed same. subst (AreGivenOrMade divided header) (sym same) made)

pub returns-clause-columns : goal.returns-clause-columns
returns-clause-columns c =
    let rows = field_lists c.args.delimiter.byte c.args.records.now in
    ok_then c.columns_of.result _ _ c.columns_of.ensures.columns
    (λ guessed each. columns_guessed c.args.reading.now rows c.in_ok-guesses.guesses.items c.deref-2.result.now guessed.columns.items c.deref-2.ensures.value c.in_ok-guesses.ensures each)

pub returns-clause-take : goal.returns-clause-take
returns-clause-take c =
    let rows = field_lists c.args.delimiter.byte c.args.records.now in
    ok_then c.columns_of.result _ _ c.columns_of.ensures.columns
    (λ guessed each. take_fields c.args.reading.now rows guessed.columns.items (columns_guessed c.args.reading.now rows c.in_ok-guesses.guesses.items c.deref-2.result.now guessed.columns.items c.deref-2.ensures.value c.in_ok-guesses.ensures each))

pub returns-clause-numbers : goal.returns-clause-numbers
returns-clause-numbers c =
    let rows = field_lists c.args.delimiter.byte c.args.records.now in
    ok_then c.columns_of.result _ _ c.columns_of.ensures.numbers
    (λ guessed each. numbers_guessed c.args.reading.now rows c.in_ok-guesses.guesses.items c.deref-2.result.now guessed.have_numbers.items c.deref-2.ensures.value c.in_ok-guesses.ensures each)
