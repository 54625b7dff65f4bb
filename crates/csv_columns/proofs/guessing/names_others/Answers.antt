-- The header's names are more, and each column has one of them.
use Rattle.std.proofs.Common.{◌≡◌, ◌∙◌, ◌<◌, ◌≤◌, Bool, true, false, List, ap, arith, length, rules, subst, sym, ℕ}
use Rattle.std.proofs.lemmas.Bool.{le-ltb}
use Rattle.std.proofs.lemmas.List.{length-map}
use Rattle.std.specs.Prelude.{All, Contains, MatchBool, string_bytes}
use Rattle.csv_columns.specs.Guesses.{NamesOthers, column_names, header_names}
use Rattle.csv_columns.specs.Names.{texts}
use Rattle.csv_columns.proofs.Columns.{name_bytes}
use Rattle.csv_columns.proofs.guessing.names_others.Goals.{then-columns-len, else-columns-len}
use Rattle.csv_columns.proofs.guessing.names_others.Goals as goal

more_named : (named : Bool) (header given : List (List ℕ)) → length given < length header → MatchBool named (All (Contains header) given) (¬ (All (Contains header) given))
    → MatchBool named (NamesOthers header given) (¬ (NamesOthers header given))
more_named true header given more all = (more, all)
more_named false header given more none = λ both. none both.1

no_more_named : (named : Bool) (header given : List (List ℕ)) → named ≡ false → length header ≤ length given → MatchBool named (NamesOthers header given) (¬ (NamesOthers header given))
no_more_named named header given is few =
    subst (λ (b : Bool). MatchBool b (NamesOthers header given) (¬ (NamesOthers header given))) (sym is) (λ both. absurd (omega (arith, both.0)))

pub returns : goal.returns
returns c =
    let names = c.in_ok-names.names.items in
    let columns = c.args.columns.now in
    let given = column_names columns in
    let header = header_names c.args.delimiter.byte c.args.header.now in
    let count : c.len.result ≡ length names = search rules in
    let of_header : length header ≡ length names = sym (ap length c.in_ok-names.ensures) ∙ length-map names string_bytes in
    let of_given : length given ≡ length columns = length-map columns name_bytes in
    elim c.if-columns-len.branch [
      | then-columns-len w ↦
          let is : texts w.deref.result.now ≡ header = ap texts w.deref.ensures.value ∙ c.in_ok-names.ensures in
          let named = subst (λ (x : List (List ℕ)). MatchBool w.are_named.result (All (Contains x) given) (¬ (All (Contains x) given))) is w.are_named.ensures in
          let more : length given < length header = omega (arith, w.if-columns-len.true) in
          subst (λ (b : Bool). MatchBool b (NamesOthers header given) (¬ (NamesOthers header given))) (sym w.result-is) (more_named w.are_named.result header given more named)
      | else-columns-len w ↦
          let few : length header ≤ length given = omega (arith, w.if-columns-len.false) in
          subst (λ (b : Bool). MatchBool b (NamesOthers header given) (¬ (NamesOthers header given))) (sym w.result-is)
          (no_more_named _ header given (le-ltb (length columns) c.len.result w.if-columns-len.false) few)
    ]
