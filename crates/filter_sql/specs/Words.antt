-- The words of this crate's clauses, from one place.
unfoldable pub use Rattle.filter_sql.specs.Tokens.{keyword_named}
unfoldable pub use Rattle.filter_sql.specs.Lexing.{after_digits, after_fraction, after_power, bytes_at, mark_of, number_at, parameter_at, token_at, unquoted_at, word_at}
pub use Rattle.hex.specs.Hex.{encode_lower}
pub use Rattle.std.specs.Fmt.{WritesOnOk, decimal}
pub use Rattle.std.specs.List.{flat_map, list_any}
pub use Rattle.std.specs.Str.{chars}
pub use Rattle.std.specs.String.{string_bytes}
pub use Rattle.filter_sql.specs.Faults.{IsPlaced}
pub use Rattle.vortex_filter.specs.Formula.{formula, negation}
pub use Rattle.filter_sql.specs.Lexing.{Gives, after_minus, after_number, after_sign, fault_at, is_number, quoted_at, quoted_token, view}
pub use Rattle.filter_sql.specs.ColumnNames.{column_trees}
pub use Rattle.filter_sql.specs.OwnNames.{AreRenamed, IsFilterOf, IsOnlyName, IsOwnFilter, IsRenamed, IsWordIn, RefusesWords}
pub use Rattle.filter_sql.specs.Parsing.{RefusesSqlWithin}
pub use Rattle.filter_sql.specs.declared.error.ParseError.TheVariants.{NoColumn}
pub use Rattle.filter_sql.specs.Pieces.{and_text, column_text, comparison_text, escape_text, group_text, like_text, literal_text, literals_text, like_word, membership_text, null_test_text, or_text, pattern_test_text, patterned, prefix_text, quotable, range_text, starts_with_text, text_at}
pub use Rattle.filter_sql.specs.Printing.{constant_keyword, is_special, names_of, prefix_pattern, sql_text}
pub use Rattle.filter_sql.specs.Texts.{EndsAt, items, stopped}
pub use Rattle.filter_sql.specs.Tokens.{AreTokens, TokenTree, canonical, doubled, is_word_byte, is_word_start, keyword_text, name_token, number_goes_on, operator_text, quoted, token_tree, trees}
pub use Rattle.vortex_cells.specs.Cells.{cell_of}
pub use Rattle.vortex_value.specs.Texts.{two_digits}
pub use Rattle.vortex_value.specs.Values.Scalars.{scalar_content}
