-- No name is left to try, or other words are refused.
use Rattle.std.proofs.Common.{ℕ, List, arith, rules, subst, sym}
use Rattle.std.proofs.lemmas.Grind.{common_steps}
use Rattle.std.specs.Prelude.{string_bytes}
use Rattle.filter_sql.specs.ColumnNames.{column_trees}
use Rattle.filter_sql.specs.Parsing.{IsSqlWithin, RefusesSqlWithin}
use Rattle.filter_sql.specs.declared.error.ParseError.TheVariants.{NoColumn}
use Rattle.vortex_filter.specs.Formula.{formula}
use Rattle.filter_sql.specs.OwnNames.{AreRenamed, as_they_are}
use Rattle.filter_sql.proofs.OwnNames.{refused_by_case, renamed_more}
use Rattle.filter_sql.proofs.own_names.filter_by_case.Goals as goal

pub returns-in_default-clause-refused : goal.returns-in_default-clause-refused
returns-in_default-clause-refused c =
    refused_by_case c.texts_say_one_filter.ensures.none c.args.depth (column_trees c.args.columns.now) c.args.words.now (string_bytes c.loop.own) c.args.offset (NoColumn c.loop.place) c.requires c.loop.invariant.renamed c.loop.invariant.refused

pub returns-in-Err : goal.returns-in-Err
returns-in-Err c =
    let trees = column_trees c.args.columns.now in
    let renamed = renamed_more c.args.depth trees c.args.words.now (string_bytes c.loop.own) c.deref.result.now c.loop.place c.in_ok-other.field-0 c.in-Some.other c.deref.ensures c.loop.invariant.renamed c.loop.invariant.refused c.in_ok-other.ensures c.in-Some.is in
    let refuses : RefusesSqlWithin c.args.depth trees (string_bytes c.in-Some.other) c.in-Err.error = first_of (search rules, grind (arith, common_steps)) in
    record { read = tt; refused = refused_by_case c.texts_say_one_filter.ensures.none c.args.depth trees c.args.words.now (string_bytes c.in-Some.other) c.args.offset c.in-Err.error c.requires renamed refuses }

pub returns-clause-refused : goal.returns-clause-refused
returns-clause-refused c =
    refused_by_case c.texts_say_one_filter.ensures.none c.args.depth (column_trees c.args.columns.now) c.args.words.now (string_bytes c.loop.own) c.args.offset (NoColumn c.loop.place) c.requires c.loop.invariant.renamed c.loop.invariant.refused

pub loop-init : goal.loop-init
loop-init c =
    let is = c.in_ok-own.ensures.ok in
    let trees = column_trees c.args.columns.now in record {
      renamed = subst (λ (l : List ℕ). AreRenamed c.args.depth trees c.args.words.now l) (sym is) as_they_are;
      refused = subst (λ (l : List ℕ). RefusesSqlWithin c.args.depth trees l (NoColumn c.args.offset)) (sym is) c.requires;
    }

pub loop-preserved : goal.loop-preserved
loop-preserved c =
    let trees = column_trees c.args.columns.now in
    let refuses : RefusesSqlWithin c.args.depth trees (string_bytes c.in-Some.other) (NoColumn c.in-Err-NoColumn.offset) = first_of (search rules, grind (arith, common_steps)) in record {
      renamed = renamed_more c.args.depth trees c.args.words.now (string_bytes c.loop.own) c.deref.result.now c.loop.place c.in_ok-other.field-0 c.in-Some.other c.deref.ensures c.loop.invariant.renamed c.loop.invariant.refused c.in_ok-other.ensures c.in-Some.is;
      refused = refuses;
    }

pub returns-in-Ok-clause-read : goal.returns-in-Ok-clause-read
returns-in-Ok-clause-read c =
    let trees = column_trees c.args.columns.now in
    let means : IsSqlWithin c.args.depth trees (string_bytes c.in-Some.other) (formula c.in-Ok.filter) = first_of (search rules, grind (arith, common_steps)) in record {
      own = string_bytes c.in-Some.other;
      renamed = renamed_more c.args.depth trees c.args.words.now (string_bytes c.loop.own) c.deref.result.now c.loop.place c.in_ok-other.field-0 c.in-Some.other c.deref.ensures c.loop.invariant.renamed c.loop.invariant.refused c.in_ok-other.ensures c.in-Some.is;
      means = means;
    }
