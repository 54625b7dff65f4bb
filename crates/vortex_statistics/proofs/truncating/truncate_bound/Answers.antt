-- What a bound becomes, by its kind.
use Rattle.std.proofs.Common.{◌≡◌, Option, Some, IfErr, IfOk, sym, subst, ◌∙◌}
use Rattle.std.proofs.lemmas.Result.{IfErr-weaker, IfOk-weaker}
use Rattle.vortex_bounds.specs.Strings.{HasNoUpper, IsLower, IsUpper}
use Rattle.vortex_bounds.specs.Texts.{HasNoTextUpper, IsTextLower, IsTextUpper}
use Rattle.vortex_value.specs.Values.RawTree.{raw_bytes, raw_text}
use Rattle.vortex_value.specs.Values.Scalars.{scalar_raw, scalar_type}
use Rattle.vortex_statistics.specs.Kinds.{IsCutAt, IsTruncated, kind_of}
use Rattle.vortex_statistics.specs.Truncating.{IsLong, IsLongRaw, IsOutOfMemoryAt}
use Rattle.vortex_statistics.specs.declared.column_statistics.Bound.{Bound}
use Rattle.vortex_statistics.specs.declared.truncating.Kind.TheVariants.{Bytes, Text, Whole}
use Rattle.vortex_statistics.proofs.ShortLaws.{bytes_long, text_long}
use Rattle.vortex_statistics.proofs.TruncateLaws.{bytes_cut, text_cut, whole_cut}
use Rattle.vortex_statistics.proofs.truncating.truncate_bound.Goals as goal

pub returns-in-Text-clause-value : goal.returns-in-Text-clause-value
returns-in-Text-clause-value c =
    let b : Bound = c.in-Some.bound in
    let kind : kind_of (scalar_type b.value) (scalar_raw b.value) ≡ Text = sym c.kind_of.ensures ∙ c.in-Text.is in
    let P : Option Bound → Type 0 = λ o. IfOk c.cut.result (IsTruncated c.args.side c.args.n o) in
    subst P (sym c.in-Some.is)
    (IfOk-weaker c.cut.result (IsCutAt c.args.side IsTextLower IsTextUpper HasNoTextUpper raw_text c.args.n b) (IsTruncated c.args.side c.args.n (Some b)) (λ z k. text_cut c.args.n b c.args.side z kind k) c.cut.ensures.value)

pub returns-in-Text-clause-refused : goal.returns-in-Text-clause-refused
returns-in-Text-clause-refused c =
    let b : Bound = c.in-Some.bound in
    let kind : kind_of (scalar_type b.value) (scalar_raw b.value) ≡ Text = sym c.kind_of.ensures ∙ c.in-Text.is in
    let P : Option Bound → Type 0 = λ o. IfErr c.cut.result (IsOutOfMemoryAt c.args.n (IsLong c.args.n o)) in
    subst P (sym c.in-Some.is)
    (IfErr-weaker c.cut.result (IsOutOfMemoryAt c.args.n (IsLongRaw raw_text c.args.n b)) (IsOutOfMemoryAt c.args.n (IsLong c.args.n (Some b))) (λ z k. (k.0, k.1, text_long c.args.n b kind k.2)) c.cut.ensures.refused)

pub returns-in-Bytes-clause-value : goal.returns-in-Bytes-clause-value
returns-in-Bytes-clause-value c =
    let b : Bound = c.in-Some.bound in
    let kind : kind_of (scalar_type b.value) (scalar_raw b.value) ≡ Bytes = sym c.kind_of.ensures ∙ c.in-Bytes.is in
    let P : Option Bound → Type 0 = λ o. IfOk c.cut-in-Bytes.result (IsTruncated c.args.side c.args.n o) in
    subst P (sym c.in-Some.is)
    (IfOk-weaker c.cut-in-Bytes.result (IsCutAt c.args.side IsLower IsUpper HasNoUpper raw_bytes c.args.n b) (IsTruncated c.args.side c.args.n (Some b)) (λ z k. bytes_cut c.args.n b c.args.side z kind k) c.cut-in-Bytes.ensures.value)

pub returns-in-Bytes-clause-refused : goal.returns-in-Bytes-clause-refused
returns-in-Bytes-clause-refused c =
    let b : Bound = c.in-Some.bound in
    let kind : kind_of (scalar_type b.value) (scalar_raw b.value) ≡ Bytes = sym c.kind_of.ensures ∙ c.in-Bytes.is in
    let P : Option Bound → Type 0 = λ o. IfErr c.cut-in-Bytes.result (IsOutOfMemoryAt c.args.n (IsLong c.args.n o)) in
    subst P (sym c.in-Some.is)
    (IfErr-weaker c.cut-in-Bytes.result (IsOutOfMemoryAt c.args.n (IsLongRaw raw_bytes c.args.n b)) (IsOutOfMemoryAt c.args.n (IsLong c.args.n (Some b))) (λ z k. (k.0, k.1, bytes_long c.args.n b kind k.2)) c.cut-in-Bytes.ensures.refused)

pub returns-in-Whole-clause-value : goal.returns-in-Whole-clause-value
returns-in-Whole-clause-value c =
    let b : Bound = c.in-Some.bound in
    let kind : kind_of (scalar_type b.value) (scalar_raw b.value) ≡ Whole = sym c.kind_of.ensures ∙ c.in-Whole.is in
    let P : Option Bound → Type 0 = λ o. IsTruncated c.args.side c.args.n o (Some b) in
    subst P (sym c.in-Some.is) (whole_cut c.args.n b c.args.side kind)
