-- A wrong name is refused first, and then what is wrong behind it.
use Rattle.std.proofs.Common.{◌≡◌, ◌-◌, ◌<◌, ◌^◌, Err, arith, drop, length, rules, subst, sym, take}
use Rattle.std.specs.Prelude.{◌↔◌}
use Rattle.vortex_dtype.specs.TypeOf.{type_of}
use Rattle.vortex_statistics.specs.Statistics.{known}
use Rattle.vortex_statistics.specs.declared.error.StatisticsError.{StatisticsError}
use Rattle.vortex_statistics.specs.declared.error.StatisticsError.TheVariants.{HasVariant}
use Rattle.named_statistics.specs.Named.{IsBadNamedEncoding, SaysNamedVariant}
use Rattle.named_statistics.proofs.NamedSteps.{bad_behind, behind_at, head_bad, head_variant, head_whole, not_read, offset_fits, right_behind, variant_behind, wrong_at}
use Rattle.named_statistics.proofs.reading.decode_by_head_into.Goals as goal

pub returns-in_err-start-clause-variant : goal.returns-in_err-start-clause-variant
returns-in_err-start-clause-variant c =
    let is : c.from_residual.result ≡ Err c.in_err-start.field-0.0 = search rules in
    rw is (head_variant (type_of c.args.dtype.now) c.args.bytes.now c.in_err-start.field-0.0 (wrong_at (type_of c.args.dtype.now) c.args.head.now c.args.bytes.now c.in_err-start.field-0.0 c.requires c.in_err-start.ensures.refused))

pub returns-in_err-start-clause-refused : goal.returns-in_err-start-clause-refused
returns-in_err-start-clause-refused c =
    let is : c.from_residual.result ≡ Err c.in_err-start.field-0.0 = search rules in
    rw is (head_bad (type_of c.args.dtype.now) c.args.bytes.now c.in_err-start.field-0.0 (wrong_at (type_of c.args.dtype.now) c.args.head.now c.args.bytes.now c.in_err-start.field-0.0 c.requires c.in_err-start.ensures.refused))

pub returns-in_err-start-clause-whole : goal.returns-in_err-start-clause-whole
returns-in_err-start-clause-whole c =
    let is : c.from_residual.result ≡ Err c.in_err-start.field-0.0 = search rules in
    rw is (head_whole (type_of c.args.dtype.now) c.args.bytes.now c.in_err-start.field-0.0 (wrong_at (type_of c.args.dtype.now) c.args.head.now c.args.bytes.now c.in_err-start.field-0.0 c.requires c.in_err-start.ensures.refused))

pub refusal_from-requires : goal.refusal_from-requires
refusal_from-requires c =
    let small : length c.args.bytes.now < 2 ^ 64 = omega arith in
    offset_fits c.in_ok-start.start c.args.bytes.now (take (length c.args.bytes.now - c.in_ok-start.start) (drop c.in_ok-start.start c.args.bytes.now)) (type_of c.args.dtype.now) c.in-Err.refusal (behind_at (type_of c.args.dtype.now) c.args.head.now c.args.bytes.now c.in_ok-start.start c.requires c.in_ok-start.ensures.read) small
    c.in-Err.ensures.refused

pub returns-in-Ok-clause-right : goal.returns-in-Ok-clause-right
returns-in-Ok-clause-right c =
    right_behind (type_of c.args.dtype.now) c.args.bytes.now (take (length c.args.bytes.now - c.in_ok-start.start) (drop c.in_ok-start.start c.args.bytes.now)) c.in_ok-start.start (known c.decode_statistics_into.new.statistics) (behind_at (type_of c.args.dtype.now) c.args.head.now c.args.bytes.now c.in_ok-start.start c.requires c.in_ok-start.ensures.read)
    c.in-Ok.ensures.read.1 c.in-Ok.ensures.right

pub returns-in-Err-clause-refused : goal.returns-in-Err-clause-refused
returns-in-Err-clause-refused c =
    subst (IsBadNamedEncoding (type_of c.args.dtype.now) c.args.bytes.now) (sym c.refusal_from.ensures)
    (bad_behind (type_of c.args.dtype.now) c.args.bytes.now (take (length c.args.bytes.now - c.in_ok-start.start) (drop c.in_ok-start.start c.args.bytes.now)) c.in_ok-start.start c.in-Err.refusal
    (behind_at (type_of c.args.dtype.now) c.args.head.now c.args.bytes.now c.in_ok-start.start c.requires c.in_ok-start.ensures.read) c.in-Err.ensures.refused)

pub returns-in-Err-clause-variant : goal.returns-in-Err-clause-variant
returns-in-Err-clause-variant c =
    subst (λ (e : StatisticsError). (not_read e ≡ not_read HasVariant) ↔ SaysNamedVariant (type_of c.args.dtype.now) c.args.bytes.now) (sym c.refusal_from.ensures)
    (variant_behind (type_of c.args.dtype.now) c.args.bytes.now (take (length c.args.bytes.now - c.in_ok-start.start) (drop c.in_ok-start.start c.args.bytes.now)) c.in_ok-start.start c.in-Err.refusal
    (behind_at (type_of c.args.dtype.now) c.args.head.now c.args.bytes.now c.in_ok-start.start c.requires c.in_ok-start.ensures.read) c.in-Err.ensures.variant)
