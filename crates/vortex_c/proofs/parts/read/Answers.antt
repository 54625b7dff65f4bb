use Rattle.std.proofs.Common.{inl, inr, subst}
use Rattle.column_cells.specs.Types.{type_of_kind}
use Rattle.vortex_statistics.specs.Statistics.{known}
use Rattle.vortex_c.specs.Parts.{SufficesFor}
use Rattle.vortex_c.proofs.Lengths.{bounds_fit}
use Rattle.vortex_c.proofs.PartSteps.{not_small}
use Rattle.vortex_c.proofs.parts.read.Goals as goal

pub returns-in-Ok-clause-given : goal.returns-in-Ok-clause-given
returns-in-Ok-clause-given c = λ g. record {
  kind = c.in-Some.kind;
  is_kind = c.in-Some.is;
  statistics = known c.in-Ok.statistics;
  is_encoding = c.in-Ok.ensures.read;
  values = c.in-Ok.ensures.values;
  right = c.in-Ok.ensures.right;
  parts = c.give_parts.ensures.given g;
}

pub returns-in-Ok-clause-needed : goal.returns-in-Ok-clause-needed
returns-in-Ok-clause-needed c = λ g.
    let h = c.give_parts.ensures.needed in
    (h.0, h.1, record { kind = c.in-Some.kind; is_kind = c.in-Some.is; statistics = known c.in-Ok.statistics; is_encoding = c.in-Ok.ensures.read; values = c.in-Ok.ensures.values; right = c.in-Ok.ensures.right; parts = h.2 })

pub returns-in-Ok-clause-refused : goal.returns-in-Ok-clause-refused
returns-in-Ok-clause-refused c = inl c.give_parts.ensures.answer

pub returns-in-Ok-clause-kept_parts : goal.returns-in-Ok-clause-kept_parts
returns-in-Ok-clause-kept_parts c = inl c.give_parts.ensures.answer

pub returns-in-Ok-clause-enough : goal.returns-in-Ok-clause-enough
returns-in-Ok-clause-enough c = λ room small.
    let h = c.give_parts.ensures.needed in
    let fit = bounds_fit (type_of_kind c.in-Some.kind) c.in-Some.kind (known c.in-Ok.statistics) c.args.bytes.now c.args.lower_buffer.now c.args.upper_buffer.now h.0 h.1 c.give_parts.new.parts c.in-Ok.ensures.read h.2 (subst (λ found. SufficesFor found c.args.bytes.now c.args.lower_buffer.now) c.in-Some.is room.0) (subst (λ found. SufficesFor found c.args.bytes.now c.args.upper_buffer.now) c.in-Some.is room.1) in
    not_small _ _ _ _ fit (c.give_parts.ensures.small small)

pub returns-in-Err-clause-enough : goal.returns-in-Err-clause-enough
returns-in-Err-clause-enough c = λ room small. absurd (c.tell_read.ensures.refused (inr small))
