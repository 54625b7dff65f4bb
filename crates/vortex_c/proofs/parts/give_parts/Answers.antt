use Rattle.std.proofs.Common.{refl, rules}
use Rattle.vortex_statistics.specs.Statistics.{known}
use Rattle.column_statistics.specs.Items.{bytes_of_item}
use Rattle.vortex_c.proofs.PartSteps.{bound_told, count_told, parts_given}
use Rattle.vortex_c.proofs.parts.give_parts.Goals as goal

pub returns-clause-given : goal.returns-clause-given
returns-clause-given c = λ g.
    let s = known c.args.statistics.now in
    let lower = c.part_of_bound-lower in
    let upper = c.part_of_bound-upper in
    parts_given c.args.kind s c.as_slice-lower_bytes.result.now c.as_slice-upper_bytes.result.now c.write_both.new.lower_buffer c.write_both.new.upper_buffer _
    (record {
      rows = refl;
      nulls = count_told s.null_count _ _ (search rules) (search rules);
      lower_bound = bound_told c.args.kind s.lower lower.result.is_there lower.result.is_exact (bytes_of_item lower.result.item) c.as_slice-lower_bytes.result.now c.as_slice-lower_bytes.ensures lower.ensures;
      upper_bound = bound_told c.args.kind s.upper upper.result.is_there upper.result.is_exact (bytes_of_item upper.result.item) c.as_slice-upper_bytes.result.now c.as_slice-upper_bytes.ensures upper.ensures;
      lower_length = refl;
      upper_length = refl;
    })
    (c.write_both.ensures.lower_given g) (c.write_both.ensures.upper_given g)

pub returns-clause-needed : goal.returns-clause-needed
returns-clause-needed c =
    let s = known c.args.statistics.now in
    let lower = c.part_of_bound-lower in
    let upper = c.part_of_bound-upper in (
      c.as_slice-lower_bytes.result.now,
      c.as_slice-upper_bytes.result.now,
      record {
        rows = refl;
        nulls = count_told s.null_count _ _ (search rules) (search rules);
        lower_bound = bound_told c.args.kind s.lower lower.result.is_there lower.result.is_exact (bytes_of_item lower.result.item) c.as_slice-lower_bytes.result.now c.as_slice-lower_bytes.ensures lower.ensures;
        upper_bound = bound_told c.args.kind s.upper upper.result.is_there upper.result.is_exact (bytes_of_item upper.result.item) c.as_slice-upper_bytes.result.now c.as_slice-upper_bytes.ensures upper.ensures;
        lower_length = refl;
        upper_length = refl;
      },
    )
