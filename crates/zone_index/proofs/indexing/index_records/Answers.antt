-- A zone more, and the end.
use Rattle.std.proofs.Common.{rules, arith, ◌≡◌, ◌<◌, ◌+◌, ◌-◌, ◌++◌, ℕ, [], length}
use Rattle.std.proofs.lemmas.Grind.{common_steps}
use Rattle.std.proofs.lemmas.List.{nil_from_length}
use Rattle.std.proofs.lemmas.Result.{err_from_is_err_and}
use Rattle.zone_index.proofs.Begun.{begun, ended, more_at}
use Rattle.zone_index.proofs.Refusing.{far_in_stream, refused_in_stream}
use Rattle.zone_index.proofs.Sifting.{at_end, first_in_piece, rest_all, rest_more, rest_none_at}
use Rattle.zone_index.proofs.Sizing.{all_sized, all_summed, none_sized, none_summed, one_sized, one_summed}
use Rattle.zone_index.proofs.indexing.index_records.Goals as goal

pub loop-text-init : goal.loop-text-init
loop-text-init g c = record {
  right = λ before bytes long is. begun _ _ _ _ _ before bytes _ (search rules) long is;
  full = λ before bytes long is. begun _ _ _ _ _ before bytes _ (search rules) long is;
  sizes = λ bytes is. none_sized _ _ bytes _ (search rules) is;
  nulls = λ bytes is. none_summed _ _ bytes _ is;
  longer = λ bytes is. none_summed _ _ bytes _ is;
  sifted = λ bytes is. rest_none_at (g.D.Records.is_refused c.args.describer.now) (g.D.Records.delimiter c.args.describer.now) bytes _ c.args.start is;
  onward = omega arith;
  fits = omega (arith, c.ranges.start);
}

pub returns-then-is_empty-clause-right : goal.returns-then-is_empty-clause-right
returns-then-is_empty-clause-right g c =
    let none : c.take_records.new.text.items ≡ [] = first_of (search (rules, nil_from_length), grind (arith, common_steps, nil_from_length)) in
    λ before bytes long is. let b = c.loop-text.invariant.right before bytes long is in ended _ _ _ _ _ (before ++ bytes) _ _ b (c.in_ok-take_records.ensures.ended b.rest b.is none)

pub returns-then-is_empty-clause-full : goal.returns-then-is_empty-clause-full
returns-then-is_empty-clause-full g c =
    let none : c.take_records.new.text.items ≡ [] = first_of (search (rules, nil_from_length), grind (arith, common_steps, nil_from_length)) in
    λ before bytes long is. let b = c.loop-text.invariant.full before bytes long is in ended _ _ _ _ _ (before ++ bytes) _ _ b (c.in_ok-take_records.ensures.ended b.rest b.is none)

pub returns-then-is_empty-clause-sizes : goal.returns-then-is_empty-clause-sizes
returns-then-is_empty-clause-sizes g c = λ bytes is. all_sized c.args.size c.loop-text.zones.items _ c.requires (c.loop-text.invariant.sizes bytes is)

pub returns-then-is_empty-clause-nulls : goal.returns-then-is_empty-clause-nulls
returns-then-is_empty-clause-nulls g c =
    let none : c.take_records.new.text.items ≡ [] = first_of (search (rules, nil_from_length), grind (arith, common_steps, nil_from_length)) in
    λ bytes is. let s = c.loop-text.invariant.nulls bytes is in all_summed _ _ bytes _ _ s (c.in_ok-take_records.ensures.ended s.rest s.is none)

pub returns-then-is_empty-clause-longer : goal.returns-then-is_empty-clause-longer
returns-then-is_empty-clause-longer g c =
    let none : c.take_records.new.text.items ≡ [] = first_of (search (rules, nil_from_length), grind (arith, common_steps, nil_from_length)) in
    λ bytes is. let s = c.loop-text.invariant.longer bytes is in all_summed _ _ bytes _ _ s (c.in_ok-take_records.ensures.ended s.rest s.is none)

pub loop-text-preserved : goal.loop-text-preserved
loop-text-preserved g c =
    let d = g.D.Records.delimiter c.args.describer.now in
    let some : 0 < length c.take_records.new.text.items = first_of (search rules, grind (arith, common_steps)) in
    record {
      right = λ before bytes long is.
          let b = c.loop-text.invariant.right before bytes long is in
          more_at d c.delimiter_byte-delimiter.result.byte (g.D.Records.has_row c.args.describer.now) (g.D.Records.Describes c.args.describer.now) c.args.start c.loop-text.zones.items c.push.new.self.items (before ++ bytes) c.take_records.new.text.items c.deref.result.now _ (g.B.Read.remaining c.take_records.new.reader) c.loop-text.first c.in-Some.next c.in_ok-zone.zone b
          c.delimiter_byte-delimiter.ensures (c.in_ok-take_records.ensures.taken b.rest b.is) c.deref.ensures.value c.in_ok-zone.ensures.zone c.in_ok-push.ensures.items (search rules);
      full = λ before bytes long is.
          let b = c.loop-text.invariant.full before bytes long is in
          more_at d c.delimiter_byte-delimiter.result.byte (g.D.Records.has_row c.args.describer.now) (g.D.Describer.DescribesFully c.args.describer.now) c.args.start c.loop-text.zones.items c.push.new.self.items (before ++ bytes) c.take_records.new.text.items c.deref.result.now _ (g.B.Read.remaining c.take_records.new.reader) c.loop-text.first c.in-Some.next c.in_ok-zone.zone b
          c.delimiter_byte-delimiter.ensures (c.in_ok-take_records.ensures.taken b.rest b.is) c.deref.ensures.value c.in_ok-zone.ensures.full c.in_ok-push.ensures.items (search rules);
      sizes = λ bytes is.
          let s = c.loop-text.invariant.sizes bytes is in
          one_sized d c.delimiter_byte-delimiter.result.byte c.args.size c.loop-text.zones.items c.push.new.self.items c.take_records.new.text.items c.deref.result.now _ (g.B.Read.remaining c.take_records.new.reader) c.in_ok-zone.zone s
          c.delimiter_byte-delimiter.ensures (c.in_ok-take_records.ensures.taken s.rest s.is) (c.in_ok-take_records.ensures.many s.rest s.is) some c.deref.ensures.value c.in_ok-zone.ensures.zone.records c.in_ok-push.ensures.items;
      nulls = λ bytes is.
          let s = c.loop-text.invariant.nulls bytes is in
          one_summed d c.delimiter_byte-delimiter.result.byte (g.D.Describer.nulls_of c.args.describer.now) bytes c.take_records.new.text.items c.deref.result.now _ (g.B.Read.remaining c.take_records.new.reader) c.loop-text.nulls c.in_ok-zone.more_nulls c.saturating_add-nulls.result s
          c.delimiter_byte-delimiter.ensures (c.in_ok-take_records.ensures.taken s.rest s.is) c.deref.ensures.value c.in_ok-zone.ensures.nulls c.saturating_add-nulls.ensures;
      longer = λ bytes is.
          let s = c.loop-text.invariant.longer bytes is in
          one_summed d c.delimiter_byte-delimiter.result.byte (g.D.Describer.longer_of c.args.describer.now) bytes c.take_records.new.text.items c.deref.result.now _ (g.B.Read.remaining c.take_records.new.reader) c.loop-text.longer c.in_ok-zone.more_longer c.saturating_add-longer.result s
          c.delimiter_byte-delimiter.ensures (c.in_ok-take_records.ensures.taken s.rest s.is) c.deref.ensures.value c.in_ok-zone.ensures.longer c.saturating_add-longer.ensures;
      sifted = λ bytes is.
          let s = c.loop-text.invariant.sifted bytes is in
          rest_more (g.D.Records.is_refused c.args.describer.now) d c.delimiter_byte-delimiter.result.byte bytes c.take_records.new.text.items c.deref.result.now _ (g.B.Read.remaining c.take_records.new.reader) (c.loop-text.first - c.args.start) _ s
          c.delimiter_byte-delimiter.ensures (c.in_ok-take_records.ensures.taken s.rest s.is) (omega (arith, c.loop-text.invariant.onward, c.in-Some.ensures, c.in_ok-zone.ensures.zone.long, c.deref.ensures.len)) c.deref.ensures.value c.in_ok-zone.ensures.passed;
      onward = omega (arith, c.loop-text.invariant.onward, c.in-Some.ensures);
      fits = omega (arith, c.in-Some.ensures);
    }

pub returns-in_err-zone-clause-refused : goal.returns-in_err-zone-clause-refused
returns-in_err-zone-clause-refused g c =
    let p = err_from_is_err_and c.from_residual-in_err-zone.result c.from_residual-in_err-zone.ensures.1 in
    rw (p.1, p.2) (refused_in_stream (g.D.Records.Refuses c.args.describer.now) (g.D.Records.delimiter c.args.describer.now) c.delimiter_byte-delimiter.result.byte (g.D.Records.has_row c.args.describer.now) (g.D.Records.Describes c.args.describer.now) c.loop-text.zones.items c.take_records.new.text.items c.deref.result.now _ _ (g.B.Read.remaining c.take_records.new.reader) c.args.start c.loop-text.first c.in_err-zone.field-0.0
    c.loop-text.invariant.right c.delimiter_byte-delimiter.ensures c.in_ok-take_records.ensures.taken c.deref.ensures.value c.in_err-zone.ensures.refused)

pub returns-in-None-clause-far : goal.returns-in-None-clause-far
returns-in-None-clause-far g c = λ far.
    far_in_stream (g.D.Records.delimiter c.args.describer.now) c.delimiter_byte-delimiter.result.byte (g.D.Records.has_row c.args.describer.now) (g.D.Records.Describes c.args.describer.now) c.loop-text.zones.items c.take_records.new.text.items _ _ (g.B.Read.remaining c.take_records.new.reader) c.args.start c.loop-text.first
    c.loop-text.invariant.right c.in_ok-take_records.ensures.taken (omega (arith, c.in-None.ensures, c.in_ok-zone.ensures.zone.long, c.deref.ensures.len, c.take_records.new.text.ok.0))

pub returns-in_err-zone-clause-first : goal.returns-in_err-zone-clause-first
returns-in_err-zone-clause-first g c =
    let p = err_from_is_err_and c.from_residual-in_err-zone.result c.from_residual-in_err-zone.ensures.1 in
    rw (p.1, p.2) (first_in_piece (g.D.Records.is_refused c.args.describer.now) (g.D.Records.delimiter c.args.describer.now) c.delimiter_byte-delimiter.result.byte c.take_records.new.text.items c.deref.result.now _ _ (g.B.Read.remaining c.take_records.new.reader) c.args.start (c.loop-text.first - c.args.start) c.loop-text.first c.in_err-zone.field-0.0
    c.loop-text.invariant.sifted (omega (arith, c.loop-text.invariant.onward, c.loop-text.invariant.fits)) c.delimiter_byte-delimiter.ensures c.in_ok-take_records.ensures.taken c.deref.ensures.value c.in_err-zone.ensures.first)

pub returns-then-is_empty-clause-passed : goal.returns-then-is_empty-clause-passed
returns-then-is_empty-clause-passed g c =
    let none : c.take_records.new.text.items ≡ [] = first_of (search (rules, nil_from_length), grind (arith, common_steps, nil_from_length)) in
    λ bytes is. let s = c.loop-text.invariant.sifted bytes is in rest_all _ _ bytes _ _ s (c.in_ok-take_records.ensures.ended s.rest s.is none)

pub returns-then-is_empty-clause-ended : goal.returns-then-is_empty-clause-ended
returns-then-is_empty-clause-ended g c =
    let none : c.take_records.new.text.items ≡ [] = first_of (search (rules, nil_from_length), grind (arith, common_steps, nil_from_length)) in
    λ bytes is. let s = c.loop-text.invariant.sifted bytes is in at_end _ s.rest _ _ (c.in_ok-take_records.ensures.taken s.rest s.is) (c.in_ok-take_records.ensures.ended s.rest s.is none)
