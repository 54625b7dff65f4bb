-- A piece more, the end, and an error.
use Rattle.std.proofs.Common.{rules, arith, ◌≡◌, []}
use Rattle.std.proofs.lemmas.Grind.{common_steps}
use Rattle.std.proofs.lemmas.List.{nil_from_length}
use Rattle.std.proofs.lemmas.Result.{err_from_is_err_and}
use Rattle.csv_records.specs.Records.{records_of}
use Rattle.zone_index.specs.Errors.{TellsOffset, before_refused}
use Rattle.zone_index.proofs.Refusing.{passed_far, passed_more, passed_none, refused_in_piece}
use Rattle.zone_index.proofs.Rests.{all_counted, all_written, first_written, keeps-same, searched_first, searched_more, searched_none, searched_then}
use Rattle.zone_index.proofs.Sinking.{kept_written}
use Rattle.zone_index.proofs.Sifting.{at_end, first_in_piece, judged_more, judged_none, rest_all, rest_more, rest_none, stands_behind, told_where}
use Rattle.zone_index.proofs.streaming.find_rest.Goals as goal

pub loop-text-init : goal.loop-text-init
loop-text-init g c = record {
  searched = λ bytes is. searched_none _ _ _ _ bytes _ _ is;
  behind = λ bytes is. passed_none _ bytes _ is;
  sifted = λ bytes is. rest_none _ _ bytes _ is;
  judged = λ bytes is. judged_none _ _ bytes _ is;
  few = search rules;
}

pub loop-text-preserved : goal.loop-text-preserved
loop-text-preserved g c = record {
  searched = λ bytes is.
      let s = c.loop-text.invariant.searched bytes is in
      searched_more g.S.Sink.written_as c.args.start.number (g.M.Records.delimiter c.args.matcher.now) c.delimiter_byte-delimiter.result.byte (g.M.Matcher.matches c.args.matcher.now) bytes c.take_records.new.text.items c.deref.result.now (g.S.Sink.taken c.give_hits.new.sink) _ (g.B.Read.remaining c.take_records.new.reader) _ _ (g.S.Sink.contents c.give_hits.new.sink) (g.S.Sink.contents c.finish.new.self) c.loop-text.found c.in_ok-hits.hits _ c.loop-text.number _ s
      c.delimiter_byte-delimiter.ensures (c.in_ok-take_records.ensures.taken s.rest s.is) c.deref.ensures.value (c.in_ok-hits.ensures.taken tt) c.give_hits.ensures.kept c.in_ok-finish.ensures.written (c.in_ok-hits.ensures.counted tt) (search rules) (search rules);
  behind = λ bytes is.
      let s = c.loop-text.invariant.behind bytes is in
      passed_more (g.M.Records.delimiter c.args.matcher.now) c.delimiter_byte-delimiter.result.byte bytes c.take_records.new.text.items _ (g.B.Read.remaining c.take_records.new.reader) c.loop-text.passed _ s c.delimiter_byte-delimiter.ensures (c.in_ok-take_records.ensures.taken s.rest s.is) (search rules);
  sifted = λ bytes is.
      let s = c.loop-text.invariant.sifted bytes is in
      rest_more (g.M.Records.is_refused c.args.matcher.now) (g.M.Records.delimiter c.args.matcher.now) c.delimiter_byte-delimiter.result.byte bytes c.take_records.new.text.items c.deref.result.now _ (g.B.Read.remaining c.take_records.new.reader) c.loop-text.passed _ s c.delimiter_byte-delimiter.ensures (c.in_ok-take_records.ensures.taken s.rest s.is) (search rules) c.deref.ensures.value (c.in_ok-hits.ensures.passed tt);
  judged = λ bytes is.
      let s = c.loop-text.invariant.judged bytes is in
      judged_more (g.M.Records.is_refused c.args.matcher.now) (g.M.Records.delimiter c.args.matcher.now) c.delimiter_byte-delimiter.result.byte bytes c.take_records.new.text.items c.deref.result.now _ (g.B.Read.remaining c.take_records.new.reader) s c.delimiter_byte-delimiter.ensures (c.in_ok-take_records.ensures.taken s.rest s.is) c.deref.ensures.value (c.in_ok-hits.ensures.passed tt);
  few = omega (arith, c.loop-text.invariant.few, c.in_ok-hits.ensures.few, c.in-Some.ensures, c.deref.ensures.len, c.len.ensures);
}

pub returns-then-is_empty-clause-written : goal.returns-then-is_empty-clause-written
returns-then-is_empty-clause-written g c =
    let none : c.take_records.new.text.items ≡ [] = first_of (search (rules, nil_from_length), grind (arith, common_steps, nil_from_length)) in
    λ bytes is. let s = c.loop-text.invariant.searched bytes is in all_written _ _ _ _ bytes _ _ _ _ _ _ s (c.in_ok-take_records.ensures.ended s.rest s.is none) c.in_ok-flush.ensures.kept

pub returns-then-is_empty-clause-plain : goal.returns-then-is_empty-clause-plain
returns-then-is_empty-clause-plain g c =
    let none : c.take_records.new.text.items ≡ [] = first_of (search (rules, nil_from_length), grind (arith, common_steps, nil_from_length)) in
    λ plain bytes is. let s = c.loop-text.invariant.searched bytes is in kept_written _ _ g.S.Sink.written_as (g.M.Matcher.matches c.args.matcher.now) c.args.start.number (records_of (g.M.Records.delimiter c.args.matcher.now) bytes) plain (all_written _ _ _ _ bytes _ _ _ _ _ _ s (c.in_ok-take_records.ensures.ended s.rest s.is none) c.in_ok-flush.ensures.kept)

pub returns-then-is_empty-clause-found : goal.returns-then-is_empty-clause-found
returns-then-is_empty-clause-found g c =
    let none : c.take_records.new.text.items ≡ [] = first_of (search (rules, nil_from_length), grind (arith, common_steps, nil_from_length)) in
    λ bytes is. let s = c.loop-text.invariant.searched bytes is in all_counted _ _ _ _ bytes _ _ _ _ _ s (c.in_ok-take_records.ensures.ended s.rest s.is none)

pub returns-in_err-take_records-clause-partial : goal.returns-in_err-take_records-clause-partial
returns-in_err-take_records-clause-partial g c =
    let p = err_from_is_err_and c.from_residual.result c.from_residual.ensures.1 in
    rw p.1 (λ other bytes is. first_written _ _ _ _ bytes _ _ _ _ _ _ (c.loop-text.invariant.searched bytes is) (search rules))

pub returns-in_err-hits-clause-partial : goal.returns-in_err-hits-clause-partial
returns-in_err-hits-clause-partial g c =
    let p = err_from_is_err_and c.from_residual-in_err-hits.result c.from_residual-in_err-hits.ensures.1 in
    rw p.1 (λ other bytes is. first_written _ _ _ _ bytes _ _ _ _ _ _ (c.loop-text.invariant.searched bytes is) c.give_hits.ensures.kept)

pub returns-in-None-clause-partial : goal.returns-in-None-clause-partial
returns-in-None-clause-partial g c = λ other bytes is. first_written _ _ _ _ bytes _ _ _ _ _ _ (c.loop-text.invariant.searched bytes is) c.give_hits.ensures.kept

pub returns-in-None-clause-far : goal.returns-in-None-clause-far
returns-in-None-clause-far g c = λ far.
    passed_far (g.M.Records.delimiter c.args.matcher.now) c.delimiter_byte-delimiter.result.byte c.take_records.new.text.items _ _ (g.B.Read.remaining c.take_records.new.reader) c.loop-text.passed c.loop-text.invariant.behind c.in_ok-take_records.ensures.taken
    (omega (arith, c.in-None.ensures, c.len.ensures, c.take_records.new.text.ok.0))

pub returns-in_err-hits-clause-refused : goal.returns-in_err-hits-clause-refused
returns-in_err-hits-clause-refused g c =
    let p = err_from_is_err_and c.from_residual-in_err-hits.result c.from_residual-in_err-hits.ensures.1 in
    rw (p.1, p.2) (refused_in_piece (g.M.Records.Refuses c.args.matcher.now) (g.M.Records.delimiter c.args.matcher.now) c.delimiter_byte-delimiter.result.byte c.take_records.new.text.items c.deref.result.now _ _ (g.B.Read.remaining c.take_records.new.reader) c.args.start.place c.loop-text.passed _ c.in_err-hits.field-0.0
    c.loop-text.invariant.behind c.saturating_add.ensures c.delimiter_byte-delimiter.ensures c.in_ok-take_records.ensures.taken c.deref.ensures.value c.in_err-hits.ensures.refused)

pub returns-in_err-hits-clause-first : goal.returns-in_err-hits-clause-first
returns-in_err-hits-clause-first g c =
    let p = err_from_is_err_and c.from_residual-in_err-hits.result c.from_residual-in_err-hits.ensures.1 in
    rw (p.1, p.2) (first_in_piece (g.M.Records.is_refused c.args.matcher.now) (g.M.Records.delimiter c.args.matcher.now) c.delimiter_byte-delimiter.result.byte c.take_records.new.text.items c.deref.result.now _ _ (g.B.Read.remaining c.take_records.new.reader) c.args.start.place c.loop-text.passed _ c.in_err-hits.field-0.0
    c.loop-text.invariant.sifted c.saturating_add.ensures c.delimiter_byte-delimiter.ensures c.in_ok-take_records.ensures.taken c.deref.ensures.value (told_where (Unit {0}) (TellsOffset c.saturating_add.result (before_refused (g.M.Records.is_refused c.args.matcher.now) (records_of (g.M.Records.delimiter c.args.matcher.now) c.deref.result.now))) c.in_err-hits.field-0.0 tt c.in_err-hits.ensures.first))

pub returns-then-is_empty-clause-passed : goal.returns-then-is_empty-clause-passed
returns-then-is_empty-clause-passed g c =
    let none : c.take_records.new.text.items ≡ [] = first_of (search (rules, nil_from_length), grind (arith, common_steps, nil_from_length)) in
    λ bytes is. let s = c.loop-text.invariant.sifted bytes is in rest_all _ _ bytes _ _ s (c.in_ok-take_records.ensures.ended s.rest s.is none)

pub returns-then-is_empty-clause-ended : goal.returns-then-is_empty-clause-ended
returns-then-is_empty-clause-ended g c =
    let none : c.take_records.new.text.items ≡ [] = first_of (search (rules, nil_from_length), grind (arith, common_steps, nil_from_length)) in
    λ bytes is. let s = c.loop-text.invariant.sifted bytes is in at_end _ s.rest _ _ (c.in_ok-take_records.ensures.taken s.rest s.is) (c.in_ok-take_records.ensures.ended s.rest s.is none)

pub returns-in_err-hits-clause-near : goal.returns-in_err-hits-clause-near
returns-in_err-hits-clause-near g c =
    let p = err_from_is_err_and c.from_residual-in_err-hits.result c.from_residual-in_err-hits.ensures.1 in
    rw (p.1, p.2) (stands_behind (g.M.Records.is_refused c.args.matcher.now) (g.M.Records.delimiter c.args.matcher.now) c.delimiter_byte-delimiter.result.byte c.args.size c.take_records.new.text.items c.deref.result.now _ _ (g.B.Read.remaining c.take_records.new.reader) _ c.in_err-hits.field-0.0
    c.loop-text.invariant.judged c.delimiter_byte-delimiter.ensures c.in_ok-take_records.ensures.taken c.in_ok-take_records.ensures.many c.deref.ensures.value (told_where (Unit {0}) (TellsOffset c.saturating_add.result (before_refused (g.M.Records.is_refused c.args.matcher.now) (records_of (g.M.Records.delimiter c.args.matcher.now) c.deref.result.now))) c.in_err-hits.field-0.0 tt c.in_err-hits.ensures.first))

pub returns-in_err-take_records-clause-begun : goal.returns-in_err-take_records-clause-begun
returns-in_err-take_records-clause-begun g c =
    let p = err_from_is_err_and c.from_residual.result c.from_residual.ensures.1 in
    rw p.1 (λ bytes is. searched_first _ _ _ _ bytes _ _ _ _ _ _ (c.loop-text.invariant.searched bytes is) (keeps-same _ _ (search rules)))

pub returns-in_err-flush-clause-begun : goal.returns-in_err-flush-clause-begun
returns-in_err-flush-clause-begun g c =
    let p = err_from_is_err_and c.from_residual-in_err-flush.result c.from_residual-in_err-flush.ensures.1 in
    rw p.1 (λ bytes is. searched_first _ _ _ _ bytes _ _ _ _ _ _ (c.loop-text.invariant.searched bytes is) c.flush.ensures.kept)

pub returns-in_err-hits-clause-begun : goal.returns-in_err-hits-clause-begun
returns-in_err-hits-clause-begun g c =
    let p = err_from_is_err_and c.from_residual-in_err-hits.result c.from_residual-in_err-hits.ensures.1 in
    rw p.1 (λ bytes is. searched_first _ _ _ _ bytes _ _ _ _ _ _ (c.loop-text.invariant.searched bytes is) (keeps-same _ _ c.give_hits.ensures.kept))

pub returns-in-None-clause-begun : goal.returns-in-None-clause-begun
returns-in-None-clause-begun g c = λ bytes is. searched_first _ _ _ _ bytes _ _ _ _ _ _ (c.loop-text.invariant.searched bytes is) (keeps-same _ _ c.give_hits.ensures.kept)

pub returns-in_err-finish-clause-begun : goal.returns-in_err-finish-clause-begun
returns-in_err-finish-clause-begun g c =
    let p = err_from_is_err_and c.from_residual-in_err-finish.result c.from_residual-in_err-finish.ensures.1 in
    rw p.1 (λ bytes is.
    let s = c.loop-text.invariant.searched bytes is in
    searched_then g.S.Sink.written_as c.args.start.number (g.M.Records.delimiter c.args.matcher.now) c.delimiter_byte-delimiter.result.byte (g.M.Matcher.matches c.args.matcher.now) bytes c.take_records.new.text.items c.deref.result.now (g.S.Sink.taken c.give_hits.new.sink) _ (g.B.Read.remaining c.take_records.new.reader) _ _ (g.S.Sink.contents c.give_hits.new.sink) (g.S.Sink.contents c.finish.new.self) c.loop-text.found c.loop-text.number s
    c.delimiter_byte-delimiter.ensures (c.in_ok-take_records.ensures.taken s.rest s.is) c.deref.ensures.value (c.in_ok-hits.ensures.taken tt) c.give_hits.ensures.kept c.in_err-finish.ensures.begun)
