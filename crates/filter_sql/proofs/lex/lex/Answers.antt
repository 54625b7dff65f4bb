-- Each token is one more of the text, and no token begins where reading stops.
use Rattle.std.specs.Char.{is_ascii_whitespace}
use Rattle.std.specs.List.{AllByRecursion, prefix_len}
use Rattle.std.proofs.Common.{sym, ap, ◌∙◌, length-drop, ◌≡◌, ◌<◌, ◌≤◌, arith, refl, eqb-true, false-eqb, length}
use Rattle.std.proofs.lemmas.Str.Ascii.{trim_ascii_start_is}
use Rattle.filter_sql.specs.declared.token.Placed.{Placed}
use Rattle.filter_sql.proofs.Lexed.{all_read, less_left, one_more, printed_stops, printed_tokens, stopped_ends, stopped_has, stopped_refuses}
use Rattle.filter_sql.proofs.Runs.{placed_before, placed_within}
use Rattle.filter_sql.proofs.lex.lex.Goals as goal

pub loop-rest-init : goal.loop-rest-init
loop-rest-init c =
    let trim = trim_ascii_start_is c.args.text.now c.trim_ascii_start-rest.result.now c.trim_ascii_start-rest.ensures.value in
    record {
      read = rw (c.new-placed.ensures.items, trim) refl;
      within = omega (arith, ap length trim ∙ length-drop (prefix_len is_ascii_whitespace c.args.text.now) c.args.text.now);
      utf8 = c.trim_ascii_start-rest.utf8;
    }

pub is_empty-requires-text-self : goal.is_empty-requires-text-self
is_empty-requires-text-self c = λ _. c.loop-rest.invariant.utf8

pub loop-rest-smaller : goal.loop-rest-smaller
loop-rest-smaller c = less_left c.loop-rest.rest.now c.in-Ok.after.now c.trim_ascii_start-rest-in-Ok.result.now _ (rw c.in-Ok.is at c.first_token.ensures) c.trim_ascii_start-rest-in-Ok.ensures.value

pub loop-rest-preserved : goal.loop-rest-preserved
loop-rest-preserved c =
    let read = rw c.in-Ok.is at c.first_token.ensures in
    let trim = c.trim_ascii_start-rest-in-Ok.ensures.value in
    let shorter = less_left c.loop-rest.rest.now c.in-Ok.after.now c.trim_ascii_start-rest-in-Ok.result.now _ read trim in
    record {
      read = one_more c.args.text.now c.loop-rest.placed.items c.push.new.self.items c.loop-rest.rest.now c.in-Ok.after.now c.trim_ascii_start-rest-in-Ok.result.now _ c.loop-rest.invariant.read read refl c.loop-rest.invariant.within c.in_ok-push-in-Ok.ensures.items trim;
      within = omega (arith, c.loop-rest.invariant.within);
      utf8 = c.trim_ascii_start-rest-in-Ok.utf8;
    }

pub returns-in-Err-clause-found : goal.returns-in-Err-clause-found
returns-in-Err-clause-found c =
    let some : 0 < length c.loop-rest.rest.now = omega (arith, false-eqb _ 0 c.loop-rest-test.ensures) in
    rw c.stopped.ensures (stopped_ends c.args.text.now c.loop-rest.rest.now c.loop-rest.placed c.in-Err.fault _ c.loop-rest.invariant.read some c.loop-rest.invariant.within refl (rw c.in-Err.is at c.first_token.ensures))

pub returns-in-Err-clause-refused : goal.returns-in-Err-clause-refused
returns-in-Err-clause-refused c = rw c.stopped.ensures (stopped_refuses c.loop-rest.placed c.in-Err.fault _)

pub returns-in-Err-clause-canonical : goal.returns-in-Err-clause-canonical
returns-in-Err-clause-canonical c ts all same =
    let some : 0 < length c.loop-rest.rest.now = omega (arith, false-eqb _ 0 c.loop-rest-test.ensures) in
    rw c.stopped.ensures (printed_stops c.args.text.now c.loop-rest.rest.now c.loop-rest.placed c.in-Err.fault _ c.loop-rest.invariant.read some (rw c.in-Err.is at c.first_token.ensures) ts all same)

pub returns-in-Err-clause-places : goal.returns-in-Err-clause-places
returns-in-Err-clause-places c =
    rw c.stopped.ensures (stopped_has (λ ps place. AllByRecursion (λ (p : Placed). p.place ≤ place) ps) c.loop-rest.placed c.in-Err.fault _
    (placed_before (length c.args.text.now) _ c.loop-rest.placed.items c.loop-rest.rest.now _ c.loop-rest.invariant.read (omega (arith, c.loop-rest.invariant.within))))

pub returns-in-Err-clause-place : goal.returns-in-Err-clause-place
returns-in-Err-clause-place c = rw c.stopped.ensures (stopped_has (λ ps place. place ≤ length c.args.text.now) c.loop-rest.placed c.in-Err.fault _ (omega arith))

pub returns-clause-found : goal.returns-clause-found
returns-clause-found c =
    let none : length c.loop-rest.rest.now ≡ 0 = eqb-true (length c.loop-rest.rest.now) 0 (sym c.loop-rest-test.ensures) in
    (all_read c.args.text.now c.loop-rest.rest.now c.loop-rest.placed.items c.loop-rest.invariant.read none, refl)

pub returns-clause-canonical : goal.returns-clause-canonical
returns-clause-canonical c ts all same =
    let none : length c.loop-rest.rest.now ≡ 0 = eqb-true (length c.loop-rest.rest.now) 0 (sym c.loop-rest-test.ensures) in
    (printed_tokens c.args.text.now c.loop-rest.placed.items (all_read c.args.text.now c.loop-rest.rest.now c.loop-rest.placed.items c.loop-rest.invariant.read none) ts all same, refl)

pub returns-clause-places : goal.returns-clause-places
returns-clause-places c = placed_within (length c.args.text.now) _ c.loop-rest.placed.items c.loop-rest.rest.now c.loop-rest.invariant.read
