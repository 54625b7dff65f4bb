-- The moment of a word, from its pieces, and of the words that are written.
use Rattle.std.proofs.Common.{◌≡◌, ◌∙◌, ◌==◌, ◌+◌, ◌-ℤ◌, ◌*ℤ◌, ℕ, ℤ, pos, Bool, true, false, List, [], ◌∷◌, ◌++◌, Option, Some, None, Ok, refl, ap, sym, subst, append-nil, arith, ◌<◌, ◌/◌, negsuc, w64, to_z, of_z, FitsSigned}
use mir.Syntax.{w128}
use Rattle.std.proofs.lemmas.Bool.Decides.{nat_tests}
use Rattle.std.proofs.lemmas.Int.{ints}
use Rattle.std.specs.Option.{option_map}
use Rattle.jiff_core.proofs.SignedLemmas.{signed_arith}
use Rattle.jiff_core.specs.Calendar.{IsYear}
use Rattle.jiff_fmt.proofs.RoundTrip.{Stops, annotations-empty, datetime-text, offset-empty, offset-zulu, time_spec-text}
use Rattle.jiff_fmt.specs.Printer.{options}
use Rattle.jiff_fmt.specs.Printer as Printer
use Rattle.jiff_fmt.specs.declared.temporal.printer.DateTimePrinter.{DateTimePrinter}
use Rattle.jiff_fmt.specs.Text.{datetime_text, time_text}
use Rattle.jiff_core.specs.DateTime.{civil_nanos}
use Rattle.jiff_core.specs.Timestamp.{nanos_of_seconds}
use Rattle.jiff_core.specs.declared.civil.time.Time.{Time}
use Rattle.jiff_core.specs.declared.civil.datetime.DateTime.{DateTime}
use Rattle.jiff_fmt.specs.declared.temporal.pieces.Pieces.{Pieces}
use Rattle.jiff_fmt.specs.declared.temporal.pieces.PiecesOffset.{PiecesOffset}
use Rattle.jiff_fmt.specs.Temporal.{zulu, temporal_datetime, date_spec, date_parts, offset_piece_view, parse_pieces, parts_nanos, piece_seconds, pieces_result_view, pieces_view, time_parts}
use Rattle.logical_types.specs.declared.times.TimeUnit.{TimeUnit}
use Rattle.logical_types.specs.declared.times.TimeUnit.TheVariants.{Seconds, Milliseconds, Microseconds, Nanoseconds}
use Rattle.logical_types.specs.Printed.{civil_text}
use Rattle.logical_types.specs.Times.{nanoseconds_of, has_separators, moment_at, moment_of_pieces, moment_of_time, moment_or_midnight, moment_written, timestamp_written}

-- what the clock of a date and a time shows
pub clock : (dt : DateTime) → parts_nanos (date_parts dt.date) (time_parts dt.time) ≡ civil_nanos dt
unfolding civil_nanos
clock dt = refl

-- of pieces with a time and without an annotation
pub of_pieces : (z : Bool) (word : List ℕ) (p : Pieces) (t : Time) → has_separators word ≡ true → pieces_result_view (Ok p) ≡ parse_pieces word
    → p.time ≡ Some t → p.time_zone_annotation ≡ None
    → moment_written z word ≡ moment_at z (pieces_view p) (time_parts t) (option_map offset_piece_view p.offset) None
of_pieces z word p t s e k n =
    let time : (pieces_view p).time ≡ Some (time_parts t) = ap (option_map time_parts) k in
    let zone : (pieces_view p).zone ≡ None = rw n in
    let read : moment_written z word ≡ moment_of_pieces z (parse_pieces word) = rw s in
    read ∙ ap (moment_of_pieces z) (sym e) ∙ ap (moment_of_time z (pieces_view p)) time
    ∙ ap (λ o. moment_at z (pieces_view p) (time_parts t) (pieces_view p).offset o) zone

-- without an offset, and with one
pub without_offset : (word : List ℕ) (p : Pieces) (t : Time) (dt : DateTime) → has_separators word ≡ true → pieces_result_view (Ok p) ≡ parse_pieces word
    → p.time ≡ Some t → p.time_zone_annotation ≡ None → p.offset ≡ None → dt.date ≡ p.date → dt.time ≡ t
    → moment_written false word ≡ Some (civil_nanos dt)
without_offset word p t dt s e k n o d h =
    of_pieces false word p t s e k n
    ∙ ap (λ x. moment_at false (pieces_view p) (time_parts t) (option_map offset_piece_view x) None) o
    ∙ ap (λ x. Some (parts_nanos (date_parts x) (time_parts t))) (sym d)
    ∙ ap (λ x. Some (parts_nanos (date_parts dt.date) (time_parts x))) (sym h)
    ∙ ap Some (clock dt)

pub with_offset : (word : List ℕ) (p : Pieces) (t : Time) (dt : DateTime) (x : PiecesOffset) → has_separators word ≡ true → pieces_result_view (Ok p) ≡ parse_pieces word
    → p.time ≡ Some t → p.time_zone_annotation ≡ None → p.offset ≡ Some x → dt.date ≡ p.date → dt.time ≡ t
    → moment_written true word ≡ Some (civil_nanos dt -ℤ nanos_of_seconds (piece_seconds (offset_piece_view x)))
with_offset word p t dt x s e k n o d h =
    of_pieces true word p t s e k n
    ∙ ap (λ y. moment_at true (pieces_view p) (time_parts t) (option_map offset_piece_view y) None) o
    ∙ ap (λ y. Some (parts_nanos (date_parts y) (time_parts t) -ℤ nanos_of_seconds (piece_seconds (offset_piece_view x)))) (sym d)
    ∙ ap (λ y. Some (parts_nanos (date_parts dt.date) (time_parts y) -ℤ nanos_of_seconds (piece_seconds (offset_piece_view x)))) (sym h)
    ∙ ap (λ y. Some (y -ℤ nanos_of_seconds (piece_seconds (offset_piece_view x)))) (clock dt)

-- ---- the words that are written

-- a year's sign or digit, and what stands after the year
byte_test : (a b : ℕ) → (a ≡ b → ⊥) → (a == b) ≡ false
byte_test a b h = grind (arith, nat_tests)

-- a date and a time in the kit's text have separators, whatever follows
pub has_them : (dt : DateTime) (rest : List ℕ) → has_separators (datetime_text false 84 None dt ++ rest) ≡ true
has_them dt rest = by_year dt.date.year refl
  where
    second : ((48 + dt.time.second / 10) == 54) ≡ false
    second = let h = dt.time.second_in in grind (arith, nat_tests)

    by_year : (y : ℤ) → dt.date.year ≡ y → has_separators (datetime_text false 84 None dt ++ rest) ≡ true
    by_year (pos n) e =
        let in_range : n < 10_000 = omega (arith, signed_arith, (subst IsYear e dt.date.year_in).0, (subst IsYear e dt.date.year_in).1) in
        let not_plus : ((48 + n / 100 / 10) == 43) ≡ false = grind (arith, nat_tests) in
        let not_minus : ((48 + n / 100 / 10) == 45) ≡ false = grind (arith, nat_tests) in
        rw (e, not_plus, not_minus, second)
    by_year (negsuc n) e = rw (e, second)

-- its pieces
pub plain_pieces : (dt : DateTime) → parse_pieces (datetime_text false 84 None dt) ≡ Ok (record { date = date_parts dt.date; time = Some (time_parts dt.time); offset = None; zone = None })
unfolding temporal_datetime
plain_pieces dt =
    let stop : Stops [] = refl in
    let read = datetime-text dt [] stop in
    let same : date_spec (datetime_text false 84 None dt) ≡ Ok (date_parts dt.date, 84 ∷ time_text None dt.time ++ []) =
    subst (λ x. date_spec x ≡ Ok (date_parts dt.date, 84 ∷ time_text None dt.time ++ [])) (append-nil (datetime_text false 84 None dt)) read in
    rw (same, time_spec-text dt.time [] stop, offset-empty, annotations-empty)

pub zulu_pieces : (dt : DateTime) → parse_pieces (datetime_text false 84 None dt ++ 90 ∷ []) ≡ Ok (record { date = date_parts dt.date; time = Some (time_parts dt.time); offset = Some zulu; zone = None })
unfolding temporal_datetime
zulu_pieces dt =
    let stop : Stops (90 ∷ []) = refl in
    rw (datetime-text dt (90 ∷ []) stop, time_spec-text dt.time (90 ∷ []) stop, offset-zulu, annotations-empty)

-- and its moment
pub plain_reads : (dt : DateTime) → moment_written false (datetime_text false 84 None dt) ≡ Some (civil_nanos dt)
plain_reads dt =
    let them : has_separators (datetime_text false 84 None dt) ≡ true = subst (λ x. has_separators x ≡ true) (append-nil (datetime_text false 84 None dt)) (has_them dt []) in
    let e : moment_written false (datetime_text false 84 None dt) ≡ moment_of_pieces false (parse_pieces (datetime_text false 84 None dt)) = rw them in
    e ∙ ap (moment_of_pieces false) (plain_pieces dt) ∙ ap Some (clock dt)

pub zulu_reads : (dt : DateTime) → moment_written true (datetime_text false 84 None dt ++ 90 ∷ []) ≡ Some (civil_nanos dt)
zulu_reads dt =
    let them = has_them dt (90 ∷ []) in
    let e : moment_written true (datetime_text false 84 None dt ++ 90 ∷ []) ≡ moment_of_pieces true (parse_pieces (datetime_text false 84 None dt ++ 90 ∷ [])) = rw them in
    let z : parts_nanos (date_parts dt.date) (time_parts dt.time) -ℤ nanos_of_seconds (pos 0) ≡ civil_nanos dt = minus_zero _ ∙ clock dt in
    e ∙ ap (moment_of_pieces true) (zulu_pieces dt) ∙ ap Some z
  where
    minus_zero : (x : ℤ) → x -ℤ nanos_of_seconds (pos 0) ≡ x
    minus_zero x = omega (arith, signed_arith)

pub civil_reads : (z : Bool) (dt : DateTime) → moment_written z (civil_text z dt) ≡ Some (civil_nanos dt)
civil_reads false dt = plain_reads dt
civil_reads true dt = zulu_reads dt

-- a moment that is read is the timestamp's
pub moment_first : (z : Bool) (word : List ℕ) (m : ℤ) → moment_written z word ≡ Some m → timestamp_written z word ≡ Some m
moment_first z word m e = ap (λ (o : Option ℤ). moment_or_midnight o z word) e

-- by a printer's options
pub by_options : (p : DateTimePrinter) (dt : DateTime) → options p ≡ (false, 84, None) → Printer.datetime_text p dt ≡ datetime_text false 84 None dt
by_options p dt e =
    let lower : p.lowercase ≡ false = ap (λ x. x.0) e in
    let separator : p.separator ≡ 84 = ap (λ x. x.1) e in
    let precision : p.precision ≡ None = ap (λ x. x.2) e in
    rw (lower, separator, precision)

-- ---- units

-- a number of units in nanoseconds fits 128 bits
pub moment_of_units : (unit : TimeUnit) (z : ℤ) (n : ℕ) → FitsSigned w64 z → n ≡ nanoseconds_of unit
    → to_z w128 (of_z w128 (to_z w128 (of_z w128 (to_z w64 (of_z w64 z))) *ℤ to_z w128 n)) ≡ z *ℤ pos (nanoseconds_of unit)
moment_of_units Seconds z n h e = rw e (omega (arith, ints, h))
moment_of_units Milliseconds z n h e = rw e (omega (arith, ints, h))
moment_of_units Microseconds z n h e = rw e (omega (arith, ints, h))
moment_of_units Nanoseconds z n h e = rw e (omega (arith, ints, h))

-- the moment tells the number of units
pub one_number : (unit : TimeUnit) (y z : ℤ) → y *ℤ pos (nanoseconds_of unit) ≡ z *ℤ pos (nanoseconds_of unit) → y ≡ z
one_number Seconds y z e = omega (arith, signed_arith, e)
one_number Milliseconds y z e = omega (arith, signed_arith, e)
one_number Microseconds y z e = omega (arith, signed_arith, e)
one_number Nanoseconds y z e = omega (arith, signed_arith, e)
