-- What was read of a stream, and whether columns are guessed.
use Rattle.std.proofs.Common.{◌≡◌, ◌∙◌, ℕ, Bool, List, Option, Some, arith, if◌then◌else◌, true, false, ap, refl, rules, subst, sym}
use Rattle.zone_index.specs.Taking.{IsTaken}
use Rattle.zone_map.specs.Preparing.{IsBegun, IsRead}
use Rattle.zone_map.proofs.preparing.begin.Goals as goal
use Rattle.zone_map.proofs.preparing.begin.Goals.{then-guesses, else-guesses}

of_count : (d n m : ℕ) (bytes text : List ℕ) (left : Option (List ℕ)) → n ≡ m → IsRead d n bytes text left → IsRead d m bytes text left
of_count d n m bytes text left e read = subst (λ k. IsRead d k bytes text left) e read

both : (d n m : ℕ) (has_header guesses : Bool) (bytes header first : List ℕ) (between left : Option (List ℕ)) → n ≡ (if has_header then 1 else 0) → m ≡ (if guesses then 1000 else 0)
    → IsRead d n bytes header between → ((behind : List ℕ) → between ≡ Some behind → IsRead d m behind first left) → IsBegun d has_header guesses bytes header first left
both d n m has_header guesses bytes header first between left one thousand read more =
    let taken = read.taken in
    let whole : IsTaken d bytes header (Some taken.rest) = record { rest = taken.rest; is = refl; parts = taken.parts; records = taken.records } in
    record {
      behind = taken.rest;
      header_is = of_count d n (if has_header then 1 else 0) bytes header (Some taken.rest) one (record { taken = whole; many = read.many });
      first_is = of_count d m (if guesses then 1000 else 0) taken.rest first left thousand (more taken.rest taken.is);
    }

count_true : (n : ℕ) (b : Bool) → b ≡ true → n ≡ 1000 → n ≡ (if b then 1000 else 0)
count_true n b e h = h ∙ ap (λ (x : Bool). if x then 1000 else 0) (sym e)

count_false : (n : ℕ) (b : Bool) → b ≡ false → n ≡ 0 → n ≡ (if b then 1000 else 0)
count_false n b e h = h ∙ ap (λ (x : Bool). if x then 1000 else 0) (sym e)

pub returns-clause-begun : goal.returns-clause-begun
returns-clause-begun g c = λ bytes is.
    let one : c.from.result ≡ (if c.args.has_header then 1 else 0) = first_of (search rules, grind arith) in
    let thousand : c.if-guesses.guessed_from ≡ (if c.in_ok-guesses.guesses then 1000 else 0) = elim c.if-guesses.branch [
      | then-guesses w ↦ count_true c.if-guesses.guessed_from c.in_ok-guesses.guesses w.if-guesses.true w.guessed_from-is
      | else-guesses w ↦ count_false c.if-guesses.guessed_from c.in_ok-guesses.guesses w.if-guesses.false w.guessed_from-is
    ] in
    both c.args.delimiter.byte c.from.result c.if-guesses.guessed_from c.args.has_header c.in_ok-guesses.guesses bytes c.in_ok-header.header.items c.in_ok-first.first.items _ _ one thousand
    (c.in_ok-header.ensures.read bytes is) c.in_ok-first.ensures.read

pub returns-clause-guesses : goal.returns-clause-guesses
returns-clause-guesses g c = rw (c.deref.ensures.value) at c.in_ok-guesses.ensures
