-- No byte before the first line feed is one.
use Rattle.std.proofs.Common.{◌≢◌, ◌<◌, ◌≤◌, ◌+◌, ◌-◌, ℕ, List, All, arith, eq-eqb, get_or, get_or-take, length, take, sym, ◌∙◌}
use Rattle.std.proofs.lemmas.List.{get_or_default, length-take}
use Rattle.memchr.specs.Find.{Nowhere, Passes, is_byte}
use Rattle.zone_index.proofs.lines.length_through.Goals as goal

none_before : (bytes : List ℕ) (n m : ℕ) → m ≤ n → n ≤ length bytes → Nowhere (Passes (is_byte 10) bytes) 0 n → All (λ x. x ≢ 10) (take m bytes)
none_before bytes n m small within none k d below e =
    let short : k < m = omega (arith, length-take m bytes, below) in
    none k (omega arith) (omega (arith, short)) (eq-eqb (get_or bytes k 0) 10 (sym (get_or-take m bytes k 0 short) ∙ get_or_default (take m bytes) k 0 d below ∙ e))

pub returns-in-Some-clause-before : goal.returns-in-Some-clause-before
returns-in-Some-clause-before c = none_before c.args.bytes.now c.in-Some.feed (c.in-Some.feed + 1 - 1) (omega arith) (omega (arith, c.in-Some.ensures.0.high)) c.in-Some.ensures.0.before

pub returns-in-None-clause-before : goal.returns-in-None-clause-before
returns-in-None-clause-before c = none_before c.args.bytes.now (length c.args.bytes.now) (length c.args.bytes.now - 1) (omega arith) (omega arith) c.in-None.ensures
