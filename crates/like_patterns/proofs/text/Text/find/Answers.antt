-- By the finder, and without one.
use Rattle.std.proofs.Common.{ℕ, List, map, subst}
use Rattle.std.specs.Char.{to_ascii_lowercase}
use Rattle.memchr.specs.Find.{FindsNeedle}
use Rattle.like_patterns.proofs.text.Text.find.Goals as goal

pub returns-in-Sensitive : goal.returns-in-Sensitive
returns-in-Sensitive c = rw c.in-Sensitive.is (subst (λ (l : List ℕ). FindsNeedle c.args.text.now l 0 c.find.result) c.args.self.now.same c.find.ensures)

pub returns-in-Insensitive : goal.returns-in-Insensitive
returns-in-Insensitive c =
    rw c.in-Insensitive.is
    (subst (λ (l : List ℕ). FindsNeedle (map to_ascii_lowercase c.args.text.now) (map to_ascii_lowercase l) 0 c.find_insensitive.result) c.as_bytes.ensures.value c.find_insensitive.ensures)
