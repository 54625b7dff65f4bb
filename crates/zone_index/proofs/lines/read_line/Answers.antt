-- More bytes of the line, and its end.
use Rattle.std.proofs.Common.{◌≡◌, ◌≢◌, ℕ, List, ◌++◌, All, length, drop, refl, sym, ap, subst, ◌∙◌, rules, true, Option, None, Some, Ok, le_refl, drop_of_length-le}
use lib.Seq.{drop-append-le}
use Rattle.std.proofs.lemmas.List.Elements.{All-append}
use Rattle.std.specs.Io.{StartsWith}
use Rattle.std.proofs.KnownBytes.{starts_with_rest, Consumes-nil, Consumes-more}
use Rattle.std.proofs.BufReadLemmas.{Consumes_through, IsAtEnd-of_take_through}
use Rattle.std.specs.Io.BufRead.{take_through}
use Rattle.std.specs.Prelude.{IfSome}
use Rattle.std.specs.Io.KnownBytes.{Consumes}
use Rattle.std.proofs.Transfers.{starts_with_of_eq, starts_with_trans, starts_with_length, All-of_none_appended}
use Rattle.zone_index.proofs.lines.read_line.Goals as goal

-- what two calls appended, one after the other
past_both : (old mid new : List ℕ) → StartsWith mid old → StartsWith new mid → drop (length old) new ≡ drop (length old) mid ++ drop (length mid) new
past_both old mid new p q = ap (drop (length old)) (starts_with_rest new mid q) ∙ drop-append-le (length old) mid _ (starts_with_length mid old p)

if_some_more : (o : Option (List ℕ)) (P Q : List ℕ → Type 0) → ((xs : List ℕ) → P xs → Q xs) → IfSome o P → IfSome o Q
if_some_more None P Q more h = tt
if_some_more (Some xs) P Q more h = more xs h

pub loop-init : goal.loop-init
loop-init g c = record {
  start = search rules;
  grows = search rules;
  appends = starts_with_of_eq _ _ refl;
  no_feed = All-of_none_appended c.args.text.now.items _ _ refl;
  bytes = subst (Consumes _ _) (sym (drop_of_length-le c.args.text.now.items (le_refl _))) (Consumes-nil _);
}

pub loop-preserved : goal.loop-preserved
loop-preserved g c =
    let step = c.append_through.ensures in
    let before = c.loop.invariant in
    record {
      start = search rules;
      grows = search rules;
      appends = starts_with_trans _ _ _ step.appends before.appends;
      no_feed = subst (All (λ x. x ≢ 10)) (sym (past_both _ _ _ before.appends step.appends)) (All-append (λ x. x ≢ 10) _ _ before.no_feed (step.no_feed_unless_done (search rules)));
      bytes = Consumes-more _ _ _ _ _ _ before.appends step.appends before.bytes step.bytes;
    }

pub returns-then-branch : goal.returns-then-branch
returns-then-branch g c =
    let step = c.append_through.ensures in
    let before = c.loop.invariant in
    let done : c.append_through.result ≡ Ok true = search rules in
    let read = Consumes_through 10 _ _ _ _ _ before.bytes before.no_feed step.bytes step.stops (step.done_at_feed_or_end done) (step.end done) in
    let old = c.args.text.now.items in
    let whole = starts_with_rest _ _ (starts_with_trans _ _ _ step.appends before.appends) ∙ ap (λ l. old ++ l) (past_both _ _ _ before.appends step.appends) in
    let known = g.B.Read.remaining c.args.reader.now in
    let new = c.append_through.new.text.items in
    let parts = drop (length old) c.loop.text.items ++ drop (length c.loop.text.items) new in
    let bytes = if_some_more known (λ xs. parts ≡ take_through 10 xs) (λ xs. new ≡ old ++ take_through 10 xs) (λ xs e. whole ∙ ap (λ l. old ++ l) e) read.0 in
    record {
      count = search rules;
      bytes = bytes;
      rest = read.1;
      end = λ none. IsAtEnd-of_take_through 10 known old new bytes (search rules);
    }
