-- A quote for two, the quote that closes, and none.
use Rattle.std.proofs.Common.{rules, ap, ◌∙◌, ◌+◌, ◌++◌, ◌∷◌, [], List, ℕ, true}
use Rattle.std.proofs.lemmas.List.{take_rest}
use Rattle.csv_records.proofs.Fielding.{quote_closes, quote_doubled, quote_lacks}
use Rattle.csv_records.proofs.fields.cut_quoted.Goals as goal

pub loop-quote-preserved : goal.loop-quote-preserved
loop-quote-preserved c =
    let rest = c.loop-quote.rest.now in
    let quote = c.in-Some.quote in
    quote_doubled c.args.delimiter.byte c.args.text.now c.loop-quote.buffer.items rest _ _ c.push.new.self.items quote c.loop-quote.invariant
    (record { found = c.in-Some.ensures }) (take_rest rest (quote + 1)) (search rules) (c.in_ok-push-in-Some-after_quote.ensures.items ∙ ap (λ (l : List ℕ). l ++ 34 ∷ []) c.in_ok-extend_from_slice.ensures.items)

pub returns-in-None : goal.returns-in-None
returns-in-None c =
    let rest = c.loop-quote.rest.now in
    let quote = c.in-Some.quote in
    quote_closes c.args.delimiter.byte c.args.text.now c.loop-quote.buffer.items rest _ _ quote (record { text = c.after_quotes.new.buffer.items; is_quoted = true }) c.in_ok-follows-in-None.follows c.loop-quote.invariant
    (record { found = c.in-Some.ensures }) (take_rest rest (quote + 1)) c.in_ok-extend_from_slice.ensures.items c.in_ok-follows-in-None.ensures

pub returns : goal.returns
returns c =
    quote_lacks c.args.delimiter.byte c.args.text.now c.loop-quote.buffer.items c.loop-quote.rest.now _ c.loop-quote.invariant c.in_default.ensures c.in_ok-extend_from_slice-2.ensures.items
