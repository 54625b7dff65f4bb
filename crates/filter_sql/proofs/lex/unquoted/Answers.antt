-- Each part is read, and so is a doubled quote; a lone quote ends the text.
use Rattle.std.proofs.Common.{◌≡◌, ◌++◌, ◌∷◌, []}
use Rattle.std.proofs.lemmas.Str.{encode_ascii}
use Rattle.std.proofs.lemmas.Str.Pattern.{split_parts, strip_prefix_char}
use Rattle.std.specs.String.{string_bytes}
use Rattle.filter_sql.proofs.Cuts.{read_doubled, read_ended, read_none, text_after}
use Rattle.filter_sql.proofs.lex.unquoted.Goals as goal

pub split_once-requires-text-self : goal.split_once-requires-text-self
split_once-requires-text-self c = λ _. c.loop-part.invariant.utf8

pub loop-part-preserved : goal.loop-part-preserved
loop-part-preserved c =
    let quote = c.args.quote in
    let parts = rw c.in-Some.is at (split_parts quote c.loop-part.rest.now c.split_once.result c.split_once.ensures.cases c.requires) in
    let twice = rw c.in-Some-strip_prefix.is at (strip_prefix_char quote c.in-Some.after.now c.strip_prefix.result c.strip_prefix.ensures.cases c.requires) in
    let after = text_after quote c.loop-part.rest.now c.in-Some.part.now c.in-Some.after.now c.loop-part.invariant.utf8 parts.0 c.requires in
    let pushed : string_bytes c.push.new.self ≡ (string_bytes c.loop-part.content ++ c.in-Some.part.now) ++ quote ∷ []
    = cc (encode_ascii quote c.requires, c.in_ok-push-in-Some-strip_prefix.ensures.bytes, c.in_ok-push_str.ensures.bytes) in
    record {
      read = read_doubled quote (string_bytes c.loop-part.content) c.in-Some.part.now c.in-Some.after.now c.in-Some-strip_prefix.more.now c.loop-part.rest.now _ _ parts.0 twice parts.1 pushed c.loop-part.invariant.read;
      utf8 = text_after quote c.in-Some.after.now [] c.in-Some-strip_prefix.more.now after twice c.requires;
    }

pub returns-in-None : goal.returns-in-None
returns-in-None c =
    let quote = c.args.quote in
    let parts = rw c.in-Some.is at (split_parts quote c.loop-part.rest.now c.split_once.result c.split_once.ensures.cases c.requires) in
    let lone = rw c.in-None.is at (strip_prefix_char quote c.in-Some.after.now c.strip_prefix.result c.strip_prefix.ensures.cases c.requires) in
    read_ended quote (string_bytes c.loop-part.content) c.in-Some.part.now c.in-Some.after.now c.loop-part.rest.now _ _ parts.0 lone parts.1 c.in_ok-push_str.ensures.bytes c.loop-part.invariant.read

pub returns : goal.returns
returns c =
    let quote = c.args.quote in
    let lacks = rw c.in_default.is at (split_parts quote c.loop-part.rest.now c.split_once.result c.split_once.ensures.cases c.requires) in
    read_none quote (string_bytes c.loop-part.content) c.loop-part.rest.now _ lacks c.loop-part.invariant.read
