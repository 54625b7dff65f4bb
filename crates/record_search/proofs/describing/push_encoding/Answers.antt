-- The encoding is pushed after its length.
use Rattle.std.proofs.Common.{◌≡◌, ◌∙◌, ◌++◌, ℕ, List, ap, arith, length, sym}
use Rattle.statistics_bytes.specs.Encoding.{encoding}
use Rattle.vortex_statistics.specs.Statistics.{known}
use Rattle.record_search.proofs.DescribeLaws.{encoding_pushed}
use Rattle.record_search.proofs.describing.push_encoding.Goals as goal

pub returns-clause-appended : goal.returns-clause-appended
returns-clause-appended c =
    let said = encoding (known c.args.statistics.now) in
    let same : c.deref.result.now ≡ said = c.deref.ensures.value ∙ c.in-Ok.ensures.appended ∙ ap (λ (l : List ℕ). l ++ said) c.new-bytes.ensures.items in
    let long : c.len.result ≡ length c.append_statistics.new.out.items = omega (arith, c.append_statistics.new.out.ok, c.len.ensures) in
    encoding_pushed c.extend_from_slice.result c.args.output.now.items c.push_number.new.output.items _ c.deref.result.now said c.len.result c.in_ok-push_number.ensures (long ∙ ap length (sym c.deref.ensures.value)) same c.extend_from_slice.ensures.items
