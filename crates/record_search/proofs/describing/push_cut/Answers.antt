-- What is pushed is cut.
use Rattle.record_search.proofs.ObserveLaws.{cut_pushed}
use Rattle.record_search.proofs.describing.push_cut.Goals as goal

pub returns-in-Ok : goal.returns-in-Ok
returns-in-Ok c = cut_pushed c.push_encoding.result c.args.length c.args.statistics c.in-Ok.cut c.args.output.now.items c.push_encoding.new.output.items c.in-Ok.ensures.value c.in-Ok.ensures.right c.in-Ok.ensures.valid c.push_encoding.ensures.appended c.push_encoding.ensures.held c.push_encoding.ensures.fits
