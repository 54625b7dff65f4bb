-- The key of what was copied.
use Rattle.std.proofs.Common.{◌∙◌, ap}
use Rattle.vortex_value.specs.Values.Content.{content, text}
use Rattle.filter_encoding.proofs.WriteSteps.{content_written}
use Rattle.filter_encoding.proofs.extensions.append_text.Goals as goal

pub returns-in-Ok : goal.returns-in-Ok
returns-in-Ok c =
    content_written c.utf8-2.result (text c.args.name.now) c.append_value.result _ _ (ap content c.utf8-2.ensures.made.value ∙ ap text c.in-Ok.ensures.given) tt c.append_value.ensures.appended c.append_value.ensures.held c.append_value.ensures.refused c.append_value.ensures.unchanged
