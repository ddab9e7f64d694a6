use Rattle.std.proofs.Common.{◌≤◌, length, subst, sym}
use Rattle.tdl_osc.specs.BundleFault.{string_size}
use Rattle.tdl_osc.proofs.ReadValues.{message_left}
use Rattle.tdl_osc.proofs.reading.values.message_of.Goals as goal

-- the tags end within the message
pub after_string-requires : goal.after_string-requires
after_string-requires c =
    let left = message_left c.args.bytes.now c.requires in
    subst (λ contents. string_size contents ≤ length contents) (sym c.after_string-contents.ensures) left.contents_within
