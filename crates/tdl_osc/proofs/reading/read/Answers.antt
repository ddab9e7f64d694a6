use Rattle.std.proofs.Common.{◌≡◌, ◌∙◌, ap, arith, pos, None}
use Rattle.std.proofs.lemmas.Grind.{common_steps}
use Rattle.std.proofs.lemmas.List.{take_rest}
use Rattle.tdl_osc.specs.BundleFault.{elements_fault, bundle_fault}
use Rattle.tdl_osc.proofs.OneBundle.{one_bundle}
use Rattle.tdl_osc.proofs.ReadStrings.{no_fault}
use Rattle.tdl_osc.proofs.ReadBundles.{bundle_parts, value_read}
use Rattle.tdl_osc.proofs.reading.read.Goals as goal

-- what has a fault is no bundle
pub returns-in-Some-clause-only : goal.returns-in-Some-clause-only
returns-in-Some-clause-only c = λ tag messages bundle. absurd (no_fault _ (c.in-Some.ensures.only tag messages bundle))

pub messages_of-requires : goal.messages_of-requires
messages_of-requires c =
    let bytes = c.args.bytes.now in
    let free : bundle_fault bytes ≡ None = grind (arith, common_steps) in
    (16, ap (elements_fault 16 0) (take_rest bytes 16) ∙ (bundle_parts bytes free).elements)

pub returns-clause-bundle : goal.returns-clause-bundle
returns-clause-bundle c =
    let bytes = c.args.bytes.now in
    let free : bundle_fault bytes ≡ None = grind (arith, common_steps) in
    value_read bytes c.read_u64.result _ free c.read_u64.ensures c.in_ok-messages_of.ensures

-- the bytes are one bundle at most
pub returns-clause-only : goal.returns-clause-only
returns-clause-only c =
    let bytes = c.args.bytes.now in
    let free : bundle_fault bytes ≡ None = grind (arith, common_steps) in
    let value = value_read bytes c.read_u64.result _ free c.read_u64.ensures c.in_ok-messages_of.ensures in
    λ tag messages bundle. one_bundle bytes (pos c.read_u64.result) tag _ messages value bundle
