use Rattle.std.proofs.Common.{◌≡◌, ◌∙◌, arith}
use Rattle.std.proofs.lemmas.Grind.{common_steps}
use Rattle.tdl_osc.specs.BundleFault.{bundle_fault}
use Rattle.tdl_osc.proofs.ReadBundles.{bundle_free, none_is_bundle}
use Rattle.tdl_osc.proofs.reading.check_bundle.Goals as goal

pub returns-clause-bundle : goal.returns-clause-bundle
returns-clause-bundle c =
    let found : c.err.result ≡ bundle_fault c.args.bytes.now = grind (arith, common_steps) in
    none_is_bundle c.args.bytes.now c.err.result found

pub returns-clause-only : goal.returns-clause-only
returns-clause-only c =
    let found : c.err.result ≡ bundle_fault c.args.bytes.now = grind (arith, common_steps) in
    λ tag messages bundle. found ∙ bundle_free c.args.bytes.now tag messages bundle
