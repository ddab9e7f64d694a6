use Rattle.tdl_osc.proofs.OneBundle.{one_bundle}
use Rattle.tdl_osc.proofs.RowBundles.{row_bundle}
use Rattle.tdl_osc.proofs.bundles.rows_are_bundles.Goals as goal

pub returns : goal.returns
returns c = record { of_row = row_bundle; one = one_bundle }
