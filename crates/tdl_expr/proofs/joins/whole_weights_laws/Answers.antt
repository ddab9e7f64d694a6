use Rattle.tdl_expr.proofs.Decimals.{AreWeights-ten_thousandths, whole_weights-ten_thousandths}
use Rattle.tdl_expr.proofs.Units.{one_unit, no_factor}
use Rattle.tdl_expr.proofs.joins.whole_weights_laws.Goals as goal

pub returns : goal.returns
returns c = record {
  one_unit = one_unit;
  no_factor = no_factor;
  decimals = AreWeights-ten_thousandths;
  of_decimals = whole_weights-ten_thousandths;
}
