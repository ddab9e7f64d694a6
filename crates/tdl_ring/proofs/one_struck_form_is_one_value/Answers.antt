use Rattle.tdl_ring.proofs.Inverses.{solve_struck}
use Rattle.tdl_ring.proofs.one_struck_form_is_one_value.Goals as goal

pub returns : goal.returns
returns g c = record { sound = λ R pairs others e f same. solve_struck R pairs others e f same }
