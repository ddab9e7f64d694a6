use Rattle.tdl_ring.proofs.Sound.{solve}
use Rattle.tdl_ring.proofs.one_normal_form_is_one_value.Goals as goal

pub returns : goal.returns
returns g c = record { sound = λ R atoms e f same. solve R atoms e f same }
