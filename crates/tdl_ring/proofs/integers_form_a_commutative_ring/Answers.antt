use Rattle.tdl_ring.proofs.Integers.{int_times_assoc, int_times_plus}
use Rattle.tdl_ring.proofs.integers_form_a_commutative_ring.Goals as goal

pub returns-clause-times_associative : goal.returns-clause-times_associative
returns-clause-times_associative c = int_times_assoc

pub returns-clause-distributive : goal.returns-clause-distributive
returns-clause-distributive c = int_times_plus
