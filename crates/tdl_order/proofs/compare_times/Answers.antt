use Rattle.std.proofs.Common.{sym}
use Rattle.tdl_order.proofs.Compared.{is_lt-compared}
use Rattle.tdl_order.proofs.compare_times.Goals as goal

pub returns : goal.returns
returns g c =
    let first = c.time.ensures in
    let second = c.time-2.ensures in
    rw (sym first, sym second) (is_lt-compared c.time.result c.time-2.result c.compare.result c.compare.ensures.cases)
