use Rattle.std.proofs.Common.{◌≡◌, rules}
use Rattle.tdl_fraction.specs.Printing.{print_of}
use Rattle.tdl_fraction.specs.Digits.{digits_bytes}
use Rattle.tdl_fraction.proofs.Printed.{reads_printed, only_printed}
use Rattle.tdl_fraction.proofs.fraction.Frac.print.Goals as goal

pub returns-clause-reads_back : goal.returns-clause-reads_back
returns-clause-reads_back c =
    let text : digits_bytes c.written.result ≡ print_of c.args.self = search rules in
    reads_printed _ c.args.self text c.numerator.ensures.in_range

pub returns-clause-only : goal.returns-clause-only
returns-clause-only c =
    let text : digits_bytes c.written.result ≡ print_of c.args.self = search rules in
    only_printed _ c.args.self text c.numerator.ensures.in_range
