use Rattle.std.proofs.Common.{arith}
use Rattle.tdl_osc.proofs.ReadStrings.{string_ends, string_within}
use Rattle.tdl_osc.proofs.reading.strings.check_string.Goals as goal

-- the string ends within the bytes
pub returns-clause-within : goal.returns-clause-within
returns-clause-within c =
    let from = c.args.from in
    let bytes = c.args.bytes.now in
    let free = string_ends from c.text_size-size.result bytes c.in_ok-check_end.field-0 c.text_size-size.ensures.is c.in_ok-check_end.ensures in
    omega (arith, string_within from bytes free, c.text_size-size.ensures.is, c.string_size.ensures.zeros)
