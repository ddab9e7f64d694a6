use Rattle.std.proofs.Common.{sym, ◌∙◌}
use Rattle.tdl_osc.proofs.Strings.{length-osc_string, length-int32_bytes}
use Rattle.tdl_osc.proofs.bundles.value_size.Goals as goal

pub returns-in-Int-clause-value : goal.returns-in-Int-clause-value
returns-in-Int-clause-value c = rw c.in-Int.is (sym (length-int32_bytes _))

pub returns-in-Word-clause-value : goal.returns-in-Word-clause-value
returns-in-Word-clause-value c =
    rw (c.in-Word.is, ← c.bytes.ensures.bytes) (c.string_size.ensures.value ∙ sym (length-osc_string c.bytes.result.now))
