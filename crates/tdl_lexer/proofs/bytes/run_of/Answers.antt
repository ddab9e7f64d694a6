use Rattle.std.proofs.Common.{◌∙◌, ap, take}
use Rattle.tdl_lexer.specs.Bytes.{is_run_byte}
use Rattle.tdl_lexer.proofs.Fronts.{take-length_front}
use Rattle.tdl_lexer.proofs.bytes.run_of.Goals as goal

pub returns : goal.returns
returns c = ap (λ n. take n c.args.text.now) c.run_len.ensures ∙ take-length_front is_run_byte c.args.text.now
