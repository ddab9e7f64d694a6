use Rattle.std.proofs.Common.{[], ◌∷◌}
use Rattle.std.proofs.lemmas.Bool.Decides.{Decides-eqb}
use Rattle.std.proofs.lemmas.Slice.Eq.{strip_suffix_is}
use Rattle.tdl_lines.proofs.LineLemmas.{trimmed_is}
use Rattle.tdl_lines.proofs.reader.trimmed.Goals as goal

pub returns : goal.returns
returns c =
    let stripped = c.strip_suffix.result in
    let cases = strip_suffix_is Decides-eqb c.args.line.now (13 ∷ []) stripped c.strip_suffix.ensures.cases in
    rw c.unwrap_or.ensures (trimmed_is c.args.line stripped cases)
