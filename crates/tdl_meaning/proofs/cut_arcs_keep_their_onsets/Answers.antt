use Rattle.tdl_meaning.proofs.Splits.{has_onset-true, split_law, count_law}
use Rattle.tdl_meaning.proofs.cut_arcs_keep_their_onsets.Goals as goal

pub returns : goal.returns
returns c = record { test = has_onset-true; split = split_law; count = count_law }
