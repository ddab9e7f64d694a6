use Rattle.std.proofs.Common.{[]}
use Rattle.std.proofs.lemmas.List.Elements.{All-nil}
use Rattle.std.proofs.Common.{◌≢◌}
use Rattle.tdl_lines.specs.Lines.{line_feed}
use Rattle.tdl_lines.proofs.LineLemmas.{join_from, pieces_are_plain, rest_is_plain}
use Rattle.tdl_lines.proofs.laws.lines_join_to_what_was_taken.Goals as goal

pub returns-clause-join : goal.returns-clause-join
returns-clause-join c = λ bytes. join_from [] bytes

pub returns-clause-pieces : goal.returns-clause-pieces
returns-clause-pieces c = λ bytes. pieces_are_plain [] bytes (All-nil (λ b. b ≢ line_feed))

pub returns-clause-rest : goal.returns-clause-rest
returns-clause-rest c = λ bytes. rest_is_plain [] bytes (All-nil (λ b. b ≢ line_feed))
