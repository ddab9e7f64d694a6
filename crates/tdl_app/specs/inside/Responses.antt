-- What is replied to a line, before it is made a text.
--     response_line      the line
--     CanBeTold          a time that stands in it is not past the last cycle
--     is_lacking_look    a look whose line would say that there is no memory
use Rattle.std.specs.Prelude.{ℕ, ◌≤◌, Bool, false, List, codes}
use Rattle.std.specs.Str.{bytes_eq}
use Rattle.tdl_fraction.specs.Units.{last_units}
use Rattle.tdl_core.specs.declared.replies.Reply.{Reply}
use Rattle.tdl_core.specs.declared.replies.Reply.TheVariants.{Swapped, Looked, Ticked, Finished}
use Rattle.tdl_core.specs.ReplyLines.{HasFrontier, refusal_line, reply_line}
use Rattle.tdl_answer.specs.Asked.{unmade_line}
use Rattle.tdl_app.specs.declared.responses.Cause.{Cause}
use Rattle.tdl_app.specs.declared.responses.Cause.TheVariants.{Fixed, Accepted, Refused, Unmade}

abbrev pub response_line : Cause → List ℕ
response_line (Fixed line) = line.now
response_line (Accepted reply frontier) = reply_line frontier reply
response_line (Refused refusal) = refusal_line refusal
response_line (Unmade why) = unmade_line why

abbrev pub CanBeTold : Cause → Type 0
CanBeTold (Fixed line) = Unit {0}
CanBeTold (Accepted reply frontier) = frontier ≤ last_units
CanBeTold (Refused refusal) = HasFrontier refusal
CanBeTold (Unmade why) = Unit {0}

abbrev pub is_lacking_look : Reply → Bool
is_lacking_look (Swapped place boundary) = false
is_lacking_look (Looked place text) = bytes_eq text (codes "no memory")
is_lacking_look (Ticked place osc midi) = false
is_lacking_look (Finished place midi) = false
