-- The end line of a run that sent all that its history calls for.
use Rattle.std.proofs.Common.{ℕ, refl, List, length}
use Rattle.tdl_tempo.specs.Tempo.{Pace}
use Rattle.tdl_score.specs.declared.histories.Entry.{Entry}
use Rattle.tdl_score.specs.History.{frontier}
use Rattle.tdl_answer.specs.Account.{WireAccounts}
use Rattle.tdl_answer.specs.EndLine.{IsEndLine, end_line}
use Rattle.tdl_answer.specs.Sent.{SendsBoth}

abbrev pub line_of : {tempo : Pace} {history : List Entry} {wires : WireAccounts} → SendsBoth tempo history wires → List ℕ
line_of {tempo} {history} sends = end_line (frontier history) (length history) (length sends.packets.packets) (length sends.messages.packets)

pub is_end_line : {tempo : Pace} {history : List Entry} {wires : WireAccounts} (sends : SendsBoth tempo history wires)
    → IsEndLine tempo history (line_of sends)
is_end_line sends = record {
  packets = sends.packets.packets;
  sends = sends.packets.sends;
  messages = sends.messages.packets;
  notes = sends.messages.sends;
  is = refl;
}
