-- What the text of a swap says.
--     Says         a text without outer blanks reads as this change, from the next multiple of so many cycles on
--     HasChanges, IsLegal, MayFollow, HasSent, HasOsc, HasMidi    of histories whose texts are read so
use Rattle.std.specs.Prelude.{◌≡◌, ℕ, false, List, reverse}
use Rattle.tdl_desk.specs.declared.changes.Change.{Change}
use Rattle.tdl_desk.specs.declared.changes.Dated.{Dated}
use Rattle.tdl_expr.specs.Tree.{Tree}
use Rattle.tdl_tempo.specs.Tempo.{Pace}
use Rattle.tdl_line_texts.specs.Texts.{begins_blank}
use Rattle.tdl_line_changes.specs.Readings.{ReadsSwap}
use Rattle.tdl_score.specs.declared.histories.Entry.{Entry}
use Rattle.tdl_score.specs.History as history
use Rattle.tdl_score.specs.Changes as changes
use Rattle.tdl_score.specs.Wires as wires

pub record Says (text : List ℕ) (every : ℕ) (change : Change Tree) : Type 0 where
  pub first : begins_blank text ≡ false
  pub last : begins_blank (reverse text) ≡ false
  pub swap : ReadsSwap text every change

abbrev pub HasChanges : List Entry → List (Dated Tree) → Type 0
HasChanges entries made = changes.HasChanges Says entries made

abbrev pub MayFollow : List Entry → Entry → Type 0
MayFollow entries e = history.MayFollow Says entries e

abbrev pub IsLegal : List Entry → Type 0
IsLegal entries = history.IsLegal Says entries

abbrev pub HasSent : wires.Protocol → List Entry → List (List ℕ) → Type 0
HasSent wire entries packets = wires.HasSent Says wire entries packets

abbrev pub HasOsc : Pace → List Entry → List (List ℕ) → Type 0
HasOsc tempo entries packets = HasSent (wires.osc tempo) entries packets

abbrev pub HasMidi : List Entry → List (List ℕ) → Type 0
HasMidi entries messages = HasSent wires.midi entries messages
