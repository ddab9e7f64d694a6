-- What a performer says.
--     IsSwapOf         it changes what is played so
--     IsLook, SaysNothing
--     RefusesText      it is refused, by the first reason
--     AsksFor          it asks for a call
--     IsUnplayedAs     it asks for none, and this line is the reply
--     IsAsked          it asks for a call that each performer may make
use Rattle.std.specs.Prelude.{◌≡◌, ℕ, ◌⊎◌, List, Some, None, codes}
use Rattle.tdl_control.specs.declared.faults.Faulted.TheVariants.{At}
use Rattle.tdl_rows.specs.Built.{Built}
use Rattle.tdl_expr.specs.Tree.{Tree}
use Rattle.tdl_compile.specs.Compiled.{Compiled}
use Rattle.tdl_desk.specs.declared.changes.Change.{Change}
use Rattle.tdl_command.specs.Tree.{Line}
use Rattle.tdl_line_machine.specs.declared.faults.LineKind.{LineKind}
use Rattle.tdl_line_texts.specs.Texts.{IsLine, IsTrimmed, RefusesLine}
use Rattle.tdl_prepare.specs.declared.faults.PrepareFault.TheVariants as prepare
use Rattle.tdl_prepare.specs.Asked.{asked, nothing, look, swap}
use Rattle.tdl_prepare.specs.Prepared.{IsChangeOf, line_fault}
use Rattle.tdl_core.specs.declared.calls.Call.{Call}
use Rattle.tdl_core.specs.declared.calls.Call.TheVariants.{Swap, Look, Tick, Finish}
use Rattle.tdl_answer.specs.declared.refusals.Refusal.{Refusal}
use Rattle.tdl_answer.specs.declared.refusals.Refusal.TheVariants as refusal
use Rattle.tdl_answer.specs.Refusals.{refusal_line}

-- from the next multiple of so many cycles on; the text is kept without the blanks round it
pub record IsSwapOf (text kept : List ℕ) (every : ℕ) (change : Change Compiled) : Type 0 where
  pub line : Line
  pub read : IsLine text line
  pub trimmed : IsTrimmed text kept
  pub made : Change (Built Tree)
  pub asks : asked line ≡ swap every made
  pub programs : IsChangeOf made change
  pub fits : line_fault (asked line) ≡ None

pub record IsLook (text : List ℕ) : Type 0 where
  pub line : Line
  pub read : IsLine text line
  pub asks : asked line ≡ look

pub record SaysNothing (text : List ℕ) : Type 0 where
  pub line : Line
  pub read : IsLine text line
  pub asks : asked line ≡ nothing

pub data RefusesText (text : List ℕ) (why : Refusal) : Type 0 where
  -- no line, by the first fault
  unread : (kind : LineKind) (at : ℕ) → RefusesLine text (At kind at) → why ≡ refusal.Unread kind at → RefusesText text why
  -- a line, and a limit that its pattern passes
  too_large : (line : Line) → IsLine text line → (rows links : ℕ) → line_fault (asked line) ≡ Some (prepare.TooLarge rows links)
      → why ≡ refusal.TooLarge rows links → RefusesText text why
  too_dense : (line : Line) → IsLine text line → (load : ℕ) → line_fault (asked line) ≡ Some (prepare.TooDense load)
      → why ≡ refusal.TooDense load → RefusesText text why
  too_fine : (line : Line) → IsLine text line → (grid : ℕ) → line_fault (asked line) ≡ Some (prepare.TooFine grid)
      → why ≡ refusal.TooFine grid → RefusesText text why
  too_far : (line : Line) → IsLine text line → (reach : ℕ) → line_fault (asked line) ≡ Some (prepare.TooFar reach)
      → why ≡ refusal.TooFar reach → RefusesText text why

-- ---- calls
abbrev pub AsksFor : List ℕ → Call → Type 0
AsksFor text (Swap kept every change) = IsSwapOf text kept every change
AsksFor text Look = IsLook text
AsksFor text (Tick to) = ⊥
AsksFor text Finish = ⊥

abbrev pub skip_reply : List ℕ
skip_reply = codes "skip\n"

abbrev pub IsUnplayedAs : List ℕ → List ℕ → Type 0
IsUnplayedAs text reply = (SaysNothing text × (reply ≡ skip_reply)) ⊎ ((why : Refusal) × RefusesText text why × (reply ≡ refusal_line why))
