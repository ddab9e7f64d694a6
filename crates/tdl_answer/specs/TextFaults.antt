-- Why a text is refused, as the code tells it, by the faults of the crates below.
use Rattle.std.specs.Prelude.{ℕ, List}
use Rattle.tdl_control.specs.declared.faults.Faulted.{Faulted}
use Rattle.tdl_control.specs.declared.faults.Faulted.TheVariants as faulted
use Rattle.tdl_line_machine.specs.declared.faults.LineKind.{LineKind}
use Rattle.tdl_prepare.specs.declared.faults.PrepareFault.{PrepareFault}
use Rattle.tdl_prepare.specs.declared.faults.PrepareFault.TheVariants as prepare
use Rattle.tdl_answer.specs.declared.refusals.Refusal.TheVariants as refusal
use Rattle.tdl_answer.specs.declared.text_faults.TextFault.{TextFault}
use Rattle.tdl_answer.specs.declared.text_faults.TextFault.TheVariants.{NoMemory, Refused}
use Rattle.tdl_answer.specs.Texts.{RefusesText}

abbrev pub of_reading : Faulted LineKind → TextFault
of_reading faulted.NoMemory = NoMemory
of_reading (faulted.At kind at) = Refused (refusal.Unread kind at)

abbrev pub of_preparing : PrepareFault → TextFault
of_preparing prepare.NoMemory = NoMemory
of_preparing (prepare.TooLarge rows links) = Refused (refusal.TooLarge rows links)
of_preparing (prepare.TooDense load) = Refused (refusal.TooDense load)
of_preparing (prepare.TooFine grid) = Refused (refusal.TooFine grid)
of_preparing (prepare.TooFar reach) = Refused (refusal.TooFar reach)

-- out of memory says nothing of the text
abbrev pub IsFaultOfText : List ℕ → TextFault → Type 0
IsFaultOfText text NoMemory = Unit {0}
IsFaultOfText text (Refused why) = RefusesText text why
