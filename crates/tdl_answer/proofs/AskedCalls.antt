-- The calls that performers' texts ask for.
--     may_swap     each performer may make the swap that a text says
use Rattle.std.proofs.Common.{◌≡◌, ℕ, List, Option, Some, None, Ok, IfSome, refl, sym, subst}
use Rattle.tdl_desk.specs.declared.changes.Change.{Change}
use Rattle.tdl_desk.specs.Changes.{map_change}
use Rattle.tdl_expr.specs.Tree.{Tree}
use Rattle.tdl_compile.specs.Compiled.{Compiled}
use Rattle.tdl_rows.specs.Built.{Built}
use Rattle.tdl_command.specs.Tree.{Line}
use Rattle.tdl_line_texts.specs.Texts.{IsLine, IsTrimmed}
use Rattle.tdl_prepare.specs.Asked.{asked, Asked}
use Rattle.tdl_prepare.specs.declared.prepared.Prepared.TheVariants as prepared
use Rattle.tdl_prepare.specs.declared.faults.PrepareFault.{PrepareFault}
use Rattle.tdl_prepare.specs.Prepared.{IsPreparedAs, PreparesLine, line_fault}
use Rattle.tdl_line_changes.specs.Readings.{ReadsSwap, program_tree}
use Rattle.tdl_score.specs.declared.histories.Entry.{Entry}
use Rattle.tdl_core.specs.declared.calls.Call.TheVariants as call
use Rattle.tdl_core.specs.Replies.{IsPerformer, MayCall}
use Rattle.tdl_answer.specs.Texts.{IsSwapOf}

-- what is prepared of a line is what its text reads as
abbrev pub PreparedAreRead : Type 0
PreparedAreRead = (text kept : List ℕ) (l : Line) → IsTrimmed text kept → IsLine text l
    → (t : List ℕ) (every : ℕ) (change : Change Compiled) → PreparesLine (asked l) kept (Ok (prepared.Swap t every change))
    → (t ≡ kept) × ReadsSwap kept every (map_change program_tree change)

no_fault : (o : Option PrepareFault) (P : PrepareFault → Type 0) → o ≡ None → IfSome o P
no_fault None P is = tt
no_fault (Some fault) P is = cc

prepares : {text kept : List ℕ} {every : ℕ} {change : Change Compiled} (is : IsSwapOf text kept every change)
    → PreparesLine (asked is.line) kept (Ok (prepared.Swap kept every change))
prepares {text} {kept} {every} {change} is = record {
  ok = subst (λ (a : Asked (Built Tree)). IsPreparedAs a kept (prepared.Swap kept every change)) (sym is.asks) (refl, refl, is.programs);
  refused = no_fault (line_fault (asked is.line)) _ is.fits;
  only = tt;
}

pub may_swap : PreparedAreRead → (own : List Entry) (who : ℕ) (text kept : List ℕ) (every : ℕ) (change : Change Compiled) → IsPerformer who
    → IsSwapOf text kept every change → MayCall own who (call.Swap kept every change)
may_swap read own who text kept every change named swaps = (
  named,
  record {
    first = swaps.trimmed.first;
    last = swaps.trimmed.last;
    swap = (read text kept swaps.line swaps.trimmed swaps.read kept every change (prepares swaps)).1;
  },
)
