-- A text that asks for something within the limits is not declined, and reads as one change at most.
--     OneTree, NotBoth, OneText    how lines are read: of `lines_are_read_in_one_way`
--     swaps_not_declined, looks_not_declined, swaps_no_looks    of a text that asks for a change, or for a look
--     said_not_silent, said_not_refused, said_no_look          of the text of a history's swap
--     same_kept                    it is kept without the blanks round it
--     same_said, other_said        so a text reads as the change that it was read as, where it is kept as it is, and else as none
use Rattle.std.proofs.Common.{◌≡◌, ℕ, Bool, true, false, inl, inr, List, [], Option, Some, None, refl, sym, ap, subst, ◌∙◌}
use Rattle.std.specs.Prelude.{IfNone, IfSome}
use Rattle.std.proofs.lemmas.Bool.{false≢true}
use Rattle.std.proofs.lemmas.List.{append-nil}
use Rattle.std.proofs.lemmas.Option.{none-some}
use Rattle.tdl_control.specs.declared.faults.Faulted.TheVariants.{At}
use Rattle.tdl_compile.specs.Compiled.{Compiled}
use Rattle.tdl_desk.specs.declared.changes.Change.{Change}
use Rattle.tdl_rows.specs.Built.{Built}
use Rattle.tdl_expr.specs.Tree.{Tree}
use Rattle.tdl_command.specs.Tree.{Line, Whole, line}
use Rattle.tdl_line_machine.specs.declared.faults.LineKind.{LineKind}
use Rattle.tdl_line_machine.specs.declared.goals.Goal.{Goal}
use Rattle.tdl_line_machine.specs.declared.goals.Goal.TheVariants.{Line as a_line}
use Rattle.tdl_line_texts.specs.Texts.{IsWhole, RefusesWhole, IsLine, IsTrimmed}
use Rattle.tdl_prepare.specs.Asked.{Asked, asked, nothing, look, swap}
use Rattle.tdl_prepare.specs.Prepared.{line_fault}
use Rattle.tdl_core.specs.Said.{Says}
use Rattle.tdl_answer.specs.declared.refusals.Refusal.{Refusal}
use Rattle.tdl_answer.specs.Texts.{IsLook, IsSwapOf, IsUnplayedAs, RefusesText, SaysNothing}

abbrev OneTree : Type 0
OneTree = (goal : Goal) (text : List ℕ) (a b : Whole) → IsWhole goal text a → IsWhole goal text b → a ≡ b

abbrev NotBoth : Type 0
NotBoth = (goal : Goal) (text : List ℕ) (w : Whole) (kind : LineKind) (at : ℕ) → IsWhole goal text w → RefusesWhole goal text (At kind at) → ⊥

abbrev OneText : Type 0
OneText = (text a b : List ℕ) → IsTrimmed text a → IsTrimmed text b → a ≡ b

abbrev asked_in : Whole → Asked (Built Tree)
asked_in (line l) = asked l
asked_in _ = nothing

abbrev asks_nothing : Asked (Built Tree) → Bool
asks_nothing nothing = true
asks_nothing _ = false

abbrev asks_look : Asked (Built Tree) → Bool
asks_look look = true
asks_look _ = false

module _ (one_tree : OneTree) (not_both : NotBoth) where
  same_asked : (text : List ℕ) (l m : Line) → IsLine text l → IsLine text m → asked l ≡ asked m
  same_asked text l m p q = ap asked_in (one_tree a_line text (line l) (line m) p q)

  not_refused : (text : List ℕ) (why : Refusal) → RefusesText text why → (l : Line) → IsLine text l → line_fault (asked l) ≡ None → ⊥
  not_refused text why (RefusesText.unread kind at refuses e) l read fits = not_both a_line text (line l) kind at read refuses
  not_refused text why (RefusesText.too_large m read_m rows links e f) l read fits =
      none-some _ (sym fits ∙ ap line_fault (same_asked text l m read read_m) ∙ e)
  not_refused text why (RefusesText.too_dense m read_m load e f) l read fits =
      none-some _ (sym fits ∙ ap line_fault (same_asked text l m read read_m) ∙ e)
  not_refused text why (RefusesText.too_fine m read_m grid e f) l read fits =
      none-some _ (sym fits ∙ ap line_fault (same_asked text l m read read_m) ∙ e)
  not_refused text why (RefusesText.too_far m read_m reach e f) l read fits =
      none-some _ (sym fits ∙ ap line_fault (same_asked text l m read read_m) ∙ e)

  not_silent : (text : List ℕ) → SaysNothing text → (l : Line) → IsLine text l → asks_nothing (asked l) ≡ false → ⊥
  not_silent text says l read asks = false≢true (sym asks ∙ ap asks_nothing (same_asked text l says.line read says.read ∙ says.asks))

  not_a_look : (text : List ℕ) → IsLook text → (l : Line) → IsLine text l → asks_look (asked l) ≡ false → ⊥
  not_a_look text looks l read asks = false≢true (sym asks ∙ ap asks_look (same_asked text l looks.line read looks.read ∙ looks.asks))

  not_declined : (text : List ℕ) (l : Line) → IsLine text l → line_fault (asked l) ≡ None → asks_nothing (asked l) ≡ false
      → (reply : List ℕ) → IsUnplayedAs text reply → ⊥
  not_declined text l read fits asks reply (inl says) = not_silent text says.0 l read asks
  not_declined text l read fits asks reply (inr refuses) = not_refused text refuses.0 refuses.1 l read fits

  pub swaps_not_declined : (text kept : List ℕ) (every : ℕ) (change : Change Compiled) → IsSwapOf text kept every change
      → (reply : List ℕ) → IsUnplayedAs text reply → ⊥
  swaps_not_declined text kept every change is reply declined =
      not_declined text is.line is.read is.fits (ap asks_nothing is.asks) reply declined

  pub looks_not_declined : (text : List ℕ) → IsLook text → (reply : List ℕ) → IsUnplayedAs text reply → ⊥
  looks_not_declined text is reply declined = not_declined text is.line is.read (ap line_fault is.asks) (ap asks_nothing is.asks) reply declined

  pub swaps_no_looks : (text kept : List ℕ) (every : ℕ) (change : Change Compiled) → IsSwapOf text kept every change → IsLook text → ⊥
  swaps_no_looks text kept every change is looks = not_a_look text looks is.line is.read (ap asks_look is.asks)

  -- the text of a history's swap asks for something else than these
  module _ (text : List ℕ) (every : ℕ) (change : Change Tree) (says : Says text every change) where
    pub said_not_silent : SaysNothing text → ⊥
    said_not_silent silent = not_silent text silent says.swap.line says.swap.read (ap asks_nothing says.swap.asks)

    pub said_not_refused : (why : Refusal) → RefusesText text why → ⊥
    said_not_refused why refused = not_refused text why refused says.swap.line says.swap.read (ap line_fault says.swap.asks ∙ says.swap.within)

    pub said_no_look : IsLook text → ⊥
    said_no_look looks = not_a_look text looks says.swap.line says.swap.read (ap asks_look says.swap.asks)

pub same_kept : OneText → (text kept : List ℕ) (every other : ℕ) (change : Change Compiled) (said : Change Tree)
    → IsSwapOf text kept every change → Says text other said → kept ≡ text
same_kept one_text text kept every other change said is says = one_text text kept text is.trimmed
    (record { before = []; after = []; joined = sym (append-nil text); blank_before = refl; blank_after = refl; first = says.first; last = says.last })

-- ---- a text that was read
module _ (text : List ℕ) where
  pub same_said : (read : Option ℕ) (kept : List ℕ) (every : ℕ) (said : Change Tree) → IfSome read (λ n. (n ≡ every) × (kept ≡ text)) → Says kept every said
      → IfSome read (λ n. (change : Change Tree) × Says text n change)
  same_said None kept every said same says = tt
  same_said (Some n) kept every said same says =
      (said, subst (λ (t : List ℕ). Says t n said) same.1 (subst (λ (m : ℕ). Says kept m said) (sym same.0) says))

  pub other_said : OneText → (read : Option ℕ) (kept : List ℕ) (every : ℕ) (change : Change Compiled) → IfNone read (kept ≡ text → ⊥)
      → IsSwapOf text kept every change → IfNone read ((n : ℕ) (said : Change Tree) → Says text n said → ⊥)
  other_said one_text None kept every change other is = λ n said says. other (same_kept one_text text kept every n change said is says)
  other_said one_text (Some n) kept every change other is = tt
