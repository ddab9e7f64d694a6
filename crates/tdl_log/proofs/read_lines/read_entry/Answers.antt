use Rattle.std.proofs.Common.{◌≡◌, ◌∙◌, ℕ, List, length, sym, ap, subst}
use Rattle.std.specs.Fmt.{decimal}
use Rattle.tdl_score.specs.declared.histories.Deed.{Deed}
use Rattle.tdl_score.specs.declared.histories.Entry.{Entry}
use Rattle.tdl_score.specs.History.{MayBeDone}
use Rattle.tdl_score.specs.Known.{Tells}
use Rattle.tdl_log.specs.LogText.{deed_text, place_text}
use Rattle.tdl_log.proofs.ReadDeeds.{as_front, front_once, may_who}
use Rattle.tdl_log.proofs.ReadNumbers.{if_none_at}
use Rattle.tdl_log.proofs.read_lines.read_entry.Goals as goal

pub returns-in_default-2-clause-none : goal.returns-in_default-2-clause-none
returns-in_default-2-clause-none g c = λ entries e told follow spelled.
    let place : c.as_bytes.result.now ≡ decimal (length entries) = c.as_bytes.ensures.value ∙ c.format.ensures.text ∙ ap decimal told.place in
    let time : c.bytes.result.now ≡ place_text e.frontier =
    c.bytes.ensures.value ∙ c.print_units-frontier.ensures ∙ ap place_text (told.frontier ∙ sym follow.frontier) in
    let parts = front_once c.as_bytes.result.now c.bytes.result.now c.args.line.now c.in-Some.said.now (deed_text e.deed) c.in-Some.who e.who
    c.in-Some.ensures.few (may_who g.R.Reader.reads entries e.who e.deed follow.deed) c.in-Some.ensures.some
    (as_front c.as_bytes.result.now c.bytes.result.now c.args.line.now (length entries) e place time spelled) in
    if_none_at c.in_ok-deed.field-0
    ((entries : List Entry) (deed : Deed) → Tells c.args.known.now entries → MayBeDone g.R.Reader.reads entries c.in-Some.who deed
    → c.in-Some.said.now ≡ deed_text deed → ⊥)
    c.in_default-2.is c.in_ok-deed.ensures.none entries e.deed told
    (subst (λ (who : ℕ). MayBeDone g.R.Reader.reads entries who e.deed) (sym parts.0) follow.deed) parts.1
