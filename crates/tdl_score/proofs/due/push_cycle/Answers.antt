use Rattle.std.proofs.Common.{◌≡◌, List, map, OnOk, sym, ◌∙◌, subst}
use Rattle.std.specs.List.{AllByRecursion}
use Rattle.tdl_event.specs.declared.rows.Row.{Row}
use Rattle.tdl_order.specs.TimeOrder.{by_time}
use Rattle.tdl_order.proofs.InOrder.{All-by_time}
use Rattle.tdl_score.specs.Programs.{dated_tree}
use Rattle.tdl_score.specs.Score.{IsRowOf, onset}
use Rattle.tdl_score.specs.inside.Dues.{Gained}
use Rattle.tdl_score.proofs.Sent.{cycle_due}
use Rattle.tdl_score.proofs.due.push_cycle.Goals as goal

pub push_rows-requires-clause-known : goal.push_rows-requires-clause-known
push_rows-requires-clause-known g c =
    let sorted : c.deref.result.now ≡ by_time onset c.in_ok-rows.rows.items = c.deref.ensures.value ∙ c.in_ok-sort_by_time.ensures.ok in
    subst (AllByRecursion (IsRowOf c.args.cycle)) (sym sorted)
    (All-by_time onset (IsRowOf c.args.cycle) c.in_ok-rows.rows.items c.in_ok-rows.ensures.known)

pub returns-clause-gained : goal.returns-clause-gained
returns-clause-gained g c = λ kept stands.
    let sorted : c.deref.result.now ≡ by_time onset c.in_ok-rows.rows.items = c.deref.ensures.value ∙ c.in_ok-sort_by_time.ensures.ok in
    subst (λ (rows : List Row). OnOk c.push_rows.result (Gained c.args.tempo c.args.due.now c.push_rows.new.due rows))
    (cycle_due c.args.span.from c.args.span.to (map dated_tree kept) c.args.cycle c.in_ok-rows.rows.items c.deref.result.now
    (c.in_ok-rows.ensures.rows kept stands) sorted)
    c.push_rows.ensures
