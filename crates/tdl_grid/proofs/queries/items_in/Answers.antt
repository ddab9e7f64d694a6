use Rattle.std.proofs.Common.{◌<◌, subst, sym, ap, ◌∙◌}
use Rattle.tdl_expr.specs.Rows.{IsTable, tree_at}
use Rattle.tdl_expr.specs.Valid.{IsValid}
use Rattle.tdl_expr.proofs.ValidRows.{valid_row}
use Rattle.tdl_meaning.specs.Pattern.{over}
use Rattle.tdl_meaning.specs.Meaning.{cyc}
use Rattle.tdl_grid.specs.Span.{arc_of}
use Rattle.tdl_grid.specs.Item.{Adds}
use Rattle.tdl_grid.specs.inside.Asked.{MayCount}
use Rattle.tdl_grid.specs.ItemLaws.{events_of}
use Rattle.tdl_grid.specs.Times.{HasTimes}
use Rattle.tdl_meaning.specs.Proper.{Each}
use Rattle.tdl_grid.proofs.Roots.{unit_positive, ticks_counted, root_counts, made_in_range, made_alone}
use Rattle.tdl_grid.proofs.queries.items_in.Goals as goal

pub span_of-arc-requires-clause-start : goal.span_of-arc-requires-clause-start
span_of-arc-requires-clause-start g c =
    let p = c.args.program.now in
    let valid : IsValid (tree_at p.nodes p.root) = valid_row p.nodes p.root (subst IsTable c.table-table.ensures c.table_law.ensures) in
    ticks_counted _ valid c.unit-unit.result c.unit-unit.ensures.value c.root-root.ensures.limits c.args.arc.start c.requires.on_grid.start

pub span_of-arc-requires-clause-stop : goal.span_of-arc-requires-clause-stop
span_of-arc-requires-clause-stop g c =
    let p = c.args.program.now in
    let valid : IsValid (tree_at p.nodes p.root) = valid_row p.nodes p.root (subst IsTable c.table-table.ensures c.table_law.ensures) in
    ticks_counted _ valid c.unit-unit.result c.unit-unit.ensures.value c.root-root.ensures.limits c.args.arc.stop c.requires.on_grid.stop

pub span_of-arc-requires-clause-positive : goal.span_of-arc-requires-clause-positive
span_of-arc-requires-clause-positive g c =
    let p = c.args.program.now in
    let valid : IsValid (tree_at p.nodes p.root) = valid_row p.nodes p.root (subst IsTable c.table-table.ensures c.table_law.ensures) in
    unit_positive _ valid c.unit-unit.result c.unit-unit.ensures.value c.root-root.ensures.limits

pub in_arc-requires-clause-may : goal.in_arc-requires-clause-may
in_arc-requires-clause-may g c =
    let p = c.args.program.now in
    let u = c.unit-unit.result in
    let valid : IsValid (tree_at p.nodes p.root) = valid_row p.nodes p.root (subst IsTable c.table-table.ensures c.table_law.ensures) in
    subst (λ id. MayCount (tree_at p.nodes id) u (arc_of u c.span_of-arc.result)) (sym c.root-root.ensures.value)
    (root_counts _ valid u c.unit-unit.ensures.value c.root-root.ensures.limits c.args.arc c.span_of-arc.result c.requires c.span_of-arc.ensures)

pub returns-clause-items : goal.returns-clause-items
returns-clause-items g c =
    let p = c.args.program.now in
    let u = c.unit-unit.result in
    let s = c.span_of-arc.result in
    let valid : IsValid (tree_at p.nodes p.root) = valid_row p.nodes p.root (subst IsTable c.table-table.ensures c.table_law.ensures) in
    let adds = subst (λ id. Adds u c.new-items.result c.in_arc.new.out (over (cyc (tree_at p.nodes id)) (arc_of u s))) c.root-root.ensures.value
    c.in_ok-in_arc.ensures.items in
    let items = c.in_arc.new.out in
    record {
      positive = subst (λ n. 0 < n) c.unit-unit.ensures.value (unit_positive _ valid u c.unit-unit.ensures.value c.root-root.ensures.limits);
      events = ap (λ n. events_of n items) (sym c.unit-unit.ensures.value) ∙ made_alone u _ _ _ c.new-items.ensures adds
          ∙ ap (over (cyc (tree_at p.nodes p.root))) c.span_of-arc.ensures;
      in_range = subst (λ n. Each (HasTimes n) items) c.unit-unit.ensures.value
          (made_in_range _ valid u c.unit-unit.ensures.value c.root-root.ensures.limits c.args.arc s _ _ c.requires c.span_of-arc.ensures
          c.new-items.ensures adds);
    }
