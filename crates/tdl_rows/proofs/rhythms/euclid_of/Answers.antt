use Rattle.std.proofs.Common.{Bool, cond, List, subst, sym, ◌∙◌, arith, length, ap}
use Rattle.std.specs.List.{All}
use Rattle.std.proofs.lemmas.List.{length-map}
use Rattle.tdl_expr.specs.declared.ids.NodeId.{NodeId}
use Rattle.tdl_expr.specs.Rows.{IsRow, tree_at}
use Rattle.tdl_rows.specs.Joined.{rhythm_of}
use Rattle.tdl_rows.specs.Lowers.{LowersTo, Refused}
use Rattle.tdl_rows.specs.Stays.{row_after}
use Rattle.tdl_rows.proofs.Gained.{exit_refused, exit_want, Refused-first}
use Rattle.tdl_rows.proofs.HitSteps.{rows-hits, rhythm_row}
use Rattle.tdl_rows.proofs.rhythms.euclid_of.Goals as goal

pub fastcat_of-requires : goal.fastcat_of-requires
fastcat_of-requires c =
    let are = sym (c.deref.ensures.value ∙ c.in_ok-ids.ensures) in
    record {
      rows = subst (All (IsRow c.rest_of.new.table)) are
          (rows-hits c.rest_of.new.table c.args.id c.in_ok-rest.rest c.rhythm_of-bits.result
          (row_after c.in_ok-rest.ensures.gains c.args.id c.requires.row) c.in_ok-rest.ensures.row);
      few = omega (
        arith,
        ap (λ (ids : List NodeId). length ids) are,
        length-map c.rhythm_of-bits.result (λ (b : Bool). cond b c.args.id c.in_ok-rest.rest),
        c.rhythm_of-bits.ensures.few,
      );
    }

pub returns : goal.returns
returns c =
    let P : List Bool → Type 0 = λ bits. LowersTo c.args.table.now c.fastcat_of.new.table
    (rhythm_of (tree_at c.args.table.now c.args.id) bits) c.fastcat_of.result in
    subst P c.rhythm_of-bits.ensures.value
    (rhythm_row _ c.args.id c.rhythm_of-bits.result _ c.fastcat_of.result c.requires.row c.in_ok-rest.ensures
    (c.deref.ensures.value ∙ c.in_ok-ids.ensures) c.fastcat_of.ensures)

pub returns-in_err-rest : goal.returns-in_err-rest
returns-in_err-rest c =
    let P : List Bool → Type 0 = λ bits. Refused c.args.table.now c.rest_of.new.table
    (rhythm_of (tree_at c.args.table.now c.args.id) bits).rows c.in_err-rest.field-0.0 in
    exit_refused _ _ c.from_residual.result c.from_residual.ensures.1 (subst P c.rhythm_of-bits.ensures.value (Refused-first _ c.in_err-rest.ensures))

pub returns-in_err-ids : goal.returns-in_err-ids
returns-in_err-ids c = exit_want _ _ c.from_residual-in_err-ids.result c.from_residual-in_err-ids.ensures.1 c.in_ok-rest.ensures.gains
