use Rattle.std.proofs.Common.{◌≡◌, ℕ, ◌+◌, ◌*◌, ◌/◌, ◌<◌, ◌≤◌, ℤ, pos, ◌+ℤ◌, ◌≤ℤ◌, List, ap, subst, ◌∙◌, arith}
use Rattle.std.proofs.Math.Nat.{div-mul-le_self}
use Rattle.std.proofs.lemmas.Int.{ints}
use Rattle.std.proofs.lemmas.Grind.{div_ceil_times}
use Rattle.tdl_fraction.specs.Rational.{floor, ceil}
use Rattle.tdl_fraction.proofs.Order.{≤ℚ_from_<ℚ}
use Rattle.tdl_fraction.proofs.Rounding.{floor_monotone, floor_le_ceil}
use Rattle.tdl_expr.specs.declared.nodes.Node.{Node}
use Rattle.tdl_expr.specs.Rows.{tree_at}
use Rattle.tdl_expr.specs.Valid.{IsValid}
use Rattle.tdl_expr.proofs.ValidRows.{valid_row}
use Rattle.tdl_meaning.proofs.Cuts.{cycles_in_order}
use Rattle.tdl_app.specs.declared.batches.Batches.{Batches}
use Rattle.tdl_app.proofs.BatchEvents.{cycles_few, is_cut}
use Rattle.tdl_app.proofs.batches.Batches.of.Goals as goal

-- up to a number that is so many later
up_to : (c y : ℤ) (n m : ℕ) → c +ℤ pos m ≡ y → n ≤ m → (c +ℤ pos n) ≤ℤ y
up_to c y n m there fewer = omega (arith, ints)

down_to : (c y : ℤ) (m : ℕ) → c +ℤ pos m ≡ y → y ≤ℤ (c +ℤ pos m)
down_to c y m there = omega (arith, ints)

pub count_to-known_from-requires : goal.count_to-known_from-requires
count_to-known_from-requires c =
    rw (c.of-first.ensures, c.not_before.ensures, c.start.ensures.value, c.start-2.ensures.value) (floor_le_ceil c.args.arc.start)

pub count_to-whole-requires : goal.count_to-whole-requires
count_to-whole-requires c =
    rw (c.of-first.ensures, c.of.ensures, c.start.ensures.value, c.stop.ensures.value) (floor_monotone (≤ℚ_from_<ℚ c.requires.ordered))

pub count_to-all-requires : goal.count_to-all-requires
count_to-all-requires c =
    rw (c.of-first.ensures, c.not_before-2.ensures, c.start.ensures.value, c.stop-2.ensures.value) (cycles_in_order c.args.arc c.requires.ordered)

pub most_cycles-requires : goal.most_cycles-requires
most_cycles-requires c =
    let first = c.of-first.ensures ∙ ap floor c.start.ensures.value in
    let last = c.count_to-all.ensures ∙ c.not_before-2.ensures ∙ ap ceil c.stop-2.ensures.value in
    cycles_few c.args.arc c.of-first.result c.count_to-all.result c.requires first last

pub returns-in-Some-clause-batches : goal.returns-in-Some-clause-batches
returns-in-Some-clause-batches c =
    let n = c.in-Some.cycles in
    let all = c.count_to-all.result in
    let batches : Batches = record {
      arc = c.args.arc;
      first = c.of-first.result;
      cycles = n;
      count = c.div_ceil.result;
      known_from = c.count_to-known_from.result;
      known_to = c.count_to-whole.result / n;
    } in
    let first = c.of-first.ensures ∙ ap floor c.start.ensures.value in
    let last = c.count_to-all.ensures ∙ c.not_before-2.ensures ∙ ap ceil c.stop-2.ensures.value in
    let from = c.count_to-known_from.ensures ∙ c.not_before.ensures ∙ ap ceil c.start-2.ensures.value in
    let to = c.count_to-whole.ensures ∙ c.of.ensures ∙ ap floor c.stop.ensures.value in
    let some : 0 < n = c.in-Some.ensures.0 in
    let up = div_ceil_times all n some in
    let covered : all ≤ c.div_ceil.result * n = rw c.div_ceil.ensures up.0 in
    let close : c.div_ceil.result * n < all + n = rw c.div_ceil.ensures up.1 in
    record {
      cut = is_cut batches all c.requires first last some covered (omega (arith, close, c.in-Some.ensures.1, c.most_cycles.ensures));
      valid = subst (λ (rows : List Node). IsValid (tree_at rows c.args.program.now.root)) c.table-table.ensures
          (valid_row c.table-table.result.now c.args.program.now.root c.table_law.ensures);
      limits = c.root-root.ensures.limits;
      known_from = down_to c.of-first.result (ceil c.args.arc.start) c.count_to-known_from.result from;
      known_to = up_to c.of-first.result (floor c.args.arc.stop) (c.count_to-whole.result / n * n) c.count_to-whole.result to
          (div-mul-le_self c.count_to-whole.result n);
      repeats = λ known. rw (c.table-table.ensures, c.root-root.ensures.value) at c.in-Some.ensures.2;
    }

pub returns-in-None-clause-batches : goal.returns-in-None-clause-batches
returns-in-None-clause-batches c =
    let all = c.count_to-all.result in
    let batches : Batches = record {
      arc = c.args.arc;
      first = c.of-first.result;
      cycles = 1;
      count = all;
      known_from = c.count_to-known_from.result;
      known_to = 0;
    } in
    let first = c.of-first.ensures ∙ ap floor c.start.ensures.value in
    let last = c.count_to-all.ensures ∙ c.not_before-2.ensures ∙ ap ceil c.stop-2.ensures.value in
    let from = c.count_to-known_from.ensures ∙ c.not_before.ensures ∙ ap ceil c.start-2.ensures.value in
    let to = c.count_to-whole.ensures ∙ c.of.ensures ∙ ap floor c.stop.ensures.value in
    record {
      cut = is_cut batches all c.requires first last (omega arith) (omega arith) (omega arith);
      valid = subst (λ (rows : List Node). IsValid (tree_at rows c.args.program.now.root)) c.table-table.ensures
          (valid_row c.table-table.result.now c.args.program.now.root c.table_law.ensures);
      limits = c.root-root.ensures.limits;
      known_from = down_to c.of-first.result (ceil c.args.arc.start) c.count_to-known_from.result from;
      known_to = up_to c.of-first.result (floor c.args.arc.stop) 0 c.count_to-whole.result to (omega arith);
      repeats = λ (known : 0 < 0). absurd (omega arith);
    }
