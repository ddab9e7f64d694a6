-- What rows send, and which of them are due.
--     packets_of-append, due-append       joined lists
--     due-by_time                         the rows in order of onset
--     known_more                          what is known of some rows and of those that are due after them
--     more_orbits_due, up_to              one orbit more; up to the last one
--     cycle_due                           the rows that are due, in order, are those of the cycle
--     more_cycles                         the rows of one cycle more
use Rattle.std.proofs.Common.{◌≡◌, ℕ, ◌+◌, ◌-◌, ◌≤◌, List, ◌++◌, map, filter, sym, ap, ◌∙◌, arith, subst}
use Rattle.std.specs.List.{AllByRecursion, flat_map, range_with_len}
use Rattle.std.proofs.lemmas.List.{map-append}
use Rattle.std.proofs.lemmas.List.Elements.{filter-append}
use Rattle.tdl_event.specs.declared.rows.Row.{Row}
use Rattle.tdl_tempo.specs.Tempo.{Pace}
use Rattle.tdl_osc.specs.Bundle.{bytes_of}
use Rattle.tdl_order.specs.TimeOrder.{by_time}
use Rattle.tdl_order.proofs.EachItem.{All-append, All-filter}
use Rattle.tdl_order.proofs.InOrder.{filter-by_time}
use Rattle.tdl_desk.specs.declared.changes.Dated.{Dated}
use Rattle.tdl_desk.specs.Desk.{desk, orbits}
use Rattle.tdl_expr.specs.Tree.{Tree}
use Rattle.tdl_score.proofs.Ranges.{flat_map_one_more}
use Rattle.tdl_score.specs.Programs.{due}
use Rattle.tdl_score.specs.Score.{onset, orbit_rows, rows}
use Rattle.tdl_score.specs.Wires.{goes_to_osc, packets_of}

pub packets_of-append : (tempo : Pace) (xs ys : List Row) → packets_of tempo (xs ++ ys) ≡ packets_of tempo xs ++ packets_of tempo ys
packets_of-append tempo xs ys =
    ap (map (λ (row : Row). bytes_of row tempo)) (filter-append goes_to_osc xs ys)
    ∙ map-append (λ (row : Row). bytes_of row tempo) (filter goes_to_osc xs) (filter goes_to_osc ys)

pub due-append : (from to : ℕ) (xs ys : List Row) → due from to (xs ++ ys) ≡ due from to xs ++ due from to ys
due-append from to xs ys = filter-append _ xs ys

pub due-by_time : (from to : ℕ) (xs : List Row) → due from to (by_time onset xs) ≡ by_time onset (due from to xs)
due-by_time from to xs = filter-by_time onset _ xs

pub known_more : (P : Row → Type 0) (from to : ℕ) (old made new rows : List Row) → new ≡ made → made ≡ old ++ due from to rows
    → AllByRecursion P old → AllByRecursion P rows → AllByRecursion P new
known_more P from to old made new rows now was h k =
    subst (AllByRecursion P) (sym (now ∙ was)) (All-append P old (due from to rows) h (All-filter P _ rows k))

pub more_orbits_due : (from to : ℕ) (f : ℕ → List Row) (orbit : ℕ) (old new : List Row) → 1 ≤ orbit
    → old ≡ due from to (flat_map f (range_with_len 1 (orbit - 1))) → new ≡ old ++ due from to (f orbit)
    → new ≡ due from to (flat_map f (range_with_len 1 (orbit + 1 - 1)))
more_orbits_due from to f orbit old new h was now =
    let n = orbit - 1 in
    let count : orbit + 1 - 1 ≡ n + 1 = omega arith in
    let here : 1 + n ≡ orbit = omega arith in
    let whole_rows : flat_map f (range_with_len 1 (orbit + 1 - 1)) ≡ flat_map f (range_with_len 1 n) ++ f orbit =
    ap (λ k. flat_map f (range_with_len 1 k)) count ∙ flat_map_one_more f 1 n ∙ ap (λ k. flat_map f (range_with_len 1 n) ++ f k) here in
    now ∙ ap (λ xs. xs ++ due from to (f orbit)) was
    ∙ sym (ap (due from to) whole_rows ∙ due-append from to (flat_map f (range_with_len 1 n)) (f orbit))

pub up_to : (from to : ℕ) (f : ℕ → List Row) (m n : ℕ) (found : List Row) → m ≡ n → found ≡ due from to (flat_map f (range_with_len 1 m))
    → found ≡ due from to (flat_map f (range_with_len 1 n))
up_to from to f m n found e was = was ∙ ap (λ k. due from to (flat_map f (range_with_len 1 k))) e

pub cycle_due : (from to : ℕ) (changes : List (Dated Tree)) (cycle : ℕ) (found sorted : List Row)
    → found ≡ due from to (flat_map (orbit_rows cycle (desk changes cycle)) orbits) → sorted ≡ by_time onset found
    → sorted ≡ due from to (rows changes cycle)
unfolding rows
cycle_due from to changes cycle found sorted was now =
    now ∙ ap (by_time onset) was ∙ sym (due-by_time from to (flat_map (orbit_rows cycle (desk changes cycle)) orbits))

pub more_cycles : (f : ℕ → List Row) (first cycle : ℕ) → first ≤ cycle
    → flat_map f (range_with_len first ((cycle + 1) - first)) ≡ flat_map f (range_with_len first (cycle - first)) ++ f cycle
more_cycles f first cycle h =
    let n = cycle - first in
    let count : (cycle + 1) - first ≡ n + 1 = omega arith in
    let here : first + n ≡ cycle = omega arith in
    ap (λ k. flat_map f (range_with_len first k)) count ∙ flat_map_one_more f first n ∙ ap (λ c. flat_map f (range_with_len first n) ++ f c) here
