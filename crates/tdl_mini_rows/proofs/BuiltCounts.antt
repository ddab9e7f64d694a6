-- How many rows are built: no fewer than a text has sequences, nor than an argument has numbers.
use Rattle.std.proofs.Common.{◌≡◌, ℕ, ◌+◌, ◌≤◌, ℤ, List, [], ◌∷◌, ◌++◌, map, length, refl, ap, ◌∙◌, arith, length-append}
use Rattle.std.specs.List.{fold}
use Rattle.std.proofs.lemmas.List.{length-map}
use Rattle.tdl_fraction.specs.Rational.{Rational, whole}
use Rattle.tdl_expr.specs.Tree.{Tree, Pure}
use Rattle.tdl_mini_tree.specs.declared.leaves.Bracket.{Bracket}
use Rattle.tdl_mini_tree.specs.declared.leaves.Bracket.TheVariants.{Square, Angle, Brace}
use Rattle.tdl_mini_tree.specs.Numbers.{number_value}
use Rattle.tdl_mini_tree.specs.Sizes.{unit}
use Rattle.tdl_mini_tree.specs.Tree as tree
use Rattle.tdl_mini_tree.specs.Values.{range_of, value_number, values_of, sequence_values, group_values, step_values, term_values, operand_values}
use Rattle.tdl_mini_tree.specs.Values.{braces_values}
use Rattle.tdl_rows.specs.Built.{Built, kept, each}
use Rattle.tdl_rows.specs.Joined.{Weighted, tree_of, stack_of, timecat_of, weight_of_parts, Argument, plain, picked, choose, pick_of}
use Rattle.tdl_mini_rows.specs.Leaves.{Play, integer_value}
use Rattle.tdl_mini_rows.specs.Lowered.{Finish, laid, in_turn, at_pace, a_cycle_each, finish_of, stacked, paced_stack, at_factor, first_parts, and_number}
use Rattle.tdl_mini_rows.specs.Lowered.{longer_last, and_last, parts_of, layers_built, sequence_built, groups_built, group_built, step_built, term_built}
use Rattle.tdl_mini_rows.specs.Lowered.{operand_built, braces_built}

-- at least one row, and as many as there are values
pub record Pays (values : List Rational) (rows : List ℕ) : Type 0 where
  pub some : 1 ≤ length rows
  pub each : length values ≤ length rows

-- as many rows as there are values, and a row at least where there are steps
pub record Holds (values : List Rational) (built : Built (List Weighted)) : Type 0 where
  pub each : length values ≤ length built.rows
  pub filled : 1 ≤ length built.value → 1 ≤ length built.rows

-- as many rows as there are values, and as there are sequences
pub record Covers (values : List Rational) (built : Built (List Weighted)) : Type 0 where
  pub each : length values ≤ length built.rows
  pub sequences : length built.value ≤ length built.rows

-- without steps there is a row
abbrev pub Fills : Finish → Type 0
Fills finish = (parts : ℕ) → 1 ≤ length (finish parts []).rows

pub fills-in_turn : Fills in_turn
fills-in_turn parts = omega arith

pub fills-at_pace : (rate : Rational) → Fills (at_pace rate)
fills-at_pace rate parts = omega arith

pub fills-a_cycle_each : Fills a_cycle_each
fills-a_cycle_each parts = omega arith

pub fills-finish : (shape : Bracket) (ls : tree.Layers) → Fills (finish_of shape ls)
fills-finish Square ls = fills-in_turn
fills-finish Angle ls = fills-a_cycle_each
fills-finish Brace ls = fills-at_pace (weight_of_parts (first_parts ls))

-- further rows
pays-more : {values : List Rational} {rows : List ℕ} (more : List ℕ) → Pays values rows → Pays values (rows ++ more)
pays-more {rows = rows} more h = record { some = omega (arith, h.some, length-append rows more); each = omega (arith, h.each, length-append rows more) }

stack-some : (ts : List Tree) → length ts ≤ 0 → 1 ≤ length (stack_of ts).rows
stack-some [] h = omega arith
stack-some (t ∷ ts) h = absurd (omega arith)

stacked-pays : {values : List Rational} (built : Built (List Weighted)) → Covers values built → Pays values (stacked built).rows
stacked-pays {values = values} built h = record { some = some built.value refl; each = omega (arith, h.each, all) }
  where
    rest : List ℕ
    rest = (stack_of (map tree_of built.value)).rows

    all : length (built.rows ++ rest) ≡ length built.rows + length rest
    all = length-append built.rows rest

    some : (ss : List Weighted) → built.value ≡ ss → 1 ≤ length (built.rows ++ rest)
    some [] e =
        let none : length (map tree_of built.value) ≤ 0 = omega (arith, ap (λ (ws : List Weighted). length (map tree_of ws)) e) in
        omega (arith, all, stack-some (map tree_of built.value) none)
    some (s ∷ ss) e = omega (arith, all, h.sequences, ap (λ (ws : List Weighted). length ws) e)

-- what is made of steps has a row, or the steps had
filled-finish : (finish : Finish) → Fills finish → (parts : ℕ) (built : Built (List Weighted)) → (1 ≤ length built.value → 1 ≤ length built.rows) →
    1 ≤ length built.rows + length (finish parts built.value).rows
filled-finish finish fills parts built filled = by built.value refl
  where
    by : (ss : List Weighted) → built.value ≡ ss → 1 ≤ length built.rows + length (finish parts built.value).rows
    by [] e = omega (arith, fills parts, ap (λ (ws : List Weighted). length (finish parts ws).rows) e)
    by (s ∷ ss) e = omega (arith, filled (omega (arith, ap (λ (ws : List Weighted). length ws) e)))

-- ---- a choice
pick-some : (selector : Tree) (ts : List Tree) → 1 ≤ length (pick_of selector ts).rows
pick-some selector [] = omega arith
pick-some selector (t ∷ ts) = omega arith

choose-some : (argument : Argument) (f : Rational → Built Tree) → ((r : Rational) → 1 ≤ length (f r).rows) → 1 ≤ length (choose argument f).rows
choose-some (plain value) f some = some value
choose-some (picked selector values) f some =
    let ts = each f values in
    omega (arith, pick-some selector ts.value, length-append ts.rows (pick_of selector ts.value).rows)

paced-some : (ss : List Weighted) → length ss ≤ 0 → (r : Rational) → 1 ≤ length (paced_stack ss r).rows
paced-some [] h r = omega arith
paced-some (s ∷ ss) h r = absurd (omega arith)

factor-pays : {values : List Rational} (sequences : Built (List Weighted)) (factor : Built Argument) → Covers values sequences
    → Pays values (at_factor sequences factor).rows
factor-pays {values = values} sequences factor h = record { some = some sequences.value refl; each = omega (arith, h.each, all) }
  where
    last : List ℕ
    last = (choose factor.value (paced_stack sequences.value)).rows

    all : length (sequences.rows ++ (factor.rows ++ last)) ≡ length sequences.rows + (length factor.rows + length last)
    all = length-append sequences.rows (factor.rows ++ last) ∙ ap (λ (n : ℕ). length sequences.rows + n) (length-append factor.rows last)

    some : (ss : List Weighted) → sequences.value ≡ ss → 1 ≤ length (sequences.rows ++ (factor.rows ++ last))
    some [] e =
        let none : length sequences.value ≤ 0 = omega (arith, ap (λ (ws : List Weighted). length ws) e) in
        omega (arith, all, choose-some factor.value (paced_stack sequences.value) (paced-some sequences.value none))
    some (s ∷ ss) e = omega (arith, all, h.sequences, ap (λ (ws : List Weighted). length ws) e)

-- ---- steps
length-longer : (ss : List Weighted) → length (longer_last ss) ≡ length ss
length-longer [] = refl
length-longer (s ∷ []) = refl
length-longer (s ∷ t ∷ ss) = omega (arith, length-longer (t ∷ ss))

some-again : (ss : List Weighted) → 1 ≤ length (and_last ss) → 1 ≤ length ss
some-again [] h = h
some-again (s ∷ ss) h = omega arith

value-few : (v : tree.Value) → length (value_number v) ≤ 1
value-few (tree.sound text n) = omega arith
value-few (tree.name text) = omega arith
value-few (tree.note n) = omega arith
value-few (tree.truth b) = omega arith
value-few (tree.number n) = omega arith

rows-of-three : (a b c : List ℕ) → length (a ++ (b ++ (c ++ []))) ≡ length a + (length b + length c)
rows-of-three a b c = omega (arith, length-append a (b ++ (c ++ [])), length-append b (c ++ []), length-append c [])

-- steps, and further ones for numbers
some-of : (ss all : List Weighted) (ns : List ℤ) (before made : List ℕ) → (1 ≤ length ss → 1 ≤ length before) → 1 ≤ length all →
    length made ≡ 0 + length ns → length all ≡ length ss + length ns → length (before ++ made) ≡ length before + length made → 1 ≤ length (before ++ made)
some-of [] all ns before made filled h count size rows = omega arith
some-of (s ∷ ss) all ns before made filled h count size rows = omega (arith, filled (omega arith))

module _ (play : Play) where
  pub numbers-rows : (b : Built (List Weighted)) (ns : List ℤ) → length (fold (and_number play) b ns).rows ≡ length b.rows + length ns
  numbers-rows b [] = omega arith
  numbers-rows b (n ∷ ns) = omega (arith, numbers-rows (and_number play b n) ns, length-append b.rows (0 ∷ []))

  numbers-value : (b : Built (List Weighted)) (ns : List ℤ) → length (fold (and_number play) b ns).value ≡ length b.value + length ns
  numbers-value b [] = omega arith
  numbers-value b (n ∷ ns) =
      let more = laid unit (Pure (play (integer_value n))) ∷ [] in
      omega (arith, numbers-value (and_number play b n) ns, length-append b.value more)

  mutual
    unfolding layers_built

    pub layers-cover : (finish : Finish) → Fills finish → (ls : tree.Layers) → Covers (values_of ls) (layers_built play finish ls)
    layers-cover finish fills tree.no_layer = record { each = omega arith; sequences = omega arith }
    layers-cover finish fills (tree.layer ls s) =
        let before = layers-cover finish fills ls in
        let here = sequence-holds s in
        let l = layers_built play finish ls in
        let b = sequence_built play s in
        let f = finish (parts_of s) b.value in
        let some = filled-finish finish fills (parts_of s) b here.filled in
        let rows = rows-of-three l.rows b.rows f.rows in
        record {
          each = omega (arith, before.each, here.each, rows, length-append (values_of ls) (sequence_values s));
          sequences = omega (arith, before.sequences, some, rows, length-append l.value (laid (parts_of s) f.value ∷ []));
        }

    sequence-holds : (s : tree.Sequence) → Holds (sequence_values s) (sequence_built play s)
    sequence-holds tree.no_group = record { each = omega arith; filled = λ h. h }
    sequence-holds (tree.group tree.no_group g) = group-holds g
    sequence-holds (tree.group (tree.group s h) g) =
        let before = groups-each (tree.group s h) in
        let here = group-holds g in
        let l = groups_built play (tree.group s h) in
        let b = group_built play g in
        let t = timecat_of b.value in
        let rows = rows-of-three l.rows b.rows t.rows in
        let some = filled-finish in_turn fills-in_turn 0 b here.filled in
        record {
          each = omega (arith, before, here.each, rows, length-append (sequence_values (tree.group s h)) (group_values g));
          filled = λ h. omega (arith, some, rows);
        }

    pub groups-each : (s : tree.Sequence) → length (sequence_values s) ≤ length (groups_built play s).rows
    groups-each tree.no_group = omega arith
    groups-each (tree.group s g) =
        let b = group_built play g in
        let rows = rows-of-three (groups_built play s).rows b.rows (timecat_of b.value).rows in
        omega (arith, groups-each s, (group-holds g).each, rows, length-append (sequence_values s) (group_values g))

    pub group-holds : (g : tree.Group) → Holds (group_values g) (group_built play g)
    group-holds tree.no_element = record { each = omega arith; filled = λ h. h }
    group-holds (tree.element g (tree.played s weight times)) =
        let before = group-holds g in
        let here = step-pays s in
        let b = group_built play g in
        let t = step_built play s in
        let rows = length-append b.rows (t.rows ++ []) in
        let more = length-append t.rows [] in
        record {
          each = omega (arith, before.each, here.each, rows, more, length-append (group_values g) (step_values s));
          filled = λ h. omega (arith, here.some, rows, more);
        }
    group-holds (tree.element g (tree.range a c)) =
        let before = group-holds g in
        let b = group_built play g in
        let made = fold (and_number play) (kept b.value) (range_of a c) in
        let count = numbers-rows (kept b.value) (range_of a c) in
        let size = numbers-value (kept b.value) (range_of a c) in
        let rows = length-append b.rows made.rows in
        record {
          each = omega (arith, before.each, count, rows, length-map (range_of a c) whole, length-append (group_values g) (map whole (range_of a c)));
          filled = λ h. some-of b.value made.value (range_of a c) b.rows made.rows before.filled h count size rows;
        }
    group-holds (tree.element g tree.hold) =
        let before = group-holds g in
        let b = group_built play g in
        let rows = length-append b.rows [] in
        record {
          each = omega (arith, before.each, rows, length-append (group_values g) []);
          filled = λ h. omega (arith, before.filled (omega (arith, length-longer b.value)), rows);
        }
    group-holds (tree.element g tree.repeat) =
        let before = group-holds g in
        let b = group_built play g in
        let rows = length-append b.rows [] in
        record {
          each = omega (arith, before.each, rows, length-append (group_values g) []);
          filled = λ h. omega (arith, before.filled (some-again b.value h), rows);
        }

    step-pays : (s : tree.MiniStep) → Pays (step_values s) (step_built play s).rows
    step-pays (tree.begins t) = term-pays t
    step-pays (tree.fast s o) = pays-more _ (step-pays s)
    step-pays (tree.slow s o) = pays-more _ (step-pays s)
    step-pays (tree.euclid s k n) = pays-more _ (step-pays s)
    step-pays (tree.euclid_from s k n r) = pays-more _ (step-pays s)

    term-pays : (t : tree.Term) → Pays (term_values t) (term_built play t).rows
    term-pays (tree.value v) = record { some = omega arith; each = value-few v }
    term-pays tree.rest = record { some = omega arith; each = omega arith }
    term-pays (tree.bracketed o) = operand-pays o

    operand-pays : (o : tree.Operand) → Pays (operand_values o) (operand_built play o).rows
    operand-pays (tree.scaled tree.no_brace n) = record { some = omega arith; each = omega arith }
    operand-pays (tree.scaled (tree.brace tree.no_brace ls) n) = stacked-pays _ (layers-cover (at_pace (number_value n)) (fills-at_pace (number_value n)) ls)
    operand-pays (tree.scaled (tree.brace (tree.brace bs first) ls) n) = braces-pays (tree.brace bs first) _
    operand-pays (tree.nested tree.no_brace shape ls) = stacked-pays _ (layers-cover (finish_of shape ls) (fills-finish shape ls) ls)
    operand-pays (tree.nested (tree.brace bs first) shape ls) = braces-pays (tree.brace bs first) _

    braces-pays : (bs : tree.Braces) (factor : Built Argument) → Pays (braces_values bs) (braces_built play bs factor).rows
    braces-pays tree.no_brace factor = record { some = omega arith; each = omega arith }
    braces-pays (tree.brace tree.no_brace ls) factor = factor-pays _ factor (layers-cover in_turn fills-in_turn ls)
    braces-pays (tree.brace (tree.brace bs first) ls) factor = braces-pays (tree.brace bs first) _
