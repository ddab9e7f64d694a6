-- The numbers that are kept of rows, and what they stand for. Each is capped at the greatest word, a hang at that of two words. Where a
-- hang or a grid is past that, those of the rows above it may be wrong, since a rate divides; but then their trees are too far or too
-- fine below, at every ask. Joins work out counts and loads from hangs. Loads are exact, capped, all the same: where a hang may be wrong,
-- it is so great that the load of a join above is past a word, and where a count may be wrong, the load is.
--     fine_below, reach_below     what the children of a tree add to its fineness and its reach
--     IsTooFine, IsTooFar         past a word, whatever is asked
--     KeepsCount                  a count is exact, or the load is past a word
--     IsVast, KeepsHang           a hang is exact, or so great that the loads of the joins above are past a word
--     GrowsSo                     what is met is so many times finer and further at most than what is asked, if the numbers are no whole words
--     Grows, GrowsBelow           this of a tree, and of its children
--     KeepsBounds                 the bounds of a row stand for those of its tree
--     NumbersStandFor             the numbers of a row stand for its tree
--     Collects                    these numbers of several rows stand for the bounds of several trees
--     AllStand                    each row's numbers stand for its tree
--     AreKnown                    these are the numbers of the first rows of a table
use Rattle.std.specs.Prelude.{◌≡◌, ◌⊎◌, ℕ, ◌<◌, ◌≤◌, ◌+◌, ◌*◌, ◌-◌, ◌^◌, max, List, length, get_or}
use Rattle.tdl_fraction.specs.Divisor.{lcm}
use Rattle.tdl_expr.specs.declared.ids.NodeId.{NodeId}
use Rattle.tdl_expr.specs.Tree.{Tree, Silence, Pure, Fast, TimeCat, Cat, Stack, Rev, Pick, When, Shift, Join, Ply, Gate, Trees, Steps}
use Rattle.tdl_expr.specs.declared.nodes.Node.{Node}
use Rattle.tdl_expr.specs.Rows.{IsTable, row, trees_of}
use Rattle.tdl_expr.specs.Bounds.{Bounds, bounds, bounds_of, bounds_of_steps, counts, loads, most, hangs, grids, hang, grid}
use Rattle.tdl_expr.specs.Bounds.{fast_ask, fast_far, shift_ask, shift_far, left_ask, right_ask, left_far, right_far}
use Rattle.tdl_expr.specs.Bounds.{fine, fine_of, fine_of_steps, reach, reach_of, reach_of_steps}
use Rattle.tdl_compile.specs.declared.sizes.RowBounds.{RowBounds}
use Rattle.tdl_compile.specs.declared.sizes.Group.{Group}
use Rattle.tdl_compile.specs.declared.sizes.Growth.{Growth}
use Rattle.tdl_compile.specs.Compiled.{capped}

abbrev pub fine_below : Tree → ℕ → ℕ
fine_below Silence q = 0
fine_below (Pure v) q = 0
fine_below (Fast r e) q = fine e (fast_ask r q)
fine_below (TimeCat steps) q = fine_of_steps steps q
fine_below (Cat trees) q = fine_of trees q
fine_below (Stack trees) q = fine_of trees q
fine_below (Rev e) q = fine e q
fine_below (Pick selector trees) q = max (fine selector q) (fine_of trees (lcm (grid selector) q))
fine_below (When modulus test d e) q = max (fine d q) (fine e q)
fine_below (Shift t e) q = fine e (shift_ask t q)
fine_below (Join side op d e) q = max (fine d (left_ask side d e q)) (fine e (right_ask side d e q))
fine_below (Ply n e) q = fine e q
fine_below (Gate from to inside e) q = fine e q

abbrev pub reach_below : Tree → ℕ → ℕ
reach_below Silence m = 0
reach_below (Pure v) m = 0
reach_below (Fast r e) m = reach e (fast_far r m)
reach_below (TimeCat steps) m = reach_of_steps steps m
reach_below (Cat trees) m = reach_of trees m
reach_below (Stack trees) m = reach_of trees m
reach_below (Rev e) m = reach e m
reach_below (Pick selector trees) m = max (reach selector m) (reach_of trees m)
reach_below (When modulus test d e) m = max (reach d m) (reach e m)
reach_below (Shift t e) m = reach e (shift_far t m)
reach_below (Join side op d e) m = max (reach d (left_far side d e m)) (reach e (right_far side d e m))
reach_below (Ply n e) m = reach e m
reach_below (Gate from to inside e) m = reach e m

abbrev pub most_word : ℕ
most_word = 2 ^ 64 - 1

-- the greatest number of two words
abbrev pub most_hang : ℕ
most_hang = 2 ^ 128 - 1

pub record IsTooFine (finest : ℕ → ℕ) : Type 0 where
  pub past : (q : ℕ) → 0 < q → most_word ≤ finest q

pub record IsTooFar (furthest : ℕ → ℕ) : Type 0 where
  pub past : (m : ℕ) → most_word ≤ furthest m

-- of a number that is kept for a count, with this load
abbrev pub KeepsCount : ℕ → ℕ → ℕ → Type 0
KeepsCount kept count load = (kept ≡ capped count) ⊎ (most_word ≤ load)

-- what is kept for a hang, and the hang, are both past two words with this load
pub record IsVast (kept hang load : ℕ) : Type 0 where
  pub of_kept : most_hang ≤ kept * load
  pub of_hang : most_hang ≤ hang * load

abbrev pub KeepsHang : ℕ → ℕ → ℕ → Type 0
KeepsHang kept hang load = (kept ≡ hang) ⊎ IsVast kept hang load

pub record GrowsSo (g : Growth) (furthest finest : ℕ → ℕ) : Type 0 where
  pub finer : g.finer < most_word → (q : ℕ) → 0 < q → finest q ≤ g.finer * q
  pub further : g.further < most_word → (m : ℕ) → furthest m + 1 ≤ g.further * (m + 1)

abbrev pub Grows : Growth → Tree → Type 0
Grows g e = GrowsSo g (reach e) (fine e)

abbrev pub GrowsBelow : Growth → Tree → Type 0
GrowsBelow g e = GrowsSo g (reach_below e) (fine_below e)

pub record KeepsBounds (b : RowBounds) (e : Tree) : Type 0 where
  pub count : KeepsCount b.count (bounds e).count (bounds e).load
  pub load : b.load ≡ capped (bounds e).load
  pub wide : KeepsHang b.hang (hang e) (bounds e).load
  -- as a word
  pub hang : (capped b.hang ≡ capped (hang e)) ⊎ IsTooFar (reach_below e)
  pub grid : (b.grid ≡ capped (grid e)) ⊎ IsTooFine (fine_below e)

pub record NumbersStandFor (b : RowBounds) (e : Tree) : Type 0 where
  pub bounds : KeepsBounds b e
  pub grows : Grows b.growth e

-- of trees with these bounds, together so far and so fine
pub record Collects (g : Group) (xs : List Bounds) (furthest finest : ℕ → ℕ) : Type 0 where
  pub counts : KeepsCount g.counts (counts xs) (loads xs)
  pub most : KeepsCount g.most (most xs) (loads xs)
  pub wide : KeepsHang g.hangs (hangs xs) (loads xs)
  pub loads : g.loads ≡ capped (loads xs)
  pub hangs : (capped g.hangs ≡ capped (hangs xs)) ⊎ IsTooFar furthest
  pub grids : (g.grids ≡ capped (grids xs)) ⊎ IsTooFine finest
  pub grows : GrowsSo g.growth furthest finest

abbrev pub CollectsTrees : Group → Trees → Type 0
CollectsTrees g trees = Collects g (bounds_of trees) (reach_of trees) (fine_of trees)

abbrev pub CollectsSteps : Group → Steps → Type 0
CollectsSteps g steps = Collects g (bounds_of_steps steps) (reach_of_steps steps) (fine_of_steps steps)

pub record AllStand (rows : List RowBounds) (trees : List Tree) : Type 0 where
  pub each : (id : NodeId) → id.index < length rows → (d : RowBounds) → NumbersStandFor (get_or rows id.index d) (row trees id)

-- these are the numbers of the first rows of a table
pub record AreKnown (nodes : List Node) (rows : List RowBounds) : Type 0 where
  pub table : IsTable nodes
  pub within : length rows ≤ length nodes
  pub stand : AllStand rows (trees_of nodes)
