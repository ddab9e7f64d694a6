-- The arcs that trees ask of their children.
--     Asks         the arcs that the meaning of a tree asks of its children, each with the grid and the size that
--                  the bounds name for it
--     AskLaw       such an arc is on that grid and within that size, and no finer and no further than the tree
use Rattle.std.specs.Prelude.{◌≡◌, ℕ, zero, suc, Bool, true, false, ◌+◌, ◌*◌, ◌<◌, ◌≤◌, ℤ, pos, ◌+ℤ◌, ◌≤ℤ◌, length, Contains}
use Rattle.tdl_control.specs.declared.leaves.Leaf.TheVariants.{Index}
use Rattle.tdl_fraction.specs.Divisor.{lcm}
use Rattle.tdl_fraction.specs.Rational.{Rational, whole, ◌*ℚ◌, floor, ceil}
use Rattle.tdl_fraction.specs.Arc.{Arc}
use Rattle.tdl_event.specs.Event.{Event}
use Rattle.tdl_expr.specs.declared.joinings.Op.{Op}
use Rattle.tdl_expr.specs.declared.joinings.Side.TheVariants.{Left, Right, Both}
use Rattle.tdl_expr.specs.declared.rounds.Test.{Test}
use Rattle.tdl_expr.specs.Tree.{Tree, Fast, TimeCat, Cat, Stack, Rev, Pick, When, Shift, Join, Ply, Gate, Trees, child, Steps, step}
use Rattle.tdl_expr.specs.Valid.{IsValid}
use Rattle.tdl_expr.specs.Bounds.{grid, hang, fine, reach, fast_ask, fast_far, shift_ask, shift_far}
use Rattle.tdl_meaning.specs.Pattern.{cycle_arc, rounds, turn}
use Rattle.tdl_meaning.specs.Kinds.{earlier}
use Rattle.tdl_meaning.specs.Values.{meets}
use Rattle.tdl_meaning.specs.Meaning.{cyc, patterns}
use Rattle.tdl_meaning.specs.Ranges.{IsAsked}

-- a child, by its place
pub data IsChild : ℕ → Trees → Tree → Type 0 where
  here : {e : Tree} {trees : Trees} → IsChild zero (child e trees) e
  there : {k : ℕ} {d e : Tree} {trees : Trees} → IsChild k trees e → IsChild (suc k) (child d trees) e

-- a step of some weight
pub data IsStep : ℕ → Steps → Tree → Type 0 where
  first : {w : ℕ} {e : Tree} {steps : Steps} → IsStep w (step w e steps) e
  later : {w v : ℕ} {d e : Tree} {steps : Steps} → IsStep w steps e → IsStep w (step v d steps) e

-- cycle c is one of the arc's
pub record IsCycleOf (a : Arc) (c : ℤ) : Type 0 where
  pub not_before : floor a.start ≤ℤ c
  pub not_after : (c +ℤ pos 1) ≤ℤ ceil a.stop

-- asked for the arc a, the tree asks the child for the arc b, on the grid q' and of the size m' where a is on q and of m
pub data Asks : ℕ → ℕ → Tree → Arc → ℕ → ℕ → Tree → Arc → Type 0 where
  fast : {q m : ℕ} {r : Rational} {e : Tree} {a : Arc} {c : ℤ} → IsCycleOf a c
      → Asks q m (Fast r e) a (fast_ask r q) (fast_far r m) e (record { start = whole c *ℚ r; stop = whole (c +ℤ pos 1) *ℚ r })
  time_cat : {q m w : ℕ} {steps : Steps} {e : Tree} {a : Arc} {c : ℤ} → IsCycleOf a c → IsStep w steps e
      → Asks q m (TimeCat steps) a (q * w) m e (cycle_arc c)
  cat : {q m : ℕ} {trees : Trees} {e : Tree} {a : Arc} {c : ℤ} → IsCycleOf a c → IsChild (turn c (length (patterns trees))) trees e
      → Asks q m (Cat trees) a q m e (cycle_arc (rounds c (length (patterns trees))))
  stack : {q m k : ℕ} {trees : Trees} {e : Tree} {a : Arc} {c : ℤ} → IsCycleOf a c → IsChild k trees e
      → Asks q m (Stack trees) a q m e (cycle_arc c)
  rev : {q m : ℕ} {e : Tree} {a : Arc} {c : ℤ} → IsCycleOf a c
      → Asks q m (Rev e) a q m e (cycle_arc c)
  selector : {q m : ℕ} {e : Tree} {trees : Trees} {a : Arc} {c : ℤ} → IsCycleOf a c
      → Asks q m (Pick e trees) a q m e (cycle_arc c)
  chosen : {q m k : ℕ} {s e : Tree} {trees : Trees} {a : Arc} {c : ℤ} {ev : Event}
      → IsCycleOf a c → Contains (cyc s c) ev → ev.value ≡ Index k → IsChild k trees e
      → Asks q m (Pick s trees) a (lcm (grid s) q) m e ev.part
  met : {q m modulus : ℕ} {test : Test} {d e : Tree} {a : Arc} {c : ℤ} → IsCycleOf a c → meets test (turn c modulus) ≡ true
      → Asks q m (When modulus test d e) a q m d (cycle_arc c)
  other : {q m modulus : ℕ} {test : Test} {d e : Tree} {a : Arc} {c : ℤ} → IsCycleOf a c → meets test (turn c modulus) ≡ false
      → Asks q m (When modulus test d e) a q m e (cycle_arc c)
  shift : {q m : ℕ} {t : Rational} {e : Tree} {a : Arc} {c : ℤ} → IsCycleOf a c
      → Asks q m (Shift t e) a (shift_ask t q) (shift_far t m) e (earlier t c)
  -- of a join the side that gives the wholes is asked for the cycle, and the other for each of those wholes
  left : {q m : ℕ} {op : Op} {d e : Tree} {a : Arc} {c : ℤ} → IsCycleOf a c
      → Asks q m (Join Left op d e) a q m d (cycle_arc c)
  right_of_left : {q m : ℕ} {op : Op} {d e : Tree} {a : Arc} {c : ℤ} {ev : Event} → IsCycleOf a c → Contains (cyc d c) ev
      → Asks q m (Join Left op d e) a (grid d) (m + hang d) e ev.whole
  right : {q m : ℕ} {op : Op} {d e : Tree} {a : Arc} {c : ℤ} → IsCycleOf a c
      → Asks q m (Join Right op d e) a q m e (cycle_arc c)
  left_of_right : {q m : ℕ} {op : Op} {d e : Tree} {a : Arc} {c : ℤ} {ev : Event} → IsCycleOf a c → Contains (cyc e c) ev
      → Asks q m (Join Right op d e) a (grid e) (m + hang e) d ev.whole
  left_of_both : {q m : ℕ} {op : Op} {d e : Tree} {a : Arc} {c : ℤ} → IsCycleOf a c
      → Asks q m (Join Both op d e) a q m d (cycle_arc c)
  right_of_both : {q m : ℕ} {op : Op} {d e : Tree} {a : Arc} {c : ℤ} → IsCycleOf a c
      → Asks q m (Join Both op d e) a q m e (cycle_arc c)
  ply : {q m n : ℕ} {e : Tree} {a : Arc} {c : ℤ} → IsCycleOf a c
      → Asks q m (Ply n e) a q m e (cycle_arc c)
  gate : {q m : ℕ} {from to : Rational} {inside : Bool} {e : Tree} {a : Arc} {c : ℤ} → IsCycleOf a c
      → Asks q m (Gate from to inside e) a q m e (cycle_arc c)

-- a child that is asked is on the ask's grid and within its size, and no finer and no further than the tree
pub record IsAskedWithin (q m : ℕ) (e : Tree) (p n : ℕ) (d : Tree) (b : Arc) : Type 0 where
  pub valid : IsValid d
  pub on_grid : 0 < p
  pub asked : IsAsked p n b
  pub no_finer : fine d p ≤ fine e q
  pub no_further : reach d n ≤ reach e m

abbrev pub AskLaw : Type 0
AskLaw = (q m : ℕ) (e : Tree) (a : Arc) (p n : ℕ) (d : Tree) (b : Arc)
    → Asks q m e a p n d b → IsValid e → 0 < q → IsAsked q m a → IsAskedWithin q m e p n d b
