-- What a table holds bounds what was pushed into it.
use Rattle.std.proofs.Common.{◌≡◌, ℕ, ◌+◌, ◌≤◌, Bool, true, false, nat_lt, ◌||◌, if◌then◌else◌, Option, Some, None, List, [], ◌∷◌, length, refl, arith}
use Rattle.std.proofs.lemmas.Bool.{ltb-false}
use Rattle.tdl_expr.specs.declared.nodes.Node.{Node}
use Rattle.tdl_expr.specs.declared.tables.PushFault.{PushFault}
use Rattle.tdl_expr.specs.declared.tables.PushFault.TheVariants.{TooLarge}
use Rattle.tdl_expr.specs.Rows.{sum_links}
use Rattle.tdl_expr.specs.Pushed.{overflow}
use Rattle.tdl_rows.specs.Lowers.{overflow_or, first_overflow, Gains}

overflow-none : (rows links : ℕ) → overflow rows links ≡ None → rows ≤ 2048
overflow-none rows links e = by (nat_lt 2048 rows) refl e
  where
    by : (b : Bool) → nat_lt 2048 rows ≡ b → (if b || nat_lt 8192 links then Some (TooLarge rows links) else None) ≡ None → rows ≤ 2048
    by true f g = (cc)
    by false f g = ltb-false 2048 rows f

or-none : (first later : Option PushFault) → overflow_or first later ≡ None → (first ≡ None) × (later ≡ None)
or-none None later e = (refl, e)
or-none (Some fault) later e = (cc)

fits-few : (rows links : ℕ) (pushed : List ℕ) → first_overflow rows links pushed ≡ None → 1 ≤ length pushed → rows + length pushed ≤ 2048
fits-few rows links [] e h = absurd (omega arith)
fits-few rows links (more ∷ []) e h = omega (arith, overflow-none (rows + 1) (links + more) (or-none (overflow (rows + 1) (links + more)) None e).0)
fits-few rows links (more ∷ next ∷ others) e h =
    let rest = first_overflow (rows + 1) (links + more) (next ∷ others) in
    omega (arith, fits-few (rows + 1) (links + more) (next ∷ others) (or-none (overflow (rows + 1) (links + more)) rest e).1 (omega arith))

none-few : (pushed : List ℕ) (n : ℕ) → (1 ≤ length pushed → n + length pushed ≤ 2048) → length pushed ≤ 2048
none-few [] n h = omega arith
none-few (more ∷ others) n h = omega (arith, h (omega arith))

-- no more rows were pushed than a table has
pub rows-few : {old new : List Node} {links : List ℕ} → Gains old new links → length links ≤ 2048
rows-few {old = old} {links = links} gains = none-few links (length old) (fits-few (length old) (sum_links old) links gains.fits)
