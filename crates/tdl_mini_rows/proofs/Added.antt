-- Numbers that are added to the distinct ones.
--     added_same    those of the same values
use Rattle.std.proofs.Common.{◌≡◌, List, Result, OnOk, subst}
use Rattle.std.specs.List.{fold}
use Rattle.tdl_fraction.specs.Rational.{Rational}
use Rattle.tdl_mini_rows.specs.Leaves.{and_distinct}

pub added_same : {E : Type 0} (old new vs ws : List Rational) (result : Result (Unit {0}) E) → vs ≡ ws → OnOk result (new ≡ fold and_distinct old vs)
    → OnOk result (new ≡ fold and_distinct old ws)
added_same old new vs ws result e h = let P : List Rational → Type 0 = λ us. OnOk result (new ≡ fold and_distinct old us) in subst P e h
