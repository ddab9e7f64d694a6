-- One orbit of which a test holds.
--     some_orbit    then the test of any orbit holds
use Rattle.std.proofs.Common.{◌≡◌, ◌-◌, ◌∙◌, ℕ, Bool, true, arith, sym, ap, get_or}
use Rattle.std.specs.List.{list_any}
use Rattle.std.proofs.lemmas.List.Folds.{list_any_at}
use Rattle.std.proofs.lemmas.List.FromFn.{get_or-range_with_len}
use Rattle.tdl_control.specs.Limits.{max_orbit}
use Rattle.tdl_desk.specs.Desk.{IsOrbit, orbits}

pub some_orbit : (f : ℕ → Bool) (o : ℕ) → IsOrbit o → f o ≡ true → true ≡ list_any f orbits
some_orbit f o is there =
    let at : get_or orbits (o - 1) 0 ≡ o = get_or-range_with_len 1 max_orbit (o - 1) 0 (omega (arith, is.0, is.1)) ∙ omega (arith, is.0) in
    sym (list_any_at f orbits (o - 1) 0 (omega (arith, is.0, is.1)) (ap f at ∙ there))
