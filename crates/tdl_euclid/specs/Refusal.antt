-- Whether there is a rhythm of so many hits in so many steps.
--     refusal        why there is none; the first reason counts
--     has_rhythm     there is one; of fewer steps than 0 there is none
use Rattle.std.specs.Prelude.{ℕ, ℤ, pos, negsuc, Bool, false, is_none, nat_lt, ◌==◌, unsigned_abs, Option, Some, None, if◌then◌else◌}
use Rattle.tdl_euclid.specs.declared.rhythms.EuclidFault.{EuclidFault}
use Rattle.tdl_euclid.specs.declared.rhythms.EuclidFault.TheVariants.{ZeroSteps, TooManySteps, TooManyHits}
use Rattle.tdl_euclid.specs.Bits.{max_len}

abbrev pub refusal : ℤ → ℕ → Option EuclidFault
refusal k n =
    if n == 0 then Some ZeroSteps
    else (if nat_lt max_len n then Some (TooManySteps n)
    else (if nat_lt n (unsigned_abs k) then Some (TooManyHits k n)
    else None))

abbrev pub has_rhythm : ℤ → ℤ → Bool
has_rhythm k (pos n) = is_none (refusal k n)
has_rhythm k (negsuc n) = false
