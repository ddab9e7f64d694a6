-- The spans of counts.
use Rattle.std.proofs.Common.{◌≡◌, ℕ, pos, [], ◌∷◌, refl, ap, ◌∙◌, subst}
use Rattle.tdl_fraction.specs.Rational.{Rational, whole}
use Rattle.tdl_mini_tree.specs.declared.leaves.Number.{Number}
use Rattle.tdl_mini_tree.specs.declared.extremes.Extremes.{Extremes}
use Rattle.tdl_mini_tree.specs.Numbers.{number_value}
use Rattle.tdl_mini_tree.specs.Extremes.{AreExtremes}
use Rattle.tdl_command.specs.Rules.{whole_number}

whole_value : (k : ℕ) → number_value (whole_number k) ≡ whole (pos k)
unfolding whole
whole_value k = refl

pub whole_span : (s : Extremes) (n : Number) (k : ℕ) → AreExtremes s (number_value n ∷ []) → n ≡ whole_number k → AreExtremes s (whole (pos k) ∷ [])
whole_span s n k h e = subst (λ (x : Rational). AreExtremes s (x ∷ [])) (ap number_value e ∙ whole_value k) h
