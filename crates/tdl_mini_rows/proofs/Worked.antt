-- What worked texts become, each by computing alone.
use Rattle.std.proofs.Common.{◌≡◌, ℕ, true, false, Some, None, List, [], ◌∷◌, codes, pos, refl}
use Rattle.tdl_control.specs.declared.keys.Key.TheVariants.{N, S}
use Rattle.tdl_control.specs.declared.leaves.Leaf.TheVariants.{Controls, Index}
use Rattle.tdl_control.specs.Setting.{Number as Setting, Spelling}
use Rattle.tdl_fraction.specs.Divisor.{gcd, lcm}
use Rattle.tdl_fraction.specs.Rational.{frac, whole, lt_ℚ, neg_ℚ, flip, inverse}
use Rattle.tdl_euclid.specs.Euclid.{pairs, grouped}
use Rattle.tdl_expr.specs.Tree.{Tree, Silence, Pure, Fast, TimeCat, Cat, Rev, Pick, empty, child, none, step}
use Rattle.tdl_mini_tree.specs.declared.leaves.Bracket.TheVariants.{Angle}
use Rattle.tdl_mini_tree.specs.declared.leaves.Kind.TheVariants.{Sound, Note}
use Rattle.tdl_mini_tree.specs.declared.leaves.Number.{Number}
use Rattle.tdl_mini_tree.specs.declared.leaves.Tail.TheVariants.{Whole, Decimals}
use Rattle.tdl_mini_tree.specs.Tree.{Layers, no_layer, layer, no_group, group, Group, no_element, element, Element, played, range, hold, repeat, MiniStep}
use Rattle.tdl_mini_tree.specs.Tree.{begins}
use Rattle.tdl_mini_tree.specs.Tree.{fast, slow, euclid, Term, value, bracketed, sound, number, scaled, nested, no_brace, brace}
use Rattle.tdl_rows.specs.Joined.{plain, picked}
use Rattle.tdl_mini_rows.specs.Lowered.{layers_built, lowered, argument_of}

abbrev n : ℕ → Number
n size = record { is_negative = false; whole = size; tail = Whole }

abbrev layers : Group → Layers
layers g = layer no_layer (group no_group g)

abbrev plays : Term → Element
plays t = played (begins t) None None

abbrev one : Element → Layers
one e = layers (element no_element e)

abbrev two : Element → Element → Layers
two d e = layers (element (element no_element d) e)

abbrev three : Element → Element → Element → Layers
three d e f = layers (element (element (element no_element d) e) f)

abbrev changed : MiniStep → Layers
changed s = one (played s None None)

abbrev bd : MiniStep
bd = begins (value (sound (codes "bd") None))

abbrev sn : MiniStep
sn = begins (value (sound (codes "sn") None))

abbrev of : ℕ → Element
of size = plays (value (number (n size)))

abbrev sounds : List ℕ → Tree
sounds name = Pure (Controls ((S, Spelling name) ∷ []))

abbrev at : ℕ → Tree
at i = Pure (Index i)

-- bd*2
twice_as_fast : lowered Sound (changed (fast bd (scaled no_brace (n 2)))) ≡ record { value = Fast (whole (pos 2)) (sounds (codes "bd")); rows = 0 ∷ 1 ∷ [] }
unfolding layers_built whole lt_ℚ neg_ℚ inverse frac gcd lcm
twice_as_fast = refl

-- bd/2
half_as_fast : lowered Sound (changed (slow bd (scaled no_brace (n 2)))) ≡ record { value = Fast (frac (pos 1) 2) (sounds (codes "bd")); rows = 0 ∷ 1 ∷ [] }
unfolding layers_built whole lt_ℚ neg_ℚ inverse flip frac gcd lcm
half_as_fast = refl

-- bd*0
at_rate_0 : lowered Sound (changed (fast bd (scaled no_brace (n 0)))) ≡ record { value = Silence; rows = 0 ∷ 0 ∷ [] }
unfolding layers_built whole lt_ℚ neg_ℚ inverse frac gcd lcm
at_rate_0 = refl

-- bd*-2
turned : lowered Sound (changed (fast bd (scaled no_brace (record { is_negative = true; whole = 2; tail = Whole }))))
    ≡ record { value = Rev (Fast (whole (pos 2)) (sounds (codes "bd"))); rows = 0 ∷ 1 ∷ 1 ∷ [] }
unfolding layers_built whole lt_ℚ neg_ℚ inverse frac gcd lcm
turned = refl

-- bd@1.5 sn@0.5
weighted : lowered Sound
    (two (played bd (Some (record { is_negative = false; whole = 1; tail = Decimals 5000 })) None)
    (played sn (Some (record { is_negative = false; whole = 0; tail = Decimals 5000 })) None))
    ≡ record { value = TimeCat (step 3 (sounds (codes "bd")) (step 1 (sounds (codes "sn")) none)); rows = 0 ∷ 0 ∷ 2 ∷ [] }
unfolding layers_built whole lt_ℚ neg_ℚ inverse frac gcd lcm
weighted = refl

-- bd _ !
held : lowered Sound (three (played bd None None) hold repeat)
    ≡ record { value = TimeCat (step 1 (sounds (codes "bd")) (step 1 (sounds (codes "bd")) none)); rows = 0 ∷ 2 ∷ [] }
unfolding layers_built whole lt_ℚ neg_ℚ inverse frac gcd lcm
held = refl

-- bd!3
thrice : lowered Sound (one (played bd None (Some (n 3))))
    ≡ record { value = TimeCat (step 1 (sounds (codes "bd")) (step 1 (sounds (codes "bd")) (step 1 (sounds (codes "bd")) none))); rows = 0 ∷ 3 ∷ [] }
unfolding layers_built whole lt_ℚ neg_ℚ inverse frac gcd lcm
thrice = refl

-- <bd sn>
a_cycle_each : lowered Sound (one (plays (bracketed (nested no_brace Angle (two (played bd None None) (played sn None None))))))
    ≡ record { value = Cat (child (sounds (codes "bd")) (child (sounds (codes "sn")) empty)); rows = 0 ∷ 0 ∷ 2 ∷ [] }
unfolding layers_built whole lt_ℚ neg_ℚ inverse frac gcd lcm
a_cycle_each = refl

-- {bd sn}%3
three_a_cycle : lowered Sound (one (plays (bracketed (scaled (brace no_brace (two (played bd None None) (played sn None None))) (n 3)))))
    ≡ record { value = Fast (frac (pos 3) 2) (TimeCat (step 1 (sounds (codes "bd")) (step 1 (sounds (codes "sn")) none))); rows = 0 ∷ 0 ∷ 2 ∷ 1 ∷ [] }
unfolding layers_built whole lt_ℚ neg_ℚ inverse frac gcd lcm
three_a_cycle = refl

-- bd(1,2)
one_of_two : lowered Sound (changed (euclid bd (one (of 1)) (one (of 2))))
    ≡ record { value = TimeCat (step 1 (sounds (codes "bd")) (step 1 Silence none)); rows = 0 ∷ 0 ∷ 2 ∷ [] }
unfolding layers_built pairs grouped whole frac gcd lcm
one_of_two = refl

-- bd*<3 1 3>: a value that comes again has the index of the first
chosen : lowered Sound (changed (fast bd (nested no_brace Angle (three (of 3) (of 1) (of 3)))))
    ≡ record {
      value = Pick (Cat (child (at 0) (child (at 1) (child (at 0) empty))))
          (child (Fast (whole (pos 3)) (sounds (codes "bd"))) (child (sounds (codes "bd")) empty));
      rows = 0 ∷ 0 ∷ 0 ∷ 0 ∷ 3 ∷ 1 ∷ 3 ∷ [];
    }
unfolding layers_built whole lt_ℚ neg_ℚ inverse frac gcd lcm
chosen = refl

-- bd*<>
without_a_choice : lowered Sound (changed (fast bd (nested no_brace Angle no_layer))) ≡ record { value = Silence; rows = 0 ∷ 0 ∷ 0 ∷ [] }
unfolding layers_built whole lt_ℚ neg_ℚ inverse frac gcd lcm
without_a_choice = refl

-- 2 .. 0, as notes
falling : lowered (Note N) (one (range (n 2) (n 0)))
    ≡ record {
      value = TimeCat
          (step 1 (Pure (Controls ((N, Setting (pos 2)) ∷ [])))
          (step 1 (Pure (Controls ((N, Setting (pos 1)) ∷ []))) (step 1 (Pure (Controls ((N, Setting (pos 0)) ∷ []))) none)));
      rows = 0 ∷ 0 ∷ 0 ∷ 3 ∷ [];
    }
unfolding layers_built whole lt_ℚ neg_ℚ inverse frac gcd lcm
falling = refl

-- 2 is a number, and 2!1 is chosen
one_number : argument_of (one (of 2)) ≡ record { value = plain (whole (pos 2)); rows = [] }
unfolding layers_built whole lt_ℚ neg_ℚ inverse frac gcd lcm
one_number = refl

counted_number : argument_of (one (played (begins (value (number (n 2)))) None (Some (n 1))))
    ≡ record { value = picked (at 0) (whole (pos 2) ∷ []); rows = 0 ∷ [] }
unfolding layers_built whole lt_ℚ neg_ℚ inverse frac gcd lcm
counted_number = refl
