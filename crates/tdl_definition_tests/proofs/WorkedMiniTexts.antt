-- Texts of mini-notation: bytes, and the tree or the first fault that they have.
-- The trees are worked by hand, from the grammar. The faults are those that another program, which was written apart from this one, has for the texts.
use Rattle.std.proofs.Common.{ℕ, true, false, Some, None, codes, refl}
use Rattle.std.specs.Prelude.{pos}
use Rattle.tdl_control.specs.declared.faults.Faulted.TheVariants.{At}
use Rattle.tdl_control.specs.declared.keys.Key.TheVariants.{N}
use Rattle.tdl_fraction.specs.Divisor.{gcd}
use Rattle.tdl_fraction.specs.Rational.{frac}
use Rattle.tdl_mini_tree.specs.declared.faults.MiniKind.TheVariants as kind
use Rattle.tdl_mini_tree.specs.declared.leaves.Bracket.TheVariants.{Square, Angle, Brace}
use Rattle.tdl_mini_tree.specs.declared.leaves.Kind.TheVariants.{Sound, Note, Bool}
use Rattle.tdl_mini_tree.specs.declared.leaves.Number.{Number}
use Rattle.tdl_mini_tree.specs.declared.leaves.Tail.TheVariants.{Whole, Decimals, Over}
use Rattle.tdl_mini_tree.specs.Tree.{Layers, no_layer, layer, Sequence, no_group, group, Group, no_element, element, Element, played, range, hold, repeat}
use Rattle.tdl_mini_tree.specs.Tree.{MiniStep, begins, fast, slow, euclid, euclid_from, value, rest, bracketed, sound, note, truth, number, scaled, nested}
use Rattle.tdl_mini_tree.specs.Tree.{Value, no_brace, brace}
use Rattle.tdl_mini_grammar.specs.Texts.{IsMini, Refuses}
use Rattle.tdl_definition_tests.proofs.MiniAnswers.{reads, refuses}

abbrev n : ℕ → Number
n size = record { is_negative = false; whole = size; tail = Whole }

-- one sequence of one group
abbrev sequence : Group → Sequence
sequence g = group no_group g

abbrev layers : Group → Layers
layers g = layer no_layer (sequence g)

abbrev plays : MiniStep → Element
plays s = played s None None

abbrev of : Value → MiniStep
of v = begins (value v)

abbrev one : Element → Group
one e = element no_element e

abbrev two : Element → Element → Group
two d e = element (one d) e

abbrev three : Element → Element → Element → Group
three d e f = element (two d e) f

abbrev bd : MiniStep
bd = of (sound (codes "bd") None)

abbrev sn : MiniStep
sn = of (sound (codes "sn") None)

abbrev a : MiniStep
a = of (sound (codes "a") None)

abbrev b : MiniStep
b = of (sound (codes "b") None)

abbrev c : MiniStep
c = of (sound (codes "c") None)

abbrev counted : ℕ → Element
counted size = plays (of (number (n size)))

-- ---- trees
two_groups : IsMini Sound (codes "bd . sn") (layer no_layer (group (group no_group (one (plays bd))) (one (plays sn))))
two_groups = reads Sound (codes "bd . sn") (layer no_layer (group (group no_group (one (plays bd))) (one (plays sn)))) refl

abbrev braced : Layers
braced = layer (layers (two (plays a) (plays b))) (sequence (one (plays c)))

two_layers_in_braces : IsMini Sound (codes "{a b, c}") (layers (one (plays (begins (bracketed (nested no_brace Brace braced))))))
two_layers_in_braces = reads Sound (codes "{a b, c}") (layers (one (plays (begins (bracketed (nested no_brace Brace braced)))))) refl

braces_at_a_rate : IsMini Sound (codes "{a b, c}%4") (layers (one (plays (begins (bracketed (scaled (brace no_brace braced) (n 4)))))))
braces_at_a_rate = reads Sound (codes "{a b, c}%4") (layers (one (plays (begins (bracketed (scaled (brace no_brace braced) (n 4))))))) refl

weight_hold_and_repeat : IsMini Sound (codes "bd@3 _ !") (layers (three (played bd (Some (n 3)) None) hold repeat))
weight_hold_and_repeat = reads Sound (codes "bd@3 _ !") (layers (three (played bd (Some (n 3)) None) hold repeat)) refl

change_count_and_hold : IsMini Sound (codes "bd*2!3 _") (layers (two (played (fast bd (scaled no_brace (n 2))) None (Some (n 3))) hold))
change_count_and_hold = reads Sound (codes "bd*2!3 _") (layers (two (played (fast bd (scaled no_brace (n 2))) None (Some (n 3))) hold)) refl

-- a count stands directly after the `!`, and a number apart is a step
count_or_step : IsMini Sound (codes "bd!3 sn! 3")
    (layers (element (three (played bd None (Some (n 3))) (plays sn) repeat) (plays (of (sound (codes "3") None)))))
count_or_step =
    reads Sound (codes "bd!3 sn! 3") (layers (element (three (played bd None (Some (n 3))) (plays sn) repeat) (plays (of (sound (codes "3") None))))) refl

most_steps : IsMini Sound (codes "b!1023 b!1") (layers (two (played b None (Some (n 1023))) (played b None (Some (n 1)))))
most_steps = reads Sound (codes "b!1023 b!1") (layers (two (played b None (Some (n 1023))) (played b None (Some (n 1))))) refl

rhythm_from_two : IsMini Sound (codes "bd(3,8,2)")
    (layers (one (plays (euclid_from bd (layers (one (counted 3))) (layers (one (counted 8))) (layers (one (counted 2)))))))
unfolding frac gcd
rhythm_from_two =
    reads Sound (codes "bd(3,8,2)")
    (layers (one (plays (euclid_from bd (layers (one (counted 3))) (layers (one (counted 8))) (layers (one (counted 2))))))) refl

chosen_rhythm : IsMini Sound (codes "bd(<3 5>,8)")
    (layers (one (plays (euclid bd (layers (one (plays (begins (bracketed (nested no_brace Angle (layers (two (counted 3) (counted 5)))))))))
    (layers (one (counted 8)))))))
unfolding frac gcd
chosen_rhythm =
    reads Sound (codes "bd(<3 5>,8)")
    (layers (one (plays (euclid bd (layers (one (plays (begins (bracketed (nested no_brace Angle (layers (two (counted 3) (counted 5)))))))))
    (layers (one (counted 8))))))) refl

chosen_rate_and_slower : IsMini Sound (codes "bd*<2 3>/1.5")
    (layers (one (plays (slow (fast bd (nested no_brace Angle (layers (two (counted 2) (counted 3)))))
    (scaled no_brace (record { is_negative = false; whole = 1; tail = Decimals 5000 }))))))
chosen_rate_and_slower =
    reads Sound (codes "bd*<2 3>/1.5")
    (layers (one (plays (slow (fast bd (nested no_brace Angle (layers (two (counted 2) (counted 3)))))
    (scaled no_brace (record { is_negative = false; whole = 1; tail = Decimals 5000 })))))) refl

back_at_a_quotient : IsMini Sound (codes "[bd ~]*-3%4")
    (layers (one (plays (fast (begins (bracketed (nested no_brace Square (layers (two (plays bd) (plays (begins rest)))))))
    (scaled no_brace (record { is_negative = true; whole = 3; tail = Over 4 }))))))
back_at_a_quotient =
    reads Sound (codes "[bd ~]*-3%4")
    (layers (one (plays (fast (begins (bracketed (nested no_brace Square (layers (two (plays bd) (plays (begins rest)))))))
    (scaled no_brace (record { is_negative = true; whole = 3; tail = Over 4 })))))) refl

sample : IsMini Sound (codes "bd:3") (layers (one (plays (of (sound (codes "bd") (Some (n 3)))))))
sample = reads Sound (codes "bd:3") (layers (one (plays (of (sound (codes "bd") (Some (n 3))))))) refl

a_range : IsMini (Note N) (codes "1 .. 3") (layers (one (range (n 1) (n 3))))
a_range = reads (Note N) (codes "1 .. 3") (layers (one (range (n 1) (n 3)))) refl

-- c is 0, a sharp is one more, and an octave above the fifth is 12
a_note_name : IsMini (Note N) (codes "c#6") (layers (one (plays (of (note (pos 13))))))
a_note_name = reads (Note N) (codes "c#6") (layers (one (plays (of (note (pos 13)))))) refl

truths : IsMini Bool (codes "t 0") (layers (two (plays (of (truth true))) (plays (of (truth false)))))
truths = reads Bool (codes "t 0") (layers (two (plays (of (truth true))) (plays (of (truth false))))) refl

-- ---- first faults
open_brace : Refuses Sound (codes "{a b, c") (At kind.Unexpected 7)
open_brace = refuses Sound (codes "{a b, c") kind.Unexpected 7 refl

one_step_too_many : Refuses Sound (codes "b!1023 b!3") (At kind.TooManySteps 8)
one_step_too_many = refuses Sound (codes "b!1023 b!3") kind.TooManySteps 8 refl

one_weight_too_many : Refuses Sound (codes "bd@16383 sn!2") (At kind.TooManySteps 11)
one_weight_too_many = refuses Sound (codes "bd@16383 sn!2") kind.TooManySteps 11 refl

-- a sign of two bytes is one token, and the fault stands at a byte behind it
variable_after_two_bytes : Refuses (Note N) (codes "1 .. ^") (At kind.Variable 5)
variable_after_two_bytes = refuses (Note N) (codes "1 .. ^") kind.Variable 5 refl

decimals_after_two_bytes : Refuses (Note N) (codes "1 .. 2.5") (At kind.FloatValue 5)
decimals_after_two_bytes = refuses (Note N) (codes "1 .. 2.5") kind.FloatValue 5 refl

range_of_sounds : Refuses Sound (codes "bd .. sn") (At kind.Unexpected 3)
range_of_sounds = refuses Sound (codes "bd .. sn") kind.Unexpected 3 refl

random_after_an_empty_group : Refuses Sound (codes "bd . . ? ") (At kind.Random 7)
random_after_an_empty_group = refuses Sound (codes "bd . . ? ") kind.Random 7 refl

no_rhythm : Refuses Sound (codes "bd(9,8)") (At kind.BadEuclid 6)
unfolding frac gcd
no_rhythm = refuses Sound (codes "bd(9,8)") kind.BadEuclid 6 refl

large_factor : Refuses Sound (codes "bd*65536") (At kind.BadFactor 3)
large_factor = refuses Sound (codes "bd*65536") kind.BadFactor 3 refl

large_weight : Refuses Sound (codes "bd@16384") (At kind.BadFactor 3)
large_weight = refuses Sound (codes "bd@16384") kind.BadFactor 3 refl

broken_sample : Refuses Sound (codes "bd:1.5") (At kind.FloatValue 3)
broken_sample = refuses Sound (codes "bd:1.5") kind.FloatValue 3 refl

nothing_to_repeat : Refuses Sound (codes "! bd") (At kind.Unexpected 0)
nothing_to_repeat = refuses Sound (codes "! bd") kind.Unexpected 0 refl

other_bracket : Refuses Sound (codes "[bd . ~ sn, hh") (At kind.Unexpected 14)
other_bracket = refuses Sound (codes "[bd . ~ sn, hh") kind.Unexpected 14 refl
