-- The numbers of expressions.
--     plain_value     the rational that a number is, which is no pattern
--     layers_in       the layers of a text
--     ratio_built,    the arguments that a ratio and a count are, and the rows of their texts
--     count_built
use Rattle.std.specs.Prelude.{Bool, true, false, pos}
use Rattle.tdl_fraction.specs.Rational.{Rational, frac, neg_ℚ}
use Rattle.tdl_fraction.specs.Rational as rational
use Rattle.tdl_mini_tree.specs.Numbers.{number_value}
use Rattle.tdl_mini_tree.specs.Values.{integer_of}
use Rattle.tdl_mini_tree.specs.Tree.{Layers, no_layer}
use Rattle.tdl_rows.specs.Built.{Built, kept}
use Rattle.tdl_rows.specs.Joined.{Argument}
use Rattle.tdl_rows.specs.Joined as argument
use Rattle.tdl_mini_rows.specs.Lowered.{argument_of}
use Rattle.tdl_command.specs.declared.tree.Plain.{Plain}
use Rattle.tdl_command.specs.declared.tree.Plain.TheVariants.{Bare, Signed, Quotient}
use Rattle.tdl_command.specs.Tree.{Ratio, plain, measured, Count, whole, counted}
use Rattle.tdl_mini_tree.specs.Reading.{Reading, read, unread}

abbrev pub negated : Bool → Rational → Rational
negated true q = neg_ℚ q
negated false q = q

abbrev pub plain_value : Plain → Rational
plain_value (Bare n) = number_value n
plain_value (Signed negative n) = negated negative (number_value n)
plain_value (Quotient negative above below) = negated negative (frac (integer_of above) below.whole)

-- a text that was read
abbrev pub layers_in : Reading → Layers
layers_in (read k ls) = ls
layers_in (unread kind at) = no_layer

abbrev pub ratio_built : Ratio → Built Argument
ratio_built (plain p) = kept (argument.plain (plain_value p))
ratio_built (measured text) = argument_of (layers_in text)

abbrev pub count_built : Count → Built Argument
count_built (whole n) = kept (argument.plain (rational.whole (pos n)))
count_built (counted text) = argument_of (layers_in text)
