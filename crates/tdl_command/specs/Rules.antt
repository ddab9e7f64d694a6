-- The rules on numbers, texts and orbits.
--     whole_number                  a number without sign, `.` and `%`
--     is_below                      a number that stands below a `/`
--     is_orbit, is_every            an orbit, and a count of cycles of `jumpMod`
--     kind_of                       the kind of a key's texts
--     has_rhythms                   whether there is a rhythm for each choice of hits and steps
use Rattle.std.specs.Prelude.{ℕ, Bool, false, ◌&&◌, nat_le, nat_lt, pos, List, [], ◌∷◌}
use Rattle.tdl_control.specs.declared.keys.Key.{Key}
use Rattle.tdl_control.specs.declared.keys.Key.TheVariants as key
use Rattle.tdl_fraction.specs.Rational.{Rational}
use Rattle.tdl_fraction.specs.Rational as rational
use Rattle.tdl_mini_tree.specs.declared.leaves.Kind.{Kind}
use Rattle.tdl_mini_tree.specs.declared.leaves.Kind.TheVariants.{Sound, Note, Int, Word}
use Rattle.tdl_mini_tree.specs.declared.leaves.Number.{Number}
use Rattle.tdl_mini_tree.specs.declared.leaves.Tail.TheVariants as tail
use Rattle.tdl_mini_tree.specs.Numbers.{is_whole, is_ratio}
use Rattle.tdl_mini_tree.specs.Values.{values_of, is_accepted, is_accepted_from}
use Rattle.tdl_control.specs.Limits.{max_orbit, max_every}
use Rattle.tdl_command.specs.Tree.{Count, whole, counted}
use Rattle.tdl_mini_tree.specs.Reading.{Reading, read, unread}

abbrev pub whole_number : ℕ → Number
whole_number n = record { is_negative = false; whole = n; tail = tail.Whole }

abbrev pub is_below : Number → Bool
is_below n = is_ratio n && (is_whole n && nat_lt 0 n.whole)

abbrev pub is_orbit : ℕ → Bool
is_orbit n = nat_lt 0 n && nat_le n max_orbit

abbrev pub is_every : ℕ → Bool
is_every n = nat_lt 0 n && nat_le n max_every

abbrev pub kind_of : Key → Kind
kind_of key.S = Sound
kind_of key.N = Note key.N
kind_of key.Note = Note key.Note
kind_of key.Unit = Word key.Unit
kind_of key.Vowel = Word key.Vowel
kind_of other = Int other

abbrev pub reading_values : Reading → List Rational
reading_values (read kind ls) = values_of ls
reading_values (unread kind at) = []

abbrev pub count_values : Count → List Rational
count_values (whole n) = rational.whole (pos n) ∷ []
count_values (counted reading) = reading_values reading

abbrev pub has_rhythms : Count → Count → Bool
has_rhythms hits steps = is_accepted (count_values hits) (count_values steps)

abbrev pub has_rhythms_from : Count → Count → Count → Bool
has_rhythms_from hits steps from = is_accepted_from (count_values hits) (count_values steps) (count_values from)
