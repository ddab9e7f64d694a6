-- Trees that keep the rules on numbers, sizes, nesting and Euclids, and whose values are those of texts of a kind.
--     is_small         a number whose digits the tokens of a text can have
--     is_factor        a number as a factor, or as a value of an argument
--     is_numeral       a number as a value of a text of a kind
--     is_value         a value of a text of a kind
--     is_small_sequence, is_light, is_shallow    the limits on a sequence, a group, and brackets in layers
--     fits_key         the key of a kind of words takes a word, and that of a kind of numbers takes none
--     is_valid         layers of a text of a kind
use Rattle.std.specs.Prelude.{◌*◌, Bool, true, false, not, ◌&&◌, nat_le, nat_lt, Option, Some, None}
use Rattle.tdl_control.specs.Key.{takes_word}
use Rattle.tdl_mini_tree.specs.declared.leaves.Number.{Number}
use Rattle.tdl_mini_tree.specs.declared.leaves.Tail.{Tail}
use Rattle.tdl_mini_tree.specs.declared.leaves.Tail.TheVariants.{Whole, Decimals, Over}
use Rattle.tdl_mini_tree.specs.declared.leaves.Kind.{Kind}
use Rattle.tdl_mini_tree.specs.declared.leaves.Kind.TheVariants.{Sound, Note, Int, Word, Bool as Truths, Count, Ratio}
use Rattle.tdl_control.specs.Limits.{max_denominator, max_whole}
use Rattle.tdl_mini_tree.specs.Limits.{max_depth, max_steps, max_groups, max_weights, unit}
use Rattle.tdl_mini_tree.specs.Numbers.{is_whole, is_ratio, is_count, is_weight}
use Rattle.tdl_mini_tree.specs.Sizes.{size_of, steps_of, groups_of}
use Rattle.tdl_mini_tree.specs.Depth.{depth_of}
use Rattle.tdl_mini_tree.specs.Values.{values_of, is_accepted, is_accepted_from}
use Rattle.tdl_mini_tree.specs.Tree.{kind_after}
use Rattle.tdl_mini_tree.specs.Tree as tree

abbrev pub fits_key : Kind → Bool
fits_key (Word key) = takes_word key
fits_key (Note key) = not (takes_word key)
fits_key (Int key) = not (takes_word key)
fits_key _ = true

abbrev pub is_small_tail : Tail → Bool
is_small_tail Whole = true
is_small_tail (Decimals parts) = nat_lt parts unit
is_small_tail (Over denominator) = nat_le denominator max_denominator

abbrev pub is_small : Number → Bool
is_small n = nat_le n.whole max_whole && is_small_tail n.tail

abbrev pub is_factor : Number → Bool
is_factor n = is_ratio n && is_small n

abbrev pub is_integer : Number → Bool
is_integer n = is_whole n && is_small n

-- a number as a value, or as an end of a range; its key takes numbers
abbrev pub is_numeral : Kind → Number → Bool
is_numeral (Note key) n = not (takes_word key) && is_integer n
is_numeral (Int key) n = not (takes_word key) && is_integer n
is_numeral Count n = is_whole n && is_factor n
is_numeral Ratio n = is_factor n
is_numeral _ n = false

abbrev pub has_sounds : Kind → Bool
has_sounds Sound = true
has_sounds _ = false

abbrev pub has_names : Kind → Bool
has_names (Word key) = takes_word key
has_names _ = false

abbrev pub has_notes : Kind → Bool
has_notes (Note key) = not (takes_word key)
has_notes _ = false

abbrev pub has_truths : Kind → Bool
has_truths Truths = true
has_truths _ = false

abbrev pub is_value : Kind → tree.Value → Bool
is_value kind (tree.sound text None) = has_sounds kind
is_value kind (tree.sound text (Some n)) = has_sounds kind && is_integer n
is_value kind (tree.name text) = has_names kind
is_value kind (tree.note n) = has_notes kind
is_value kind (tree.truth b) = has_truths kind
is_value kind (tree.number n) = is_numeral kind n

abbrev pub is_weight_or_none : Option Number → Bool
is_weight_or_none None = true
is_weight_or_none (Some n) = is_weight n && is_small n

abbrev pub is_count_or_none : Option Number → Bool
is_count_or_none None = true
is_count_or_none (Some n) = is_count n

-- at most 1,024 steps in all its groups together, and at most 1,024 groups
abbrev pub is_small_sequence : tree.Sequence → Bool
is_small_sequence s = nat_le (steps_of s) max_steps && nat_le (groups_of s) max_groups

-- weights of at most 16,384 together
abbrev pub is_light : tree.Group → Bool
is_light g = nat_le (size_of g).sum (max_weights * unit)

-- at most 16 brackets open round each token
abbrev pub is_shallow : tree.Layers → Bool
is_shallow ls = nat_le (depth_of ls) max_depth

abbrev mutual
  pub is_valid : Kind → tree.Layers → Bool
  is_valid kind tree.no_layer = true
  is_valid kind (tree.layer ls s) = is_valid kind ls && is_valid_sequence kind s && is_shallow (tree.layer ls s)

  pub is_valid_sequence : Kind → tree.Sequence → Bool
  is_valid_sequence kind tree.no_group = true
  is_valid_sequence kind (tree.group s g) = is_valid_sequence kind s && is_valid_group kind g && is_small_sequence (tree.group s g)

  pub is_valid_group : Kind → tree.Group → Bool
  is_valid_group kind tree.no_element = true
  is_valid_group kind (tree.element g e) = is_valid_group kind g && is_valid_element kind e && is_light (tree.element g e)

  pub is_valid_element : Kind → tree.Element → Bool
  is_valid_element kind (tree.played s weight times) = is_valid_step kind s && is_weight_or_none weight && is_count_or_none times
  is_valid_element kind (tree.range a b) = is_numeral kind a && is_numeral kind b
  is_valid_element kind tree.hold = true
  is_valid_element kind tree.repeat = true

  pub is_valid_step : Kind → tree.MiniStep → Bool
  is_valid_step kind (tree.begins t) = is_valid_term kind t
  is_valid_step kind (tree.fast s o) = is_valid_step kind s && is_valid_operand Ratio o
  is_valid_step kind (tree.slow s o) = is_valid_step kind s && is_valid_operand Ratio o
  is_valid_step kind (tree.euclid s k n) = is_valid_step kind s && is_valid Count k && is_valid Count n && is_accepted (values_of k) (values_of n)
  is_valid_step kind (tree.euclid_from s k n r) =
      is_valid_step kind s && is_valid Count k && is_valid Count n && is_valid Count r && is_accepted_from (values_of k) (values_of n) (values_of r)

  pub is_valid_term : Kind → tree.Term → Bool
  is_valid_term kind (tree.value v) = is_value kind v
  is_valid_term kind tree.rest = true
  is_valid_term kind (tree.bracketed o) = is_valid_operand kind o

  pub is_valid_operand : Kind → tree.Operand → Bool
  is_valid_operand kind (tree.scaled bs n) = is_valid_braces kind bs && is_factor n
  is_valid_operand kind (tree.nested bs shape ls) = is_valid_braces kind bs && is_valid (kind_after kind bs) ls

  pub is_valid_braces : Kind → tree.Braces → Bool
  is_valid_braces kind tree.no_brace = true
  is_valid_braces kind (tree.brace bs ls) = is_valid_braces kind bs && is_valid (kind_after kind bs) ls
