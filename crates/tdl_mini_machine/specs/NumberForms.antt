-- Which numbers may stand where.
--     is_end          a text of a kind has ranges that begin with this number
--     is_sample       the number may stand after `:`
use Rattle.std.specs.Prelude.{Bool, true, false, not, ◌||◌}
use Rattle.tdl_mini_tree.specs.declared.leaves.Number.{Number}
use Rattle.tdl_mini_tree.specs.declared.leaves.Kind.{Kind}
use Rattle.tdl_mini_tree.specs.declared.leaves.Kind.TheVariants.{Sound, Note, Int, Word, Bool as Truths, Count, Ratio}
use Rattle.tdl_mini_tree.specs.Numbers.{is_whole}

-- a text of this kind has ranges that begin with this number
abbrev pub is_end : Kind → Number → Bool
is_end Sound n = false
is_end (Note key) n = true
is_end (Int key) n = true
is_end (Word key) n = false
is_end Truths n = false
is_end Count n = true
is_end Ratio n = is_whole n

-- no sign, if the number after `:` is whole
abbrev pub is_sample : Number → Bool
is_sample n = not n.is_negative || not (is_whole n)
