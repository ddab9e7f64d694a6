-- What the values of a text become.
--     Play             a leaf for each value
--     leaf_of          the leaf of a value in a text of a kind
--     index_leaf       in the selector of a chosen argument, the index of a value among the distinct ones
--     distinct         values in the order in which they first appear
use Rattle.std.specs.Prelude.{ℕ, suc, true, false, nat_lt, if◌then◌else◌, ℤ, pos, negsuc, Option, Some, None, List, [], ◌∷◌, ◌++◌, length}
use Rattle.std.specs.List.{fold}
use Rattle.tdl_fraction.specs.Rational.{Rational}
use Rattle.tdl_fraction.specs.Same.{same_ℚ}
use Rattle.tdl_control.specs.declared.keys.Key.{Key}
use Rattle.tdl_control.specs.declared.keys.Key.TheVariants.{N, S}
use Rattle.tdl_control.specs.declared.leaves.Leaf.{Leaf}
use Rattle.tdl_control.specs.declared.leaves.Leaf.TheVariants.{Controls, Truth, Index}
use Rattle.tdl_control.specs.Setting.{Number, Spelling}
use Rattle.tdl_control.specs.Map.{KeyValues}
use Rattle.tdl_mini_tree.specs.declared.leaves.Kind.{Kind}
use Rattle.tdl_mini_tree.specs.declared.leaves.Kind.TheVariants as kind
use Rattle.tdl_mini_tree.specs.declared.leaves.Number.{Number as Numeral}
use Rattle.tdl_mini_tree.specs.declared.leaves.Tail.TheVariants.{Whole}
use Rattle.tdl_mini_tree.specs.Values.{integer_of, value_number}
use Rattle.tdl_mini_tree.specs.Tree.{Value, sound, name, note, truth, number}

abbrev pub Play : Type 0
Play = Value → Leaf

-- the key that the values of a text of a kind are given to
abbrev pub key_of : Kind → Key
key_of kind.Sound = S
key_of (kind.Note key) = key
key_of (kind.Int key) = key
key_of (kind.Word key) = key
key_of kind.Bool = S
key_of kind.Count = S
key_of kind.Ratio = S

abbrev pub sound_entries : List ℕ → Option Numeral → KeyValues
sound_entries text None = (S, Spelling text) ∷ []
sound_entries text (Some n) = (N, Number (integer_of n)) ∷ (S, Spelling text) ∷ []

abbrev pub leaf_of : Kind → Play
leaf_of kind (sound text n) = Controls (sound_entries text n)
leaf_of kind (name text) = Controls ((key_of kind, Spelling text) ∷ [])
leaf_of kind (note n) = Controls ((key_of kind, Number n) ∷ [])
leaf_of kind (truth b) = Truth b
leaf_of kind (number n) = Controls ((key_of kind, Number (integer_of n)) ∷ [])

-- the index of the first number that is the same, or how many there are
abbrev pub index_in : List Rational → Rational → ℕ
index_in [] value = 0
index_in (first ∷ others) value = if same_ℚ value first then 0 else suc (index_in others value)

-- the number at the end, if it is not among them
abbrev pub and_distinct : List Rational → Rational → List Rational
and_distinct values value = if nat_lt (index_in values value) (length values) then values else values ++ value ∷ []

abbrev pub distinct : List Rational → List Rational
distinct values = fold and_distinct [] values

abbrev pub index_of : List Rational → List Rational → ℕ
index_of values [] = 0
index_of values (value ∷ others) = index_in values value

abbrev pub index_leaf : List Rational → Play
index_leaf values v = Index (index_of values (value_number v))

-- a whole number as a value
abbrev pub integer_value : ℤ → Value
integer_value (pos n) = number (record { is_negative = false; whole = n; tail = Whole })
integer_value (negsuc n) = number (record { is_negative = true; whole = suc n; tail = Whole })
