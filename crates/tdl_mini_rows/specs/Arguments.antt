-- The arguments that texts of counts and ratios become, and what is known of them.
--     is_argument       the kinds of such texts
--     IsChoice          a number that an argument of a kind may be
--     IsArgumentOf      an argument of a kind: such a number, or a selection among such numbers
use Rattle.std.specs.Prelude.{◌≡◌, Bool, true, false}
use Rattle.tdl_fraction.specs.Rational.{Rational}
use Rattle.tdl_mini_tree.specs.declared.leaves.Kind.{Kind}
use Rattle.tdl_mini_tree.specs.declared.leaves.Kind.TheVariants.{Count, Ratio}
use Rattle.tdl_rows.specs.Joined.{Argument, plain, picked}
use Rattle.tdl_rows.specs.Arguments.{HasBoundedParts, IsSelection}

abbrev pub is_argument : Kind → Bool
is_argument Count = true
is_argument Ratio = true
is_argument _ = false

-- of bounded parts, and whole where the kind is that of counts
pub record IsChoice (kind : Kind) (number : Rational) : Type 0 where
  pub bounded : HasBoundedParts number
  pub whole : kind ≡ Count → number.den ≡ 1

abbrev pub IsArgumentOf : Kind → Argument → Type 0
IsArgumentOf kind (plain number) = IsChoice kind number
IsArgumentOf kind (picked selector values) = IsSelection (IsChoice kind) selector values
