-- What is open, and what may stand in it.
--     has_exprs, has_funs, has_numbers    an expression, a function alone, or a number alone may stand there
--     opened_to, reopened, closed         a bracket is opened, goes on, and is closed
use Rattle.std.specs.Prelude.{ℕ, suc, Bool, true, false, nat_lt, List}
use Rattle.std.specs.Prelude.{[], ◌∷◌}
use Rattle.tdl_mini_tree.specs.Limits.{max_depth}
use Rattle.tdl_mini_tree.specs.declared.faults.MiniKind.TheVariants.{TooDeep}
use Rattle.tdl_line_machine.specs.declared.faults.LineKind.TheVariants.{Mini}
use Rattle.tdl_line_machine.specs.Tokens.{Tok}
use Rattle.tdl_line_machine.specs.Machine.States.{Core, Frame, Hole, Bracketed, Stage, Step, anything, argument, bound, expr_or_number, fun_after}
use Rattle.tdl_line_machine.specs.Machine.States.{fun_or_number, going, measure, obeying, refused, round}

abbrev pub round_has_exprs : Bracketed → Bool
round_has_exprs anything = true
round_has_exprs expr_or_number = true
round_has_exprs fun_or_number = false
round_has_exprs (fun_after g) = false
round_has_exprs (argument spot call) = false

abbrev pub round_has_funs : Bracketed → Bool
round_has_funs anything = true
round_has_funs expr_or_number = false
round_has_funs fun_or_number = true
round_has_funs (fun_after g) = true
round_has_funs (argument spot call) = true

abbrev pub round_has_numbers : Bracketed → Bool
round_has_numbers anything = true
round_has_numbers expr_or_number = true
round_has_numbers fun_or_number = true
round_has_numbers (fun_after g) = false
round_has_numbers (argument spot call) = false

abbrev pub hole_has_exprs : Hole → Bool
hole_has_exprs (round r) = round_has_exprs r
hole_has_exprs _ = true

abbrev pub hole_has_funs : Hole → Bool
hole_has_funs (round r) = round_has_funs r
hole_has_funs _ = false

abbrev pub hole_has_numbers : Hole → Bool
hole_has_numbers (round r) = round_has_numbers r
hole_has_numbers (measure spot call) = true
hole_has_numbers (bound from) = true
hole_has_numbers _ = false

-- an expression, a function alone, or a number alone may stand in what is open
abbrev pub has_exprs : List Frame → Bool
has_exprs [] = true
has_exprs (f ∷ frames) = hole_has_exprs f.hole

abbrev pub has_funs : List Frame → Bool
has_funs [] = false
has_funs (f ∷ frames) = hole_has_funs f.hole

abbrev pub has_numbers : List Frame → Bool
has_numbers [] = false
has_numbers (f ∷ frames) = hole_has_numbers f.hole

abbrev pub pushed : Core → Hole → ℕ → Core
pushed c hole depth = record {
  frames = record { level = c.level; depth = c.depth; hole = hole } ∷ c.frames;
  level = [];
  depth = depth;
  front = c.front;
  read = c.read;
}

-- opens a bracket
abbrev pub opened_to : Bool → Core → Hole → Stage → Step
opened_to tested c hole p = obeying tested c (Mini TooDeep) (nat_lt c.depth max_depth) (going (pushed c hole (suc c.depth)) p)

-- goes on in the bracket that was closed, inside so many brackets
abbrev pub reopened : ℕ → Core → Hole → Stage → Step
reopened depth c hole p = going (pushed c hole depth) p

abbrev pub popped : Core → Frame → List Frame → Core
popped c f frames = record { frames = frames; level = f.level; depth = f.depth; front = c.front; read = c.read }

-- closes what is open, and goes on with what it was
abbrev pub closed : List Frame → Core → Tok → (Core → Hole → Step) → Step
closed [] c t next = refused c t
closed (f ∷ frames) c t next = next (popped c f frames) f.hole
