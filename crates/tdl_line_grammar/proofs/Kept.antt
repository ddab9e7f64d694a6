-- States by what is kept, how many tokens are read, and the stage; and what steps of the machine come to there.
use Rattle.std.proofs.Common.{◌≡◌, ℕ, suc, true, Ok, List, [], ◌∷◌, refl}
use Rattle.tdl_line_machine.specs.Tokens.{Tok}
use Rattle.tdl_command.specs.Tree as tree
use Rattle.tdl_command.specs.Tree.{Expr, Fun, Ratio}
use Rattle.tdl_line_machine.specs.Machine.States.{Spot, first, at_operand, after_dot, Pending, calls, Bracketed, anything, expr_or_number}
use Rattle.tdl_line_machine.specs.Machine.States.{fun_or_number, fun_after, argument, Hole, round, section, measure, bounds, bound, setting, constant}
use Rattle.tdl_line_machine.specs.Machine.States.{list, timecat}
use Rattle.tdl_line_machine.specs.Machine.Calls.{made, in_round}
use Rattle.tdl_line_machine.specs.Machine.States.{unweighed, weighed, Frame, Front, Stage, wanting, expressed, named, chained, Core, State}
use Rattle.tdl_line_machine.specs.Machine.Expressions.{with_pending, operand, operand_in, operand_hole}
use Rattle.tdl_line_machine.specs.Machine.Calls.{with_fun}
use Rattle.tdl_line_machine.specs.Machine.Open.{round_has_funs}

pub record Kept : Type 0 where
  pub frames : List Frame
  pub level : List Pending
  pub depth : ℕ
  pub front : Front

abbrev pub core : Kept → ℕ → Core
core k n = record { frames = k.frames; level = k.level; depth = k.depth; front = k.front; read = n }

abbrev pub at : Kept → Stage → ℕ → State
at k p n = record { core = core k n; stage = p }

abbrev pub leveled : Kept → List Pending → Kept
leveled k level = record { frames = k.frames; level = level; depth = k.depth; front = k.front }

abbrev pub pending : Kept → Pending → Kept
pending k p = leveled k (p ∷ k.level)

abbrev pub inner : Kept → Hole → ℕ → Kept
inner k hole depth = record { frames = record { level = k.level; depth = k.depth; hole = hole } ∷ k.frames; level = []; depth = depth; front = k.front }

-- in a bracket
abbrev pub within : Kept → Hole → Kept
within k hole = inner k hole (suc k.depth)

abbrev pub outer : Kept → Frame → List Frame → Kept
outer k f frames = record { frames = frames; level = f.level; depth = f.depth; front = k.front }

-- ---- functions
abbrev pub after_made : Kept → Spot → Fun → ℕ → State
after_made k first f = at k (named f)
after_made k at_operand f = at (pending k (calls f)) (wanting at_operand)
after_made k (after_dot g) f = at k (chained (tree.chain g f))

pub made_is : (k : Kept) (n : ℕ) (spot : Spot) (f : Fun) → made (core k n) spot f ≡ Ok (after_made k spot f (suc n))
made_is k n first f = refl
made_is k n at_operand f = refl
made_is k n (after_dot g) f = refl

abbrev pub after_round : Kept → Bracketed → Fun → ℕ → State
after_round k anything f = at k (chained f)
after_round k expr_or_number f = at k (chained f)
after_round k fun_or_number f = at k (chained f)
after_round k (fun_after g) f = at k (chained (tree.chain g f))
after_round k (argument spot call) f = after_made k spot (with_fun call f)

pub in_round_is : (k : Kept) (n : ℕ) (t : Tok) (r : Bracketed) (f : Fun) → round_has_funs r ≡ true → in_round (core k n) t r f ≡ Ok (after_round k r f (suc n))
in_round_is k n t anything f e = refl
in_round_is k n t expr_or_number f e = cc
in_round_is k n t fun_or_number f e = refl
in_round_is k n t (fun_after g) f e = refl
in_round_is k n t (argument spot call) f e = made_is k n spot (with_fun call f)

-- ---- operands
abbrev pub after_hole : Kept → Frame → List Frame → Expr → Hole → ℕ → State
after_hole k f frames e (constant spot) = after_made (outer k f frames) spot (tree.const e)
after_hole k f frames e (round r) = at k (expressed e)
after_hole k f frames e (section r operator) = at k (expressed e)
after_hole k f frames e (measure spot call) = at k (expressed e)
after_hole k f frames e (bounds spot) = at k (expressed e)
after_hole k f frames e (bound from) = at k (expressed e)
after_hole k f frames e (setting key) = at k (expressed e)
after_hole k f frames e (list shape es) = at k (expressed e)
after_hole k f frames e (timecat ps) = at k (expressed e)
after_hole k f frames e unweighed = at k (expressed e)
after_hole k f frames e (weighed n) = at k (expressed e)

abbrev pub after_joined : Kept → List Frame → Expr → ℕ → State
after_joined k [] e = at k (expressed e)
after_joined k (f ∷ frames) e = after_hole k f frames e f.hole

abbrev pub after_operand : Kept → Expr → ℕ → State
after_operand k e = after_joined (leveled k (with_pending k.level e).level) k.frames (with_pending k.level e).expr

hole_is :
    (k : Kept) (n : ℕ) (f : Frame) (frames : List Frame) (e : Expr) (h : Hole) →
    operand_hole (core k n) f frames e h ≡ Ok (after_hole k f frames e h (suc n))
hole_is k n f frames e (constant spot) = made_is (outer k f frames) n spot (tree.const e)
hole_is k n f frames e (round r) = refl
hole_is k n f frames e (section r operator) = refl
hole_is k n f frames e (measure spot call) = refl
hole_is k n f frames e (bounds spot) = refl
hole_is k n f frames e (bound from) = refl
hole_is k n f frames e (setting key) = refl
hole_is k n f frames e (list shape es) = refl
hole_is k n f frames e (timecat ps) = refl
hole_is k n f frames e unweighed = refl
hole_is k n f frames e (weighed w) = refl

joined_is : (k : Kept) (n : ℕ) (frames : List Frame) (e : Expr) → operand_in (core k n) frames e ≡ Ok (after_joined k frames e (suc n))
joined_is k n [] e = refl
joined_is k n (f ∷ frames) e = hole_is k n f frames e f.hole

pub operand_is : (k : Kept) (n : ℕ) (e : Expr) → operand (core k n) e ≡ Ok (after_operand k e (suc n))
operand_is k n e = joined_is (leveled k (with_pending k.level e).level) n k.frames (with_pending k.level e).expr
