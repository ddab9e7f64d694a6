-- Functions with a further argument, and where they stand once they are whole.
--     with_ratio, with_count, with_fun    with the argument
--     called                              the function wants another argument, or is whole
use Rattle.std.specs.Prelude.{Bool, true, false, ◌&&◌, if◌then◌else◌, List}
use Rattle.std.specs.Prelude.{[], ◌∷◌}
use Rattle.tdl_line_machine.specs.Tokens.{Tok}
use Rattle.tdl_command.specs.Tree as tree
use Rattle.tdl_command.specs.Tree.{Ratio, Count, Fun}
use Rattle.tdl_command.specs.Rules.{has_rhythms, has_rhythms_from}
use Rattle.tdl_line_machine.specs.Machine.States.{Called, Core, CountCall, FunCall, Hole, Pending, Bracketed, Spot, Step, after_dot, anything}
use Rattle.tdl_line_machine.specs.Machine.States.{argument, asking_count, asking_fun, at_operand, calls, chained, count_of, cycle_of, cycles_from}
use Rattle.tdl_line_machine.specs.Machine.States.{cycles_of, every_in, every_of, expr_or_number, first, fun_after, fun_or_number, going, hits_of}
use Rattle.tdl_line_machine.specs.Machine.States.{layer_of, made_of, named, off_from, off_hits, off_of, off_steps, refused, round}
use Rattle.tdl_line_machine.specs.Machine.States.{steps_of, wanting, wants_count, wants_fun, with_level, within_of}
use Rattle.tdl_line_machine.specs.Machine.Open.{closed, has_funs}
use Rattle.tdl_line_machine.specs.declared.calls.RatioCall.{RatioCall}
use Rattle.tdl_line_machine.specs.declared.calls.RatioCall.TheVariants as ratio_call

abbrev pub with_ratio : RatioCall → Ratio → Called
with_ratio (ratio_call.Of f) r = made_of (tree.of_ratio f r)
with_ratio ratio_call.Off r = wants_fun (off_of r)

abbrev pub with_count : CountCall → Count → Called
with_count (count_of f) n = made_of (tree.of_count f n)
with_count every_in n = wants_fun (every_of n)
with_count (cycles_of g) n = wants_count (cycles_from g n)
with_count (cycles_from g n) o = wants_fun (cycle_of g n o)
with_count hits_of k = wants_count (steps_of k)
with_count (steps_of k) n = made_of (tree.euclid k n)
with_count off_hits k = wants_count (off_steps k)
with_count (off_steps k) n = wants_count (off_from k n)
with_count (off_from k n) r = made_of (tree.euclid_off k n r)

abbrev pub with_fun : FunCall → Fun → Fun
with_fun (layer_of g) f = tree.layer g f
with_fun (every_of n) f = tree.every n f
with_fun (cycle_of g n o) f = tree.cycle g n o f
with_fun (off_of r) f = tree.off r f
with_fun (within_of a b) f = tree.within a b f

-- whether there is a rhythm for each choice of arguments, once the last of them is a count
abbrev pub has_rhythms_with : CountCall → Count → Bool
has_rhythms_with (steps_of k) n = has_rhythms k n
has_rhythms_with (off_from k n) r = has_rhythms_from k n r
has_rhythms_with _ n = true

-- a named function that is whole
abbrev pub made : Core → Spot → Fun → Step
made c first f = going c (named f)
made c at_operand f = going (with_level c (calls f ∷ c.level)) (wanting at_operand)
made c (after_dot g) f = going c (chained (tree.chain g f))

abbrev pub called : Core → Spot → Called → Step
called c spot (wants_count call) = going c (asking_count spot call)
called c spot (wants_fun call) = going c (asking_fun spot call)
called c spot (made_of f) = made c spot f

-- a function in a round bracket that is closed
abbrev pub in_round : Core → Tok → Bracketed → Fun → Step
in_round c t anything f = going c (chained f)
in_round c t expr_or_number f = refused c t
in_round c t fun_or_number f = going c (chained f)
in_round c t (fun_after g) f = going c (chained (tree.chain g f))
in_round c t (argument spot call) f = made c spot (with_fun call f)

abbrev pub in_hole : Tok → Fun → Core → Hole → Step
in_hole t f c (round r) = in_round c t r f
in_hole t f c _ = refused c t

abbrev pub is_nil : List Pending → Bool
is_nil [] = true
is_nil (p ∷ level) = false

-- a bracket can be closed after a function alone
abbrev pub may_close_fun : Core → Bool
may_close_fun c = has_funs c.frames && is_nil c.level

abbrev pub fun_closed : Core → Tok → Fun → Step
fun_closed c t f = if may_close_fun c then closed c.frames c t (in_hole t f) else refused c t
