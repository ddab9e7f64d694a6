-- The trees that expressions are, and the rows that are pushed for them. The rows of a function's own texts and
-- operands, those of functions in it too, come first, each once and in the order written; then those of what it is
-- applied to; and then those of the function.
--     setting_built          the tree of a key and what it is set to
--     bare_fun, ratio_fun,   functions by their names, over their arguments
--     count_fun, bools_fun,
--     layer_fun, cycle_fun
--     shift_fun              the functions `<~` and `~>`
--     shift_built            the function of a ratio and such a sign
--     applied_built          a function applied to an expression
--     joined_trees           two trees joined by an operator
--     built, fun_built       the tree of an expression; the function that a function is
use Rattle.std.specs.Prelude.{pos, ℤ, neg_ℤ, List, [], ◌∷◌, ◌++◌}
use Rattle.tdl_control.specs.declared.keys.Key.{Key}
use Rattle.tdl_control.specs.declared.leaves.Leaf.TheVariants.{Controls}
use Rattle.tdl_control.specs.Setting as setting
use Rattle.tdl_fraction.specs.Rational as rational
use Rattle.tdl_mini_tree.specs.declared.leaves.Kind.TheVariants.{Bool}
use Rattle.tdl_mini_tree.specs.Numbers.{weight_parts}
use Rattle.tdl_mini_tree.specs.Values.{integer_of}
use Rattle.tdl_expr.specs.declared.joinings.Op.TheVariants as op
use Rattle.tdl_expr.specs.Tree.{Tree, Silence, Pure, Join}
use Rattle.tdl_rows.specs.Built.{Built, kept, one_row, ◌▸◌}
use Rattle.tdl_rows.specs.Joined.{Argument, Weighted, stack_of, cat_of, fastcat_of, timecat_of}
use Rattle.tdl_rows.specs.Joined as argument
use Rattle.tdl_mini_rows.specs.Lowered.{lowered, laid}
use Rattle.tdl_combinator.specs.TreeFun as tree
use Rattle.tdl_combinator.specs.TreeFun.{TreeFun}
use Rattle.tdl_combinator.specs.Applied as function
use Rattle.tdl_command.specs.declared.marks.Operator.{Operator}
use Rattle.tdl_command.specs.declared.marks.Way.{Way}
use Rattle.tdl_command.specs.declared.marks.Way.TheVariants.{Earlier, Later}
use Rattle.tdl_command.specs.declared.names.Shape.{Shape}
use Rattle.tdl_command.specs.declared.names.Shape.TheVariants.{Stack, Cat, Fastcat}
use Rattle.tdl_command.specs.declared.names.BareFun.{BareFun}
use Rattle.tdl_command.specs.declared.names.BareFun.TheVariants as bare_name
use Rattle.tdl_command.specs.declared.names.RatioFun.{RatioFun}
use Rattle.tdl_command.specs.declared.names.RatioFun.TheVariants as ratio_name
use Rattle.tdl_command.specs.declared.names.CountFun.{CountFun}
use Rattle.tdl_command.specs.declared.names.CountFun.TheVariants as count_name
use Rattle.tdl_command.specs.declared.names.BoolsFun.{BoolsFun}
use Rattle.tdl_command.specs.declared.names.BoolsFun.TheVariants as bools_name
use Rattle.tdl_command.specs.declared.names.LayerFun.{LayerFun}
use Rattle.tdl_command.specs.declared.names.LayerFun.TheVariants as layer_name
use Rattle.tdl_command.specs.declared.names.CycleFun.{CycleFun}
use Rattle.tdl_command.specs.declared.names.CycleFun.TheVariants as cycle_name
use Rattle.tdl_command.specs.Tree.{Ratio, Setting, quoted, numeral, negative, Expr, silence, control, inside, shifted, list, timecat, called}
use Rattle.tdl_mini_tree.specs.Reading.{Reading}
use Rattle.tdl_command.specs.Tree.{joined, applied}
use Rattle.tdl_command.specs.Tree.{Exprs, no_expr, further, Parts, no_part, part, Fun, bare, of_ratio, every, cycle, off, layer, of_count, of_bools, within}
use Rattle.tdl_command.specs.Tree.{euclid, euclid_off, const, paren, section, shift, chain}
use Rattle.tdl_command.specs.Rules.{kind_of}
use Rattle.tdl_prepare.specs.Numbers.{plain_value, layers_in, ratio_built, count_built}

-- a key that is set to a number
abbrev pub number_built : Key → ℤ → Built Tree
number_built key n = one_row 0 (Pure (Controls ((key, setting.Number n) ∷ [])))

abbrev pub setting_built : Key → Setting → Built Tree
setting_built key (quoted text) = lowered (kind_of key) (layers_in text)
setting_built key (numeral n) = number_built key (integer_of n)
setting_built key (negative n) = number_built key (neg_ℤ (integer_of n))

abbrev pub bools_built : Reading → Built Tree
bools_built text = lowered Bool (layers_in text)

abbrev pub list_of : Shape → List Tree → Built Tree
list_of Stack ts = stack_of ts
list_of Cat ts = cat_of ts
list_of Fastcat ts = fastcat_of ts

-- ---- functions
abbrev pub bare_fun : BareFun → TreeFun
bare_fun bare_name.Same = tree.Same
bare_fun bare_name.Rev = tree.Rev
bare_fun bare_name.Palindrome = tree.Palindrome
bare_fun bare_name.Brak = tree.Brak

abbrev pub ratio_fun : RatioFun → Argument → TreeFun
ratio_fun ratio_name.Fast a = tree.Fast a
ratio_fun ratio_name.Slow a = tree.Slow a
ratio_fun ratio_name.Earlier a = tree.Earlier a
ratio_fun ratio_name.Later a = tree.Later a

abbrev pub shift_fun : Way → Argument → TreeFun
shift_fun Earlier a = tree.Earlier a
shift_fun Later a = tree.Later a

abbrev pub cycle_fun : CycleFun → Argument → Argument → TreeFun → TreeFun
cycle_fun cycle_name.EveryAt a b f = tree.EveryAt a b f
cycle_fun cycle_name.WhenMod a b f = tree.WhenMod a b f

abbrev pub layer_fun : LayerFun → TreeFun → TreeFun
layer_fun layer_name.Superimpose f = tree.Superimpose f
layer_fun layer_name.Jux f = tree.Jux f

abbrev pub count_fun : CountFun → Argument → TreeFun
count_fun count_name.Ply a = tree.Ply a
count_fun count_name.Segment a = tree.Segment a
count_fun count_name.Iter a = tree.Iter a

abbrev pub bools_fun : BoolsFun → Tree → TreeFun
bools_fun bools_name.Struct t = tree.Struct t
bools_fun bools_name.Mask t = tree.Mask t

-- where a rhythm begins that is not moved
abbrev pub at_first : Argument
at_first = argument.plain (rational.whole (pos 0))

abbrev pub shift_built : Ratio → Way → Built TreeFun
shift_built by way = ratio_built by ▸ λ a. kept (shift_fun way a)

abbrev pub applied_built : Built TreeFun → Built Tree → Built Tree
applied_built f e = f ▸ λ g. e ▸ λ p. function.applied g p

abbrev pub joined_trees : Operator → Tree → Tree → Built Tree
joined_trees o p q = one_row 2 (Join o.side (op.Controls o.op) p q)

abbrev mutual
  pub built : Expr → Built Tree
  built silence = one_row 0 Silence
  built (control key to) = setting_built key to
  built (inside e) = built e
  built (shifted by way e) = applied_built (shift_built by way) (built e)
  built (list shape es) = exprs_built es ▸ λ ts. list_of shape ts
  built (timecat parts) = parts_built parts ▸ λ steps. timecat_of steps
  built (called f e) = applied_built (fun_built f) (built e)
  built (joined d o e) = built d ▸ λ p. built e ▸ λ q. joined_trees o p q
  built (applied f e) = applied_built (fun_built f) (built e)

  pub exprs_built : Exprs → Built (List Tree)
  exprs_built no_expr = kept []
  exprs_built (further es e) = exprs_built es ▸ λ ts. built e ▸ λ t. kept (ts ++ t ∷ [])

  pub parts_built : Parts → Built (List Weighted)
  parts_built no_part = kept []
  parts_built (part ps n e) = parts_built ps ▸ λ steps. built e ▸ λ t. kept (steps ++ laid (weight_parts n) t ∷ [])

  pub fun_built : Fun → Built TreeFun
  fun_built (bare f) = kept (bare_fun f)
  fun_built (of_ratio f r) = ratio_built r ▸ λ a. kept (ratio_fun f a)
  fun_built (every n f) = count_built n ▸ λ a. fun_built f ▸ λ g. kept (tree.Every a g)
  fun_built (cycle how n at f) = count_built n ▸ λ a. count_built at ▸ λ b. fun_built f ▸ λ g. kept (cycle_fun how a b g)
  fun_built (off by f) = ratio_built by ▸ λ a. fun_built f ▸ λ g. kept (tree.Off a g)
  fun_built (layer how f) = fun_built f ▸ λ g. kept (layer_fun how g)
  fun_built (of_count f n) = count_built n ▸ λ a. kept (count_fun f a)
  fun_built (of_bools f text) = bools_built text ▸ λ t. kept (bools_fun f t)
  fun_built (within from to f) = fun_built f ▸ λ g. kept (tree.Within (plain_value from) (plain_value to) g)
  fun_built (euclid k n) = count_built k ▸ λ a. count_built n ▸ λ b. kept (tree.Euclid a b at_first)
  fun_built (euclid_off k n r) = count_built k ▸ λ a. count_built n ▸ λ b. count_built r ▸ λ c. kept (tree.Euclid a b c)
  fun_built (const e) = built e ▸ λ t. kept (tree.Const t)
  fun_built (paren f) = fun_built f
  fun_built (section o e) = built e ▸ λ t. kept (tree.Section o.side o.op t)
  fun_built (shift by way) = shift_built by way
  -- the function after the other stands before it
  fun_built (chain f g) = fun_built f ▸ λ next. fun_built g ▸ λ first. kept (tree.Chain first next)
