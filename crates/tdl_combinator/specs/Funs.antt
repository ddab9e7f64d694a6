-- Functions on patterns over the rows of a table.
--     fun_at          the function, with trees in the place of rows
--     IsNumber        an argument whose numbers have bounded parts
--     AreHits         arguments whose numbers all make rhythms
--     IsFun           a function that speaks of rows of the table, and of such numbers
use Rattle.std.specs.Prelude.{◌≤◌, ◌^◌, IsTrue, nat_abs, List, All}
use Rattle.tdl_euclid.specs.Refusal.{has_rhythm}
use Rattle.tdl_fraction.specs.Rational.{Rational}
use Rattle.tdl_expr.specs.declared.args.Arg.{Arg}
use Rattle.tdl_expr.specs.declared.nodes.Node.{Node}
use Rattle.tdl_expr.specs.Rows.{IsRow, tree_at}
use Rattle.tdl_rows.specs.Arguments.{argument_at, numbers_of, IsArgument, HasBoundedParts}
use Rattle.tdl_rows.specs.Chosen.{AllAmong}
use Rattle.tdl_combinator.specs.declared.funs.Fun.{Fun}
use Rattle.tdl_combinator.specs.declared.funs.Fun.TheVariants.{Same, Fast, Slow, Rev, Every', EveryAt', WhenMod', Off', Superimpose', Jux', Later, Earlier}
use Rattle.tdl_combinator.specs.declared.funs.Fun.TheVariants.{Ply, Segment, Struct, Mask, Within', Iter, Palindrome, Brak, Euclid, Const, Section, Chain'}
use Rattle.tdl_combinator.specs.TreeFun as tree
use Rattle.tdl_combinator.specs.TreeFun.{TreeFun}

abbrev pub fun_at : List Node → Fun → TreeFun
fun_at nodes Same = tree.Same
fun_at nodes (Fast rate) = tree.Fast (argument_at nodes rate)
fun_at nodes (Slow rate) = tree.Slow (argument_at nodes rate)
fun_at nodes Rev = tree.Rev
fun_at nodes (Every' n at f) = tree.Every (argument_at nodes n) (fun_at nodes f)
fun_at nodes (EveryAt' n place at f) = tree.EveryAt (argument_at nodes n) (argument_at nodes place) (fun_at nodes f)
fun_at nodes (WhenMod' n from at f) = tree.WhenMod (argument_at nodes n) (argument_at nodes from) (fun_at nodes f)
fun_at nodes (Off' by at f) = tree.Off (argument_at nodes by) (fun_at nodes f)
fun_at nodes (Superimpose' at f) = tree.Superimpose (fun_at nodes f)
fun_at nodes (Jux' at f) = tree.Jux (fun_at nodes f)
fun_at nodes (Later by) = tree.Later (argument_at nodes by)
fun_at nodes (Earlier by) = tree.Earlier (argument_at nodes by)
fun_at nodes (Ply n) = tree.Ply (argument_at nodes n)
fun_at nodes (Segment n) = tree.Segment (argument_at nodes n)
fun_at nodes (Struct bools) = tree.Struct (tree_at nodes bools)
fun_at nodes (Mask bools) = tree.Mask (tree_at nodes bools)
fun_at nodes (Within' from to at f) = tree.Within from to (fun_at nodes f)
fun_at nodes (Iter n) = tree.Iter (argument_at nodes n)
fun_at nodes Palindrome = tree.Palindrome
fun_at nodes Brak = tree.Brak
fun_at nodes (Euclid k n r) = tree.Euclid (argument_at nodes k) (argument_at nodes n) (argument_at nodes r)
fun_at nodes (Const other) = tree.Const (tree_at nodes other)
fun_at nodes (Section side op right) = tree.Section side op (tree_at nodes right)
fun_at nodes (Chain' at first next_at next) = tree.Chain (fun_at nodes first) (fun_at nodes next)

pub record IsNumber (nodes : List Node) (argument : Arg) : Type 0 where
  pub is : IsArgument nodes argument
  pub bounded : All HasBoundedParts (numbers_of argument)

abbrev pub IsRhythm : Rational → Rational → Rational → Type 0
IsRhythm k n r = IsTrue (has_rhythm k.num n.num) × (nat_abs r.num ≤ 2 ^ 30)

pub record AreHits (nodes : List Node) (k n r : Arg) : Type 0 where
  pub hits : IsArgument nodes k
  pub steps : IsArgument nodes n
  pub from : IsArgument nodes r
  pub each : AllAmong IsRhythm (numbers_of k) (numbers_of n) (numbers_of r)

abbrev pub IsFun : List Node → Fun → Type 0
IsFun nodes Same = Unit {0}
IsFun nodes (Fast rate) = IsNumber nodes rate
IsFun nodes (Slow rate) = IsNumber nodes rate
IsFun nodes Rev = Unit {0}
IsFun nodes (Every' n at f) = IsNumber nodes n × IsFun nodes f
IsFun nodes (EveryAt' n place at f) = IsNumber nodes n × (IsNumber nodes place × IsFun nodes f)
IsFun nodes (WhenMod' n from at f) = IsNumber nodes n × (IsNumber nodes from × IsFun nodes f)
IsFun nodes (Off' by at f) = IsNumber nodes by × IsFun nodes f
IsFun nodes (Superimpose' at f) = IsFun nodes f
IsFun nodes (Jux' at f) = IsFun nodes f
IsFun nodes (Later by) = IsNumber nodes by
IsFun nodes (Earlier by) = IsNumber nodes by
IsFun nodes (Ply n) = IsNumber nodes n
IsFun nodes (Segment n) = IsNumber nodes n
IsFun nodes (Struct bools) = IsRow nodes bools
IsFun nodes (Mask bools) = IsRow nodes bools
IsFun nodes (Within' from to at f) = IsFun nodes f
IsFun nodes (Iter n) = IsNumber nodes n
IsFun nodes Palindrome = Unit {0}
IsFun nodes Brak = Unit {0}
IsFun nodes (Euclid k n r) = AreHits nodes k n r
IsFun nodes (Const other) = IsRow nodes other
IsFun nodes (Section side op right) = IsRow nodes right
IsFun nodes (Chain' at first next_at next) = IsFun nodes first × IsFun nodes next
