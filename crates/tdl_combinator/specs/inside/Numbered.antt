-- What functions make with numbers that are known.
--     made_by        a function of one number, which has no other in it
--     numbered       a function of two numbers, of another
--     with_first     with the first number, where the second is an argument
--     with_second    with the second number after the first
use Rattle.std.specs.Prelude.{List}
use Rattle.tdl_fraction.specs.Rational.{Rational}
use Rattle.tdl_expr.specs.declared.args.Arg.{Arg}
use Rattle.tdl_expr.specs.declared.ids.NodeId.{NodeId}
use Rattle.tdl_expr.specs.declared.nodes.Node.{Node}
use Rattle.tdl_expr.specs.Tree.{Tree}
use Rattle.tdl_expr.specs.Rows.{tree_at}
use Rattle.tdl_rows.specs.Arguments.{argument_at}
use Rattle.tdl_rows.specs.Built.{Built}
use Rattle.tdl_rows.specs.Joined.{choose}
use Rattle.tdl_combinator.specs.declared.by_number.Way.{Way}
use Rattle.tdl_combinator.specs.declared.by_number.Way.TheVariants.{Later, Earlier, Ply, Segment, Iter}
use Rattle.tdl_combinator.specs.declared.applying.How.{How}
use Rattle.tdl_combinator.specs.declared.applying.How.TheVariants.{Every, EveryAt, WhenMod, Off}
use Rattle.tdl_combinator.specs.declared.funs.Fun.{Fun}
use Rattle.tdl_combinator.specs.Makings.{Making, when_of, every_round, every_at_round, when_mod_round, off_of, later_of, earlier_of, ply_of, segment_of}
use Rattle.tdl_combinator.specs.Makings.{iter_of}
use Rattle.tdl_combinator.specs.Applied.{applied}
use Rattle.tdl_combinator.specs.Funs.{fun_at}

abbrev pub made_by : Way → Rational → Making
made_by Later number p = later_of number p
made_by Earlier number p = earlier_of number p
made_by Ply number p = ply_of number.num p
made_by Segment number p = segment_of number.num p
made_by Iter number p = iter_of number.num p

abbrev pub numbered : How → Rational → Rational → Making → Making
numbered Every a b f p = when_of (every_round a.num) f p
numbered EveryAt a b f p = when_of (every_at_round a.num b.num) f p
numbered WhenMod a b f p = when_of (when_mod_round a.num b.num) f p
numbered Off a b f p = off_of a f p

abbrev pub with_second : List Node → How → Fun → NodeId → Rational → Rational → Built Tree
with_second nodes how part id a b = numbered how a b (applied (fun_at nodes part)) (tree_at nodes id)

abbrev pub with_first : List Node → How → Fun → NodeId → Arg → Rational → Built Tree
with_first nodes how part id second a = choose (argument_at nodes second) (with_second nodes how part id a)
