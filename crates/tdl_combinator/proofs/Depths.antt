-- How deep functions on patterns are, beside those in them.
use Rattle.std.proofs.Common.{◌≡◌, ℕ, ◌<◌, subst, sym, arith}
use Rattle.tdl_expr.specs.declared.args.Arg.{Arg}
use Rattle.tdl_combinator.specs.declared.funs.Fun.{Fun}
use Rattle.tdl_combinator.specs.declared.funs.Fun.TheBlock.{the_depth, member-Fun}
use Rattle.tdl_combinator.specs.declared.funs.Fun.TheViews.{deep-Every', deep-Off', deep-Chain'}
use Rattle.tdl_combinator.specs.declared.funs.Fun.TheVariants.{Every', Off', Chain'}

abbrev pub depth : Fun → ℕ
depth fun = the_depth member-Fun fun

-- where the function in it is lent as another value
deeper_than : (fun other f part : Fun) → fun ≡ other → part ≡ f → depth f < depth other → depth part < depth fun
deeper_than fun other f part e d h =
    let P : Fun → Type 0 = λ g. depth f < depth g in
    let Q : Fun → Type 0 = λ g. depth g < depth fun in
    subst Q (sym d) (subst P (sym e) h)

pub every_deeper : (fun f part : Fun) (n : Arg) (at : _) → fun ≡ Every' n at f → part ≡ f → depth part < depth fun
unfolding the_depth
every_deeper fun f part n at e d = deeper_than fun (Every' n at f) f part e d (grind (arith, deep-Every'))

pub off_deeper : (fun f part : Fun) (by : Arg) (at : _) → fun ≡ Off' by at f → part ≡ f → depth part < depth fun
unfolding the_depth
off_deeper fun f part by at e d = deeper_than fun (Off' by at f) f part e d (grind (arith, deep-Off'))

pub chain_deeper : (fun first f part : Fun) (at next_at : _) → fun ≡ Chain' at first next_at f → part ≡ f → depth part < depth fun
unfolding the_depth
chain_deeper fun first f part at next_at e d = deeper_than fun (Chain' at first next_at f) f part e d (grind (arith, deep-Chain'))
