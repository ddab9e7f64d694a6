-- What is made of rows that are pushed one after another: functions of arguments, of rows and of other functions.
use Rattle.std.proofs.Common.{◌≡◌, ℕ, List, [], ◌++◌, Result, sym, ap, ap₂, ◌∙◌, subst, append-nil}
use Rattle.tdl_expr.specs.declared.args.Arg.{Arg}
use Rattle.tdl_expr.specs.declared.ids.NodeId.{NodeId}
use Rattle.tdl_expr.specs.declared.nodes.Node.{Node}
use Rattle.tdl_expr.specs.declared.tables.PushFault.{PushFault}
use Rattle.tdl_expr.specs.Tree.{Tree}
use Rattle.tdl_expr.specs.Rows.{IsRow, tree_at}
use Rattle.tdl_rows.specs.Arguments.{argument_at}
use Rattle.tdl_rows.specs.Built.{Built, kept, ◌▸◌}
use Rattle.tdl_rows.specs.Joined.{Argument}
use Rattle.tdl_rows.specs.Lowers.{Gains, Refused, Lowers, LowersTo}
use Rattle.tdl_rows.proofs.Gained.{Gains-append, LowersTo-then, LowersTo-after, result_then}
use Rattle.tdl_combinator.specs.declared.funs.Fun.{Fun}
use Rattle.tdl_combinator.specs.Applied.{applied}
use Rattle.tdl_combinator.specs.Funs.{fun_at, IsFun, IsNumber}
use Rattle.tdl_combinator.specs.TreeFun.{TreeFun}
use Rattle.tdl_combinator.proofs.FunRows.{number_row, number_after, fun_row, fun_after}
use Rattle.tdl_command.specs.declared.marks.Operator.{Operator}
use Rattle.tdl_prepare.specs.Built.{applied_built, joined_trees}
use Rattle.tdl_prepare.specs.inside.Views.{LowersNumber, LowersFun, LowersToFun, FunStandsFor}

pub kept_rows : {old new : List Node} (links : List ℕ) → Gains old new links → Gains old new (links ++ [])
kept_rows {old = old} {new = new} links gains = let P : List ℕ → Type 0 = λ ls. Gains old new ls in subst P (sym (append-nil links)) gains

pub LowersFun-same : (old new : List Node) (built other : Built TreeFun) (fun : Fun) → built ≡ other → LowersFun old new built fun
    → LowersFun old new other fun
LowersFun-same old new built other fun e h = let P : Built TreeFun → Type 0 = λ b. LowersFun old new b fun in subst P e h

pub RefusedFun-same : (old new : List Node) (built other : Built TreeFun) (fault : PushFault) → built ≡ other → Refused old new built.rows fault
    → Refused old new other.rows fault
RefusedFun-same old new built other fault e h = let P : Built TreeFun → Type 0 = λ b. Refused old new b.rows fault in subst P e h

-- ---- a function of one thing
module _ {old new : List Node} (fun : Fun) where
  pub of_number : (b : Built Argument) (k : Argument → TreeFun) (argument : Arg) → LowersNumber old new b argument
      → (IsNumber new argument → FunStandsFor new fun (k (argument_at new argument))) → LowersFun old new (b ▸ λ a. kept (k a)) fun
  of_number b k argument first wraps =
      let stands = wraps first.number in
      record { of_rows = stands.of_rows; is = stands.is ∙ ap k first.is; gains = kept_rows b.rows first.gains }

  pub of_row : (b : Built Tree) (k : Tree → TreeFun) (id : NodeId) → Lowers old new b id
      → (IsRow new id → FunStandsFor new fun (k (tree_at new id))) → LowersFun old new (b ▸ λ t. kept (k t)) fun
  of_row b k id first wraps =
      let stands = wraps first.row in
      record { of_rows = stands.of_rows; is = stands.is ∙ ap k first.is; gains = kept_rows b.rows first.gains }

  pub of_fun : (b : Built TreeFun) (k : TreeFun → TreeFun) (part : Fun) → LowersFun old new b part
      → (IsFun new part → FunStandsFor new fun (k (fun_at new part))) → LowersFun old new (b ▸ λ g. kept (k g)) fun
  of_fun b k part first wraps =
      let stands = wraps first.of_rows in
      record { of_rows = stands.of_rows; is = stands.is ∙ ap k first.is; gains = kept_rows b.rows first.gains }

  -- of another, and of one that is there
  pub of_fun_after : (b : Built TreeFun) (k : TreeFun → TreeFun → TreeFun) (part other : Fun) → LowersFun old new b part → IsFun old other
      → (IsFun new part × IsFun new other → FunStandsFor new fun (k (fun_at new part) (fun_at new other)))
      → LowersFun old new (b ▸ λ g. kept (k g (fun_at old other))) fun
  of_fun_after b k part other made there wraps =
      let stands = wraps (made.of_rows, fun_row made.gains other there) in
      record {
        of_rows = stands.of_rows;
        is = stands.is ∙ ap₂ k made.is (fun_after made.gains other there);
        gains = kept_rows b.rows made.gains;
      }

-- ---- of two
module _ {old mid new : List Node} (fun : Fun) where
  pub of_number_fun : (a : Built Argument) (b : Built TreeFun) (k : Argument → TreeFun → TreeFun) (argument : Arg) (part : Fun)
      → LowersNumber old mid a argument → LowersFun mid new b part
      → (IsNumber new argument × IsFun new part → FunStandsFor new fun (k (argument_at new argument) (fun_at new part)))
      → LowersFun old new (a ▸ λ x. b ▸ λ g. kept (k x g)) fun
  of_number_fun a b k argument part first second wraps =
      let stands = wraps (number_row second.gains argument first.number, second.of_rows) in
      record {
        of_rows = stands.of_rows;
        is = stands.is ∙ ap₂ k (number_after second.gains argument first.number ∙ first.is) second.is;
        gains = Gains-append first.gains (kept_rows b.rows second.gains);
      }

  -- of one that came before, and of another that was made after it
  pub after_fun : (a b : Built TreeFun) (k : TreeFun → TreeFun → TreeFun) (other : Fun) → LowersFun old mid a other
      → LowersFun mid new (b ▸ λ g. kept (k g (fun_at mid other))) fun → LowersFun old new (a ▸ λ h. b ▸ λ g. kept (k g h)) fun
  after_fun a b k other first made = record {
    of_rows = made.of_rows;
    is = made.is ∙ ap (k b.value) first.is;
    gains = Gains-append first.gains made.gains;
  }

-- ---- of three
module _ {old one two new : List Node} (fun : Fun) where
  pub of_numbers_fun : (a b : Built Argument) (d : Built TreeFun) (k : Argument → Argument → TreeFun → TreeFun) (x y : Arg) (part : Fun)
      → LowersNumber old one a x → LowersNumber one two b y → LowersFun two new d part
      → (IsNumber new x × (IsNumber new y × IsFun new part) → FunStandsFor new fun (k (argument_at new x) (argument_at new y) (fun_at new part)))
      → LowersFun old new (a ▸ λ v. b ▸ λ w. d ▸ λ g. kept (k v w g)) fun
  of_numbers_fun a b d k x y part first second third wraps =
      let later = Gains-append second.gains third.gains in
      let stands = wraps (number_row later x first.number, (number_row third.gains y second.number, third.of_rows)) in
      record {
        of_rows = stands.of_rows;
        is = stands.is
            ∙ (ap (λ (v : Argument). k v (argument_at new y) (fun_at new part)) (number_after later x first.number ∙ first.is)
            ∙ ap₂ (k a.value) (number_after third.gains y second.number ∙ second.is) third.is);
        gains = Gains-append first.gains (Gains-append second.gains (kept_rows d.rows third.gains));
      }

-- ---- applied, and joined
module _ {old mid : List Node} (new : List Node) (e : Built Tree) (id : NodeId) (made : Lowers old mid e id) (result : Result NodeId PushFault) where
  -- a function that is there, applied to a row that was made
  pub then_applied : (fun : Fun) → IsFun old fun → LowersTo mid new (applied (fun_at mid fun) (tree_at mid id)) result
      → LowersTo old new (e ▸ λ p. applied (fun_at old fun) p) result
  then_applied fun there last =
      let P : TreeFun → Type 0 = λ g. LowersTo mid new (applied g (tree_at mid id)) result in
      LowersTo-after new e (λ p. applied (fun_at old fun) p) made result (subst P (fun_after made.gains fun there) last)

  -- a row that is there, joined with one that was made
  pub then_joined : (o : Operator) (left : NodeId) → IsRow old left → LowersTo mid new (joined_trees o (tree_at mid left) (tree_at mid id)) result
      → LowersTo old new (e ▸ λ q. joined_trees o (tree_at old left) q) result
  then_joined o left there last =
      let P : Tree → Type 0 = λ p. LowersTo mid new (joined_trees o p (tree_at mid id)) result in
      LowersTo-after new e (λ q. joined_trees o (tree_at old left) q) made result (subst P (made.gains.older left there) last)

-- a function that was made, applied to an expression
pub then_expr : {old mid : List Node} (new : List Node) (f : Built TreeFun) (e : Built Tree) (fun : Fun) (result : Result NodeId PushFault)
    → LowersFun old mid f fun → LowersTo mid new (e ▸ λ p. applied (fun_at mid fun) p) result → LowersTo old new (applied_built f e) result
then_expr {mid = mid} new f e fun result made last =
    let P : TreeFun → Type 0 = λ g. LowersTo mid new (e ▸ λ p. applied g p) result in
    LowersTo-then new f (λ g. e ▸ λ p. applied g p) made.gains result (subst P made.is last)

-- ---- by results
pub LowersToFun-same : (old new : List Node) (built other : Built TreeFun) (result : Result Fun PushFault) → built ≡ other
    → LowersToFun old new built result → LowersToFun old new other result
LowersToFun-same old new built other result e h = let P : Built TreeFun → Type 0 = λ b. LowersToFun old new b result in subst P e h

pub then_chain : {old mid : List Node} (new : List Node) (a b : Built TreeFun) (k : TreeFun → TreeFun → TreeFun) (other : Fun) (result : Result Fun PushFault)
    → LowersFun old mid a other → LowersToFun mid new (b ▸ λ g. kept (k g (fun_at mid other))) result
    → LowersToFun old new (a ▸ λ h. b ▸ λ g. kept (k g h)) result
then_chain {old = old} {mid = mid} new a b k other result first made =
    result_then new (b.rows ++ []) (LowersFun mid new (b ▸ λ g. kept (k g (fun_at mid other)))) (LowersFun old new (a ▸ λ h. b ▸ λ g. kept (k g h)))
    first.gains (λ fun last. after_fun fun a b k other first last) result made
