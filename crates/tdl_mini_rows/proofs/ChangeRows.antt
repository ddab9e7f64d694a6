-- Changes of a step, by their factors and arguments.
use Rattle.std.proofs.Common.{◌≡◌, List, Option, Some, None, Result, sym, ap, ◌∙◌, subst, pos, arith}
use Rattle.tdl_fraction.specs.Rational.{Rational, whole}
use Rattle.tdl_expr.specs.declared.args.Arg.{Arg}
use Rattle.tdl_expr.specs.declared.args.Arg.TheVariants.{Plain}
use Rattle.tdl_expr.specs.declared.ids.NodeId.{NodeId}
use Rattle.tdl_expr.specs.declared.nodes.Node.{Node}
use Rattle.tdl_expr.specs.declared.tables.PushFault.{PushFault}
use Rattle.tdl_expr.specs.Tree.{Tree}
use Rattle.tdl_expr.specs.Rows.{IsRow, tree_at}
use Rattle.tdl_mini_tree.specs.declared.tree.StepChange.{StepChange}
use Rattle.tdl_mini_tree.specs.declared.tree.StepChange.TheVariants.{Fast, Slow, Euclid}
use Rattle.tdl_mini_tree.specs.declared.tree.NestId.{NestId}
use Rattle.tdl_mini_tree.specs.declared.tree.Operand.{Operand}
use Rattle.tdl_mini_tree.specs.Tree.{Layers}
use Rattle.tdl_mini_tree.specs.View.{named, operand_with, braces_of}
use Rattle.tdl_rows.specs.Built.{Built, kept, ◌▸◌}
use Rattle.tdl_rows.specs.Joined.{Argument, plain, choose, fast_of, slow_of, euclid_of}
use Rattle.tdl_mini_rows.specs.Lowered.{factor_built, argument_of}
use Rattle.tdl_rows.specs.Lowers.{Gains, Refused, LowersTo}
use Rattle.tdl_rows.specs.Arguments.{argument_at, LowersArg}
use Rattle.tdl_mini_rows.specs.inside.Changes.{change_built, from_built}
use Rattle.tdl_rows.proofs.Gained.{Gains-none, Gains-append, Refused-append, Refused-first, LowersTo-then}
use Rattle.tdl_rows.proofs.Gained.{LowersTo-same, Refused-same}
use Rattle.tdl_mini_rows.proofs.Parts.{LowersArg-same, chosen_row}
use Rattle.tdl_rows.specs.Stays.{argument_after}

module _ (trees : List Layers) (t : Tree) (change : StepChange) where
  fast_is : (o : Operand) (braces : List NestId) → change ≡ Fast o → braces ≡ o.braces.items
      → (factor_built (operand_with trees (braces_of trees braces) o.last) ▸ λ a. choose a (λ rate. fast_of rate t)) ≡ change_built trees t change
  fast_is o braces e b =
      ap (λ (bs : List NestId). factor_built (operand_with trees (braces_of trees bs) o.last) ▸ λ a. choose a (λ rate. fast_of rate t)) b
      ∙ ap (change_built trees t) (sym e)

  slow_is : (o : Operand) (braces : List NestId) → change ≡ Slow o → braces ≡ o.braces.items
      → (factor_built (operand_with trees (braces_of trees braces) o.last) ▸ λ a. choose a (λ rate. slow_of rate t)) ≡ change_built trees t change
  slow_is o braces e b =
      ap (λ (bs : List NestId). factor_built (operand_with trees (braces_of trees bs) o.last) ▸ λ a. choose a (λ rate. slow_of rate t)) b
      ∙ ap (change_built trees t) (sym e)

  pub fast_refused : (o : Operand) (braces : List NestId) (old mid : List Node) (fault : PushFault) → change ≡ Fast o → braces ≡ o.braces.items
      → Refused old mid (factor_built (operand_with trees (braces_of trees braces) o.last)).rows fault
      → Refused old mid (change_built trees t change).rows fault
  fast_refused o braces old mid fault e b h = Refused-same _ _ _ _ _ (fast_is o braces e b) (Refused-first _ h)

  pub slow_refused : (o : Operand) (braces : List NestId) (old mid : List Node) (fault : PushFault) → change ≡ Slow o → braces ≡ o.braces.items
      → Refused old mid (factor_built (operand_with trees (braces_of trees braces) o.last)).rows fault
      → Refused old mid (change_built trees t change).rows fault
  slow_refused o braces old mid fault e b h = Refused-same _ _ _ _ _ (slow_is o braces e b) (Refused-first _ h)

  pub fast_row : (o : Operand) (braces : List NestId) (old mid new : List Node) (id : NodeId) (factor : Arg) (result : Result NodeId PushFault)
      → t ≡ tree_at old id → IsRow old id → change ≡ Fast o → braces ≡ o.braces.items
      → LowersArg old mid (factor_built (operand_with trees (braces_of trees braces) o.last)) factor
      → LowersTo mid new (choose (argument_at mid factor) (λ rate. fast_of rate (tree_at mid id))) result
      → LowersTo old new (change_built trees t change) result
  fast_row o braces old mid new id factor result is row e b made h =
      let rate_of : Tree → Rational → Built Tree = λ u rate. fast_of rate u in
      LowersTo-same _ _ _ _ result (fast_is o braces e b)
      (chosen_row new _ (λ rate. fast_of rate (tree_at mid id)) (λ rate. fast_of rate t) factor result made (ap rate_of (made.gains.older id row ∙ sym is)) h)

  pub slow_row : (o : Operand) (braces : List NestId) (old mid new : List Node) (id : NodeId) (factor : Arg) (result : Result NodeId PushFault)
      → t ≡ tree_at old id → IsRow old id → change ≡ Slow o → braces ≡ o.braces.items
      → LowersArg old mid (factor_built (operand_with trees (braces_of trees braces) o.last)) factor
      → LowersTo mid new (choose (argument_at mid factor) (λ rate. slow_of rate (tree_at mid id))) result
      → LowersTo old new (change_built trees t change) result
  slow_row o braces old mid new id factor result is row e b made h =
      let rate_of : Tree → Rational → Built Tree = λ u rate. slow_of rate u in
      LowersTo-same _ _ _ _ result (slow_is o braces e b)
      (chosen_row new _ (λ rate. slow_of rate (tree_at mid id)) (λ rate. slow_of rate t) factor result made (ap rate_of (made.gains.older id row ∙ sym is)) h)

module _ (trees : List Layers) (t : Tree) (change : StepChange) (k n : NestId) (from : Option NestId) (e : change ≡ Euclid k n from) where
  euclid_is : change_built trees t (Euclid k n from) ≡ change_built trees t change
  euclid_is = ap (change_built trees t) (sym e)

  pub hits_refused : (old mid : List Node) (fault : PushFault) → Refused old mid (argument_of (named trees k)).rows fault
      → Refused old mid (change_built trees t change).rows fault
  hits_refused old mid fault h = Refused-same _ _ _ _ _ euclid_is (Refused-first _ h)

  pub steps_refused_after : (old one mid : List Node) (fault : PushFault) → Gains old one (argument_of (named trees k)).rows
      → Refused one mid (argument_of (named trees n)).rows fault → Refused old mid (change_built trees t change).rows fault
  steps_refused_after old one mid fault first h = Refused-same _ _ _ _ _ euclid_is (Refused-append first (Refused-first _ h))

  pub from_refused : (old one two mid : List Node) (fault : PushFault) → Gains old one (argument_of (named trees k)).rows
      → Gains one two (argument_of (named trees n)).rows → Refused two mid (from_built trees from).rows fault
      → Refused old mid (change_built trees t change).rows fault
  from_refused old one two mid fault first second h = Refused-same _ _ _ _ _ euclid_is (Refused-append first (Refused-append second (Refused-first _ h)))

  pub euclid_row : (old one two three new : List Node) (id : NodeId) (a b c : Arg) (result : Result NodeId PushFault) → t ≡ tree_at old id → IsRow old id
      → LowersArg old one (argument_of (named trees k)) a → LowersArg one two (argument_of (named trees n)) b
      → LowersArg two three (from_built trees from) c → LowersTo three new
      (choose (argument_at three a) (λ k'. choose (argument_at three b) (λ n'. choose (argument_at three c) (λ r'. euclid_of (tree_at three id) k' n' r'))))
      result → LowersTo old new (change_built trees t change) result
  euclid_row old one two three new id a b c result is row first second third h =
      let at_a = argument_after (Gains-append second.gains third.gains) a first.row ∙ first.is in
      let at_b = argument_after third.gains b second.row ∙ second.is in
      let at_t = (Gains-append first.gains (Gains-append second.gains third.gains)).older id row ∙ sym is in
      let P : Argument → Type 0 =
      λ x. LowersTo three new
      (choose x (λ k'. choose (argument_at three b) (λ n'. choose (argument_at three c) (λ r'. euclid_of (tree_at three id) k' n' r')))) result in
      let Q : Argument → Type 0 =
      λ y. LowersTo three new
      (choose (argument_of (named trees k)).value (λ k'. choose y (λ n'. choose (argument_at three c) (λ r'. euclid_of (tree_at three id) k' n' r'))))
      result in
      let R : Argument → Type 0 =
      λ z. LowersTo three new
      (choose (argument_of (named trees k)).value
      (λ k'. choose (argument_of (named trees n)).value (λ n'. choose z (λ r'. euclid_of (tree_at three id) k' n' r')))) result in
      let S : Tree → Type 0 =
      λ u. LowersTo three new
      (choose (argument_of (named trees k)).value
      (λ k'. choose (argument_of (named trees n)).value (λ n'. choose (from_built trees from).value (λ r'. euclid_of u k' n' r')))) result in
      let here = subst S at_t (subst R third.is (subst Q at_b (subst P at_a h))) in
      LowersTo-same _ _ _ _ result euclid_is
      (LowersTo-then new (argument_of (named trees k))
      (λ x. argument_of (named trees n) ▸ λ y. from_built trees from ▸ λ z. choose x (λ k'. choose y (λ n'. choose z (λ r'. euclid_of t k' n' r'))))
      first.gains result
      (LowersTo-then new (argument_of (named trees n))
      (λ y. from_built trees from ▸ λ z. choose (argument_of (named trees k)).value (λ k'. choose y (λ n'. choose z (λ r'. euclid_of t k' n' r'))))
      second.gains result
      (LowersTo-then new (from_built trees from)
      (λ z. choose (argument_of (named trees k)).value (λ k'. choose (argument_of (named trees n)).value (λ n'. choose z (λ r'. euclid_of t k' n' r'))))
      third.gains result here)))

pub from_none : (nodes : List Node) (trees : List Layers) (from : Option NestId) (zero_is : Rational) → from ≡ None → zero_is ≡ whole (pos 0)
    → LowersArg nodes nodes (from_built trees from) (Plain zero_is)
from_none nodes trees from zero_is e f =
    LowersArg-same nodes nodes (kept (plain (whole (pos 0)))) _ (Plain zero_is) (ap (from_built trees) (sym e))
    (record { row = tt; few = omega arith; is = ap plain f; gains = Gains-none nodes })

pub from_some : (trees : List Layers) (from : Option NestId) (r : NestId) → from ≡ Some r → argument_of (named trees r) ≡ from_built trees from
from_some trees from r e = ap (from_built trees) (sym e)
