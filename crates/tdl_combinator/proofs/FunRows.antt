-- Functions on patterns over a table that has grown.
use Rattle.std.proofs.Common.{◌≡◌, ℕ, pos, List, [], length, get_or, ◌<◌, refl, ap, ap₂, ◌∙◌, subst, sym, arith}
use Rattle.std.specs.List.{All}
use Rattle.std.proofs.lemmas.List.Elements.{All-cons}
use Rattle.tdl_fraction.specs.Rational.{Rational, whole}
use Rattle.tdl_expr.specs.declared.args.Arg.{Arg}
use Rattle.tdl_expr.specs.declared.ids.NodeId.{NodeId}
use Rattle.tdl_expr.specs.declared.nodes.Node.{Node}
use Rattle.tdl_expr.specs.Tree.{Tree}
use Rattle.tdl_expr.specs.Rows.{IsRow, tree_at}
use Rattle.tdl_expr.specs.declared.args.Arg.TheVariants.{Plain, Chosen}
use Rattle.tdl_rows.specs.Arguments.{argument_at, numbers_of, HasBoundedParts}
use Rattle.tdl_rows.specs.Joined.{Argument, choose}
use Rattle.tdl_rows.specs.Lowers.{Gains}
use Rattle.tdl_rows.specs.Stays.{row_after, argument_row, argument_after}
use Rattle.tdl_rows.proofs.RateRows.{whole_bounded}
use Rattle.tdl_combinator.specs.declared.applying.How.{How}
use Rattle.tdl_combinator.specs.declared.funs.Fun.{Fun}
use Rattle.tdl_combinator.specs.declared.funs.Fun.TheVariants.{Same, Fast, Slow, Rev, Every', EveryAt', WhenMod', Off', Superimpose', Jux', Later, Earlier}
use Rattle.tdl_combinator.specs.declared.funs.Fun.TheVariants.{Ply, Segment, Struct, Mask, Within', Iter, Palindrome, Brak, Euclid, Const, Section, Chain'}
use Rattle.tdl_combinator.specs.TreeFun as tree
use Rattle.tdl_combinator.specs.TreeFun.{TreeFun}
use Rattle.tdl_combinator.specs.Applied.{applied}
use Rattle.tdl_combinator.specs.Funs.{fun_at, IsNumber, AreHits, IsFun}
use Rattle.tdl_combinator.specs.inside.Numbered.{numbered, with_second, with_first}

module _ {old mid : List Node} {links : List ℕ} (gains : Gains old mid links) where
  pub number_row : (a : Arg) → IsNumber old a → IsNumber mid a
  number_row a h = record { is = argument_row gains a h.is; bounded = h.bounded }

  pub number_after : (a : Arg) → IsNumber old a → argument_at mid a ≡ argument_at old a
  number_after a h = argument_after gains a h.is

  hits_row : (k n r : Arg) → AreHits old k n r → AreHits mid k n r
  hits_row k n r h = record {
    hits = argument_row gains k h.hits;
    steps = argument_row gains n h.steps;
    from = argument_row gains r h.from;
    each = h.each;
  }

  -- a function speaks of rows still
  pub fun_row : (fun : Fun) → IsFun old fun → IsFun mid fun
  fun_row Same h = h
  fun_row (Fast rate) h = number_row rate h
  fun_row (Slow rate) h = number_row rate h
  fun_row Rev h = h
  fun_row (Every' n at f) h = (number_row n h.0, fun_row f h.1)
  fun_row (EveryAt' n place at f) h = (number_row n h.0, (number_row place h.1.0, fun_row f h.1.1))
  fun_row (WhenMod' n from at f) h = (number_row n h.0, (number_row from h.1.0, fun_row f h.1.1))
  fun_row (Off' by at f) h = (number_row by h.0, fun_row f h.1)
  fun_row (Superimpose' at f) h = fun_row f h
  fun_row (Jux' at f) h = fun_row f h
  fun_row (Later by) h = number_row by h
  fun_row (Earlier by) h = number_row by h
  fun_row (Ply n) h = number_row n h
  fun_row (Segment n) h = number_row n h
  fun_row (Struct bools) h = row_after gains bools h
  fun_row (Mask bools) h = row_after gains bools h
  fun_row (Within' from to at f) h = fun_row f h
  fun_row (Iter n) h = number_row n h
  fun_row Palindrome h = h
  fun_row Brak h = h
  fun_row (Euclid k n r) h = hits_row k n r h
  fun_row (Const other) h = row_after gains other h
  fun_row (Section side op right) h = row_after gains right h
  fun_row (Chain' at first next_at next) h = (fun_row first h.0, fun_row next h.1)

  -- and is the same
  pub fun_after : (fun : Fun) → IsFun old fun → fun_at mid fun ≡ fun_at old fun
  fun_after Same h = refl
  fun_after (Fast rate) h = ap tree.Fast (number_after rate h)
  fun_after (Slow rate) h = ap tree.Slow (number_after rate h)
  fun_after Rev h = refl
  fun_after (Every' n at f) h = ap₂ tree.Every (number_after n h.0) (fun_after f h.1)
  fun_after (EveryAt' n place at f) h =
      ap (λ (a : Argument). tree.EveryAt a (argument_at mid place) (fun_at mid f)) (number_after n h.0)
      ∙ ap₂ (tree.EveryAt (argument_at old n)) (number_after place h.1.0) (fun_after f h.1.1)
  fun_after (WhenMod' n from at f) h =
      ap (λ (a : Argument). tree.WhenMod a (argument_at mid from) (fun_at mid f)) (number_after n h.0)
      ∙ ap₂ (tree.WhenMod (argument_at old n)) (number_after from h.1.0) (fun_after f h.1.1)
  fun_after (Off' by at f) h = ap₂ tree.Off (number_after by h.0) (fun_after f h.1)
  fun_after (Superimpose' at f) h = ap tree.Superimpose (fun_after f h)
  fun_after (Jux' at f) h = ap tree.Jux (fun_after f h)
  fun_after (Later by) h = ap tree.Later (number_after by h)
  fun_after (Earlier by) h = ap tree.Earlier (number_after by h)
  fun_after (Ply n) h = ap tree.Ply (number_after n h)
  fun_after (Segment n) h = ap tree.Segment (number_after n h)
  fun_after (Struct bools) h = ap tree.Struct (gains.older bools h)
  fun_after (Mask bools) h = ap tree.Mask (gains.older bools h)
  fun_after (Within' from to at f) h = ap (tree.Within from to) (fun_after f h)
  fun_after (Iter n) h = ap tree.Iter (number_after n h)
  fun_after Palindrome h = refl
  fun_after Brak h = refl
  fun_after (Euclid k n r) h =
      ap (λ (a : Argument). tree.Euclid a (argument_at mid n) (argument_at mid r)) (argument_after gains k h.hits)
      ∙ ap₂ (tree.Euclid (argument_at old k)) (argument_after gains n h.steps) (argument_after gains r h.from)
  fun_after (Const other) h = ap tree.Const (gains.older other h)
  fun_after (Section side op right) h = ap (tree.Section side op) (gains.older right h)
  fun_after (Chain' at first next_at next) h = ap₂ tree.Chain (fun_after first h.0) (fun_after next h.1)

  -- what is made with two numbers is the same
  pub second_after : (how : How) (part : Fun) (id : NodeId) (a b : Rational) → IsFun old part → IsRow old id
      → with_second mid how part id a b ≡ with_second old how part id a b
  second_after how part id a b is row =
      ap (λ (f : TreeFun). numbered how a b (applied f) (tree_at mid id)) (fun_after part is)
      ∙ ap (numbered how a b (applied (fun_at old part))) (gains.older id row)

  -- and with the first alone
  pub first_after : (how : How) (part : Fun) (id : NodeId) (second : Arg) (a : Rational) → IsFun old part → IsRow old id → IsNumber old second
      → with_first mid how part id second a ≡ with_first old how part id second a
  first_after how part id second a is row number =
      ap (λ (f : TreeFun). choose (argument_at mid second) (λ b. numbered how a b (applied f) (tree_at mid id))) (fun_after part is)
      ∙ (ap (λ (t : Tree). choose (argument_at mid second) (λ b. numbered how a b (applied (fun_at old part)) t)) (gains.older id row)
      ∙ ap (λ (x : Argument). choose x (with_second old how part id a)) (number_after second number))

-- a function by its variant
pub fun_is : (nodes : List Node) (fun other : Fun) (t : Tree) → fun ≡ other → applied (fun_at nodes other) t ≡ applied (fun_at nodes fun) t
fun_is nodes fun other t e = ap (λ (f : Fun). applied (fun_at nodes f) t) (sym e)

pub IsFun-of : (nodes : List Node) (fun other : Fun) → fun ≡ other → IsFun nodes fun → IsFun nodes other
IsFun-of nodes fun other e h = subst (IsFun nodes) e h

-- the function in another, as it was lent
pub part_of : (nodes : List Node) (part other : Fun) → part ≡ other → IsFun nodes other → IsFun nodes part
part_of nodes part other e h = subst (IsFun nodes) (sym e) h

-- a number that is not needed
pub unused_number : (nodes : List Node) (number : Rational) → number ≡ whole (pos 0) → IsNumber nodes (Plain number)
unused_number nodes number e = record {
  is = tt;
  bounded = All-cons HasBoundedParts number [] (subst HasBoundedParts (sym e) (whole_bounded (pos 0) (omega arith))) (λ k d h. absurd (omega arith));
}

-- each number that is chosen
pub chosen_bounded : (nodes : List Node) (argument : Arg) (selector : NodeId) (values : List Rational) (i : ℕ) (x : Rational)
    → argument ≡ Chosen selector values → IsNumber nodes argument → i < length values → get_or values i x ≡ x → HasBoundedParts x
chosen_bounded nodes argument selector values i x e h lt is =
    let P : Arg → Type 0 = λ a. All HasBoundedParts (numbers_of a) in
    subst HasBoundedParts is (subst P e h.bounded i x lt)
