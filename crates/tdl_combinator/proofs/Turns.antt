-- Rows that come later by one more share of a cycle each, and the rows of a pattern that is squeezed.
use Rattle.std.proofs.Common.{◌≡◌, ℕ, ◌+◌, ◌<◌, ◌≤◌, ◌^◌, ℤ, pos, neg_ℤ, nat_abs, List, [], ◌∷◌, ◌++◌, length, take, get_or, sym, ap, ◌∙◌, subst, arith}
use Rattle.std.specs.List.{All, range_with_len}
use Rattle.std.proofs.lemmas.List.Elements.{All-cons}
use Rattle.std.proofs.lemmas.List.FromFn.{length-range_with_len, get_or-range_with_len}
use Rattle.tdl_fraction.specs.Rational.{Rational, frac}
use Rattle.tdl_fraction.specs.Range.{InRange}
use Rattle.tdl_fraction.proofs.Ranges.{InRange-frac}
use Rattle.tdl_expr.specs.declared.ids.NodeId.{NodeId}
use Rattle.tdl_expr.specs.declared.nodes.Node.{Node}
use Rattle.tdl_expr.specs.declared.tables.PushFault.{PushFault}
use Rattle.tdl_expr.specs.declared.rounds.Test.TheVariants.{Equal}
use Rattle.tdl_expr.specs.Tree.{Tree, Silence, TimeCat, When, Shift, none, step}
use Rattle.tdl_expr.specs.Rows.{IsRow}
use Rattle.tdl_rows.specs.Built.{Built, kept, one_row, ◌▸◌, each}
use Rattle.tdl_rows.specs.Lowers.{Refused, Lowers}
use Rattle.tdl_rows.specs.inside.Views.{LowersIds}
use Rattle.tdl_rows.proofs.Loops.{LowersIds-more, run_refused}
use Rattle.tdl_rows.proofs.Gained.{Refused-append, Refused-first}
use Rattle.tdl_combinator.specs.Makings.{Making, later_of, turned_on, turns_of, brak_of}

pub rows_two : (nodes : List Node) (one other : NodeId) → IsRow nodes one → IsRow nodes other → All (IsRow nodes) (one ∷ other ∷ [])
rows_two nodes one other p q =
    All-cons (IsRow nodes) one (other ∷ []) p (All-cons (IsRow nodes) other [] q (λ k d h. absurd (omega arith)))

-- squeezed into half of a cycle, and later by some time
abbrev pub braked : Rational → Making
braked by p = one_row 0 Silence ▸ λ s. one_row 2 (TimeCat (step 1 p (step 1 s none))) ▸ λ t. one_row 1 (Shift by t) ▸ λ u. one_row 2 (When 2 (Equal 1) u p)

pub braked_is : (by : Rational) (p : Tree) → by ≡ frac (pos 1) 4 → braked by p ≡ brak_of p
braked_is by p e = ap (λ (t : Rational). braked t p) e

-- a share of a cycle is in range
pub turn_fits : (num : ℤ) (shares i : ℕ) → nat_abs num ≡ i → i < shares → shares ≤ 2 ^ 30 → InRange (frac num shares)
turn_fits num shares i e h few = InRange-frac num shares (omega (arith, e, h)) (omega (arith, few)) (omega (arith, e, h))

module _ {old mid : List Node} (shares : ℕ) (p : Tree) (i : ℕ) (h : i < shares) (ids : List NodeId)
    (before : LowersIds old mid (each (turned_on shares p) (take i (range_with_len 0 shares))) ids) where
  within : i < length (range_with_len 0 shares)
  within = omega (arith, length-range_with_len 0 shares)

  here : get_or (range_with_len 0 shares) i i ≡ i
  here = get_or-range_with_len 0 shares i i h ∙ omega arith

  -- one more turn, and its row
  pub turns_more : (new : List Node) (id : NodeId) (more : List NodeId) (by : Rational) → by ≡ frac (neg_ℤ (pos i)) shares → more ≡ ids ++ id ∷ []
      → Lowers mid new (later_of by p) id → LowersIds old new (each (turned_on shares p) (take (i + 1) (range_with_len 0 shares))) more
  turns_more new id more by is e made =
      let P : ℕ → Type 0 = λ k. Lowers mid new (turned_on shares p k) id in
      let Q : Rational → Type 0 = λ t. Lowers mid new (later_of t p) id in
      LowersIds-more (turned_on shares p) (range_with_len 0 shares) i i more within e before (subst P (sym here) (subst Q is made))

  pub turns_refused : (new : List Node) (fault : PushFault) (by : Rational) → by ≡ frac (neg_ℤ (pos i)) shares
      → Refused mid new (later_of by p).rows fault → Refused old new (turns_of shares p).rows fault
  turns_refused new fault by is refused =
      let P : ℕ → Type 0 = λ k. Refused mid new (turned_on shares p k).rows fault in
      let Q : Rational → Type 0 = λ t. Refused mid new (later_of t p).rows fault in
      let G : List Tree → ℕ → Built (List Tree) = λ ys k. turned_on shares p k ▸ λ y. kept (ys ++ y ∷ []) in
      run_refused G (kept []) (range_with_len 0 shares) i i within old new fault
      (Refused-append before.gains (Refused-first [] (subst P (sym here) (subst Q is refused))))
