-- The leaves of what is built: where the leaf of each step passes, so does each leaf that the tree may play.
use Rattle.std.proofs.Common.{ℕ, zero, suc, Bool, true, false, ◌==◌, if◌then◌else◌, pos, List, [], ◌∷◌, ◌++◌, map, replicate}
use Rattle.std.specs.List.{fold}
use Rattle.tdl_control.specs.declared.leaves.Leaf.{Leaf}
use Rattle.tdl_fraction.specs.Rational.{Rational, whole}
use Rattle.tdl_expr.specs.Tree.{Tree}
use Rattle.tdl_mini_tree.specs.declared.leaves.Bracket.{Bracket}
use Rattle.tdl_mini_tree.specs.declared.leaves.Bracket.TheVariants.{Square, Angle, Brace}
use Rattle.tdl_mini_tree.specs.Tree as tree
use Rattle.tdl_rows.specs.Built.{Built, kept, and_next, each}
use Rattle.tdl_rows.specs.Joined.{Weighted, tree_of, stack_of, cat_of, timecat_of, weight_of_parts, fast_of, Argument, choose, euclid_of}
use Rattle.tdl_rows.proofs.MadeLeaves.{EachPlays, AllPlay, trees-play, stack-plays, cat-plays, timecat-plays, fast-plays, all-append}
use Rattle.tdl_rows.proofs.MadeLeaves.{choose-plays, euclid-plays}
use Rattle.tdl_mini_rows.specs.Lowered.{Finish, laid, in_turn, at_pace, a_cycle_each, finish_of, first_parts, is_even, over_parts, paced, paced_stack}
use Rattle.tdl_mini_rows.specs.Lowered.{longer_last, and_last}
use Rattle.tdl_rows.specs.Arguments.{Plays}

module _ (P : Leaf → Type 0) where
  -- ---- steps
  pub plays-append : (a b : List Weighted) → EachPlays P a → EachPlays P b → EachPlays P (a ++ b)
  plays-append [] b p q = q
  plays-append (s ∷ a) b p q = (p.0, plays-append a b p.1 q)

  pub plays-copies : (n : ℕ) (s : Weighted) → Plays P s.tree → EachPlays P (replicate n s)
  plays-copies zero s p = tt
  plays-copies (suc n) s p = (p, plays-copies n s p)

  pub plays-longer : (ss : List Weighted) → EachPlays P ss → EachPlays P (longer_last ss)
  plays-longer [] p = p
  plays-longer (s ∷ []) p = p
  plays-longer (s ∷ t ∷ ss) p = (p.0, plays-longer (t ∷ ss) p.1)

  pub plays-again : (ss : List Weighted) → EachPlays P ss → EachPlays P (and_last ss)
  plays-again [] p = p
  plays-again (s ∷ []) p = (p.0, p)
  plays-again (s ∷ t ∷ ss) p = (p.0, plays-again (t ∷ ss) p.1)

  pub stacked-plays : (ss : List Weighted) → EachPlays P ss → Plays P (stack_of (map tree_of ss)).value
  stacked-plays ss p = stack-plays P (map tree_of ss) (trees-play P ss p)

  paced-plays : (rate : Rational) (s : Weighted) → Plays P s.tree → Plays P (paced rate s).value
  paced-plays rate s p = by (s.parts == 0) (fast-plays P _ s.tree p)
    where
      by : (b : Bool) → Plays P (fast_of (over_parts rate s.parts) s.tree).value
          → Plays P (if b then kept s.tree else fast_of (over_parts rate s.parts) s.tree).value
      by true q = p
      by false q = q

  paced-from : (rate : Rational) (ss : List Weighted) (b : Built (List Tree)) → EachPlays P ss → AllPlay P b.value
      → AllPlay P (fold (and_next (paced rate)) b ss).value
  paced-from rate [] b h p = p
  paced-from rate (s ∷ ss) b h p = paced-from rate ss (and_next (paced rate) b s) h.1 (all-append P b.value _ p (paced-plays rate s h.0, tt))

  pub paced_stack-plays : (ss : List Weighted) (rate : Rational) → EachPlays P ss → Plays P (paced_stack ss rate).value
  paced_stack-plays ss rate p = stack-plays P (each (paced rate) ss).value (paced-from rate ss (kept []) p tt)

  -- ---- rhythms
  pub rhythms-play : (hits steps : Argument) (t : Tree) (r : Rational) → Plays P t → Plays P (choose hits (λ k. choose steps (λ n. euclid_of t k n r))).value
  rhythms-play hits steps t r p =
      choose-plays P hits (λ k. choose steps (λ n. euclid_of t k n r)) (λ k. choose-plays P steps (λ n. euclid_of t k n r) (λ n. euclid-plays P t k n r p))

  pub rhythms-play-from : (hits steps from : Argument) (t : Tree) → Plays P t
      → Plays P (choose hits (λ k. choose steps (λ n. choose from (λ r. euclid_of t k n r)))).value
  rhythms-play-from hits steps from t p =
      choose-plays P hits (λ k. choose steps (λ n. choose from (λ r. euclid_of t k n r)))
      (λ k. choose-plays P steps (λ n. choose from (λ r. euclid_of t k n r))
      (λ n. choose-plays P from (λ r. euclid_of t k n r) (λ r. euclid-plays P t k n r p)))

  -- ---- how the steps of a sequence are joined
  abbrev pub Joining : Finish → Type 0
  Joining finish = (parts : ℕ) (ss : List Weighted) → EachPlays P ss → Plays P (finish parts ss).value

  pub joining-in_turn : Joining in_turn
  joining-in_turn parts ss p = timecat-plays P ss p

  pub joining-at_pace : (rate : Rational) → Joining (at_pace rate)
  joining-at_pace rate parts ss p = paced-plays rate (laid parts (timecat_of ss).value) (timecat-plays P ss p)

  pub joining-a_cycle_each : Joining a_cycle_each
  joining-a_cycle_each parts ss p = by (is_even ss) (cat-plays P (map tree_of ss) (trees-play P ss p)) (joining-at_pace (whole (pos 1)) parts ss p)
    where
      by : (b : Bool) → Plays P (cat_of (map tree_of ss)).value → Plays P (at_pace (whole (pos 1)) parts ss).value →
          Plays P (if b then cat_of (map tree_of ss) else at_pace (whole (pos 1)) parts ss).value
      by true q r = q
      by false q r = r

  pub joining-finish : (shape : Bracket) (ls : tree.Layers) → Joining (finish_of shape ls)
  joining-finish Square ls = joining-in_turn
  joining-finish Angle ls = joining-a_cycle_each
  joining-finish Brace ls = joining-at_pace (weight_of_parts (first_parts ls))
