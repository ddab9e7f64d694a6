-- The leaves of what is made of trees: where those of each tree pass, so does each leaf that is played.
use Rattle.std.proofs.Common.{ℕ, zero, suc, Bool, true, false, cond, if◌then◌else◌, pos, List, [], ◌∷◌, ◌++◌, map, length, nat_abs}
use Rattle.std.specs.List.{fold, list_all}
use Rattle.tdl_control.specs.declared.leaves.Leaf.{Leaf}
use Rattle.tdl_fraction.specs.Rational.{Rational, whole, lt_ℚ, neg_ℚ, inverse}
use Rattle.tdl_fraction.specs.Same.{same_ℚ}
use Rattle.tdl_euclid.specs.Euclid.{euclid}
use Rattle.tdl_expr.specs.EqualShares.{equal_steps, in_equal_shares}
use Rattle.tdl_expr.specs.Tree.{Tree, Silence, Fast, TimeCat, Cat, Stack, Rev, Trees, empty, child, Steps, none, step}
use Rattle.tdl_expr.specs.Joins.{joined, joined_steps}
use Rattle.tdl_rows.specs.Built.{Built, kept, one_row, ◌▸◌, and_next, each}
use Rattle.tdl_rows.specs.Joined.{Weighted, tree_of, joins, trees_from, steps_from, whole_parts, stack_of, cat_of, fastcat_of, timecat_of}
use Rattle.tdl_rows.specs.Joined.{faster, fast_of, slow_of, Argument, plain, picked, choose, pick_of, rest_of, rhythm_of, euclid_of}
use Rattle.tdl_rows.specs.Arguments.{Plays, TreesPlay, StepsPlay}

-- the tree of each step plays such leaves
abbrev pub EachPlays : (Leaf → Type 0) → List Weighted → Type 0
EachPlays P [] = Unit {0}
EachPlays P (s ∷ ss) = Plays P s.tree × EachPlays P ss

-- each tree does
abbrev pub AllPlay : (Leaf → Type 0) → List Tree → Type 0
AllPlay P [] = Unit {0}
AllPlay P (t ∷ ts) = Plays P t × AllPlay P ts

module _ (P : Leaf → Type 0) where
  -- ---- joined
  pub trees-play : (ss : List Weighted) → EachPlays P ss → AllPlay P (map tree_of ss)
  trees-play [] p = tt
  trees-play (s ∷ ss) p = (p.0, trees-play ss p.1)

  children-play : (ts : List Tree) → AllPlay P ts → TreesPlay P (trees_from ts)
  children-play [] p = tt
  children-play (t ∷ ts) p = (p.0, children-play ts p.1)

  steps-play : (ws : List ℕ) (ts : List Tree) → AllPlay P ts → StepsPlay P (steps_from ws ts)
  steps-play [] ts p = tt
  steps-play (w ∷ ws) [] p = tt
  steps-play (w ∷ ws) (t ∷ ts) p = (p.0, steps-play ws ts p.1)

  joins-plays : (n : ℕ) (t : Tree) → Plays P t → Plays P (joins n t).value
  joins-plays zero t p = p
  joins-plays (suc zero) t p = p
  joins-plays (suc (suc n)) t p = p

  stacks-play : (ts : Trees) → TreesPlay P ts → Plays P (joined Stack ts)
  stacks-play empty p = tt
  stacks-play (child t empty) p = p.0
  stacks-play (child t (child u ts)) p = p

  cats-play : (ts : Trees) → TreesPlay P ts → Plays P (joined Cat ts)
  cats-play empty p = tt
  cats-play (child t empty) p = p.0
  cats-play (child t (child u ts)) p = p

  shares-play : (ss : Steps) → StepsPlay P ss → Plays P (joined_steps TimeCat ss)
  shares-play none p = tt
  shares-play (step w t none) p = p.0
  shares-play (step w t (step v u ss)) p = p

  pub stack-plays : (ts : List Tree) → AllPlay P ts → Plays P (stack_of ts).value
  stack-plays ts p = joins-plays (length ts) _ (stacks-play (trees_from ts) (children-play ts p))

  pub cat-plays : (ts : List Tree) → AllPlay P ts → Plays P (cat_of ts).value
  cat-plays ts p = joins-plays (length ts) _ (cats-play (trees_from ts) (children-play ts p))

  equals-play : (ts : List Tree) → AllPlay P ts → StepsPlay P (equal_steps ts)
  equals-play [] p = tt
  equals-play (t ∷ ts) p = (p.0, equals-play ts p.1)

  equal-plays : (ts : List Tree) → AllPlay P ts → Plays P (in_equal_shares ts)
  equal-plays [] p = tt
  equal-plays (t ∷ []) p = p.0
  equal-plays (t ∷ u ∷ ts) p = equals-play (t ∷ u ∷ ts) p

  pub fastcat-plays : (ts : List Tree) → AllPlay P ts → Plays P (fastcat_of ts).value
  fastcat-plays ts p = joins-plays (length ts) _ (equal-plays ts p)

  pub timecat-plays : (ss : List Weighted) → EachPlays P ss → Plays P (timecat_of ss).value
  timecat-plays ss p =
      joins-plays (length ss) _
      (shares-play (steps_from (whole_parts ss) (map tree_of ss)) (steps-play (whole_parts ss) (map tree_of ss) (trees-play ss p)))

  -- ---- at a rate
  faster-plays : (rate : Rational) (t : Tree) → Plays P t → Plays P (faster rate t).value
  faster-plays rate t p = by (same_ℚ rate (whole (pos 1)))
    where
      by : (b : Bool) → Plays P (if b then kept t else one_row 1 (Fast rate t)).value
      by true = p
      by false = p

  pub fast-plays : (rate : Rational) (t : Tree) → Plays P t → Plays P (fast_of rate t).value
  fast-plays rate t p = by (lt_ℚ (whole (pos 0)) rate) (lt_ℚ (whole (pos 0)) (neg_ℚ rate)) (faster-plays rate t p) (faster-plays (neg_ℚ rate) t p)
    where
      by : (b c : Bool) → Plays P (faster rate t).value → Plays P (faster (neg_ℚ rate) t).value →
          Plays P (if b then faster rate t else (if c then faster (neg_ℚ rate) t ▸ (λ f. one_row 1 (Rev f)) else one_row 0 Silence)).value
      by true c q r = q
      by false true q r = r
      by false false q r = tt

  pub slow-plays : (rate : Rational) (t : Tree) → Plays P t → Plays P (slow_of rate t).value
  slow-plays rate t p = by (same_ℚ rate (whole (pos 0))) (fast-plays (inverse rate) t p)
    where
      by : (b : Bool) → Plays P (fast_of (inverse rate) t).value → Plays P (if b then one_row 0 Silence else fast_of (inverse rate) t).value
      by true q = tt
      by false q = q

  -- ---- chosen
  pub all-append : (a b : List Tree) → AllPlay P a → AllPlay P b → AllPlay P (a ++ b)
  all-append [] b p q = q
  all-append (t ∷ a) b p q = (p.0, all-append a b p.1 q)

  each-from : {X : Type 0} (f : X → Built Tree) (xs : List X) (b : Built (List Tree)) → ((x : X) → Plays P (f x).value) → AllPlay P b.value
      → AllPlay P (fold (and_next f) b xs).value
  each-from f [] b h p = p
  each-from f (x ∷ xs) b h p = each-from f xs (and_next f b x) h (all-append b.value _ p (h x, tt))

  pub each-plays : {X : Type 0} (f : X → Built Tree) (xs : List X) → ((x : X) → Plays P (f x).value) → AllPlay P (each f xs).value
  each-plays f xs h = each-from f xs (kept []) h tt

  pub pick-plays : (selector : Tree) (ts : List Tree) → AllPlay P ts → Plays P (pick_of selector ts).value
  pick-plays selector [] p = tt
  pick-plays selector (t ∷ ts) p = (p.0, children-play ts p.1)

  pub choose-plays : (argument : Argument) (f : Rational → Built Tree) → ((r : Rational) → Plays P (f r).value) → Plays P (choose argument f).value
  choose-plays (plain value) f h = h value
  choose-plays (picked selector values) f h = pick-plays selector (each f values).value (each-plays f values h)

  -- ---- at hits
  hits-play : (hits : List Bool) (t rest : Tree) → Plays P t → Plays P rest → AllPlay P (map (λ hit. cond hit t rest) hits)
  hits-play [] t rest p q = tt
  hits-play (true ∷ hits) t rest p q = (p, hits-play hits t rest p q)
  hits-play (false ∷ hits) t rest p q = (q, hits-play hits t rest p q)

  rest-plays : (t : Tree) (hits : List Bool) → Plays P t → Plays P (rest_of t hits).value
  rest-plays t hits p = by (list_all (λ hit. hit) hits)
    where
      by : (b : Bool) → Plays P (if b then kept t else one_row 0 Silence).value
      by true = p
      by false = tt

  rhythm-plays : (t : Tree) (hits : List Bool) → Plays P t → Plays P (rhythm_of t hits).value
  rhythm-plays t hits p = fastcat-plays _ (hits-play hits t (rest_of t hits).value p (rest-plays t hits p))

  pub euclid-plays : (t : Tree) (k n r : Rational) → Plays P t → Plays P (euclid_of t k n r).value
  euclid-plays t k n r p = rhythm-plays t (euclid k.num (nat_abs n.num) r.num) p
