-- What is made of valid trees is valid: no rate, weight or round of 0 comes in.
--     AllValid, AreSteps     trees; steps, each with a weight above 0
--     stack-valid, ..        what joins trees, plays one at a rate or at hits, or chooses, as tdl_rows.specs.Joined has them
use Rattle.std.proofs.Common.{◌≡◌, ℕ, zero, suc, ◌+◌, ◌<◌, Bool, true, false, cond, if◌then◌else◌, pos, List, [], ◌∷◌, ◌++◌, map, length, nat_abs, refl, ap}
use Rattle.std.proofs.Common.{◌∙◌, subst, sym, arith}
use Rattle.std.specs.List.{All, fold, list_all}
use Rattle.std.proofs.lemmas.List.Elements.{All-head, All-tail, All-cons}
use Rattle.tdl_fraction.specs.Rational.{Rational, whole, lt_ℚ, ◌<ℚ◌, neg_ℚ, inverse}
use Rattle.tdl_fraction.specs.Same.{same_ℚ}
use Rattle.tdl_fraction.proofs.Over.{lt_ℚ-true}
use Rattle.tdl_euclid.specs.Euclid.{euclid}
use Rattle.tdl_expr.specs.EqualShares.{equal_steps, in_equal_shares}
use Rattle.tdl_expr.specs.Tree.{Tree, Silence, Fast, TimeCat, Cat, Stack, Rev, Trees, empty, child, Steps, none, step}
use Rattle.tdl_expr.specs.Joins.{joined, joined_steps}
use Rattle.tdl_expr.specs.Valid.{IsValid, AreValid, AreValidSteps}
use Rattle.tdl_expr.specs.Weights.{whole_weights, ten_thousandths, lowest}
use Rattle.tdl_expr.proofs.Decimals.{whole_weights-ten_thousandths}
use Rattle.tdl_expr.proofs.WeightLemmas.{lowest_positive}
use Rattle.tdl_rows.specs.Built.{Built, kept, one_row, ◌▸◌, and_next, each}
use Rattle.tdl_rows.specs.Joined.{Weighted, tree_of, joins, trees_from, steps_from, whole_parts, weight_of_parts, stack_of, cat_of, fastcat_of, timecat_of}
use Rattle.tdl_rows.specs.Joined.{faster, fast_of, slow_of, Argument, plain, picked, choose, pick_of, rest_of, rhythm_of, euclid_of}

abbrev pub AllValid : List Tree → Type 0
AllValid [] = Unit {0}
AllValid (t ∷ ts) = IsValid t × AllValid ts

abbrev pub AreSteps : List Weighted → Type 0
AreSteps [] = Unit {0}
AreSteps (s ∷ ss) = (0 < s.parts) × IsValid s.tree × AreSteps ss

-- what an argument chooses by
abbrev pub HasValid : Argument → Type 0
HasValid (plain value) = Unit {0}
HasValid (picked selector values) = IsValid selector

-- ---- joined
pub step-trees : (ss : List Weighted) → AreSteps ss → AllValid (map tree_of ss)
step-trees [] p = tt
step-trees (s ∷ ss) p = (p.1, step-trees ss p.2)

children-valid : (ts : List Tree) → AllValid ts → AreValid (trees_from ts)
children-valid [] p = tt
children-valid (t ∷ ts) p = (p.0, children-valid ts p.1)

joins-valid : (n : ℕ) (t : Tree) → IsValid t → IsValid (joins n t).value
joins-valid zero t p = p
joins-valid (suc zero) t p = p
joins-valid (suc (suc n)) t p = p

stacks-valid : (ts : Trees) → AreValid ts → IsValid (joined Stack ts)
stacks-valid empty p = tt
stacks-valid (child t empty) p = p.0
stacks-valid (child t (child u ts)) p = p

cats-valid : (ts : Trees) → AreValid ts → IsValid (joined Cat ts)
cats-valid empty p = tt
cats-valid (child t empty) p = p.0
cats-valid (child t (child u ts)) p = p

above : (w v : ℕ) → 0 < w → 0 < w + v
above w v h = omega arith

shares-valid : (ss : Steps) → AreValidSteps ss → IsValid (joined_steps TimeCat ss)
shares-valid none p = tt
shares-valid (step w t none) p = p.1
shares-valid (step w t (step v u ss)) p = (above w _ p.0, p)

pub stack-valid : (ts : List Tree) → AllValid ts → IsValid (stack_of ts).value
stack-valid ts p = joins-valid (length ts) _ (stacks-valid (trees_from ts) (children-valid ts p))

pub cat-valid : (ts : List Tree) → AllValid ts → IsValid (cat_of ts).value
cat-valid ts p = joins-valid (length ts) _ (cats-valid (trees_from ts) (children-valid ts p))

equals-valid : (ts : List Tree) → AllValid ts → AreValidSteps (equal_steps ts)
equals-valid [] p = tt
equals-valid (t ∷ ts) p = (omega arith, p.0, equals-valid ts p.1)

equal-valid : (ts : List Tree) → AllValid ts → IsValid (in_equal_shares ts)
equal-valid [] p = tt
equal-valid (t ∷ []) p = p.0
equal-valid (t ∷ u ∷ ts) p = (above 1 _ (omega arith), equals-valid (t ∷ u ∷ ts) p)

pub fastcat-valid : (ts : List Tree) → AllValid ts → IsValid (fastcat_of ts).value
fastcat-valid ts p = joins-valid (length ts) _ (equal-valid ts p)

-- ---- with weights
abbrev counts_in : List Weighted → List ℕ
counts_in ss = map (λ (s : Weighted). s.parts) ss

none-positive : All (λ n. 0 < n) []
none-positive = λ k d h. absurd (omega arith)

counts-positive : (ss : List Weighted) → AreSteps ss → All (λ n. 0 < n) (counts_in ss)
counts-positive [] p = none-positive
counts-positive (s ∷ ss) p = All-cons (λ n. 0 < n) s.parts (counts_in ss) p.0 (counts-positive ss p.2)

same_weights : (ss : List Weighted) → map (λ (s : Weighted). weight_of_parts s.parts) ss ≡ ten_thousandths (counts_in ss)
same_weights [] = refl
same_weights (s ∷ ss) = ap (λ ws. weight_of_parts s.parts ∷ ws) (same_weights ss)

wholes-positive : (ss : List Weighted) → AreSteps ss → All (λ n. 0 < n) (whole_parts ss)
wholes-positive ss p =
    let counts = counts-positive ss p in
    let same : whole_parts ss ≡ lowest (counts_in ss) = ap whole_weights (same_weights ss) ∙ whole_weights-ten_thousandths (counts_in ss) counts in
    subst (All (λ n. 0 < n)) (sym same) (lowest_positive (counts_in ss) counts)

steps-valid : (ws : List ℕ) (ts : List Tree) → All (λ n. 0 < n) ws → AllValid ts → AreValidSteps (steps_from ws ts)
steps-valid [] ts h p = tt
steps-valid (w ∷ ws) [] h p = tt
steps-valid (w ∷ ws) (t ∷ ts) h p = (All-head (λ n. 0 < n) w ws h, p.0, steps-valid ws ts (All-tail (λ n. 0 < n) w ws h) p.1)

pub timecat-valid : (ss : List Weighted) → AreSteps ss → IsValid (timecat_of ss).value
timecat-valid ss p =
    joins-valid (length ss) _
    (shares-valid (steps_from (whole_parts ss) (map tree_of ss)) (steps-valid (whole_parts ss) (map tree_of ss) (wholes-positive ss p) (step-trees ss p)))

-- ---- at a rate
faster-valid : (rate : Rational) (t : Tree) → whole (pos 0) <ℚ rate → IsValid t → IsValid (faster rate t).value
faster-valid rate t h p = by (same_ℚ rate (whole (pos 1)))
  where
    by : (b : Bool) → IsValid (if b then kept t else one_row 1 (Fast rate t)).value
    by true = p
    by false = (h, p)

pub fast-valid : (rate : Rational) (t : Tree) → IsValid t → IsValid (fast_of rate t).value
fast-valid rate t p = by (lt_ℚ (whole (pos 0)) rate) (lt_ℚ (whole (pos 0)) (neg_ℚ rate)) refl refl
  where
    by : (b c : Bool) → lt_ℚ (whole (pos 0)) rate ≡ b → lt_ℚ (whole (pos 0)) (neg_ℚ rate) ≡ c →
        IsValid (if b then faster rate t else (if c then faster (neg_ℚ rate) t ▸ (λ f. one_row 1 (Rev f)) else one_row 0 Silence)).value
    by true c e f = faster-valid rate t ((lt_ℚ-true (whole (pos 0)) rate).0 e) p
    by false true e f = faster-valid (neg_ℚ rate) t ((lt_ℚ-true (whole (pos 0)) (neg_ℚ rate)).0 f) p
    by false false e f = tt

pub slow-valid : (rate : Rational) (t : Tree) → IsValid t → IsValid (slow_of rate t).value
slow-valid rate t p = by (same_ℚ rate (whole (pos 0))) (fast-valid (inverse rate) t p)
  where
    by : (b : Bool) → IsValid (fast_of (inverse rate) t).value → IsValid (if b then one_row 0 Silence else fast_of (inverse rate) t).value
    by true q = tt
    by false q = q

-- ---- chosen
pub valid-append : (a b : List Tree) → AllValid a → AllValid b → AllValid (a ++ b)
valid-append [] b p q = q
valid-append (t ∷ a) b p q = (p.0, valid-append a b p.1 q)

each-from : {X : Type 0} (f : X → Built Tree) (xs : List X) (b : Built (List Tree)) → ((x : X) → IsValid (f x).value) → AllValid b.value
    → AllValid (fold (and_next f) b xs).value
each-from f [] b h p = p
each-from f (x ∷ xs) b h p = each-from f xs (and_next f b x) h (valid-append b.value _ p (h x, tt))

pub each-valid : {X : Type 0} (f : X → Built Tree) (xs : List X) → ((x : X) → IsValid (f x).value) → AllValid (each f xs).value
each-valid f xs h = each-from f xs (kept []) h tt

pick-valid : (selector : Tree) (ts : List Tree) → IsValid selector → AllValid ts → IsValid (pick_of selector ts).value
pick-valid selector [] s p = tt
pick-valid selector (t ∷ ts) s p = (s, (p.0, children-valid ts p.1))

pub choose-valid : (argument : Argument) (f : Rational → Built Tree) → HasValid argument → ((r : Rational) → IsValid (f r).value)
    → IsValid (choose argument f).value
choose-valid (plain value) f s h = h value
choose-valid (picked selector values) f s h = pick-valid selector (each f values).value s (each-valid f values h)

-- ---- at hits
hits-valid : (hits : List Bool) (t rest : Tree) → IsValid t → IsValid rest → AllValid (map (λ hit. cond hit t rest) hits)
hits-valid [] t rest p q = tt
hits-valid (true ∷ hits) t rest p q = (p, hits-valid hits t rest p q)
hits-valid (false ∷ hits) t rest p q = (q, hits-valid hits t rest p q)

rest-valid : (t : Tree) (hits : List Bool) → IsValid t → IsValid (rest_of t hits).value
rest-valid t hits p = by (list_all (λ hit. hit) hits)
  where
    by : (b : Bool) → IsValid (if b then kept t else one_row 0 Silence).value
    by true = p
    by false = tt

rhythm-valid : (t : Tree) (hits : List Bool) → IsValid t → IsValid (rhythm_of t hits).value
rhythm-valid t hits p = fastcat-valid _ (hits-valid hits t (rest_of t hits).value p (rest-valid t hits p))

pub euclid-valid : (t : Tree) (k n r : Rational) → IsValid t → IsValid (euclid_of t k n r).value
euclid-valid t k n r p = rhythm-valid t (euclid k.num (nat_abs n.num) r.num) p
