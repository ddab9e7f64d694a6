-- Functions that differ from cycle to cycle.
use Rattle.std.proofs.Common.{◌≡◌, ⊎_elim, ℕ, zero, suc, ◌<◌, ◌≤◌, Bool, true, false, Option, Some, None, List, [], ◌∷◌, map, length, get_or}
use Rattle.std.proofs.Common.{ℤ, pos, negsuc, neg_ℤ, ◌≤ℤ◌, ◌<ℤ◌, nat_lt, refl, ap, ap₂, ◌∙◌, subst, arith}
use Rattle.std.specs.List.{range_with_len}
use Rattle.std.proofs.lemmas.List.FromFn.{length-map-range_with_len, get_or-map-range_with_len}
use Rattle.std.proofs.lemmas.Bool.Decides.{nat_tests}
use Rattle.std.proofs.lemmas.Int.{ints}
use Rattle.tdl_fraction.specs.Rational.{frac, whole}
use Rattle.tdl_expr.specs.declared.rounds.Test.{Test}
use Rattle.tdl_expr.specs.declared.rounds.Test.TheVariants.{Equal, AtLeast}
use Rattle.tdl_expr.specs.Tree.{Tree}
use Rattle.tdl_expr.specs.Valid.{IsValid}
use Rattle.tdl_meaning.specs.Pattern.{Pattern, silence, time_cat, cat, rev}
use Rattle.tdl_meaning.specs.Kinds.{one_of, shift}
use Rattle.tdl_meaning.specs.Values.{meets}
use Rattle.tdl_meaning.specs.Meaning.{cyc}
use Rattle.tdl_meaning.specs.Proper.{ProperLaw}
use Rattle.tdl_meaning.specs.PatternLaws.{in_round, carried, beat, RateLaws, MixLaws}
use Rattle.tdl_combinator.specs.declared.by_cycle.Round.{Round}
use Rattle.tdl_combinator.specs.TreeFun.{TreeFun, Iter}
use Rattle.tdl_combinator.specs.Makings.{when_of, every_round, every_at_round, when_mod_round, from_zero, turned_on, turns_of, iter_of}
use Rattle.tdl_combinator.specs.Applied.{applied}
use Rattle.tdl_combinator.specs.FunctionLaws.{number, means, CycleLaws}
use Rattle.tdl_combinator.proofs.Rounds.{every_none, at_below, at_past, when_mod_none}
use Rattle.tdl_combinator.proofs.functions.Values.{whole-num, later_value, each_value, turns_value}

module _ (rates : RateLaws) (mixes : MixLaws) (valid : ProperLaw) where
  -- ---- in some cycles of each round
  in_rounds : (round : Option Round) (n : ℕ) (test : Test) (f : TreeFun) (p : Tree) → round ≡ Some (record { modulus = n; test = test })
      → (k : ℤ) (i : ℕ) (b : Bool) → i < n → meets test i ≡ b
      → cyc (when_of round (applied f) p).value (in_round n k i) ≡ one_of b (means f p) (cyc p) (in_round n k i)
  in_rounds round n test f p is k i b below met =
      ap (λ r. cyc (when_of r (applied f) p).value (in_round n k i)) is
      ∙ mixes.by_place n (meets test) (means f p) (cyc p) k i below
      ∙ ap (λ b. one_of b (means f p) (cyc p) (in_round n k i)) met

  not_met : (b : Bool) → (b ≡ true → ⊥) → b ≡ false
  not_met true h = absurd (h refl)
  not_met false h = refl

  every_round_is : (n : ℕ) → 0 < n → every_round (whole (pos n)).num ≡ Some (record { modulus = n; test = Equal 0 })
  every_round_is n some = ap every_round (whole-num (pos n)) ∙ by n some
    where
      by : (n : ℕ) → 0 < n → every_round (pos n) ≡ Some (record { modulus = n; test = Equal 0 })
      by zero some = absurd (omega (arith, some))
      by (suc n) some = refl

  every_at_round_is : (n place : ℕ) → place < n
      → every_at_round (whole (pos n)).num (whole (pos place)).num ≡ Some (record { modulus = n; test = Equal place })
  every_at_round_is n place below =
      ap₂ every_at_round (whole-num (pos n)) (whole-num (pos place)) ∙ by n place below
    where
      by : (n place : ℕ) → place < n → every_at_round (pos n) (pos place) ≡ Some (record { modulus = n; test = Equal place })
      by n place below = let within : nat_lt place n ≡ true = grind (arith, nat_tests, below) in rw within refl

  when_mod_round_is : (n : ℕ) (from : ℤ) → 0 < n
      → when_mod_round (whole (pos n)).num (whole from).num ≡ Some (record { modulus = n; test = AtLeast (from_zero from) })
  when_mod_round_is n from some = ap₂ when_mod_round (whole-num (pos n)) (whole-num from) ∙ by n some
    where
      by : (n : ℕ) → 0 < n → when_mod_round (pos n) from ≡ Some (record { modulus = n; test = AtLeast (from_zero from) })
      by zero some = absurd (omega (arith, some))
      by (suc n) some = refl

  -- what is below 0 counts as 0
  has_begun : (from : ℤ) (i : ℕ) → from ≤ℤ pos i → from_zero from ≤ i
  has_begun (pos n) i h = omega (arith, ints, h)
  has_begun (negsuc n) i h = omega arith

  not_begun : (from : ℤ) (i : ℕ) → pos i <ℤ from → i < from_zero from
  not_begun (pos n) i h = omega (arith, ints, h)
  not_begun (negsuc n) i h = absurd (omega (arith, ints, h))

  -- in no round the pattern is as it was
  in_no_round : (round : Option Round) (f : TreeFun) (p : Tree) (c : ℤ) → round ≡ None → cyc (when_of round (applied f) p).value c ≡ cyc p c
  in_no_round round f p c is = ap (λ r. cyc (when_of r (applied f) p).value c) is

  not_iterated : (n : ℤ) (p : Tree) (c : ℤ) → n ≤ℤ pos 0 → cyc (iter_of n p).value c ≡ cyc p c
  not_iterated (pos zero) p c h = refl
  not_iterated (pos (suc n)) p c h = absurd (omega (arith, ints, h))
  not_iterated (negsuc n) p c h = refl

  -- ---- earlier by one more share
  iter_turn : (n : ℕ) (p : Tree) (k : ℤ) (i : ℕ) → IsValid p → i < n
      → means (Iter (number (pos n))) p (in_round n k i) ≡ carried k (in_round n k i) (shift (frac (neg_ℤ (pos i)) n) (cyc p) k)
  iter_turn n p k i is below = ap (λ m. cyc (iter_of m p).value (in_round n k i)) (whole-num (pos n)) ∙ by n below
    where
      turned : ℕ → ℕ → Pattern
      turned n j = cyc (turned_on n p j).value

      trees : (n : ℕ) (js : List ℕ) → map cyc (map (λ j. (turned_on n p j).value) js) ≡ map (turned n) js
      trees n [] = refl
      trees n (j ∷ js) = ap (λ ps. turned n j ∷ ps) (trees n js)

      some : (n : ℕ) → i < n → 0 < length (turns_of n p).value
      some n below =
          let made : length (turns_of n p).value ≡ length (map (λ j. (turned_on n p j).value) (range_with_len 0 n)) =
          ap length (each_value (turned_on n p) (range_with_len 0 n)) in
          let many : length (map (λ j. (turned_on n p j).value) (range_with_len 0 n)) ≡ n =
          length-map-range_with_len (λ j. (turned_on n p j).value) 0 n in
          omega (arith, made, many, below)

      of_all : (n : ℕ) → i < n → cat (map (turned n) (range_with_len 0 n)) (in_round n k i) ≡ carried k (in_round n k i) (turned n i k)
      of_all n below =
          let ps = map (turned n) (range_with_len 0 n) in
          let many : length ps ≡ n = length-map-range_with_len (turned n) 0 n in
          let within : i < length ps = omega (arith, many, below) in
          subst (λ m. cat ps (in_round m k i) ≡ carried k (in_round m k i) (get_or ps i silence k)) many (mixes.in_turn ps k i within)
          ∙ ap (λ (q : Pattern). carried k (in_round n k i) (q k)) (get_or-map-range_with_len (turned n) 0 n i i silence below (omega arith))

      by : (n : ℕ) → i < n → cyc (iter_of (pos n) p).value (in_round n k i) ≡ carried k (in_round n k i) (shift (frac (neg_ℤ (pos i)) n) (cyc p) k)
      by zero below = absurd (omega (arith, below))
      by (suc m) below =
          turns_value mixes (turns_of (suc m) p).value (some (suc m) below) (in_round (suc m) k i)
          ∙ ap (λ ts. cat (map cyc ts) (in_round (suc m) k i)) (each_value (turned_on (suc m) p) (range_with_len 0 (suc m)))
          ∙ ap (λ ps. cat ps (in_round (suc m) k i)) (trees (suc m) (range_with_len 0 (suc m)))
          ∙ of_all (suc m) below
          ∙ ap (carried k (in_round (suc m) k i)) (later_value rates valid (frac (neg_ℤ (pos i)) (suc m)) p is k)

  -- ---- all
  -- in half of its time, a quarter later
  abbrev squeezed_late : Tree → Pattern
  squeezed_late p = shift (frac (pos 1) 4) (time_cat (map (beat (cyc p)) (true ∷ false ∷ [])))

  pub cycle_laws : CycleLaws
  cycle_laws = record {
    every_first = λ n f p k some. in_rounds _ n (Equal 0) f p (every_round_is n some) k 0 true some ((mixes.equal 0 0).1 refl);
    every_other = λ n f p k i after below.
        in_rounds _ n (Equal 0) f p (every_round_is n (omega (arith, below))) k i false below
        (not_met (meets (Equal 0) i) (λ e. absurd (omega (arith, after, (mixes.equal 0 i).0 e))));
    every_at_place = λ n place f p k below.
        in_rounds _ n (Equal place) f p (every_at_round_is n place below) k place true below ((mixes.equal place place).1 refl);
    every_at_other = λ n place f p k i within below other.
        in_rounds _ n (Equal place) f p (every_at_round_is n place within) k i false below
        (not_met (meets (Equal place) i) (λ e. other ((mixes.equal place i).0 e)));
    every_none = λ n f p h c. in_no_round _ f p c (ap every_round (whole-num n) ∙ every_none n h);
    every_at_none = λ n place f p h c.
        in_no_round _ f p c (ap₂ every_at_round (whole-num n) (whole-num place) ∙ ⊎_elim (at_below n place) (at_past n place) h);
    when_mod_from = λ n from f p k i after below.
        in_rounds _ n (AtLeast (from_zero from)) f p (when_mod_round_is n from (omega (arith, below))) k i true below
        ((mixes.at_least (from_zero from) i).1 (has_begun from i after));
    when_mod_before = λ n from f p k i before below.
        in_rounds _ n (AtLeast (from_zero from)) f p (when_mod_round_is n from (omega (arith, below))) k i false below
        (not_met (meets (AtLeast (from_zero from)) i) (λ e. absurd (omega (arith, not_begun from i before, (mixes.at_least (from_zero from) i).0 e))));
    when_mod_none = λ n from f p h c. in_no_round _ f p c (ap₂ when_mod_round (whole-num n) (whole-num from) ∙ when_mod_none n from h);
    palindrome_forwards = λ p k. mixes.in_turn (cyc p ∷ rev (cyc p) ∷ []) k 0 (omega arith);
    palindrome_backwards = λ p k. mixes.in_turn (cyc p ∷ rev (cyc p) ∷ []) k 1 (omega arith);
    iter_turn = iter_turn;
    iter_none = λ n p h c. ap (λ m. cyc (iter_of m p).value c) (whole-num n) ∙ not_iterated n p c h;
    brak_even = λ p k. mixes.by_place 2 (meets (Equal 1)) (squeezed_late p) (cyc p) k 0 (omega arith);
    brak_odd = λ p k. mixes.by_place 2 (meets (Equal 1)) (squeezed_late p) (cyc p) k 1 (omega arith);
  }
