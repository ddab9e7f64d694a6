-- The numbers of a row stand for the bounds of its tree, kind by kind. OtherKinds has those of rounds, shifts, joins and their like.
use Rattle.std.proofs.Common.{◌≡◌, ◌⊎◌, ℕ, ◌+◌, ◌*◌, ◌<◌, ◌≤◌, min, max, inl, inr, ⊎_elim, List, ◌∷◌, ap, ◌∙◌, refl, arith}
use Rattle.std.specs.Int.{div_ceil}
use Rattle.std.proofs.lemmas.Bool.{cases_lt}
use Rattle.std.proofs.Math.Nat.{mul-pos, mul-le-mul_right}
use Rattle.tdl_fraction.specs.Divisor.{lcm}
use Rattle.tdl_fraction.specs.Rational.{Rational}
use Rattle.tdl_fraction.proofs.Coprime.{lcm_positive}
use Rattle.tdl_expr.specs.Tree.{Tree, Silence, Pure, Fast, TimeCat, Cat, Stack, Rev, Pick, When, Shift, Join, Ply, Gate, Trees, child, Steps, step}
use Rattle.tdl_expr.specs.Bounds.{Bounds, bounds, bounds_of, bounds_of_steps, counts, loads, most, hangs, grids, hang, grid}
use Rattle.tdl_expr.specs.Bounds.{upper, lower, broken, touched, shared_out}
use Rattle.tdl_expr.specs.Bounds.{fine, reach, fine_of, reach_of, fine_of_steps, reach_of_steps, fast_ask, fast_far, sum_of_weights}
use Rattle.tdl_expr.specs.Valid.{IsValid, AreValid, AreValidSteps}
use Rattle.tdl_expr.proofs.Numbers.{grid_positive, grids_positive, grids_of_steps_positive, shared_positive, upper_positive, lower_positive}
use Rattle.tdl_expr.proofs.Numbers.{grid_at_most_fine, hang_at_most_reach}
use Rattle.tdl_compile.specs.declared.sizes.RowBounds.{RowBounds}
use Rattle.tdl_compile.specs.declared.sizes.Group.{Group}
use Rattle.tdl_compile.specs.Compiled.{capped}
use Rattle.tdl_compile.specs.inside.Sizes.{fine_below, reach_below, most_word, most_hang, IsTooFine, IsTooFar, KeepsCount}
use Rattle.tdl_compile.specs.inside.Sizes.{KeepsBounds, NumbersStandFor, Collects, CollectsTrees, CollectsSteps}
use Rattle.tdl_compile.proofs.Capped.{cases_capped, capped_word, capped_plus, capped_times, capped_times_right, capped_lcm}
use Rattle.tdl_compile.proofs.AtMost.{finer_max, further_max, finer_asked}
use Rattle.tdl_compile.proofs.Hangs.{count_more, hang_more, hang_max, hang_fast, count_plus, count_max, count_times, touched_enough, touched_positive}

-- ---- a tree that is past a word
pub below_fine : (e : Tree) (q : ℕ) → fine e q ≡ max (lcm (grid e) q) (fine_below e q)
below_fine Silence q = omega arith
below_fine (Pure v) q = omega arith
below_fine (Fast r e) q = refl
below_fine (TimeCat steps) q = refl
below_fine (Cat trees) q = refl
below_fine (Stack trees) q = refl
below_fine (Rev e) q = refl
below_fine (Pick selector trees) q = refl
below_fine (When modulus test d e) q = refl
below_fine (Shift t e) q = refl
below_fine (Join side op d e) q = refl
below_fine (Ply n e) q = refl
below_fine (Gate from to inside e) q = refl

pub below_reach : (e : Tree) (m : ℕ) → reach e m ≡ max (m + hang e) (reach_below e m)
below_reach Silence m = omega arith
below_reach (Pure v) m = omega arith
below_reach (Fast r e) m = refl
below_reach (TimeCat steps) m = refl
below_reach (Cat trees) m = refl
below_reach (Stack trees) m = refl
below_reach (Rev e) m = refl
below_reach (Pick selector trees) m = refl
below_reach (When modulus test d e) m = refl
below_reach (Shift t e) m = refl
below_reach (Join side op d e) m = refl
below_reach (Ply n e) m = refl
below_reach (Gate from to inside e) m = refl

pub too_fine : (e : Tree) → IsTooFine (fine_below e) → IsTooFine (fine e)
too_fine e x = record { past = λ q p. let l = below_fine e q in omega (arith, x.past q p) }

pub too_far : (e : Tree) → IsTooFar (reach_below e) → IsTooFar (reach e)
too_far e x = record { past = λ m. let l = below_reach e m in omega (arith, x.past m) }

-- a grid is exact, or the tree is too fine
pub grid_cases : (e : Tree) (n : ℕ) → IsValid e → (n ≡ capped (grid e)) ⊎ IsTooFine (fine_below e) → (n ≡ grid e) ⊎ IsTooFine (fine e)
grid_cases e n valid h =
    ⊎_elim
    (λ x. ⊎_elim
    (λ y. inl (x ∙ y))
    (λ y. inr (record { past = λ q p. let l = grid_at_most_fine e q valid p in omega (arith, y.1) }))
    (cases_capped (grid e)))
    (λ x. inr (too_fine e x))
    h

pub hang_cases : (e : Tree) (n : ℕ) → (capped n ≡ capped (hang e)) ⊎ IsTooFar (reach_below e) → (n ≡ hang e) ⊎ IsTooFar (reach e)
hang_cases e n h =
    ⊎_elim
    (λ x. ⊎_elim
    (λ y. inl (omega arith))
    (λ y. inr (record { past = λ m. let l = hang_at_most_reach e m in omega arith }))
    (cases_lt (hang e) most_word))
    (λ x. inr (too_far e x))
    h

-- ---- kinds of one child
pub fast_stands : (r : Rational) (e : Tree) (b out : RowBounds) (times visits : ℕ) → IsValid (Fast r e) → KeepsBounds b e
    → times ≡ capped (touched r) → out.count ≡ capped (times * b.count) → visits ≡ capped (times * b.load) → out.load ≡ capped (1 + visits)
    → out.hang ≡ min (div_ceil ((b.hang + broken r) * lower r) (upper r)) most_hang → out.grid ≡ capped (shared_out b.grid (upper r) (lower r))
    → KeepsBounds out (Fast r e)
fast_stands r e b out times visits valid s t c v l h g = record {
  count = ⊎_elim (λ x. inl (c ∙ product b.count (bounds e).count x)) (λ x. inr (omega (arith, more))) s.count;
  load = l ∙ ap (λ n. capped (1 + n)) (v ∙ product b.load (bounds e).load s.load) ∙ capped_plus 1 (touched r * (bounds e).load);
  wide = rw h
      (hang_fast b.hang (hang e) (broken r) (bounds e).load (upper r) (lower r) (touched r) (upper_positive r valid.0) (touched_enough r) s.wide);
  hang = ⊎_elim
      (λ x. inl (ap capped h ∙ capped_word (div_ceil ((b.hang + broken r) * lower r) (upper r))
      ∙ ap (λ n. capped (div_ceil ((n + broken r) * lower r) (upper r))) x))
      (λ x. inr (record { past = λ m. x.past (fast_far r m) }))
      (hang_cases e b.hang s.hang);
  grid = ⊎_elim
      (λ x. inl (g ∙ ap (λ n. capped (shared_out n (upper r) (lower r))) x))
      (λ x. inr (record { past = λ q p. x.past (fast_ask r q) (shared_positive q (lower r) (upper r) p (lower_positive r)) }))
      (grid_cases e b.grid valid.1 s.grid);
}
  where
    product : (n number : ℕ) → n ≡ capped number → capped (times * n) ≡ capped (touched r * number)
    product n number f = ap (λ x. capped (x * n)) t ∙ ap (λ x. capped (capped (touched r) * x)) f ∙ capped_times (touched r) number

    more : 1 * (bounds e).load ≤ touched r * (bounds e).load
    more = mul-le-mul_right (bounds e).load (touched_positive r (upper_positive r valid.0))

pub rev_stands : (e : Tree) (b out : RowBounds) → KeepsBounds b e
    → out.count ≡ b.count → out.load ≡ capped (1 + b.load) → out.hang ≡ b.hang → out.grid ≡ b.grid → KeepsBounds out (Rev e)
rev_stands e b out s c l h g = record {
  count = rw c (count_more b.count (bounds e).count (bounds e).load (1 + (bounds e).load) (omega arith) s.count);
  load = l ∙ ap (λ n. capped (1 + n)) s.load ∙ capped_plus 1 (bounds e).load;
  wide = rw h (hang_more b.hang (hang e) (bounds e).load (1 + (bounds e).load) (omega arith) s.wide);
  hang = ⊎_elim (λ x. inl (ap capped h ∙ x)) (λ x. inr (record { past = (too_far e x).past })) s.hang;
  grid = ⊎_elim (λ x. inl (g ∙ x)) (λ x. inr (record { past = (too_fine e x).past })) s.grid;
}

-- ---- of several children
pub more_far : (e : Tree) (furthest more : ℕ → ℕ) (a b n : ℕ) (rest : ℕ) → ((m : ℕ) → more m ≡ max (reach e m) (furthest m))
    → (capped a ≡ capped (hang e)) ⊎ IsTooFar (reach_below e) → (capped b ≡ capped rest) ⊎ IsTooFar furthest → n ≡ max a b
    → (capped n ≡ capped (max (hang e) rest)) ⊎ IsTooFar more
more_far e furthest more a b n rest is h k f =
    ⊎_elim
    (λ x. ⊎_elim
    (λ y. inl (omega arith))
    (λ y. inr (record { past = λ m. omega (arith, is m, y.past m) }))
    k)
    (λ x. inr (record { past = λ m. let l = below_reach e m in omega (arith, is m, x.past m) }))
    h

-- where the tree is asked on a grid of its own
pub more_fine : (e : Tree) (finest more ask : ℕ → ℕ) (a b n : ℕ) (rest : ℕ) → IsValid e → 0 < rest → ((q : ℕ) → 0 < q → 0 < ask q)
    → ((q : ℕ) → more q ≡ max (fine e (ask q)) (finest q))
    → (a ≡ capped (grid e)) ⊎ IsTooFine (fine_below e) → (b ≡ capped rest) ⊎ IsTooFine finest → n ≡ capped (lcm a b)
    → (n ≡ capped (lcm (grid e) rest)) ⊎ IsTooFine more
more_fine e finest more ask a b n rest valid p asked is h k f =
    ⊎_elim
    (λ x. ⊎_elim
    (λ y. inl (f ∙ ap (λ z. capped (lcm z b)) x ∙ ap (λ z. capped (lcm (capped (grid e)) z)) y
    ∙ capped_lcm (grid e) rest (grid_positive e valid) p))
    (λ y. inr (record { past = λ q h. omega (arith, is q, y.past q h) }))
    k)
    (λ x. inr (record { past = λ q h. let l = below_fine e (ask q) in omega (arith, is q, x.past (ask q) (asked q h)) }))
    h

module _ (e : Tree) (b : RowBounds) (g out : Group) (xs : List Bounds) (furthest finest : ℕ → ℕ) (valid : IsValid e) (positive : 0 < grids xs)
    (s : NumbersStandFor b e) (t : Collects g xs furthest finest)
    (counts_is : out.counts ≡ capped (b.count + g.counts)) (most_is : out.most ≡ max b.count g.most)
    (loads_is : out.loads ≡ capped (b.load + g.loads)) (hangs_is : out.hangs ≡ max b.hang g.hangs) (grids_is : out.grids ≡ capped (lcm b.grid g.grids))
    (weight : ℕ) (some : 0 < weight) (finer_is : out.growth.finer ≡ max (capped (b.growth.finer * weight)) g.growth.finer)
    (further_is : out.growth.further ≡ max b.growth.further g.growth.further) where
  with_more : (further finer ask : ℕ → ℕ) → ((m : ℕ) → further m ≡ max (reach e m) (furthest m)) → ((q : ℕ) → 0 < q → 0 < ask q)
      → ((q : ℕ) → 0 < q → ask q ≤ weight * q) → ((q : ℕ) → finer q ≡ max (fine e (ask q)) (finest q)) → Collects out (bounds e ∷ xs) further finer
  with_more further finer ask far_is asked at_most fine_is =
      let load = (bounds e).load + loads xs in
      let first : KeepsCount b.count (bounds e).count load = count_more b.count (bounds e).count (bounds e).load load (omega arith) s.bounds.count in
      let all : KeepsCount g.counts (counts xs) load = count_more g.counts (counts xs) (loads xs) load (omega arith) t.counts in
      let greatest : KeepsCount g.most (most xs) load = count_more g.most (most xs) (loads xs) load (omega arith) t.most in
      record {
        counts = rw counts_is (count_plus b.count g.counts (bounds e).count (counts xs) load first all);
        most = rw most_is (count_max b.count g.most (bounds e).count (most xs) load first greatest);
        wide = rw hangs_is
            (hang_max b.hang g.hangs (hang e) (hangs xs) load
            (hang_more b.hang (hang e) (bounds e).load load (omega arith) s.bounds.wide) (hang_more g.hangs (hangs xs) (loads xs) load (omega arith) t.wide));
        loads = loads_is ∙ ap (λ n. capped (n + g.loads)) s.bounds.load ∙ ap (λ n. capped (capped (bounds e).load + n)) t.loads
            ∙ capped_plus (bounds e).load (loads xs);
        hangs = more_far e furthest further b.hang g.hangs out.hangs (hangs xs) far_is s.bounds.hang t.hangs hangs_is;
        grids = more_fine e finest finer ask b.grid g.grids out.grids (grids xs) valid positive asked fine_is s.bounds.grid t.grids grids_is;
        grows = record {
          finer = rw finer_is (finer_max (capped (b.growth.finer * weight)) g.growth.finer (λ q. fine e (ask q)) finest finer
              (finer_asked b.growth.finer weight (fine e) ask (λ q. fine e (ask q)) some s.grows.finer asked at_most (λ q. refl)) t.grows.finer fine_is);
          further = rw further_is
              (further_max b.growth.further g.growth.further (reach e) furthest further s.grows.further t.grows.further far_is);
        };
      }

pub with_child : (e : Tree) (trees : Trees) (b : RowBounds) (g out : Group) (weight : ℕ) → weight ≡ 1 → IsValid e → AreValid trees → NumbersStandFor b e
    → CollectsTrees g trees → out.counts ≡ capped (b.count + g.counts) → out.most ≡ max b.count g.most → out.loads ≡ capped (b.load + g.loads)
    → out.hangs ≡ max b.hang g.hangs → out.grids ≡ capped (lcm b.grid g.grids) → out.growth.finer ≡ max (capped (b.growth.finer * weight)) g.growth.finer
    → out.growth.further ≡ max b.growth.further g.growth.further → CollectsTrees out (child e trees)
with_child e trees b g out weight one valid rest s t c m l h d f k =
    with_more e b g out (bounds_of trees) (reach_of trees) (fine_of trees) valid (grids_positive trees rest) s t c m l h d weight (omega arith) f k
    (reach_of (child e trees)) (fine_of (child e trees)) (λ q. q) (λ m. refl) (λ q h. h) (λ q h. rw one (omega arith)) (λ q. refl)

pub with_step : (w : ℕ) (e : Tree) (steps : Steps) (b : RowBounds) (g out : Group) → 0 < w → IsValid e → AreValidSteps steps → NumbersStandFor b e
    → CollectsSteps g steps → out.counts ≡ capped (b.count + g.counts) → out.most ≡ max b.count g.most → out.loads ≡ capped (b.load + g.loads)
    → out.hangs ≡ max b.hang g.hangs → out.grids ≡ capped (lcm b.grid g.grids) → out.growth.finer ≡ max (capped (b.growth.finer * w)) g.growth.finer
    → out.growth.further ≡ max b.growth.further g.growth.further → CollectsSteps out (step w e steps)
with_step w e steps b g out p valid rest s t c m l h d f k =
    with_more e b g out (bounds_of_steps steps) (reach_of_steps steps) (fine_of_steps steps) valid (grids_of_steps_positive steps rest) s t c m l h d w p f k
    (reach_of_steps (step w e steps)) (fine_of_steps (step w e steps)) (λ q. q * w) (λ m. refl) (λ q h. mul-pos h p) (λ q h. omega arith) (λ q. refl)

pub one_more : (load rest : ℕ) → load ≡ capped rest → capped (1 + load) ≡ capped (1 + rest)
one_more load rest e = ap (λ n. capped (1 + n)) e ∙ capped_plus 1 rest

pub time_cat_stands : (steps : Steps) (g : Group) (out : RowBounds) (sum : ℕ) → CollectsSteps g steps → sum ≡ sum_of_weights steps
    → out.count ≡ g.counts → out.load ≡ capped (1 + g.loads) → out.hang ≡ g.hangs → out.grid ≡ capped (sum * g.grids) → KeepsBounds out (TimeCat steps)
time_cat_stands steps g out sum t is c l h d = record {
  count = rw c (count_more g.counts (counts (bounds_of_steps steps)) (loads (bounds_of_steps steps)) _ (omega arith) t.counts);
  load = l ∙ one_more g.loads (loads (bounds_of_steps steps)) t.loads;
  wide = rw h (hang_more g.hangs (hangs (bounds_of_steps steps)) (loads (bounds_of_steps steps)) _ (omega arith) t.wide);
  hang = ⊎_elim (λ x. inl (ap capped h ∙ x)) (λ x. inr (record { past = x.past })) t.hangs;
  grid = ⊎_elim
      (λ x. inl (d ∙ ap (λ n. capped (n * g.grids)) is ∙ ap (λ n. capped (sum_of_weights steps * n)) x
      ∙ capped_times_right (sum_of_weights steps) (grids (bounds_of_steps steps))))
      (λ x. inr (record { past = x.past })) t.grids;
}

pub cat_stands : (trees : Trees) (g : Group) (out : RowBounds) → CollectsTrees g trees
    → out.count ≡ g.most → out.load ≡ capped (1 + g.loads) → out.hang ≡ g.hangs → out.grid ≡ g.grids → KeepsBounds out (Cat trees)
cat_stands trees g out t c l h d = record {
  count = rw c (count_more g.most (most (bounds_of trees)) (loads (bounds_of trees)) _ (omega arith) t.most);
  load = l ∙ one_more g.loads (loads (bounds_of trees)) t.loads;
  wide = rw h (hang_more g.hangs (hangs (bounds_of trees)) (loads (bounds_of trees)) _ (omega arith) t.wide);
  hang = ⊎_elim (λ x. inl (ap capped h ∙ x)) (λ x. inr (record { past = x.past })) t.hangs;
  grid = ⊎_elim (λ x. inl (d ∙ x)) (λ x. inr (record { past = x.past })) t.grids;
}

pub stack_stands : (trees : Trees) (g : Group) (out : RowBounds) → CollectsTrees g trees
    → out.count ≡ g.counts → out.load ≡ capped (1 + g.loads) → out.hang ≡ g.hangs → out.grid ≡ g.grids → KeepsBounds out (Stack trees)
stack_stands trees g out t c l h d = record {
  count = rw c (count_more g.counts (counts (bounds_of trees)) (loads (bounds_of trees)) _ (omega arith) t.counts);
  load = l ∙ one_more g.loads (loads (bounds_of trees)) t.loads;
  wide = rw h (hang_more g.hangs (hangs (bounds_of trees)) (loads (bounds_of trees)) _ (omega arith) t.wide);
  hang = ⊎_elim (λ x. inl (ap capped h ∙ x)) (λ x. inr (record { past = x.past })) t.hangs;
  grid = ⊎_elim (λ x. inl (d ∙ x)) (λ x. inr (record { past = x.past })) t.grids;
}

pub pick_stands : (e : Tree) (trees : Trees) (b : RowBounds) (g : Group) (out : RowBounds) (own visits : ℕ) → IsValid e → AreValid trees → KeepsBounds b e
    → CollectsTrees g trees → out.count ≡ capped (b.count * g.most) → own ≡ capped (1 + b.load) → visits ≡ capped (max 1 b.count * g.loads)
    → out.load ≡ capped (own + visits) → out.hang ≡ g.hangs → out.grid ≡ capped (lcm b.grid g.grids) → KeepsBounds out (Pick e trees)
pick_stands e trees b g out own visits valid rest s t c o v l h d = let load = (bounds (Pick e trees)).load in record {
  count = rw c
      (count_times b.count g.most (bounds e).count (most (bounds_of trees)) load
      (count_more b.count (bounds e).count (bounds e).load load (omega arith) s.count)
      (count_more g.most (most (bounds_of trees)) (loads (bounds_of trees)) load (omega (arith, visited)) t.most));
  load = ⊎_elim
      (λ x. l ∙ ap (λ n. capped (n + visits)) (o ∙ one_more b.load (bounds e).load s.load) ∙ ap (λ n. capped (capped (1 + (bounds e).load) + n)) (v ∙ events x)
      ∙ capped_plus (1 + (bounds e).load) (max 1 (bounds e).count * loads (bounds_of trees)))
      (λ x. omega (arith, s.load))
      s.count;
  wide = rw h (hang_more g.hangs (hangs (bounds_of trees)) (loads (bounds_of trees)) load (omega (arith, visited)) t.wide);
  hang = ⊎_elim (λ x. inl (ap capped h ∙ x)) (λ x. inr (record { past = λ m. omega (arith, x.past m) })) t.hangs;
  grid = more_fine e (λ q. fine_of trees (lcm (grid e) q)) (fine_below (Pick e trees)) (λ q. q) b.grid g.grids out.grid (grids (bounds_of trees))
      valid (grids_positive trees rest) (λ q p. p) (λ q. refl) s.grid chosen d;
}
  where
    chosen : (g.grids ≡ capped (grids (bounds_of trees))) ⊎ IsTooFine (λ q. fine_of trees (lcm (grid e) q))
    chosen = ⊎_elim inl (λ x. inr (record { past = λ q p. x.past (lcm (grid e) q) (lcm_positive (grid e) q (grid_positive e valid) p) })) t.grids

    visited : 1 * loads (bounds_of trees) ≤ max 1 (bounds e).count * loads (bounds_of trees)
    visited = mul-le-mul_right (loads (bounds_of trees)) (omega arith)

    some : (n number : ℕ) → n ≡ capped number → max 1 n ≡ capped (max 1 number)
    some n number f = omega arith

    events : b.count ≡ capped (bounds e).count → capped (max 1 b.count * g.loads) ≡ capped (max 1 (bounds e).count * loads (bounds_of trees))
    events exact = ap (λ n. capped (n * g.loads)) (some b.count (bounds e).count exact)
        ∙ ap (λ n. capped (capped (max 1 (bounds e).count) * n)) t.loads ∙ capped_times (max 1 (bounds e).count) (loads (bounds_of trees))
