-- The numbers of a row stand for the bounds of its tree: rounds, shifts, joins, pieces and gates.
use Rattle.std.proofs.Common.{◌≡◌, ◌⊎◌, ℕ, ◌+◌, ◌*◌, ◌/◌, ◌<◌, ◌≤◌, min, max, Bool, inl, inr, ⊎_elim, ap, sym, ◌∙◌, refl, arith}
use Rattle.std.proofs.lemmas.Bool.Decides.{nat_tests}
use Rattle.std.proofs.Math.Nat.{mul_comm, mul-div_assoc, mul-le-mul, mul-le-mul_right}
use Rattle.tdl_fraction.specs.Divisor.{gcd, lcm}
use Rattle.tdl_fraction.specs.LowestTerms.{IsGcd-gcd}
use Rattle.tdl_fraction.specs.Rational.{Rational}
use Rattle.tdl_fraction.proofs.Coprime.{lcm_positive}
use Rattle.tdl_expr.specs.declared.joinings.Op.{Op}
use Rattle.tdl_expr.specs.declared.joinings.Side.{Side}
use Rattle.tdl_expr.specs.declared.joinings.Side.TheVariants.{Left, Right, Both}
use Rattle.tdl_expr.specs.declared.rounds.Test.{Test}
use Rattle.tdl_expr.specs.Tree.{Tree, Rev, When, Shift, Join, Ply, Gate}
use Rattle.tdl_expr.specs.Bounds.{bounds, hang, grid, broken, shift_touches, of_left, fine, reach}
use Rattle.tdl_expr.specs.Bounds.{shift_ask, shift_far, left_ask, right_ask, left_far, right_far}
use Rattle.tdl_expr.specs.Valid.{IsValid}
use Rattle.tdl_expr.proofs.Numbers.{grid_positive, gcd_swap, lower_positive}
use Rattle.tdl_compile.specs.declared.sizes.RowBounds.{RowBounds}
use Rattle.tdl_compile.specs.Compiled.{capped}
use Rattle.tdl_compile.specs.inside.Sizes.{fine_below, reach_below, most_word, most_hang, IsTooFine, IsTooFar, KeepsCount, KeepsHang}
use Rattle.tdl_compile.specs.inside.Sizes.{KeepsBounds, NumbersStandFor}
use Rattle.tdl_compile.proofs.Capped.{capped_plus, capped_times, capped_times_right, capped_lcm_left}
use Rattle.tdl_compile.proofs.Hangs.{count_more, count_max, count_times, hang_more, hang_max, hang_min, hang_plus, span_kept}
use Rattle.tdl_compile.proofs.Standing.{too_fine, too_far, more_fine, more_far, one_more}

-- ---- rounds
pub when_stands : (modulus : ℕ) (test : Test) (d e : Tree) (x y out : RowBounds) (own : ℕ) → IsValid (When modulus test d e) → KeepsBounds x d → KeepsBounds y e
    → out.count ≡ max x.count y.count → own ≡ capped (1 + x.load) → out.load ≡ capped (own + y.load) → out.hang ≡ max x.hang y.hang
    → out.grid ≡ capped (lcm x.grid y.grid) → KeepsBounds out (When modulus test d e)
when_stands modulus test d e x y out own valid s t c o l h g =
    let load = 1 + (bounds d).load + (bounds e).load in
    record {
      count = rw c
          (count_max x.count y.count (bounds d).count (bounds e).count load
          (count_more x.count (bounds d).count (bounds d).load load (omega arith) s.count)
          (count_more y.count (bounds e).count (bounds e).load load (omega arith) t.count));
      load = l ∙ ap (λ n. capped (n + y.load)) (o ∙ one_more x.load (bounds d).load s.load) ∙ ap (λ n. capped (capped (1 + (bounds d).load) + n)) t.load
          ∙ capped_plus (1 + (bounds d).load) (bounds e).load;
      wide = rw h
          (hang_max x.hang y.hang (hang d) (hang e) load
          (hang_more x.hang (hang d) (bounds d).load load (omega arith) s.wide) (hang_more y.hang (hang e) (bounds e).load load (omega arith) t.wide));
      hang = more_far d (reach e) (reach_below (When modulus test d e)) x.hang y.hang out.hang (hang e) (λ m. refl) s.hang
          (⊎_elim inl (λ u. inr (too_far e u)) t.hang) h;
      grid = more_fine d (fine e) (fine_below (When modulus test d e)) (λ q. q) x.grid y.grid out.grid (grid e) valid.1 (grid_positive e valid.2)
          (λ q p. p) (λ q. refl) s.grid (⊎_elim inl (λ u. inr (too_fine e u)) t.grid) g;
    }

-- ---- shifts
shift_touches_some : (t : Rational) → 1 ≤ shift_touches t
shift_touches_some t = grind (arith, nat_tests)

pub shift_stands : (t : Rational) (e : Tree) (b out : RowBounds) (visits : ℕ) → IsValid e → KeepsBounds b e
    → out.count ≡ capped (shift_touches t * b.count) → visits ≡ capped (shift_touches t * b.load) → out.load ≡ capped (1 + visits)
    → out.hang ≡ min (b.hang + broken t) most_hang → out.grid ≡ capped (lcm b.grid t.den) → KeepsBounds out (Shift t e)
shift_stands t e b out visits valid s c v l h g =
    let load = 1 + shift_touches t * (bounds e).load in
    let more : 1 * (bounds e).load ≤ shift_touches t * (bounds e).load = mul-le-mul_right (bounds e).load (shift_touches_some t) in
    record {
      count = ⊎_elim
          (λ u. inl (c ∙ ap (λ n. capped (shift_touches t * n)) u ∙ capped_times_right (shift_touches t) (bounds e).count))
          (λ u. inr (omega arith))
          s.count;
      load = l
          ∙ one_more visits (shift_touches t * (bounds e).load)
          (v ∙ ap (λ n. capped (shift_touches t * n)) s.load ∙ capped_times_right (shift_touches t) (bounds e).load);
      wide = rw h
          (hang_plus b.hang (hang e) (broken t) load (omega arith) (hang_more b.hang (hang e) (bounds e).load load (omega arith) s.wide));
      hang = ⊎_elim (λ u. inl (omega arith)) (λ u. inr (record { past = λ m. (too_far e u).past (shift_far t m) })) s.hang;
      grid = ⊎_elim
          (λ u. inl (g ∙ ap (λ n. capped (lcm n t.den)) u ∙ capped_lcm_left (grid e) t.den (grid_positive e valid) (lower_positive t)))
          (λ u. inr (record { past = λ q p. (too_fine e u).past (shift_ask t q) (lcm_positive q t.den p (lower_positive t)) }))
          s.grid;
    }

-- ---- what a join asks of its sides
pub left_ask_positive : (side : Side) (d e : Tree) (q : ℕ) → IsValid e → 0 < q → 0 < left_ask side d e q
left_ask_positive Left d e q valid p = p
left_ask_positive Right d e q valid p = grid_positive e valid
left_ask_positive Both d e q valid p = p

pub right_ask_positive : (side : Side) (d e : Tree) (q : ℕ) → IsValid d → 0 < q → 0 < right_ask side d e q
right_ask_positive Left d e q valid p = grid_positive d valid
right_ask_positive Right d e q valid p = p
right_ask_positive Both d e q valid p = p

left_too_far : (side : Side) (op : Op) (d e : Tree) → IsTooFar (reach_below d) → IsTooFar (reach_below (Join side op d e))
left_too_far side op d e u = record { past = λ m. omega (arith, (too_far d u).past (left_far side d e m)) }

right_too_far : (side : Side) (op : Op) (d e : Tree) → IsTooFar (reach_below e) → IsTooFar (reach_below (Join side op d e))
right_too_far side op d e u = record { past = λ m. omega (arith, (too_far e u).past (right_far side d e m)) }

joined_grid : (side : Side) (op : Op) (d e : Tree) (x y out : RowBounds) → IsValid d → IsValid e → KeepsBounds x d → KeepsBounds y e
    → out.grid ≡ capped (lcm x.grid y.grid) → (out.grid ≡ capped (lcm (grid d) (grid e))) ⊎ IsTooFine (fine_below (Join side op d e))
joined_grid side op d e x y out first second s t g =
    more_fine d (λ q. fine e (right_ask side d e q)) (fine_below (Join side op d e)) (λ q. left_ask side d e q) x.grid y.grid out.grid (grid e)
    first (grid_positive e second) (λ q p. left_ask_positive side d e q second p) (λ q. refl) s.grid
    (⊎_elim inl (λ u. inr (record { past = λ q p. (too_fine e u).past (right_ask side d e q) (right_ask_positive side d e q first p) })) t.grid) g

lcm_swap : (a b : ℕ) → lcm a b ≡ lcm b a
unfolding lcm
lcm_swap a b =
    sym (mul-div_assoc (gcd a b) a (IsGcd-gcd a b).1) ∙ ap (λ n. n / gcd a b) (mul_comm a b) ∙ ap (λ g. b * a / g) (gcd_swap a b)
    ∙ mul-div_assoc (gcd b a) b (IsGcd-gcd b a).1

-- ---- joins: a side that gives the wholes, and the other
module _ (d e : Tree) (x y out : RowBounds) (cycles events asked visits own : ℕ) (s : KeepsBounds x d) (t : KeepsBounds y e)
    (cycles_is : cycles ≡ capped (2 * x.hang + 1)) (events_is : events ≡ capped (x.count * cycles))
    (asked_is : asked ≡ capped (max 1 x.count * cycles)) (visits_is : visits ≡ capped (asked * y.load))
    (own_is : own ≡ capped (1 + x.load)) (c : out.count ≡ capped (events * y.count))
    (l : out.load ≡ capped (own + visits)) (h : out.hang ≡ x.hang) (g : out.grid ≡ capped (lcm x.grid y.grid)) where
  wholes_load : out.load ≡ capped (of_left (bounds d) (bounds e)).load
  wholes_load =
      let span = 2 * hang d + 1 in
      let past : most_word ≤ (bounds d).load → out.load ≡ capped (of_left (bounds d) (bounds e)).load = λ h. let load = s.load in omega arith in
      let exact : x.count ≡ capped (bounds d).count → cycles ≡ capped span → out.load ≡ capped (of_left (bounds d) (bounds e)).load =
      λ u v. let some : max 1 x.count ≡ capped (max 1 (bounds d).count) = omega arith in
      let wholes : asked ≡ capped (max 1 (bounds d).count * span) =
      asked_is ∙ ap (λ n. capped (n * cycles)) some ∙ ap (λ n. capped (capped (max 1 (bounds d).count) * n)) v
      ∙ capped_times (max 1 (bounds d).count) span in
      let visited : visits ≡ capped (max 1 (bounds d).count * span * (bounds e).load) =
      visits_is ∙ ap (λ n. capped (n * y.load)) wholes ∙ ap (λ n. capped (capped (max 1 (bounds d).count * span) * n)) t.load
      ∙ capped_times (max 1 (bounds d).count * span) (bounds e).load in
      let load = s.load in omega arith in
      ⊎_elim (λ u. ⊎_elim (λ v. exact u (cycles_is ∙ v)) past (span_kept x.hang (hang d) (bounds d).load s.wide)) past s.count

  wholes_count : KeepsCount out.count (of_left (bounds d) (bounds e)).count (of_left (bounds d) (bounds e)).load
  wholes_count =
      let load = (of_left (bounds d) (bounds e)).load in
      let span = 2 * hang d + 1 in
      let spans : KeepsCount cycles span (bounds d).load = rw cycles_is (span_kept x.hang (hang d) (bounds d).load s.wide) in
      let wholes : KeepsCount events ((bounds d).count * span) (bounds d).load =
      rw events_is (count_times x.count cycles (bounds d).count span (bounds d).load s.count spans) in
      let least : 1 ≤ max 1 (bounds d).count = omega arith in
      let first : 1 ≤ span = omega arith in
      let some : 1 * 1 ≤ max 1 (bounds d).count * span = mul-le-mul least first in
      let visited : 1 * (bounds e).load ≤ max 1 (bounds d).count * span * (bounds e).load = mul-le-mul_right (bounds e).load some in
      rw c
      (count_times events y.count ((bounds d).count * span) (bounds e).count load
      (count_more events ((bounds d).count * span) (bounds d).load load (omega arith) wholes)
      (count_more y.count (bounds e).count (bounds e).load load (omega arith) t.count))

  wholes_hang : KeepsHang out.hang (hang d) (of_left (bounds d) (bounds e)).load
  wholes_hang = rw h (hang_more x.hang (hang d) (bounds d).load (of_left (bounds d) (bounds e)).load (omega arith) s.wide)

  pub left_stands : (op : Op) → IsValid (Join Left op d e) → KeepsBounds out (Join Left op d e)
  left_stands op valid = record {
    count = wholes_count;
    load = wholes_load;
    wide = wholes_hang;
    hang = ⊎_elim (λ u. inl (ap capped h ∙ u)) (λ u. inr (left_too_far Left op d e u)) s.hang;
    grid = joined_grid Left op d e x y out valid.0 valid.1 s t g;
  }

  pub right_stands : (op : Op) → IsValid (Join Right op e d) → KeepsBounds out (Join Right op e d)
  right_stands op valid = record {
    count = wholes_count;
    load = wholes_load;
    wide = wholes_hang;
    hang = ⊎_elim (λ u. inl (ap capped h ∙ u)) (λ u. inr (right_too_far Right op e d u)) s.hang;
    grid = joined_grid Right op e d y x out valid.0 valid.1 t s (g ∙ ap capped (lcm_swap x.grid y.grid));
  }

-- a join whose wholes are those of both sides
pub both_stands : (op : Op) (d e : Tree) (x y out : RowBounds) (pairs sides own : ℕ) → IsValid (Join Both op d e) → KeepsBounds x d → KeepsBounds y e
    → pairs ≡ capped (x.count * y.count) → sides ≡ capped (x.load + y.load) → own ≡ capped (1 + sides) → out.count ≡ pairs
    → out.load ≡ capped (own + pairs) → out.hang ≡ min x.hang y.hang → out.grid ≡ capped (lcm x.grid y.grid) → KeepsBounds out (Join Both op d e)
both_stands op d e x y out pairs sides own valid s t p i o c l h g =
    let events = (bounds d).count * (bounds e).count in
    let load = 1 + (bounds d).load + (bounds e).load + events in
    let pair : KeepsCount pairs events ((bounds d).load + (bounds e).load) =
    rw p (count_times x.count y.count (bounds d).count (bounds e).count ((bounds d).load + (bounds e).load)
    (count_more x.count (bounds d).count (bounds d).load ((bounds d).load + (bounds e).load) (omega arith) s.count)
    (count_more y.count (bounds e).count (bounds e).load ((bounds d).load + (bounds e).load) (omega arith) t.count)) in
    let first = s.load in
    let second = t.load in
    record {
      count = rw c (count_more pairs events ((bounds d).load + (bounds e).load) load (omega arith) pair);
      load = ⊎_elim (λ u. omega arith) (λ u. omega arith) pair;
      wide = rw h
          (hang_min x.hang y.hang (hang d) (hang e) load
          (hang_more x.hang (hang d) (bounds d).load load (omega arith) s.wide) (hang_more y.hang (hang e) (bounds e).load load (omega arith) t.wide));
      hang = ⊎_elim
          (λ u. ⊎_elim (λ v. inl (omega arith)) (λ v. inr (right_too_far Both op d e v)) t.hang)
          (λ u. inr (left_too_far Both op d e u))
          s.hang;
      grid = joined_grid Both op d e x y out valid.0 valid.1 s t g;
    }

-- ---- pieces and gates
pub ply_stands : (n : ℕ) (e : Tree) (b out : RowBounds) (pieces own : ℕ) → KeepsBounds b e → pieces ≡ capped (n * b.count) → own ≡ capped (1 + b.load)
    → out.count ≡ pieces → out.load ≡ capped (own + pieces) → out.hang ≡ b.hang → out.grid ≡ capped (n * b.grid) → KeepsBounds out (Ply n e)
ply_stands n e b out pieces own s p o c l h g =
    let load = 1 + (bounds e).load + n * (bounds e).count in
    let visits = s.load in
    let piece : KeepsCount pieces (n * (bounds e).count) (bounds e).load =
    ⊎_elim (λ u. inl (p ∙ ap (λ m. capped (n * m)) u ∙ capped_times_right n (bounds e).count)) inr s.count in
    record {
      count = rw c (count_more pieces (n * (bounds e).count) (bounds e).load load (omega arith) piece);
      load = ⊎_elim (λ u. omega arith) (λ u. omega arith) piece;
      wide = rw h (hang_more b.hang (hang e) (bounds e).load load (omega arith) s.wide);
      hang = ⊎_elim (λ u. inl (ap capped h ∙ u)) (λ u. inr (record { past = (too_far e u).past })) s.hang;
      grid = ⊎_elim
          (λ u. inl (g ∙ ap (λ m. capped (n * m)) u ∙ capped_times_right n (grid e)))
          (λ u. inr (record { past = (too_fine e u).past }))
          s.grid;
    }

-- what stands for a tree turned round stands for a part of it
pub gate_stands : (from to : Rational) (inside : Bool) (e : Tree) (out : RowBounds) → NumbersStandFor out (Rev e) → NumbersStandFor out (Gate from to inside e)
gate_stands from to inside e out s = record {
  bounds = record { count = s.bounds.count; load = s.bounds.load; wide = s.bounds.wide; hang = s.bounds.hang; grid = s.bounds.grid };
  grows = record { finer = s.grows.finer; further = s.grows.further };
}
