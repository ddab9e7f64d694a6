-- How a score goes on from one time to another.
--     before_goes_on        the rows of any cycles, each in order and of its own time
--     score_goes_on         the score up to a later time has more rows, those that are due
--     score-append_later    a change of a later cycle changes no row before it
use Rattle.std.proofs.Common.{◌≡◌, ℕ, zero, suc, ◌+◌, ◌-◌, ◌*◌, ◌/◌, ◌%◌, ◌<◌, ◌≤◌, Bool, cond, List, [], ◌∷◌, ◌++◌, filter, inl, inr}
use Rattle.std.proofs.Common.{refl, sym, ap, ◌∙◌, arith, append_assoc, append-nil}
use Rattle.std.specs.List.{flat_map, range_with_len}
use Rattle.std.specs.Int.{div_ceil}
use Rattle.std.proofs.lemmas.Grind.{flat_map-append}
use Rattle.std.proofs.lemmas.Bool.{lt-leb}
use Rattle.std.proofs.lemmas.List.Elements.{filter-append}
use Rattle.tdl_fraction.specs.Rational.{◌≤ℚ◌, ◌<ℚ◌, lt_ℚ}
use Rattle.tdl_fraction.specs.Units.{tick_units, time_of}
use Rattle.tdl_fraction.proofs.Over.{lt_ℚ-false, lt_ℚ-true}
use Rattle.tdl_fraction.proofs.Order.{≤ℚ_or_<ℚ, <ℚ-≤ℚ_trans}
use Rattle.tdl_fraction.proofs.UnitTimes.{units-le}
use Rattle.tdl_event.specs.declared.rows.Row.{Row}
use Rattle.tdl_order.specs.TimeOrder.{Rises, by_time}
use Rattle.tdl_order.proofs.Rising.{AllFrom, AllBefore, AllFrom-earlier, AllBefore-later}
use Rattle.tdl_order.proofs.Cuts.{before-from, before-before}
use Rattle.tdl_desk.specs.declared.changes.Dated.{Dated}
use Rattle.tdl_desk.specs.Desk.{Desk, empty_desk, desk, orbits}
use Rattle.tdl_desk.proofs.DeskFolds.{if_due, after_more}
use Rattle.tdl_expr.specs.Tree.{Tree}
use Rattle.tdl_meaning.specs.Proper.{ProperLaw}
use Rattle.tdl_meaning.specs.Ranges.{RangeLaw}
use Rattle.tdl_score.specs.Changes.{ArePlayable}
use Rattle.tdl_score.specs.Score.{onset, orbit_rows, rows, begins_before, cycles_before, score}
use Rattle.tdl_score.proofs.Ranges.{flat_map_one_more, range-append}
use Rattle.tdl_score.specs.Programs.{due, rows_between}
use Rattle.tdl_score.proofs.CycleRows.{rows_rise, rows_from, rows_before}

-- ---- the rows of one cycle
all_due : (from to : ℕ) (rows : List Row) → AllFrom onset (time_of from) rows → filter (begins_before to) rows ≡ due from to rows
all_due from to [] h = refl
all_due from to (row ∷ rows) h =
    rw ((lt_ℚ-false row.onset (time_of from)).1 h.0) (ap (λ rest. cond (lt_ℚ row.onset (time_of to)) (row ∷ rest) rest) (all_due from to rows h.1))

-- the rows below a time are those below an earlier one, and those due from it on
split_early : (from to : ℕ) (row : Row) (rows : List Row) → from ≤ to → row.onset <ℚ time_of from
    → filter (begins_before to) rows ≡ filter (begins_before from) rows ++ due from to rows
    → filter (begins_before to) (row ∷ rows) ≡ filter (begins_before from) (row ∷ rows) ++ due from to (row ∷ rows)
split_early from to row rows order h more =
    rw (
      (lt_ℚ-true row.onset (time_of from)).1 h,
      (lt_ℚ-true row.onset (time_of to)).1 (<ℚ-≤ℚ_trans h (units-le from to order)),
    ) (ap (λ rest. row ∷ rest) more)

split_late : (from to : ℕ) (row : Row) (rows : List Row) → time_of from ≤ℚ row.onset → AllFrom onset row.onset rows
    → filter (begins_before to) (row ∷ rows) ≡ filter (begins_before from) (row ∷ rows) ++ due from to (row ∷ rows)
split_late from to row rows h later =
    let all : AllFrom onset (time_of from) (row ∷ rows) = (h, AllFrom-earlier onset h rows later) in
    all_due from to (row ∷ rows) all ∙ ap (λ early. early ++ due from to (row ∷ rows)) (sym (before-from onset (time_of from) (row ∷ rows) all))

split_at : (from to : ℕ) (rows : List Row) → from ≤ to → Rises onset rows
    → filter (begins_before to) rows ≡ filter (begins_before from) rows ++ due from to rows
split_at from to [] order h = refl
split_at from to (row ∷ rows) order h =
    elim (≤ℚ_or_<ℚ (time_of from) row.onset) [
      | inl late ↦ split_late from to row rows late h.0
      | inr early ↦ split_early from to row rows order early (split_at from to rows order h.1)
    ]

-- ---- lists over cycles
filter-flat_map : {X Y : Type 0} (p : Y → Bool) (f : X → List Y) (xs : List X) → filter p (flat_map f xs) ≡ flat_map (λ x. filter p (f x)) xs
filter-flat_map p f [] = refl
filter-flat_map p f (x ∷ xs) = filter-append p (f x) (flat_map f xs) ∙ ap (λ rest. filter p (f x) ++ rest) (filter-flat_map p f xs)

flat_map_same : {Y : Type 0} (f g : ℕ → List Y) (a n : ℕ) → ((c : ℕ) → a ≤ c → c < a + n → f c ≡ g c)
    → flat_map f (range_with_len a n) ≡ flat_map g (range_with_len a n)
flat_map_same f g a zero same = refl
flat_map_same f g a (suc n) same =
    ap (λ rest. f a ++ rest) (flat_map_same f g (a + 1) n (λ c low high. same c (omega arith) (omega arith)))
    ∙ ap (λ first. first ++ flat_map g (range_with_len (a + 1) n)) (same a (omega arith) (omega arith))

-- ---- the rows of all cycles from 0 on, whatever they are
abbrev pub rows_up_to : (ℕ → List Row) → ℕ → List Row
rows_up_to rows units = filter (begins_before units) (flat_map rows (cycles_before units))

module _ (rows : ℕ → List Row) (rises : (cycle : ℕ) → Rises onset (rows cycle))
    (starts : (cycle : ℕ) → AllFrom onset (time_of (cycle * tick_units)) (rows cycle))
    (ends : (cycle : ℕ) → AllBefore onset (time_of ((cycle + 1) * tick_units)) (rows cycle)) (from to : ℕ) (forward : from < to) where
  abbrev first : ℕ
  first = from / tick_units

  abbrev end : ℕ
  end = div_ceil to tick_units

  abbrev early : ℕ → List Row
  early c = filter (begins_before from) (rows c)

  abbrev late : ℕ → List Row
  late c = due from to (rows c)

  abbrev both : ℕ → List Row
  both c = filter (begins_before to) (rows c)

  both_is : (c : ℕ) → both c ≡ early c ++ late c
  both_is c = split_at from to (rows c) (omega arith) (rises c)

  -- before the first cycle all rows are early
  early_only : (c : ℕ) → c < first → both c ≡ early c
  early_only c h =
      let all : AllBefore onset (time_of from) (rows c) = AllBefore-later onset (units-le ((c + 1) * tick_units) from (omega arith)) (rows c) (ends c) in
      let too : AllBefore onset (time_of to) (rows c) = AllBefore-later onset (units-le from to (omega arith)) (rows c) all in
      before-before onset (time_of to) (rows c) too ∙ sym (before-before onset (time_of from) (rows c) all)

  -- after it none is
  none_early : (c : ℕ) → from ≤ c * tick_units → early c ≡ []
  none_early c h = before-from onset (time_of from) (rows c) (AllFrom-earlier onset (units-le from (c * tick_units) h) (rows c) (starts c))

  late_only : (c : ℕ) → first < c → both c ≡ late c
  late_only c h = both_is c ∙ ap (λ rest. rest ++ late c) (none_early c (omega arith))

  up_to-is : (units : ℕ) → rows_up_to rows units ≡ flat_map (λ c. filter (begins_before units) (rows c)) (cycles_before units)
  up_to-is units = filter-flat_map (begins_before units) rows (cycles_before units)

  count : end ≡ first + suc (end - (first + 1))
  count = omega arith

  rest_count : suc (end - (first + 1)) ≡ end - first
  rest_count = omega arith

  -- the rows up to the earlier time
  before_early : rows_up_to rows from ≡ flat_map early (range_with_len 0 first) ++ early first
  before_early = up_to-is from ∙ whole (from % tick_units) refl
    where
      whole : (r : ℕ) → from % tick_units ≡ r → flat_map early (cycles_before from) ≡ flat_map early (range_with_len 0 first) ++ early first
      whole zero e =
          let cycles : div_ceil from tick_units ≡ first = omega arith in
          ap (λ n. flat_map early (range_with_len 0 n)) cycles
          ∙ sym (ap (λ rest. flat_map early (range_with_len 0 first) ++ rest) (none_early first (omega arith))
          ∙ append-nil (flat_map early (range_with_len 0 first)))
      whole (suc r) e =
          let start : 0 + first ≡ first = omega arith in
          let cycles : div_ceil from tick_units ≡ first + 1 = omega arith in
          ap (λ n. flat_map early (range_with_len 0 n)) cycles ∙ flat_map_one_more early 0 first
          ∙ ap (λ c. flat_map early (range_with_len 0 first) ++ early c) start

  pub before_goes_on : rows_up_to rows to ≡ rows_up_to rows from ++ flat_map late (range_with_len first (end - first))
  before_goes_on =
      let m = end - (first + 1) in
      let start : 0 + first ≡ first = omega arith in
      let cut : flat_map both (range_with_len 0 end) ≡ flat_map both (range_with_len 0 first) ++ flat_map both (range_with_len first (suc m)) =
      ap (λ n. flat_map both (range_with_len 0 n)) count ∙ ap (flat_map both) (range-append 0 first (suc m))
      ∙ flat_map-append both (range_with_len 0 first) (range_with_len (0 + first) (suc m))
      ∙ ap (λ a. flat_map both (range_with_len 0 first) ++ flat_map both (range_with_len a (suc m))) start in
      let before : flat_map both (range_with_len 0 first) ≡ flat_map early (range_with_len 0 first) =
      flat_map_same both early 0 first (λ c low high. early_only c (omega arith)) in
      let after : flat_map both (range_with_len first (suc m)) ≡ early first ++ flat_map late (range_with_len first (suc m)) =
      ap (λ rest. both first ++ rest) (flat_map_same both late (first + 1) m (λ c low high. late_only c (omega arith)))
      ∙ ap (λ here. here ++ flat_map late (range_with_len (first + 1) m)) (both_is first)
      ∙ append_assoc (early first) (late first) (flat_map late (range_with_len (first + 1) m)) in
      up_to-is to ∙ cut ∙ ap (λ xs. xs ++ flat_map both (range_with_len first (suc m))) before ∙ ap (λ xs. flat_map early (range_with_len 0 first) ++ xs) after
      ∙ sym (append_assoc (flat_map early (range_with_len 0 first)) (early first) (flat_map late (range_with_len first (suc m))))
      ∙ ap (λ xs. xs ++ flat_map late (range_with_len first (suc m))) (sym before_early)
      ∙ ap (λ n. rows_up_to rows from ++ flat_map late (range_with_len first n)) rest_count

-- ---- scores
pub score_goes_on : ProperLaw → RangeLaw → (changes : List (Dated Tree)) → ArePlayable changes → (from to : ℕ) → from < to
    → score changes to ≡ score changes from ++ rows_between changes from to
unfolding score
score_goes_on proper range changes playable from to forward =
    before_goes_on (rows changes) (rows_rise changes) (rows_from proper range changes playable) (rows_before proper range changes playable) from to forward

-- a change of a boundary that is not below a time changes no row before it
desk-append_later : (changes : List (Dated Tree)) (last : Dated Tree) (cycle : ℕ) → cycle < last.boundary
    → desk (changes ++ last ∷ []) cycle ≡ desk changes cycle
desk-append_later changes last cycle h =
    after_more changes last cycle empty_desk ∙ ap (λ (b : Bool). if_due b last.change (desk changes cycle)) (lt-leb last.boundary cycle h)

pub score-append_later : (changes : List (Dated Tree)) (last : Dated Tree) (units : ℕ) → div_ceil units tick_units ≤ last.boundary
    → score (changes ++ last ∷ []) units ≡ score changes units
unfolding score rows
score-append_later changes last units h =
    ap (filter (begins_before units)) (flat_map_same (rows (changes ++ last ∷ [])) (rows changes) 0 (div_ceil units tick_units)
    (λ c low high. ap (λ (state : Desk Tree). by_time onset (flat_map (orbit_rows c state) orbits)) (desk-append_later changes last c (omega arith))))
