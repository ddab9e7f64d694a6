-- What comes later, with rising boundaries.
--     later-append     one more at the end has the last word once it has come
--     rises_more       it rises, where all others come before it
--     put_value        so it is what there is from its boundary on, and before it nothing has changed
--     later_out        what comes after a cycle says nothing of it
--     later_stop       where the next comes after the cycle, what there was stays
--     at_stop          so a reader that goes on from the front may stop there
--     last_looked      the last says whether it comes from a boundary on
--     last_low         where it comes before that, all do
--     popped_rises, popped_same    without one that comes from a boundary on nothing changes before that
use Rattle.std.proofs.Common.{◌≡◌, ◌≤◌, ◌<◌, ◌+◌, ◌-◌, ℕ, zero, suc, Bool, true, false, nat_le, if◌then◌else◌, Option, Some, None, List, [], ◌∷◌, ◌++◌}
use Rattle.std.proofs.Common.{refl, sym, ap, ◌∙◌, subst, arith, drop, length, slice_index_or, append-nil}
use Rattle.std.specs.Prelude.{option_to_list}
use Rattle.std.specs.List.{AllByRecursion}
use Rattle.std.proofs.lemmas.Bool.Decides.{nat_tests}
use Rattle.std.proofs.lemmas.List.{drop_more}
use Rattle.tdl_desk.specs.declared.fields.Later.{Later}
use Rattle.tdl_desk.specs.Fields.{Rises, later_on}
use Rattle.tdl_desk.specs.inside.Ends.{last_from, last_is_from}

come : (b c : ℕ) → b ≤ c → nat_le b c ≡ true
come b c h = grind (arith, nat_tests, h)

not_come : (b c : ℕ) → c < b → nat_le b c ≡ false
not_come b c h = grind (arith, nat_tests, h)

is_come : (b c : ℕ) → nat_le b c ≡ true → b ≤ c
is_come b c h = grind (arith, nat_tests, h)

is_not_come : (b c : ℕ) → nat_le b c ≡ false → c < b
is_not_come b c h = grind (arith, nat_tests, h)

module _ {T : Type 0} where
  later-append : (pending : List (Later T)) (value : Option T) (l : Later T) (cycle : ℕ)
      → later_on value (pending ++ l ∷ []) cycle ≡ (if nat_le l.boundary cycle then l.value else later_on value pending cycle)
  later-append [] value l cycle = refl
  later-append (x ∷ pending) value l cycle = later-append pending _ l cycle

  pub rises_more : (pending : List (Later T)) (l : Later T) → Rises pending → AllByRecursion (λ other. other.boundary < l.boundary) pending
      → Rises (pending ++ l ∷ [])
  rises_more [] l rises low = (tt, tt)
  rises_more (x ∷ pending) l rises low = (below pending rises.0, rises_more pending l rises.1 low.1)
    where
      below : (ys : List (Later T)) → AllByRecursion (λ other. x.boundary < other.boundary) ys
          → AllByRecursion (λ other. x.boundary < other.boundary) (ys ++ l ∷ [])
      below [] all = (low.0, tt)
      below (y ∷ ys) all = (all.0, below ys all.1)

  pub put_value : (before after : List (Later T)) (l : Later T)
      → ((value : Option T) (cycle : ℕ) → cycle < l.boundary → later_on value after cycle ≡ later_on value before cycle)
      → (value : Option T) (cycle : ℕ)
      → later_on value (after ++ l ∷ []) cycle ≡ (if nat_le l.boundary cycle then l.value else later_on value before cycle)
  put_value before after l same value cycle = later-append after value l cycle ∙ by (nat_le l.boundary cycle) refl
    where
      by : (b : Bool) → nat_le l.boundary cycle ≡ b
          → (if b then l.value else later_on value after cycle) ≡ (if b then l.value else later_on value before cycle)
      by true e = refl
      by false e = same value cycle (is_not_come l.boundary cycle e)

  later_out : (value : Option T) (pending : List (Later T)) (cycle : ℕ) → AllByRecursion (λ other. cycle < other.boundary) pending
      → later_on value pending cycle ≡ value
  later_out value [] cycle all = refl
  later_out value (x ∷ pending) cycle all =
      ap (λ (b : Bool). later_on (if b then x.value else value) pending cycle) (not_come x.boundary cycle all.0) ∙ later_out value pending cycle all.1

  later_stop : (value : Option T) (l : Later T) (pending : List (Later T)) (cycle : ℕ) → Rises (l ∷ pending) → cycle < l.boundary
      → later_on value (l ∷ pending) cycle ≡ value
  later_stop value l pending cycle rises late = later_out value (l ∷ pending) cycle (late, after pending rises.0)
    where
      after : (ys : List (Later T)) → AllByRecursion (λ other. l.boundary < other.boundary) ys → AllByRecursion (λ other. cycle < other.boundary) ys
      after [] all = tt
      after (y ∷ ys) all = (omega (arith, late, all.0), after ys all.1)

  rises_drop : (n : ℕ) (pending : List (Later T)) → Rises pending → Rises (drop n pending)
  rises_drop zero pending rises = rises
  rises_drop (suc n) [] rises = tt
  rises_drop (suc n) (x ∷ pending) rises = rises_drop n pending rises.1

  pub at_stop : (all : List (Later T)) (n len cycle : ℕ) (value present : Option T) (x : Later T) → len ≡ length all → n < len → x ≡ slice_index_or all n x
      → Rises all → cycle < x.boundary → later_on value (drop n all) cycle ≡ later_on present all cycle → value ≡ later_on present all cycle
  at_stop all n len cycle value present x is some at rises late so_far =
      let here : drop n all ≡ x ∷ drop (n + 1) all = drop_more all n x (omega (arith, is, some)) ∙ ap (λ l. l ∷ drop (n + 1) all) (sym at) in
      sym (ap (λ (p : List (Later T)). later_on value p cycle) here
      ∙ later_stop value x (drop (n + 1) all) cycle (subst Rises here (rises_drop n all rises)) late) ∙ so_far

  -- ---- the last of a list
  last_from-append : (pending : List (Later T)) (found : Bool) (l : Later T) (boundary : ℕ)
      → last_from found (pending ++ l ∷ []) boundary ≡ nat_le boundary l.boundary
  last_from-append [] found l boundary = refl
  last_from-append (x ∷ pending) found l boundary = last_from-append pending _ l boundary

  last_is : (all rest : List (Later T)) (l : Later T) (boundary : ℕ) → all ≡ rest ++ l ∷ [] → nat_le boundary l.boundary ≡ last_is_from all boundary
  last_is all rest l boundary is = sym (ap (λ (p : List (Later T)). last_is_from p boundary) is ∙ last_from-append rest false l boundary)

  last_at : (all : List (Later T)) (found : Bool) (n : ℕ) (d : Later T) (boundary : ℕ) → length all ≡ suc n
      → last_from found all boundary ≡ nat_le boundary (slice_index_or all n d).boundary
  last_at [] found n d boundary is = cc
  last_at (x ∷ []) found zero d boundary is = refl
  last_at (x ∷ []) found (suc n) d boundary is = cc
  last_at (x ∷ y ∷ all) found zero d boundary is = cc
  last_at (x ∷ y ∷ all) found (suc n) d boundary is = last_at (y ∷ all) (nat_le boundary x.boundary) n d boundary (omega (arith, is))

  pub last_looked : (all : List (Later T)) (x : Later T) (len boundary : ℕ) → len ≡ length all → 0 < len → x ≡ slice_index_or all (len - 1) x
      → nat_le boundary x.boundary ≡ last_is_from all boundary
  last_looked all x len boundary is some at =
      ap (λ (l : Later T). nat_le boundary l.boundary) at ∙ sym (last_at all false (len - 1) x boundary (omega (arith, is, some)))

  pub last_low : (all : List (Later T)) (boundary : ℕ) → Rises all → last_is_from all boundary ≡ false
      → AllByRecursion (λ other. other.boundary < boundary) all
  last_low [] boundary rises low = tt
  last_low (x ∷ []) boundary rises low = (is_not_come boundary x.boundary low, tt)
  last_low (x ∷ y ∷ all) boundary rises low =
      let others = last_low (y ∷ all) boundary rises.1 low in
      (omega (arith, rises.0.0, others.0), others)

  all_front : (P : Later T → Type 0) (xs ys : List (Later T)) → AllByRecursion P (xs ++ ys) → AllByRecursion P xs
  all_front P [] ys all = tt
  all_front P (x ∷ xs) ys all = (all.0, all_front P xs ys all.1)

  rises_front : (xs ys : List (Later T)) → Rises (xs ++ ys) → Rises xs
  rises_front [] ys rises = tt
  rises_front (x ∷ xs) ys rises = (all_front (λ other. x.boundary < other.boundary) xs ys rises.0, rises_front xs ys rises.1)

  pub popped_rises : (old new last : List (Later T)) → old ≡ new ++ last → Rises old → Rises new
  popped_rises old new last is rises = rises_front new last (subst Rises is rises)

  pub popped_same : (old new : List (Later T)) (last : Option (Later T)) (boundary : ℕ) → old ≡ new ++ option_to_list last
      → last_is_from old boundary ≡ true → (value : Option T) (cycle : ℕ) → cycle < boundary → later_on value new cycle ≡ later_on value old cycle
  popped_same old new None boundary is from value cycle below = sym (ap (λ (p : List (Later T)). later_on value p cycle) (is ∙ append-nil new))
  popped_same old new (Some l) boundary is from value cycle below =
      let there : nat_le boundary l.boundary ≡ true = last_is old new l boundary is ∙ from in
      let low = is_come boundary l.boundary there in
      sym (ap (λ (p : List (Later T)). later_on value p cycle) is ∙ later-append new value l cycle
      ∙ ap (λ (b : Bool). if b then l.value else later_on value new cycle) (not_come l.boundary cycle (omega (arith, low, below))))
