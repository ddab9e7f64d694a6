-- What a tree has in an arc, by what its children have in the arcs that it asks for.
use Rattle.std.proofs.Common.{◌≡◌, ℕ, zero, suc, ◌+◌, Bool, true, false, Contains, List, ◌++◌, map, length, get_or, ℤ, pos, ◌+ℤ◌, ◌-ℤ◌, refl, sym}
use Rattle.std.proofs.Common.{ap, ap₂, ◌∙◌}
use Rattle.std.specs.List.{flat_map}
use Rattle.tdl_control.specs.declared.leaves.Leaf.{Leaf}
use Rattle.tdl_control.specs.declared.leaves.Leaf.TheVariants.{Controls, Truth, Index}
use Rattle.tdl_fraction.specs.Rational.{Rational, whole, ◌+ℚ◌, ◌*ℚ◌, ◌/ℚ◌}
use Rattle.tdl_fraction.specs.Arc.{Arc}
use Rattle.tdl_event.specs.Event.{Event, clip}
use Rattle.tdl_expr.specs.declared.joinings.Side.TheVariants.{Left, Right, Both}
use Rattle.tdl_expr.specs.Tree.{Tree, Silence, Pure, Fast, TimeCat, Cat, Stack, Rev, Pick, When, Shift, Join, Ply, Gate, Trees, empty, child, Steps, none}
use Rattle.tdl_expr.specs.Tree.{step}
use Rattle.tdl_expr.specs.Valid.{IsValid}
use Rattle.tdl_meaning.specs.Pattern.{Pattern, over, moved, cycles_of, cycle_arc, silence, fast, squeezed, total_weight, steps_from, time_cat}
use Rattle.tdl_meaning.specs.Pattern.{rounds, turn, cat, stack, turned, rev, picked, pick}
use Rattle.tdl_meaning.specs.Kinds.{Joining, one_of, when, earlier, shift, gate, fragments, ply, with_left, with_right, with_both}
use Rattle.tdl_meaning.specs.Kinds.{join_left, join_right, join_both}
use Rattle.tdl_meaning.specs.Values.{meets, value_of}
use Rattle.tdl_meaning.specs.Meaning.{cyc, patterns, weighted}
use Rattle.tdl_meaning.specs.Asks.{IsChild, here, there, IsStep, first, later, IsCycleOf, Asks}
use Rattle.tdl_meaning.specs.Asks as asks
use Rattle.tdl_meaning.specs.Enough.{each_tree, each_step, with_children, HasAsked, EnoughLaw}
use Rattle.tdl_meaning.proofs.Flat.{flat_map_same_each}
use Rattle.tdl_meaning.proofs.Overs.{each_cycle}
use Rattle.tdl_meaning.proofs.Cuts.{over_cycle}
use Rattle.tdl_meaning.proofs.Proper.{proper}
use Rattle.tdl_meaning.proofs.Asked.{child_is_valid, step_is_valid}
use Rattle.tdl_meaning.proofs.PlainLemmas.{each_contained_in}

-- what is made of each event that a list has
same_for_each : (f g : Event → List Event) (es : List Event) → ((e : Event) → Contains es e → f e ≡ g e) → flat_map f es ≡ flat_map g es
same_for_each f g es same = flat_map_same_each (Contains es) f g same es (each_contained_in (Contains es) es (λ e in_it. in_it))

-- ---- combinators of patterns that agree where these are asked
fast_kept : (r : Rational) (x y : Pattern) (c : ℤ)
    → let a : Arc = record { start = whole c *ℚ r; stop = whole (c +ℤ pos 1) *ℚ r } in
    over x a ≡ over y a → fast r x c ≡ fast r y c
unfolding fast
fast_kept r x y c same = ap (map (moved (λ t. t /ℚ r))) same

shift_kept : (t : Rational) (x y : Pattern) (c : ℤ) → over x (earlier t c) ≡ over y (earlier t c) → shift t x c ≡ shift t y c
unfolding shift
shift_kept t x y c same = ap (map (moved (λ u. u +ℚ t))) same

rev_kept : (x y : Pattern) (c : ℤ) → x c ≡ y c → rev x c ≡ rev y c
unfolding rev
rev_kept x y c same = ap (map (λ (e : Event). record { whole = turned c e.whole; part = turned c e.part; value = e.value })) same

ply_kept : (n : ℕ) (x y : Pattern) (c : ℤ) → x c ≡ y c → ply n x c ≡ ply n y c
unfolding ply
ply_kept n x y c same = ap (flat_map (fragments n)) same

gate_kept : (from to : Rational) (inside : Bool) (x y : Pattern) (c : ℤ) → x c ≡ y c → gate from to inside x c ≡ gate from to inside y c
unfolding gate
gate_kept from to inside x y c same = ap (λ es. gate from to inside (λ d. es) c) same

when_kept : (modulus : ℕ) (test : ℕ → Bool) (x y u v : Pattern) (c : ℤ) → (test (turn c modulus) ≡ true → x c ≡ u c)
    → (test (turn c modulus) ≡ false → y c ≡ v c) → when modulus test x y c ≡ when modulus test u v c
unfolding when
when_kept modulus test x y u v c met other = by (test (turn c modulus)) met other
  where
    by : (b : Bool) → (b ≡ true → x c ≡ u c) → (b ≡ false → y c ≡ v c) → one_of b x y c ≡ one_of b u v c
    by true met other = met refl
    by false met other = other refl

left_kept : (v : Joining) (x y u w : Pattern) (c : ℤ) → x c ≡ u c → ((l : Event) → Contains (u c) l → over y l.whole ≡ over w l.whole)
    → join_left v x y c ≡ join_left v u w c
unfolding join_left
left_kept v x y u w c same other =
    ap (flat_map (λ l. flat_map (λ r. with_left v l r) (over y l.whole))) same
    ∙ same_for_each (λ l. flat_map (λ r. with_left v l r) (over y l.whole)) (λ l. flat_map (λ r. with_left v l r) (over w l.whole)) (u c)
    (λ l in_it. ap (flat_map (λ r. with_left v l r)) (other l in_it))

right_kept : (v : Joining) (x y u w : Pattern) (c : ℤ) → y c ≡ w c → ((r : Event) → Contains (w c) r → over x r.whole ≡ over u r.whole)
    → join_right v x y c ≡ join_right v u w c
unfolding join_right
right_kept v x y u w c same other =
    ap (flat_map (λ r. flat_map (λ l. with_right v l r) (over x r.whole))) same
    ∙ same_for_each (λ r. flat_map (λ l. with_right v l r) (over x r.whole)) (λ r. flat_map (λ l. with_right v l r) (over u r.whole)) (w c)
    (λ r in_it. ap (flat_map (λ l. with_right v l r)) (other r in_it))

both_kept : (v : Joining) (x y u w : Pattern) (c : ℤ) → x c ≡ u c → y c ≡ w c → join_both v x y c ≡ join_both v u w c
unfolding join_both
both_kept v x y u w c left right = ap₂ (λ ls rs. flat_map (λ l. flat_map (λ r. with_both v l r) rs) ls) left right

-- ---- children
module _ (f : Tree → Tree) where
  child_there : {k : ℕ} {trees : Trees} {e : Tree} → IsChild k trees e → IsChild k (each_tree f trees) (f e)
  child_there (here {e = e} {trees = trees}) = here
  child_there (there {k = k} {d = d} {trees = trees} h) = there (child_there h)

  step_there : {w : ℕ} {steps : Steps} {e : Tree} → IsStep w steps e → IsStep w (each_step f steps) (f e)
  step_there (first {e = e} {steps = steps}) = first
  step_there (later {v = v} {d = d} {steps = steps} h) = later (step_there h)

  as_many : (trees : Trees) → length (patterns (each_tree f trees)) ≡ length (patterns trees)
  as_many empty = refl
  as_many (child e trees) = ap suc (as_many trees)

  as_heavy : (steps : Steps) → total_weight (weighted (each_step f steps)) ≡ total_weight (weighted steps)
  as_heavy none = refl
  as_heavy (step w e steps) = ap (λ n. w + n) (as_heavy steps)

  -- the child at a place, or silence where there is none
  at_place : (Q : Pattern → Pattern → Type 0) → Q silence silence → (trees : Trees) (k : ℕ) → ((e : Tree) → IsChild k trees e → Q (cyc (f e)) (cyc e))
      → Q (get_or (patterns (each_tree f trees)) k silence) (get_or (patterns trees) k silence)
  at_place Q still empty k same = still
  at_place Q still (child e trees) zero same = same e here
  at_place Q still (child e trees) (suc k) same = at_place Q still trees k (λ d is. same d (there is))

  stack_kept : (trees : Trees) (c : ℤ) → ((k : ℕ) (e : Tree) → IsChild k trees e → cyc (f e) c ≡ cyc e c)
      → stack (patterns (each_tree f trees)) c ≡ stack (patterns trees) c
  unfolding stack
  stack_kept empty c same = refl
  stack_kept (child e trees) c same = ap₂ (λ xs ys. xs ++ ys) (same 0 e here) (stack_kept trees c (λ k d is. same (suc k) d (there is)))

  cat_kept : (trees : Trees) (c : ℤ)
      → let n = length (patterns trees) in
      ((e : Tree) → IsChild (turn c n) trees e → cyc (f e) (rounds c n) ≡ cyc e (rounds c n)) → cat (patterns (each_tree f trees)) c ≡ cat (patterns trees) c
  unfolding cat
  cat_kept trees c same =
      let n = length (patterns trees) in
      let ps = patterns (each_tree f trees) in
      ap (λ n. map (moved (λ t. t +ℚ whole (c -ℤ rounds c n))) (get_or ps (turn c n) silence (rounds c n))) (as_many trees)
      ∙ ap (map (moved (λ t. t +ℚ whole (c -ℤ rounds c n)))) (at_place (λ x y. x (rounds c n) ≡ y (rounds c n)) refl trees (turn c n) same)

  steps_kept : (W o : ℕ) (steps : Steps) (c : ℤ) → ((w : ℕ) (e : Tree) → IsStep w steps e → cyc (f e) c ≡ cyc e c)
      → steps_from W o (weighted (each_step f steps)) c ≡ steps_from W o (weighted steps) c
  steps_kept W o none c same = refl
  steps_kept W o (step w e steps) c same =
      ap₂ (λ xs ys. map (moved (squeezed c o w W)) xs ++ ys) (same w e first) (steps_kept W (o + w) steps c (λ v d is. same v d (later is)))

  time_cat_kept : (steps : Steps) (c : ℤ) → ((w : ℕ) (e : Tree) → IsStep w steps e → cyc (f e) c ≡ cyc e c)
      → time_cat (weighted (each_step f steps)) c ≡ time_cat (weighted steps) c
  unfolding time_cat
  time_cat_kept steps c same =
      ap (λ W. steps_from W 0 (weighted (each_step f steps)) c) (as_heavy steps) ∙ steps_kept (total_weight (weighted steps)) 0 steps c same

  pick_kept : (x y : Pattern) (trees : Trees) (c : ℤ) → x c ≡ y c
      → ((e : Event) → Contains (y c) e → (k : ℕ) → e.value ≡ Index k → (d : Tree) → IsChild k trees d → over (cyc (f d)) e.part ≡ over (cyc d) e.part)
      → pick x (patterns (each_tree f trees)) c ≡ pick y (patterns trees) c
  unfolding pick
  pick_kept x y trees c same other =
      ap (flat_map (λ e. picked (patterns (each_tree f trees)) e.part e.value)) same
      ∙ same_for_each (λ e. picked (patterns (each_tree f trees)) e.part e.value) (λ e. picked (patterns trees) e.part e.value) (y c)
      (λ e in_it. by e in_it e.value refl)
    where
      by : (e : Event) → Contains (y c) e → (v : Leaf) → e.value ≡ v → picked (patterns (each_tree f trees)) e.part v ≡ picked (patterns trees) e.part v
      by e in_it (Controls controls) is = refl
      by e in_it (Truth truth) is = refl
      by e in_it (Index k) is = at_place (λ x y. over x e.part ≡ over y e.part) refl trees k (other e in_it k is)

-- ---- kind by kind
module _ (q m : ℕ) (f : Tree → Tree) (a : Arc) where
  -- a child that is asked for a cycle has the same cycle
  cycle_kept : (d : Tree) → IsValid d → IsValid (f d) → (c : ℤ) → over (cyc (f d)) (cycle_arc c) ≡ over (cyc d) (cycle_arc c) → cyc (f d) c ≡ cyc d c
  cycle_kept d valid replaced c same = sym (over_cycle (cyc (f d)) (proper (f d) replaced) c) ∙ same ∙ over_cycle (cyc d) (proper d valid) c

  by_kind : (e : Tree) → IsValid e → IsValid (with_children f e) → HasAsked q m f e a → (c : ℤ) → IsCycleOf a c → cyc (with_children f e) c ≡ cyc e c
  by_kind Silence valid replaced has c is = refl
  by_kind (Pure v) valid replaced has c is = refl
  by_kind (Fast r e) valid replaced has c is = fast_kept r (cyc (f e)) (cyc e) c (has _ _ e _ (asks.fast is))
  by_kind (TimeCat steps) valid replaced has c is =
      time_cat_kept f steps c
      (λ w e at. cycle_kept e (step_is_valid at valid.1).1 (step_is_valid (step_there f at) replaced.1).1 c (has _ _ e _ (asks.time_cat is at)))
  by_kind (Cat trees) valid replaced has c is =
      cat_kept f trees c
      (λ e at. cycle_kept e (child_is_valid at valid) (child_is_valid (child_there f at) replaced) (rounds c (length (patterns trees)))
      (has _ _ e _ (asks.cat is at)))
  by_kind (Stack trees) valid replaced has c is =
      stack_kept f trees c (λ k e at. cycle_kept e (child_is_valid at valid) (child_is_valid (child_there f at) replaced) c (has _ _ e _ (asks.stack is at)))
  by_kind (Rev e) valid replaced has c is = rev_kept (cyc (f e)) (cyc e) c (cycle_kept e valid replaced c (has _ _ e _ (asks.rev is)))
  by_kind (Pick s trees) valid replaced has c is =
      pick_kept f (cyc (f s)) (cyc s) trees c (cycle_kept s valid.0 replaced.0 c (has _ _ s _ (asks.selector is)))
      (λ e in_it k names d at. has _ _ d _ (asks.chosen is in_it names at))
  by_kind (When modulus test d e) valid replaced has c is =
      when_kept modulus (meets test) (cyc (f d)) (cyc (f e)) (cyc d) (cyc e) c (λ met. cycle_kept d valid.1 replaced.1 c (has _ _ d _ (asks.met is met)))
      (λ other. cycle_kept e valid.2 replaced.2 c (has _ _ e _ (asks.other is other)))
  by_kind (Shift t e) valid replaced has c is = shift_kept t (cyc (f e)) (cyc e) c (has _ _ e _ (asks.shift is))
  by_kind (Join Left op d e) valid replaced has c is =
      left_kept (value_of op) (cyc (f d)) (cyc (f e)) (cyc d) (cyc e) c (cycle_kept d valid.0 replaced.0 c (has _ _ d _ (asks.left is)))
      (λ l in_it. has _ _ e _ (asks.right_of_left is in_it))
  by_kind (Join Right op d e) valid replaced has c is =
      right_kept (value_of op) (cyc (f d)) (cyc (f e)) (cyc d) (cyc e) c (cycle_kept e valid.1 replaced.1 c (has _ _ e _ (asks.right is)))
      (λ r in_it. has _ _ d _ (asks.left_of_right is in_it))
  by_kind (Join Both op d e) valid replaced has c is =
      both_kept (value_of op) (cyc (f d)) (cyc (f e)) (cyc d) (cyc e) c (cycle_kept d valid.0 replaced.0 c (has _ _ d _ (asks.left_of_both is)))
      (cycle_kept e valid.1 replaced.1 c (has _ _ e _ (asks.right_of_both is)))
  by_kind (Ply n e) valid replaced has c is = ply_kept n (cyc (f e)) (cyc e) c (cycle_kept e valid.1 replaced.1 c (has _ _ e _ (asks.ply is)))
  by_kind (Gate from to inside e) valid replaced has c is =
      gate_kept from to inside (cyc (f e)) (cyc e) c (cycle_kept e valid replaced c (has _ _ e _ (asks.gate is)))

pub enough : EnoughLaw
unfolding over
enough q m f e a valid replaced is_arc has =
    flat_map_same_each (IsCycleOf a) (λ c. clip a (cyc (with_children f e) c)) (λ c. clip a (cyc e c))
    (λ c is. ap (clip a) (by_kind q m f a e valid replaced has c is)) (cycles_of a) (each_cycle a is_arc)
