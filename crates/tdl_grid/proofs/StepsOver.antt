-- What the steps of a sequence give and take in counts, by what they give and take in times.
use Rattle.std.proofs.Common.{◌≡◌, ℕ, ◌*◌, ◌<◌, ◌≤◌, List, ◌++◌, length, take, drop, map, Option, Result, ℤ}
use Rattle.std.proofs.Common.{sym, ap, ◌∙◌, subst, arith}
use Rattle.std.proofs.Math.Nat.{mul-pos}
use Rattle.std.specs.Option.{option_map}
use Rattle.std.proofs.lemmas.List.{drop_at}
use Rattle.tdl_control.specs.declared.faults.NoMemory.{NoMemory}
use Rattle.tdl_fraction.specs.Range.{InRange}
use Rattle.tdl_event.specs.Event.{Event}
use Rattle.tdl_expr.specs.Tree.{Tree}
use Rattle.tdl_meaning.specs.Pattern.{moved, squeezed}
use Rattle.tdl_meaning.specs.Meaning.{cyc}
use Rattle.tdl_meaning.specs.Proper.{Each}
use Rattle.tdl_meaning.specs.Ranges.{HasEnds}
use Rattle.tdl_meaning.specs.inside.Arcs.{over_met, step_ask}
use Rattle.tdl_meaning.proofs.Added.{from_within}
use Rattle.tdl_visits.specs.inside.Visits.{visits, if_met}
use Rattle.tdl_grid.specs.Span.{Span, arc_of}
use Rattle.tdl_grid.specs.Step.{IsStep, step_delay, asked_step}
use Rattle.tdl_grid.specs.Item.{Item, Adds, HasCounts, delayed, event_of}
use Rattle.tdl_grid.specs.declared.steps.Step.{Step}
use Rattle.tdl_grid.specs.inside.Visited.{Gains}
use Rattle.tdl_grid.proofs.Sums.{read}
use Rattle.tdl_grid.proofs.Shares.{delay_passed}
use Rattle.tdl_grid.proofs.Moved.{adds_moved, counts_fit}
use Rattle.tdl_grid.proofs.Sequences.{step_asked, items_squeezed}

-- ---- a step
module _ (e : Tree) (s : Step) (a : Span) (is : IsStep s) where
  -- what a step gives and takes, where it is asked for this
  abbrev pub StepGains : Option Span → Result (Unit {0}) NoMemory → List Item → List Item → ℕ → ℕ → ℕ → Type 0
  StepGains met result out out' s0 s1 most =
      Gains (s.width * s.total) (map (moved (squeezed s.cycle s.before s.weight s.total)) (over_met (cyc e) (option_map (arc_of (s.width * s.weight)) met)))
      (if_met (visits e s.cycle) (option_map (arc_of (s.width * s.weight)) met)) most result out out' s0 s1

  some : 0 < s.total
  some = omega (arith, is.weight, is.within)

  asks : step_ask s.cycle s.before s.weight s.total (arc_of (s.width * s.total) a)
      ≡ option_map (arc_of (s.width * s.weight)) (asked_step s.cycle s.before s.weight s.total s.width a)
  asks = step_asked s.cycle s.before s.weight s.total s.width is.weight some is.width a

  -- where the span that is asked is this
  pub step_gains : (met : Option Span) → asked_step s.cycle s.before s.weight s.total s.width a ≡ met → (result : Result (Unit {0}) NoMemory)
      (out out' : List Item) (s0 s1 most : ℕ) → StepGains met result out out' s0 s1 most
      → (let asked = step_ask s.cycle s.before s.weight s.total (arc_of (s.width * s.total) a) in
      Gains (s.width * s.total) (map (moved (squeezed s.cycle s.before s.weight s.total)) (over_met (cyc e) asked))
      (if_met (visits e s.cycle) asked) most result out out' s0 s1)
  step_gains met asked result out out' s0 s1 most h =
      subst (λ m. Gains (s.width * s.total) (map (moved (squeezed s.cycle s.before s.weight s.total)) (over_met (cyc e) m))
      (if_met (visits e s.cycle) m) most result out out' s0 s1)
      (sym (asks ∙ ap (option_map (arc_of (s.width * s.weight))) asked)) h

-- its answer, moved into its share
module _ (s : Step) (is : IsStep s) where
  total : 0 < s.total
  total = omega (arith, is.weight, is.within)

  -- the delay, as the program reads it
  pub delay_is : (by : ℤ) → by ≡ step_delay s.cycle s.before s.weight s.total s.width → read by ≡ step_delay s.cycle s.before s.weight s.total s.width
  delay_is = delay_passed s.cycle s.before s.weight s.total s.width is.weight is.within is.width is.small is.first is.last

  pub delayed_within : (events : List Event) (old mid : List Item) (n : ℕ) → n ≡ length old → Adds (s.width * s.weight) old mid events → n ≤ length mid
  delayed_within events old mid n at adds = from_within old mid adds.made n at adds.behind

  module _ (events : List Event) (old mid : List Item) (n : ℕ) (by : ℤ) (at : n ≡ length old)
      (adds : Adds (s.width * s.weight) old mid events) (delay : by ≡ step_delay s.cycle s.before s.weight s.total s.width) where
    own : drop n mid ≡ adds.made
    own = ap (drop n) adds.behind ∙ drop_at old adds.made n (sym at)

    same : (items : List Item) → map (event_of (s.width * s.total)) (map (delayed (step_delay s.cycle s.before s.weight s.total s.width)) items)
        ≡ map (moved (squeezed s.cycle s.before s.weight s.total)) (map (event_of (s.width * s.weight)) items)
    same = items_squeezed s.cycle s.before s.weight s.total s.width is.weight total is.width

    pub delayed_fit : Each (HasEnds InRange) (map (moved (squeezed s.cycle s.before s.weight s.total)) events) → Each HasCounts (map (delayed by) (drop n mid))
    delayed_fit fit =
        let all = ap (λ k. map (delayed k) (drop n mid)) delay ∙ ap (map (delayed (step_delay s.cycle s.before s.weight s.total s.width))) own in
        subst (Each HasCounts) (sym all)
        (counts_fit (s.width * s.total) (mul-pos is.width total) is.small (map (delayed (step_delay s.cycle s.before s.weight s.total s.width)) adds.made)
        (subst (Each (HasEnds InRange)) (sym (same adds.made ∙ ap (map (moved (squeezed s.cycle s.before s.weight s.total))) adds.plays)) fit))

    pub delayed_adds : (new : List Item) → new ≡ take n mid ++ map (delayed by) (drop n mid)
        → Adds (s.width * s.total) old new (map (moved (squeezed s.cycle s.before s.weight s.total)) events)
    delayed_adds new put =
        let d = step_delay s.cycle s.before s.weight s.total s.width in
        adds_moved (s.width * s.total) (s.width * s.weight) (delayed d) (moved (squeezed s.cycle s.before s.weight s.total)) same old mid new events adds
        (put ∙ ap (λ k. take n mid ++ map (delayed k) (drop n mid)) delay ∙ ap (λ m. take m mid ++ map (delayed d) (drop m mid)) at)

-- in the unit that the counts of the steps come to
pub in_unit : (e : Tree) (c : ℤ) (o w W : ℕ) (a : Span) (v u : ℕ) → v ≡ u → (result : Result (Unit {0}) NoMemory) (out out' : List Item) (s0 s1 most : ℕ)
    → Gains v (map (moved (squeezed c o w W)) (over_met (cyc e) (step_ask c o w W (arc_of v a)))) (if_met (visits e c) (step_ask c o w W (arc_of v a)))
    most result out out' s0 s1
    → Gains u (map (moved (squeezed c o w W)) (over_met (cyc e) (step_ask c o w W (arc_of u a)))) (if_met (visits e c) (step_ask c o w W (arc_of u a)))
    most result out out' s0 s1
in_unit e c o w W a v u same result out out' s0 s1 most h =
    subst (λ k. Gains k (map (moved (squeezed c o w W)) (over_met (cyc e) (step_ask c o w W (arc_of k a))))
    (if_met (visits e c) (step_ask c o w W (arc_of k a))) most result out out' s0 s1) same h
