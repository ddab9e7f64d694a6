-- Legal histories are short, and their entries plain.
--     none_counted      where no element passes a test, none is counted
--     legal_is_bounded  a legal history keeps within its bounds
--     legal_is_plain    the entries of a legal history are plain, and fewer than 2^32
use Rattle.std.proofs.Common.{◌≡◌, ℕ, ◌+◌, ◌*◌, ◌^◌, ◌<◌, ◌≤◌, Bool, true, false, not, ◌||◌, cond, List, [], ◌∷◌, ◌++◌, length, refl, sym, ap, subst, ◌∙◌}
use Rattle.std.proofs.Common.{append_assoc, append-nil, arith, length-append}
use Rattle.std.specs.List.{count_by, list_any}
use Rattle.std.specs.Int.{div_ceil}
use Rattle.std.proofs.lemmas.Grind.{div_ceil_times}
use Rattle.std.proofs.lemmas.List.Sums.{sum_by-append, sum_by-cons}
use Rattle.tdl_fraction.specs.Units.{last_units, tick_units}
use Rattle.tdl_score.specs.declared.histories.Entry.{Entry}
use Rattle.tdl_score.specs.declared.histories.Deed.{Deed}
use Rattle.tdl_score.specs.declared.histories.Deed.TheVariants.{Swap, Look, Tick, Finish}
use Rattle.tdl_score.specs.History.{IsLegal, MayBeDone, MayFollow, boundary_of, frontier, frontier_after, frontier_from, is_finish_deed, is_tick_deed}
use Rattle.tdl_score.specs.History.{max_performed, max_ticks, performed_count, plays, tick_count}
use Rattle.tdl_score.specs.Readings.{IsReading, Reading}
use Rattle.tdl_log.proofs.OneLine.{ArePlain, IsPlain, IsPlainDeed}

frontier_from-append : (units : ℕ) (entries : List Entry) (e : Entry)
    → frontier_from units (entries ++ e ∷ []) ≡ frontier_after (frontier_from units entries) e.deed
frontier_from-append units [] e = refl
frontier_from-append units (x ∷ entries) e = frontier_from-append (frontier_after units x.deed) entries e

count_one : {X : Type 0} (p : X → Bool) (xs : List X) (x : X) → count_by p (xs ++ x ∷ []) ≡ count_by p xs + cond (p x) 1 0
count_one p xs x = sum_by-append (λ y. cond (p y) 1 0) xs (x ∷ []) ∙ ap (λ n. count_by p xs + n) (zero_before (cond (p x) 1 0))
  where
    zero_before : (n : ℕ) → 0 + n ≡ n
    zero_before n = omega arith

uncounted : (here later : Bool) (n : ℕ) → (here || later) ≡ false → (later ≡ false → n ≡ 0) → cond here 1 0 + n ≡ 0
uncounted true later n none rest = absurd (cc)
uncounted false later n none rest = omega (arith, rest none)

-- where no element passes the test, none is counted
none_counted : {X : Type 0} (p : X → Bool) (xs : List X) → list_any p xs ≡ false → count_by p xs ≡ 0
none_counted p [] none = refl
none_counted p (x ∷ xs) none =
    sum_by-cons (λ y. cond (p y) 1 0) x xs ∙ uncounted (p x) (list_any p xs) (count_by p xs) none (none_counted p xs)

abbrev pub finish_count : List Entry → ℕ
finish_count entries = count_by (λ (e : Entry). is_finish_deed e.deed) entries

-- what is known of the entries before
pub record IsBounded (entries : List Entry) : Type 0 where
  pub frontier : frontier entries ≤ last_units
  pub performed : performed_count entries ≤ max_performed
  pub ticks : tick_count entries ≤ max_ticks
  pub finishes : finish_count entries ≤ 1
  pub few : length entries ≤ performed_count entries + tick_count entries + finish_count entries

-- a boundary is below the frontier's cycle and n more
pub boundary_below : (units every : ℕ) → 1 ≤ every → every ≤ 4096 → units ≤ last_units → boundary_of units every < 2 ^ 64
boundary_below units every some most h =
    let above = (div_ceil_times units (every * tick_units) (omega arith)).1 in
    small every (div_ceil units (every * tick_units)) units h most (rw (regroup every (div_ceil units (every * tick_units)) tick_units) at above)
  where
    regroup : (e k u : ℕ) → k * (e * u) ≡ (e * k) * u
    regroup e k u = grind arith

    small : (every k units : ℕ) → units ≤ last_units → every ≤ 4096 → (every * k) * tick_units < units + every * tick_units → every * k < 2 ^ 64
    small every k units h most below = omega arith

module _ (Reads : Reading) (reading : IsReading Reads) where
  plain_deed : (before : List Entry) (who : ℕ) (deed : Deed) → IsBounded before → MayBeDone Reads before who deed → (who < 2 ^ 64) × IsPlainDeed deed
  plain_deed before who (Swap boundary text) known done =
      let good = reading.good text done.every done.change done.reads in
      let small = boundary_below (frontier before) done.every good.from_one good.to_most known.frontier in
      (omega (arith, done.performed.to_eight), (omega (arith, small, done.on_cycle), good.one_line))
  plain_deed before who Look known done = (omega (arith, done.to_eight), tt)
  plain_deed before who (Tick to) known done = (omega (arith, done.ticker), done.to_last)
  plain_deed before who Finish known done = (omega (arith, done.ticker), tt)

  pub plain_entry : (before : List Entry) (e : Entry) → IsBounded before → MayFollow Reads before e → IsPlain e
  plain_entry before e known next =
      let deed = plain_deed before e.who e.deed known next.deed in
      record { who = deed.0; frontier = omega (arith, next.frontier, known.frontier); deed = deed.1 }

  bounded_deed : (before : List Entry) (who : ℕ) (deed : Deed) → IsBounded before → MayBeDone Reads before who deed
      → (frontier_after (frontier before) deed ≤ last_units) × (performed_count before + cond (not (plays deed)) 1 0 ≤ max_performed)
      × (tick_count before + cond (is_tick_deed deed) 1 0 ≤ max_ticks) × (finish_count before + cond (is_finish_deed deed) 1 0 ≤ 1)
  bounded_deed before who (Swap boundary text) known done =
      (known.frontier, omega (arith, done.performed.room), omega (arith, known.ticks), omega (arith, known.finishes))
  bounded_deed before who Look known done = (known.frontier, omega (arith, done.room), omega (arith, known.ticks), omega (arith, known.finishes))
  bounded_deed before who (Tick to) known done =
      (done.to_last, omega (arith, known.performed), omega (arith, done.room), omega (arith, known.finishes))
  bounded_deed before who Finish known done = (
    known.frontier,
    omega (arith, known.performed),
    omega (arith, known.ticks),
    omega (arith, none_counted (λ (e : Entry). is_finish_deed e.deed) before done.going),
  )

  one_of_three : (deed : Deed) → 1 ≤ cond (not (plays deed)) 1 0 + cond (is_tick_deed deed) 1 0 + cond (is_finish_deed deed) 1 0
  one_of_three (Swap boundary text) = omega arith
  one_of_three Look = omega arith
  one_of_three (Tick to) = omega arith
  one_of_three Finish = omega arith

  bounded_more : (before : List Entry) (e : Entry) → IsBounded before → MayFollow Reads before e → IsBounded (before ++ e ∷ [])
  bounded_more before e known next =
      let deed = bounded_deed before e.who e.deed known next.deed in
      let performed = count_one (λ (x : Entry). not (plays x.deed)) before e in
      let ticks = count_one (λ (x : Entry). is_tick_deed x.deed) before e in
      let finishes = count_one (λ (x : Entry). is_finish_deed x.deed) before e in
      record {
        frontier = omega (arith, frontier_from-append 0 before e, deed.0);
        performed = omega (arith, performed, deed.1);
        ticks = omega (arith, ticks, deed.2);
        finishes = omega (arith, finishes, deed.3);
        few = omega (arith, performed, ticks, finishes, length-append before (e ∷ []), known.few, one_of_three e.deed);
      }

  walk : (before after : List Entry) → IsLegal Reads (before ++ after) → IsBounded before → ArePlain after × IsBounded (before ++ after)
  walk before [] legal known = (tt, subst IsBounded (sym (append-nil before)) known)
  walk before (e ∷ after) legal known =
      let next = legal.each before e after refl in
      let rest = walk (before ++ e ∷ []) after (subst (IsLegal Reads) (sym (append_assoc before (e ∷ []) after)) legal) (bounded_more before e known next) in
      ((plain_entry before e known next, rest.0), subst IsBounded (append_assoc before (e ∷ []) after) rest.1)

  all_bounded : (entries : List Entry) → IsLegal Reads entries → ArePlain entries × IsBounded entries
  all_bounded entries legal =
      walk [] entries legal
      (record { frontier = omega arith; performed = omega arith; ticks = omega arith; finishes = omega arith; few = omega arith })

  pub legal_is_bounded : (entries : List Entry) → IsLegal Reads entries → IsBounded entries
  legal_is_bounded entries legal = (all_bounded entries legal).1

  pub legal_is_plain : (entries : List Entry) → IsLegal Reads entries → ArePlain entries × (length entries < 2 ^ 32)
  legal_is_plain entries legal =
      let all = all_bounded entries legal in
      (all.0, omega (arith, all.1.few, all.1.performed, all.1.ticks, all.1.finishes))
