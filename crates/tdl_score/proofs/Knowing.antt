-- What is known of a history that grows.
--     tells_performed    with a swap or a look more
--     tells_ticked       with a tick more
--     tells_finished     with the finish
use Rattle.std.proofs.Common.{◌≡◌, ℕ, ◌+◌, Bool, true, false, not, ◌||◌, cond, List, [], ◌∷◌, ◌++◌, length, refl, sym, ap, ◌∙◌, arith, length-append}
use Rattle.tdl_score.specs.declared.histories.Entry.{Entry}
use Rattle.tdl_score.specs.declared.histories.Deed.{Deed}
use Rattle.tdl_score.specs.declared.histories.Deed.TheVariants.{Tick, Finish}
use Rattle.tdl_score.specs.declared.known.Known.{Known}
use Rattle.tdl_score.specs.History.{frontier, frontier_after, is_finish_deed, is_finished, is_tick_deed, performed_count, plays, tick_count}
use Rattle.tdl_score.specs.Known.{Tells}
use Rattle.tdl_score.proofs.Entries.{frontier-append, performed_count-append, stays, still_finished, tick_count-append, is_finished-append}

module _ (known : Known) (entries : List Entry) (e : Entry) (tells : Tells known entries) where
  place_with : known.place + 1 ≡ length (entries ++ e ∷ [])
  place_with = omega (arith, tells.place, length-append entries (e ∷ []))

  pub tells_performed : plays e.deed ≡ false
      → (let next : Known = record known { place = known.place + 1; performed = known.performed + 1 } in Tells next (entries ++ e ∷ []))
  tells_performed quiet = record {
    place = place_with;
    frontier = tells.frontier ∙ sym (frontier-append entries e ∙ stays (frontier entries) e.deed quiet);
    performed = ap (λ n. n + 1) tells.performed
        ∙ sym (performed_count-append entries e ∙ ap (λ b. performed_count entries + cond (not b) 1 0) quiet);
    ticks = tells.ticks ∙ sym (tick_count-append entries e ∙ ap (λ b. tick_count entries + cond b 1 0) (no_tick (is_tick_deed e.deed) (is_finish_deed e.deed) quiet)
        ∙ none (tick_count entries));
    finished = tells.finished ∙ sym (still_finished entries e quiet);
  }
    where
      no_tick : (t f : Bool) → (t || f) ≡ false → t ≡ false
      no_tick true f none = cc
      no_tick false f none = refl

      none : (n : ℕ) → n + 0 ≡ n
      none n = omega arith

  pub tells_ticked : (to : ℕ) → e.deed ≡ Tick to
      → (let next : Known = record known { place = known.place + 1; frontier = to; ticks = known.ticks + 1 } in Tells next (entries ++ e ∷ []))
  tells_ticked to is = record {
    place = place_with;
    frontier = sym (frontier-append entries e ∙ ap (frontier_after (frontier entries)) is);
    performed = tells.performed ∙ sym (performed_count-append entries e ∙ ap (λ (d : Deed). performed_count entries + cond (not (plays d)) 1 0) is
        ∙ none (performed_count entries));
    ticks = ap (λ n. n + 1) tells.ticks ∙ sym (tick_count-append entries e ∙ ap (λ (d : Deed). tick_count entries + cond (is_tick_deed d) 1 0) is);
    finished = tells.finished ∙ sym (is_finished-append entries e ∙ ap (λ (d : Deed). is_finished entries || is_finish_deed d) is ∙ unchanged (is_finished entries));
  }
    where
      none : (n : ℕ) → n + 0 ≡ n
      none n = omega arith

      unchanged : (b : Bool) → (b || false) ≡ b
      unchanged true = refl
      unchanged false = refl

  pub tells_finished : e.deed ≡ Finish
      → (let next : Known = record known { place = known.place + 1; finished = true } in Tells next (entries ++ e ∷ []))
  tells_finished is = record {
    place = place_with;
    frontier = tells.frontier ∙ sym (frontier-append entries e ∙ ap (frontier_after (frontier entries)) is);
    performed = tells.performed ∙ sym (performed_count-append entries e ∙ ap (λ (d : Deed). performed_count entries + cond (not (plays d)) 1 0) is
        ∙ none (performed_count entries));
    ticks = tells.ticks ∙ sym (tick_count-append entries e ∙ ap (λ (d : Deed). tick_count entries + cond (is_tick_deed d) 1 0) is ∙ none (tick_count entries));
    finished = sym (is_finished-append entries e ∙ ap (λ (d : Deed). is_finished entries || is_finish_deed d) is ∙ set (is_finished entries));
  }
    where
      none : (n : ℕ) → n + 0 ≡ n
      none n = omega arith

      set : (b : Bool) → (b || true) ≡ true
      set true = refl
      set false = refl
