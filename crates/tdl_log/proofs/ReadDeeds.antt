-- What was done, and lines that tell of it.
--     plain_of, plain_fields   what is no swap
--     unswapped                a text that does not begin as a swap's tells of none
--     units_once               times are told by their tick units
--     plain_once               looks, ticks and the finish are told by their texts
--     no_swap                  a text that begins as a swap's tells of nothing else
--     no_plain                 a text that tells of no look, no finish and no tick
--     uncut                    a text without a blank tells of no swap
--     swap_parts, swap_once    how the text of a swap is cut, and that it has one boundary
--     may_who                  callers are at most 8
--     as_front, front_once     who made an entry, and what was done, are told by its line
use Rattle.std.proofs.Common.{◌≡◌, ℕ, ◌^◌, ◌<◌, ◌≤◌, Bool, true, false, ◌||◌, ◌==◌, List, [], ◌∷◌, ◌++◌, refl, sym, ap, subst, ◌∙◌, arith}
use Rattle.std.specs.Prelude.{codes}
use Rattle.std.specs.Fmt.{decimal}
use Rattle.std.proofs.lemmas.Fmt.{decimal_injective}
use Rattle.std.proofs.lemmas.List.{append_cancel_left}
use Rattle.tdl_fraction.specs.Units.{last_units, time_of}
use Rattle.tdl_fraction.proofs.Order.{≢_from_<ℚ}
use Rattle.tdl_fraction.proofs.UnitTimes.{units-lt}
use Rattle.tdl_score.specs.declared.histories.Entry.{Entry}
use Rattle.tdl_score.specs.declared.histories.Deed.{Deed}
use Rattle.tdl_score.specs.declared.histories.Deed.TheVariants.{Swap, Look, Tick, Finish}
use Rattle.tdl_score.specs.History.{IsSwapAfter, MayBeDone, boundary_of, frontier}
use Rattle.tdl_score.specs.Readings.{IsReading, Reading}
use Rattle.tdl_log.specs.LogText.{deed_text, entry_line, place_text, tick_text}
use Rattle.tdl_log.specs.LineKinds.{has}
use Rattle.tdl_log.specs.inside.Deeds.{IsPlain, IsSwapAt, MayBePlain}
use Rattle.tdl_log.specs.inside.Fronts.{IsCutAt, front_of}
use Rattle.tdl_log.proofs.CutLines.{cut_once, fronts_differ}
use Rattle.tdl_log.proofs.OneLine.{IsPlainDeed, deed_once}
use Rattle.tdl_log.proofs.PlainBytes.{decimal_lacks}
use Rattle.tdl_log.proofs.Printable.{boundary_below}
use Rattle.tdl_log.proofs.ReadFronts.{behind_blank, cut_lacks}

pub plain_of : (entries : List Entry) (who : ℕ) (deed : Deed) → MayBePlain entries who deed → IsPlain deed
plain_of entries who (Swap boundary text) may = may
plain_of entries who Look may = tt
plain_of entries who (Tick to) may = may.to_last
plain_of entries who Finish may = tt

plain_fields : (deed : Deed) → IsPlain deed → IsPlainDeed deed
plain_fields (Swap boundary text) plain = absurd plain
plain_fields Look plain = tt
plain_fields (Tick to) plain = plain
plain_fields Finish plain = tt

pub unswapped : (Reads : Reading) (entries : List Entry) (who : ℕ) (said : List ℕ) → ((left : List ℕ) → said ≡ codes "swap " ++ left → ⊥)
    → (deed : Deed) → MayBeDone Reads entries who deed → said ≡ deed_text deed → MayBePlain entries who deed
unswapped Reads entries who said none (Swap boundary text) may e = none (decimal boundary ++ 32 ∷ text) e
unswapped Reads entries who said none Look may e = may
unswapped Reads entries who said none (Tick to) may e = may
unswapped Reads entries who said none Finish may e = may

pub plain_once : (text : List ℕ) (one other : Deed) → IsPlain one → IsPlain other → text ≡ deed_text one → text ≡ deed_text other → one ≡ other
plain_once text one other p q e f = deed_once one other (plain_fields one p) (plain_fields other q) (sym e ∙ f)

-- ---- times
pub units_once : (m n : ℕ) → time_of m ≡ time_of n → m ≡ n
units_once m n e = neither_below m n (λ h. ≢_from_<ℚ (units-lt m n h) e) (λ h. ≢_from_<ℚ (units-lt n m h) (sym e))
  where
    neither_below : (m n : ℕ) → (m < n → ⊥) → (n < m → ⊥) → m ≡ n
    neither_below m n p q = omega arith

-- ---- looks, the finish and ticks
pub no_plain : (text : List ℕ) → (text ≡ codes "look" → ⊥) → (text ≡ codes "finish" → ⊥)
    → ((to : ℕ) → to ≤ last_units → text ≡ tick_text to → ⊥) → (deed : Deed) → IsPlain deed → text ≡ deed_text deed → ⊥
no_plain text look finish tick (Swap boundary said) plain e = plain
no_plain text look finish tick Look plain e = look e
no_plain text look finish tick (Tick to) plain e = tick to plain e
no_plain text look finish tick Finish plain e = finish e

-- ---- swaps
pub no_swap : (Reads : Reading) (entries : List Entry) (who : ℕ) (said : List ℕ)
    → ((boundary : ℕ) (text : List ℕ) → IsSwapAfter Reads entries who boundary text → said ≡ decimal boundary ++ 32 ∷ text → ⊥)
    → (deed : Deed) → MayBeDone Reads entries who deed → codes "swap " ++ said ≡ deed_text deed → ⊥
no_swap Reads entries who said none (Swap boundary text) may e =
    none boundary text may (append_cancel_left (codes "swap ") said (decimal boundary ++ 32 ∷ text) e)
no_swap Reads entries who said none Look may e = fronts_differ (codes "swap " ++ said) (codes "look") e refl
no_swap Reads entries who said none (Tick to) may e = fronts_differ (codes "swap " ++ said) (tick_text to) e refl
no_swap Reads entries who said none Finish may e = fronts_differ (codes "swap " ++ said) (codes "finish") e refl

blank_stands : (front left : List ℕ) → has 32 (front ++ 32 ∷ left) ≡ true
blank_stands [] left = refl
blank_stands (byte ∷ front) left = ap (λ (b : Bool). (byte == 32) || b) (blank_stands front left) ∙ either (byte == 32)
  where
    either : (t : Bool) → (t || true) ≡ true
    either true = refl
    either false = refl

pub uncut : (said : List ℕ) → has 32 said ≡ false → (boundary : ℕ) (text : List ℕ) → said ≡ decimal boundary ++ 32 ∷ text → ⊥
uncut said none boundary text e = let stands : has 32 said ≡ true = ap (has 32) e ∙ blank_stands (decimal boundary) text in cc

module _ (Reads : Reading) (reading : IsReading Reads) where
  swap_below : (entries : List Entry) (who boundary : ℕ) (text : List ℕ) → frontier entries ≤ last_units → IsSwapAfter Reads entries who boundary text
      → boundary < 2 ^ 64
  swap_below entries who boundary text near may =
      let good = reading.good text may.every may.change may.reads in
      omega (arith, boundary_below (frontier entries) may.every good.from_one good.to_most near, may.on_cycle)

  pub swap_parts : (entries : List Entry) (who units boundary : ℕ) (said number left text : List ℕ) → units ≡ frontier entries → units ≤ last_units
      → IsCutAt 32 said number left → IsSwapAfter Reads entries who boundary text → said ≡ decimal boundary ++ 32 ∷ text
      → (number ≡ decimal boundary) × IsSwapAt Reads units boundary left
  swap_parts entries who units boundary said number left text told near cut may e =
      let below = swap_below entries who boundary text (omega arith) may in
      let both = cut_once 32 number (decimal boundary) left text (cut_lacks 32 number cut.first) (decimal_lacks 32 boundary (omega arith) below)
      (sym cut.joined ∙ e) in (
        both.0,
        record {
          every = may.every;
          change = may.change;
          reads = let P : List ℕ → Type 0 = λ xs. Reads xs may.every may.change in subst P (sym both.1) may.reads;
          on_cycle = may.on_cycle ∙ ap (λ (u : ℕ). boundary_of u may.every) (sym told);
        },
      )

  pub swap_once : (units m n : ℕ) (text : List ℕ) → IsSwapAt Reads units m text → IsSwapAt Reads units n text → m ≡ n
  swap_once units m n text p q =
      p.on_cycle ∙ ap (boundary_of units) (reading.one_every text p.every q.every p.change q.change p.reads q.reads) ∙ sym q.on_cycle

-- ---- entries
pub may_who : (Reads : Reading) (entries : List Entry) (who : ℕ) (deed : Deed) → MayBeDone Reads entries who deed → who ≤ 8
may_who Reads entries who (Swap boundary text) may = may.performed.to_eight
may_who Reads entries who Look may = may.to_eight
may_who Reads entries who (Tick to) may = omega (arith, may.ticker)
may_who Reads entries who Finish may = omega (arith, may.ticker)

pub as_front : (place time line : List ℕ) (n : ℕ) (e : Entry) → place ≡ decimal n → time ≡ place_text e.frontier → line ≡ entry_line n e
    → line ≡ front_of place e.who time (deed_text e.deed)
as_front place time line n e p q spelled =
    spelled
    ∙ ap (λ (xs : List ℕ). front_of xs e.who (place_text e.frontier) (deed_text e.deed)) (sym p)
    ∙ ap (λ (xs : List ℕ). front_of place e.who xs (deed_text e.deed)) (sym q)

pub front_once : (place time line said other : List ℕ) (who v : ℕ) → who ≤ 8 → v ≤ 8 → line ≡ front_of place who time said → line ≡ front_of place v time other
    → (who ≡ v) × (said ≡ other)
front_once place time line said other who v p q e f =
    let called = cut_once 32 (decimal who) (decimal v) (time ++ 32 ∷ said) (time ++ 32 ∷ other)
    (decimal_lacks 32 who (omega arith) (omega arith)) (decimal_lacks 32 v (omega arith) (omega arith))
    (behind_blank place line (decimal who ++ 32 ∷ (time ++ 32 ∷ said)) (decimal v ++ 32 ∷ (time ++ 32 ∷ other)) e f) in (
      decimal_injective who v (omega arith) (omega arith) called.0,
      behind_blank time (time ++ 32 ∷ said) said other refl called.1,
    )
