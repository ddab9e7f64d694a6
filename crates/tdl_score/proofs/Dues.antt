-- What is due, as it grows.
--     gained_more         some rows, and then others
--     take_item           the first items, and one item more
--     packets_on, tones_on    what has been put there, and the rows of one cycle more
use Rattle.std.proofs.Common.{◌≡◌, ℕ, ◌+◌, ◌-◌, ◌<◌, ◌≤◌, List, [], ◌∷◌, ◌++◌, length, get_or, take, sym, ap, ◌∙◌, append_assoc}
use Rattle.std.specs.List.{flat_map, range_with_len}
use Rattle.std.proofs.lemmas.List.{take_more}
use Rattle.tdl_event.specs.declared.rows.Row.{Row}
use Rattle.tdl_tempo.specs.Tempo.{Pace}
use Rattle.tdl_notes.specs.declared.tones.Tone.{Tone}
use Rattle.tdl_notes.specs.Notes.{tones}
use Rattle.tdl_score.specs.declared.due.Due.{Due}
use Rattle.tdl_score.specs.Wires.{packets_of}
use Rattle.tdl_score.specs.inside.Dues.{Gained}
use Rattle.tdl_score.proofs.Sent.{more_cycles, packets_of-append}
use Rattle.tdl_score.proofs.Tones.{tones-append}

pub gained_more : (tempo : Pace) (first now later : Due) (xs ys : List Row) → Gained tempo first now xs → Gained tempo now later ys
    → Gained tempo first later (xs ++ ys)
gained_more tempo first now later xs ys h k = record {
  osc = k.osc ∙ ap (λ (packets : List (List ℕ)). packets ++ packets_of tempo ys) h.osc
      ∙ append_assoc first.osc (packets_of tempo xs) (packets_of tempo ys)
      ∙ ap (λ (packets : List (List ℕ)). first.osc ++ packets) (sym (packets_of-append tempo xs ys));
  tones = k.tones ∙ ap (λ (list : List Tone). list ++ tones ys) h.tones
      ∙ append_assoc first.tones.items (tones xs) (tones ys)
      ∙ ap (λ (list : List Tone). first.tones.items ++ list) (sym (tones-append xs ys));
  notes = λ were. k.notes (h.notes were);
}

pub take_item : {A : Type 0} (xs : List A) (i : ℕ) (x : A) → i < length xs → x ≡ get_or xs i x → take (i + 1) xs ≡ take i xs ++ x ∷ []
take_item {A} xs i x low is = take_more xs i x low ∙ ap (λ (y : A). take i xs ++ y ∷ []) (sym is)

module _ (f : ℕ → List Row) (first cycle : ℕ) (from : first ≤ cycle) where
  abbrev before : List Row
  before = flat_map f (range_with_len first (cycle - first))

  pub packets_on : (tempo : Pace) (was now : List (List ℕ)) → was ≡ packets_of tempo before → now ≡ was ++ packets_of tempo (f cycle)
      → now ≡ packets_of tempo (flat_map f (range_with_len first ((cycle + 1) - first)))
  packets_on tempo was now h k =
      k ∙ ap (λ (packets : List (List ℕ)). packets ++ packets_of tempo (f cycle)) h ∙ sym (packets_of-append tempo before (f cycle))
      ∙ ap (packets_of tempo) (sym (more_cycles f first cycle from))

  pub tones_on : (was now : List Tone) → was ≡ tones before → now ≡ was ++ tones (f cycle)
      → now ≡ tones (flat_map f (range_with_len first ((cycle + 1) - first)))
  tones_on was now h k =
      k ∙ ap (λ (list : List Tone). list ++ tones (f cycle)) h ∙ sym (tones-append before (f cycle))
      ∙ ap tones (sym (more_cycles f first cycle from))
