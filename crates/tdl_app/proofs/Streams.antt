-- Texts that come one after another behind what waits, and the pieces that are put of them.
use Rattle.std.proofs.Common.{◌≡◌, ℕ, suc, ◌+◌, ◌<◌, ◌≤◌, List, [], ◌++◌, length, get_or, take}
use Rattle.std.proofs.Common.{drop, Option, Result, Ok, Err, OnOk, IfErr, sym, ap, subst, ◌∙◌}
use Rattle.std.proofs.Common.{append_assoc, append-nil, arith}
use Rattle.std.specs.List.{flat_map}
use Rattle.tdl_control.proofs.PrintLemmas.{flat_map_at, flat_map_more}
use Rattle.tdl_io.specs.Told.{GainedExactly, GainedPrefix}
use Rattle.tdl_io.proofs.Told.{gained_both, gained_nothing, prefix_after, prefix_longer, prefix_nothing}
use Rattle.tdl_io.proofs.Counts.{rose_after}
use Rattle.tdl_app.specs.declared.stops.Stop.{Stop}
use Rattle.tdl_app.specs.declared.stops.Stop.TheVariants.{Memory, Fault, Input}
use Rattle.tdl_answer.specs.Account.{Account}
use Rattle.tdl_app.specs.inside.EventLines.{Streams, BreaksOff, CountsStop}
use Rattle.tdl_answer.proofs.DeviceCalls.{Meets, over, still}

-- no text came
pub streams_none : (before : List ℕ) (told : Option (List ℕ)) (faults : ℕ) → Streams [] before before (still told faults)
streams_none before told faults = record { put = []; parts = append-nil before; gained = gained_nothing told; kept = omega arith }

-- memory ran out before anything was put
pub breaks_before : (text before : List ℕ) (told : Option (List ℕ)) (faults : ℕ) → BreaksOff text before Memory (still told faults)
breaks_before text before told faults = record { gained = prefix_nothing told (before ++ text); counts = omega arith }

-- ---- one text after another
pub streams_then : {s t before between after : List ℕ} {first second : Account ℕ} → Meets first second → Streams s before between first
    → Streams t between after second → Streams (s ++ t) before after (over first second)
streams_then {s} {t} {before} {between} {after} {first} {second} meets one two = record {
  put = one.put ++ two.put;
  parts = sym (append_assoc before s t) ∙ ap (λ text. text ++ t) one.parts ∙ append_assoc one.put between t
      ∙ ap (λ text. one.put ++ text) two.parts ∙ sym (append_assoc one.put two.put after);
  gained = gained_both one.gained (subst (λ (told : Option (List ℕ)). GainedExactly told second.told_after two.put) meets.told two.gained);
  kept = omega (arith, one.kept, two.kept, meets.faults);
}

counts_then : {first second : Account ℕ} (stop : Stop) → Meets first second → first.faults_before ≤ first.faults_after → CountsStop stop second
    → CountsStop stop (over first second)
counts_then Memory meets kept counts = omega (arith, kept, counts, meets.faults)
counts_then {first} {second} Fault meets kept counts =
    let sooner : first.faults_before ≤ second.faults_before = omega (arith, meets.faults, kept) in
    rose_after sooner counts
counts_then Input meets kept counts = counts

pub breaks_then : {s t before between : List ℕ} {stop : Stop} {first second : Account ℕ} → Meets first second → Streams s before between first
    → BreaksOff t between stop second → BreaksOff (s ++ t) before stop (over first second)
breaks_then {s} {t} {before} {between} {stop} {first} {second} meets one two = record {
  gained = subst (λ (text : List ℕ). GainedPrefix first.told_before second.told_after text)
      (sym (append_assoc one.put between t) ∙ ap (λ text. text ++ t) (sym one.parts) ∙ append_assoc before s t)
      (prefix_after one.gained (subst (λ (told : Option (List ℕ)). GainedPrefix told second.told_after (between ++ t)) meets.told two.gained));
  counts = counts_then stop meets one.kept two.counts;
}

-- a text that breaks off is not followed
pub breaks_longer : {s before : List ℕ} {stop : Stop} {out : Account ℕ} (t : List ℕ) → BreaksOff s before stop out → BreaksOff (s ++ t) before stop out
breaks_longer {s} {before} {stop} {out} t breaks = record {
  gained = subst (λ (text : List ℕ). GainedPrefix out.told_before out.told_after text) (append_assoc before s t) (prefix_longer t breaks.gained);
  counts = breaks.counts;
}

-- a text, and then what waits is put
pub streams_on : {s before between after : List ℕ} {first second : Account ℕ} → Meets first second → Streams s before between first
    → Streams [] between after second → Streams s before after (over first second)
streams_on {s} {before} {between} {after} {first} {second} meets one two =
    subst (λ (text : List ℕ). Streams text before after (over first second)) (append-nil s) (streams_then meets one two)

pub breaks_on : {s before between : List ℕ} {stop : Stop} {first second : Account ℕ} → Meets first second → Streams s before between first
    → BreaksOff [] between stop second → BreaksOff s before stop (over first second)
breaks_on {s} {before} {between} {stop} {first} {second} meets one two =
    subst (λ (text : List ℕ). BreaksOff text before stop (over first second)) (append-nil s) (breaks_then meets one two)

-- all that waits is put, or the put breaks off
pub rest_streamed : {X E : Type 0} {s before between : List ℕ} {first second : Account ℕ} (result : Result X E) (after : List ℕ) → Meets first second
    → Streams s before between first → OnOk result (Streams [] between after second) → OnOk result (after ≡ [])
    → OnOk result (Streams s before [] (over first second))
rest_streamed {s = s} {before = before} {first = first} {second = second} (Ok x) after meets one two none_left =
    subst (λ (rest : List ℕ). Streams s before rest (over first second)) none_left (streams_on meets one two)
rest_streamed (Err e) after meets one two none_left = tt

pub rest_breaks : {X : Type 0} {s before between : List ℕ} {first second : Account ℕ} (result : Result X Stop) → Meets first second
    → Streams s before between first → IfErr result (λ stop. BreaksOff [] between stop second)
    → IfErr result (λ stop. BreaksOff s before stop (over first second))
rest_breaks (Ok x) meets one two = tt
rest_breaks (Err stop) meets one two = breaks_on meets one two

-- ---- the texts of a list
module _ {X : Type 0} (f : X → List ℕ) (xs : List X) (i : ℕ) (here : X) (within : i < length xs) (is : here ≡ get_or xs i here) where
  -- those before index i, and that at it
  pub streams_more : {before between after : List ℕ} {first second : Account ℕ} → Meets first second
      → Streams (flat_map f (take i xs)) before between first → Streams (f here) between after second
      → Streams (flat_map f (take (i + 1) xs)) before after (over first second)
  streams_more {before} {between} {after} {first} {second} meets one two =
      subst (λ (text : List ℕ). Streams text before after (over first second))
      (ap (λ x. flat_map f (take i xs) ++ f x) is ∙ sym (flat_map_more f xs i here within)) (streams_then meets one two)

  -- those before index i, and that at it breaks off
  pub breaks_within : {before between : List ℕ} {stop : Stop} {first second : Account ℕ} → Meets first second
      → Streams (flat_map f (take i xs)) before between first → BreaksOff (f here) between stop second
      → BreaksOff (flat_map f xs) before stop (over first second)
  breaks_within {before} {between} {stop} {first} {second} meets one two =
      subst (λ (text : List ℕ). BreaksOff text before stop (over first second))
      (ap (λ x. flat_map f (take i xs) ++ (f x ++ flat_map f (drop (suc i) xs))) is ∙ sym (flat_map_at f xs i here within))
      (breaks_then meets one (breaks_longer (flat_map f (drop (suc i) xs)) two))
