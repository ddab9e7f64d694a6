-- A frame that goes to a sink in two pieces, and what is told then.
use Rattle.std.proofs.Common.{◌≡◌, ◌↔◌, ◌<◌, ℕ, zero, suc, inl, inr, List, [], ◌∷◌, refl, ap, sym, ◌∙◌, subst, rules, arith}
use Rattle.std.proofs.lemmas.Bool.{cases_Bool}
use Rattle.std.specs.Prelude.{◌==◌, ◌&&◌, if◌then◌else◌, IsTrue, Option, None, Result, Ok, Err, IsErr, OnOk}
use Rattle.tdl_io.specs.Faults.{CountsFault}
use Rattle.tdl_io.specs.Frames.{HasFrame, frame_size, frame, are_frames, packets_told}
use Rattle.tdl_io.specs.Told.{GainedExactly, GainedPrefix}
use Rattle.tdl_io.proofs.OneText.{tells_one_more, tells_on}
use Rattle.tdl_io.proofs.Told.{gained_both, prefix_longer, prefix_after}

-- what holds of an answer unless it is a failure
pub unless_err : {A E P : Type 0} (result : Result A E) → (¬ (IsErr result) → P) → OnOk result P
unless_err (Ok x) holds = holds (λ is. search (rules, is))
unless_err (Err e) holds = tt

-- and back
pub not_err : {A E P : Type 0} (result : Result A E) → OnOk result P → ¬ (IsErr result) → P
not_err (Ok x) fact none = fact
not_err (Err e) fact none = absurd (none refl)

-- the count stays unless the call failed
pub count_kept : {A E : Type 0} {old new : ℕ} (result : Result A E) → CountsFault old new result → ¬ (IsErr result) → new ≡ old
count_kept (Ok x) same none = same
count_kept (Err e) counted none = absurd (none refl)

-- a wire has no fault after an answer that is none, where its faults and its failures go together
pub no_fault : {A E : Type 0} (result : Result A E) (faults : ℕ) → IsErr result ↔ (0 < faults) → ¬ (IsErr result) → faults ≡ 0
no_fault result zero closed none = refl
no_fault result (suc faults) closed none = absurd (none (closed.1 (omega arith)))

-- a frame in two pieces
pub frame_gained : {old mid new : Option (List ℕ)} {size packet : List ℕ} → size ≡ frame_size packet → GainedExactly old mid size
    → GainedExactly mid new packet → GainedExactly old new (frame packet)
frame_gained {old} {mid} is first second = gained_both (subst (λ piece. GainedExactly old mid piece) is first) second

-- a front of the first
pub cut_in_size : {old new : Option (List ℕ)} {size : List ℕ} (packet : List ℕ) → size ≡ frame_size packet → GainedPrefix old new size
    → GainedPrefix old new (frame packet)
cut_in_size {old} {new} packet is first = prefix_longer packet (subst (λ piece. GainedPrefix old new piece) is first)

-- the first, and a front of the second
pub cut_in_packet : {old mid new : Option (List ℕ)} {size packet : List ℕ} → size ≡ frame_size packet → GainedExactly old mid size
    → GainedPrefix mid new packet → GainedPrefix old new (frame packet)
cut_in_packet {old} {mid} is first second = prefix_after (subst (λ piece. GainedExactly old mid piece) is first) second

-- frames with one more behind them are frames
pub frames_go_on : {old new : Option (List ℕ)} (packet : List ℕ) → HasFrame packet → GainedExactly old new (frame packet)
    → IsTrue (are_frames old) → IsTrue (are_frames new)
frames_go_on {old} packet has gained are = subst (λ told. IsTrue (are_frames told)) (sym gained.is) (tells_on old packet has are)

-- and their packet is told
pub packet_told : {old new : Option (List ℕ)} (begun : Option (List ℕ)) (before after : ℕ) (packet : List ℕ) → HasFrame packet → before ≡ 0 → after ≡ 0
    → (IsTrue (are_frames begun) → IsTrue (are_frames old)) → GainedExactly old new (frame packet)
    → GainedExactly (if before == 0 && are_frames begun then packets_told old else None) (if after == 0 && are_frames begun then packets_told new else None)
    (packet ∷ [])
packet_told {old} {new} begun before after packet has none still on gained =
    elim (cases_Bool (are_frames begun)) [
      | inl are ↦ record { is = rw (none, still, are) (ap packets_told gained.is ∙ tells_one_more old packet has (on are)) }
      | inr not ↦ record { is = rw (none, still, not) refl }
    ]
