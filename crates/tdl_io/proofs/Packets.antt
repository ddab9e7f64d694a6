-- Packets among the bytes of all, where one more comes behind them.
use Rattle.std.proofs.Common.{◌≡◌, ℕ, suc, ◌+◌, ◌-◌, ◌≤◌, List, [], ◌∷◌, ◌++◌, take, drop, length, refl, ap, ◌∙◌, arith, length-drop, take_all}
use Rattle.std.proofs.lemmas.List.{take-append-le, drop-append-le, map-append}
use Rattle.std.proofs.Math.Seq.{drop-append_seam}
use Rattle.std.specs.Prelude.{slice_range}
use Rattle.tdl_io.specs.declared.memory.wire.PacketRange.{PacketRange}
use Rattle.tdl_io.specs.PacketRanges.{packets_of, AllStandIn}

-- a range of the bytes stays where more come behind them
slice_range-append : (bytes more : List ℕ) (start end : ℕ) → start ≤ end → end ≤ length bytes
    → slice_range (bytes ++ more) start end ≡ slice_range bytes start end
slice_range-append bytes more start end ordered within =
    ap (λ (rest : List ℕ). take (end - start) rest) (drop-append-le start bytes more (omega arith))
    ∙ take-append-le (end - start) (drop start bytes) more (omega (arith, length-drop start bytes))

-- each packet stays where more bytes come behind them
packets-append : (bytes more : List ℕ) (spans : List PacketRange) → AllStandIn bytes spans → packets_of (bytes ++ more) spans ≡ packets_of bytes spans
packets-append bytes more [] stand = refl
packets-append bytes more (span ∷ spans) stand =
    let first : (span.start ≤ span.end) × (span.end ≤ length bytes) = stand 0 span (omega arith) in
    let same = slice_range-append bytes more span.start span.end first.0 first.1 in
    let others = packets-append bytes more spans (λ k d inside. stand (suc k) d (omega arith)) in
    cc

-- what comes behind the bytes is the range from their end
slice_range-last : (bytes packet : List ℕ) (start end : ℕ) → start ≡ length bytes → end ≡ length bytes + length packet
    → slice_range (bytes ++ packet) start end ≡ packet
slice_range-last bytes packet start end at_end until =
    rw (at_end, drop-append_seam) (take_all (end - length bytes) packet (omega arith))

-- one more packet comes behind the others
pub packets_with_one_more : (bytes packet : List ℕ) (spans : List PacketRange) (start end : ℕ) → AllStandIn bytes spans → start ≡ length bytes
    → end ≡ length bytes + length packet
    → packets_of (bytes ++ packet) (spans ++ record { start = start; end = end } ∷ []) ≡ packets_of bytes spans ++ packet ∷ []
packets_with_one_more bytes packet spans start end stand at_end until =
    let span : PacketRange = record { start = start; end = end } in
    let before = packets-append bytes packet spans stand in
    let last = slice_range-last bytes packet start end at_end until in
    let both = map-append (λ (s : PacketRange). slice_range (bytes ++ packet) s.start s.end) spans (span ∷ []) in
    cc
