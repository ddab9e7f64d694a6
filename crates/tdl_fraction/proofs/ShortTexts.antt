-- Short texts with the same bytes are the same value.
use Rattle.std.proofs.Common.{◌≡◌, ℕ, ◌-◌, ◌≤◌, List, ◌++◌, length, take, drop, replicate, sym, ap, ◌∙◌, subst, arith, length-take-le, take-append-drop}
use Rattle.std.proofs.Math.Bridge.{le_prop}
use Rattle.std.proofs.Math.Nat.{ℕ_set}
use mathlib.Core.List.{is_set}
use Rattle.tdl_fraction.specs.declared.digits.Digits.{Digits}
use Rattle.tdl_fraction.specs.Digits.{digits_bytes}

-- a buffer is its front and the zeros behind it
whole_buffer : (buffer : List ℕ) (len room : ℕ) → drop len buffer ≡ replicate (room - len) 0 → buffer ≡ take len buffer ++ replicate (room - len) 0
whole_buffer buffer len room padded = sym (take-append-drop len buffer) ∙ ap (λ t. take len buffer ++ t) padded

-- equal fronts have equal lengths
same_len : (a b : List ℕ) (l k room : ℕ) → length a ≡ room → length b ≡ room → l ≤ room → k ≤ room → take l a ≡ take k b → l ≡ k
same_len a b l k room p q h i e = omega (arith, ap length e, length-take-le l a (omega arith), length-take-le k b (omega arith))

-- and then the buffers are equal
same_buffer : (a b : List ℕ) (l k room : ℕ) → drop l a ≡ replicate (room - l) 0 → drop k b ≡ replicate (room - k) 0 → l ≡ k → take l a ≡ take k b → a ≡ b
same_buffer a b l k room p q same e =
    let zeros : replicate (room - l) 0 ≡ replicate (room - k) 0 = ap (λ n. replicate (room - n) 0) same in
    whole_buffer a l room p ∙ ap (λ t. t ++ replicate (room - l) 0) e ∙ ap (λ t. take k b ++ t) zeros ∙ sym (whole_buffer b k room q)

abbrev parts : (b : List ℕ) (l : ℕ) → l ≤ 41 → length b ≡ 41 → drop l b ≡ replicate (41 - l) 0 → Digits
parts b l p q r = record { buffer = b; len = l; in_range = p; full = q; padded = r }

-- the facts that a short text carries are all equal
same_facts : (b : List ℕ) (l : ℕ) (p p' : l ≤ 41) (q q' : length b ≡ 41) (r r' : drop l b ≡ replicate (41 - l) 0) → parts b l p q r ≡ parts b l p' q' r'
same_facts b l p p' q q' r r' =
    ap (λ p. parts b l p q r) (le_prop p p') ∙ ap (λ q. parts b l p' q r) (ℕ_set _ _ q q') ∙ ap (λ r. parts b l p' q' r) (is_set ℕ_set _ _ r r')

-- so short texts with equal fields are equal
same_parts : (b c : List ℕ) (l k : ℕ) (p : l ≤ 41) (p' : k ≤ 41) (q : length b ≡ 41) (q' : length c ≡ 41) (r : drop l b ≡ replicate (41 - l) 0)
    (r' : drop k c ≡ replicate (41 - k) 0) → b ≡ c → l ≡ k → parts b l p q r ≡ parts c k p' q' r'
same_parts b c l k p p' q q' r r' e f =
    let with_len : (k : ℕ) → l ≡ k → (p' : k ≤ 41) (q' : length b ≡ 41) (r' : drop k b ≡ replicate (41 - k) 0) → parts b l p q r ≡ parts b k p' q' r' =
    λ k f. let P : ℕ → Type 0 = λ k. (p' : k ≤ 41) (q' : length b ≡ 41) (r' : drop k b ≡ replicate (41 - k) 0) → parts b l p q r ≡ parts b k p' q' r' in
    subst P f (λ p' q' r'. same_facts b l p p' q q' r r') in
    let Q : List ℕ → Type 0 = λ c. (q' : length c ≡ 41) (r' : drop k c ≡ replicate (41 - k) 0) → parts b l p q r ≡ parts c k p' q' r' in
    subst Q e (λ q' r'. with_len k f p' q' r') q' r'

-- short texts with the same bytes are equal
pub Digits-same : (a b : Digits) → digits_bytes a ≡ digits_bytes b → a ≡ b
Digits-same a b e =
    let len = same_len a.buffer b.buffer a.len b.len 41 a.full b.full a.in_range b.in_range e in
    let buffer = same_buffer a.buffer b.buffer a.len b.len 41 a.padded b.padded len e in
    same_parts a.buffer b.buffer a.len b.len a.in_range b.in_range a.full b.full a.padded b.padded buffer len
