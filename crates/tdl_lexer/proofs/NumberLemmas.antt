-- The number that is found at the front of a text stands there, and one that stands there is the one that is found.
use Rattle.std.proofs.Common.{◌≡◌, ℕ, ◌+◌, Bool, true, false, cond, List, [], ◌∷◌, ◌++◌}
use Rattle.std.proofs.Common.{length, take, drop, refl, ap, sym, ◌∙◌, subst, arith, append_assoc, suc}
use Rattle.std.specs.List.{list_all}
use Rattle.std.specs.Char.{is_ascii_digit}
use Rattle.std.proofs.lemmas.Bool.{and_parts}
use Rattle.std.proofs.lemmas.Bool.Decides.{nat_tests}
use Rattle.std.proofs.Math.Seq.{take-append_seam}
use Rattle.tdl_lexer.specs.Bytes.{is_run_byte, begins}
use Rattle.tdl_lexer.specs.Numbers.{Number, minus_text, number_text, IsRun, is_tail_mark, begins_tail, IsTail, before_digits, IsNumber}
use Rattle.tdl_lexer.specs.inside.FindNumber.{run_of, digits_of, tail_of, number_of}
use Rattle.tdl_lexer.proofs.Fronts.{cut_of, filled_front, take-length_front, take_while-front, drop-front, length-front, begins-front}

-- ---- runs
pub run_there : (last : ℕ) (text : List ℕ) → is_run_byte last ≡ false → begins is_run_byte text ≡ true
    → IsRun last (run_of text) (drop (length (run_of text)) text)
run_there last text apart first =
    let cut = cut_of is_run_byte text in
    record { filled = filled_front is_run_byte text first; bytes = cut.passes; starts = apart; ends = cut.stops }

-- ---- tails
-- what follows a number's first digits, cut after its tail
pub record TailCut (text : List ℕ) : Type 0 where
  pub after : List ℕ
  pub joined : text ≡ tail_of text ++ after
  pub tail : IsTail (tail_of text) after

long_tail : (mark : ℕ) (rest : List ℕ) → is_tail_mark mark ≡ true → begins is_ascii_digit rest ≡ true → (tail : List ℕ)
    → tail ≡ take (1 + length (digits_of rest)) (mark ∷ rest) → (after : List ℕ) × ((mark ∷ rest) ≡ tail ++ after) × IsTail tail after
long_tail mark rest is_mark first tail e =
    let cut = cut_of is_ascii_digit rest in
    let more : 1 + length (digits_of rest) ≡ suc (length (digits_of rest)) = omega arith in
    let same : tail ≡ mark ∷ digits_of rest = e ∙ ap (λ n. take n (mark ∷ rest)) more ∙ ap (λ ds. mark ∷ ds) (take-length_front is_ascii_digit rest) in
    let P : List ℕ → Type 0 = λ t. (after : List ℕ) × ((mark ∷ rest) ≡ t ++ after) × IsTail t after in
    subst P (sym same) (
      drop (length (digits_of rest)) rest,
      ap (λ ds. mark ∷ ds) cut.joined,
      (is_mark, filled_front is_ascii_digit rest first, cut.passes, cut.stops),
    )

tail_by : (b : Bool) (text : List ℕ) → begins_tail text ≡ b → TailCut text
tail_by b [] e = record { after = []; joined = refl; tail = refl }
tail_by false (mark ∷ rest) e =
    let none : tail_of (mark ∷ rest) ≡ [] = rw e refl in
    let P : List ℕ → Type 0 = λ t. ((mark ∷ rest) ≡ t ++ (mark ∷ rest)) × IsTail t (mark ∷ rest) in
    let h = subst P (sym none) (refl, e) in
    record { after = mark ∷ rest; joined = h.0; tail = h.1 }
tail_by true (mark ∷ rest) e =
    let parts = and_parts (is_tail_mark mark) (begins is_ascii_digit rest) e in
    let is : tail_of (mark ∷ rest) ≡ take (1 + length (digits_of rest)) (mark ∷ rest) = rw e refl in
    let h = long_tail mark rest parts.0 parts.1 (tail_of (mark ∷ rest)) is in
    record { after = h.0; joined = h.1; tail = h.2 }

pub tail_cut : (text : List ℕ) → TailCut text
tail_cut text = tail_by (begins_tail text) text refl

digits_after : (tail after : List ℕ) → IsTail tail after → list_all is_ascii_digit (drop 1 tail) ≡ true
digits_after [] after h = refl
digits_after (mark ∷ digits) after h = h.2

-- a tail has digits alone after its mark
pub tail_digits : (text : List ℕ) → list_all is_ascii_digit (drop 1 (tail_of text)) ≡ true
tail_digits text = let h = tail_cut text in digits_after (tail_of text) h.after h.tail

-- ---- numbers
pub number_there : (negative : Bool) (last : ℕ) (text : List ℕ) → is_run_byte (before_digits negative last) ≡ false → begins is_run_byte text ≡ true
    → list_all is_ascii_digit (run_of text) ≡ true → (after : List ℕ) × ((minus_text negative ++ text) ≡ number_text (number_of negative text) ++ after) ×
    IsNumber (number_of negative text) last after
number_there negative last text apart first digits =
    let run = run_there (before_digits negative last) text apart first in
    let cut = cut_of is_run_byte text in
    let tail = tail_cut (drop (length (run_of text)) text) in
    let P : List ℕ → Type 0 = λ rest. IsRun (before_digits negative last) (run_of text) rest in (
      tail.after,
      ap (λ t. minus_text negative ++ t) (cut.joined ∙ ap (λ t. run_of text ++ t) tail.joined)
          ∙ regroup (minus_text negative) (run_of text) (tail_of (drop (length (run_of text)) text)) tail.after,
      record { run = subst P tail.joined run; digits = digits; tail = tail.tail },
    )
  where
    regroup : (a b c d : List ℕ) → a ++ (b ++ (c ++ d)) ≡ (a ++ (b ++ c)) ++ d
    regroup a b c d = simp append_assoc

-- ---- and back
pub run_read : (last : ℕ) (run after : List ℕ) → IsRun last run after → run_of (run ++ after) ≡ run
run_read last run after h = take_while-front is_run_byte run after h.bytes h.ends

pub run_in_front : (last : ℕ) (run after : List ℕ) → IsRun last run after → begins is_run_byte (run ++ after) ≡ true
run_in_front last run after h = begins-front is_run_byte run after h.filled h.bytes

-- ---- numbers
tail_read : (tail after : List ℕ) → IsTail tail after → tail_of (tail ++ after) ≡ tail
tail_read [] after h = rw h refl
tail_read (mark ∷ digits) after h =
    let starts : begins is_ascii_digit (digits ++ after) ≡ true = begins-front is_ascii_digit digits after h.1 h.2 in
    let is_mark : is_tail_mark mark ≡ true = h.0 in
    let long : begins_tail (mark ∷ (digits ++ after)) ≡ true = rw (is_mark, starts) refl in
    let many : 1 + length (digits_of (digits ++ after)) ≡ suc (length digits) = omega (arith, length-front is_ascii_digit digits after h.2 h.3) in
    long_tail _ _ (begins_tail (mark ∷ (digits ++ after))) long ∙ ap (λ n. take n (mark ∷ (digits ++ after))) many
    ∙ ap (λ ds. mark ∷ ds) (take-append_seam digits after)
  where
    long_tail : (a b : List ℕ) (test : Bool) → test ≡ true → cond test a b ≡ a
    long_tail a b true e = refl
    long_tail a b false e = cc

abbrev pub made : Bool → List ℕ → List ℕ → Number
made negative whole tail = record { negative = negative; whole = whole; tail = tail }

pub number_read : (negative : Bool) (last : ℕ) (whole tail after : List ℕ) → IsRun last whole (tail ++ after) → IsTail tail after
    → number_of negative (whole ++ (tail ++ after)) ≡ made negative whole tail
number_read negative last whole tail after run h =
    let text = whole ++ (tail ++ after) in
    let left : tail_of (drop (length (run_of text)) text) ≡ tail = ap tail_of (drop-front is_run_byte whole (tail ++ after) run.bytes run.ends)
    ∙ tail_read tail after h in
    ap (λ w. made negative w (tail_of (drop (length (run_of text)) text))) (run_read last whole (tail ++ after) run) ∙ ap (λ t. made negative whole t) left

pub same_digits : (last : ℕ) (whole after : List ℕ) → IsRun last whole after → list_all is_ascii_digit whole ≡ true
    → list_all is_ascii_digit (run_of (whole ++ after)) ≡ true
same_digits last whole after run h = ap (list_all is_ascii_digit) (run_read last whole after run) ∙ h

pub digit_is_run_byte : (byte : ℕ) → is_ascii_digit byte ≡ true → is_run_byte byte ≡ true
digit_is_run_byte byte e = grind (arith, nat_tests)

pub digit_is_run : (text : List ℕ) → begins is_ascii_digit text ≡ true → begins is_run_byte text ≡ true
digit_is_run [] e = cc
digit_is_run (byte ∷ rest) e = digit_is_run_byte byte e

pub regroup : (a b c d : List ℕ) → (a ++ (b ++ c)) ++ d ≡ a ++ (b ++ (c ++ d))
regroup a b c d = simp append_assoc
