-- A line that is cut off at its line feed.
--     line_found      where the first line feed was found
--     line_missing    where there is none
use Rattle.std.proofs.Common.{◌≡◌, ◌≢◌, ℕ, ◌+◌, ◌-◌, ◌<◌, ◌≤◌, true, List, [], ◌∷◌, ◌++◌, length, take, drop, get_or, None, Some}
use Rattle.std.proofs.Common.{refl, sym, ap, ◌∙◌, arith}
use Rattle.std.proofs.lemmas.Bool.{eqb-true, eq-eqb}
use Rattle.std.proofs.lemmas.Bool.Decides.{nat_tests}
use Rattle.std.proofs.lemmas.List.{take-append-drop, take_rest, drop-drop, drop_more, get_or-take, length-take-le}
use Rattle.std.proofs.lemmas.List.Elements.{All-from_get_or, All-head, All-tail}
use Rattle.std.specs.Prelude.{slice_range}
use Rattle.std.specs.List.{All}
use Rattle.memchr.specs.Find.{IsFirstByte, is_byte}
use Rattle.tdl_log.specs.Pieces.{line, rest, cut}
use Rattle.tdl_log.proofs.CutLines.{lacks}
use Rattle.tdl_log.proofs.CutTexts.{cut_feed, cut_rest}

lacks_from : (byte : ℕ) (xs : List ℕ) → All (λ b. b ≢ byte) xs → lacks byte xs ≡ true
lacks_from byte [] each = refl
lacks_from byte (x ∷ xs) each =
    let here : x ≢ byte = All-head (λ b. b ≢ byte) x xs each in
    let more = lacks_from byte xs (All-tail (λ b. b ≢ byte) x xs each) in
    grind (arith, nat_tests)

-- up to the first line feed
front_lacks : (hay : List ℕ) (count : ℕ) → IsFirstByte (is_byte 10) hay (Some count) → lacks 10 (take count hay) ≡ true
front_lacks hay count first =
    lacks_from 10 (take count hay) (All-from_get_or (λ b. b ≢ 10) (take count hay) 0 (λ i below.
    let at : i < count = omega (arith, length-take-le count hay (omega (arith, first.0.high))) in
    λ e. first.0.before i (omega arith) at (eq-eqb (get_or hay i 0) 10 (sym (get_or-take count hay i 0 at) ∙ e))))

parts : (hay : List ℕ) (count : ℕ) → IsFirstByte (is_byte 10) hay (Some count) → hay ≡ take count hay ++ 10 ∷ drop (count + 1) hay
parts hay count first =
    let feed : get_or hay count 0 ≡ 10 = eqb-true (get_or hay count 0) 10 first.1 in
    sym (take-append-drop count hay)
    ∙ ap (λ (xs : List ℕ). take count hay ++ xs) (drop_more hay count 0 (omega (arith, first.0.high)))
    ∙ ap (λ (b : ℕ). take count hay ++ b ∷ drop (count + 1) hay) feed

module _ (text : List ℕ) (at : ℕ) (inside : at ≤ length text) where
  abbrev left : List ℕ
  left = slice_range text at (length text)

  left_is : left ≡ drop at text
  left_is = take_rest text at

  abbrev front : ℕ → List ℕ
  front count = take count left

  front_size : (count : ℕ) → IsFirstByte (is_byte 10) left (Some count) → length (front count) ≡ count
  front_size count first = length-take-le count left (omega (arith, first.0.high))

  behind : (count : ℕ) → IsFirstByte (is_byte 10) left (Some count) → drop (count + 1) left ≡ drop (at + length (front count) + 1) text
  behind count first =
      let size = front_size count first in
      let same : at + (count + 1) ≡ at + length (front count) + 1 = omega (arith, size) in
      ap (drop (count + 1)) left_is ∙ drop-drop (count + 1) at text ∙ ap (λ n. drop n text) same

  pub line_found : (count : ℕ) → IsFirstByte (is_byte 10) left (Some count)
      → cut (drop at text) ≡ line (front count) ∷ cut (drop (at + length (front count) + 1) text)
  line_found count first =
      ap cut (sym left_is ∙ parts left count first) ∙ cut_feed (take count left) (drop (count + 1) left) (front_lacks left count first)
      ∙ ap (λ (bytes : List ℕ). line (front count) ∷ cut bytes) (behind count first)

  pub line_missing : IsFirstByte (is_byte 10) left None → cut (drop at text) ≡ rest (drop at text) ∷ []
  line_missing none =
      cut_rest (drop at text)
      (ap (lacks 10) (sym left_is)
      ∙ lacks_from 10 left (All-from_get_or (λ b. b ≢ 10) left 0 (λ i below e. none i (omega arith) below (eq-eqb (get_or left i 0) 10 e))))
