-- Texts that are told by their fronts.
--     some_of, none_of       the two sides of a clause by cases
--     if_none_always         a fact for the case of none, whatever came
--     if_none_weaker         what follows from such a fact
--     behind_front, behind_blank     what stands behind a front, and behind a blank after it
--     no_caller, is_caller   a caller's number is one digit
--     cut_found, cut_missing     what a search for a byte says
--     cut_parts              a text that is cut in two, as lines are looked at
use Rattle.std.proofs.Common.{◌≡◌, ℕ, ◌+◌, ◌-◌, ◌<◌, ◌≤◌, Bool, true, false, not, ◌&&◌, ◌||◌, ◌==◌, List, [], ◌∷◌, ◌++◌, length, take, drop, get_or}
use Rattle.std.proofs.Common.{Option, Some, None, MatchOption, IfSome, inl, inr, ◌⊎◌, refl, sym, ap, subst, ◌∙◌, arith}
use Rattle.std.specs.Option.{IfNone}
use Rattle.std.specs.Fmt.{decimal}
use Rattle.std.proofs.lemmas.Bool.{eq-eqb, eqb-true}
use Rattle.std.proofs.lemmas.Fmt.{decimal_digit}
use Rattle.std.proofs.lemmas.List.{append_cancel_left, drop_more, get_or-take, length-take-le, take-append-drop, take_rest}
use Rattle.std.proofs.lemmas.List.Recursion.{or_from_places}
use Rattle.memchr.specs.Find.{IsFirstByte, is_byte}
use Rattle.tdl_log.specs.LineKinds.{before, behind, has}
use Rattle.tdl_log.specs.inside.Fronts.{IsCutAt, front_of}
use Rattle.tdl_log.proofs.CutLines.{cut_once, lacks}
use Rattle.tdl_log.proofs.PlainBytes.{decimal_lacks}

pub some_of : {X : Type 0} (P : Type 0) (Q : X → Type 0) (r : Option X) → MatchOption r P Q → IfSome r Q
some_of P Q None h = tt
some_of P Q (Some x) h = h

pub none_of : {X : Type 0} (P : Type 0) (Q : X → Type 0) (r : Option X) → MatchOption r P Q → IfNone r P
none_of P Q None h = h
none_of P Q (Some x) h = tt

pub if_none_always : {X P : Type 0} (r : Option X) → P → IfNone r P
if_none_always None fact = fact
if_none_always (Some x) fact = tt

pub if_none_weaker : {X P Q : Type 0} (r : Option X) → (P → Q) → IfNone r P → IfNone r Q
if_none_weaker None f fact = f fact
if_none_weaker (Some x) f fact = tt

pub behind_front : (front text left other : List ℕ) → text ≡ front ++ left → text ≡ front ++ other → left ≡ other
behind_front front text left other p q = append_cancel_left front left other (sym p ∙ q)

pub behind_blank : (front text left other : List ℕ) → text ≡ front ++ 32 ∷ left → text ≡ front ++ 32 ∷ other → left ≡ other
behind_blank front text left other p q =
    let same : 32 ∷ left ≡ 32 ∷ other = behind_front front text (32 ∷ left) (32 ∷ other) p q in
    cc

-- a caller
pub is_caller : (digit : ℕ) (text rest left : List ℕ) → text ≡ digit ∷ rest → 48 ≤ digit → digit ≤ 56 → rest ≡ 32 ∷ left
    → text ≡ decimal (digit - 48) ++ 32 ∷ left
is_caller digit text rest left parts low high blank =
    let back : 48 + (digit - 48) ≡ digit = omega arith in
    let spelled : decimal (digit - 48) ≡ digit ∷ [] = decimal_digit (digit - 48) (omega arith) ∙ ap (λ (b : ℕ). b ∷ []) back in
    parts ∙ ap (λ (xs : List ℕ). digit ∷ xs) blank ∙ sym (ap (λ (xs : List ℕ). xs ++ 32 ∷ left) spelled)

caller_parts : (who digit : ℕ) (text rest left : List ℕ) → text ≡ digit ∷ rest → who ≤ 8 → text ≡ decimal who ++ 32 ∷ left
    → (digit ≡ 48 + who) × (rest ≡ 32 ∷ left)
caller_parts who digit text rest left parts few e =
    let whole : digit ∷ rest ≡ (48 + who) ∷ 32 ∷ left = sym parts ∙ e ∙ ap (λ (xs : List ℕ). xs ++ 32 ∷ left) (decimal_digit who (omega arith)) in
    (cc, cc)

pub no_caller : (digit : ℕ) (text rest : List ℕ) → text ≡ digit ∷ rest → (digit < 48) ⊎ (56 < digit)
    → (who : ℕ) (left : List ℕ) → who ≤ 8 → text ≡ decimal who ++ 32 ∷ left → ⊥
no_caller digit text rest parts (inl low) who left few e = omega (arith, (caller_parts who digit text rest left parts few e).0)
no_caller digit text rest parts (inr high) who left few e = omega (arith, (caller_parts who digit text rest left parts few e).0)

pub no_blank : (digit : ℕ) (text rest : List ℕ) → text ≡ digit ∷ rest → ((left : List ℕ) → rest ≡ 32 ∷ left → ⊥)
    → (who : ℕ) (left : List ℕ) → who ≤ 8 → text ≡ decimal who ++ 32 ∷ left → ⊥
no_blank digit text rest parts none who left few e = none left (caller_parts who digit text rest left parts few e).1

-- an entry's front
pub no_called : (place line called : List ℕ) → line ≡ place ++ 32 ∷ called
    → ((who : ℕ) (left : List ℕ) → who ≤ 8 → called ≡ decimal who ++ 32 ∷ left → ⊥)
    → (frontier : List ℕ) (who : ℕ) (said : List ℕ) → who ≤ 8 → line ≡ front_of place who frontier said → ⊥
no_called place line called parts none frontier who said few e =
    none who (frontier ++ 32 ∷ said) few (behind_blank place line called (decimal who ++ 32 ∷ (frontier ++ 32 ∷ said)) parts e)

pub no_time : (place line called timed : List ℕ) (caller : ℕ) → line ≡ place ++ 32 ∷ called → caller ≤ 8 → called ≡ decimal caller ++ 32 ∷ timed
    → (frontier : List ℕ) → ((left : List ℕ) → timed ≡ frontier ++ 32 ∷ left → ⊥)
    → (who : ℕ) (said : List ℕ) → who ≤ 8 → line ≡ front_of place who frontier said → ⊥
no_time place line called timed caller parts short spelled frontier none who said few e =
    let inner : called ≡ decimal who ++ 32 ∷ (frontier ++ 32 ∷ said) =
    behind_blank place line called (decimal who ++ 32 ∷ (frontier ++ 32 ∷ said)) parts e in
    none said (cut_once 32 (decimal caller) (decimal who) timed (frontier ++ 32 ∷ said) (decimal_lacks 32 caller (omega arith) (omega arith))
    (decimal_lacks 32 who (omega arith) (omega arith)) (sym spelled ∙ inner)).1

-- cut at a byte
not_true : (b : Bool) → (b ≡ true → ⊥) → b ≡ false
not_true true never = absurd (never refl)
not_true false never = refl

pub cut_missing : (mark : ℕ) (text : List ℕ) → IsFirstByte (is_byte mark) text None → has mark text ≡ false
cut_missing mark text none =
    or_from_places (has mark) (λ byte. byte == mark) refl (λ _ _. refl) text 0
    (λ i inside. not_true (get_or text i 0 == mark) (none i (omega arith) inside))

pub cut_found : (mark : ℕ) (text : List ℕ) (at : ℕ) → IsFirstByte (is_byte mark) text (Some at)
    → IsCutAt mark text (take at text) (take (length text - (at + 1)) (drop (at + 1) text))
cut_found mark text at found =
    let inside : at < length text = found.0.high in
    let here : get_or text at 0 ≡ mark = eqb-true (get_or text at 0) mark found.1 in
    record {
      joined = sym (take-append-drop at text)
          ∙ ap (λ (xs : List ℕ). take at text ++ xs) (drop_more text at 0 inside)
          ∙ ap (λ (b : ℕ). take at text ++ b ∷ drop (at + 1) text) here
          ∙ ap (λ (xs : List ℕ). take at text ++ mark ∷ xs) (sym (take_rest text (at + 1)));
      first = or_from_places (has mark) (λ byte. byte == mark) refl (λ _ _. refl) (take at text) 0
          (λ i within.
          let below : i < at = omega (arith, length-take-le at text (omega arith)) in
          ap (λ (b : ℕ). b == mark) (get_or-take at text i 0 below) ∙ not_true (get_or text i 0 == mark) (found.0.before i (omega arith) below));
    }

neither : (here later : Bool) → (here || later) ≡ false → (here ≡ false) × (later ≡ false)
neither true later e = absurd (cc)
neither false later e = (refl, e)

-- no such byte stands in the front, in the words of lines
pub cut_lacks : (mark : ℕ) (front : List ℕ) → has mark front ≡ false → lacks mark front ≡ true
cut_lacks mark [] none = refl
cut_lacks mark (byte ∷ front) none =
    let parts = neither (byte == mark) (has mark front) none in
    both (byte == mark) (lacks mark front) parts.0 (cut_lacks mark front parts.1)
  where
    both : (t u : Bool) → t ≡ false → u ≡ true → (not t && u) ≡ true
    both true u p q = absurd (cc)
    both false u p q = q

pub record CutParts (mark : ℕ) (text front left : List ℕ) : Type 0 where
  pub found : has mark text ≡ true
  pub ahead : before mark text ≡ front
  pub beyond : behind mark text ≡ left

parts_here : (mark byte : ℕ) (left : List ℕ) → (byte == mark) ≡ true → CutParts mark (byte ∷ left) [] left
parts_here mark byte left same = record { found = rw same refl; ahead = rw same refl; beyond = rw same refl }

parts_on : (mark byte : ℕ) (text front left : List ℕ) → (byte == mark) ≡ false → CutParts mark text front left
    → CutParts mark (byte ∷ text) (byte ∷ front) left
parts_on mark byte text front left other parts = record {
  found = rw other parts.found;
  ahead = rw other (ap (λ (xs : List ℕ). byte ∷ xs) parts.ahead);
  beyond = rw other parts.beyond;
}

parts_at : (mark : ℕ) (front left : List ℕ) → has mark front ≡ false → CutParts mark (front ++ mark ∷ left) front left
parts_at mark [] left none = parts_here mark mark left (eq-eqb mark mark refl)
parts_at mark (byte ∷ front) left none =
    let parts = neither (byte == mark) (has mark front) none in
    parts_on mark byte (front ++ mark ∷ left) front left parts.0 (parts_at mark front left parts.1)

pub cut_parts : {mark : ℕ} {text front left : List ℕ} → IsCutAt mark text front left → CutParts mark text front left
cut_parts {mark} {text} {front} {left} cut =
    let P : List ℕ → Type 0 = λ xs. CutParts mark xs front left in
    subst P (sym cut.joined) (parts_at mark front left cut.first)
