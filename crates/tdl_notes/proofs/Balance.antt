-- As many ends of notes as begins.
--     ends_as_begins       over all messages of a score
--     no_more_ends         in each front of them
use Rattle.std.proofs.Common.{◌≡◌, ℕ, ◌+◌, ◌<◌, ◌≤◌, Bool, true, false, cond, not, ◌&&◌, nat_eq, List, [], ◌∷◌, ◌++◌, map, count_by}
use Rattle.std.proofs.Common.{refl, sym, ap, ap₂, subst, ◌∙◌, arith}
use Rattle.std.specs.List.{AllByRecursion}
use Rattle.std.proofs.lemmas.Bool.{false≢true, eqb-true, eq-eqb, and_parts, and_from, false_from_ne_true}
use Rattle.std.proofs.lemmas.List.Sums.{sum_by-cons, sum_by-append}
use Rattle.tdl_fraction.specs.Rational.{Rational, lt_ℚ, ◌≤ℚ◌}
use Rattle.tdl_fraction.proofs.Over.{lt_ℚ-true, lt_ℚ-false}
use Rattle.tdl_fraction.proofs.Order.{≤ℚ_refl, ≤ℚ_trans, <ℚ-≤ℚ_trans}
use Rattle.tdl_order.specs.TimeOrder.{Rises}
use Rattle.tdl_order.proofs.EachItem.{All-weaker}
use Rattle.tdl_order.proofs.InOrder.{Rises-by_time, count_by-by_time}
use Rattle.tdl_notes.specs.declared.tones.Tone.{Tone}
use Rattle.tdl_notes.specs.Notes.{Mark, time_of, on_of, off_of, marks, message, midi_finished}
use Rattle.tdl_notes.specs.Waiting.{IsToneTo, IsScoreTo}
use Rattle.tdl_notes.specs.Balance.{begins, ends, HasChannels}
use Rattle.tdl_notes.proofs.Gains.{finished_messages}

-- ---- counts
abbrev one : Bool → ℕ
one b = cond b 1 0

one-le : (b c : Bool) → (b ≡ true → c ≡ true) → one b ≤ one c
one-le true true h = omega arith
one-le true false h = absurd (false≢true (h refl))
one-le false true h = omega arith
one-le false false h = omega arith

module _ {A : Type 0} where
  count-cons : (p : A → Bool) (x : A) (xs : List A) → count_by p (x ∷ xs) ≡ one (p x) + count_by p xs
  count-cons p x xs = sum_by-cons (λ y. one (p y)) x xs

  count-append : (p : A → Bool) (xs ys : List A) → count_by p (xs ++ ys) ≡ count_by p xs + count_by p ys
  count-append p xs ys = sum_by-append (λ y. one (p y)) xs ys

  pub count-le : (p q : A → Bool) (xs : List A) → AllByRecursion (λ x. p x ≡ true → q x ≡ true) xs → count_by p xs ≤ count_by q xs
  count-le p q [] h = omega arith
  count-le p q (x ∷ xs) h =
      let more = count-le p q xs h.1 in
      let first = one-le (p x) (q x) h.0 in
      let e = count-cons p x xs in
      let f = count-cons q x xs in
      omega (arith, more, first, e, f)

  pub count-none : (p : A → Bool) (xs : List A) → AllByRecursion (λ x. p x ≡ false) xs → count_by p xs ≡ 0
  count-none p [] h = refl
  count-none p (x ∷ xs) h =
      let more = count-none p xs h.1 in
      let e = count-cons p x xs in
      let first : one (p x) ≡ 0 = ap one h.0 in
      omega (arith, more, first, e)

count-map : {A B : Type 0} (p : A → Bool) (f : B → A) (bs : List B) → count_by p (map f bs) ≡ count_by (λ b. p (f b)) bs
count-map p f [] = refl
count-map p f (b ∷ bs) =
    count-cons p (f b) (map f bs) ∙ ap (λ (n : ℕ). one (p (f b)) + n) (count-map p f bs) ∙ sym (count-cons (λ c. p (f c)) b bs)

-- ---- which message a mark has
module _ (channel key : ℕ) where
  abbrev ends_it : Mark → Bool
  ends_it mark = ends channel key (message mark)

  abbrev begins_it : Mark → Bool
  begins_it mark = begins channel key (message mark)

  abbrev plays_it : Tone → Bool
  plays_it tone = nat_eq tone.note.channel channel && (nat_eq tone.note.key key && true)

  shifted : (n a b : ℕ) → nat_eq (n + a) (n + b) ≡ nat_eq a b
  shifted n a b = by (nat_eq a b) refl
    where
      by : (t : Bool) → nat_eq a b ≡ t → nat_eq (n + a) (n + b) ≡ t
      by true e = let same = eqb-true a b e in eq-eqb (n + a) (n + b) (omega (arith, same))
      by false e =
          false_from_ne_true (nat_eq (n + a) (n + b))
          (λ f. let same = eqb-true (n + a) (n + b) f in
          let also : a ≡ b = omega (arith, same) in false≢true (sym e ∙ eq-eqb a b also))

  apart : (a b : ℕ) → a < b → nat_eq a b ≡ false
  apart a b h = false_from_ne_true (nat_eq a b) (λ e. let same = eqb-true a b e in absurd (omega (arith, same)))

  apart_above : (a b : ℕ) → b < a → nat_eq a b ≡ false
  apart_above a b h = false_from_ne_true (nat_eq a b) (λ e. let same = eqb-true a b e in absurd (omega (arith, same)))

  off-ends : (tone : Tone) → ends_it (off_of tone) ≡ plays_it tone
  off-ends tone = ap (λ (b : Bool). b && (nat_eq tone.note.key key && true)) (shifted 0x80 tone.note.channel channel)

  on-begins : (tone : Tone) → begins_it (on_of tone) ≡ plays_it tone
  on-begins tone = ap (λ (b : Bool). b && (nat_eq tone.note.key key && true)) (shifted 0x90 tone.note.channel channel)

  off-begins : (tone : Tone) → tone.note.channel ≤ 15 → begins_it (off_of tone) ≡ false
  off-begins tone h = ap (λ (b : Bool). b && (nat_eq tone.note.key key && true)) (apart (0x80 + tone.note.channel) (0x90 + channel) (omega arith))

  on-ends : (tone : Tone) → channel ≤ 15 → ends_it (on_of tone) ≡ false
  on-ends tone h = ap (λ (b : Bool). b && (nat_eq tone.note.key key && true)) (apart_above (0x90 + tone.note.channel) (0x80 + channel) (omega arith))

  each : {P : Tone → Type 0} → ((tone : Tone) → P tone) → (score : List Tone) → AllByRecursion P score
  each f [] = tt
  each f (tone ∷ tones) = (f tone, each f tones)

  -- ---- over a whole score, with tests of the time beside
  count-marks : (p : Mark → Bool) (score : List Tone)
      → count_by p (marks score) ≡ count_by (λ tone. p (off_of tone)) score + count_by (λ tone. p (on_of tone)) score
  unfolding marks
  count-marks p score =
      count_by-by_time time_of p (map off_of score ++ map on_of score) ∙ count-append p (map off_of score) (map on_of score)
      ∙ ap₂ (λ (m n : ℕ). m + n) (count-map p off_of score) (count-map p on_of score)

  count-ends : channel ≤ 15 → (score : List Tone) → count_by ends_it (marks score) ≡ count_by plays_it score
  count-ends low score =
      let all = count-marks ends_it score in
      let none = count-none (λ tone. ends_it (on_of tone)) score (each (λ tone. on-ends tone low) score) in
      let up = count-le (λ tone. ends_it (off_of tone)) plays_it score (each (λ tone e. sym (off-ends tone) ∙ e) score) in
      let down = count-le plays_it (λ tone. ends_it (off_of tone)) score (each (λ tone e. off-ends tone ∙ e) score) in
      omega (arith, all, none, up, down)

  count-begins : (score : List Tone) → HasChannels score → count_by begins_it (marks score) ≡ count_by plays_it score
  count-begins score h =
      let all = count-marks begins_it score in
      let none = count-none (λ tone. begins_it (off_of tone)) score
      (All-weaker (λ (tone : Tone). tone.note.channel ≤ 15) (λ tone. begins_it (off_of tone) ≡ false) off-begins score h) in
      let up = count-le (λ tone. begins_it (on_of tone)) plays_it score (each (λ tone e. sym (on-begins tone) ∙ e) score) in
      let down = count-le plays_it (λ tone. begins_it (on_of tone)) score (each (λ tone e. on-begins tone ∙ e) score) in
      omega (arith, all, none, up, down)

  pub ends_as_begins : (frontier : Rational) (score : List Tone) → IsScoreTo frontier score → HasChannels score → channel ≤ 15
      → count_by (ends channel key) (midi_finished frontier score) ≡ count_by (begins channel key) (midi_finished frontier score)
  ends_as_begins frontier score begun h low =
      let messages = finished_messages frontier score begun in
      ap (λ (l : List (List ℕ)). count_by (ends channel key) l) messages
      ∙ count-map (ends channel key) message (marks score)
      ∙ count-ends low score ∙ sym (count-begins score h)
      ∙ sym (count-map (begins channel key) message (marks score))
      ∙ sym (ap (λ (l : List (List ℕ)). count_by (begins channel key) l) messages)

  -- ---- of a front: what ends up to the time of its last mark began before it
  abbrev ended_by : Rational → Mark → Bool
  ended_by t mark = ends_it mark && not (lt_ℚ t mark.time)

  abbrev begun_before : Rational → Mark → Bool
  begun_before t mark = begins_it mark && lt_ℚ mark.time t

  not_true : (b : Bool) → not b ≡ true → b ≡ false
  not_true true e = sym e
  not_true false e = refl

  and_false : (b c : Bool) → c ≡ false → (b && c) ≡ false
  and_false true c e = e
  and_false false c e = refl

  none_and : (b c : Bool) → b ≡ false → (b && c) ≡ false
  none_and true c e = absurd (false≢true (sym e))
  none_and false c e = refl

  and_both : (b c : Bool) → b ≡ true → c ≡ true → (b && c) ≡ true
  and_both b c e f = and_from b c e f

  ended_began : (frontier t : Rational) (tone : Tone) → IsToneTo frontier tone → ended_by t (off_of tone) ≡ true → begun_before t (on_of tone) ≡ true
  ended_began frontier t tone is e =
      let both = and_parts (ends_it (off_of tone)) (not (lt_ℚ t tone.stop)) e in
      let up = (lt_ℚ-false t tone.stop).0 (not_true (lt_ℚ t tone.stop) both.1) in
      and_both (begins_it (on_of tone)) (lt_ℚ tone.onset t) (on-begins tone ∙ sym (off-ends tone) ∙ both.0)
      ((lt_ℚ-true tone.onset t).1 (<ℚ-≤ℚ_trans is.sounds up))

  ended-le-begun : (frontier t : Rational) (score : List Tone) → IsScoreTo frontier score → channel ≤ 15
      → count_by (ended_by t) (marks score) ≤ count_by (begun_before t) (marks score)
  ended-le-begun frontier t score begun low =
      let offs = count-marks (ended_by t) score in
      let ons = count-marks (begun_before t) score in
      let none = count-none (λ tone. ended_by t (on_of tone)) score
      (each (λ tone. none_and (ends_it (on_of tone)) (not (lt_ℚ t tone.onset)) (on-ends tone low)) score) in
      let some = count-le (λ tone. ended_by t (off_of tone)) (λ tone. begun_before t (on_of tone)) score
      (All-weaker (IsToneTo frontier) (λ tone. ended_by t (off_of tone) ≡ true → begun_before t (on_of tone) ≡ true) (ended_began frontier t) score begun) in
      omega (arith, offs, ons, none, some)

  front_by : (frontier t : Rational) (score : List Tone) (ms more : List Mark) → IsScoreTo frontier score → channel ≤ 15 → marks score ≡ ms ++ more
      → AllByRecursion (λ (m : Mark). m.time ≤ℚ t) ms → AllByRecursion (λ (m : Mark). t ≤ℚ m.time) more → count_by ends_it ms ≤ count_by begins_it ms
  front_by frontier t score ms more begun low e early late =
      let le = ended-le-begun frontier t score begun low in
      let offs : count_by (ended_by t) (marks score) ≡ count_by (ended_by t) ms + count_by (ended_by t) more =
      ap (λ (l : List Mark). count_by (ended_by t) l) e ∙ count-append (ended_by t) ms more in
      let ons : count_by (begun_before t) (marks score) ≡ count_by (begun_before t) ms + count_by (begun_before t) more =
      ap (λ (l : List Mark). count_by (begun_before t) l) e ∙ count-append (begun_before t) ms more in
      let none = count-none (begun_before t) more
      (All-weaker (λ (m : Mark). t ≤ℚ m.time) (λ m. begun_before t m ≡ false)
      (λ m h. and_false (begins_it m) (lt_ℚ m.time t) ((lt_ℚ-false m.time t).1 h)) more late) in
      let all = count-le ends_it (ended_by t) ms
      (All-weaker (λ (m : Mark). m.time ≤ℚ t) (λ m. ends_it m ≡ true → ended_by t m ≡ true)
      (λ m h k. and_both (ends_it m) (not (lt_ℚ t m.time)) k (ap not ((lt_ℚ-false t m.time).1 h))) ms early) in
      let some = count-le (begun_before t) begins_it ms
      (all_marks (λ m. begun_before t m ≡ true → begins_it m ≡ true) (λ m k. (and_parts (begins_it m) (lt_ℚ m.time t) k).0) ms) in
      omega (arith, le, offs, ons, none, all, some)
    where
      all_marks : (P : Mark → Type 0) → ((m : Mark) → P m) → (l : List Mark) → AllByRecursion P l
      all_marks P f [] = tt
      all_marks P f (m ∷ l) = (f m, all_marks P f l)

  front_of_marks : (frontier : Rational) (score : List Tone) (ms more : List Mark) → IsScoreTo frontier score → channel ≤ 15 → marks score ≡ ms ++ more
      → count_by ends_it ms ≤ count_by begins_it ms
  unfolding marks
  front_of_marks frontier score [] more begun low e = omega arith
  front_of_marks frontier score (m ∷ ms) more begun low e =
      let rises = subst (Rises time_of) e (Rises-by_time time_of (map off_of score ++ map on_of score)) in
      let last = last_time m ms more rises in
      front_by frontier last.0 score (m ∷ ms) more begun low e last.1 last.2
    where
      last_time : (m : Mark) (ms more : List Mark) → Rises time_of (m ∷ (ms ++ more))
          → (t : Rational) × AllByRecursion (λ (n : Mark). n.time ≤ℚ t) (m ∷ ms) × AllByRecursion (λ (n : Mark). t ≤ℚ n.time) more
      last_time m [] more r = (m.time, (≤ℚ_refl m.time, tt), r.0)
      last_time m (n ∷ ms) more r =
          let rest = last_time n ms more r.1 in
          (rest.0, (≤ℚ_trans r.0.0 rest.1.0, rest.1), rest.2)

  abbrev Split : List Mark → List (List ℕ) → Type 0
  Split xs us = (ms : List Mark) × (more : List Mark) × (xs ≡ ms ++ more) × (map message ms ≡ us)

  split_more : (x : Mark) (u : List ℕ) (xs : List Mark) (us : List (List ℕ)) → message x ≡ u → Split xs us → Split (x ∷ xs) (u ∷ us)
  split_more x u xs us e rest =
      (x ∷ rest.0, rest.1, ap (λ (l : List Mark). x ∷ l) rest.2, ap₂ (λ (b : List ℕ) (l : List (List ℕ)). b ∷ l) e rest.3)

  same_tail : (x u : List ℕ) (xs us : List (List ℕ)) → x ∷ xs ≡ u ∷ us → (x ≡ u) × (xs ≡ us)
  same_tail x u xs us e = (cc, cc)

  split_map : (xs : List Mark) (us vs : List (List ℕ)) → map message xs ≡ us ++ vs → Split xs us
  split_map xs [] vs e = ([], xs, refl, refl)
  split_map [] (u ∷ us) vs e = cc
  split_map (x ∷ xs) (u ∷ us) vs e =
      let both = same_tail (message x) u (map message xs) (us ++ vs) e in
      split_more x u xs us both.0 (split_map xs us vs both.1)

  pub no_more_ends : (frontier : Rational) (score : List Tone) → IsScoreTo frontier score → channel ≤ 15 → (sent later : List (List ℕ))
      → midi_finished frontier score ≡ sent ++ later → count_by (ends channel key) sent ≤ count_by (begins channel key) sent
  no_more_ends frontier score begun low sent later e =
      let parts = split_map (marks score) sent later (sym (finished_messages frontier score begun) ∙ e) in
      let le = front_of_marks frontier score parts.0 parts.1 begun low parts.2 in
      let offs : count_by (ends channel key) sent ≡ count_by ends_it parts.0 =
      ap (λ (l : List (List ℕ)). count_by (ends channel key) l) (sym parts.3) ∙ count-map (ends channel key) message parts.0 in
      let ons : count_by (begins channel key) sent ≡ count_by begins_it parts.0 =
      ap (λ (l : List (List ℕ)). count_by (begins channel key) l) (sym parts.3) ∙ count-map (begins channel key) message parts.0 in
      omega (arith, le, offs, ons)
