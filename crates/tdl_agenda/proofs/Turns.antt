-- Which of two items comes first.
--     below-earlier, below-same, below-later   by their times, and at one time by their order numbers
--     not_later                                a lower item is not later
--     not_above                                a lower item is not above
--     below_or_above                           of two items with two order numbers one is below
--     below_trans                              what is below a lower item is below
--     not_below_itself                         no item is below itself
--     not_above_trans                          what is not below an item that is not below a third one is not below that
--     below_from                               an item that is not above a lower one is below
use Rattle.std.proofs.Common.{◌≡◌, ◌≢◌, ◌<◌, ◌≤◌, true, false, nat_lt, inl, inr, refl, sym, ◌∙◌, arith}
use Rattle.std.proofs.lemmas.Bool.{false≢true, ltb-true, ltb-false, lt-ltb, le-ltb, or_left, or_from, and_left, false_from_ne_true, true_from_ne_false}
use Rattle.tdl_fraction.specs.Rational.{Rational, ◌≤ℚ◌, ◌<ℚ◌}
use Rattle.tdl_fraction.specs.Same.{same_ℚ}
use Rattle.tdl_fraction.proofs.Over.{lt_ℚ-true, lt_ℚ-false}
use Rattle.tdl_fraction.proofs.Order.{≤ℚ_from_<ℚ, ≤ℚ_from_same, ≢_from_<ℚ, <ℚ_or_≡, ≤ℚ_or_<ℚ, <ℚ-≤ℚ_trans, ≤ℚ-<ℚ_trans}
use Rattle.tdl_order.proofs.ByTimes.{same_time, time_is_same}
use Rattle.tdl_agenda.specs.declared.items.Item.{Item}
use Rattle.tdl_agenda.specs.Agenda.{is_below}

pub below-earlier : (x y : Item) → x.time <ℚ y.time → is_below x y ≡ true
below-earlier x y h = or_left _ _ ((lt_ℚ-true x.time y.time).1 h)

pub below-same : (x y : Item) → x.time ≡ y.time → is_below x y ≡ nat_lt x.order y.order
below-same x y e = rw ((lt_ℚ-false x.time y.time).1 (≤ℚ_from_same (sym e)), same_time (λ (t : Rational). t) y.time x.time e)

pub below-later : (x y : Item) → y.time <ℚ x.time → is_below x y ≡ false
below-later x y h =
    let apart = false_from_ne_true (same_ℚ x.time y.time) (λ e. ≢_from_<ℚ h (sym (time_is_same (λ (t : Rational). t) y.time x.time e))) in
    or_from _ _ ((lt_ℚ-false x.time y.time).1 (≤ℚ_from_<ℚ h)) (and_left _ _ apart)

pub not_later : (x y : Item) → is_below x y ≡ true → x.time ≤ℚ y.time
not_later x y h = elim (≤ℚ_or_<ℚ x.time y.time) [ inl at_most ↦ at_most | inr later ↦ absurd (false≢true (sym (below-later x y later) ∙ h)) ]

lower_order : (x y : Item) → x.time ≡ y.time → is_below x y ≡ true → x.order < y.order
lower_order x y e h = ltb-true x.order y.order (sym (below-same x y e) ∙ h)

pub not_above : (x y : Item) → is_below x y ≡ true → is_below y x ≡ false
not_above x y h = elim (<ℚ_or_≡ (not_later x y h)) [
  | inl earlier ↦ below-later y x earlier
  | inr same ↦ let lower = lower_order x y same h in below-same y x (sym same) ∙ le-ltb y.order x.order (omega arith)
]

pub below_or_above : (x y : Item) → y.order ≢ x.order → is_below x y ≡ false → is_below y x ≡ true
below_or_above x y apart h = elim (≤ℚ_or_<ℚ x.time y.time) [
  | inr later ↦ below-earlier y x later
  | inl at_most ↦ elim (<ℚ_or_≡ at_most) [
    | inl earlier ↦ absurd (false≢true (sym h ∙ below-earlier x y earlier))
    | inr same ↦
        let at_most : y.order ≤ x.order = ltb-false x.order y.order (sym (below-same x y same) ∙ h) in
        below-same y x (sym same) ∙ lt-ltb y.order x.order (grind (arith, apart))
  ]
]

pub below_trans : (x y z : Item) → is_below x y ≡ true → is_below y z ≡ true → is_below x z ≡ true
below_trans x y z h k = elim (<ℚ_or_≡ (not_later x y h)) [
  | inl earlier ↦ below-earlier x z (<ℚ-≤ℚ_trans earlier (not_later y z k))
  | inr same ↦ elim (<ℚ_or_≡ (not_later y z k)) [
    | inl earlier ↦ below-earlier x z (≤ℚ-<ℚ_trans (≤ℚ_from_same same) earlier)
    | inr also ↦
        let first = lower_order x y same h in
        let second = lower_order y z also k in
        below-same x z (same ∙ also) ∙ lt-ltb x.order z.order (omega arith)
  ]
]

pub not_below_itself : (x : Item) → is_below x x ≡ false
not_below_itself x = below-same x x refl ∙ le-ltb x.order x.order (omega arith)

not_earlier : (x y : Item) → is_below y x ≡ false → x.time ≤ℚ y.time
not_earlier x y h = elim (≤ℚ_or_<ℚ x.time y.time) [ inl at_most ↦ at_most | inr later ↦ absurd (false≢true (sym h ∙ below-earlier y x later)) ]

pub not_above_trans : (x y z : Item) → is_below y x ≡ false → is_below z y ≡ false → is_below z x ≡ false
not_above_trans x y z h k = elim (<ℚ_or_≡ (not_earlier x y h)) [
  | inl earlier ↦ below-later z x (<ℚ-≤ℚ_trans earlier (not_earlier y z k))
  | inr same ↦ elim (<ℚ_or_≡ (not_earlier y z k)) [
    | inl earlier ↦ below-later z x (≤ℚ-<ℚ_trans (≤ℚ_from_same same) earlier)
    | inr also ↦
        let first : x.order ≤ y.order = ltb-false y.order x.order (sym (below-same y x (sym same)) ∙ h) in
        let second : y.order ≤ z.order = ltb-false z.order y.order (sym (below-same z y (sym also)) ∙ k) in
        below-same z x (sym (same ∙ also)) ∙ le-ltb z.order x.order (omega arith)
  ]
]

pub below_from : (w y x : Item) → is_below w y ≡ false → is_below w x ≡ true → is_below y x ≡ true
below_from w y x h k = true_from_ne_false (is_below y x) (λ e. false≢true (sym (not_above_trans x y w e h) ∙ k))
