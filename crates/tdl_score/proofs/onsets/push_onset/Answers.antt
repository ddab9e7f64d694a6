use Rattle.std.proofs.Common.{◌≡◌, ◌++◌, sym, ap, ap₂, ◌∙◌, subst, true}
use Rattle.tdl_fraction.specs.Rational.{◌-ℚ◌}
use Rattle.tdl_fraction.specs.Range.{InRange}
use Rattle.tdl_event.specs.Event.{Event}
use Rattle.tdl_meaning.specs.Onsets.{has_onset}
use Rattle.tdl_score.specs.Score.{row_of}
use Rattle.tdl_score.proofs.PutRows.{onset_told, no_row, row_put}
use Rattle.tdl_score.proofs.onsets.push_onset.Goals as goal

pub returns-then-not-has_onset : goal.returns-then-not-has_onset
returns-then-not-has_onset c =
    no_row c.args.rows.now.items c.args.orbit c.args.event (onset_told c.args.event c.has_onset.result c.has_onset.ensures.onset ∙ c.if-not-has_onset.true)

pub sub-length-requires : goal.sub-length-requires
sub-length-requires c =
    let on = onset_told c.args.event c.has_onset.result c.has_onset.ensures.onset ∙ c.if-not-has_onset.false in
    rw (c.stop.ensures.value, c.start-onset.ensures.value)
    (subst (λ (e : Event). InRange (e.whole.stop -ℚ e.whole.start)) (sym c.event.view_is) (c.requires.in_range on))

pub returns-in_ok-push : goal.returns-in_ok-push
returns-in_ok-push c =
    let seen : Event = record { whole = c.event.inside.whole; part = c.event.inside.part; value = c.event.inside.value } in
    let on = onset_told c.args.event c.has_onset.result c.has_onset.ensures.onset ∙ c.if-not-has_onset.false in
    let length = c.sub-length.ensures ∙ ap₂ ◌-ℚ◌ c.stop.ensures.value c.start-onset.ensures.value in
    let put = row_put c.args.orbit seen c.in-Controls.controls c.start-onset.result c.sub-length.result
    (subst (λ (e : Event). has_onset e ≡ true) (sym c.event.view_is) on) c.in-Controls.is c.start-onset.ensures.value length in
    c.in_ok-push.ensures.items ∙ ap (λ rs. c.args.rows.now.items ++ rs) (put ∙ ap (row_of c.args.orbit) c.event.view_is)
