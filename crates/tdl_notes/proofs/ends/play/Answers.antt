use Rattle.std.proofs.Common.{◌≡◌, ◌+◌, ◌++◌, ◌∷◌, List, map, drop, sym, ap, subst, ◌∙◌, arith}
use Rattle.std.specs.List.{AllByRecursion}
use Rattle.tdl_agenda.specs.declared.items.Item.{Item}
use Rattle.tdl_midi.specs.Notes.{IsNote}
use Rattle.tdl_notes.specs.Notes.{Mark, message, on_of}
use Rattle.tdl_notes.specs.Waiting.{end_mark}
use Rattle.tdl_notes.specs.inside.Machine.{front, is_until, left, played}
use Rattle.tdl_notes.proofs.Fronts.{All-rest_part}
use Rattle.tdl_notes.proofs.OneMore.{played-step, left-step, sent-step}
use Rattle.tdl_notes.proofs.ends.play.Goals as goal

pub loop-tone-preserved : goal.loop-tone-preserved
loop-tone-preserved c =
    let to = c.args.to in
    let tones = c.args.tones.now in
    let i = c.loop-tone.tone-index in
    let tone = c.tone-item.result in
    let items = c.loop-tone.agenda.items in
    let after = c.play_due.new.agenda.items in
    let ends : List Mark = map end_mark (front (is_until tone.onset) items) in
    let later : List Mark = played to (drop (i + 1) tones) after in
    let kept = c.loop-tone.invariant in
    let step : played to (drop i tones) items ≡ ends ++ on_of tone ∷ later =
    played-step to i tone tones items (omega arith) c.tone-item.is
    ∙ ap (λ (l : List Item). ends ++ on_of tone ∷ played to (drop (i + 1) tones) l) (sym c.play_due.ensures.left) in
    record {
      messages = sent-step c.loop-tone.messages.items c.play_due.new.messages.items c.push_reserved.new.self.items
          (c.args.messages.now.items ++ map message (played to tones c.args.agenda.now.items)) ends later tone c.on.result c.play_due.ensures.messages
          c.push_reserved.ensures.items c.on.ensures
          (ap (λ (l : List Mark). c.loop-tone.messages.items ++ map message l) (sym step) ∙ kept.messages);
      left = ap (left to (drop (i + 1) tones)) c.play_due.ensures.left ∙ sym (left-step to i tone tones items (omega arith) c.tone-item.is) ∙ kept.left;
      ends = subst (λ (l : List Item). AllByRecursion (λ item. IsNote item.note) l) (sym c.play_due.ensures.left)
          (All-rest_part (is_until tone.onset) (λ item. IsNote item.note) items kept.ends);
      room = omega arith;
    }
