use Rattle.std.proofs.Common.{◌≡◌, List, [], ◌∷◌, ◌++◌, sym, ap, ◌∙◌, subst}
use Rattle.tdl_score.specs.declared.histories.Entry.{Entry}
use Rattle.tdl_score.specs.Known.{Tells}
use Rattle.tdl_log.specs.declared.walks.Line.TheVariants as told
use Rattle.tdl_log.specs.Log.{Log}
use Rattle.tdl_log.proofs.WalkSteps.{holds_with, placed_next, room_performed, room_place, room_ticks}
use Rattle.tdl_log.proofs.walks.Walk.take_entry.Goals as goal

pub with-self-requires-clause-place : goal.with-self-requires-clause-place
with-self-requires-clause-place g c = room_place g.R.Reader.reads c.args.self.now c.requires.holds

pub with-self-requires-clause-performed : goal.with-self-requires-clause-performed
with-self-requires-clause-performed g c = room_performed g.R.Reader.reads c.args.self.now c.requires.holds

pub with-self-requires-clause-ticks : goal.with-self-requires-clause-ticks
with-self-requires-clause-ticks g c = room_ticks g.R.Reader.reads c.args.self.now c.requires.holds

pub push-requires-clause-placed : goal.push-requires-clause-placed
push-requires-clause-placed g c = placed_next g.R.Reader.reads c.args.self.now c.requires.holds c.args.entry c.requires.stands.1

pub returns-clause-holds : goal.returns-clause-holds
returns-clause-holds g c =
    let sheet = c.args.self.now.sheet in
    let entries : c.push.new.self.entries ≡ sheet.history.entries ++ c.args.entry ∷ [] =
    c.push.ensures ∙ ap (λ (es : List Entry). es ++ c.args.entry ∷ []) c.reserve.ensures.entries in
    holds_with g.R.Reader.reads c.args.self.now c.requires.holds _ (told.Entry c.args.entry) c.requires.stands
    (ap (λ (es : List Entry). let log : Log = record { tempo = sheet.tempo; history = es; ends = sheet.ends } in log) entries)
    (subst (λ (es : List Entry). Tells c.with-self.result es) (sym entries) (c.with-self.ensures sheet.history.entries c.requires.holds.known))
    c.requires.holds.least
