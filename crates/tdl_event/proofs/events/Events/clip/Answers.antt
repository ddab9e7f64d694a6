use Rattle.std.proofs.Common.{rules}
use Rattle.tdl_event.proofs.Clips.{clip_by_retain}
use Rattle.tdl_event.proofs.events.Events.clip.Goals as goal

pub returns : goal.returns
returns c = rw (← c.self.view_is) (clip_by_retain c.args.arc _ _ (λ e b t f called. search rules) _ _ c.retain_mut.ensures.filtered)
