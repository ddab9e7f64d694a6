-- The calls on an input and an output that are one for a loop.
--     console_talks           they are calls on the two, each of which leaves the other alone
--     same_input, same_out    each is still the same device
use Rattle.std.proofs.Common.{◌≡◌, ℕ, List}
use Rattle.tdl_lines.specs.Prompt.{TalksPromptly}
use Rattle.tdl_lines.proofs.PromptLemmas.{talks_keep, talks_mapped}
use Rattle.tdl_app.specs.declared.console.Console.{Console}
use Rattle.tdl_app.specs.inside.Consoles.{KeepsInput, KeepsOut}
use Rattle.tdl_app.specs.CallOrder.{input_gave, input_lost, out_took, out_broke}

module _ {S K : Type 0} (gave : S → List ℕ → S → Type 0) (lost : S → S → Type 0) (took broke : K → List ℕ → K → Type 0) {old new : Console S K}
    (talks : TalksPromptly {T = Console S K} (λ c bytes d. gave c.input.now bytes d.input.now × KeepsOut c d)
    (λ c d. lost c.input.now d.input.now × KeepsOut c d) (λ c piece d. took c.out.now piece d.out.now × KeepsInput c d)
    (λ c piece d. broke c.out.now piece d.out.now × KeepsInput c d) old new) where
  pub console_talks : TalksPromptly {T = S × K} (input_gave gave) (input_lost lost) (out_took took) (out_broke broke) (old.input.now, old.out.now)
      (new.input.now, new.out.now)
  console_talks =
      talks_mapped (λ (c : Console S K). (c.input.now, c.out.now)) (input_gave gave) (input_lost lost) (out_took took) (out_broke broke)
      (λ a bytes b h. (h.0, h.1.out)) (λ a b h. (h.0, h.1.out)) (λ a piece b h. (h.0, h.1.input)) (λ a piece b h. (h.0, h.1.input)) talks

  pub same_input : new.input.ghost_name ≡ old.input.ghost_name
  same_input =
      talks_keep (λ (c : Console S K). c.input.ghost_name) (λ a bytes b h. h.1.input_name) (λ a b h. h.1.input_name) (λ a piece b h. h.1.input_name)
      (λ a piece b h. h.1.input_name) talks

  pub same_out : new.out.ghost_name ≡ old.out.ghost_name
  same_out =
      talks_keep (λ (c : Console S K). c.out.ghost_name) (λ a bytes b h. h.1.out_name) (λ a b h. h.1.out_name) (λ a piece b h. h.1.out_name)
      (λ a piece b h. h.1.out_name) talks
