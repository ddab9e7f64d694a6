-- Which accepted calls' lines say that there is no memory: they begin with `a`, `d`, `t` and `f`, and that line with `n`.
use Rattle.std.proofs.Common.{◌≡◌, ℕ, false, List, ◌++◌, codes, get_or, IsTrue, ap, arith}
use Rattle.std.specs.Prelude.{◌↔◌}
use Rattle.std.specs.Str.{bytes_eq}
use Rattle.std.proofs.lemmas.Bool.{false≢true}
use Rattle.std.proofs.lemmas.List.{append_cancel_right}
use Rattle.std.proofs.lemmas.Slice.Eq.{bytes_eq-Decides}
use Rattle.tdl_core.specs.declared.replies.Reply.{Reply}
use Rattle.tdl_core.specs.declared.replies.Reply.TheVariants.{Swapped, Looked, Ticked, Finished}
use Rattle.tdl_core.specs.ReplyLines.{reply_line}
use Rattle.tdl_answer.specs.Answers.{no_memory_reply}
use Rattle.tdl_app.specs.inside.Responses.{is_lacking_look}

abbrev first_of : List ℕ → ℕ
first_of line = get_or line 0 0

pub reply_lacks : (reply : Reply) (frontier : ℕ) → IsTrue (is_lacking_look reply) ↔ (reply_line frontier reply ≡ no_memory_reply)
reply_lacks (Swapped place boundary) frontier =
    ((λ no. absurd (false≢true no)), λ lacks. let first : 97 ≡ 110 = ap first_of lacks in absurd (omega (arith, first)))
reply_lacks (Looked place text) frontier = (
  (λ same. ap (λ (t : List ℕ). t ++ codes "\n") ((bytes_eq-Decides text (codes "no memory")).0 same)),
  λ lacks. (bytes_eq-Decides text (codes "no memory")).1 (append_cancel_right text (codes "no memory") (codes "\n") lacks),
)
reply_lacks (Ticked place osc midi) frontier =
    ((λ no. absurd (false≢true no)), λ lacks. let first : 116 ≡ 110 = ap first_of lacks in absurd (omega (arith, first)))
reply_lacks (Finished place midi) frontier =
    ((λ no. absurd (false≢true no)), λ lacks. let first : 102 ≡ 110 = ap first_of lacks in absurd (omega (arith, first)))
