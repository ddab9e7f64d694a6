use Rattle.std.proofs.Common.{◌≡◌, ◌+◌, ◌≤◌, ◌++◌, IsTrue, None}
use Rattle.std.specs.Prelude.{if◌then◌else◌}
use Rattle.tdl_lines.specs.Fields.{IsReadAtEnd}
use Rattle.tdl_lines.specs.Lines.{HasNoFeed}
use Rattle.tdl_lines.specs.Pulls.{Pulled}
use Rattle.tdl_lines.proofs.StepLemmas.{Going}
use Rattle.tdl_lines.proofs.reader.LineReader.next.Given as goal

abbrev pub invariant-loop-self : goal.invariant-loop-self
invariant-loop-self g l =
    let fields = l.self-inside in
    let waiting = fields.piece.items ++ fields.chunk.value.unread in record {
      going : Going (Pulled g.S.Source.gave l.fn.self l.fn.source l.source) l.fn.self (g.S.Source.left l.fn.source)
          (g.S.Source.left l.source) waiting fields.left fields.ended;
      none_given : l.self-inside.given ≡ None;
      plain : HasNoFeed l.self-inside.piece.items;
      at_end : IsReadAtEnd fields.ended fields.chunk.value.unread;
      unasked : IsTrue l.fn.self.ended → l.source ≡ l.fn.source;
      counts : g.S.Source.faults l.fn.source ≤ g.S.Source.faults l.source;
    }

abbrev pub decreases-loop-self : goal.decreases-loop-self
decreases-loop-self g l = if l.self-inside.ended then l.self-inside.left else l.self-inside.left + 1
