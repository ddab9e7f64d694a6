use Rattle.std.proofs.Common.{◌≡◌, suc, ◌+◌, ◌<◌, ◌∷◌, ◌++◌, length, length-append, refl, rules, sym, ap, subst, arith}
use Rattle.tdl_lines.specs.Fields.{rest_where}
use Rattle.tdl_lines.specs.Lines.{HasNoFeed, line_feed}
use Rattle.std.proofs.lemmas.Bool.{eqb-true}
use Rattle.std.proofs.lemmas.Grind.{common_steps}
use Rattle.tdl_lines.proofs.PullLemmas.{pulled_none, pulled_on, pulled_lost}
use Rattle.tdl_lines.proofs.StepLemmas.{all_in_piece, all_joined, answers_end, answers_err, answers_failed, answers_last, answers_line, answers_no_memory}
use Rattle.tdl_lines.proofs.StepLemmas.{answers_spent, empty_none, finds_line, going_begins, going_on, going_same}
use Rattle.tdl_lines.proofs.StepLemmas.{none_unread, not_yet, nothing, pending_none, shrinks_by}
use Rattle.tdl_lines.proofs.reader.LineReader.next.Goals as goal
use Rattle.tdl_lines.proofs.reader.LineReader.next.Goals.{in-Some-Joined, in-Some+in-Whole-1, in-None-1}

pub loop-self-init : goal.loop-self-init
loop-self-init g c =
    let was = c.self.inside in
    let rest = rest_where was.given was.piece.items in
    let unread = was.chunk.value.unread in
    let none = pulled_none g.S.Source.gave c.args.self.now c.args.source.now in record {
      going = elim c.match-self.branch [
        | in-Some-Joined w ↦ rw w.self-inside-is (going_begins _ rest _ unread was.left was.ended none c.self.view_is (search rules))
        | in-Some+in-Whole-1 w ↦ rw w.self-inside-is (going_begins _ rest _ unread was.left was.ended none c.self.view_is (search rules))
        | in-None-1 w ↦ rw w.self-inside-is (going_begins _ rest _ unread was.left was.ended none c.self.view_is (search rules))
      ];
      none_given = refl;
      plain = search rules;
      at_end = elim c.match-self.branch [
        | in-Some-Joined w ↦ rw w.self-inside-is c.self.invariant.at_end
        | in-Some+in-Whole-1 w ↦ rw w.self-inside-is c.self.invariant.at_end
        | in-None-1 w ↦ rw w.self-inside-is c.self.invariant.at_end
      ];
      unasked = λ ended. refl;
      counts = omega arith;
    }

pub invariant_of-self : goal.invariant_of-self
invariant_of-self g c =
    let loop = c.loop-self in
    record {
      no_feed = subst HasNoFeed (sym c.in_err-given.ensures.err) loop.invariant.plain;
      empty = empty_none _ _ loop.invariant.none_given;
      at_end = not_yet c.loop-self-test.true;
    }

pub returns-in_err-given-clause-reads : goal.returns-in_err-given-clause-reads
returns-in_err-given-clause-reads g c = λ taken given read.
    rw (answers_err c.from_residual.ensures.1)
    (answers_no_memory _ _ taken given c.loop-self.invariant.going c.loop-self-test.true read)

pub invariant_of-self-in-Some : goal.invariant_of-self-in-Some
invariant_of-self-in-Some g c =
    let loop = c.loop-self in
    let found = finds_line loop.self-inside.piece.items c.in-Some.is c.deref_mut.ensures.value loop.invariant.plain c.in_ok-given.ensures.ok in
    record { no_feed = found.piece_plain; empty = found.empty; at_end = not_yet c.loop-self-test.true }

pub returns-in-Some-clause-reads : goal.returns-in-Some-clause-reads
returns-in-Some-clause-reads g c = λ taken given read.
    let loop = c.loop-self in
    let found = finds_line loop.self-inside.piece.items c.in-Some.is c.deref_mut.ensures.value loop.invariant.plain c.in_ok-given.ensures.ok in
    answers_line found.line c.read_on.new.chunk.unread _ _ taken given loop.invariant.going found.parts found.plain found.rest found.shown read

pub returns-in-Some-clause-shrinks : goal.returns-in-Some-clause-shrinks
returns-in-Some-clause-shrinks g c = λ e.
    let loop = c.loop-self in
    let found = finds_line loop.self-inside.piece.items c.in-Some.is c.deref_mut.ensures.value loop.invariant.plain c.in_ok-given.ensures.ok in
    let sizes : length (found.line ++ line_feed ∷ c.read_on.new.chunk.unread) ≡ length found.line + suc (length c.read_on.new.chunk.unread) =
    length-append found.line (line_feed ∷ c.read_on.new.chunk.unread) in
    shrinks_by _ loop.invariant.going (omega (arith, ap length found.rest, ap length found.parts, sizes))

pub invariant_of-self-then-self-eq0 : goal.invariant_of-self-then-self-eq0
invariant_of-self-then-self-eq0 g c =
    let loop = c.loop-self in
    let joined = all_joined loop.self-inside.piece.items c.in_default-2.is c.deref_mut.ensures.value loop.invariant.plain c.in_ok-given.ensures.ok in
    record { no_feed = joined.plain; empty = empty_none _ _ loop.invariant.none_given; at_end = not_yet c.loop-self-test.true }

pub returns-then-self-eq0-clause-reads : goal.returns-then-self-eq0-clause-reads
returns-then-self-eq0-clause-reads g c = λ taken given read.
    let loop = c.loop-self in
    let joined = all_joined loop.self-inside.piece.items c.in_default-2.is c.deref_mut.ensures.value loop.invariant.plain c.in_ok-given.ensures.ok in
    let going = going_same c.read_on.new.piece.items joined.piece_is loop.invariant.going in
    let pending = pending_none loop.self-inside.given c.read_on.new.piece.items c.read_on.new.chunk.unread loop.invariant.none_given joined.none_left in
    answers_spent _ _ taken given going joined.plain c.loop-self-test.true c.if-self-eq0.true pending read

pub invariant_of-self-in_err-count : goal.invariant_of-self-in_err-count
invariant_of-self-in_err-count g c =
    let loop = c.loop-self in
    let joined = all_joined loop.self-inside.piece.items c.in_default-2.is c.deref_mut.ensures.value loop.invariant.plain c.in_ok-given.ensures.ok in
    record { no_feed = joined.plain; empty = empty_none _ _ loop.invariant.none_given; at_end = not_yet c.loop-self-test.true }

pub returns-in_err-count-clause-reads : goal.returns-in_err-count-clause-reads
returns-in_err-count-clause-reads g c = λ taken given read.
    let loop = c.loop-self in
    let joined = all_joined loop.self-inside.piece.items c.in_default-2.is c.deref_mut.ensures.value loop.invariant.plain c.in_ok-given.ensures.ok in
    let going = going_same c.read_on.new.piece.items joined.piece_is loop.invariant.going in
    let emptied = c.in_err-count.ensures.emptied in
    let pending = pending_none loop.self-inside.given c.read_on.new.piece.items c.fill.new.self.unread loop.invariant.none_given emptied in
    rw (answers_err c.from_residual-in_err-count.ensures.1)
    (answers_failed _ _ taken given going joined.plain c.loop-self-test.true (omega (arith, c.if-self-eq0.false)) pending c.in_err-count.ensures.err
    (λ more waits goes pulled. pulled_lost g.S.Source.gave g.S.Source.lost _ _ _ _ _ more joined.plain waits goes pulled c.in_err-count.ensures.lost) read)

pub loop-self-preserved : goal.loop-self-preserved
loop-self-preserved g c =
    let loop = c.loop-self in
    let joined = all_joined loop.self-inside.piece.items c.in_default-2.is c.deref_mut.ensures.value loop.invariant.plain c.in_ok-given.ensures.ok in
    let going = going_same c.read_on.new.piece.items joined.piece_is loop.invariant.going in
    record {
      going = going_on _ going c.loop-self-test.true (omega (arith, c.if-self-eq0.false)) c.in_ok-count.ensures.ok
          (λ more bytes waits goes pulled given. pulled_on g.S.Source.gave _ _ _ _ _ more bytes joined.plain waits goes pulled given)
          (λ e. eqb-true c.in_ok-count.count 0 e);
      none_given = loop.invariant.none_given;
      plain = joined.plain;
      at_end = λ e. none_unread c.in_ok-count.ensures.ok (eqb-true c.in_ok-count.count 0 e);
      unasked = λ before. not_yet c.loop-self-test.true (loop.invariant.going.takes.none_more before).1;
      counts = omega (arith, loop.invariant.counts, c.in_ok-count.ensures.cause.kept);
    }

pub invariant_of-self-then-is_empty : goal.invariant_of-self-then-is_empty
invariant_of-self-then-is_empty g c =
    let loop = c.loop-self in record {
      no_feed = loop.invariant.plain;
      empty = empty_none _ _ loop.invariant.none_given;
      at_end = loop.invariant.at_end;
    }

pub returns-then-is_empty-clause-reads : goal.returns-then-is_empty-clause-reads
returns-then-is_empty-clause-reads g c = λ taken given read.
    let loop = c.loop-self in
    let fields = loop.self-inside in
    let none_left = loop.invariant.at_end c.loop-self-test.false in
    let going = going_same fields.piece.items (all_in_piece fields.piece.items none_left) loop.invariant.going in
    let size : length fields.piece.items ≡ 0 = grind (arith, common_steps) in
    let pending = pending_none fields.given fields.piece.items fields.chunk.value.unread loop.invariant.none_given none_left in
    answers_end _ _ taken given going (nothing fields.piece.items size) c.loop-self-test.false pending read

pub invariant_of-self-2 : goal.invariant_of-self-2
invariant_of-self-2 g c =
    let loop = c.loop-self in record {
      no_feed = loop.invariant.plain;
      empty = tt;
      at_end = loop.invariant.at_end;
    }

pub returns-clause-reads : goal.returns-clause-reads
returns-clause-reads g c = λ taken given read.
    let loop = c.loop-self in
    let fields = loop.self-inside in
    let none_left = loop.invariant.at_end c.loop-self-test.false in
    let going = going_same fields.piece.items (all_in_piece fields.piece.items none_left) loop.invariant.going in
    let some : 0 < length fields.piece.items = grind (arith, common_steps) in
    answers_last _ _ taken given going loop.invariant.plain some c.loop-self-test.false none_left refl read

pub returns-clause-shrinks : goal.returns-clause-shrinks
returns-clause-shrinks g c = λ e.
    let loop = c.loop-self in
    let fields = loop.self-inside in
    let none_left = loop.invariant.at_end c.loop-self-test.false in
    let going = going_same fields.piece.items (all_in_piece fields.piece.items none_left) loop.invariant.going in
    let some : 0 < length fields.piece.items = grind (arith, common_steps) in
    shrinks_by _ going (omega (arith, ap length none_left, some))
