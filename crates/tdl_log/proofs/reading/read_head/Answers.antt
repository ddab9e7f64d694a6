use Rattle.std.proofs.Common.{◌≡◌, ◌+◌, [], ◌∷◌, length, refl, sym, subst}
use Rattle.std.proofs.lemmas.Result.{err_from_is_err_and}
use Rattle.tdl_control.specs.declared.faults.Faulted.{Faulted}
use Rattle.tdl_fraction.specs.Rational.{Rational}
use Rattle.tdl_log.specs.declared.kinds.LogKind.{LogKind}
use Rattle.tdl_log.specs.LogGrammar.{RefusesLog}
use Rattle.tdl_log.specs.LogText.{cps_line, head_line}
use Rattle.tdl_log.specs.inside.Walks.{IsReadTo}
use Rattle.tdl_log.proofs.HeadLines.{first_early, first_read, first_wrong, from_zero, head_is, head_is_not, second_early, second_read, second_wrong}
use Rattle.tdl_log.proofs.HeadLines.{third_early, third_read, third_wrong}
use Rattle.tdl_log.proofs.reading.read_head.Goals as goal

pub returns-in_err-first-clause-err : goal.returns-in_err-first-clause-err
returns-in_err-first-clause-err g c =
    let p = err_from_is_err_and c.from_residual.result c.from_residual.ensures.1 in
    rw (p.1, p.2) (first_early g.R.Reader.reads c.args.text.now 0 _ c.in_err-first.ensures.err refl)

pub returns-then-ne-clause-err : goal.returns-then-ne-clause-err
returns-then-ne-clause-err g c =
    subst (λ (fault : Faulted LogKind). RefusesLog g.R.Reader.reads c.args.text.now fault) (sym c.head_fault.ensures)
    (first_wrong g.R.Reader.reads c.requires.reading c.args.text.now 0 c.in_ok-first.first.now _ c.in_ok-first.ensures.ok refl
    (head_is_not c.in_ok-first.first.now c.ne.result c.ne.ensures c.if-ne.true))

pub returns-in_err-second-clause-err : goal.returns-in_err-second-clause-err
returns-in_err-second-clause-err g c =
    let text = c.args.text.now in
    let first = c.in_ok-first.first.now in
    let one : IsReadTo (head_line ∷ []) text (length first + 1) =
    first_read text first 0 c.in_ok-first.ensures.ok c.in_ok-first.ensures.within refl (head_is first c.ne.result c.ne.ensures c.if-ne.false) in
    let p = err_from_is_err_and c.from_residual-in_err-second.result c.from_residual-in_err-second.ensures.1 in
    rw (p.1, p.2) (second_early g.R.Reader.reads text (length first + 1) _ c.in_err-second.ensures.err one)

pub returns-in_default-clause-err : goal.returns-in_default-clause-err
returns-in_default-clause-err g c =
    let text = c.args.text.now in
    let first = c.in_ok-first.first.now in
    let one : IsReadTo (head_line ∷ []) text (length first + 1) =
    first_read text first 0 c.in_ok-first.ensures.ok c.in_ok-first.ensures.within refl (head_is first c.ne.result c.ne.ensures c.if-ne.false) in
    subst (λ (fault : Faulted LogKind). RefusesLog g.R.Reader.reads text fault) (sym c.head_fault-in_default.ensures)
    (second_wrong g.R.Reader.reads c.requires.reading text (length first + 1) c.in_ok-second.second.now _ c.in_ok-second.ensures.ok one
    (rw c.in_default.is at c.read_cps.ensures.none))

pub returns-in_err-third-clause-err : goal.returns-in_err-third-clause-err
returns-in_err-third-clause-err g c =
    let text = c.args.text.now in
    let first = c.in_ok-first.first.now in
    let second = c.in_ok-second.second.now in
    let one : IsReadTo (head_line ∷ []) text (length first + 1) =
    first_read text first 0 c.in_ok-first.ensures.ok c.in_ok-first.ensures.within refl (head_is first c.ne.result c.ne.ensures c.if-ne.false) in
    let two : IsReadTo (head_line ∷ cps_line (from_zero c.in-Some.cps) ∷ []) text (length first + 1 + length second + 1) =
    second_read text second (length first + 1) c.in_ok-second.ensures.ok c.in_ok-second.ensures.within c.in-Some.cps one c.in-Some.ensures.some in
    let p = err_from_is_err_and c.from_residual-in_err-third.result c.from_residual-in_err-third.ensures.1 in
    rw (p.1, p.2)
    (third_early g.R.Reader.reads text (length first + 1 + length second + 1) _ c.in_err-third.ensures.err c.in-Some.cps c.in-Some.ensures.allowed two)

pub returns-in_default-read_tempo-clause-err : goal.returns-in_default-read_tempo-clause-err
returns-in_default-read_tempo-clause-err g c =
    let text = c.args.text.now in
    let first = c.in_ok-first.first.now in
    let second = c.in_ok-second.second.now in
    let one : IsReadTo (head_line ∷ []) text (length first + 1) =
    first_read text first 0 c.in_ok-first.ensures.ok c.in_ok-first.ensures.within refl (head_is first c.ne.result c.ne.ensures c.if-ne.false) in
    let two : IsReadTo (head_line ∷ cps_line (from_zero c.in-Some.cps) ∷ []) text (length first + 1 + length second + 1) =
    second_read text second (length first + 1) c.in_ok-second.ensures.ok c.in_ok-second.ensures.within c.in-Some.cps one c.in-Some.ensures.some in
    subst (λ (fault : Faulted LogKind). RefusesLog g.R.Reader.reads text fault) (sym c.head_fault-in_default-read_tempo.ensures)
    (third_wrong g.R.Reader.reads c.requires.reading text (length first + 1 + length second + 1) c.in_ok-third.third.now _ c.in_ok-third.ensures.ok
    c.in-Some.cps c.in-Some.ensures.allowed two (rw c.in_default-read_tempo.is at c.read_tempo.ensures.none))

pub returns-clause-ok : goal.returns-clause-ok
returns-clause-ok g c =
    let text = c.args.text.now in
    let first = c.in_ok-first.first.now in
    let second = c.in_ok-second.second.now in
    let tempo = c.in-Some-read_tempo.tempo in
    let one : IsReadTo (head_line ∷ []) text (length first + 1) =
    first_read text first 0 c.in_ok-first.ensures.ok c.in_ok-first.ensures.within refl (head_is first c.ne.result c.ne.ensures c.if-ne.false) in
    let two : IsReadTo (head_line ∷ cps_line (from_zero c.in-Some.cps) ∷ []) text (length first + 1 + length second + 1) =
    second_read text second (length first + 1) c.in_ok-second.ensures.ok c.in_ok-second.ensures.within c.in-Some.cps one c.in-Some.ensures.some in
    let same : c.in-Some.cps ≡ tempo.cps = sym c.in-Some-read_tempo.ensures.cps in
    third_read text c.in_ok-third.third.now (length first + 1 + length second + 1) c.in_ok-third.ensures.ok c.in_ok-third.ensures.within tempo
    (subst (λ (cps : Rational). IsReadTo (head_line ∷ cps_line (from_zero cps) ∷ []) text (length first + 1 + length second + 1)) same two)
    c.in-Some-read_tempo.ensures.some
