use Rattle.std.proofs.Common.{◌+◌, ◌*◌, ap₂, ◌∙◌}
use Rattle.tdl_grid.proofs.Sums.{ends, cycle_read}
use Rattle.tdl_grid.proofs.Shares.{on_fits, on_passed, unit_positive, start_within, stop_within, share_counts}
use Rattle.tdl_grid.proofs.steps.Step.share.Goals as goal

pub overflow_add-begin : goal.overflow_add-begin
overflow_add-begin c =
    let s = c.args.self.now in
    let begin = cycle_read _ _ _ (s.width * s.total) c.number.ensures.value c.number.ensures.bound c.count_of-begin.ensures.value in
    on_fits c.count_of-begin.result s.cycle (s.width * s.total) (s.before * s.width) begin c.requires.first c.requires.last
    (unit_positive s.cycle s.before s.weight s.total s.width c.requires.weight c.requires.within c.requires.width c.requires.small c.requires.first c.requires.last) c.requires.small
    (start_within s.cycle s.before s.weight s.total s.width c.requires.weight c.requires.within c.requires.width c.requires.small c.requires.first c.requires.last)

pub overflow_add-begin-2 : goal.overflow_add-begin-2
overflow_add-begin-2 c =
    let s = c.args.self.now in
    let begin = cycle_read _ _ _ (s.width * s.total) c.number.ensures.value c.number.ensures.bound c.count_of-begin.ensures.value in
    on_fits c.count_of-begin.result s.cycle (s.width * s.total) (s.before * s.width + s.weight * s.width) begin c.requires.first c.requires.last
    (unit_positive s.cycle s.before s.weight s.total s.width c.requires.weight c.requires.within c.requires.width c.requires.small c.requires.first c.requires.last) c.requires.small
    (stop_within s.cycle s.before s.weight s.total s.width c.requires.weight c.requires.within c.requires.width c.requires.small c.requires.first c.requires.last)

pub between-requires : goal.between-requires
between-requires c =
    let s = c.args.self.now in
    let begin = cycle_read _ _ _ (s.width * s.total) c.number.ensures.value c.number.ensures.bound c.count_of-begin.ensures.value in
    let start = on_passed c.count_of-begin.result s.cycle (s.width * s.total) (s.before * s.width) begin c.requires.first c.requires.last
    (unit_positive s.cycle s.before s.weight s.total s.width c.requires.weight c.requires.within c.requires.width c.requires.small c.requires.first c.requires.last) c.requires.small
    (start_within s.cycle s.before s.weight s.total s.width c.requires.weight c.requires.within c.requires.width c.requires.small c.requires.first c.requires.last) in
    let stop = on_passed c.count_of-begin.result s.cycle (s.width * s.total) (s.before * s.width + s.weight * s.width) begin c.requires.first c.requires.last
    (unit_positive s.cycle s.before s.weight s.total s.width c.requires.weight c.requires.within c.requires.width c.requires.small c.requires.first c.requires.last) c.requires.small
    (stop_within s.cycle s.before s.weight s.total s.width c.requires.weight c.requires.within c.requires.width c.requires.small c.requires.first c.requires.last) in
    rw (start, stop) (share_counts s.cycle s.before s.weight s.total s.width c.requires.weight c.requires.within c.requires.width c.requires.small c.requires.first c.requires.last)

pub returns : goal.returns
returns c =
    let s = c.args.self.now in
    let begin = cycle_read _ _ _ (s.width * s.total) c.number.ensures.value c.number.ensures.bound c.count_of-begin.ensures.value in
    let start = on_passed c.count_of-begin.result s.cycle (s.width * s.total) (s.before * s.width) begin c.requires.first c.requires.last
    (unit_positive s.cycle s.before s.weight s.total s.width c.requires.weight c.requires.within c.requires.width c.requires.small c.requires.first c.requires.last) c.requires.small
    (start_within s.cycle s.before s.weight s.total s.width c.requires.weight c.requires.within c.requires.width c.requires.small c.requires.first c.requires.last) in
    let stop = on_passed c.count_of-begin.result s.cycle (s.width * s.total) (s.before * s.width + s.weight * s.width) begin c.requires.first c.requires.last
    (unit_positive s.cycle s.before s.weight s.total s.width c.requires.weight c.requires.within c.requires.width c.requires.small c.requires.first c.requires.last) c.requires.small
    (stop_within s.cycle s.before s.weight s.total s.width c.requires.weight c.requires.within c.requires.width c.requires.small c.requires.first c.requires.last) in
    c.between.ensures ∙ ap₂ ends start stop
