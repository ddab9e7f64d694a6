use Rattle.std.proofs.Common.{◌≡◌, ◌≤◌, length, arith, ◌∙◌}
use Rattle.std.proofs.lemmas.List.{length-map}
use Rattle.tdl_expr.specs.Weights.{lowest, steps_of}
use Rattle.tdl_expr.proofs.JoinLemmas.{one_fits, joins_one, joins_silent, joins_steps, steps_length, steps_node, steps_none}
use Rattle.tdl_expr.proofs.WeightLemmas.{lowest_positive, lowest_sum}
use Rattle.tdl_expr.proofs.joins.timecat_of_counts.Goals as goal

pub push-requires-in_default : goal.push-requires-in_default
push-requires-in_default c =
    let counts = c.args.counts.now in
    let ids = c.args.children.now in
    let many : 2 ≤ length ids = omega (arith, c.in_default.len_at_least) in
    rw (c.in_ok-steps-in_default.ensures ∙ c.in_ok-lowest_steps-in_default.ensures)
    (steps_node c.args.table.now (lowest counts) ids (length-map counts _ ∙ c.requires.each) (lowest_positive counts c.requires.positive)
    (lowest_sum counts c.requires.sum) c.requires.rows many c.requires.few)

pub returns-in-len1 : goal.returns-in-len1
returns-in-len1 c =
    let counts = c.args.counts.now in
    let ids = c.args.children.now in
    let one : length ids ≡ 1 = omega (arith, c.in-len1.len_at_least, c.in-len1.len_below) in
    record {
      ok = joins_one c.args.table.now (lowest counts) ids _ one (length-map counts _ ∙ c.requires.each) c.requires.rows;
      refused = rw (one_fits c.args.table.now (length ids) one) tt;
      only = tt;
      err = tt;
    }

pub returns-in_ok-steps-in_default : goal.returns-in_ok-steps-in_default
returns-in_ok-steps-in_default c =
    let counts = c.args.counts.now in
    let ids = c.args.children.now in
    let many : 2 ≤ length ids = omega (arith, c.in_default.len_at_least) in
    let push = rw (c.in_ok-steps-in_default.ensures ∙ c.in_ok-lowest_steps-in_default.ensures) at c.push-in_default.ensures in
    joins_steps c.args.table.now c.push-in_default.new.self ids many (steps_of (lowest counts) ids)
    (steps_length (lowest counts) ids (length-map counts _ ∙ c.requires.each))
    c.push-in_default.result (record { ok = push.ok; refused = push.refused; only = push.only; err = push.err })

pub returns-in-empty : goal.returns-in-empty
returns-in-empty c =
    rw (steps_none (lowest c.args.counts.now) c.args.children.now c.in-empty.len_below)
    (joins_silent c.args.table.now c.push.new.self (length c.args.children.now) c.in-empty.len_below c.push.result
    (record { ok = c.push.ensures.ok; refused = c.push.ensures.refused; only = c.push.ensures.only; err = c.push.ensures.err }))
