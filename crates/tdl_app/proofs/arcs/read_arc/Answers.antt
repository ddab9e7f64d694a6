use Rattle.std.proofs.Common.{inl, inr, refl, sym, subst, ◌∙◌}
use Rattle.std.proofs.lemmas.Bool.{false≢true}
use Rattle.tdl_fraction.specs.Rational.{Rational, ◌≤ℚ◌, ◌<ℚ◌}
use Rattle.tdl_fraction.proofs.Order.{≤ℚ_from_not}
use Rattle.tdl_app.specs.Arcs.{no_stop, order, last, grid}
use Rattle.tdl_app.proofs.arcs.read_arc.Goals as goal

pub returns-in_default-read-clause-err : goal.returns-in_default-read-clause-err
returns-in_default-read-clause-err c = no_stop c.in-Some.start c.in-Some.ensures.reads c.in-Some.ensures.in_range c.in_default-read.ensures.none refl

pub returns-then-is_less-clause-err : goal.returns-then-is_less-clause-err
returns-then-is_less-clause-err c =
    order (record { start = c.in-Some.start; stop = c.in-Some-read.stop })
    (
    record {
      start = c.in-Some.ensures.reads;
      stop = c.in-Some-read.ensures.reads;
      start_in_range = c.in-Some.ensures.in_range;
      stop_in_range = c.in-Some-read.ensures.in_range;
    }
    )
    (inl (subst (λ (x : Rational). c.in-Some.start <ℚ x) c.whole.ensures (c.is_less.ensures.less.0 c.if-is_less.true))) refl

pub returns-in_default-of-clause-err : goal.returns-in_default-of-clause-err
returns-in_default-of-clause-err c =
    order (record { start = c.in-Some.start; stop = c.in-Some-read.stop })
    (
    record {
      start = c.in-Some.ensures.reads;
      stop = c.in-Some-read.ensures.reads;
      start_in_range = c.in-Some.ensures.in_range;
      stop_in_range = c.in-Some-read.ensures.in_range;
    }
    )
    (inr (≤ℚ_from_not (λ h. false≢true (c.in_default-of.ensures.found.1 h)))) refl

pub returns-then-is_less-2-clause-err : goal.returns-then-is_less-2-clause-err
returns-then-is_less-2-clause-err c =
    last (record { start = c.in-Some.start; stop = c.in-Some-read.stop })
    (
    record {
      start = c.in-Some.ensures.reads;
      stop = c.in-Some-read.ensures.reads;
      start_in_range = c.in-Some.ensures.in_range;
      stop_in_range = c.in-Some-read.ensures.in_range;
    }
    )
    (
    record {
      from_zero = subst (λ (x : Rational). x ≤ℚ c.in-Some.start) c.whole.ensures (c.is_less.ensures.not_less.0 c.if-is_less.false);
      ordered = c.in-Some-of.ensures.found.0 refl;
    }
    )
    (subst (λ (x : Rational). x <ℚ c.in-Some-read.stop) c.whole-2.ensures (c.is_less-2.ensures.less.0 c.if-is_less-2.true)) refl

pub returns-then-not-is_on_grid-clause-err : goal.returns-then-not-is_on_grid-clause-err
returns-then-not-is_on_grid-clause-err c =
    let ends = c.in-Some-of.ensures.ends in
    grid c.in-Some-of.arc
    (
    record {
      start = rw ends.0 c.in-Some.ensures.reads;
      stop = rw ends.1 c.in-Some-read.ensures.reads;
      start_in_range = rw ends.0 c.in-Some.ensures.in_range;
      stop_in_range = rw ends.1 c.in-Some-read.ensures.in_range;
    }
    )
    (
    record {
      from_zero = rw ends.0 (subst (λ (x : Rational). x ≤ℚ c.in-Some.start) c.whole.ensures (c.is_less.ensures.not_less.0 c.if-is_less.false));
      ordered = rw (ends.0, ends.1) (c.in-Some-of.ensures.found.0 refl);
    }
    )
    (rw ends.1 (subst (λ (x : Rational). c.in-Some-read.stop ≤ℚ x) c.whole-2.ensures (c.is_less-2.ensures.not_less.0 c.if-is_less-2.false)))
    (λ h. false≢true (sym c.if-not-is_on_grid.true ∙ c.is_on_grid.ensures.1 h)) refl

pub returns-clause-ok : goal.returns-clause-ok
returns-clause-ok c =
    let ends = c.in-Some-of.ensures.ends in
    let on = c.is_on_grid.ensures.0 c.if-not-is_on_grid.false in
    record {
      start = rw ends.0 c.in-Some.ensures.reads;
      stop = rw ends.1 c.in-Some-read.ensures.reads;
      allowed = record {
        ordered = rw (ends.0, ends.1) (c.in-Some-of.ensures.found.0 refl);
        from_zero = rw ends.0 (subst (λ (x : Rational). x ≤ℚ c.in-Some.start) c.whole.ensures (c.is_less.ensures.not_less.0 c.if-is_less.false));
        to_last = rw ends.1 (subst (λ (x : Rational). c.in-Some-read.stop ≤ℚ x) c.whole-2.ensures (c.is_less-2.ensures.not_less.0 c.if-is_less-2.false));
        on_grid = on;
      };
    }
