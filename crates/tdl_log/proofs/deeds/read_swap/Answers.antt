use Rattle.std.proofs.Common.{◌≡◌, ◌∙◌, ℕ, sym, ap}
use Rattle.std.specs.Fmt.{decimal}
use Rattle.tdl_log.specs.inside.Deeds.{IsSwapAt}
use Rattle.tdl_log.proofs.ReadDeeds.{no_swap, swap_once, swap_parts}
use Rattle.tdl_log.proofs.ReadNumbers.{if_none_at, if_some_at, told_apart}
use Rattle.tdl_log.proofs.deeds.read_swap.Goals as goal

pub returns-in_default-2-clause-none : goal.returns-in_default-2-clause-none
returns-in_default-2-clause-none g c = λ entries deed told may e.
    no_swap g.R.Reader.reads entries c.args.who c.args.said.now
    (λ boundary text done spelled.
    if_none_at c.in_ok-boundary.field-0 ((n : ℕ) → IsSwapAt g.R.Reader.reads c.args.known.now.frontier n c.in-Some.text.now → ⊥) c.in_default-2.is
    c.in_ok-boundary.ensures.none boundary
    (swap_parts g.R.Reader.reads c.reading_law.ensures entries c.args.who c.args.known.now.frontier boundary c.args.said.now c.in-Some.number.now
    c.in-Some.text.now text told.frontier c.requires c.in-Some.ensures.some done spelled).1)
    deed may e

pub returns-then-ne-clause-none : goal.returns-then-ne-clause-none
returns-then-ne-clause-none g c = λ entries deed told may e.
    no_swap g.R.Reader.reads entries c.args.who c.args.said.now
    (λ boundary text done spelled.
    let parts = swap_parts g.R.Reader.reads c.reading_law.ensures entries c.args.who c.args.known.now.frontier boundary c.args.said.now c.in-Some.number.now
    c.in-Some.text.now text told.frontier c.requires c.in-Some.ensures.some done spelled in
    let asked : IsSwapAt g.R.Reader.reads c.args.known.now.frontier c.in-Some-2.boundary c.in-Some.text.now =
    if_some_at c.in_ok-boundary.field-0 (λ n. IsSwapAt g.R.Reader.reads c.args.known.now.frontier n c.in-Some.text.now) c.in-Some-2.boundary c.in-Some-2.is
    c.in_ok-boundary.ensures.some in
    let same : c.in-Some-2.boundary ≡ boundary =
    swap_once g.R.Reader.reads c.reading_law.ensures c.args.known.now.frontier c.in-Some-2.boundary boundary c.in-Some.text.now asked parts.1 in
    told_apart c.as_bytes.result.now c.in-Some.number.now c.ne.result c.ne.ensures c.if-ne.true
    (c.as_bytes.ensures.value ∙ c.format.ensures.text ∙ ap decimal same ∙ sym parts.0))
    deed may e
