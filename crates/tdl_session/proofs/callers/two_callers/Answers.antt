use Rattle.std.proofs.Common.{◌≡◌, ◌+◌, [], ◌∷◌, refl, sym, ap, ◌∙◌, subst, inl}
use Rattle.tdl_turn.specs.Numbers.{Among}
use Rattle.tdl_turn.proofs.Lists.{among_right}
use Rattle.tdl_session.specs.Passes.{PassView}
use Rattle.tdl_session.proofs.Records.{told_nothing, told_met_as}
use Rattle.tdl_session.proofs.callers.two_callers.Goals as goal

pub join-left-requires-after_bounds : goal.join-left-requires-after_bounds
join-left-requires-after_bounds g c = let may = g.M.Machine.may in let P : Type 0 = PassView g.row.M-Entry.Denot g.row.M-Fixed.Denot in
    let start = c.in-Ok.ensures.ok in let of = start.0 in let first = start.1 in let a = c.split-first.ensures.new in let b = c.split-second.ensures.new in
    let after = c.split-first.ensures.pass in
    let next : c.split-first.new.pass.next ≡ 2 = ap (λ (p : P). p.next) after ∙ ap (λ n. n + 1) first.2 in
    let one : c.split-first.result.number ≡ 1 = ap (λ (p : P). p.number) a ∙ first.2 in
    let two : c.split-second.result.number ≡ 2 = ap (λ (p : P). p.number) b ∙ next in λ lives longer. (
      (
        (ap (λ (p : P). p.table) a ∙ of.0, ap (λ (p : P). p.fixed) a ∙ of.1),
        λ own. subst (λ n. may n own c.args.a.0 × may n own c.args.a.1) (sym one) (c.requires.first own),
      ),
      (
        (
          ap (λ (p : P). p.table) b ∙ (ap (λ (p : P). p.table) after ∙ of.0),
          ap (λ (p : P). p.fixed) b ∙ (ap (λ (p : P). p.fixed) after ∙ of.1),
        ),
        λ own. subst (λ n. may n own c.args.b.0 × may n own c.args.b.1) (sym two) (c.requires.second own),
      ),
    )

pub returns-clause-first : goal.returns-clause-first
returns-clause-first g c = let by = g.M.Chronicle.by in let adds = g.M.Machine.adds in let fixed = g.M.Chronicle.fixed c.args.machine in
    let P : Type 0 = PassView g.row.M-Entry.Denot g.row.M-Fixed.Denot in
    let start = c.in-Ok.ensures.ok in let first = start.1 in let pass = c.split-first.result in let back = c.join-left.result.0.0 in
    let made : back.made ≡ 1 ∷ [] = c.join-left.ensures.first.0.3 ∙ (ap (λ (p : P). p.made) c.split-first.ensures.new ∙ ap (λ n. n ∷ []) first.2) in
    let own : Among 1 back.made = subst (Among 1) (sym made) (inl refl) in
    let seen : pass.seen ≡ [] = ap (λ (p : P). p.seen) c.split-first.ensures.new ∙ first.3 in
    let number : pass.number ≡ 1 = ap (λ (p : P). p.number) c.split-first.ensures.new ∙ first.2 in
    let told = c.join-left.ensures.first.1 [] (told_nothing by adds _ _ _ seen) in
    told_met_as by adds fixed fixed 1 1 c.meet.new.pass.made _ c.meet-2.new.pass.seen c.meet.new.pass.seen _ refl refl
    (subst (Among 1) (sym c.meet.ensures.numbers.0) (among_right 1 _ back.made own)) c.close-machine.ensures.history c.meet-2.ensures.this
    (told_met_as by adds fixed _ pass.number 1 back.made c.meet.new.pass.seen c.meet.new.pass.seen back.seen _ start.2 number own refl c.meet.ensures.that told)

pub returns-clause-second : goal.returns-clause-second
returns-clause-second g c = let by = g.M.Chronicle.by in let adds = g.M.Machine.adds in let fixed = g.M.Chronicle.fixed c.args.machine in
    let P : Type 0 = PassView g.row.M-Entry.Denot g.row.M-Fixed.Denot in
    let start = c.in-Ok.ensures.ok in let first = start.1 in let pass = c.split-second.result in let back = c.join-left.result.1.0 in
    let next : c.split-first.new.pass.next ≡ 2 = ap (λ (p : P). p.next) c.split-first.ensures.pass ∙ ap (λ n. n + 1) first.2 in
    let made : back.made ≡ 2 ∷ [] = c.join-left.ensures.second.0.3 ∙ (ap (λ (p : P). p.made) c.split-second.ensures.new ∙ ap (λ n. n ∷ []) next) in
    let own : Among 2 back.made = subst (Among 2) (sym made) (inl refl) in
    let seen : pass.seen ≡ [] = ap (λ (p : P). p.seen) c.split-second.ensures.new ∙ (ap (λ (p : P). p.seen) c.split-first.ensures.pass ∙ first.3) in
    let number : pass.number ≡ 2 = ap (λ (p : P). p.number) c.split-second.ensures.new ∙ next in
    let told = c.join-left.ensures.second.1 [] (told_nothing by adds _ _ _ seen) in
    told_met_as by adds fixed _ pass.number 2 back.made _ c.meet-2.new.pass.seen back.seen _ start.2 number own c.close-machine.ensures.history
    c.meet-2.ensures.that told
