use Rattle.std.proofs.Common.{rules, ◌≤◌, ◌+◌, ◌-◌, arith, length, subst, sym, ap, ◌∙◌, take, drop}
use Rattle.std.specs.Rc.{rc_value}
use Rattle.cil_shared.proofs.PartLemmas.{part-long, part-part}
use Rattle.cil_shared.proofs.shared_part.SharedPart.part.Goals as goal

pub overflow_cast-start : goal.overflow_cast-start
overflow_cast-start g c =
    let p = c.self.inside in
    let within = subst (λ l. c.args.from + c.args.count ≤ length l) (sym c.self.view_is) c.requires in
    let long = part-long (rc_value p.items).items p.start p.end c.self.invariant.0 c.self.invariant.1 in
    let low : p.start + c.args.from + c.args.count ≤ p.end = omega arith in
    let few = c.self.invariant.2 in
    search rules

pub overflow_add-start : goal.overflow_add-start
overflow_add-start g c =
    let p = c.self.inside in
    let within = subst (λ l. c.args.from + c.args.count ≤ length l) (sym c.self.view_is) c.requires in
    let long = part-long (rc_value p.items).items p.start p.end c.self.invariant.0 c.self.invariant.1 in
    let low : p.start + c.args.from + c.args.count ≤ p.end = omega arith in
    let few = c.self.invariant.2 in
    search rules

pub overflow_cast-result : goal.overflow_cast-result
overflow_cast-result g c =
    let p = c.self.inside in
    let within = subst (λ l. c.args.from + c.args.count ≤ length l) (sym c.self.view_is) c.requires in
    let long = part-long (rc_value p.items).items p.start p.end c.self.invariant.0 c.self.invariant.1 in
    let low : p.start + c.args.from + c.args.count ≤ p.end = omega arith in
    let few = c.self.invariant.2 in
    search rules

pub overflow_add-result : goal.overflow_add-result
overflow_add-result g c =
    let p = c.self.inside in
    let within = subst (λ l. c.args.from + c.args.count ≤ length l) (sym c.self.view_is) c.requires in
    let long = part-long (rc_value p.items).items p.start p.end c.self.invariant.0 c.self.invariant.1 in
    let low : p.start + c.args.from + c.args.count ≤ p.end = omega arith in
    let few = c.self.invariant.2 in
    search rules

pub returns : goal.returns
returns g c =
    let p = c.self.inside in
    let within = subst (λ l. c.args.from + c.args.count ≤ length l) (sym c.self.view_is) c.requires in
    ap (λ v. take (p.start + c.args.from + c.args.count - (p.start + c.args.from)) (drop (p.start + c.args.from) v.items)) c.in_ok-clone.ensures.cases
    ∙ part-part (rc_value p.items).items p.start p.end c.args.from c.args.count c.self.invariant.0 c.self.invariant.1 within
    ∙ ap (λ l. take c.args.count (drop c.args.from l)) c.self.view_is
