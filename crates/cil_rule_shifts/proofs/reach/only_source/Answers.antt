use Rattle.cil_rule_shifts.proofs.Common.{◌&&◌, ◌∙◌, ap, has_source, in_part, is_among, not, sym}
use Rattle.cil_rule_shifts.proofs.OnlyLemmas.{alone-and, told-only}
use Rattle.cil_rule_shifts.proofs.ReachLemmas.{type-one}
use Rattle.cil_rule_shifts.proofs.reach.only_source.Goals as goal

pub returns-in-Lost-One-default : goal.returns-in-Lost-One-default
returns-in-Lost-One-default g c =
    let was = c.args.sources.was.now in
    let is = c.args.sources.is.now in
    let ty = c.in-Lost-One-default.ty in
    told-only (is_among c.args.sources) (not c.has.result) ty c.then_some.result c.then_some.ensures
    (λ holds t. ap (λ part. in_part part (has_source was t) (has_source is t)) c.in-Lost-One-default.is-0
    ∙ ap (λ b. b && not (has_source is t)) (type-one was.sources ty c.in-Lost-One-default.is-1 t)
    ∙ alone-and ty t (λ n. not (has_source is n)) (ap not (sym c.has.ensures) ∙ holds))

pub returns-in-Kept-One-default : goal.returns-in-Kept-One-default
returns-in-Kept-One-default g c =
    let was = c.args.sources.was.now in
    let is = c.args.sources.is.now in
    let ty = c.in-Kept-One-default.ty in
    told-only (is_among c.args.sources) c.has-in-Kept-One-default.result ty c.then_some-in-Kept-One-default.result c.then_some-in-Kept-One-default.ensures
    (λ holds t. ap (λ part. in_part part (has_source was t) (has_source is t)) c.in-Kept-One-default.is-0
    ∙ ap (λ b. b && has_source is t) (type-one was.sources ty c.in-Kept-One-default.is-1 t)
    ∙ alone-and ty t (has_source is) (sym c.has-in-Kept-One-default.ensures ∙ holds))

pub returns-in-Got-default-One : goal.returns-in-Got-default-One
returns-in-Got-default-One g c =
    let was = c.args.sources.was.now in
    let is = c.args.sources.is.now in
    let ty = c.in-Got-default-One.ty in
    told-only (is_among c.args.sources) (not c.has-in-Got-default-One.result) ty c.then_some-in-Got-default-One.result c.then_some-in-Got-default-One.ensures
    (λ holds t. ap (λ part. in_part part (has_source was t) (has_source is t)) c.in-Got-default-One.is-0
    ∙ ap (λ b. b && not (has_source was t)) (type-one is.sources ty c.in-Got-default-One.is-2 t)
    ∙ alone-and ty t (λ n. not (has_source was n)) (ap not (sym c.has-in-Got-default-One.ensures) ∙ holds))
