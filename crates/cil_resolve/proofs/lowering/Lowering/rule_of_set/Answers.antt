use Rattle.cil_resolve.proofs.Common.{◌∙◌, ◌∷◌, [], Some, sym, ap, subst, by_name, permission_sets, leads, name_or_none, AreRules, IsIn, IsOrdered, modules_of, rule_with, set_gives}
use Rattle.std.specs.Rc.{rc_value}
use Rattle.cil_specs.specs.Rule as spec
use Rattle.cil_resolve.specs.declared.numbered.ResolvedPermissions.TheVariants as permits
use Rattle.cil_resolve.proofs.RuleLemmas.{rule-made}
use Rattle.cil_resolve.proofs.SetGivenLemmas.{set-given}
use Rattle.cil_resolve.proofs.lowering.Lowering.rule_of_set.Goals as goal

pub seen-seen-requires : goal.seen-seen-requires
seen-seen-requires g c =
    let (policy, s, is, at, of_set) = c.requires in
    (policy, s, is, at)

pub rule_start-start-requires : goal.rule_start-start-requires
rule_start-start-requires g c =
    let (policy, s, is, at, (kind, source, target, set, form)) = c.requires in
    (policy, s, c.seen-seen.ensures policy s is at, at, (kind, source, target, by_name set, form))

pub number-requires : goal.number-requires
number-requires g c =
    let (policy, s, is, at, (kind, source, target, set, form)) = c.requires in
    let is_in : IsIn c.args.self.now c.seen-seen.result policy s = c.seen-seen.ensures policy s is at in
    let start = c.rule_start-start.ensures policy s kind source target (by_name set) is_in at form in
    record { policy = policy; s = s; table = permission_sets; word = set; is = is_in; at = start.refers }

pub returns : goal.returns
returns g c policy s is at (kind, source, target, set, form) know =
    let l = c.args.self.now in
    let modules = modules_of l.checker.now.bound.joined.now in
    let names = l.numbering.now.names.items in
    let r = c.rule_start-start.result in
    let p = c.in_ok-permissions.permissions in
    let is_in : IsIn c.args.self.now c.seen-seen.result policy s = c.seen-seen.ensures policy s is at in
    let start = c.rule_start-start.ensures policy s kind source target (by_name set) is_in at form in
    let name = name_or_none permission_sets (leads policy permission_sets s.namespace set.text) in
    let numbered = c.number.ensures.set policy s set is_in start.refers ∙ ap Some (sym c.in_ok-permissions.ensures.set) in
    let ordered = subst (λ n. IsOrdered (set_gives know.sets n) (rc_value p.given).items) (sym c.in_ok-permissions.ensures.set) (c.in_ok-permissions.ensures.given know.sets know.give) in
    subst (λ x. AreRules modules names policy (x ∷ []) (spec.rule_of policy s s.form)) (sym c.with.ensures)
    (subst (λ f. AreRules modules names policy (rule_with r (permits.OfSet p) ∷ []) (spec.rule_of policy s f)) (sym form)
    (rule-made modules names policy s r (permits.OfSet p) kind source target (by_name set) start (set-given l c.args.given.now policy name p know numbered ordered)))
