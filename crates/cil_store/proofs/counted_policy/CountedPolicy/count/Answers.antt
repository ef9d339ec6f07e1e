use Rattle.cil_store.proofs.Common.{◌≡◌, ◌∙◌, ap, arith, length, count_with, meaning_in, count_of, gives}
use Rattle.std.proofs.lemmas.List.Sums.{count_by-le-length}
use Rattle.cil_rules.specs.Atoms.{atom_of}
use Rattle.cil_store.proofs.counted_policy.CountedPolicy.count.Goals as goal

pub returns : goal.returns
returns g c =
    let policy = c.args.self.now in
    let access = c.args.access.now in
    let same = c.resolved-policy.ensures ∙ c.self.view_is in
    let told : count_with c.self.inside.counters access.kind access.source.now access.target.now access.class.now access.permission.now ≡ count_of (meaning_in policy) (atom_of access) =
    c.counters_tell_accesses.ensures access.kind access.source.now access.target.now access.class.now access.permission.now ∙ ap (λ r. count_of (meaning_in r) (atom_of access)) same in
    let few = count_by-le-length (λ rule. gives (meaning_in policy) rule (atom_of access)) (meaning_in policy).rules in
    let many : c.rules_len.result ≡ length (meaning_in policy).rules = c.rules_len.ensures ∙ ap (λ r. length (meaning_in r).rules) same in
    let fits = c.rules_len.type_inv in
    let is = c.count.ensures in
    omega (arith, is, told, few, many, fits)
