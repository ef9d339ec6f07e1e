use Rattle.cil_check.proofs.Common.{references, slice_get_within, get_or_from_slice_get}
use Rattle.cil_bind.specs.Policy.{bound_of}
use Rattle.cil_bind.proofs.BindingLemmas.{bound-at}
use Rattle.cil_check.proofs.KnownLemmas.{refs-found}
use Rattle.cil_check.proofs.SoundLemmas.{found-all, none-unset-of}
use Rattle.cil_check.proofs.checker.Checker.is_settled.Goals as goal

pub is_inside-requires : goal.is_inside-requires
is_inside-requires g c = (c.requires.0, c.requires.1.is, c.requires.2)

pub returns : goal.returns
returns g c = λ yes policy s noted at have.
    let b = c.args.self.now.bound in
    let within = slice_get_within policy c.args.place s at in
    let found = noted.is.inside s (c.args.place, within, get_or_from_slice_get policy c.args.place s s at) (c.is_inside.ensures yes policy s noted.is at) in
    let are = bound-at policy policy (bound_of b.policy.now b.joined.now.modules.items) c.args.place s noted.is.bound.bound at in
    let all = found-all policy b.policy.now.kinds.items c.args.self.now.actuals s.namespace (references s.form) _ noted.is.bound.kinds noted.has_actuals (have c.if-not-aliases_set.false) are (refs-found policy s found) in
    record { found = found; actual = none-unset-of policy s.namespace s.form all }
