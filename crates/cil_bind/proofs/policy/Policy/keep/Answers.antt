use Rattle.std.proofs.Common.{sym, ◌∙◌, subst}
use Rattle.cil_bind.specs.Policy.{IsBoundTo}
use Rattle.cil_bind.proofs.RestrictLemmas.{all-restricted}
use Rattle.cil_bind.proofs.policy.Policy.keep.Goals as goal

pub returns-then-are_kept : goal.returns-then-are_kept
returns-then-are_kept g c = λ policy set is apart marked.
    let self = c.args.self.now in
    subst (IsBoundTo self c.args.joined.now.modules.items)
    (sym (all-restricted set c.args.kept.now self.rows.items c.as_slice.result.now policy c.as_slice.ensures.value (sym c.are_kept.ensures ∙ c.if-are_kept.true) marked)) is
