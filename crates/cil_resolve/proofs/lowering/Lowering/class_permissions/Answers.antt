use Rattle.cil_resolve.proofs.Common.{◌≡◌, ◌∙◌, [], Some, fold, map, sym, ap, subst, fold-append, commons, with_name, distinct, texts, own_permissions, listed_by, permissions_of, kind_of, lists_own, common_of, AreNumbersIn}
use Rattle.cil_resolve.proofs.CommonLemmas.{class-permissions, common-lists}
use Rattle.cil_resolve.proofs.LoweringLemmas.{found-some, no-found}
use Rattle.cil_resolve.proofs.ElementLemmas.{first-declares}
use Rattle.cil_resolve.proofs.PartLemmas.{class-form}
use Rattle.cil_resolve.proofs.lowering.Lowering.class_permissions.Goals as goal
use Rattle.cil_resolve.proofs.lowering.Lowering.class_permissions.Goals.{in-Some+in_ok-add_listed-2, in_default}

pub returns : goal.returns
returns g c policy s is at a_class =
    let names = c.args.self.now.numbering.now.names.items in
    let (id, permissions, form) = class-form s.form a_class in
    let own = texts (own_permissions s.form) in
    let start : AreNumbersIn names [] c.new-permissions.result.items = ap (map Some) c.new-permissions.ensures.items in
    let first : AreNumbersIn names (fold with_name [] own) c.add_listed.new.permissions.items = c.in_ok-add_listed.ensures policy s [] is at (ap (λ f. lists_own (kind_of f)) form) start in
    let lead = c.common.ensures policy s is at a_class in
    let all : fold with_name (fold with_name [] own) (listed_by (common_of policy s)) ≡ distinct (permissions_of policy s) =
    sym (fold-append with_name [] own (listed_by (common_of policy s))) ∙ ap distinct (sym (class-permissions policy is.faultless s)) in
    subst (λ some. AreNumbersIn names some c.match-common.permissions.items) all (elim c.match-common.branch [
      | in-Some+in_ok-add_listed-2 w ↦
          let a = found-some commons policy c.common.result (common_of policy s) lead w.in-Some.common w.in-Some.is in
          let more = w.in_ok-add_listed-2.ensures policy a.t (fold with_name [] own) is a.at (common-lists a.t.form (first-declares commons policy w.in-Some.common a.t a.at a.first)) first in
          subst (λ v. AreNumbersIn names (fold with_name (fold with_name [] own) (listed_by (common_of policy s))) v.items) (sym w.permissions-is)
          (subst (λ o. AreNumbersIn names (fold with_name (fold with_name [] own) (listed_by o)) w.add_listed-in-Some.new.permissions.items) (sym a.lead_is) more)
      | in_default w ↦
          subst (λ v. AreNumbersIn names (fold with_name (fold with_name [] own) (listed_by (common_of policy s))) v.items) (sym w.permissions-is)
          (subst (λ o. AreNumbersIn names (fold with_name (fold with_name [] own) (listed_by o)) c.add_listed.new.permissions.items) (no-found commons policy c.common.result (common_of policy s) lead w.in_default.is) first)
    ])
