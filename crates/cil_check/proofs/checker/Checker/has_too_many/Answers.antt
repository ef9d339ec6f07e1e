use Rattle.cil_check.proofs.Common.{◌<◌, ◌≤◌, [], length, fold, get_or, refl, ap, ◌∙◌, subst, texts, distinct, own_permissions, with_number, list_at}
use Rattle.cil_check.proofs.PermissionLemmas.{words-at}
use Rattle.cil_check.proofs.TooManyLemmas.{count-own, common-there, count-next, count-end}
use Rattle.cil_check.proofs.checker.Checker.has_too_many.Goals as goal

pub get-requires : goal.get-requires
get-requires g c =
    let (policy, s, noted, at) = c.requires in
    (words-at c.args.self.now.bound.policy.now.names policy c.args.self.now.permissions.words.0 c.args.class s noted.words at).0

pub loop-common-init : goal.loop-common-init
loop-common-init g c = λ policy s noted at.
    let checker = c.args.self.now in
    let lists = checker.permissions.words.0 in
    count-own checker.bound.policy.now.names policy lists c.args.class s c.insert_all.new.self noted.is.bound.stands.numbered.names_distinct noted.words at
    (c.insert_all.ensures ∙ ap (λ l. fold with_number l c.get.result.now) c.new-few.ensures ∙ ap (fold with_number []) c.get.ensures)

pub loop-common-preserved : goal.loop-common-preserved
loop-common-preserved g c = λ policy s noted at.
    let checker = c.args.self.now in
    let lists = checker.permissions.words.0 in
    let items = list_at checker.inherited c.args.class in
    let i = c.loop-common.common-index in
    let within = subst (λ l. i < length l) c.get-common-items.ensures c.loop-common-test.true in
    let (u, there) = common-there policy checker.inherited items c.args.class i noted.inherited refl within in
    count-next checker.bound.policy.now.names policy lists items i u (distinct (texts (own_permissions s.form))) c.loop-common.few c.insert_all-in-loop-common.new.self
    noted.is.bound.stands.numbered.names_distinct noted.words within there
    (c.insert_all-in-loop-common.ensures ∙ ap (fold with_number c.loop-common.few) (c.get-in-loop-common.ensures ∙ ap (λ l. get_or lists (get_or l i 0) []) c.get-common-items.ensures))
    (c.loop-common.invariant policy s noted at)

pub returns : goal.returns
returns g c policy s noted at first =
    let checker = c.args.self.now in
    let past = subst (λ l. length l ≤ c.loop-common.common-index) c.get-common-items.ensures c.loop-common-test.false in
    c.is_over.ensures
    ∙ count-end checker.bound.policy.now.names policy checker.inherited c.args.class c.loop-common.common-index s c.loop-common.few noted.inherited at first past (c.loop-common.invariant policy s noted at)
