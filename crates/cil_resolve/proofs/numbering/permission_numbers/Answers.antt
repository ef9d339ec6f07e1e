use Rattle.cil_resolve.proofs.Common.{◌≡◌, ◌+◌, ◌++◌, ◌∙◌, length, take, sym, ap, subst, arith, append-nil, AllByRecursion, has_name, texts, own_permissions, permissions_in, texts_of, IsOneName, lists_own, own-listed, none-listed, naming, kind_of, names_with, listed_names, HavePermissionsOf}
use Rattle.cil_resolve.proofs.NumberLemmas.{has-words, named-in, own-named}
use Rattle.cil_resolve.proofs.NamingLemmas.{naming-there, naming-within, naming-all, flat-naming, not-listing}
use Rattle.cil_resolve.proofs.StatementLemmas.{contained, flat-one}
use Rattle.cil_resolve.proofs.numbering.permission_numbers.Goals as goal
use Rattle.cil_resolve.proofs.numbering.permission_numbers.Goals.{then-lists_own+in_ok-note_words, else-lists_own}

pub kind-requires : goal.kind-requires
kind-requires g c =
    let (policy, is, places, are) = c.requires.is in
    (policy, is, naming-within policy c.args.naming.now c.loop-k.k places c.loop-k-test.true)

pub seen-seen-requires : goal.seen-seen-requires
seen-seen-requires g c =
    let (policy, is, places, are) = c.requires.is in
    record { is = (policy, is, naming-within policy c.args.naming.now c.loop-k.k places c.loop-k-test.true) }

pub note_words-requires : goal.note_words-requires
note_words-requires g c =
    let (policy, is, places, are) = c.requires.is in
    let k = c.loop-k.k in
    let (s, among, at) = naming-there policy c.args.naming.now k places c.loop-k-test.true in
    let seen = c.seen-seen.ensures.seen policy s is at in
    let there = contained policy _ s at in
    let kind = sym (c.lists_own.ensures ∙ ap lists_own (c.kind.ensures policy s is at)) ∙ c.if-lists_own.true in
    let list = permissions_in seen.f.form in
    let own : list ≡ own_permissions s.form = ap permissions_in seen.form ∙ own-listed s.form kind in
    record {
      is = (
        c.args.bound.now.policy.now.names,
        list,
        c.seen-seen.ensures.worded policy is,
        c.permissions.ensures (texts_of c.seen-seen.result.«module».now) seen.f seen.shown,
        subst (λ f. AllByRecursion IsOneName (permissions_in f)) (sym seen.form) (is.spelt s there).permissions,
        has-words c.args.names.now list (λ name has. are name ∙ named-in names_with policy s name there (own-named s name (ap (λ l. has_name (texts l) name) (sym own) ∙ has))),
        c.loop-k.invariant.long,
      );
    }

pub loop-k-preserved : goal.loop-k-preserved
loop-k-preserved g c = elim c.if-lists_own.branch [
  | then-lists_own+in_ok-note_words w ↦ record {
    long = ap (λ v. length v.items) w.permissions-is ∙ w.in_ok-note_words.ensures.long ∙ c.loop-k.invariant.long;
    noted = λ policy is places.
        let names = c.args.bound.now.policy.now.names in
        let k = c.loop-k.k in
        let (s, among, at) = naming-there policy c.args.naming.now k places c.loop-k-test.true in
        let seen = w.seen-seen.ensures.seen policy s is at in
        let there = contained policy _ s at in
        let kind = sym (c.lists_own.ensures ∙ ap lists_own (c.kind.ensures policy s is at)) ∙ w.if-lists_own.true in
        let list = permissions_in seen.f.form in
        let own : list ≡ own_permissions s.form = ap permissions_in seen.form ∙ own-listed s.form kind in
        let all : listed_names (take k (naming policy)) ++ texts list ≡ listed_names (take (k + 1) (naming policy)) =
        ap (λ l. listed_names (take k (naming policy)) ++ texts l) own ∙ sym (flat-one (λ t. texts (own_permissions t.form)) (naming policy) k s among) in
        subst (λ some. HavePermissionsOf names c.args.names.now some c.if-lists_own.permissions.items) all
        (subst (HavePermissionsOf names c.args.names.now (listed_names (take k (naming policy)) ++ texts list)) (sym (ap (λ v. v.items) w.permissions-is))
        (w.in_ok-note_words.ensures.noted names (listed_names (take k (naming policy))) list (w.seen-seen.ensures.worded policy is) (w.permissions.ensures (texts_of w.seen-seen.result.«module».now) seen.f seen.shown)
        is.bound.stands.numbered.names_distinct (subst (λ f. AllByRecursion IsOneName (permissions_in f)) (sym seen.form) (is.spelt s there).permissions)
        c.loop-k.invariant.long (c.loop-k.invariant.noted policy is places)));
  }
  | else-lists_own w ↦ record {
    long = ap (λ v. length v.items) w.permissions-is ∙ c.loop-k.invariant.long;
    noted = λ policy is places.
        let names = c.args.bound.now.policy.now.names in
        let k = c.loop-k.k in
        let (s, among, at) = naming-there policy c.args.naming.now k places c.loop-k-test.true in
        let kind = sym (c.lists_own.ensures ∙ ap lists_own (c.kind.ensures policy s is at)) ∙ w.if-lists_own.false in
        let all : listed_names (take k (naming policy)) ≡ listed_names (take (k + 1) (naming policy)) =
        sym (append-nil (listed_names (take k (naming policy)))) ∙ ap (λ l. listed_names (take k (naming policy)) ++ texts l) (sym (none-listed s.form kind))
        ∙ sym (flat-one (λ t. texts (own_permissions t.form)) (naming policy) k s among) in
        subst (λ v. HavePermissionsOf names c.args.names.now (listed_names (take (k + 1) (naming policy))) v.items) (sym w.permissions-is)
        (subst (λ some. HavePermissionsOf names c.args.names.now some c.loop-k.permissions.items) all (c.loop-k.invariant.noted policy is places));
  }
]

pub returns : goal.returns
returns g c policy is places =
    let past = c.loop-k-test.false in
    subst (λ l. HavePermissionsOf c.args.bound.now.policy.now.names c.args.names.now l c.loop-k.permissions.items)
    (ap listed_names (naming-all policy c.args.naming.now c.loop-k.k places (omega (arith, past)))
    ∙ flat-naming (λ s. texts (own_permissions s.form)) policy (λ s other. ap texts (none-listed s.form (not-listing (kind_of s.form) other))))
    (c.loop-k.invariant.noted policy is places)
