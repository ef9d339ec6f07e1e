use Rattle.cil_resolve.proofs.Common.{◌≡◌, true, ◌+◌, ◌++◌, ◌∷◌, ◌==◌, [], ◌∙◌, get_or, length, map, take, fold, Some, slice_get, sym, ap, subst, arith, length-map, if◌then◌else◌, list_any, take_all, with_name, has_name, distinct, texts, own_permissions, has-distinct, AreNumbersIn, number_in}
use Rattle.cil_check.proofs.PermissionLemmas.{words-at}
use Rattle.cil_resolve.proofs.NumberLemmas.{fold-distinct, name-among, name-there, named-in, names-fold, numbers-with}
use Rattle.cil_resolve.proofs.StatementLemmas.{contained}
use Rattle.cil_resolve.proofs.lowering.Lowering.add_listed.Goals as goal
use Rattle.cil_resolve.proofs.lowering.Lowering.add_listed.Goals.{then-not-contains+in_ok-push, else-not-contains}

pub loop-word-preserved : goal.loop-word-preserved
loop-word-preserved g c policy s before is at lists start =
    let i = c.loop-word.word-index in
    let names = c.args.self.now.numbering.now.names.items in
    let words = c.args.self.now.checker.now.bound.policy.now.names in
    let list = distinct (texts (own_permissions s.form)) in
    let shown : map (slice_get words) c.get-word-items.result.now ≡ map Some list =
    ap (map (slice_get words)) c.get-word-items.ensures ∙ (words-at words policy c.args.self.now.checker.now.permissions.words.0 c.args.place s is.noted.words at).1 in
    let (x, here, word) = name-there words c.get-word-items.result.now list i shown c.loop-word-test.true in
    let named : has_name (texts (own_permissions s.form)) x ≡ true = sym (has-distinct (texts (own_permissions s.form)) x) ∙ name-among list i x here in
    let listed = named-in (λ t. texts (own_permissions t.form)) policy s x (contained policy c.args.place s at) named in
    let number : number_in names x ≡ Some c.number_at.result =
    is.permissions _ x word listed ∙ ap (λ all. Some (get_or all (get_or c.get-word-items.result.now i 0) 0)) (sym c.deref.ensures.value) ∙ ap Some (sym c.number_at.ensures) in
    let old = c.loop-word.permissions.items in
    let n = c.number_at.result in
    let so_far = c.loop-word.invariant policy s before is at lists start in
    let next = numbers-with names (fold with_name before (take i list)) old x n so_far number in
    let among : c.contains.result ≡ list_any (λ k. k == n) old = c.contains.ensures.value ∙ ap (list_any (λ k. k == n)) c.deref-in-loop-word.ensures.value in
    let pushed : c.if-not-contains.permissions.items ≡ (if list_any (λ k. k == n) old then old else old ++ n ∷ []) =
    elim c.if-not-contains.branch [
      | then-not-contains+in_ok-push w ↦ ap (λ v. v.items) w.permissions-is ∙ w.in_ok-push.ensures.items ∙ ap (λ b. if b then old else old ++ n ∷ []) (sym (sym among ∙ w.if-not-contains.true))
      | else-not-contains w ↦ ap (λ v. v.items) w.permissions-is ∙ ap (λ b. if b then old else old ++ n ∷ []) (sym (sym among ∙ w.if-not-contains.false))
    ] in
    subst (AreNumbersIn names (fold with_name before (take (i + 1) list))) (sym pushed)
    (subst (λ some. AreNumbersIn names some (if list_any (λ k. k == n) old then old else old ++ n ∷ [])) (sym (names-fold before list i x here)) next)

pub returns : goal.returns
returns g c policy s before is at lists start =
    let words = c.args.self.now.checker.now.bound.policy.now.names in
    let all = texts (own_permissions s.form) in
    let list = distinct all in
    let shown : map (slice_get words) c.get-word-items.result.now ≡ map Some list =
    ap (map (slice_get words)) c.get-word-items.ensures ∙ (words-at words policy c.args.self.now.checker.now.permissions.words.0 c.args.place s is.noted.words at).1 in
    let long : length c.get-word-items.result.now ≡ length list = sym (length-map c.get-word-items.result.now (slice_get words)) ∙ ap length shown ∙ length-map list (λ x. Some x) in
    let past = c.loop-word-test.false in
    let numbers = c.loop-word.permissions.items in
    let names = c.args.self.now.numbering.now.names.items in
    let found = subst (λ l. AreNumbersIn names (fold with_name before l) numbers) (take_all c.loop-word.word-index list (omega (arith, long, past)))
    (c.loop-word.invariant policy s before is at lists start) in
    subst (λ some. AreNumbersIn names some numbers) (fold-distinct before all) found

pub loop-word-init : goal.loop-word-init
loop-word-init g c = λ policy s before is at lists start. start

pub get-word-items-requires : goal.get-word-items-requires
get-word-items-requires g c =
    let long = c.len.ensures in
    let low = c.if-place-len.false in
    omega (arith, long, low)

pub returns-then-place-len : goal.returns-then-place-len
returns-then-place-len g c = λ policy s before is at lists start.
    let checker = c.args.self.now.checker.now in
    let low = (words-at checker.bound.policy.now.names policy checker.permissions.words.0 c.args.place s is.noted.words at).0 in
    let long = c.len.ensures in
    let past = c.if-place-len.true in
    absurd (omega (arith, low, long, past))
