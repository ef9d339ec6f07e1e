use Rattle.cil_resolve.proofs.Common.{◌≡◌, ◌+◌, ◌∙◌, ◌++◌, ◌∷◌, [], map, take, Some, sym, ap, subst, arith, take_all, has_name, texts, read, permissions_in, texts_of, no_word, word-read, as-many, one-name-at, AreNumbersIn, listed_names}
use Rattle.cil_resolve.proofs.NumberLemmas.{numbers-push, text-passes}
use Rattle.cil_resolve.proofs.StatementLemmas.{map-one}
use Rattle.cil_resolve.proofs.lowering.Lowering.permissions.Goals as goal

pub permission-requires : goal.permission-requires
permission-requires g c =
    let (policy, (s, is)) = c.requires in
    let all = texts_of c.args.seen.now.«module».now in
    let shown = c.permissions-words.ensures all is.seen_is.f is.seen_is.shown in
    let found = word-read all c.permissions-words.result.now (permissions_in is.seen_is.f.form) c.loop-word.word-index no_word shown c.loop-word-test.true in
    (found.0, found.2)

pub loop-word-preserved : goal.loop-word-preserved
loop-word-preserved g c policy s is have =
    let i = c.loop-word.word-index in
    let names = c.args.self.now.numbering.now.names.items in
    let list = permissions_in s.form in
    let all = texts_of c.args.seen.now.«module».now in
    let shown : map (read all) c.permissions-words.result.now ≡ map Some list = c.permissions-words.ensures all is.seen_is.f is.seen_is.shown ∙ ap (λ f. map Some (permissions_in f)) is.seen_is.form in
    let (w, at, reads) = word-read all c.permissions-words.result.now list i no_word shown c.loop-word-test.true in
    let single = one-name-at list i w (is.lowering.noted.is.spelt s is.there).permissions at in
    let number = c.permission.ensures policy s w is reads single (text-passes (has_name (listed_names policy)) list i w have at) in
    subst (AreNumbersIn names (texts (take (i + 1) list))) (sym c.in_ok-push.ensures.items)
    (subst (λ some. AreNumbersIn names some (c.loop-word.permissions.items ++ c.permission.result ∷ [])) (sym (map-one (λ v. v.text) list i w at))
    (numbers-push names (texts (take i list)) c.loop-word.permissions.items w.text c.permission.result (c.loop-word.invariant policy s is have) number))

pub returns : goal.returns
returns g c policy s is have =
    let all = texts_of c.args.seen.now.«module».now in
    let list = permissions_in s.form in
    let shown : map (read all) c.permissions-words.result.now ≡ map Some list = c.permissions-words.ensures all is.seen_is.f is.seen_is.shown ∙ ap (λ f. map Some (permissions_in f)) is.seen_is.form in
    let long = as-many all c.permissions-words.result.now list shown in
    let past = c.loop-word-test.false in
    subst (λ l. AreNumbersIn c.args.self.now.numbering.now.names.items (texts l) c.loop-word.permissions.items) (take_all c.loop-word.word-index list (omega (arith, long, past))) (c.loop-word.invariant policy s is have)
