use Rattle.std.proofs.Common.{◌∙◌, [], ◌∷◌, ◌++◌, map, take, ap, sym}
use Rattle.cil_parse.specs.PermissionLists.{permission_words, permission_texts}
use Rattle.cil_parse.proofs.RowLemmas.{made-next}
use Rattle.cil_parse.proofs.permission_lists.listed.Goals as goal

pub loop-i-preserved : goal.loop-i-preserved
loop-i-preserved g c =
    let i = c.loop-i.i in
    let rows = c.args.rows.now in
    let words = c.args.words.now.0 in
    let so_far = permission_texts (take i rows) (take i words) in
    c.in_ok-close.ensures.ok
    ∙ ap (λ s. (s.0 ++ s.1 ∷ [], [])) (c.in_ok-push_texts.ensures ∙ ap (λ s. (s.0, s.1 ++ map (λ w. w.text) c.permission_words.result.now)) c.loop-i.invariant)
    ∙ ap (λ l. (so_far ++ map (λ w. w.text) l ∷ [], [])) (c.permission_words.ensures ∙ ap (permission_words _) c.get.ensures)
    ∙ ap (λ l. (l, [])) (sym (made-next (λ row words. map (λ w. w.text) (permission_words row.kind words)) rows words i _ c.requires c.loop-i-test.true))
