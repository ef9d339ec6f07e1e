use Rattle.cil_check.proofs.Common.{◌++◌, ◌∷◌, [], not, ap, sym, ◌∙◌, if◌then◌else◌, list_any, is_listed, Listed}
use Rattle.cil_check.proofs.PermissionLemmas.{listed-insert, told-new}
use Rattle.cil_check.proofs.permissions.Permissions.add.Goals as goal

pub returns-in_ok-push : goal.returns-in_ok-push
returns-in_ok-push g c =
    let l : Listed = record { owner = c.args.owner; word = c.args.word } in
    let old = c.args.self.now in
    record {
      listed = λ k n. ap (list_any (is_listed k n)) c.in_ok-insert.ensures.keys ∙ listed-insert old.listed.keys l k n;
      words = c.in_ok-push.ensures.ok ∙ ap (λ b. (old.words.0, if b then old.words.1 else old.words.1 ++ c.args.word ∷ []))
          (sym (told-new old.listed.keys l c.in_ok-insert.field-0 c.in_ok-insert.ensures.added ∙ ap not c.if-branch.true));
    }

pub returns-else-branch : goal.returns-else-branch
returns-else-branch g c =
    let l : Listed = record { owner = c.args.owner; word = c.args.word } in
    let old = c.args.self.now in
    record {
      listed = λ k n. ap (list_any (is_listed k n)) c.in_ok-insert.ensures.keys ∙ listed-insert old.listed.keys l k n;
      words = ap (λ b. (old.words.0, if b then old.words.1 else old.words.1 ++ c.args.word ∷ []))
          (sym (told-new old.listed.keys l c.in_ok-insert.field-0 c.in_ok-insert.ensures.added ∙ ap not c.if-branch.false));
    }
