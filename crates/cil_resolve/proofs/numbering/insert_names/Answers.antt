use Rattle.cil_resolve.proofs.Common.{◌≡◌, ◌∙◌, ◌∷◌, [], fold, sym, ap, if◌then◌else◌, fold-append, with_name, texts, own_permissions, permissions_in, texts_of, lists_own, own-listed, seen-kind, is_numbered, is_numbered_kind, full_name_of}
use Rattle.cil_resolve.proofs.FullNamesLemmas.{kind-numbered}
use Rattle.cil_resolve.proofs.numbering.insert_names.Goals as goal
use Rattle.cil_resolve.proofs.numbering.insert_names.Goals.{then-is_numbered+in_ok-insert, else-is_numbered}

pub insert_words-requires : goal.insert_words-requires
insert_words-requires g c =
    let (policy, (s, seen)) = c.requires in
    (permissions_in seen.f.form, c.permissions.ensures (texts_of c.args.seen.now.«module».now) seen.f seen.shown)

pub returns-in_ok-insert_words : goal.returns-in_ok-insert_words
returns-in_ok-insert_words g c policy s seen named =
    let old = c.args.names.now in
    let list = permissions_in seen.f.form in
    let kind = seen-kind c.args.seen.now policy s seen in
    let numbered = c.is_numbered.ensures ∙ ap is_numbered_kind kind ∙ kind-numbered s.form in
    let own : list ≡ own_permissions s.form = ap permissions_in seen.form ∙ own-listed s.form (sym (c.lists_own.ensures ∙ ap lists_own kind) ∙ c.if-lists_own.true) in
    let first : c.if-is_numbered.names ≡ fold with_name old (if is_numbered s.form then full_name_of s ∷ [] else []) =
    elim c.if-is_numbered.branch [
      | then-is_numbered+in_ok-insert w ↦
          w.names-is ∙ w.in_ok-insert.ensures.ok ∙ ap (with_name old) named ∙ ap (λ b. fold with_name old (if b then full_name_of s ∷ [] else [])) (sym w.if-is_numbered.true ∙ numbered)
      | else-is_numbered w ↦
          w.names-is ∙ ap (λ b. fold with_name old (if b then full_name_of s ∷ [] else [])) (sym w.if-is_numbered.false ∙ numbered)
    ] in
    c.in_ok-insert_words.ensures list (c.permissions.ensures (texts_of c.args.seen.now.«module».now) seen.f seen.shown)
    ∙ ap (λ n. fold with_name n (texts list)) first ∙ ap (λ l. fold with_name (fold with_name old (if is_numbered s.form then full_name_of s ∷ [] else [])) (texts l)) own
    ∙ sym (fold-append with_name old (if is_numbered s.form then full_name_of s ∷ [] else []) (texts (own_permissions s.form)))
