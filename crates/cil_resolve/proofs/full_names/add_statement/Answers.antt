use Rattle.cil_resolve.proofs.Common.{◌≡◌, ◌<◌, ◌++◌, ◌∷◌, [], length, rules, arith, sym, ap, ◌∙◌, length-map, full_name, reads-word, is-long, there-at, name_in, numbered_id, full_name_or, is_numbered_kind}
use Rattle.cil_resolve.proofs.FullNamesLemmas.{space_name_of, kind-absent, name-here, reads-absent}
use Rattle.cil_resolve.proofs.StatementLemmas.{row-of}
use Rattle.cil_resolve.proofs.full_names.add_statement.Goals as goal
use Rattle.cil_resolve.proofs.full_names.add_statement.Goals.{in-Some+in_ok-add_name, in_default}

pub index-row-requires : goal.index-row-requires
index-row-requires g c =
    let (policy, is, low) = c.requires.is in
    let long = is-long c.args.bound.now policy is in
    let below : c.args.i < length c.args.bound.now.policy.now.rows.items = omega (arith, long, low) in
    search rules

pub text_of-requires : goal.text_of-requires
text_of-requires g c =
    let (policy, is, low) = c.requires.is in
    let (s, at) = there-at policy c.args.i low in
    let seen = c.seen-seen.ensures.seen policy s is at in
    let word = reads-word c.seen-seen.result c.in-Some.word (numbered_id s.form) (rw c.in-Some.is at (c.numbered_word.ensures policy s seen)) in
    (word.0, word.2)

pub add_name-requires : goal.add_name-requires
add_name-requires g c =
    let (policy, is, low) = c.requires.is in
    let (s, at) = there-at policy c.args.i low in
    let within = (row-of c.args.bound.now policy c.args.i c.index-row.result.now s is at c.index-row.ensures).within in
    let named = ap length c.requires.spaces ∙ length-map c.args.bound.now.policy.now.lookup.namespaces (space_name_of c.args.bound.now.policy.now.names) in
    omega (arith, within, named)

pub returns-then-not-is_numbered : goal.returns-then-not-is_numbered
returns-then-not-is_numbered g c policy s is at =
    let none = kind-absent s.form (ap is_numbered_kind (sym (c.kind.ensures policy s is at)) ∙ sym c.is_numbered.ensures ∙ c.if-not-is_numbered.true) in
    c.in_ok-close.ensures.ok ∙ ap (λ l. (c.args.names.now.0 ++ l ∷ [], [])) (c.requires.closed ∙ ap (full_name_or s.namespace) (sym none))

pub returns : goal.returns
returns g c policy s is at =
    let p = c.args.bound.now.policy.now in
    let seen = c.seen-seen.ensures.seen policy s is at in
    let old = c.args.names.now in
    let named : c.match-numbered_word.names ≡ (old.0, full_name_or s.namespace (numbered_id s.form)) =
    elim c.match-numbered_word.branch [
      | in-Some+in_ok-add_name w ↦
          let word = reads-word c.seen-seen.result w.in-Some.word (numbered_id s.form) (rw w.in-Some.is at (c.numbered_word.ensures policy s seen)) in
          let full = name-here p.names p.lookup.namespaces is.bound.stands.numbered is.bound.stands.global c.args.spaces.now w.index-row.result.now s w.text_of.result.now c.requires.spaces
          (row-of c.args.bound.now policy c.args.i w.index-row.result.now s is at w.index-row.ensures) in
          w.names-is ∙ w.in_ok-add_name.ensures ∙ ap (λ l. (old.0, l ++ name_in c.args.spaces.now w.index-row.result.now.namespace w.text_of.result.now)) c.requires.closed ∙ ap (λ l. (old.0, l)) (full ∙ ap (full_name s.namespace) (w.text_of.ensures word.0 word.2) ∙ ap (full_name_or s.namespace) (sym word.1))
      | in_default w ↦
          w.names-is ∙ (λ j. (old.0, c.requires.closed j)) ∙ ap (λ o. (old.0, full_name_or s.namespace o)) (sym (reads-absent c.seen-seen.result (numbered_id s.form) (rw w.in_default.is at (c.numbered_word.ensures policy s seen))))
    ] in
    c.in_ok-close-2.ensures.ok ∙ ap (λ l. (l.0 ++ l.1 ∷ [], [])) named
