use Rattle.cil_session.proofs.Common.{◌∙◌, min, refl, ap, sym, install, for_memory, install_refusal, refused, out_of_memory, by_the_edit, store_refusal_of, behind_fault, given_up, Memory}
use Rattle.cil_store_specs.proofs.BatchLemmas.{store-refused-step}
use Rattle.cil_session.proofs.AnswerLemmas.{held-answered}
use Rattle.cil_session.proofs.session.text_room.Goals as goal

pub returns-in-Err-clause-err : goal.returns-in-Err-clause-err
returns-in-Err-clause-err g c text size =
    let line = c.args.line in
    let why = c.in-Err.why in
    let b = c.is_open.ensures.yes c.if-is_open.true in
    let edit = install line.name.now line.priority text in
    held-answered _ _ _ b.0 edit (given_up why) _ _ b.1 (ap (behind_fault why) b.1) (c.in-Err.ensures.err b.0 edit b.1 (ap (λ n. min n 16777217) size)) refl

pub returns-in-Err-check_install-clause-err : goal.returns-in-Err-check_install-clause-err
returns-in-Err-check_install-clause-err g c text size number =
    let line = c.args.line in
    let store = g.C.Compiled.store c.args.engine.now in
    let none = c.is_open.ensures.no c.if-is_open.false in
    let edit = install line.name.now line.priority text in
    by_the_edit edit (refused (store_refusal_of c.in-Err-check_install.fault line.name.now line.priority)) store refl none
    (store-refused-step store edit _ ((λ i. install_refusal (sym c.store.ensures i) line.name.now line.priority (size i)) ∙ c.in-Err-check_install.ensures)) refl (ap (λ b. record { store = store; batch = b }) none)

pub returns-in-Err-with_capacity-clause-err : goal.returns-in-Err-with_capacity-clause-err
returns-in-Err-with_capacity-clause-err g c text size number =
    let store = g.C.Compiled.store c.args.engine.now in
    let none = c.is_open.ensures.no c.if-is_open.false in
    by_the_edit (install c.args.line.name.now c.args.line.priority text) (refused for_memory) store refl none (out_of_memory refl refl) refl (ap (λ b. record { store = store; batch = behind_fault Memory b }) none)
