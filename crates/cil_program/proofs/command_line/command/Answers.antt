use Rattle.cil_program.proofs.Common.{◌≡◌, ◌∙◌, ◌≤◌, ◌⊎◌, inl, inr, ℕ, List, [], Option, Result, IfOk, OnErr, HasFailed, WritesBoth, option_map, unwrap_or, ap, sym, subst, arith, take_all, rows_of, Gains, GainsFront, gains-none, untold, IsToBePrinted, IsToBeWritten}
use Rattle.clap.specs.Matches.{found_of}
use Rattle.clap.specs.declared.error.kind.ErrorKind.{ErrorKind}
use Rattle.clap.specs.declared.error.kind.ErrorKind.TheVariants.{OutOfMemory}
use Rattle.cil_program.specs.CommandLine.{IsTold, LacksMemory, Written}
use Rattle.cil_program.specs.Program.{IsAnswered}
use Rattle.cil_program.proofs.CommandLineLemmas.{front-all}
use Rattle.cil_program.proofs.BothLemmas.{both-finished, both-low, both-wider, written_by}
use Rattle.cil_stream.specs.declared.sink.SinkFault.{SinkFault}
use Rattle.cil_program.proofs.StatusLemmas.{printed-low, written-low}
use Rattle.cil_program.proofs.command_line.command.Goals as goal

none-taken : (old new : Option (List ℕ)) → GainsFront old new [] → new ≡ old
none-taken old new (n, within, gains) = subst (Gains old new) (take_all n [] (omega arith)) gains ∙ sym (gains-none old)

-- what is told where memory ran out says so
lacks : (kind : ErrorKind) (out new err err_new : Written) (status : ℕ) → kind ≡ OutOfMemory → IsAnswered (IsTold kind) out new err err_new status → LacksMemory out new err err_new status
lacks kind out new err err_new status memory (inl (printed, told, gains, gains_told, means)) =
    let (none, line, one) = means.1 memory in
    (none-taken out.taken new.taken (subst (GainsFront out.taken new.taken) none (front-all out.taken new.taken printed gains)), inl (one, subst (Gains err.taken err_new.taken) line gains_told))
lacks kind out new err err_new status memory (inr (three, failed, (printed, told, meant, front, front_told, means))) =
    let (none, line, one) = means.1 memory in
    (none-taken out.taken new.taken (subst (GainsFront out.taken new.taken) none front), inr (three, subst (GainsFront err.taken err_new.taken) line front_told, failed))

-- it was told, and then flushed
lacks-told : {W E : Type 0} {taken : W → Option (List ℕ)} {failures : W → ℕ} {err_taken : E → Option (List ℕ)} {err_failures : E → ℕ} {out mid new : W} {err err_mid err_new : E} (kind : ErrorKind) (told : Result ℕ SinkFault) (status : ℕ)
    → kind ≡ OutOfMemory → WritesBoth taken failures out mid err_taken err_failures err err_mid (IsTold kind) told → taken new ≡ taken mid → err_taken err_new ≡ err_taken err_mid → failures mid ≤ failures new → err_failures err_mid ≤ err_failures err_new
    → IfOk told (λ s. (status ≡ s) ⊎ ((status ≡ 3) × (HasFailed (failures mid) (failures new) ⊎ HasFailed (err_failures err_mid) (err_failures err_new)))) → OnErr told (status ≡ 3)
    → LacksMemory (written_by taken failures out) (written_by taken failures new) (written_by err_taken err_failures err) (written_by err_taken err_failures err_new) status
lacks-told {taken = taken} {failures = failures} {err_taken = err_taken} {err_failures = err_failures} {out = out} {new = new} {err = err} {err_new = err_new} kind told status memory both same err_same counted err_counted ok three =
    lacks kind (written_by taken failures out) (written_by taken failures new) (written_by err_taken err_failures err) (written_by err_taken err_failures err_new) status memory
    (both-finished told status both same err_same counted err_counted ok three)

pub returns-clause-status : goal.returns-clause-status
returns-clause-status g c = both-low _ c.answer_compile-answered.result c.finish-2.result (λ printed told status. written-low printed told status (λ _. untold) (rows_of (found_of c.in-Some-subcommand_matches.asked.now))) c.answer_compile-answered.ensures c.finish-2.ensures.ok c.finish-2.ensures.err

pub returns-in-Some-clause-status : goal.returns-in-Some-clause-status
returns-in-Some-clause-status g c = both-low _ c.answer_project-printed.result c.finish-in-Some.result (λ printed told status. printed-low printed told status (λ _. untold) (rows_of (found_of c.in-Some.asked.now))) c.answer_project-printed.ensures c.finish-in-Some.ensures.ok c.finish-in-Some.ensures.err

pub returns-in-Err-clause-status : goal.returns-in-Err-clause-status
returns-in-Err-clause-status g c = both-low _ c.tell-told.result c.finish.result (λ printed told status is. is.0) c.tell-told.ensures c.finish.ensures.ok c.finish.ensures.err

pub returns-clause-compile : goal.returns-clause-compile
returns-clause-compile g c = λ rows takes is.
    let rows_are : rows_of (found_of c.in-Some-subcommand_matches.asked.now) ≡ rows = ap (λ o. unwrap_or o []) (sym c.in-Some-subcommand_matches.ensures.rows ∙ ap (option_map (λ p. p.1)) (c.in-Ok.ensures.found ∙ is)) in
    let answered = c.answer_compile-answered in
    let done = c.finish-2.ensures in
    inl (both-finished answered.result c.finish-2.result (both-wider answered.result (λ printed told status. subst (λ r. IsToBeWritten (λ _. untold) r printed told status) rows_are) answered.ensures) done.same_out done.same_err done.out_counted done.err_counted done.ok done.err)

pub returns-in-Some-clause-project : goal.returns-in-Some-clause-project
returns-in-Some-clause-project g c = λ rows takes is.
    let rows_are : rows_of (found_of c.in-Some.asked.now) ≡ rows = ap (λ o. unwrap_or o []) (sym c.in-Some.ensures.rows ∙ ap (option_map (λ p. p.1)) (c.in-Ok.ensures.found ∙ is)) in
    let answered = c.answer_project-printed in
    let done = c.finish-in-Some.ensures in
    inl (both-finished answered.result c.finish-in-Some.result (both-wider answered.result (λ printed told status. subst (λ r. IsToBePrinted (λ _. untold) r printed told status) rows_are) answered.ensures) done.same_out done.same_err done.out_counted done.err_counted done.ok done.err)

pub returns-in-Err-clause-session : goal.returns-in-Err-clause-session
returns-in-Err-clause-session g c = λ asks.
    let done = c.finish.ensures in
    inr (lacks-told _ c.tell-told.result c.finish.result (c.in-Err.ensures.memory asks) c.tell-told.ensures done.same_out done.same_err done.out_counted done.err_counted done.ok done.err)

pub returns-in-Err-clause-compile : goal.returns-in-Err-clause-compile
returns-in-Err-clause-compile g c = λ rows takes is.
    let done = c.finish.ensures in
    inr (lacks-told _ c.tell-told.result c.finish.result (c.in-Err.ensures.taken takes) c.tell-told.ensures done.same_out done.same_err done.out_counted done.err_counted done.ok done.err)

pub returns-in-Err-clause-project : goal.returns-in-Err-clause-project
returns-in-Err-clause-project g c = λ rows takes is.
    let done = c.finish.ensures in
    inr (lacks-told _ c.tell-told.result c.finish.result (c.in-Err.ensures.taken takes) c.tell-told.ensures done.same_out done.same_err done.out_counted done.err_counted done.ok done.err)
