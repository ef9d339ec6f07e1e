use Rattle.cil_store.proofs.Common.{ap, refl, sym, subst, changed_by, refused, printed, violated, dropped_optionals, lists, prints, tells_violations, tells_dropped, Step, call_of, refusal_of}
use Rattle.cil_store_specs.specs.Run.{listed}
use Rattle.cil_store.proofs.runs.answer.Goals as goal

pub returns-in-Ok : goal.returns-in-Ok
returns-in-Ok g c = subst (λ call. Step (g.C.Compiled.store c.args.engine.now) (call_of call) (changed_by c.in-Ok.changes) (g.C.Compiled.store c.edit.new.self)) (sym c.in-Edit.is) c.in-Ok.ensures

pub returns-in-Err : goal.returns-in-Err
returns-in-Err g c =
    subst (λ call. Step (g.C.Compiled.store c.args.engine.now) (call_of call) (refused (refusal_of c.in-Err.refusal)) (g.C.Compiled.store c.edit.new.self)) (sym c.in-Edit.is) c.in-Err.ensures

pub returns-in-Ok-rows : goal.returns-in-Ok-rows
returns-in-Ok-rows g c =
    let store = g.C.Compiled.store c.args.engine.now in
    subst (λ call. Step store (call_of call) (listed c.in-Ok-rows.rows) store) (sym c.in-Rows.is) (lists c.in-Ok-rows.rows refl refl c.in-Ok-rows.ensures refl)

pub returns-in-Ok-dropped : goal.returns-in-Ok-dropped
returns-in-Ok-dropped g c =
    let store = g.C.Compiled.store c.args.engine.now in
    subst (λ call. Step store (call_of call) (dropped_optionals c.in-Ok-dropped.dropped) store) (sym c.in-Dropped.is) (tells_dropped c.in-Ok-dropped.dropped refl refl c.in-Ok-dropped.ensures refl)

pub returns-in-Ok-listing : goal.returns-in-Ok-listing
returns-in-Ok-listing g c =
    let store = g.C.Compiled.store c.args.engine.now in
    let made = c.in-Ok-listing.ensures in
    subst (λ call. Step store (call_of call) (printed c.in-Ok-listing.text) store) (sym c.in-Listing.is) (prints made.0 refl (ap printed made.1) made.2 refl)

pub returns-in-Ok-violations : goal.returns-in-Ok-violations
returns-in-Ok-violations g c =
    let store = g.C.Compiled.store c.args.engine.now in
    subst (λ call. Step store (call_of call) (violated c.in-Ok-violations.violations) store) (sym c.in-Violations.is) (tells_violations c.in-Ok-violations.violations refl refl c.in-Ok-violations.ensures refl)

pub returns-in-Ok-batch : goal.returns-in-Ok-batch
returns-in-Ok-batch g c =
    subst (λ call. Step (g.C.Compiled.store c.args.engine.now) (call_of call) (changed_by c.in-Ok-batch.changes) (g.C.Compiled.store c.batch.new.self)) (sym c.in-Batch.is) c.in-Ok-batch.ensures

pub returns-in-Err-batch : goal.returns-in-Err-batch
returns-in-Err-batch g c =
    subst (λ call. Step (g.C.Compiled.store c.args.engine.now) (call_of call) (refused (refusal_of c.in-Err-batch.refusal)) (g.C.Compiled.store c.batch.new.self)) (sym c.in-Batch.is) c.in-Err-batch.ensures
