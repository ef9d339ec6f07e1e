use Rattle.std.proofs.Common.{refl}
use Rattle.cil_store_specs.specs.Answers.{a_line}
use Rattle.cil_session.proofs.SessionLemmas.{tries-told}
use Rattle.cil_session.proofs.edits.tell.Goals as goal

pub returns : goal.returns
returns g c = tries-told (a_line c.args.line.now) _ refl (let e = c.write_all.ensures in record { ok = e.ok; err = e.err; failed = e.failed; counted = e.counted }) c.and.ensures
