use Rattle.std.proofs.Common.{flat_map}
use Rattle.cil_session.specs.Dump.{install_command, disable_command}
use Rattle.cil_session.proofs.ReplyLemmas.{writes-both, writes-first, edits-are}
use Rattle.cil_session.proofs.reply.write_edits.Goals as goal

pub returns : goal.returns
returns g c =
    let W = g.W.Sink in
    let store = c.args.store.now in
    rw (← edits-are store)
    (writes-both W.taken W.failures c.args.sink.now c.write_installs.new.sink c.write_disables.new.sink (flat_map install_command store.entries) (flat_map disable_command store.disabled) _ c.write_disables.result c.in_ok-write_installs.ensures c.write_disables.ensures)

pub returns-in_err-write_installs : goal.returns-in_err-write_installs
returns-in_err-write_installs g c =
    let W = g.W.Sink in
    let store = c.args.store.now in
    rw (← edits-are store)
    (writes-first W.taken W.failures c.args.sink.now c.write_installs.new.sink (flat_map install_command store.entries) (flat_map disable_command store.disabled) _ c.from_residual.result c.from_residual.ensures.0 c.in_err-write_installs.ensures)
