use Rattle.cil_rules.proofs.Common.{codes, subst, flat_map, on_ok_weaker, on_err_weaker, row_line, Gains, GainsFront, on_err, atom_at, row_at, row_head, chunk_text}
use Rattle.cil_rules.proofs.ListingLemmas.{permissions-within, row-line-is, front-in_first, front-in_second, third-in_whole, Ends}
use Rattle.cil_accesses.specs.Rows.{accesses_in}
use Rattle.cil_rules.proofs.listing.write_row.Given as given
use Rattle.cil_rules.proofs.listing.write_row.Goals as goal
use Rattle.cil_rules.proofs.listing.write_row.Goals.{After-write_all}

pub write_permissions-requires-clause-within : goal.write_permissions-requires-clause-within
write_permissions-requires-clause-within g c = permissions-within _ c.args.row.now.bit c.args.row.now.chunks.now c.requires.within

pub returns-in_err-write_head-clause-err : goal.returns-in_err-write_head-clause-err
returns-in_err-write_head-clause-err g c =
    let taken = g.W.Sink.taken in
    let a = atom_at c.args.names.now c.args.row.now.first in
    on_err c.from_residual.result
    (front-in_first (taken c.args.sink.now) (taken c.args.sink.now) (taken c.args.sink.now) (taken c.write_head.new.sink) (row_head a.kind a.source a.target a.the_class) (flat_map (chunk_text c.args.names.now c.args.row.now.bit) c.args.row.now.chunks.now) (codes "};\n") _ (row-line-is c.args.names.now c.args.row.now.first c.args.row.now.bit c.args.row.now.chunks.now)
    (subst (λ a. GainsFront (taken c.args.sink.now) (taken c.write_head.new.sink) (row_head a.kind a.source a.target a.the_class)) c.named-atom.ensures c.in_err-write_head.ensures.err))

pub returns-in_err-write_permissions-clause-err : goal.returns-in_err-write_permissions-clause-err
returns-in_err-write_permissions-clause-err g c =
    let taken = g.W.Sink.taken in
    let a = atom_at c.args.names.now c.args.row.now.first in
    on_err c.from_residual-in_err-write_permissions.result
    (front-in_second (taken c.args.sink.now) (taken c.write_head.new.sink) (taken c.write_head.new.sink) (taken c.write_permissions.new.sink) (row_head a.kind a.source a.target a.the_class) (flat_map (chunk_text c.args.names.now c.args.row.now.bit) c.args.row.now.chunks.now) (codes "};\n") _
    (row-line-is c.args.names.now c.args.row.now.first c.args.row.now.bit c.args.row.now.chunks.now) (subst (λ a. Gains (taken c.args.sink.now) (taken c.write_head.new.sink) (row_head a.kind a.source a.target a.the_class)) c.named-atom.ensures c.in_ok-write_head.ensures.ok) c.in_err-write_permissions.ensures.err)

-- the line ends with its last part
line : (g : given.Over) (c : After-write_all g)
    → Ends (g.W.Sink.taken c.write_permissions.new.sink) (g.W.Sink.taken c.write_all.new.sink) (codes "};\n") (g.W.Sink.taken c.args.sink.now)
    (row_line (row_at c.args.names.now c.args.row.now.first (accesses_in c.args.row.now)))
line g c =
    let taken = g.W.Sink.taken in
    let a = atom_at c.args.names.now c.args.row.now.first in
    third-in_whole (taken c.args.sink.now) (taken c.write_head.new.sink) (taken c.write_permissions.new.sink) (taken c.write_all.new.sink) (row_head a.kind a.source a.target a.the_class)
    (flat_map (chunk_text c.args.names.now c.args.row.now.bit) c.args.row.now.chunks.now) (codes "};\n") _ (row-line-is c.args.names.now c.args.row.now.first c.args.row.now.bit c.args.row.now.chunks.now)
    (subst (λ a. Gains (taken c.args.sink.now) (taken c.write_head.new.sink) (row_head a.kind a.source a.target a.the_class)) c.named-atom.ensures c.in_ok-write_head.ensures.ok) c.in_ok-write_permissions.ensures.ok

pub returns-clause-ok : goal.returns-clause-ok
returns-clause-ok g c = on_ok_weaker c.write_all.result (line g (goal.at.returns-clause-ok g c).After-write_all).0 c.write_all.ensures.ok

pub returns-clause-err : goal.returns-clause-err
returns-clause-err g c = on_err_weaker c.write_all.result (line g (goal.at.returns-clause-err g c).After-write_all).1 c.write_all.ensures.err
