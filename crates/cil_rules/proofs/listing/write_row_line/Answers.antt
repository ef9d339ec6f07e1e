use Rattle.cil_rules.proofs.Common.{◌++◌, codes, subst, flat_map, on_ok_weaker, on_err_weaker, row_line, Gains, GainsFront, on_err, name_at, row_head, row_of}
use Rattle.cil_rules.proofs.ListingLemmas.{line-parts, mapped-text, front-in_first, front-in_second, third-in_whole, Ends}
use Rattle.cil_rules.proofs.listing.write_row_line.Given as given
use Rattle.cil_rules.proofs.listing.write_row_line.Goals as goal
use Rattle.cil_rules.proofs.listing.write_row_line.Goals.{After-write_all}

pub returns-in_err-write_head-clause-err : goal.returns-in_err-write_head-clause-err
returns-in_err-write_head-clause-err g c =
    let taken = g.W.Sink.taken in
    let row = row_of c.args.row.now in
    on_err c.from_residual.result
    (front-in_first (taken c.args.sink.now) (taken c.args.sink.now) (taken c.args.sink.now) (taken c.write_head.new.sink) (row_head row.kind row.source row.target row.the_class)
    (flat_map (λ name. name ++ codes " ") row.permissions) (codes "};\n") _ (line-parts row) c.in_err-write_head.ensures.err)

pub returns-in_err-write_names-clause-err : goal.returns-in_err-write_names-clause-err
returns-in_err-write_names-clause-err g c =
    let taken = g.W.Sink.taken in
    let row = row_of c.args.row.now in
    let text = mapped-text (λ name. name ++ codes " ") (name_at c.permissions.inside.names.now) c.permissions.inside.numbers.now row.permissions c.permissions.view_is in
    on_err c.from_residual-in_err-write_names.result
    (front-in_second (taken c.args.sink.now) (taken c.write_head.new.sink) (taken c.write_head.new.sink) (taken c.write_names.new.sink) (row_head row.kind row.source row.target row.the_class)
    (flat_map (λ name. name ++ codes " ") row.permissions) (codes "};\n") _ (line-parts row) c.in_ok-write_head.ensures.ok
    (subst (GainsFront (taken c.write_head.new.sink) (taken c.write_names.new.sink)) text c.in_err-write_names.ensures.err))

-- the line ends with its last part
line : (g : given.Over) (c : After-write_all g)
    → Ends (g.W.Sink.taken c.write_names.new.sink) (g.W.Sink.taken c.write_all.new.sink) (codes "};\n") (g.W.Sink.taken c.args.sink.now) (row_line (row_of c.args.row.now))
line g c =
    let taken = g.W.Sink.taken in
    let row = row_of c.args.row.now in
    let text = mapped-text (λ name. name ++ codes " ") (name_at c.permissions.inside.names.now) c.permissions.inside.numbers.now row.permissions c.permissions.view_is in
    third-in_whole (taken c.args.sink.now) (taken c.write_head.new.sink) (taken c.write_names.new.sink) (taken c.write_all.new.sink) (row_head row.kind row.source row.target row.the_class)
    (flat_map (λ name. name ++ codes " ") row.permissions) (codes "};\n") _ (line-parts row) c.in_ok-write_head.ensures.ok
    (subst (Gains (taken c.write_head.new.sink) (taken c.write_names.new.sink)) text c.in_ok-write_names.ensures.ok)

pub returns-clause-ok : goal.returns-clause-ok
returns-clause-ok g c = on_ok_weaker c.write_all.result (line g (goal.at.returns-clause-ok g c).After-write_all).0 c.write_all.ensures.ok

pub returns-clause-err : goal.returns-clause-err
returns-clause-err g c = on_err_weaker c.write_all.result (line g (goal.at.returns-clause-err g c).After-write_all).1 c.write_all.ensures.err
