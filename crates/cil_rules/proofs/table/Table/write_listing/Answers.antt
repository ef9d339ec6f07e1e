use Rattle.std.proofs.Common.{◌∙◌, map}
use Rattle.cil_rules.specs.Atoms.{atom_at}
use Rattle.cil_rules.proofs.ListingLemmas.{listing-ok, listing-err}
use Rattle.cil_rules.proofs.table.Table.write_listing.Goals as goal

pub returns-clause-ok : goal.returns-clause-ok
returns-clause-ok g c =
    listing-ok (g.W.Sink.taken c.args.sink.now) (g.W.Sink.taken c.write_rows.new.sink) c.write_rows.result (map (atom_at c.as_slice.result.now) c.self.inside.accesses) c.args.self.now
    ((λ i. map (atom_at (c.as_slice.ensures i)) c.self.inside.accesses) ∙ c.self.view_is) c.write_rows.ensures.rows c.write_rows.ensures.ok

pub returns-clause-err : goal.returns-clause-err
returns-clause-err g c =
    listing-err (g.W.Sink.taken c.args.sink.now) (g.W.Sink.taken c.write_rows.new.sink) c.write_rows.result (map (atom_at c.as_slice.result.now) c.self.inside.accesses) c.args.self.now
    ((λ i. map (atom_at (c.as_slice.ensures i)) c.self.inside.accesses) ∙ c.self.view_is) c.write_rows.ensures.err
