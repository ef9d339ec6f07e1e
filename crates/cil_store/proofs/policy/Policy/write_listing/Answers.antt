use Rattle.cil_store.proofs.Common.{subst, arith, meaning_in, is_in_table, AreAtoms, gains-none, listed, rows_of, are-rows, rows-listed}
use Rattle.cil_store_specs.proofs.AllAtoms.{all-atoms}
use Rattle.cil_store.proofs.policy.Policy.write_listing.Goals as goal

-- nothing is written of a listing for which there is no memory
pub returns-in_default-clause-err : goal.returns-in_default-clause-err
returns-in_default-clause-err g c = λ store meant.
    let meaning = meaning_in c.args.self.now in
    let (atoms, are) = all-atoms meaning in
    (rows_of atoms, (meaning, meant, are-rows (is_in_table meaning) atoms are), (0, omega arith, gains-none (g.W.Sink.taken c.args.sink.now)))

pub returns-in-Ok-write_listing-clause-ok : goal.returns-in-Ok-write_listing-clause-ok
returns-in-Ok-write_listing-clause-ok g c = λ store meant.
    let meaning = meaning_in c.args.self.now in
    let are = subst (λ p. AreAtoms (listed (is_in_table (meaning_in p))) c.in-Ok.table) c.self.view_is c.in-Ok.ensures in
    let written = c.in-Ok-write_listing.ensures.ok (listed (is_in_table meaning)) are in
    (written.0, (meaning, meant, rows-listed (is_in_table meaning) written.0 written.1), written.2, written.3)

pub returns-clause-err : goal.returns-clause-err
returns-clause-err g c = λ store meant.
    let meaning = meaning_in c.args.self.now in
    let are = subst (λ p. AreAtoms (listed (is_in_table (meaning_in p))) c.in-Ok.table) c.self.view_is c.in-Ok.ensures in
    let written = c.in-Err.ensures.err (listed (is_in_table meaning)) are in
    (written.0, (meaning, meant, rows-listed (is_in_table meaning) written.0 written.1), written.2)
