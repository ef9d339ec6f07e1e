use Rattle.cil_rules.proofs.Common.{[], refl, ◌≡◌, ◌∙◌, ◌++◌, ◌∷◌, map, length, cond, ap, sym, arith, rules, flat_map, row_line, gains-none, gains-both, on_err, IsWithin, atom_at, rows_of, row_at}
use Rattle.cil_rules.proofs.GroupLemmas.{parts-length, row-all, later-all, first-all, rows-parts}
use Rattle.cil_rules.proofs.ListingLemmas.{text-more, front-in_row}
use Rattle.cil_accesses.specs.Rows.{accesses_in}
use Rattle.cil_rules.proofs.listing.write_rows.Given as given
use Rattle.cil_rules.proofs.listing.write_rows.Goals as goal
use Rattle.cil_rules.proofs.listing.write_rows.Goals.{After-is_listed}

pub loop-row-init : goal.loop-row-init
loop-row-init g c =
    rw c.rows-rows.ensures
    (record { counted = omega arith; within = c.requires.within; bounded = omega arith; rows = omega arith; text = []; whole = refl; so_far = gains-none (g.W.Sink.taken c.args.sink.now) })

pub write_row-requires-clause-first : goal.write_row-requires-clause-first
write_row-requires-clause-first g c = first-all c.loop-row.rows _ _ _ c.in-Some.ensures.first (IsWithin (length c.args.names.now)) c.loop-row.invariant.within

pub write_row-requires-clause-within : goal.write_row-requires-clause-within
write_row-requires-clause-within g c = row-all c.loop-row.rows _ _ _ c.in-Some.ensures.first (IsWithin (length c.args.names.now)) c.loop-row.invariant.within

-- the rows that are left are the next one, where it is listed, and those of the later accesses
left : (g : given.Over) (c : After-is_listed g)
    → rows_of (map (atom_at c.args.names.now) c.loop-row.rows)
    ≡ cond c.is_listed.result (row_at c.args.names.now c.in-Some.row.first (accesses_in c.in-Some.row) ∷ rows_of (map (atom_at c.args.names.now) c.next.new.self)) (rows_of (map (atom_at c.args.names.now) c.next.new.self))
left g c =
    let later = rows_of (map (atom_at c.args.names.now) c.next.new.self) in
    rows-parts c.loop-row.rows _ _ _ c.in-Some.ensures.first c.args.names.now c.requires.names_ordered c.loop-row.invariant.within
    ∙ ap (λ b. cond b (row_at c.args.names.now c.in-Some.row.first (accesses_in c.in-Some.row) ∷ later) later) (sym c.is_listed.ensures)

pub returns-in_err-write_row-clause-err : goal.returns-in_err-write_row-clause-err
returns-in_err-write_row-clause-err g c =
    let taken = g.W.Sink.taken in
    let m = c.loop-row.invariant in
    let parts = rw c.if-is_listed.true at (left g (goal.at.returns-in_err-write_row-clause-err g c).After-is_listed) in
    on_err c.from_residual.result
    (front-in_row m.text (flat_map row_line (rows_of (map (atom_at c.args.names.now) c.args.accesses.now))) _ _ _ parts m.whole (taken c.args.sink.now) (taken c.loop-row.sink) (taken c.write_row.new.sink) m.so_far
    c.in_err-write_row.ensures.err)

pub loop-row-preserved-then-is_listed : goal.loop-row-preserved-then-is_listed
loop-row-preserved-then-is_listed g c =
    let taken = g.W.Sink.taken in
    let names = c.args.names.now in
    let m = c.loop-row.invariant in
    let row = row_at names c.in-Some.row.first (accesses_in c.in-Some.row) in
    let parts = rw c.if-is_listed.true at (left g (goal.at.loop-row-preserved-then-is_listed g c).After-is_listed) in
    let shorter = parts-length c.loop-row.rows _ _ _ c.in-Some.ensures.first in
    let one_less = ap length parts in
    record {
      counted = search rules;
      within = later-all c.loop-row.rows _ _ _ c.in-Some.ensures.first (IsWithin (length names)) m.within;
      bounded = omega (arith, m.bounded, shorter);
      rows = omega (arith, m.rows, one_less);
      text = m.text ++ row_line row;
      whole = text-more m.text (flat_map row_line (rows_of (map (atom_at names) c.args.accesses.now))) row _ _ parts m.whole;
      so_far = gains-both (taken c.args.sink.now) (taken c.loop-row.sink) (taken c.write_row.new.sink) m.text (row_line row) m.so_far c.in_ok-write_row.ensures.ok;
    }

pub loop-row-preserved : goal.loop-row-preserved
loop-row-preserved g c =
    let names = c.args.names.now in
    let m = c.loop-row.invariant in
    let parts = rw c.if-is_listed.false at (left g (goal.at.loop-row-preserved g c).After-is_listed) in
    let shorter = parts-length c.loop-row.rows _ _ _ c.in-Some.ensures.first in
    let same = ap length parts in
    record {
      counted = m.counted;
      within = later-all c.loop-row.rows _ _ _ c.in-Some.ensures.first (IsWithin (length names)) m.within;
      bounded = omega (arith, m.bounded, shorter);
      rows = omega (arith, m.rows, same);
      text = m.text;
      whole = ap (λ l. m.text ++ flat_map row_line l) (sym parts) ∙ m.whole;
      so_far = m.so_far;
    }
