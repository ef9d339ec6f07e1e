use Rattle.cil_rules.proofs.Common.{◌≡◌, ◌∙◌, ◌++◌, ◌∷◌, [], length, map, cond, ap, sym, append_assoc, is_listed, rule_kind_of, IsWithin, atom_at, rows_of, row_at, numbered_row, row_by}
use Rattle.cil_rules.proofs.GroupLemmas.{row-all, later-all, first-all, rows-parts}
use Rattle.cil_rules.proofs.NumberedRowLemmas.{row_by-push, numbered-push}
use Rattle.cil_accesses.specs.Rows.{accesses_in}
use Rattle.cil_rules.proofs.rows.Rows.of.Goals as goal

pub loop-row-preserved-in-Continue-1 : goal.loop-row-preserved-in-Continue-1
loop-row-preserved-in-Continue-1 g c =
    let names = c.args.names in
    let m = c.loop-row.invariant in
    let first = c.in-Some.row.first in
    let row = (accesses_in c.in-Some.row) in
    let later = rows_of (map (atom_at names) c.next.new.self) in
    let rows = c.loop-row.rows.items in
    let ps = c.loop-row.permissions.items in
    let e = c.in_ok-push_row.ensures in
    let rows_is = e.rows ∙ ap (λ n. rows ++ numbered_row first (length ps) n ∷ []) (ap length e.permissions) in
    let listed : is_listed (rule_kind_of first.kind) ≡ _ = sym c.is_listed.ensures ∙ c.if-is_listed.true in
    let parts = rows-parts c.loop-row.left _ _ _ c.in-Some.ensures.first names c.requires.names_ordered m.within ∙ ap (λ b. cond b (row_at names first row ∷ later) later) listed in
    record {
      within = later-all c.loop-row.left _ _ _ c.in-Some.ensures.first (IsWithin (length names)) m.within;
      are =
          rw (rows_is, e.permissions)
          (numbered-push names ps rows first row m.are (first-all c.loop-row.left _ _ _ c.in-Some.ensures.first (IsWithin (length names)) m.within)
          (row-all c.loop-row.left _ _ _ c.in-Some.ensures.first (IsWithin (length names)) m.within));
      so_far =
          (λ i. map (row_by names (e.permissions i)) (rows_is i) ++ later)
          ∙ ap (λ l. l ++ later) (row_by-push names ps rows first row m.are)
          ∙ append_assoc (map (row_by names ps) rows) (row_at names first row ∷ []) later
          ∙ ap (λ l. map (row_by names ps) rows ++ l) (sym parts) ∙ m.so_far;
    }

pub loop-row-preserved : goal.loop-row-preserved
loop-row-preserved g c =
    let names = c.args.names in
    let m = c.loop-row.invariant in
    let later = rows_of (map (atom_at names) c.next.new.self) in
    let unlisted : is_listed (rule_kind_of c.in-Some.row.first.kind) ≡ _ = sym c.is_listed.ensures ∙ c.if-is_listed.false in
    let parts =
    rows-parts c.loop-row.left _ _ _ c.in-Some.ensures.first names c.requires.names_ordered m.within
    ∙ ap (λ b. cond b (row_at names c.in-Some.row.first (accesses_in c.in-Some.row) ∷ later) later) unlisted in
    record {
      within = later-all c.loop-row.left _ _ _ c.in-Some.ensures.first (IsWithin (length names)) m.within;
      are = m.are;
      so_far = ap (λ l. map (row_by names c.loop-row.permissions.items) c.loop-row.rows.items ++ l) (sym parts) ∙ m.so_far;
    }
