use Rattle.std.proofs.Common.{◌≡◌, ◌∙◌, ◌∷◌, [], ℕ, List, ap, cond, eq-eqb, get_or, ne_eqb, sym}
use Rattle.std.proofs.lemmas.List.{drop_more}
use Rattle.std.specs.Borrow.{Bor}
use Rattle.cil_program.specs.Meanings.{first_meaning, rows_of}
use Rattle.cil_program.proofs.command_line.meanings.first_meaning.Goals as goal

by-first : (row : ℕ × Bor (List ℕ)) (rows : List (ℕ × Bor (List ℕ))) (code : ℕ) → row.0 ≡ code → first_meaning (rows_of (row ∷ rows)) code ≡ row.1.now
by-first row rows code is = ap (λ b. cond b row.1.now (first_meaning (rows_of rows) code)) (eq-eqb row.0 code is)

by-others : (row : ℕ × Bor (List ℕ)) (rows : List (ℕ × Bor (List ℕ))) (code : ℕ) → (row.0 ≡ code → ⊥) → first_meaning (rows_of (row ∷ rows)) code ≡ first_meaning (rows_of rows) code
by-others row rows code isnt = ap (λ b. cond b row.1.now (first_meaning (rows_of rows) code)) (ne_eqb row.0 code isnt)

pub returns-then-known-code : goal.returns-then-known-code
returns-then-known-code c =
    let i = c.loop-known.known-index in
    let rest = drop_more c.args.rows.now i (0, record { ref_ptr = (0, 0); now = [] }) c.loop-known-test.true in
    sym (c.loop-known.invariant ∙ ap (λ rows. first_meaning (rows_of rows) c.args.code) rest ∙ by-first (get_or c.args.rows.now i (0, record { ref_ptr = (0, 0); now = [] })) _ c.args.code c.if-known-code.true)

pub loop-known-preserved : goal.loop-known-preserved
loop-known-preserved c =
    let i = c.loop-known.known-index in
    let rest = drop_more c.args.rows.now i (0, record { ref_ptr = (0, 0); now = [] }) c.loop-known-test.true in
    c.loop-known.invariant ∙ ap (λ rows. first_meaning (rows_of rows) c.args.code) rest ∙ by-others (get_or c.args.rows.now i (0, record { ref_ptr = (0, 0); now = [] })) _ c.args.code c.if-known-code.false
