use Rattle.cil_bind.proofs.Common.{false, None, get_or, refl, sym, ap, ◌∙◌, subst, lookup, IsDeclared, Key, Row}
use Rattle.cil_lookup.proofs.LookupLemmas.{derived-key}
use Rattle.cil_parse.specs.declared.row.StatementKind.TheVariants as kinds
use Rattle.cil_bind.proofs.DeclareLemmas.{row-here, row-at, taken-nothing, taken-found, taken-new, put-new}
use Rattle.cil_bind.proofs.declarations.Declarations.declare.Goals as goal

-- what is read behind the end of the rows
abbrev no_row : Row
no_row = record { «module» = 0; index = 0; kind = kinds.Block; namespace = 0; inside = 0; optional = 0; declares = None; is_optional = false }

pub returns-in_default : goal.returns-in_default
returns-in_default g c = λ names spaces policy nums are has once s here.
    let rows = c.args.rows.now in
    let row = get_or rows c.args.i no_row in
    let is = row-at names spaces rows policy c.args.i row s are (row-here rows c.args.i no_row c.requires.within) here in
    taken-nothing names spaces _ s c.args.self.now.first.entries (subst (λ d. IsDeclared names d s.form) c.in_default.is is.declares) has

pub returns-in-Some-get : goal.returns-in-Some-get
returns-in-Some-get g c = λ names spaces policy nums are has once s here.
    let rows = c.args.rows.now in
    let row = get_or rows c.args.i no_row in
    let key : Key = record { table = c.in-Some.table; namespace = row.namespace; word = c.in-Some.word } in
    taken-found names spaces rows policy c.args.i row s c.in-Some.table c.in-Some.word c.args.self.now.first.entries c.in-Some-get.earlier.now c.are_apart.result
    are has once (row-here rows c.args.i no_row c.requires.within) here c.in-Some.is
    (ap (λ test. lookup test c.args.self.now.first.entries) (sym (derived-key key)) ∙ sym c.in-Some-get.ensures.value)
    c.are_apart.ensures

pub returns : goal.returns
returns g c = λ names spaces policy nums are has once s here.
    let rows = c.args.rows.now in
    let row = get_or rows c.args.i no_row in
    let key : Key = record { table = c.in-Some.table; namespace = row.namespace; word = c.in-Some.word } in
    taken-new names spaces rows policy c.args.i row s key c.args.self.now.first.entries c.insert.new.self.entries
    nums are has (row-here rows c.args.i no_row c.requires.within) here c.in-Some.is refl
    (ap (λ test. lookup test c.args.self.now.first.entries) (sym (derived-key key)) ∙ sym c.in_default-get.ensures.value)
    (put-new _ c.args.self.now.first.entries c.insert.new.self.entries key c.args.i (sym c.in_default-get.ensures.value) c.in_ok-insert.ensures.entries)
