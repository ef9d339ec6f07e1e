use Rattle.cil_bind.proofs.Common.{ℕ, ◌+◌, Bool, Option, ◌++◌, ◌∷◌, [], take, map-append, bytes_eq, refl, sym, ap, ◌∙◌, subst, IsDistinct, placed, Opens, IsDeclared, Stands, Row, kinds_told, optional_number}
use Rattle.cil_parse.specs.declared.table.Table.{Table}
use Rattle.cil_parse.specs.declared.row.StatementKind.{StatementKind}
use Rattle.cil_bind.proofs.PlaceLemmas.{placed-next}
use Rattle.cil_bind.proofs.AroundLemmas.{around-next}
use Rattle.cil_bind.proofs.FromLemmas.{from-next}
use Rattle.cil_bind.proofs.scope.Scope.place.Goals as goal

-- the row of a statement
abbrev row-of : ℕ → ℕ → ℕ → StatementKind → ℕ → ℕ → Option (Table × ℕ) → Bool → Row
row-of number i optional kind namespace inside declares is_optional = record {
  «module» = number;
  index = i;
  namespace = namespace;
  inside = inside;
  optional = optional;
  declares = declares;
  kind = kind;
  is_optional = is_optional;
}

pub returns-clause-stands : goal.returns-clause-stands
returns-clause-stands g c = λ before name statements spells long stands.
    let self = c.args.self.now in
    let says = c.in_ok-declares.ensures in
    let spaces' = c.inside.new.self in
    let policy = before ++ take (c.args.i + 1) (placed name [] [] statements) in
    let row = row-of c.args.number c.args.i c.in-Some.optional c.statement-view.result.kind c.around-namespace.result c.in_ok-inside.inside c.in_ok-declares.declares c.is_optional.result in
    let next = placed-next c.args.«module».now statements c.statement-view.result c.args.i self.names self.namespaces says.kept.0 spaces' self.rows.items before name c.args.start row
    spells c.requires.within long stands (λ f at. c.statement-view.ensures statements f spells at)
    (λ d. subst (IsDistinct bytes_eq) says.kept.1 (says.distinct d))
    c.around-namespace.ensures.within c.around-namespace.ensures.global c.around-namespace.ensures.inside
    (λ form is. subst (λ n. IsDeclared n c.in_ok-declares.declares form) says.kept.1 (says.declares form is))
    refl c.is_optional.ensures
    (subst (λ w. Opens self.namespaces spaces' c.around-namespace.result w c.in_ok-inside.inside) c.block_word-word.ensures
    (subst (λ s. Opens s spaces' c.around-namespace.result c.block_word-word.result c.in_ok-inside.inside) says.namespaces c.in_ok-inside.ensures)) in
    subst (λ n. Stands n spaces' c.push.new.self.items policy) (sym says.kept.1)
    (subst (λ r. Stands (self.names ++ says.kept.0) spaces' r policy) (sym (c.in_ok-push.ensures.items ∙ ap (λ r. r.items ++ row ∷ []) says.rows)) next)

pub returns-clause-from : goal.returns-clause-from
returns-clause-from g c = λ parsed before name statements spells have so_far.
    let row = row-of c.args.number c.args.i c.in-Some.optional c.statement-view.result.kind c.around-namespace.result c.in_ok-inside.inside c.in_ok-declares.declares c.is_optional.result in
    from-next parsed c.args.«module».now statements name c.args.self.now.rows.items c.push.new.self.items before c.args.i row spells have refl c.requires.within
    (λ f at outside. c.in-Some.ensures.same ∙ ap (optional_number c.args.start) ((c.statement-view.ensures statements f spells at).optional ∙ outside)) so_far
    (c.in_ok-push.ensures.items ∙ ap (λ r. r.items ++ row ∷ []) c.in_ok-declares.ensures.rows)

pub returns-clause-around : goal.returns-clause-around
returns-clause-around g c = λ before behind name statements spells long so_far.
    let row = row-of c.args.number c.args.i c.in-Some.optional c.statement-view.result.kind c.around-namespace.result c.in_ok-inside.inside c.in_ok-declares.declares c.is_optional.result in
    around-next c.args.«module».now statements c.statement-view.result c.args.i name c.args.self.now.rows.items c.push.new.self.items before behind c.args.start row spells c.requires.within long
    (λ f at. c.statement-view.ensures statements f spells at) c.in-Some.ensures.same so_far
    (c.in_ok-push.ensures.items ∙ ap (λ r. r.items ++ row ∷ []) c.in_ok-declares.ensures.rows)

pub returns-clause-kinds : goal.returns-clause-kinds
returns-clause-kinds g c = λ told.
    let self = c.args.self.now in
    let row = row-of c.args.number c.args.i c.in-Some.optional c.statement-view.result.kind c.around-namespace.result c.in_ok-inside.inside c.in_ok-declares.declares c.is_optional.result in
    c.in_ok-push-2.ensures.items ∙ ap (λ k. k.items ++ row.kind ∷ []) c.in_ok-declares.ensures.kinds ∙ (λ i. told i ++ row.kind ∷ []) ∙ sym (map-append (λ r. r.kind) self.rows.items (row ∷ []))
    ∙ ap kinds_told (sym (c.in_ok-push.ensures.items ∙ ap (λ r. r.items ++ row ∷ []) c.in_ok-declares.ensures.rows))
