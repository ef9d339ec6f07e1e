use Rattle.cil_resolve.proofs.Common.{inl, inr, ◌∙◌, ◌∷◌, [], refl, sym, ap, types, declared_in, there-at, form-set, numbered_id, is_numbered, modules_of}
use Rattle.cil_parse.specs.declared.row.StatementKind.TheVariants as kinds
use Rattle.cil_specs.proofs.CircularLemmas.{attribute-word}
use Rattle.cil_check.specs.Kinds.{is_rule_of_set}
use Rattle.cil_resolve.proofs.ElementLemmas.{type-form}
use Rattle.cil_resolve.proofs.FormLemmas.{form-of-class, form-of-set, is_of_class}
use Rattle.cil_resolve.proofs.PartLemmas.{declared-made, of-kind, is_rule_kind, no-type-kind, no-attribute-kind, no-class-kind, no-set-kind, no-rule-kind, adds-none, adds-one, type-added, attribute-added, class-added, parts-more, rules-stay, with-none, with-rule}
use Rattle.cil_resolve.proofs.lowering.Lowering.add.Goals as goal

pub add_set-requires : goal.add_set-requires
add_set-requires g c =
    let (policy, is, low) = c.requires in
    let (s, at) = there-at policy c.args.i low in (
      policy,
      s,
      is,
      at,
      form-set s.form (sym (c.kind.ensures policy s is.noted.is at) ∙ c.in-TypeAttributeSet.is),
    )

pub returns-in_ok-push-in-TypeName-clause-parts : goal.returns-in_ok-push-in-TypeName-clause-parts
returns-in_ok-push-in-TypeName-clause-parts g c policy statements s is at knows sets so_far =
    let modules = modules_of c.args.self.now.checker.now.bound.joined.now in
    let names = c.args.self.now.numbering.now.names.items in
    let parts = c.args.parts.now in
    let kind = of-kind policy s kinds.TypeName (sym (c.kind.ensures policy s is.noted.is at) ∙ c.in-TypeName.is) in
    let (id, form) = type-form s.form kind.type in
    let d = c.declared.result in
    let made = declared-made modules names d s id (c.declared.ensures policy s is at (ap is_numbered form)) (ap numbered_id form) (ap (declared_in types) form) in
    parts-more modules names policy statements s parts _ so_far refl (adds-one d c.in_ok-push-in-TypeName.ensures.items (type-added s kind.type ∙ ap (λ x. x ∷ []) (sym made.0)) made.1)
    (adds-none (attribute-added s kind.attribute)) (adds-none (class-added policy s kind.a_class)) (adds-none (kind.no_set refl)) (rules-stay modules names policy parts.rules.items statements s so_far.rules_are (kind.no_rule refl))

pub returns-in_ok-push-in-TypeAttribute-clause-parts : goal.returns-in_ok-push-in-TypeAttribute-clause-parts
returns-in_ok-push-in-TypeAttribute-clause-parts g c policy statements s is at knows sets so_far =
    let modules = modules_of c.args.self.now.checker.now.bound.joined.now in
    let names = c.args.self.now.numbering.now.names.items in
    let parts = c.args.parts.now in
    let kind = of-kind policy s kinds.TypeAttribute (sym (c.kind.ensures policy s is.noted.is at) ∙ c.in-TypeAttribute.is) in
    let (id, form) = attribute-word s.form kind.attribute in
    let d = c.declared-in-TypeAttribute.result in
    let made = declared-made modules names d s id (c.declared-in-TypeAttribute.ensures policy s is at (ap is_numbered form)) (ap numbered_id form) (ap (declared_in types) form) in
    parts-more modules names policy statements s parts _ so_far refl (adds-none (type-added s kind.type)) (adds-one d c.in_ok-push-in-TypeAttribute.ensures.items (attribute-added s kind.attribute ∙ ap (λ x. x ∷ []) (sym made.0)) made.1)
    (adds-none (class-added policy s kind.a_class)) (adds-none (kind.no_set refl)) (rules-stay modules names policy parts.rules.items statements s so_far.rules_are (kind.no_rule refl))

pub returns-in_ok-add_class-in-Class-clause-parts : goal.returns-in_ok-add_class-in-Class-clause-parts
returns-in_ok-add_class-in-Class-clause-parts g c policy statements s is at knows sets so_far =
    let modules = modules_of c.args.self.now.checker.now.bound.joined.now in
    let names = c.args.self.now.numbering.now.names.items in
    let parts = c.args.parts.now in
    let kind = of-kind policy s kinds.Class (sym (c.kind.ensures policy s is.noted.is at) ∙ c.in-Class.is) in
    let made = c.in_ok-add_class-in-Class.ensures policy s is at kind.a_class in
    parts-more modules names policy statements s parts _ so_far refl (adds-none (type-added s kind.type)) (adds-none (attribute-added s kind.attribute))
    (adds-one made.a_class made.pushed (class-added policy s kind.a_class ∙ ap (λ y. y ∷ []) (sym made.is.is)) made.is.below) (adds-none (kind.no_set refl))
    (rules-stay modules names policy parts.rules.items statements s so_far.rules_are (kind.no_rule refl))

pub returns-in_ok-add_set-in-TypeAttributeSet-clause-parts : goal.returns-in_ok-add_set-in-TypeAttributeSet-clause-parts
returns-in_ok-add_set-in-TypeAttributeSet-clause-parts g c policy statements s is at knows sets so_far =
    let modules = modules_of c.args.self.now.checker.now.bound.joined.now in
    let names = c.args.self.now.numbering.now.names.items in
    let parts = c.args.parts.now in
    let is_kind = sym (c.kind.ensures policy s is.noted.is at) ∙ c.in-TypeAttributeSet.is in
    let kind = of-kind policy s kinds.TypeAttributeSet is_kind in
    let made = c.in_ok-add_set-in-TypeAttributeSet.ensures policy s is at (form-set s.form is_kind) in
    parts-more modules names policy statements s parts _ so_far refl (adds-none (type-added s kind.type)) (adds-none (attribute-added s kind.attribute)) (adds-none (class-added policy s kind.a_class))
    (record { added = made.set ∷ []; pushed = made.pushed; are = made.is.is; fit = made.is.below }) (rules-stay modules names policy parts.rules.items statements s so_far.rules_are (kind.no_rule refl))

pub add_rule_of_class-requires : goal.add_rule_of_class-requires
add_rule_of_class-requires g c =
    let (policy, is, low) = c.requires in
    let (s, at) = there-at policy c.args.i low in
    let kind = sym (c.kind.ensures policy s is.noted.is at) in (
      policy,
      s,
      is,
      at,
      form-of-class s.form (ap is_of_class kind ∙ elim c.in-Rule.is [ inl e ↦ ap is_of_class e.1 | inr e ↦ ap is_of_class e.1 ]),
    )

pub add_rule_of_set-requires : goal.add_rule_of_set-requires
add_rule_of_set-requires g c =
    let (policy, is, low) = c.requires in
    let (s, at) = there-at policy c.args.i low in
    let kind = sym (c.kind.ensures policy s is.noted.is at) in (
      policy,
      s,
      is,
      at,
      form-of-set s.form (ap is_rule_of_set kind ∙ elim c.in-RuleOfSet.is [ inl e ↦ ap is_rule_of_set e.1 | inr e ↦ ap is_rule_of_set e.1 ]),
    )

pub returns-in_ok-add_rule_of_class-in-Rule-clause-parts : goal.returns-in_ok-add_rule_of_class-in-Rule-clause-parts
returns-in_ok-add_rule_of_class-in-Rule-clause-parts g c policy statements s is at knows sets so_far =
    let modules = modules_of c.args.self.now.checker.now.bound.joined.now in
    let names = c.args.self.now.numbering.now.names.items in
    let kind = sym (c.kind.ensures policy s is.noted.is at) in
    let rule = form-of-class s.form (ap is_of_class kind ∙ elim c.in-Rule.is [ inl e ↦ ap is_of_class e.1 | inr e ↦ ap is_of_class e.1 ]) in
    let made = c.in_ok-add_rule_of_class-in-Rule.ensures.rule policy s is at rule knows in
    with-rule modules names policy statements s c.args.parts.now _ made.rule (ap is_rule_kind kind ∙ elim c.in-Rule.is [ inl e ↦ ap is_rule_kind e.1 | inr e ↦ ap is_rule_kind e.1 ]) so_far
    made.pushed made.is

pub returns-in_ok-add_rule_of_set-in-RuleOfSet-clause-parts : goal.returns-in_ok-add_rule_of_set-in-RuleOfSet-clause-parts
returns-in_ok-add_rule_of_set-in-RuleOfSet-clause-parts g c policy statements s is at knows sets so_far =
    let modules = modules_of c.args.self.now.checker.now.bound.joined.now in
    let names = c.args.self.now.numbering.now.names.items in
    let kind = sym (c.kind.ensures policy s is.noted.is at) in
    let rule = form-of-set s.form (ap is_rule_of_set kind ∙ elim c.in-RuleOfSet.is [ inl e ↦ ap is_rule_of_set e.1 | inr e ↦ ap is_rule_of_set e.1 ]) in
    let made = c.in_ok-add_rule_of_set-in-RuleOfSet.ensures policy s is at rule sets in
    with-rule modules names policy statements s c.args.parts.now _ made.rule (ap is_rule_kind kind ∙ elim c.in-RuleOfSet.is [ inl e ↦ ap is_rule_kind e.1 | inr e ↦ ap is_rule_kind e.1 ]) so_far
    made.pushed made.is

pub returns-in_default-clause-parts : goal.returns-in_default-clause-parts
returns-in_default-clause-parts g c policy statements s is at knows sets so_far =
    let modules = modules_of c.args.self.now.checker.now.bound.joined.now in
    let names = c.args.self.now.numbering.now.names.items in
    let kind = c.kind.result in
    let other = c.in_default in
    with-none modules names policy statements s c.args.parts.now kind (sym (c.kind.ensures policy s is.noted.is at)) (no-type-kind kind other.not-TypeName)
    (no-attribute-kind kind other.not-TypeAttribute) (no-class-kind kind other.not-Class) (no-set-kind kind other.not-TypeAttributeSet)
    (no-rule-kind kind other.not-Rule other.not-RuleToSelf other.not-RuleOfSet other.not-RuleToSelfOfSet) so_far

pub returns-in_ok-add_rule_of_class-in-Rule-clause-known : goal.returns-in_ok-add_rule_of_class-in-Rule-clause-known
returns-in_ok-add_rule_of_class-in-Rule-clause-known g c = c.in_ok-add_rule_of_class-in-Rule.ensures.known
