use Rattle.cil_resolve.proofs.Common.{◌≡◌, ◌∙◌, ◌∷◌, [], inl, inr, Contains, sym, ap, subst, types, references, element_words, target_words, contains-first, contains-other, rule_kind_of, kind_of, rule_kind, rule, modules_of, slice_get_within}
use Rattle.std.proofs.Common.{slice_get}
use Rattle.cil_check.proofs.AskedLemmas.{is_to_word, is_to_self}
use Rattle.cil_resolve.proofs.FormLemmas.{code_in, rule-code, rule-kinds, word-aimed, self-aimed}
use Rattle.cil_resolve.proofs.RuleLemmas.{kind-back, start-itself, start-named}
use Rattle.cil_resolve.proofs.lowering.Lowering.rule_start.Goals as goal
use Rattle.cil_resolve.proofs.lowering.Lowering.rule_start.Goals.{in-RuleToSelf, in-RuleToSelf-2, in-Rule2}

pub kind-requires : goal.kind-requires
kind-requires g c =
    let (policy, s, is, at, form) = c.requires in
    (policy, is.lowering.noted.is, slice_get_within policy c.args.i s at)

pub unreachable-requires : goal.unreachable-requires
unreachable-requires g c =
    let (policy, s, is, at, (kind, source, target, permissions, form)) = c.requires in
    rule-kinds kind source target permissions c.kind.result (c.kind.ensures policy s is.lowering.noted.is at ∙ ap kind_of form)
    c.in_default.not-Rule c.in_default.not-RuleToSelf c.in_default.not-RuleOfSet c.in_default.not-RuleToSelfOfSet

pub module-requires : goal.module-requires
module-requires g c =
    let (policy, s, is, at, form) = c.requires in
    (policy, is.lowering, slice_get_within policy c.args.i s at)

pub element-requires : goal.element-requires
element-requires g c =
    let (policy, s, is, at, (kind, source, target, permissions, form)) = c.requires in
    let are = ap kind_of (sym form) ∙ sym (c.kind.ensures policy s is.lowering.noted.is at) in
    let (word, aimed) = word-aimed kind source target permissions (ap is_to_word are ∙ elim c.in-Rule.is [ inl e ↦ ap is_to_word e | inr e ↦ ap is_to_word e ]) in
    let named = form ∙ ap (λ t. rule kind source t permissions) aimed in
    record { policy = policy; s = s; table = types; word = word; is = is; at = ap (λ f. slice_get (references f) 1) named }

pub element-requires-2 : goal.element-requires-2
element-requires-2 g c =
    let (policy, s, is, at, (kind, source, target, permissions, form)) = c.requires in
    record { policy = policy; s = s; table = types; word = source; is = is; at = ap (λ f. slice_get (references f) 0) form }

pub returns : goal.returns
returns g c policy s kind source target permissions is at form =
    let modules = modules_of c.args.self.now.checker.now.bound.joined.now in
    let names = c.args.self.now.numbering.now.names.items in
    let are = ap kind_of (sym form) ∙ sym (c.kind.ensures policy s is.lowering.noted.is at) in
    let from = c.element-2.ensures policy s source is (ap (λ f. slice_get (references f) 0) form) (subst (λ f. Contains (element_words f) source) (sym form) (contains-first source (target_words target))) in
    let placed_in = c.module.ensures policy s is.lowering at in
    let placed = is.seen_is.shown.at ∙ is.seen_is.place in
    elim c.match-kind.branch [
      | in-RuleToSelf w ↦
          let code : rule_kind kind ≡ w.in-RuleToSelf.kind = sym (rule-code kind source target permissions) ∙ ap code_in are ∙ elim w.in-RuleToSelf.is [ inl e ↦ ap code_in e | inr e ↦ ap code_in e ] in
          let aimed = self-aimed kind source target permissions (ap is_to_self are ∙ elim w.in-RuleToSelf.is [ inl e ↦ ap is_to_self e | inr e ↦ ap is_to_self e ]) in
          start-itself modules names policy s kind source target permissions _ form aimed placed_in placed (ap (λ t. rule_kind_of t.0) w.kind-is ∙ ap rule_kind_of (sym code) ∙ kind-back kind) from
          (ap (λ t. t.1) w.kind-is) (ap (λ t. t.2) w.kind-is)
      | in-RuleToSelf-2 w ↦
          let code : rule_kind kind ≡ w.in-RuleToSelf.kind = sym (rule-code kind source target permissions) ∙ ap code_in are ∙ elim w.in-RuleToSelf.is [ inl e ↦ ap code_in e | inr e ↦ ap code_in e ] in
          let aimed = self-aimed kind source target permissions (ap is_to_self are ∙ elim w.in-RuleToSelf.is [ inl e ↦ ap is_to_self e | inr e ↦ ap is_to_self e ]) in
          start-itself modules names policy s kind source target permissions _ form aimed placed_in placed (ap (λ t. rule_kind_of t.0) w.kind-is ∙ ap rule_kind_of (sym code) ∙ kind-back kind) from
          (ap (λ t. t.1) w.kind-is) (ap (λ t. t.2) w.kind-is)
      | in-Rule2 w ↦
          let code : rule_kind kind ≡ w.in-Rule.kind = sym (rule-code kind source target permissions) ∙ ap code_in are ∙ elim w.in-Rule.is [ inl e ↦ ap code_in e | inr e ↦ ap code_in e ] in
          let (word, aimed) = word-aimed kind source target permissions (ap is_to_word are ∙ elim w.in-Rule.is [ inl e ↦ ap is_to_word e | inr e ↦ ap is_to_word e ]) in
          let named = form ∙ ap (λ t. rule kind source t permissions) aimed in
          let to = w.element.ensures policy s word is (ap (λ f. slice_get (references f) 1) named) (subst (λ f. Contains (element_words f) word) (sym named) (contains-other source (word ∷ []) word (contains-first word []))) in
          start-named modules names policy s kind source target permissions _ form word aimed w.element.result placed_in placed (ap (λ t. rule_kind_of t.0) w.kind-is ∙ ap rule_kind_of (sym code) ∙ kind-back kind) from
          (ap (λ t. t.1) w.kind-is) to (ap (λ t. t.2) w.kind-is)
    ]
