use Rattle.cil_resolve.proofs.Common.{rules, ◌≡◌, ◌∙◌, [], ◌<◌, ◌^◌, length, map, IsTrue, sym, ap, subst, list_all, AllPairs, IsStrictlySortedBy, length-map, HasSoundSets, meaning_of, are_permission_sets_of, are_rules_of, are_placed_in, modules_of, declared_of, class_of, permission_set_of, set_of, dropped_with, HasNoCircle, is_set_below}
use Rattle.cil_resolve.specs.Numbers.{GivesNumbered, rule_of}
use Rattle.cil_resolve.proofs.ConsistentLemmas.{rules-declared, sets-declared}
use Rattle.cil_resolve.proofs.PlacedLemmas.{from-named, all-placed}
use Rattle.cil_specs.specs.Violations.{rule_cmp}
use Rattle.cil_resolve.specs.Apart.{StandApart}
use Rattle.cil_resolve.proofs.ApartLemmas.{sets-apart, sets-few}
use Rattle.cil_resolve.proofs.RuleOrderLemmas.{rules-sorted}
use Rattle.cil_resolve.proofs.SetNameLemmas.{numbers-straight}
use Rattle.cil_resolve.proofs.SoundLemmas.{faultless-sound}
use Rattle.cil_resolve.proofs.lowered.lowered.Goals as goal

pub of-requires : goal.of-requires
of-requires g c =
    let (policy, noted, faultless) = c.requires in
    let parts = c.in_ok-numbering.ensures policy noted faultless in
    let names = c.in_ok-numbering.numbering.names.items in
    let long : c.len.result ≡ length names = search rules in
    let modules = modules_of c.args.checker.now.bound.joined.now in
    record {
      within = subst (λ n. IsTrue (list_all (is_set_below n) c.in_ok-numbering.parts.sets.items)) (sym long) parts.sets_are.below;
      straight =
          numbers-straight modules names c.in_ok-numbering.parts.sets.items (record { rise = c.in_ok-numbering.numbering.ordered; below = parts.sets_are.below })
          (subst HasNoCircle (sym parts.sets_are.is) (faultless-sound policy faultless []).straight);
    }

pub invariant_of-result : goal.invariant_of-result
invariant_of-result g c =
    let (policy, noted, faultless) = c.requires in
    let parts = c.in_ok-numbering.ensures policy noted faultless in
    let names = c.in_ok-numbering.numbering.names.items in
    let modules = c.in_ok-module_names.ensures in
    let bound = noted.is.bound in
    let parsed = c.args.checker.now.bound.joined.now.modules.items in
    let rows = c.args.checker.now.bound.policy.now.rows.items in
    let types = (λ k. map (declared_of (modules k) names) c.in_ok-numbering.parts.types.items) ∙ parts.types_are in
    let attributes = (λ k. map (declared_of (modules k) names) c.in_ok-numbering.parts.attributes.items) ∙ parts.attributes_are in
    let classes = (λ k. map (class_of (modules k) names) c.in_ok-numbering.parts.classes.items) ∙ parts.classes_are in
    let permission_sets = (λ k. map (permission_set_of (modules k) names) c.in_ok-numbering.parts.permission_sets.items) ∙ parts.permission_sets_are.is in
    let sets = (λ k. map (set_of (modules k) names) (c.in_ok-sets.ensures k)) ∙ parts.sets_are.is in
    let rules = (λ k. map (rule_of (modules k) names) c.in_ok-numbering.parts.rules.items) ∙ parts.rules_are.is in
    let dropped = map (dropped_with (modules_of c.args.checker.now.bound.joined.now)) c.args.dropped.items in
    let means : _ ≡ meaning_of policy dropped = λ i. record { types = types i; attributes = attributes i; classes = classes i; permission_sets = permission_sets i; sets = sets i; rules = rules i; dropped = map (dropped_with (modules i)) c.args.dropped.items } in
    record {
      sound = subst HasSoundSets (sym means) (faultless-sound policy faultless dropped);
      apart = subst (AllPairs StandApart) (sym sets) (sets-apart policy noted.is.ordered);
      few =
          subst (λ n. n < 2 ^ 32)
          (ap (λ l. length l) (sym parts.sets_are.is)
          ∙ (length-map c.in_ok-numbering.parts.sets.items (set_of (modules_of c.args.checker.now.bound.joined.now) names) ∙ ap (λ l. length l) (sym c.in_ok-sets.ensures)))
          (sets-few policy noted.few);
      rules_ordered = subst (IsStrictlySortedBy rule_cmp) (sym rules) (rules-sorted policy noted.is.ordered);
      consistent = record {
        declared = (λ i. are_rules_of (types i) (attributes i) (classes i) (rules i)) ∙ rules-declared policy faultless;
        sets_declared = (λ i. are_permission_sets_of (classes i) (permission_sets i)) ∙ sets-declared policy faultless;
        placed =
            (λ i. are_placed_in (modules i) (types i) (attributes i) (classes i) (rules i))
            ∙ all-placed (modules_of c.args.checker.now.bound.joined.now) policy (λ s there. from-named parsed rows policy s bound.from there);
      };
      ordered = c.in_ok-numbering.numbering.ordered;
      types_within = parts.types_below;
      attributes_within = parts.attributes_below;
      classes_within = parts.classes_below;
      sets_within = subst (λ l. IsTrue (list_all (is_set_below (length names)) l)) (sym c.in_ok-sets.ensures) parts.sets_are.below;
      rules_within = parts.rules_are.below;
      written_within = parts.rules_are.written_below;
      no_lists = parts.rules_are.no_lists;
      permitted = λ r there. subst (λ m. GivesNumbered m (modules_of c.args.checker.now.bound.joined.now) names r) (sym means) (parts.rules_are.give r there);
    }

pub returns : goal.returns
returns g c policy noted faultless =
    let parts = c.in_ok-numbering.ensures policy noted faultless in
    let names = c.in_ok-numbering.numbering.names.items in
    let modules = c.in_ok-module_names.ensures in
    let types = (λ k. map (declared_of (modules k) names) c.in_ok-numbering.parts.types.items) ∙ parts.types_are in
    let attributes = (λ k. map (declared_of (modules k) names) c.in_ok-numbering.parts.attributes.items) ∙ parts.attributes_are in
    let classes = (λ k. map (class_of (modules k) names) c.in_ok-numbering.parts.classes.items) ∙ parts.classes_are in
    let permission_sets = (λ k. map (permission_set_of (modules k) names) c.in_ok-numbering.parts.permission_sets.items) ∙ parts.permission_sets_are.is in
    let sets = (λ k. map (set_of (modules k) names) (c.in_ok-sets.ensures k)) ∙ parts.sets_are.is in
    let rules = (λ k. map (rule_of (modules k) names) c.in_ok-numbering.parts.rules.items) ∙ parts.rules_are.is in
    λ i. record { types = types i; attributes = attributes i; classes = classes i; permission_sets = permission_sets i; sets = sets i; rules = rules i; dropped = map (dropped_with (modules i)) c.args.dropped.items }
