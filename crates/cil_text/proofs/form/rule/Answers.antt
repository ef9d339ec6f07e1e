use Rattle.cil_text.proofs.Common.{◌∙◌, sym, subst, refl, none, rule_word, rule, IsTargetThen, ArePermissions, fits_parts, fits_from, put_same, no_rule, trees_of, word_of, permissions_of, rule_kind_of, target_of, ArePermissionsOf}
use Rattle.cil_text.proofs.Fitting.{rule_last}
use Rattle.cil_text.proofs.form.rule.Goals as goal

pub returns-in_default-split_word : goal.returns-in_default-split_word
returns-in_default-split_word g c place form inner h =
    let operands = trees_of c.args.operands in
    let kind = rule_kind_of c.args.kind in
    let p = fits_parts place (rule_word kind) operands form inner h in
    no_rule kind operands inner form
    (λ source target permissions k.
    let last = rule_last operands (trees_of c.in-Some.rest) (word_of c.in-Some.source) source target permissions kind c.in-Some.ensures k in
    c.in_default-split_word.ensures last.0 last.1 last.2) p.0 p.1

pub returns-in-Some-2 : goal.returns-in-Some-2
returns-in-Some-2 g c =
    let operands = trees_of c.args.operands in
    let last = trees_of c.in-Some-split_word.rest in
    let targets = trees_of c.in-Some.rest in
    let named = c.in-Some-split_word.ensures in
    let found = c.in-Some-2 in (
      refl,
      λ place. fits_from place operands
          (rule (rule_kind_of c.args.kind) (word_of c.in-Some.source) (target_of c.target_at.result) (permissions_of found.permissions)) none (
            (
              targets,
              last,
              c.in-Some.ensures,
              subst (λ trees. IsTargetThen trees (target_of c.target_at.result) last) (sym named) (c.target_at.ensures last),
              subst (ArePermissionsOf last) found.is c.in_ok-permissions.ensures,
            ),
            refl,
          ),
    )

pub returns-in-None : goal.returns-in-None
returns-in-None g c place form inner h =
    let operands = trees_of c.args.operands in
    let kind = rule_kind_of c.args.kind in
    let p = fits_parts place (rule_word kind) operands form inner h in
    let behind = trees_of c.in-Some-split_word.rest in
    let other = subst (ArePermissionsOf behind) c.in-None.is c.in_ok-permissions.ensures in
    no_rule kind operands inner form
    (λ source target permissions k.
    let last = rule_last operands (trees_of c.in-Some.rest) (word_of c.in-Some.source) source target permissions kind c.in-Some.ensures k in
    let same = put_same last.0 (word_of c.in-Some-split_word.target) last.1 behind (sym last.2 ∙ c.in-Some-split_word.ensures) in
    other permissions (subst (λ trees. ArePermissions trees permissions) same.1 last.3)) p.0 p.1
