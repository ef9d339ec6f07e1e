use Rattle.std.proofs.Common.{◌≡◌, ◌∙◌, ◌++◌, ◌∷◌, ◌+◌, [], Bool, true, false, ap, get_or, map, not, refl, subst, sym, take}
use Rattle.std.proofs.lemmas.List.{append-nil, map-append, take_more}
use Rattle.std.proofs.lemmas.List.Elements.{AllZip-push}
use Rattle.std.proofs.lemmas.List.Sums.{fold-append}
use Rattle.std.specs.List.{AllZip}
use Rattle.cil_specs.specs.Lookup.{has_name, with_name}
use Rattle.cil_program.specs.CommandLine.{NamesModule}
use Rattle.cil_program.specs.Given.{same_named}
use Rattle.cil_program.proofs.GivenLemmas.{found-more}
use Rattle.cil_program.proofs.command_line.same_names.same_named.Goals as goal
use Rattle.cil_program.proofs.command_line.same_names.same_named.Goals.{then-not-is_new+in_ok-push, else-not-is_new}

not-not : (b : Bool) → not (not b) ≡ b
not-not true = refl
not-not false = refl

pub loop-path-preserved : goal.loop-path-preserved
loop-path-preserved c =
    let paths = c.args.paths.now in
    let i = c.loop-path.path-index in
    let before = map (λ path. path.now) (take i paths) in
    let names = c.loop-path.invariant.0 in
    let name = c.module_name.result.now in
    let taken = ap (map (λ path. path.now)) (take_more paths i _ c.loop-path-test.true) ∙ map-append (λ path. path.now) (take i paths) _ in
    let item = get_or paths i (record { ref_ptr = (0, 0); now = [] }) in
    let more = λ (is : Bool) (has : has_name c.loop-path.seen name ≡ is). found-more before names (map (λ path. path.now) c.loop-path.found.items) c.loop-path.seen item.now name is c.loop-path.invariant.1 c.loop-path.invariant.2 c.loop-path.invariant.3 has in
    let at_more = ap (λ l. same_named [] l (names ++ name ∷ [])) (sym taken) in
    let has = λ (is : Bool) (new : not c.in_ok-is_new.is_new ≡ is). sym (not-not (has_name c.loop-path.seen name)) ∙ ap not (sym c.in_ok-is_new.ensures.added) ∙ new in
    let found : map (λ path. path.now) c.if-not-is_new.found.items ≡ same_named [] (map (λ path. path.now) (take (i + 1) paths)) (names ++ name ∷ []) =
    elim c.if-not-is_new.branch [
      | then-not-is_new+in_ok-push w ↦ ap (λ v. map (λ path. path.now) v.items) w.found-is ∙ ap (map (λ path. path.now)) w.in_ok-push.ensures.items ∙ map-append (λ path. path.now) c.loop-path.found.items (item ∷ [])
          ∙ more true (has true (ap not w.if-not-is_new.true)) ∙ at_more
      | else-not-is_new w ↦ ap (λ v. map (λ path. path.now) v.items) w.found-is ∙ sym (append-nil _) ∙ more false (has false (ap not w.if-not-is_new.false)) ∙ at_more
    ] in (
      names ++ name ∷ [],
      subst (λ l. AllZip NamesModule l (names ++ name ∷ [])) (sym taken) (AllZip-push NamesModule before names _ name c.loop-path.invariant.1 c.module_name.ensures),
      c.in_ok-is_new.ensures.ok ∙ ap (λ s. with_name s name) c.loop-path.invariant.2 ∙ sym (fold-append with_name [] names (name ∷ [])),
      found,
    )
