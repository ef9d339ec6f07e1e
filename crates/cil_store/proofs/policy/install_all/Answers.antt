use Rattle.cil_store.proofs.Common.{◌≡◌, ◌∷◌, [], ◌++◌, ◌∙◌, List, length, map, refl, sym, ap, subst, arith, err_from_is_err_and, AreTaken, empty, install_of, owned_entry, refusal_of}
use Rattle.std.proofs.Common.{append_assoc, append-nil}
use Rattle.std.specs.Vec.Iter.{into_iter_items}
use Rattle.cil_store.proofs.BatchLemmas.{owned-taken, owned-stopped}
use Rattle.cil_store.proofs.policy.install_all.Goals as goal

nothing_left : {X : Type 0} (l : List X) → length l ≡ 0 → l ≡ []
nothing_left [] h = refl
nothing_left (x ∷ xs) h = absurd (omega arith)

pub loop-entry-preserved : goal.loop-entry-preserved
loop-entry-preserved g c =
    let at = c.loop-entry in
    let x = c.in-Some.entry in
    let steps : into_iter_items at.entry-iterator ≡ x ∷ into_iter_items c.next.new.self = c.in-Some.ensures.steps.0 in (
      append_assoc at.yielded (x ∷ []) _ ∙ rw (← steps) at.invariant.0,
      owned-taken at.yielded x empty at.store c.install.new.store at.invariant.1 c.in_ok-install.ensures.ok,
      let was = at.invariant.2 in
          let gone = c.in-Some.ensures.steps.1 in
          let short = ap length steps in
          omega arith,
    )

pub returns-in_err-install-clause-err : goal.returns-in_err-install-clause-err
returns-in_err-install-clause-err g c =
    let at = c.loop-entry in
    let x = c.in-Some.entry in
    let made = err_from_is_err_and c.from_residual.result c.from_residual.ensures.1 in
    let steps : into_iter_items at.entry-iterator ≡ x ∷ into_iter_items c.next.new.self = c.in-Some.ensures.steps.0 in
    let all = sym c.into_iter-entry-iterator.ensures.into_iter_gives.0 ∙ sym at.invariant.0 ∙ ap (λ l. at.yielded ++ l) steps in
    rw (made.1, made.2)
    (owned-stopped c.args.entries.items at.yielded x (into_iter_items c.next.new.self) empty at.store (refusal_of c.in_err-install.field-0.0) all at.invariant.1 c.in_err-install.ensures.err)

pub returns-clause-ok : goal.returns-clause-ok
returns-clause-ok g c =
    let at = c.loop-entry in
    let none = c.in-None.ensures.steps in
    let nothing : into_iter_items at.entry-iterator ≡ [] = nothing_left _ (sym at.invariant.2 ∙ none.0) in
    let all = sym (append-nil at.yielded) ∙ rw nothing at at.invariant.0 ∙ c.into_iter-entry-iterator.ensures.into_iter_gives.0 in
    subst (λ l. AreTaken empty (map install_of (map owned_entry l)) at.store) all at.invariant.1
