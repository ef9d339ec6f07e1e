use Rattle.cil_parse.proofs.Common.{◌≡◌, None, Option, Some, refl, sym, ap, subst, ◌∙◌, arith, ◌+◌, take, take_all, cited, Finds}
use Rattle.cil_parse.specs.declared.table.Table.{Table}
use Rattle.cil_parse.proofs.CitationLemmas.{step-none, step-some}
use Rattle.cil_parse.proofs.citations.Found.push_cited.Goals.{in-Some+in_ok-push, in_default}
use Rattle.cil_parse.proofs.citations.Found.push_cited.Goals as goal

nothing : (o : Option Table) → ((t : Table) → o ≡ Some t → ⊥) → o ≡ None
nothing None h = refl
nothing (Some t) h = absurd (h t refl)

pub loop-k-preserved : goal.loop-k-preserved
loop-k-preserved g c =
    let row = c.args.row.now in
    let words = c.args.words.now in
    let next = cited row 0 (take (c.loop-k.k + 1) words) in
    (elim c.match-referring.branch [
      | in-Some+in_ok-push w ↦
          subst (λ f. Finds c.args.self.now f next) (sym w.self-is)
          (step-some row words c.loop-k.k c.loop-k-test.true c.args.self.now c.loop-k.self c.loop-k.invariant w.push.new.self _ w.in-Some.table (sym c.referring.ensures ∙ w.in-Some.is) w.in_ok-push.ensures)
      | in_default w ↦
          subst (λ f. Finds c.args.self.now f next) (sym w.self-is)
          (step-none row words c.loop-k.k c.loop-k-test.true c.args.self.now c.loop-k.self c.loop-k.invariant (sym c.referring.ensures ∙ nothing c.referring.result w.in_default.not-Some))
    ])

pub returns : goal.returns
returns g c =
    let past = c.loop-k-test.false in
    subst (Finds c.args.self.now c.loop-k.self) (ap (cited c.args.row.now 0) (take_all c.loop-k.k c.args.words.now (omega (arith, past)))) c.loop-k.invariant
