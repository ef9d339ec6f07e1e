use Rattle.std.proofs.Common.{◌+◌, ◌∙◌, arith, subst, sym}
use Rattle.std.proofs.lemmas.Nat.Bits.{shr_and_one}
use Rattle.cil_violations.proofs.ListedLemmas.{added-clear, added-none, added-set, AreAdded}
use Rattle.cil_violations.proofs.shared.push_names.Goals as goal
use Rattle.cil_violations.proofs.shared.push_names.Goals.{then-word-bit-eq1+in_ok-push_name, else-word-bit-eq1}

pub loop-bit-init : goal.loop-bit-init
loop-bit-init g c = added-none c.args.numbering.now.symbols c.args.index c.args.word c.args.list.now.items

pub loop-bit-preserved : goal.loop-bit-preserved
loop-bit-preserved g c =
    let bit = c.loop-bit.bit in
    let symbols = c.args.numbering.now.symbols in
    let old = c.args.list.now.items in
    elim c.if-word-bit-eq1.branch [
      | then-word-bit-eq1+in_ok-push_name w ↦
          subst (λ list. AreAdded symbols c.args.index c.args.word old (bit + 1) list.items) (sym w.list-is)
          (added-set symbols c.args.index c.args.word old c.loop-bit.list.items w.push_name.new.list.items bit
          (sym (shr_and_one c.args.word bit) ∙ w.if-word-bit-eq1.true) c.loop-bit.invariant
          w.in_ok-push_name.ensures)
      | else-word-bit-eq1 w ↦
          subst (λ list. AreAdded symbols c.args.index c.args.word old (bit + 1) list.items) (sym w.list-is)
          (added-clear symbols c.args.index c.args.word old c.loop-bit.list.items bit
          (λ e. w.if-word-bit-eq1.false (shr_and_one c.args.word bit ∙ e)) c.loop-bit.invariant)
    ]

pub returns : goal.returns
returns g c =
    let past = c.loop-bit-test.false in
    let end = c.loop-bit.auto.bit-end in
    subst (λ bits. AreAdded c.args.numbering.now.symbols c.args.index c.args.word c.args.list.now.items bits
    c.loop-bit.list.items) (omega (arith, past, end)) c.loop-bit.invariant
