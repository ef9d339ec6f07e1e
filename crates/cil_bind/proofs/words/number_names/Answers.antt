use Rattle.cil_bind.proofs.Common.{◌<◌, ◌+◌, [], take, length, refl, sym, ap, ◌∙◌, append-nil, Some, arith, subst, take_all, AreNumbersOf, names_of}
use Rattle.cil_bind.proofs.PlaceLemmas.{kept-next}
use Rattle.cil_bind.proofs.ScopeLemmas.{kept-more}
use Rattle.cil_bind.proofs.WordLemmas.{numbers-next}
use Rattle.cil_bind.proofs.words.number_names.Goals as goal

pub loop-i-init : goal.loop-i-init
loop-i-init g c = record {
  numbers = rw c.in_ok-words.ensures.items refl;
  kept = ([], sym (append-nil _));
  distinct = λ d. d;
}

pub loop-i-preserved : goal.loop-i-preserved
loop-i-preserved g c =
    let low : c.loop-i.i < length (names_of c.args.«module».now) = omega arith in
    let more = kept-more c.loop-i.names c.number_word.new.names _ c.number_word.ensures.kept in
    record {
      numbers = subst (λ l. AreNumbersOf c.number_word.new.names l (take (c.loop-i.i + 1) (names_of c.args.«module».now))) (sym c.in_ok-push.ensures.items)
          (numbers-next c.loop-i.names c.number_word.new.names c.loop-i.words.items (names_of c.args.«module».now) c.loop-i.i c.in_ok-number.number c.loop-i.invariant.numbers more low (c.in_ok-number.ensures.named ∙ ap Some c.name.ensures));
      kept = kept-next _ _ _ c.loop-i.invariant.kept more;
      distinct = λ d. c.in_ok-number.ensures.distinct;
    }

pub returns-clause-numbers : goal.returns-clause-numbers
returns-clause-numbers g c =
    subst (AreNumbersOf c.loop-i.names c.loop-i.words.items) (take_all c.loop-i.i (names_of c.args.«module».now) (omega arith)) c.loop-i.invariant.numbers
