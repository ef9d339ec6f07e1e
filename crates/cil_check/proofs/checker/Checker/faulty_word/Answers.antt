use Rattle.cil_check.proofs.Common.{take, sym, ap, ◌∙◌, slice_get_within, get_or_from_slice_get, missing_words, faulty_words, policy_kind_of}
use Rattle.std.proofs.Common.{slice_get}
use Rattle.cil_check.proofs.AskedLemmas.{reads-as}
use Rattle.cil_check.proofs.CheckLemmas.{missing-at}
use Rattle.cil_check.proofs.checker.Checker.faulty_word.Goals as goal

pub returns-in-Missing : goal.returns-in-Missing
returns-in-Missing g c policy s noted seen numbered at =
    let i = c.args.place in
    reads-as c.args.seen.now c.missing_word.result (slice_get (missing_words policy s) 0) (slice_get (faulty_words (policy_kind_of c.args.kind) policy (take i policy) s) 0)
    (c.missing_word.ensures policy s noted seen numbered (i, slice_get_within policy i s at, get_or_from_slice_get policy i s s at))
    (ap (λ kind. slice_get (faulty_words (policy_kind_of kind) policy (take i policy) s) 0) c.in-Missing.is
    ∙ ap (λ l. slice_get l 0) (sym (missing-at policy (take i policy) i s noted.is.inside at)))
