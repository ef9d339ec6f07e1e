use Rattle.cil_check.proofs.Common.{map, filter, sym, subst, option_or, references, is_unfound, missing_words, Reads, first_unfound, lacking_words}
use Rattle.std.proofs.Common.{slice_get}
use Rattle.cil_check.proofs.PositionLemmas.{first-append}
use Rattle.cil_check.proofs.AskedLemmas.{reads-or, reads-as}
use Rattle.cil_check.proofs.checker.Checker.missing_word.Goals as goal

pub returns : goal.returns
returns g c policy s noted seen numbered contained =
    let view = c.args.seen.now in
    let first = first_unfound policy s.namespace 0 (references s.form) in
    let second = slice_get (lacking_words policy s) 0 in
    let either = reads-or view c.unfound-first.result c.lacking.result first second (c.unfound-first.ensures policy s seen) (c.lacking.ensures policy s noted seen numbered contained) in
    reads-as view c.or.result (option_or first second) (slice_get (missing_words policy s) 0) (subst (λ o. Reads view o (option_or first second)) (sym c.or.ensures) either)
    (first-append (map (λ r. r.1) (filter (is_unfound policy s.namespace) (references s.form))) (lacking_words policy s))
