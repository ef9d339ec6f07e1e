use Rattle.cil_program.proofs.Common.{◌∙◌, arith, refl, sym, true≢false}
use Rattle.cil_program.proofs.BothLemmas.{both-printed, both-told}
use Rattle.cil_program.proofs.command_line.tell.Goals.{in-OutOfMemory, in_default}
use Rattle.cil_program.proofs.command_line.tell.Goals as goal

pub returns-then-matches : goal.returns-then-matches
returns-then-matches g c = both-told 1 _ c.write_no_memory.ensures c.and.ensures (omega arith, λ is. (refl, refl, refl))

pub returns-in_default-to_string : goal.returns-in_default-to_string
returns-in_default-to_string g c = both-told 1 _ c.write_no_memory-in_default-to_string.ensures c.and-in_default-to_string.ensures (omega arith, λ is. (refl, refl, refl))

pub returns-then-use_stderr : goal.returns-then-use_stderr
returns-then-use_stderr g c =
    both-told {text = c.as_bytes.result.now} 2 c.write_all.result (record { ok = c.write_all.ensures.ok; err = c.write_all.ensures.err; failed = c.write_all.ensures.failed; counted = c.write_all.ensures.counted }) c.and-then-use_stderr.ensures
    (omega arith, λ is. absurd (elim c.match-matches.branch [ in-OutOfMemory w ↦ true≢false (sym w.matches-is ∙ c.if-matches.false) | in_default w ↦ w.in_default.not-OutOfMemory (c.kind.ensures ∙ is) ]))

pub returns : goal.returns
returns g c =
    both-printed {text = c.as_bytes-2.result.now} 0 c.write_all-2.result (record { ok = c.write_all-2.ensures.ok; err = c.write_all-2.ensures.err; failed = c.write_all-2.ensures.failed; counted = c.write_all-2.ensures.counted }) c.and-2.ensures
    (omega arith, λ is. absurd (elim c.match-matches.branch [ in-OutOfMemory w ↦ true≢false (sym w.matches-is ∙ c.if-matches.false) | in_default w ↦ w.in_default.not-OutOfMemory (c.kind.ensures ∙ is) ]))
