-- Refusals, and what they mean behind them.
use Rattle.cil_program.proofs.Common.{◌≡◌, ◌++◌, [], append-nil, ℕ, List, Bool, true, false, Option, Result, Ok, Err, IsErr, refusal_line, subst, sym, Writes}
use Rattle.cil_session.proofs.ReplyLemmas.{writes-both, writes-first}
use Rattle.cil_store_specs.specs.Next.{Refusal}
use Rattle.cil_stream.specs.declared.sink.SinkFault.{SinkFault}
use Rattle.cil_program.specs.Meanings.{code_of, meaning_line, refusal_text}

-- a refusal was written, and what it means
pub writes-explained : {W : Type 0} (taken : W → Option (List ℕ)) (failures : W → ℕ) (old mid new : W) (refusal : Refusal) (code : ℕ) (done : Unit {0}) (result : Result (Unit {0}) SinkFault) → code ≡ code_of refusal
    → Writes taken failures old mid (refusal_line refusal) (Ok done) → Writes taken failures mid new (meaning_line code) result → Writes taken failures old new (refusal_text true refusal) result
writes-explained taken failures old mid new refusal code done result is first second =
    writes-both taken failures old mid new (refusal_line refusal) (meaning_line (code_of refusal)) done result first (subst (λ c. Writes taken failures mid new (meaning_line c) result) is second)

-- or the sink failed in the refusal
pub writes-its_front : {W : Type 0} (taken : W → Option (List ℕ)) (failures : W → ℕ) (old new : W) (explained : Bool) (refusal : Refusal) (fault : SinkFault) (result : Result (Unit {0}) SinkFault) → IsErr result
    → Writes taken failures old new (refusal_line refusal) (Err fault) → Writes taken failures old new (refusal_text explained refusal) result
writes-its_front taken failures old new true refusal fault result is writes = writes-first taken failures old new (refusal_line refusal) (meaning_line (code_of refusal)) fault result is writes
writes-its_front taken failures old new false refusal fault (Ok _) is writes = absurd (cc)
writes-its_front taken failures old new false refusal fault (Err _) is writes = record { ok = tt; err = writes.err; failed = writes.failed; counted = writes.counted }

-- nothing is told behind a text
pub writes-no_more : {W : Type 0} (taken : W → Option (List ℕ)) (failures : W → ℕ) (old new : W) (text : List ℕ) (result : Result (Unit {0}) SinkFault) → Writes taken failures old new text result → Writes taken failures old new (text ++ []) result
writes-no_more taken failures old new text result writes = subst (λ l. Writes taken failures old new l result) (sym (append-nil text)) writes
