-- What is written on two sinks, and the exit status.
use Rattle.cil_program.proofs.Common.{◌≡◌, ◌∙◌, ◌++◌, ◌≤◌, ◌<◌, ◌⊎◌, inl, inr, ℕ, List, [], Option, None, Result, Ok, Err, IfOk, IsErr, OnErr, OnOk, refl, sym, subst, arith, Gains, GainsFront, HasFailed, Writes, WritesBoth, Tells, failed-later, front-longer, gains-both, gains-none, gains-then_front}
use Rattle.std.specs.Result.{result_and}
use Rattle.std.proofs.Math.Nat.{eq-or-lt_of_le}
use Rattle.cil_stream.specs.declared.sink.SinkFault.{SinkFault}
use Rattle.cil_program.specs.CommandLine.{Written}
use Rattle.cil_program.specs.Program.{IsAnswered}
use Rattle.cil_program.proofs.CommandLineLemmas.{front-all, front-none}

-- a sink by what it took and how often it failed; nothing is said of what was flushed
abbrev pub written_by : {W : Type 0} → (W → Option (List ℕ)) → (W → ℕ) → W → Written
written_by taken failures w = record { taken = taken w; flushed = None; failures = failures w }

failed-kept : (old mid new : ℕ) → old ≤ mid → mid ≤ new → HasFailed old mid → HasFailed old new
failed-kept old mid new a b (inl rose) = inl (omega (arith, rose, b))
failed-kept old mid new a b (inr full) = by (eq-or-lt_of_le b)
  where
    by : (mid ≡ new) ⊎ (mid < new) → HasFailed old new
    by (inl same) = inr (sym same ∙ full)
    by (inr more) = inl (omega (arith, more, a))

either : {P Q R S : Type 0} → (P → R) → (Q → S) → P ⊎ Q → R ⊎ S
either f h (inl p) = inl (f p)
either f h (inr q) = inr (h q)

-- the exit status where all was written
pub and-status : {E : Type 0} (written : Result (Unit {0}) E) (result : Result ℕ E) (status : ℕ) → result ≡ result_and written (Ok status) → IfOk result (λ s. s ≡ status)
and-status (Ok _) result status is = subst (λ r. IfOk r (λ s. s ≡ status)) (sym is) refl
and-status (Err _) result status is = subst (λ r. IfOk r (λ s. s ≡ status)) (sym is) tt

-- what is said of a result where a text was written before it
pub and-ok : {E X P : Type 0} (Q : X → Type 0) (x : X) (written : Result (Unit {0}) E) (result : Result X E) → result ≡ result_and written (Ok x) → OnOk written P → (P → Q x) → IfOk result Q
and-ok Q x (Ok _) result is holds gives = subst (λ r. IfOk r Q) (sym is) (gives holds)
and-ok Q x (Err _) result is holds gives = subst (λ r. IfOk r Q) (sym is) tt

-- or the sink failed in the text
pub and-err : {E X P Q : Type 0} (x : X) (written : Result (Unit {0}) E) (result : Result X E) → result ≡ result_and written (Ok x) → OnErr written P → (P → Q) → OnErr result Q
and-err {Q = Q} x (Ok _) result is holds gives = subst (λ r. OnErr r Q) (sym is) tt
and-err {Q = Q} x (Err _) result is holds gives = subst (λ r. OnErr r Q) (sym is) (gives holds)

-- what is known anyway is known behind a failure
pub err-anyway : {E X P : Type 0} (result : Result X E) → P → OnErr result P
err-anyway (Ok _) holds = tt
err-anyway (Err _) holds = holds

module _ {W E : Type 0} {taken : W → Option (List ℕ)} {failures : W → ℕ} {err_taken : E → Option (List ℕ)} {err_failures : E → ℕ} where
  -- a text was told, and nothing printed
  pub both-told : {out : W} {err new : E} {IsMeant : List ℕ → List ℕ → ℕ → Type 0} {text : List ℕ} {result : Result ℕ SinkFault} (status : ℕ) (written : Result (Unit {0}) SinkFault) → Writes err_taken err_failures err new text written
      → result ≡ result_and written (Ok status) → IsMeant [] text status → WritesBoth taken failures out out err_taken err_failures err new IsMeant result
  both-told {out = out} {err = err} {new = new} {IsMeant = IsMeant} {text = text} status (Ok _) writes is meant =
      subst (WritesBoth taken failures out out err_taken err_failures err new IsMeant) (sym is) (record { ok = ([], text, gains-none (taken out), writes.ok, meant); cut = tt; failed = tt; out_counted = omega arith; err_counted = writes.counted })
  both-told {out = out} {err = err} {new = new} {IsMeant = IsMeant} {text = text} status (Err _) writes is meant =
      subst (WritesBoth taken failures out out err_taken err_failures err new IsMeant) (sym is)
      (record { ok = tt; cut = ([], text, status, front-none (taken out), writes.err, meant); failed = inr writes.failed; out_counted = omega arith; err_counted = writes.counted })

  -- or printed, and nothing told
  pub both-printed : {out new : W} {err : E} {IsMeant : List ℕ → List ℕ → ℕ → Type 0} {text : List ℕ} {result : Result ℕ SinkFault} (status : ℕ) (written : Result (Unit {0}) SinkFault) → Writes taken failures out new text written
      → result ≡ result_and written (Ok status) → IsMeant text [] status → WritesBoth taken failures out new err_taken err_failures err err IsMeant result
  both-printed {out = out} {new = new} {err = err} {IsMeant = IsMeant} {text = text} status (Ok _) writes is meant =
      subst (WritesBoth taken failures out new err_taken err_failures err err IsMeant) (sym is) (record { ok = (text, [], writes.ok, gains-none (err_taken err), meant); cut = tt; failed = tt; out_counted = writes.counted; err_counted = omega arith })
  both-printed {out = out} {new = new} {err = err} {IsMeant = IsMeant} {text = text} status (Err _) writes is meant =
      subst (WritesBoth taken failures out new err_taken err_failures err err IsMeant) (sym is)
      (record { ok = tt; cut = (text, [], status, writes.err, front-none (err_taken err), meant); failed = inl writes.failed; out_counted = writes.counted; err_counted = omega arith })

  -- what is told behind a text that was told
  pub both-after : {out new_out : W} {err mid new_err : E} {P Q : List ℕ → List ℕ → ℕ → Type 0} {text : List ℕ} {done : Unit {0}} (result : Result ℕ SinkFault) → Writes err_taken err_failures err mid text (Ok done)
      → ((printed told : List ℕ) (status : ℕ) → P printed told status → Q printed (text ++ told) status) → WritesBoth taken failures out new_out err_taken err_failures mid new_err P result
      → WritesBoth taken failures out new_out err_taken err_failures err new_err Q result
  both-after {err = err} {mid = mid} {new_err = new_err} {text = text} (Ok s) writes means both =
      let (printed, told, gains, gains_told, meant) = both.ok in record {
        ok = (printed, text ++ told, gains, gains-both (err_taken err) (err_taken mid) (err_taken new_err) text told writes.ok gains_told, means printed told s meant);
        cut = tt;
        failed = tt;
        out_counted = both.out_counted;
        err_counted = omega (arith, writes.counted, both.err_counted);
      }
  both-after {err = err} {mid = mid} {new_err = new_err} {text = text} (Err _) writes means both =
      let (printed, told, status, front, front_told, meant) = both.cut in record {
        ok = tt;
        cut = (printed, text ++ told, status, front, gains-then_front (err_taken err) (err_taken mid) (err_taken new_err) text told writes.ok front_told, means printed told status meant);
        failed = either (λ f. f) (failed-later (err_failures err) (err_failures mid) (err_failures new_err) writes.counted) both.failed;
        out_counted = both.out_counted;
        err_counted = omega (arith, writes.counted, both.err_counted);
      }

  -- or the sink failed in the text
  pub both-cut : {out : W} {err new : E} {IsMeant : List ℕ → List ℕ → ℕ → Type 0} {text : List ℕ} {fault : SinkFault} (printed told : List ℕ) (status : ℕ) (result : Result ℕ SinkFault) → IsErr result
      → Writes err_taken err_failures err new text (Err fault) → IsMeant printed (text ++ told) status → WritesBoth taken failures out out err_taken err_failures err new IsMeant result
  both-cut printed told status (Ok _) is writes meant = absurd (cc)
  both-cut {out = out} {err = err} {new = new} {text = text} printed told status (Err _) is writes meant = record {
    ok = tt;
    cut = (printed, text ++ told, status, (0, omega arith, gains-none (taken out)), front-longer (err_taken err) (err_taken new) text told writes.err, meant);
    failed = inr writes.failed;
    out_counted = omega arith;
    err_counted = writes.counted;
  }

  -- or in what was told, of which a beginning was written
  pub both-failed : {out : W} {err new : E} {IsMeant : List ℕ → List ℕ → ℕ → Type 0} (told : List ℕ) (status : ℕ) (result : Result ℕ SinkFault) → IsErr result
      → GainsFront (err_taken err) (err_taken new) told → HasFailed (err_failures err) (err_failures new) → err_failures err ≤ err_failures new → IsMeant [] told status
      → WritesBoth taken failures out out err_taken err_failures err new IsMeant result
  both-failed told status (Ok _) is front failed counted meant = absurd (cc)
  both-failed {out = out} told status (Err _) is front failed counted meant =
      record { ok = tt; cut = ([], told, status, front-none (taken out), front, meant); failed = inr failed; out_counted = omega arith; err_counted = counted }

  -- what is meant in another way
  pub both-wider : {out new_out : W} {err new_err : E} {P Q : List ℕ → List ℕ → ℕ → Type 0} (result : Result ℕ SinkFault) → ((printed told : List ℕ) (status : ℕ) → P printed told status → Q printed told status)
      → WritesBoth taken failures out new_out err_taken err_failures err new_err P result → WritesBoth taken failures out new_out err_taken err_failures err new_err Q result
  both-wider (Ok s) means both =
      let (printed, told, gains, gains_told, meant) = both.ok in record { ok = (printed, told, gains, gains_told, means printed told s meant); cut = tt; failed = tt; out_counted = both.out_counted; err_counted = both.err_counted }
  both-wider (Err _) means both =
      let (printed, told, status, front, front_told, meant) = both.cut in
      record { ok = tt; cut = (printed, told, status, front, front_told, means printed told status meant); failed = both.failed; out_counted = both.out_counted; err_counted = both.err_counted }

  -- what is written on a sink that took nothing before
  pub both-kept : {out mid new_out : W} {err new_err : E} {IsMeant : List ℕ → List ℕ → ℕ → Type 0} (result : Result ℕ SinkFault) → taken mid ≡ taken out → failures out ≤ failures mid
      → WritesBoth taken failures mid new_out err_taken err_failures err new_err IsMeant result → WritesBoth taken failures out new_out err_taken err_failures err new_err IsMeant result
  both-kept {new_out = new_out} (Ok s) same counted both =
      let (printed, told, gains, gains_told, meant) = both.ok in
      record { ok = (printed, told, subst (λ o. Gains o (taken new_out) printed) same gains, gains_told, meant); cut = tt; failed = tt; out_counted = omega (arith, counted, both.out_counted); err_counted = both.err_counted }
  both-kept {out = out} {mid = mid} {new_out = new_out} (Err _) same counted both =
      let (printed, told, status, front, front_told, meant) = both.cut in record {
        ok = tt;
        cut = (printed, told, status, subst (λ o. GainsFront o (taken new_out) printed) same front, front_told, meant);
        failed = either (failed-later (failures out) (failures mid) (failures new_out) counted) (λ f. f) both.failed;
        out_counted = omega (arith, counted, both.out_counted);
        err_counted = both.err_counted;
      }

  -- what was told where there is nothing to print on
  pub both-silent : {out : W} {err new : E} {IsMeant : List ℕ → List ℕ → ℕ → Type 0} (result : Result ℕ SinkFault) → Tells err_taken err_failures err new (IsMeant []) result
      → WritesBoth taken failures out out err_taken err_failures err new IsMeant result
  both-silent {out = out} (Ok s) both =
      let (printed, told, gains, gains_told, meant) = both.ok in record { ok = ([], told, gains-none (taken out), gains_told, meant); cut = tt; failed = tt; out_counted = omega arith; err_counted = both.err_counted }
  both-silent {out = out} {err = err} {new = new} (Err _) both =
      let (printed, told, status, front, front_told, meant) = both.cut in
      record { ok = tt; cut = ([], told, status, front-none (taken out), front_told, meant); failed = by both.failed; out_counted = omega arith; err_counted = both.err_counted }
    where
      by : HasFailed 0 0 ⊎ HasFailed (err_failures err) (err_failures new) → HasFailed (failures out) (failures out) ⊎ HasFailed (err_failures err) (err_failures new)
      by (inl (inl rose)) = absurd (omega (arith, rose))
      by (inl (inr full)) = absurd (omega (arith, full))
      by (inr failed) = inr failed

  -- what was written is flushed, or a sink fails, by then or now
  pub both-finished : {out mid new : W} {err err_mid err_new : E} {IsMeant : List ℕ → List ℕ → ℕ → Type 0} (answered : Result ℕ SinkFault) (status : ℕ) → WritesBoth taken failures out mid err_taken err_failures err err_mid IsMeant answered
      → taken new ≡ taken mid → err_taken err_new ≡ err_taken err_mid → failures mid ≤ failures new → err_failures err_mid ≤ err_failures err_new
      → IfOk answered (λ s. (status ≡ s) ⊎ ((status ≡ 3) × (HasFailed (failures mid) (failures new) ⊎ HasFailed (err_failures err_mid) (err_failures err_new)))) → OnErr answered (status ≡ 3)
      → IsAnswered IsMeant (written_by taken failures out) (written_by taken failures new) (written_by err_taken err_failures err) (written_by err_taken err_failures err_new) status
  both-finished {out = out} {err = err} {IsMeant = IsMeant} (Ok s) status both same err_same counted err_counted (inl is) three =
      let (printed, told, gains, gains_told, meant) = both.ok in
      inl (printed, told, subst (λ t. Gains (taken out) t printed) (sym same) gains, subst (λ t. Gains (err_taken err) t told) (sym err_same) gains_told, subst (IsMeant printed told) (sym is) meant)
  both-finished {out = out} {mid = mid} {new = new} {err = err} {err_mid = err_mid} {err_new = err_new} (Ok s) status both same err_same counted err_counted (inr failed) three =
      let (printed, told, gains, gains_told, meant) = both.ok in inr (
        failed.0,
        either (failed-later (failures out) (failures mid) (failures new) both.out_counted) (failed-later (err_failures err) (err_failures err_mid) (err_failures err_new) both.err_counted) failed.1,
        (
          printed,
          told,
          s,
          front-all (taken out) (taken new) printed (subst (λ t. Gains (taken out) t printed) (sym same) gains),
          front-all (err_taken err) (err_taken err_new) told (subst (λ t. Gains (err_taken err) t told) (sym err_same) gains_told),
          meant,
        ),
      )
  both-finished {out = out} {mid = mid} {new = new} {err = err} {err_mid = err_mid} {err_new = err_new} (Err _) status both same err_same counted err_counted ok three =
      let (printed, told, meant_status, front, front_told, meant) = both.cut in inr (
        three,
        either (failed-kept (failures out) (failures mid) (failures new) both.out_counted counted) (failed-kept (err_failures err) (err_failures err_mid) (err_failures err_new) both.err_counted err_counted) both.failed,
        (printed, told, meant_status, subst (λ t. GainsFront (taken out) t printed) (sym same) front, subst (λ t. GainsFront (err_taken err) t told) (sym err_same) front_told, meant),
      )

  -- then the exit status is 3 at most
  pub both-low : {out mid : W} {err err_mid : E} {IsMeant : List ℕ → List ℕ → ℕ → Type 0} (Later : Type 0) (answered : Result ℕ SinkFault) (status : ℕ) → ((printed told : List ℕ) (s : ℕ) → IsMeant printed told s → s ≤ 3)
      → WritesBoth taken failures out mid err_taken err_failures err err_mid IsMeant answered → IfOk answered (λ s. (status ≡ s) ⊎ ((status ≡ 3) × Later)) → OnErr answered (status ≡ 3) → status ≤ 3
  both-low Later (Ok s) status low both (inl is) three = let (printed, told, gains, gains_told, meant) = both.ok in omega (arith, is, low printed told s meant)
  both-low Later (Ok s) status low both (inr later) three = omega (arith, later.0)
  both-low Later (Err _) status low both ok three = omega (arith, three)
