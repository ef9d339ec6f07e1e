use Rattle.cil_program.proofs.Common.{◌≡◌, ◌≢◌, ◌∙◌, ◌⊎◌, inl, inr, Result, Ok, Err, OnOk, IfOk, refl, sym, subst, IfOk-weaker, Store, exit_status_of, Leaves, LeavesByRead, LeavesByWrite, SessionFault, Read, Write, Status}
use Rattle.cil_session.specs.declared.outcome.Status.TheVariants.{Clean, Refused, Script}
use Rattle.cil_program.proofs.command_line.answer_session.Goals as goal

no-failure : (end : Result Status SessionFault) (P : Type 0) → OnOk end P → exit_status_of end ≢ 3 → P
no-failure (Ok Clean) P done other = done
no-failure (Ok Refused) P done other = done
no-failure (Ok Script) P done other = done
no-failure (Err Read) P done other = absurd (other refl)
no-failure (Err Write) P done other = absurd (other refl)

failing : (end : Result Status SessionFault) (P Q : Type 0) → (end ≡ Err Read → P) → (end ≡ Err Write → Q) → exit_status_of end ≡ 3 → P ⊎ Q
failing (Ok Clean) P Q read write is = absurd (cc)
failing (Ok Refused) P Q read write is = absurd (cc)
failing (Ok Script) P Q read write is = absurd (cc)
failing (Err Read) P Q read write is = inl (read refl)
failing (Err Write) P Q read write is = inr (write refl)

ending : (end : Result Status SessionFault) (P : Type 0) → IfOk end (λ status. status ≢ Script → P) → (exit_status_of end ≡ 0) ⊎ (exit_status_of end ≡ 1) → P
ending (Ok Clean) P ended is = ended (λ e. absurd (cc))
ending (Ok Refused) P ended is = ended (λ e. absurd (cc))
ending (Ok Script) P ended (inl is) = absurd (cc)
ending (Ok Script) P ended (inr is) = absurd (cc)
ending (Err Read) P ended (inl is) = absurd (cc)
ending (Err Read) P ended (inr is) = absurd (cc)
ending (Err Write) P ended (inl is) = absurd (cc)
ending (Err Write) P ended (inr is) = absurd (cc)

pub returns : goal.returns
returns g c = record {
  end = c.session.result;
  is = c.exit_status.ensures;
  leaves = IfOk-weaker c.session.result _ _ (λ s left.
      let store : Store = c.session.new.engine in (
        store,
        subst (λ (first : Store). Leaves (g.S.Source.account c.args.source.now) (g.S.Source.account c.session.new.source) (record { store = first; taken = g.W.Sink.taken c.args.out.now })
            (record { store = store; taken = g.W.Sink.taken c.session.new.sink }) s) c.with_seed-engine.ensures left,
      )) c.session.ensures.ok;
  cut_by_read = λ is.
      let store : Store = c.session.new.engine in (
        store,
        subst (λ (first : Store). LeavesByRead (g.S.Source.account c.args.source.now) (g.S.Source.account c.session.new.source) (record { store = first; taken = g.W.Sink.taken c.args.out.now })
            (record { store = store; taken = g.W.Sink.taken c.session.new.sink })) c.with_seed-engine.ensures (c.session.ensures.cut_by_read is),
      );
  cut_by_write = λ is.
      let store : Store = c.session.new.engine in (
        store,
        subst (λ (first : Store). LeavesByWrite (g.S.Source.account c.args.source.now) (g.S.Source.account c.session.new.source) (record { store = first; taken = g.W.Sink.taken c.args.out.now })
            (record { store = store; taken = g.W.Sink.taken c.session.new.sink })) c.with_seed-engine.ensures (c.session.ensures.cut_by_write is),
      );
  flushed = λ other. no-failure c.session.result _ c.session.ensures.flushed (λ e. other (c.exit_status.ensures ∙ e));
  ended = λ is. ending c.session.result _ c.session.ensures.ended (by is);
  failed = λ is. failing c.session.result _ _ c.session.ensures.read c.session.ensures.write (sym c.exit_status.ensures ∙ is);
}
  where
    by : (c.exit_status.result ≡ 0) ⊎ (c.exit_status.result ≡ 1) → (exit_status_of c.session.result ≡ 0) ⊎ (exit_status_of c.session.result ≡ 1)
    by (inl e) = inl (sym c.exit_status.ensures ∙ e)
    by (inr e) = inr (sym c.exit_status.ensures ∙ e)
