-- A session over the dump of a store that means something.
use Rattle.cil_store_specs.proofs.Common.{◌≡◌, ◌⊎◌, inl, inr, Bool, true, List, ℕ, None, if◌then◌else◌, sym, ap, ◌∙◌, true≢false, list_any, AllByRecursion, Meaning, Store, IsStore, empty, IsWithinLimits, HasGoodTexts, for_memory, IsMeaningOf, refusal_line, ends, dump_edits, dump_text, is_refusal, IsSession, Status, all_accepted, some_refused, status_of, last_end}
use Rattle.cil_store_specs.proofs.HeldLemmas.{Outcome, was_made, was_long, lacked_memory}
use Rattle.cil_store_specs.proofs.DumpLemmas.{dump-answered}
use Rattle.cil_store_specs.proofs.DumpScript.{edits-kept, session-answers}
use Rattle.cil_store_specs.proofs.DumpAtOnce.{dump-is-short, dump-step}

-- On the empty store it leaves the one that was dumped; or else memory ran out, and nothing was done: each of its refusals is that one.
pub dump-taken-back : (store new : Store) (meaning : Meaning) (written : List ℕ) (status : Status) → IsStore store → IsWithinLimits store → HasGoodTexts store → IsMeaningOf store meaning
    → (session : IsSession (dump_text store) true empty new written status)
    → ((status ≡ all_accepted) × (new ≡ store)) ⊎ ((status ≡ some_refused) × (new ≡ empty) × AllByRecursion (λ a. a.refuses ≡ true → a.bytes ≡ refusal_line for_memory) session.answers)
dump-taken-back store new meaning written status is within good means session =
    let (answered, end) = session-answers store new written status within session in
    by end (dump-answered 1 empty store session.answers session.last (edits-kept store within) answered)
  where
    status-by : (refused : Bool) → session.end ≡ ends → session.last.batch ≡ None → list_any (λ a. a.refuses) session.answers ≡ refused → status ≡ if refused then some_refused else all_accepted
    status-by refused end closed any = session.status_is ∙ (λ i. status_of session.answers (last_end (end i) (closed i))) ∙ ap (λ b. if b then some_refused else all_accepted) any

    by : session.end ≡ ends → Outcome empty (dump_edits store) session.answers session.last
        → ((status ≡ all_accepted) × (new ≡ store)) ⊎ ((status ≡ some_refused) × (new ≡ empty) × AllByRecursion (λ a. a.refuses ≡ true → a.bytes ≡ refusal_line for_memory) session.answers)
    by end (was_made reply step closed any refusals) = elim (dump-step store session.last.store meaning reply is within good means step) [
      | inl (changes, told, same) ↦ inl (status-by (is_refusal reply) end closed any ∙ ap (λ r. if is_refusal r then some_refused else all_accepted) told, session.store_is ∙ same)
      | inr (told, same) ↦ inr (status-by (is_refusal reply) end closed any ∙ ap (λ r. if is_refusal r then some_refused else all_accepted) told, session.store_is ∙ same, refusals for_memory told)
    ]
    by end (was_long long any same) = absurd (true≢false (sym long ∙ dump-is-short store is within))
    by end (lacked_memory refusals any same) = inr (status-by true end (ap (λ s. s.batch) same) any, session.store_is ∙ ap (λ s. s.store) same, refusals)
