use Rattle.cil_store.proofs.Common.{◌≡◌, ◌∙◌, ◌++◌, ◌∷◌, ◌+◌, ◌<◌, ℕ, List, [], ap, subst, sym, take, map, length, get_or, is_ok, if◌then◌else◌, rules, take_more, map-append, Step, Run, Store, call_of, reply_of}
use Rattle.cil_store_specs.proofs.RunLemmas.{run-more}
use Rattle.cil_store.specs.declared.call.Call.{Call}
use Rattle.cil_store.specs.declared.call.Reply.{Reply}
use Rattle.cil_store.proofs.runs.run.Goals as goal

-- a run of the first calls, and a step for the next
run-at : {A : Type 0} (old mid new : Store) (calls : List Call) (i : ℕ) (d : Call) (replies : List (Reply A)) (reply : Reply A) → i < length calls → Run old (map call_of (take i calls)) (map reply_of replies) mid
    → Step mid (call_of (get_or calls i d)) (reply_of reply) new → Run old (map call_of (take (i + 1) calls)) (map reply_of (replies ++ reply ∷ [])) new
run-at old mid new calls i d replies reply within run step =
    let longer : map call_of (take (i + 1) calls) ≡ map call_of (take i calls) ++ call_of (get_or calls i d) ∷ [] = ap (map call_of) (take_more calls i d within) ∙ map-append call_of (take i calls) (get_or calls i d ∷ []) in
    subst (λ cs. Run old cs (map reply_of (replies ++ reply ∷ [])) new) (sym longer)
    (subst (λ rs. Run old (map call_of (take i calls) ++ call_of (get_or calls i d) ∷ []) rs new) (sym (map-append reply_of replies (reply ∷ [])))
    (run-more old mid new (map call_of (take i calls)) (map reply_of replies) (call_of (get_or calls i d)) (reply_of reply) run step))

pub loop-call-preserved : goal.loop-call-preserved
loop-call-preserved g c =
    let store = g.C.Compiled.store in
    let i : ℕ = c.loop-call.call-index in
    let made = c.loop-call.replies.items in
    let pushed : c.push.new.self.items ≡ made ++ c.answer-reply.result ∷ [] = c.push.ensures.items ∙ ap (λ r. if is_ok r then made ++ c.answer-reply.result ∷ [] else made) c.unwrap.ensures in
    record {
      made = search rules;
      room = search rules;
      run = subst (λ l. Run (store c.args.engine.now) (map call_of (take (i + 1) c.args.calls.now)) (map reply_of l) (store c.answer-reply.new.engine)) (sym pushed)
          (run-at (store c.args.engine.now) (store c.loop-call.engine) (store c.answer-reply.new.engine) c.args.calls.now i _ made c.answer-reply.result c.loop-call-test.true c.loop-call.invariant.run c.answer-reply.ensures);
    }
