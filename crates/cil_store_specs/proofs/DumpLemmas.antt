-- What a dump of a store builds.
use Rattle.cil_store_specs.proofs.Common.{◌≡◌, ◌∷◌, ◌++◌, [], ℕ, ◌+◌, List, false, map, fold, None, codes, refl, ap, sym, subst, ◌∙◌, true≢false, list_any, AllByRecursion, nat_list_cmp_total, fold-append, Changes, name_cmp, Entry, Store, IsStore, empty, entry_cmp, put, put_name, Edit, disable, install_of, changed, AreTaken, Call, a_batch, an_edit, ask_rows, ask_listing, ask_violations, ask_dropped, Reply, changed_by, accepted, rejected, lists, prints, tells_violations, tells_dropped, out_of_memory, Step, Run, makes, begins, commits, dump_edits, dump_commands, is_refusal, Answer, State, state_of, held_as, lines_of, AnswersAll}
use Rattle.cil_store_specs.proofs.RunLemmas.{accepted-taken}
use Rattle.cil_store_specs.proofs.StoreOrder.{entry_total}
use Rattle.cil_store_specs.proofs.PutLemmas.{put-all}
use Rattle.cil_store_specs.proofs.HeldLemmas.{begin-given, Outcome, was_made, was_long, lacked_memory, with-line, batch-answered}

-- The edits of a dump, made in turn.

installed : (entries others : List Entry) (disabled : List (List ℕ)) → fold changed (record { entries = entries; disabled = disabled }) (map install_of others) ≡ record { entries = fold (λ es e. put e es) entries others; disabled = disabled }
installed entries [] disabled = refl
installed entries (e ∷ others) disabled = installed (put e entries) others disabled

all-disabled : (entries : List Entry) (names others : List (List ℕ)) → fold changed (record { entries = entries; disabled = names }) (map disable others) ≡ record { entries = entries; disabled = fold (λ ns n. put_name n ns) names others }
all-disabled entries names [] = refl
all-disabled entries names (n ∷ others) = all-disabled entries (put_name n names) others

pub dump-builds : (store : Store) → IsStore store → fold changed empty (dump_edits store) ≡ store
dump-builds store is =
    fold-append changed empty (map install_of store.entries) (map disable store.disabled)
    ∙ ap (λ s. fold changed s (map disable store.disabled)) (installed [] store.entries [] ∙ ap (λ es. record { entries = es; disabled = [] }) (put-all entry_cmp entry_total [] store.entries is.entries))
    ∙ all-disabled store.entries [] store.disabled
    ∙ ap (λ ns. record { entries = store.entries; disabled = ns }) (put-all name_cmp nat_list_cmp_total [] store.disabled is.disabled)

-- Where edits are accepted, a store is changed by each in turn.

taken-changed : (old new : Store) (edits : List Edit) → AreTaken old edits new → new ≡ fold changed old edits
taken-changed old new [] same = same
taken-changed old new (e ∷ edits) (mid, taken, are) = taken-changed mid new edits are ∙ ap (λ s. fold changed s edits) taken.is

step-changed : (old new : Store) (edits : List Edit) (call : Call) (reply : Reply) → call ≡ a_batch edits → is_refusal reply ≡ false → Step old call reply new → new ≡ fold changed old edits
step-changed old new edits call reply is taken (accepted others changes asked told made) =
    let same : others ≡ edits = let e : a_batch others ≡ a_batch edits = sym asked ∙ is in cc in
    taken-changed old new edits (subst (λ es. AreTaken old es new) same (accepted-taken old new others made.next))
step-changed old new edits call reply is taken (rejected others refusal asked told next same) = absurd (true≢false (sym (ap is_refusal told) ∙ taken))
step-changed old new edits call reply is taken (lists rows asked told are same) = absurd (let e : ask_rows ≡ a_batch edits = sym asked ∙ is in cc)
step-changed old new edits call reply is taken (prints rows asked told are same) = absurd (let e : ask_listing ≡ a_batch edits = sym asked ∙ is in cc)
step-changed old new edits call reply is taken (tells_violations violations asked told are same) = absurd (let e : ask_violations ≡ a_batch edits = sym asked ∙ is in cc)
step-changed old new edits call reply is taken (tells_dropped dropped asked told are same) = absurd (let e : ask_dropped ≡ a_batch edits = sym asked ∙ is in cc)
step-changed old new edits call reply is taken (out_of_memory told same) = absurd (true≢false (sym (ap is_refusal told) ∙ taken))

run-changed : (old new : Store) (edits : List Edit) (changes : List Changes) → Run old (map an_edit edits) (map changed_by changes) new → new ≡ fold changed old edits
run-changed old new [] [] run = run
run-changed old new [] (c ∷ changes) run = absurd run
run-changed old new (e ∷ edits) [] run = absurd run
run-changed old new (e ∷ edits) (c ∷ changes) (mid, step, run) =
    run-changed mid new edits changes run ∙ ap (λ s. fold changed s edits) (step-changed old mid (e ∷ []) (an_edit e) (changed_by c) refl refl step)

-- A run of the edits of a dump that are all accepted leads to the store that was dumped.
pub run-of-dump : (store new : Store) (changes : List Changes) → IsStore store → Run empty (map an_edit (dump_edits store)) (map changed_by changes) new → new ≡ store
run-of-dump store new changes is run = run-changed empty new (dump_edits store) changes run ∙ dump-builds store is

-- What the commands of a dump do to a store, as the batch that they are.
pub dump-answered : (line : ℕ) (old : Store) (store : Store) (answers : List Answer) (last : State) → AllByRecursion (λ e. held_as e ≡ e) (dump_edits store)
    → AnswersAll line (state_of old) (dump_commands store) answers last → Outcome old (dump_edits store) answers last
dump-answered line old store [] last kept all = absurd all
dump-answered line old store (a ∷ answers) last kept (mid, step, all) =
    let (told, same) = begin-given line old a mid step in
    let rest = batch-answered (line + lines_of begins) line old [] (dump_edits store) answers last kept
    (subst (λ s. AnswersAll (line + lines_of begins) s (map makes (dump_edits store) ++ commits ∷ []) answers last) same all) in
    subst (λ b. Outcome old (dump_edits store) (b ∷ answers) last) (sym told) (with-line old (dump_edits store) (codes "open\n") answers last rest)

-- Where none of them is refused, they lead from the empty store to the one that was dumped, and no batch is open behind them.
pub answers-changed : (store : Store) (answers : List Answer) (last : State) → IsStore store → AllByRecursion (λ e. held_as e ≡ e) (dump_edits store)
    → AnswersAll 1 (state_of empty) (dump_commands store) answers last → list_any (λ a. a.refuses) answers ≡ false → (last.store ≡ store) × (last.batch ≡ None)
answers-changed store answers last is kept all none = by (dump-answered 1 empty store answers last kept all)
  where
    by : Outcome empty (dump_edits store) answers last → (last.store ≡ store) × (last.batch ≡ None)
    by (was_made reply step closed any refusals) =
        (step-changed empty last.store (dump_edits store) (a_batch (dump_edits store)) reply refl (sym any ∙ none) step ∙ dump-builds store is, closed)
    by (was_long long any same) = absurd (true≢false (sym any ∙ none))
    by (lacked_memory refusals any same) = absurd (true≢false (sym any ∙ none))
