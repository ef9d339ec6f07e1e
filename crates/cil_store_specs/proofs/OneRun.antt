-- Runs of the same calls agree where memory doesn't run out.
use Rattle.cil_store_specs.proofs.Common.{◌≡◌, List, [], ◌∷◌, flat_map, refl, sym, ap, ◌∙◌, subst, true≢false, list_all, and_parts, is_in_table, Changes, AreChanges, Row, AreRows, row_line, Store, IsStore, Edit, Refusal, IsMeaningOf, accepts, refuses, Next, Call, a_batch, ask_rows, ask_listing, ask_violations, ask_dropped, Reply, changed_by, refused, listed, printed, violated, dropped_optionals, is_answered, IsAccepted, AreRowsOf, AreViolationsOf, AreDroppedOf, accepted, rejected, lists, prints, tells_violations, tells_dropped, out_of_memory, Step, Run}
use Rattle.std.specs.Bool.{IsTrue}
use Rattle.cil_specs.specs.Rule.{Declared}
use Rattle.cil_specs.specs.Violations.{Violation, AreViolations}
use Rattle.cil_specs.proofs.ViolationLemmas.{one-violations}
use Rattle.cil_specs.proofs.OneListing.{one-changes, one-rows}
use Rattle.cil_store_specs.proofs.OneAtOnce.{next-same}
use Rattle.cil_store_specs.proofs.OneStore.{meaning-same}
use Rattle.cil_store_specs.proofs.StoreOrder.{step-ordered}

-- What a store tells is one.

rows-same : (store : Store) (rows others : List Row) → AreRowsOf store rows → AreRowsOf store others → rows ≡ others
rows-same store rows others are also =
    one-rows (is_in_table also.0) rows others (subst (λ m. AreRows (is_in_table m) rows) (meaning-same store are.0 also.0 are.1 also.1) are.2) also.2

violations-same : (store : Store) (vs ws : List Violation) → AreViolationsOf store vs → AreViolationsOf store ws → vs ≡ ws
violations-same store vs ws are also =
    one-violations also.0 vs ws (subst (λ m. AreViolations m vs) (meaning-same store are.0 also.0 are.1 also.1) are.2) also.2

dropped-same : (store : Store) (dropped others : List Declared) → AreDroppedOf store dropped → AreDroppedOf store others → dropped ≡ others
dropped-same store dropped others are also = are.2 ∙ ap (λ m. m.dropped) (meaning-same store are.0 also.0 are.1 also.1) ∙ sym also.2

-- So is what a batch does.

store-of : (new other : Store) → accepts new ≡ accepts other → new ≡ other
store-of new other same = cc same

accepted-same : (old new other : Store) (edits : List Edit) (changes others : Changes) → IsStore old → IsAccepted old edits changes new → IsAccepted old edits others other → (changes ≡ others) × (new ≡ other)
accepted-same old new other edits changes others is a b =
    let stores : new ≡ other = store-of new other (next-same old edits (accepts new) (accepts other) is a.next b.next) in
    let before = meaning-same old a.before b.before a.meant b.meant in
    let after = meaning-same other a.after b.after (subst (λ s. IsMeaningOf s a.after) stores a.means) b.means in
    let are = subst (λ n. AreChanges (is_in_table b.before) (is_in_table n) changes) after (subst (λ m. AreChanges (is_in_table m) (is_in_table a.after) changes) before a.are_changes) in
    (one-changes (is_in_table b.before) (is_in_table b.after) changes others are b.are_changes, stores)

data BatchStep (old : Store) (edits : List Edit) (reply : Reply) (new : Store) : Type 0 where
  carried_out : (changes : Changes) → reply ≡ changed_by changes → IsAccepted old edits changes new → BatchStep old edits reply new
  turned_down : (refusal : Refusal) → reply ≡ refused refusal → Next old edits (refuses refusal) → new ≡ old → BatchStep old edits reply new

batches-same : (old new other : Store) (edits : List Edit) (reply second : Reply) → IsStore old → BatchStep old edits reply new → BatchStep old edits second other → (reply ≡ second) × (new ≡ other)
batches-same old new other edits reply second is (carried_out changes told a) (carried_out others said b) =
    let (one, stores) = accepted-same old new other edits changes others is a b in (told ∙ ap changed_by one ∙ sym said, stores)
batches-same old new other edits reply second is (carried_out changes told a) (turned_down refusal said b same) = absurd cc (next-same old edits (accepts new) (refuses refusal) is a.next b)
batches-same old new other edits reply second is (turned_down refusal told a same) (carried_out others said b) = absurd cc (next-same old edits (refuses refusal) (accepts other) is a b.next)
batches-same old new other edits reply second is (turned_down refusal told a same) (turned_down another said b kept) =
    let one : refusal ≡ another = cc (next-same old edits (refuses refusal) (refuses another) is a b) in (told ∙ ap refused one ∙ sym said, same ∙ sym kept)

-- a step whose call is answered, by the call
abbrev StepOf : Store → Call → Reply → Store → Type 0
StepOf old (a_batch edits) reply new = BatchStep old edits reply new
StepOf old ask_rows reply new = (rows : List Row) × (reply ≡ listed rows) × AreRowsOf old rows × (new ≡ old)
StepOf old ask_listing reply new = (rows : List Row) × (reply ≡ printed (flat_map row_line rows)) × AreRowsOf old rows × (new ≡ old)
StepOf old ask_violations reply new = (violations : List Violation) × (reply ≡ violated violations) × AreViolationsOf old violations × (new ≡ old)
StepOf old ask_dropped reply new = (dropped : List Declared) × (reply ≡ dropped_optionals dropped) × AreDroppedOf old dropped × (new ≡ old)

step-of : (old new : Store) (call : Call) (reply : Reply) → IsTrue (is_answered reply) → Step old call reply new → StepOf old call reply new
step-of old new call reply answered (accepted edits changes asked told made) = subst (λ c. StepOf old c reply new) (sym asked) (carried_out changes told made)
step-of old new call reply answered (rejected edits refusal asked told next same) = subst (λ c. StepOf old c reply new) (sym asked) (turned_down refusal told next same)
step-of old new call reply answered (lists rows asked told are same) = subst (λ c. StepOf old c reply new) (sym asked) (rows, told, are, same)
step-of old new call reply answered (prints rows asked told are same) = subst (λ c. StepOf old c reply new) (sym asked) (rows, told, are, same)
step-of old new call reply answered (tells_violations violations asked told are same) = subst (λ c. StepOf old c reply new) (sym asked) (violations, told, are, same)
step-of old new call reply answered (tells_dropped dropped asked told are same) = subst (λ c. StepOf old c reply new) (sym asked) (dropped, told, are, same)
step-of old new call reply answered (out_of_memory told same) = absurd (true≢false (sym answered ∙ ap is_answered told))

steps-same : (old new other : Store) (call : Call) (reply second : Reply) → IsStore old → StepOf old call reply new → StepOf old call second other → (reply ≡ second) × (new ≡ other)
steps-same old new other (a_batch edits) reply second is a b = batches-same old new other edits reply second is a b
steps-same old new other ask_rows reply second is (rows, told, are, same) (others, said, also, kept) =
    (told ∙ ap listed (rows-same old rows others are also) ∙ sym said, same ∙ sym kept)
steps-same old new other ask_listing reply second is (rows, told, are, same) (others, said, also, kept) =
    (told ∙ ap (λ l. printed (flat_map row_line l)) (rows-same old rows others are also) ∙ sym said, same ∙ sym kept)
steps-same old new other ask_violations reply second is (vs, told, are, same) (ws, said, also, kept) =
    (told ∙ ap violated (violations-same old vs ws are also) ∙ sym said, same ∙ sym kept)
steps-same old new other ask_dropped reply second is (dropped, told, are, same) (others, said, also, kept) =
    (told ∙ ap dropped_optionals (dropped-same old dropped others are also) ∙ sym said, same ∙ sym kept)

pub run-same : (old new other : Store) (calls : List Call) (replies others : List Reply) → IsStore old → Run old calls replies new → Run old calls others other
    → IsTrue (list_all is_answered replies) → IsTrue (list_all is_answered others) → (replies ≡ others) × (new ≡ other)
run-same old new other [] [] [] is a b answered also = (refl, a ∙ sym b)
run-same old new other [] [] (s ∷ others) is a b answered also = absurd b
run-same old new other [] (r ∷ replies) others is a b answered also = absurd a
run-same old new other (c ∷ calls) [] others is a b answered also = absurd a
run-same old new other (c ∷ calls) (r ∷ replies) [] is a b answered also = absurd b
run-same old new other (c ∷ calls) (r ∷ replies) (s ∷ others) is (mid, step, run) (end, next, rest) answered also =
    let told = and_parts (is_answered r) (list_all is_answered replies) answered in
    let said = and_parts (is_answered s) (list_all is_answered others) also in
    let first = steps-same old mid end c r s is (step-of old mid c r told.0 step) (step-of old end c s said.0 next) in
    let more = run-same mid new other calls replies others (step-ordered old mid c r is step) run (subst (λ m. Run m calls others other) (sym first.1) rest) told.1 said.1 in
    (λ i. first.0 i ∷ more.0 i, more.1)
