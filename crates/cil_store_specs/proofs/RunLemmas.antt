-- A run goes on by one call, and keeps what each edit keeps.
use Rattle.cil_store_specs.proofs.Common.{◌≡◌, ℕ, ◌+◌, List, [], ◌∷◌, ◌++◌, refl, sym, subst, Store, Edit, IsTaken, AreTaken, accepts, NextOfAll, one_not_taken, bad_policy_of_all, all_good, Next, too_long, at_once, Call, Reply, accepted, rejected, lists, prints, tells_violations, tells_dropped, out_of_memory, Step, Run, Command, Answer, State, Answers, lines_of, AnswersAll}

pub run-more : (old mid new : Store) (calls : List Call) (replies : List Reply) (call : Call) (reply : Reply) → Run old calls replies mid → Step mid call reply new → Run old (calls ++ call ∷ []) (replies ++ reply ∷ []) new
run-more old mid new [] [] call reply run step = (new, subst (λ s. Step s call reply new) run step, refl)
run-more old mid new [] (r ∷ replies) call reply run step = absurd run
run-more old mid new (c ∷ calls) [] call reply run step = absurd run
run-more old mid new (c ∷ calls) (r ∷ replies) call reply run step = (run.0, run.1, run-more run.0 mid new calls replies call reply run.2 step)

-- the line behind commands of which the first is on a line
abbrev pub line_behind : ℕ → List Command → ℕ
line_behind line [] = line
line_behind line (command ∷ commands) = line_behind (line + lines_of command) commands

-- and so do the answers to commands
pub answers-more : (line : ℕ) (old mid new : State) (commands : List Command) (answers : List Answer) (command : Command) (answer : Answer) → AnswersAll line old commands answers mid → Answers (line_behind line commands) mid command answer new
    → AnswersAll line old (commands ++ command ∷ []) (answers ++ answer ∷ []) new
answers-more line old mid new [] [] command answer all step = (new, subst (λ s. Answers line s command answer new) all step, refl)
answers-more line old mid new [] (a ∷ answers) command answer all step = absurd all
answers-more line old mid new (c ∷ commands) [] command answer all step = absurd all
answers-more line old mid new (c ∷ commands) (a ∷ answers) command answer all step = (all.0, all.1, answers-more (line + lines_of c) all.0 mid new commands answers command answer all.2 step)

-- the edits of an accepted batch are taken
pub all-taken : (old new : Store) (edits : List Edit) → NextOfAll old edits (accepts new) → AreTaken old edits new
all-taken old new edits (one_not_taken before edit after mid refusal split are not same) = absurd cc
all-taken old new edits (bad_policy_of_all other refusal are refused same) = absurd cc
all-taken old new edits (all_good other meaning are means same) = let e : other ≡ new = cc in subst (AreTaken old edits) e are

pub accepted-taken : (old new : Store) (edits : List Edit) → Next old edits (accepts new) → AreTaken old edits new
accepted-taken old new edits (too_long long same) = absurd cc
accepted-taken old new edits (at_once short made) = all-taken old new edits made

module _ (P : Store → Type 0) (keeps : (old new : Store) (edit : Edit) → P old → IsTaken old edit new → P new) where
  taken-keep : (old new : Store) (edits : List Edit) → P old → AreTaken old edits new → P new
  taken-keep old new [] is same = subst P (sym same) is
  taken-keep old new (edit ∷ edits) is (mid, taken, are) = taken-keep mid new edits (keeps old mid edit is taken) are

  pub step-keeps : (old new : Store) (call : Call) (reply : Reply) → P old → Step old call reply new → P new
  step-keeps old new call reply is (accepted edits changes asked told made) = taken-keep old new edits is (accepted-taken old new edits made.next)
  step-keeps old new call reply is (rejected edits refusal asked told next same) = subst P (sym same) is
  step-keeps old new call reply is (lists rows asked told are same) = subst P (sym same) is
  step-keeps old new call reply is (prints rows asked told are same) = subst P (sym same) is
  step-keeps old new call reply is (tells_violations violations asked told are same) = subst P (sym same) is
  step-keeps old new call reply is (tells_dropped dropped asked told are same) = subst P (sym same) is
  step-keeps old new call reply is (out_of_memory told same) = subst P (sym same) is

  pub run-keeps : (old new : Store) (calls : List Call) (replies : List Reply) → P old → Run old calls replies new → P new
  run-keeps old new [] [] is run = subst P (sym run) is
  run-keeps old new [] (r ∷ replies) is run = absurd run
  run-keeps old new (c ∷ calls) [] is run = absurd run
  run-keeps old new (c ∷ calls) (r ∷ replies) is (mid, step, run) = run-keeps mid new calls replies (step-keeps old mid c r is step) run
