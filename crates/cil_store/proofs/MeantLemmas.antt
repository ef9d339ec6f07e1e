-- Runs lead from stores that mean something to stores that do.
use Rattle.cil_store.proofs.Common.{List, [], ◌∷◌, sym, subst, Meaning, Store, IsMeaningOf, Call, Reply, Run, Step, accepted, rejected, lists, prints, tells_violations, tells_dropped, out_of_memory}

step-meant : (old new : Store) (call : Call) (reply : Reply) (meaning : Meaning) → IsMeaningOf old meaning → Step old call reply new → (other : Meaning) × IsMeaningOf new other
step-meant old new call reply meaning is (accepted edits changes asked told made) = (made.after, made.means)
step-meant old new call reply meaning is (rejected edits refusal asked told next same) = (meaning, subst (λ s. IsMeaningOf s meaning) (sym same) is)
step-meant old new call reply meaning is (lists rows asked told are same) = (meaning, subst (λ s. IsMeaningOf s meaning) (sym same) is)
step-meant old new call reply meaning is (prints rows asked told are same) = (meaning, subst (λ s. IsMeaningOf s meaning) (sym same) is)
step-meant old new call reply meaning is (tells_violations violations asked told are same) = (meaning, subst (λ s. IsMeaningOf s meaning) (sym same) is)
step-meant old new call reply meaning is (tells_dropped dropped asked told are same) = (meaning, subst (λ s. IsMeaningOf s meaning) (sym same) is)
step-meant old new call reply meaning is (out_of_memory told same) = (meaning, subst (λ s. IsMeaningOf s meaning) (sym same) is)

pub run-meant : (old new : Store) (calls : List Call) (replies : List Reply) (meaning : Meaning) → IsMeaningOf old meaning → Run old calls replies new → (other : Meaning) × IsMeaningOf new other
run-meant old new [] [] meaning is run = (meaning, subst (λ s. IsMeaningOf s meaning) (sym run) is)
run-meant old new [] (r ∷ replies) meaning is run = absurd run
run-meant old new (c ∷ calls) [] meaning is run = absurd run
run-meant old new (c ∷ calls) (r ∷ replies) meaning is run = let mid = step-meant old run.0 c r meaning is run.1 in run-meant run.0 new calls replies mid.0 mid.1 run.2
