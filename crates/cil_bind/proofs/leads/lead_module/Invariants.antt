use Rattle.cil_bind.proofs.Common.{◌≡◌, ◌<◌, ℕ, List, Some, None, get_or, length, Placed, AreNumbersOf, names_of, texts_of, citations_of, Citation, Knows}
use Rattle.cil_bind.specs.Moves.{IsFound}
use Rattle.std.proofs.Common.{slice_get}
use Rattle.cil_bind.proofs.leads.lead_module.Given as goal

-- so much was looked up
abbrev pub invariant-loop-n : goal.invariant-loop-n
invariant-loop-n g l = record {
  closed : l.leads.0 ≡ l.fn.leads.0;
  long : length l.leads.1 ≡ l.n;
  led : (names : List (List ℕ)) (policy : List Placed) → Knows l.lookup.namespaces l.lookup.declared.entries names policy → AreNumbersOf names l.asked.words.now (names_of l.«module»)
      → (k : ℕ) (c : Citation) → k < l.n → slice_get (citations_of l.«module») k ≡ Some c
      → IsFound names l.lookup.namespaces (texts_of l.«module») policy l.asked.places.now l.asked.spaces.now l.asked.led.now k c (get_or l.leads.1 k None);
}
