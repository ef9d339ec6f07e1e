use Rattle.cil_bind.proofs.Common.{◌≡◌, ◌<◌, ℕ, List, [], Some, get_or, length, Placed, AreWorded, texts_of, citations_of, Knows, NamedModule}
use Rattle.std.proofs.Common.{slice_get}
use Rattle.cil_bind.specs.Moves.{AreFound}
use Rattle.cil_bind.proofs.leads.leads.Given as goal

-- what so many modules look up was looked up
abbrev pub invariant-loop-i : goal.invariant-loop-i
invariant-loop-i g l = record {
  closed : l.leads.1 ≡ [];
  long : length l.leads.0 ≡ l.i;
  led : (names : List (List ℕ)) (policy : List Placed) → Knows l.lookup.namespaces l.lookup.declared.entries names policy → AreWorded names l.asked.words.now l.joined.modules.items
      → (k : ℕ) (m : NamedModule g.row.A.Denot) → k < l.i → slice_get l.joined.modules.items k ≡ Some m
      → AreFound names l.lookup.namespaces (texts_of m.«module».now) policy l.asked.places.now (citations_of m.«module».now) (get_or l.asked.spaces.now.0 k []) (get_or l.asked.led.now.0 k []) (get_or l.leads.0 k []);
}
