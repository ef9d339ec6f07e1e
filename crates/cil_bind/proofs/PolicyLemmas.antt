-- Policies whose references are bound.
use Rattle.cil_bind.proofs.Common.{◌≡◌, ◌<◌, ◌^◌, List, length, AreBound, AreFrom, HaveDeclared, IsNumbered, Knows, NamedModule, Placed, Stands, bound_rows, kinds_of}
use Rattle.cil_bind.specs.Policy.{IsBoundTo}
use Rattle.cil_bind.specs.AboutNames.{name_places}
use Rattle.cil_bind.specs.Rows.{IsOnce}
use Rattle.cil_bind.specs.declared.policy.Policy.{Policy}
use Rattle.cil_bind.proofs.WordLemmas.{stands-opened}

-- a policy is bound to its statements by where what they look up leads
pub bound-to : {A : Type 0} (p : Policy A) (parsed : List (NamedModule A)) (policy : List Placed) → Stands p.names p.lookup.namespaces p.rows.items policy → AreFrom parsed p.rows.items policy
    → HaveDeclared p.names p.lookup.namespaces p.lookup.declared.entries policy → IsOnce policy → IsNumbered p.names p.lookup.namespaces parsed (record { words = p.words; spaces = p.spaces; name_places = p.name_places })
    → length p.leads.0 ≡ length parsed → (Knows p.lookup.namespaces p.lookup.declared.entries p.names policy → AreBound policy policy (bound_rows parsed p.leads.0 p.rows.items))
    → p.kinds.items ≡ kinds_of policy → p.name_places.items ≡ name_places 0 p.kinds.items → length p.rows.items < 2 ^ 32 → IsBoundTo p parsed policy
bound-to p parsed policy stands from declared once numbered long bound kinds places few =
    let knows : Knows p.lookup.namespaces p.lookup.declared.entries p.names policy =
    record { declared = declared; opened = stands-opened p.names p.lookup.namespaces p.rows.items policy stands } in
    record {
      stands = stands;
      from = from;
      knows = knows;
      once = once;
      worded = numbered.worded;
      spaced = numbered.spaced;
      spaces_long = numbered.long;
      leads_long = long;
      bound = bound knows;
      kinds = kinds;
      name_places = places;
      few = few;
    }
