-- What references are bound to.
use Rattle.std.specs.Prelude.{ℕ, List, [], ◌∷◌, map, Option, None, Some, slice_get, slice_index_or}
use Rattle.cil_specs.specs.Names.{Word}
use Rattle.cil_specs.specs.Joined.{Placed}
use Rattle.cil_specs.specs.Lookup.{Table, leads, references}
use Rattle.cil_parse.specs.Forms.{kind_of}
use Rattle.cil_parse.specs.Parsed.{cited_by}
use Rattle.cil_parse.specs.declared.row.StatementKind.{StatementKind}
use Rattle.cil_lookup.specs.Lookup.{IsLead}
use Rattle.cil_bind.specs.declared.joined.NamedModule.{NamedModule}
use Rattle.cil_bind.specs.declared.rows.Row.{Row}

-- each of some references from a namespace is bound to what it leads to
abbrev pub AreLeads : List Placed → List (List ℕ) → List (Table × Word) → List (Option ℕ) → Type 0
AreLeads policy namespace [] [] = Unit {0}
AreLeads policy namespace [] (found ∷ bound) = ⊥
AreLeads policy namespace (r ∷ references) [] = ⊥
AreLeads policy namespace (r ∷ references) (found ∷ bound) = IsLead r.0 policy found (leads policy r.0 namespace r.1.text) × AreLeads policy namespace references bound

-- Each reference of some statements is bound to what it leads to in a policy.
abbrev pub AreBound : List Placed → List Placed → List (List (Option ℕ)) → Type 0
AreBound policy [] [] = Unit {0}
AreBound policy [] (b ∷ bound) = ⊥
AreBound policy (s ∷ statements) [] = ⊥
AreBound policy (s ∷ statements) (b ∷ bound) = AreLeads policy s.namespace (references s.form) b × AreBound policy statements bound

-- where some numbers of what is looked up lead
abbrev pub leads_at : List (Option ℕ) → List ℕ → List (Option ℕ)
leads_at leads numbers = map (λ n. slice_index_or leads n None) numbers

-- where the references of a statement of a module lead, by its index there
abbrev pub bound_in : {A : Type 0} → Option (NamedModule A) → List (Option ℕ) → ℕ → List (Option ℕ)
bound_in None leads i = []
bound_in (Some m) leads i = leads_at leads (cited_by m.«module».now i)

-- where the references of the statements of rows lead, by where what each module looks up leads
abbrev pub bound_rows : {A : Type 0} → List (NamedModule A) → List (List (Option ℕ)) → List Row → List (List (Option ℕ))
bound_rows parsed leads rows = map (λ row. bound_in (slice_get parsed row.«module») (slice_index_or leads row.«module» []) row.index) rows

-- the kinds of statements
abbrev pub kinds_of : List Placed → List StatementKind
kinds_of policy = map (λ s. kind_of s.form) policy
