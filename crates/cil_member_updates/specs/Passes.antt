-- What set statements gave that went or stayed.
use Rattle.std.specs.Prelude.{ℕ, List}
use Rattle.cil_matching.specs.Matching.{Matched}
use Rattle.cil_resolve.specs.declared.resolved.Resolved.{Resolved}
use Rattle.cil_sums.specs.Sums.{across, alone}
use Rattle.cil_member_updates.specs.Policy.{given}
use Rattle.cil_member_updates.specs.declared.side.Policies.{Policies}

-- what each set statement of a policy gives of an attribute and a type
abbrev pub given_by : {A : Type 0} → List (List ℕ) → Resolved A → ℕ → ℕ → ℕ → ℕ
given_by symbols r a t = λ i. given symbols r i a t

-- what each of those of the old policy gave that the new one hasn't
abbrev pub gone : {A : Type 0} → List (List ℕ) → Resolved A → Matched → ℕ → ℕ → ℕ → ℕ
gone symbols r matching a t = alone (given_by symbols r a t) matching.ahead

-- what each of those of the new policy gave in the old one, if that has it
abbrev pub stayed : {A : Type 0} → List (List ℕ) → Resolved A → Matched → ℕ → ℕ → ℕ → ℕ
stayed symbols r matching a t = across (given_by symbols r a t) matching.back

-- these of two policies, and what each of the new ones gives
abbrev pub gave_in : {A : Type 0} → Policies A → ℕ → ℕ → ℕ → ℕ
gave_in p = given_by p.symbols.now p.old.now.resolved.now

abbrev pub gives_in : {A : Type 0} → Policies A → ℕ → ℕ → ℕ → ℕ
gives_in p = given_by p.symbols.now p.new.now.resolved.now

abbrev pub gone_in : {A : Type 0} → Policies A → ℕ → ℕ → ℕ → ℕ
gone_in p = gone p.symbols.now p.old.now.resolved.now p.matching.now

abbrev pub stayed_in : {A : Type 0} → Policies A → ℕ → ℕ → ℕ → ℕ
stayed_in p = stayed p.symbols.now p.old.now.resolved.now p.matching.now
