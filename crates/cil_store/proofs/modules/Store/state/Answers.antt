use Rattle.cil_store.proofs.Common.{◌≡◌, ℕ, List, [], ◌<◌, ◌∙◌, ap, sym, subst, length, codes, slice_index_or, if◌then◌else◌, Store, entry_at}
use Rattle.cil_store_specs.specs.StoreReport.{state_word}
use Rattle.cil_store.proofs.StateLemmas.{state-is}
use Rattle.cil_store.proofs.modules.Store.state.Given as given
use Rattle.cil_store.proofs.modules.Store.state.Goals as goal
use Rattle.cil_store.proofs.modules.Store.state.Goals.{After-is_first_at}

-- the word that is told of the entry at a place
abbrev word : Store → ℕ → List ℕ
word store i = state_word store (slice_index_or store.entries i (entry_at [] 0))

told : (g : given.Over) (c : After-is_first_at g) → word c.args.self.now c.args.i ≡ (if c.has.result then codes "disabled" else if c.is_first_at.result then codes "active" else codes "shadowed")
told g c =
    let store : Store = record { entries = c.self.inside.entries; disabled = c.self.inside.disabled } in
    ap (λ (s : Store). word s c.args.i) (sym c.self.view_is)
    ∙ state-is store c.args.i c.as_slice-entries.result.now c.index-entries-i.result c.name.result.now c.has.result c.is_first_at.result c.self.invariant.entries c.as_slice-entries.ensures
    (subst (λ l. c.args.i < length l) (sym (c.as_slice-entries.ensures ∙ ap (λ s. s.entries) c.self.view_is)) c.requires) c.index-entries-i.is c.name.ensures c.has.ensures c.is_first_at.ensures

pub returns-then-is_first_at : goal.returns-then-is_first_at
returns-then-is_first_at g c =
    sym (told g (goal.at.returns-then-is_first_at g c).After-is_first_at ∙ (λ k. if c.if-has.false k then codes "disabled" else if c.if-is_first_at.true k then codes "active" else codes "shadowed"))

pub returns-else-is_first_at : goal.returns-else-is_first_at
returns-else-is_first_at g c =
    sym (told g (goal.at.returns-else-is_first_at g c).After-is_first_at ∙ (λ k. if c.if-has.false k then codes "disabled" else if c.if-is_first_at.false k then codes "active" else codes "shadowed"))
