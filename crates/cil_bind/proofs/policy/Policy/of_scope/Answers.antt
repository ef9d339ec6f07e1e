use Rattle.cil_bind.proofs.Common.{◌≡◌, ℕ, List, [], length, inl, inr, get_or, none-some, sym, ap, ◌∙◌, subst, AreAround, AreWorded, Knows, Placed}
use Rattle.std.specs.Prelude.{OnOk}
use Rattle.std.proofs.Common.{slice_get}
use Rattle.cil_bind.specs.Moves.{AreAllFound}
use Rattle.cil_bind.specs.Parts.{with_leads}
use Rattle.cil_bind.specs.Policy.{IsBoundTo}
use Rattle.cil_bind.proofs.BindingLemmas.{rows-bound}
use Rattle.cil_bind.proofs.DeclareLemmas.{kinds-are}
use Rattle.cil_bind.proofs.PolicyLemmas.{bound-to}
use Rattle.cil_bind.proofs.policy.Policy.of_scope.Goals as goal

pub look_up-requires-clause-worded : goal.look_up-requires-clause-worded
look_up-requires-clause-worded g c =
    let names = c.args.scope.names in
    (names, subst (λ p. AreWorded names p.words.items c.args.joined.now.modules.items) (sym c.of_parts-policy.ensures) c.requires.numbered.worded)

pub look_up-requires-clause-spaced : goal.look_up-requires-clause-spaced
look_up-requires-clause-spaced g c = ap (λ p. length p.spaces.0) c.of_parts-policy.ensures ∙ c.requires.numbered.long

pub returns-in-Ok-clause-made : goal.returns-in-Ok-clause-made
returns-in-Ok-clause-made g c = λ policy stands from declared once.
    let scope = c.args.scope in
    let items = c.args.joined.now.modules.items in
    let numbered = c.requires.numbered in
    let leads = c.look_up.new.self.leads in
    let parts = c.of_parts-policy.ensures in
    let made = c.of_parts-policy.result in
    let new = c.look_up.new.self in
    let same = subst (λ r. OnOk r (new ≡ with_leads made new.leads)) c.in-Ok.is c.look_up.ensures.same in
    let long = subst (λ r. OnOk r (length leads.0 ≡ length items)) c.in-Ok.is c.look_up.ensures.long in
    let led = subst (λ r. OnOk r ((names : List (List ℕ)) (policy : List Placed) → Knows made.lookup.namespaces made.lookup.declared.entries names policy → AreWorded names made.words.items items
    → AreAllFound names made.lookup.namespaces policy items [] made.spaces.0 made.leads.0 leads.0)) c.in-Ok.is c.look_up.ensures.led in
    subst (λ p. IsBoundTo p items policy) (sym (same ∙ ap (λ p. with_leads p leads) parts))
    (bound-to _ items policy stands from declared once (record { worded = numbered.worded; spaced = numbered.spaced; long = numbered.long }) long
    (λ knows.
    let found = subst (λ p. Knows p.lookup.namespaces p.lookup.declared.entries scope.names policy → AreWorded scope.names p.words.items items
    → AreAllFound scope.names p.lookup.namespaces policy items [] p.spaces.0 p.leads.0 leads.0) parts (led scope.names policy) knows numbered.worded in
    rows-bound scope.names scope.namespaces policy items c.args.numbers.spaces.0 leads.0 scope.rows.items policy from numbered.spaced
    (λ k m at n citation here. elim (found k m at n citation here) [
      | inl led ↦ led
      | inr moved ↦ absurd (none-some moved.0 (sym (ap (λ l. slice_get (get_or l.0 k []) n) c.in_ok-leads.ensures) ∙ moved.1))
    ]))
    (c.requires.kinds ∙ kinds-are scope.names scope.namespaces scope.rows.items policy stands.rows_are) c.requires.places c.requires.few)

pub returns-in-Ok-clause-around : goal.returns-in-Ok-clause-around
returns-in-Ok-clause-around g c = λ policy around.
    let new = c.look_up.new.self in
    let same = subst (λ r. OnOk r (new ≡ with_leads c.of_parts-policy.result new.leads)) c.in-Ok.is c.look_up.ensures.same in
    subst (λ p. AreAround policy 0 p.rows.items policy) (sym (same ∙ ap (λ p. with_leads p new.leads) c.of_parts-policy.ensures)) around
