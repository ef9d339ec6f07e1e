use Rattle.cil_keyed_lines.proofs.Common.{◌≡◌, ◌∙◌, ap, is_key, slice_get, sym, true, Some}
use Rattle.cil_keyed_lines.proofs.KeyedLemmas.{listed_at, one_key, placed_at, same_eq}
use Rattle.cil_keyed_lines.proofs.keyed_lines.KeyedLines.is_at.Given as given
use Rattle.cil_keyed_lines.proofs.keyed_lines.KeyedLines.is_at.Goals as goal
use Rattle.cil_keyed_lines.proofs.keyed_lines.KeyedLines.is_at.Goals.{After-eq}

-- the key that stands at the place is the one that is asked for
at : (g : given.Over) (c : After-eq g) → c.eq.result ≡ true → slice_get c.self.inside.keys.keys c.args.place ≡ Some c.args.key
at g c same =
    let found = c.in-Some.at.now in
    let is : is_key found c.args.key ≡ true = sym (ap (λ eq. eq found c.args.key) same_eq) ∙ sym c.eq.ensures ∙ same in
    sym c.in-Some.ensures.key ∙ ap (λ k. Some k) (one_key found c.args.key is)

pub returns-in-Some-clause-place : goal.returns-in-Some-clause-place
returns-in-Some-clause-place g c same = rw (← c.self.view_is) (placed_at c.self.inside.keys.keys c.args.place c.args.key c.self.invariant.distinct (at g (goal.at.returns-in-Some-clause-place g c).After-eq same))

pub returns-in-Some-clause-found : goal.returns-in-Some-clause-found
returns-in-Some-clause-found g c same = rw (← c.self.view_is) (listed_at c.self.inside.keys.keys c.args.place c.args.key (at g (goal.at.returns-in-Some-clause-found g c).After-eq same))
