use Rattle.std.proofs.Common.{◌≡◌, ◌||◌, ◌∙◌, ◌⊎◌, Bool, true, false, ap, inl, inr, not, refl}
use Rattle.cil_rule_reach.proofs.IdleLemmas.{idle-sources, idle-targets}
use Rattle.cil_rule_reach.proofs.permits.is_idle.Goals as goal

either : (a b : Bool) → (a || b) ≡ true → (a ≡ true) ⊎ (b ≡ true)
either true b is = inl refl
either false b is = inr is

pub returns : goal.returns
returns g c idle s t =
    elim (either c.is_none.result c.is_none-2.result idle) [
      | inl none ↦ idle-sources c.args.reach.now c.next_word-source.result (ap not (c.is_none.ensures ∙ ap not none)) c.next_word-source.ensures s t
      | inr none ↦ idle-targets c.args.reach.now c.next_word-target.result (ap not (c.is_none-2.ensures ∙ ap not none)) c.next_word-target.ensures s t
    ]
