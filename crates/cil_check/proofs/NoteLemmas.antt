-- What statements give is noted along those about names.
use Rattle.cil_check.proofs.Common.{◌≡◌, ℕ, ◌+◌, ◌<◌, false, arith, length, List, None, Some, take, take_all, refl, sym, ap, ◌∙◌, subst, true≢false, length-map, slice_get_within, get_or_from_slice_get, Placed, kind_of, given_kind, HasFirstsOf, HasInheritedOf, Actual, Common}
use Rattle.std.proofs.Common.{slice_get}
use Rattle.cil_parse.specs.declared.row.StatementKind.{StatementKind}
use Rattle.cil_parse.specs.declared.row.StatementKind.TheVariants as kinds
use Rattle.cil_bind.specs.AboutNames.{is_about_names, name_places}
use Rattle.cil_bind.specs.Binding.{kinds_of}
use Rattle.cil_bind.proofs.AboutNamesLemmas.{after_places, StaysAt, to-end}
use Rattle.cil_bind.proofs.BindingLemmas.{kind-at}
use Rattle.cil_check.proofs.AskedLemmas.{none-lead}
use Rattle.cil_check.proofs.FirstsLemmas.{firsts-next}
use Rattle.cil_check.proofs.InheritedLemmas.{no-class-stay}
use Rattle.cil_check.proofs.SeenLemmas.{there-at}

-- what the statements in front of a place give is noted
pub record IsNotedTo (policy : List Placed) (actuals commons : List (ℕ × ℕ)) (inherited : List ℕ × List (List ℕ)) (n : ℕ) : Type 0 where
  pub actuals_are : HasFirstsOf Actual policy (take n policy) actuals
  pub commons_are : HasFirstsOf Common policy (take n policy) commons
  pub inherited_are : HasInheritedOf policy (take n policy) inherited

-- a statement that isn't about names gives nothing
other-gives : (kind : StatementKind) → is_about_names kind ≡ false → (given_kind Actual kind ≡ false) × (given_kind Common kind ≡ false)
other-gives kinds.TypeAliasActual other = absurd (true≢false other)
other-gives kinds.ClassCommon other = absurd (true≢false other)
other-gives _ other = (refl, refl)

-- the kind of a statement about which the kinds of all say it
pub kind-there : (policy : List Placed) (i : ℕ) (kind : StatementKind) → slice_get (kinds_of policy) i ≡ Some kind → (s : Placed) × (slice_get policy i ≡ Some s) × (kind_of s.form ≡ kind)
kind-there policy i kind at =
    let (s, there) = there-at policy i (subst (λ n. i < n) (length-map policy (λ s. kind_of s.form)) (slice_get_within (kinds_of policy) i kind at)) in
    (s, there, sym (kind-at policy (kinds_of policy) i s kind refl there) ∙ get_or_from_slice_get (kinds_of policy) i kind kind at)

-- one that gives nothing changes nothing
pub noted-over : (policy : List Placed) (actuals commons : List (ℕ × ℕ)) (inherited : List ℕ × List (List ℕ)) (i : ℕ) (s : Placed) → slice_get policy i ≡ Some s → given_kind Actual (kind_of s.form) ≡ false
    → given_kind Common (kind_of s.form) ≡ false → IsNotedTo policy actuals commons inherited i → IsNotedTo policy actuals commons inherited (i + 1)
noted-over policy actuals commons inherited i s at no_actual no_common noted = record {
  actuals_are = firsts-next Actual policy i s None actuals actuals at (none-lead Actual policy s no_actual) refl noted.actuals_are;
  commons_are = firsts-next Common policy i s None commons commons at (none-lead Common policy s no_common) refl noted.commons_are;
  inherited_are = no-class-stay policy i s inherited at (none-lead Common policy s no_common) noted.inherited_are;
}

pub noted-stays : (policy : List Placed) (actuals commons : List (ℕ × ℕ)) (inherited : List ℕ × List (List ℕ)) → StaysAt (IsNotedTo policy actuals commons inherited) (kinds_of policy)
noted-stays policy actuals commons inherited i kind at other noted =
    let (s, there, told) = kind-there policy i kind at in
    let (no_actual, no_common) = other-gives kind other in
    noted-over policy actuals commons inherited i s there (ap (given_kind Actual) told ∙ no_actual) (ap (given_kind Common) told ∙ no_common) noted

-- behind the last statement about names what all statements give is noted
pub noted-end : (policy : List Placed) (actuals commons : List (ℕ × ℕ)) (inherited : List ℕ × List (List ℕ)) (places : List ℕ) (k : ℕ) → places ≡ name_places 0 (kinds_of policy) → k ≡ length places
    → IsNotedTo policy actuals commons inherited (after_places 0 places k) → HasFirstsOf Actual policy policy actuals × HasFirstsOf Common policy policy commons × HasInheritedOf policy policy inherited
noted-end policy actuals commons inherited places k are end noted =
    let all = to-end (IsNotedTo policy actuals commons inherited) (kinds_of policy) places are (noted-stays policy actuals commons inherited) k end noted in
    let long = length-map policy (λ s. kind_of s.form) in
    let whole : take (length (kinds_of policy)) policy ≡ policy = take_all (length (kinds_of policy)) policy (omega (arith, long)) in (
      subst (λ l. HasFirstsOf Actual policy l actuals) whole all.actuals_are,
      subst (λ l. HasFirstsOf Common policy l commons) whole all.commons_are,
      subst (λ l. HasInheritedOf policy l inherited) whole all.inherited_are,
    )
