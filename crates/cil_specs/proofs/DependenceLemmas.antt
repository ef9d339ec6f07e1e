-- Set statements in the order of dependence have no circle, and what they hold doesn't depend on their order.
use Rattle.cil_specs.proofs.Common.{◌≡◌, ℕ, zero, suc, ◌<◌, Bool, true, false, ◌&&◌, ◌||◌, List, [], ◌∷◌, bytes_eq, refl, sym, ap, ◌∙◌, subst, arith, list_any, or-true, bytes_eq-Decides, Expr, Element, SetStatement, expr_holds, attribute_holds, holds_with, mentions, IsNextOf, DependsThrough, HasNoCircle}
use Rattle.std.proofs.Common.{Contains, true≢false}
use Rattle.cil_specs.specs.Dependence.{has_set, AreInOrder, AreTheSame}
use Rattle.cil_specs.proofs.NamesLemmas.{contains-middle}
use Rattle.cil_specs.proofs.OnceLemmas.{passes-among}
use Rattle.cil_specs.proofs.DependsLemmas.{any-contained}
use Rattle.cil_specs.proofs.SetLemmas.{holds-agree, any-agree}

-- where a statement stands
abbrev IsAt : List SetStatement → ℕ → SetStatement → Type 0
IsAt [] k s = ⊥
IsAt (x ∷ sets) zero s = x ≡ s
IsAt (x ∷ sets) (suc k) s = IsAt sets k s

at-some : (sets : List SetStatement) (s : SetStatement) → Contains sets s → (k : ℕ) × IsAt sets k s
at-some [] s c = absurd (omega (arith, c.1))
at-some (x ∷ sets) s (zero, within, is) = (0, is)
at-some (x ∷ sets) s (suc k, within, is) = let more = at-some sets s (k, omega (arith, within), is) in (suc more.0, more.1)

at-contained : (sets : List SetStatement) (k : ℕ) (s : SetStatement) → IsAt sets k s → list_any (λ x. bytes_eq s.attribute x.attribute) sets ≡ true
at-contained [] k s at = absurd at
at-contained (x ∷ sets) zero s at = ap (λ b. b || has_set sets s.attribute) ((bytes_eq-Decides s.attribute x.attribute).1 (ap (λ y. y.attribute) (sym at)))
at-contained (x ∷ sets) (suc k) s at = ap (λ b. bytes_eq s.attribute x.attribute || b) (at-contained sets k s at) ∙ or-true (bytes_eq s.attribute x.attribute)

-- each statement of a mentioned attribute stands before
before : (sets : List SetStatement) → AreInOrder sets → (j k : ℕ) (s t : SetStatement) → IsAt sets j s → IsAt sets k t → mentions t.attribute s.expr ≡ true → k < j
before [] order j k s t at there m = absurd at
before (x ∷ sets) order zero k s t at there m =
    absurd (true≢false (sym (at-contained (x ∷ sets) k t there) ∙ order.0 t.attribute (subst (λ y. mentions t.attribute y.expr ≡ true) (sym at) m)))
before (x ∷ sets) order (suc j) zero s t at there m = omega arith
before (x ∷ sets) order (suc j) (suc k) s t at there m = let less = before sets order.1 j k s t at there m in omega (arith, less)

-- a statement of an attribute behind all those of another
record IsBehind (sets : List SetStatement) (a b : List ℕ) : Type 0 where
  place : ℕ
  s : SetStatement
  at : IsAt sets place s
  own : s.attribute ≡ a
  behind : (k : ℕ) (t : SetStatement) → IsAt sets k t → t.attribute ≡ b → k < place

module _ (sets : List SetStatement) (order : AreInOrder sets) where
  step-behind : (a b : List ℕ) → IsNextOf sets a b → IsBehind sets a b
  step-behind a b step =
      let found = at-some sets step.s step.is_in in
      record {
        place = found.0;
        s = step.s;
        at = found.1;
        own = step.of_attribute;
        behind = λ k t there same. before sets order found.0 k step.s t found.1 there (subst (λ x. mentions x step.s.expr ≡ true) (sym same) step.mentioned);
      }

  through-behind : (between : List (List ℕ)) (a b : List ℕ) → DependsThrough sets a between b → IsBehind sets a b
  through-behind [] a b step = step-behind a b step
  through-behind (x ∷ between) a b (step, rest) =
      let first = step-behind a x step in
      let more = through-behind between x b rest in
      let less = first.behind more.place more.s more.at more.own in
      record { place = first.place; s = first.s; at = first.at; own = first.own; behind = λ k t there same. (let last = more.behind k t there same in omega (arith, last, less)) }

  -- in the order of dependence no attribute depends on itself
  pub order-straight : HasNoCircle sets
  order-straight a (between, there) = let is = through-behind between a a there in absurd (let less = is.behind is.place is.s is.at is.own in omega (arith, less))

-- a test of one of the same statements
any-same : (p : SetStatement → Bool) (sets others : List SetStatement) → AreTheSame sets others → list_any p sets ≡ list_any p others
any-same p sets others same = by (list_any p sets) refl (list_any p others) refl
  where
    there : (xs ys : List SetStatement) → ((s : SetStatement) → Contains xs s → Contains ys s) → list_any p xs ≡ true → list_any p ys ≡ true
    there xs ys from any =
        let found = passes-among p xs any in
        any-contained p ys found.x (from found.x (subst (λ l. Contains l found.x) (sym found.split) (contains-middle found.before found.x found.after))) found.passes

    by : (b : Bool) → list_any p sets ≡ b → (c : Bool) → list_any p others ≡ c → list_any p sets ≡ list_any p others
    by true e true f = e ∙ sym f
    by true e false f = absurd (true≢false (sym (there sets others (λ s. (same s).0) e) ∙ f))
    by false e true f = absurd (true≢false (sym (there others sets (λ s. (same s).1) f) ∙ e))
    by false e false f = e ∙ sym f

-- The same statements hold the same, in whatever order.
module _ (sets others : List SetStatement) (same : AreTheSame sets others) where
  pub attribute-holds-same : (n : ℕ) (a t : List ℕ) → attribute_holds sets n a t ≡ attribute_holds others n a t
  attribute-holds-same zero a t = refl
  attribute-holds-same (suc n) a t =
      any-agree (λ s. bytes_eq a s.attribute && expr_holds (λ b. attribute_holds sets n b t) s.expr t) (λ s. bytes_eq a s.attribute && expr_holds (λ b. attribute_holds others n b t) s.expr t) sets
      (λ s c. ap (λ b. bytes_eq a s.attribute && b) (holds-with-same n s.expr t (λ b. attribute-holds-same n b t)))
      ∙ any-same (λ s. bytes_eq a s.attribute && expr_holds (λ b. attribute_holds others n b t) s.expr t) sets others same
    where
      holds-with-same : (n : ℕ) (e : Expr Element) (t : List ℕ) → ((b : List ℕ) → attribute_holds sets n b t ≡ attribute_holds others n b t) → holds_with sets n e t ≡ holds_with others n e t
      holds-with-same n e t each = holds-agree (λ b. attribute_holds sets n b t) (λ b. attribute_holds others n b t) t e (λ b _. each b)

  pub holds-same : (n : ℕ) (e : Expr Element) (t : List ℕ) → holds_with sets n e t ≡ holds_with others n e t
  holds-same n e t = holds-agree (λ b. attribute_holds sets n b t) (λ b. attribute_holds others n b t) t e (λ b _. attribute-holds-same n b t)
