-- What a set statement gives anew it holds, and held it not in the old policy.
use Rattle.cil_member_updates.proofs.Common.{◌≡◌, ◌<◌, ◌&&◌, ℕ, Bool, true, false, List, Some, bytes_eq, slice_get, refl, sym, ap, ◌∙◌, subst, arith, Matched, meaning_in, Resolved, one_if, set_at, differ, across-some, Comes, IsHeld, IsMovedAt, holds, is_of, of_name, given_by, stayed, given}
use Rattle.std.proofs.Common.{true≢false}

module _ {A B : Type 0} (symbols : List (List ℕ)) (old : Resolved A) (new : Resolved B) (m : Matched) where
  pub comes-held : (j t : ℕ) → Comes symbols old new m j t → IsHeld symbols (meaning_in new) (set_at new j) t
  unfolding given
  comes-held j t (a, more) = by (is_of symbols (set_at new j) a) (holds symbols (meaning_in new) (set_at new j) t) refl refl more
    where
      some : (b : Bool) → stayed symbols old m a t j < one_if b → b ≡ true
      some true less = refl
      some false less = absurd (omega (arith, less))

      second : (p q : Bool) → (p && q) ≡ true → q ≡ true
      second true q is = is
      second false q is = absurd (true≢false (sym is))

      by : (p q : Bool) → is_of symbols (set_at new j) a ≡ p → holds symbols (meaning_in new) (set_at new j) t ≡ q → stayed symbols old m a t j < one_if (is_of symbols (set_at new j) a && holds symbols (meaning_in new) (set_at new j) t)
          → holds symbols (meaning_in new) (set_at new j) t ≡ true
      by p q p_is q_is less = second (is_of symbols (set_at new j) a) (holds symbols (meaning_in new) (set_at new j) t) (some _ less)

  pub comes-moved : (i j : ℕ) → slice_get m.back j ≡ Some (Some i) → (set_at old i).attribute ≡ (set_at new j).attribute → (t : ℕ) → Comes symbols old new m j t
      → IsMovedAt symbols (meaning_in old) (set_at old i) (meaning_in new) (set_at new j) t
  unfolding given is_of
  comes-moved i j place same t (a, more) =
      other (is_of symbols (set_at new j) a) (holds symbols (meaning_in old) (set_at old i) t) (holds symbols (meaning_in new) (set_at new j) t) (subst (λ n. n < given symbols new j a t) was more)
    where
      of-same : is_of symbols (set_at old i) a ≡ is_of symbols (set_at new j) a
      of-same = ap (λ attribute. of_name (λ name. bytes_eq name attribute) (slice_get symbols a)) same

      was : stayed symbols old m a t j ≡ one_if (is_of symbols (set_at new j) a && holds symbols (meaning_in old) (set_at old i) t)
      was = across-some (given_by symbols old a t) m.back i j place ∙ ap (λ b. one_if (b && holds symbols (meaning_in old) (set_at old i) t)) of-same

      other : (p h k : Bool) → one_if (p && h) < one_if (p && k) → differ h k ≡ true
      other true true true less = absurd (omega (arith, less))
      other true true false less = refl
      other true false true less = refl
      other true false false less = absurd (omega (arith, less))
      other false h k less = absurd (omega (arith, less))
