-- How many set statements make a type a member.
use Rattle.cil_member_updates.proofs.Common.{zero-add, ◌≡◌, ℕ, ◌+◌, Bool, true, false, cond, ◌||◌, List, [], ◌∷◌, count_by, nat_lt, refl, sym, ap, ◌∙◌, subst, arith, list_any, lt-ltb, AreTheSame, Meaning, is_member, HasSoundSets, SetStatement, contains-middle, gives_member, gives_count}
use Rattle.std.proofs.Common.{Contains}
use Rattle.std.specs.Cmp.{both_ways}
use Rattle.std.proofs.lemmas.List.Sums.{sum_by-cons}
use Rattle.cil_specs.proofs.DependsLemmas.{any-contained}
use Rattle.cil_specs.proofs.MemberLemmas.{member-fixed}
use Rattle.cil_specs.proofs.OnceLemmas.{passes-among}

-- a test of one of the same statements
any-same : (p : SetStatement → Bool) (sets others : List SetStatement) → AreTheSame sets others → list_any p sets ≡ list_any p others
any-same p sets others same = both_ways (list_any p sets) (list_any p others) (there sets others (λ s. (same s).0)) (there others sets (λ s. (same s).1))
  where
    there : (xs ys : List SetStatement) → ((s : SetStatement) → Contains xs s → Contains ys s) → list_any p xs ≡ true → list_any p ys ≡ true
    there xs ys from any =
        let found = passes-among p xs any in
        any-contained p ys found.x (from found.x (subst (λ l. Contains l found.x) (sym found.split) (contains-middle found.before found.x found.after))) found.passes

one-more : {X : Type 0} (p : X → Bool) (x : X) (xs : List X) → count_by p (x ∷ xs) ≡ cond (p x) 1 0 + count_by p xs
one-more p x xs = sum_by-cons (λ y. cond (p y) 1 0) x xs

-- one that passes is counted
pub counted-any : {X : Type 0} (p : X → Bool) (xs : List X) → nat_lt 0 (count_by p xs) ≡ list_any p xs
counted-any p [] = refl
counted-any p (x ∷ xs) = ap (nat_lt 0) (one-more p x xs) ∙ by (p x) (counted-any p xs)
  where
    by : (b : Bool) → nat_lt 0 (count_by p xs) ≡ list_any p xs → nat_lt 0 (cond b 1 0 + count_by p xs) ≡ (b || list_any p xs)
    by true more = lt-ltb 0 (1 + count_by p xs) (omega arith)
    by false more = ap (nat_lt 0) (zero-add (count_by p xs)) ∙ more

-- Where the statements are those of a policy, a type is a member where one of them makes it one.
pub counted-member : (meaning : Meaning) → HasSoundSets meaning → (sets : List SetStatement) → AreTheSame meaning.sets sets → (a t : List ℕ) → nat_lt 0 (gives_count meaning a t sets) ≡ is_member meaning a t
counted-member meaning sound sets same a t =
    counted-any (gives_member meaning a t) sets ∙ sym (any-same (gives_member meaning a t) meaning.sets sets same) ∙ sym (member-fixed meaning sound a t)
