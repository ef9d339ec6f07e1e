-- Permissions that classes are known to have.
use Rattle.cil_check.proofs.Common.{◌≡◌, ◌==◌, ◌&&◌, ℕ, ◌<◌, zero, suc, Bool, true, false, true≢false, eqb-true, List, [], ◌∷◌, length, map, get_or, Option, Some, None, Contains, refl, sym, ap, ◌∙◌, none-some, same_Some, slice_get_within, Word, Placed, IsOneName, permissions_in, read, texts_of, NumberedWord, IsNoted, Seen, Listed}
use Rattle.std.proofs.Common.{replicate, slice_get, slice_set}
use Rattle.cil_check.specs.Recent.{AreHeld, AreRecent, is_held}
use Rattle.cil_check.specs.declared.checker.Checker.{Checker}
use Rattle.cil_check.specs.declared.held.Held.{Held}
use Rattle.cil_check.proofs.PermissionLemmas.{word-read, one-name-at}

-- a value that isn't there
pub only-none : {X : Type 0} (P : Option X → Type 0) → ((x : X) → P (Some x) → ⊥) → (o : Option X) → P o → o ≡ None
only-none P never None is = refl
only-none P never (Some x) is = absurd (never x is)

-- none is in empty slots
pub recent-none : (has : ℕ → ℕ → Bool) (n : ℕ) → AreRecent has (replicate n None)
recent-none has zero i p at = absurd (none-some (Some p) at)
recent-none has (suc n) zero p at = absurd (none-some p (same_Some None (Some p) at))
recent-none has (suc n) (suc i) p at = recent-none has n i p at

-- the one in a slot
pub recent-at : (has : ℕ → ℕ → Bool) (slots : List (Option Listed)) (slot : ℕ) (p : Listed) (owner word : ℕ) → AreRecent has slots → slice_get slots slot ≡ Some (Some p) → p.owner ≡ owner → p.word ≡ word → has owner word ≡ true
recent-at has slots slot p owner word are at same named = (λ k. has (sym same k) (sym named k)) ∙ are slot p at

-- one more
pub recent-noted : (has : ℕ → ℕ → Bool) (slots : List (Option Listed)) (slot : ℕ) (p : Listed) → has p.owner p.word ≡ true → AreRecent has slots → AreRecent has (slice_set slots slot (Some p))
recent-noted has [] slot p is are i q at = are i q at
recent-noted has (o ∷ slots) zero p is are zero q at = ap (λ (r : Listed). has r.owner r.word) (sym (same_Some p q (same_Some (Some p) (Some q) at))) ∙ is
recent-noted has (o ∷ slots) zero p is are (suc i) q at = are (suc i) q at
recent-noted has (o ∷ slots) (suc slot) p is are zero q at = are zero q at
recent-noted has (o ∷ slots) (suc slot) p is are (suc i) q at = recent-noted has slots slot p is (λ j r there. are (suc j) r there) i q at

-- the same of lists
pub held-none : (holds : ℕ → ℕ → ℕ → Bool) (n : ℕ) → AreHeld holds (replicate n None)
held-none holds zero i p at = absurd (none-some (Some p) at)
held-none holds (suc n) zero p at = absurd (none-some p (same_Some None (Some p) at))
held-none holds (suc n) (suc i) p at = held-none holds n i p at

both-first : (a b : Bool) → (a && b) ≡ true → a ≡ true
both-first true b is = refl
both-first false b is = is

both-second : (a b : Bool) → (a && b) ≡ true → b ≡ true
both-second true b is = is
both-second false b is = absurd (true≢false (sym is))

pub held-at : (holds : ℕ → ℕ → ℕ → Bool) (slots : List (Option Held)) (slot : ℕ) (p : Held) (number list owner : ℕ) → AreHeld holds slots → slice_get slots slot ≡ Some (Some p) → is_held p number list owner ≡ true → holds number list owner ≡ true
held-at holds slots slot p number list owner are at is =
    let first = both-first (p.owner == owner && p.list == list) (p.«module» == number) is in
    let owned : p.owner ≡ owner = eqb-true p.owner owner (both-first (p.owner == owner) (p.list == list) first) in
    let listed : p.list ≡ list = eqb-true p.list list (both-second (p.owner == owner) (p.list == list) first) in
    let numbered : p.«module» ≡ number = eqb-true p.«module» number (both-second (p.owner == owner && p.list == list) (p.«module» == number) is) in
    (λ k. holds (sym numbered k) (sym listed k) (sym owned k)) ∙ are slot p at

pub held-noted : (holds : ℕ → ℕ → ℕ → Bool) (slots : List (Option Held)) (slot : ℕ) (p : Held) → holds p.«module» p.list p.owner ≡ true → AreHeld holds slots → AreHeld holds (slice_set slots slot (Some p))
held-noted holds [] slot p is are i q at = are i q at
held-noted holds (o ∷ slots) zero p is are zero q at = ap (λ (r : Held). holds r.«module» r.list r.owner) (sym (same_Some p q (same_Some (Some p) (Some q) at))) ∙ is
held-noted holds (o ∷ slots) zero p is are (suc i) q at = are (suc i) q at
held-noted holds (o ∷ slots) (suc slot) p is are zero q at = are zero q at
held-noted holds (o ∷ slots) (suc slot) p is are (suc i) q at = held-noted holds slots slot p is (λ j r there. are (suc j) r there) i q at

-- words without a first
pub first-none : (words : List Word) → slice_get words 0 ≡ None → words ≡ []
first-none [] is = refl
first-none (w ∷ words) is = absurd (none-some w (sym is))

-- the number of a permission is that of a name
pub permission-within : {A : Type 0} (checker : Checker A) (seen : Seen A) (policy : List Placed) (s : Placed) (shown : List NumberedWord) (i : ℕ) (d : NumberedWord) (number : ℕ) → IsNoted checker policy → Contains policy s
    → map (read (texts_of seen.«module».now)) shown ≡ map Some (permissions_in s.form) → i < length shown
    → ((w : Word) → read (texts_of seen.«module».now) (get_or shown i d) ≡ Some w → IsOneName w → slice_get checker.bound.policy.now.names number ≡ Some w.text) → number < length checker.bound.policy.now.names
permission-within checker seen policy s shown i d number noted contained are within numbered =
    let found = word-read (texts_of seen.«module».now) shown (permissions_in s.form) i d are within in
    slice_get_within checker.bound.policy.now.names number found.0.text (numbered found.0 found.2 (one-name-at (permissions_in s.form) i found.0 (noted.is.spelt s contained).permissions found.1))
