-- Permission sets that permit what they did.
use Rattle.cil_table_updates.proofs.Common.{◌≡◌, ℕ, Bool, true, List, [], length, slice_index_or, slice_get, Option, None, Some, refl, sym, ap, ◌∙◌, arith, inl, inr, subst, cases_lt, same_Some, none-some, Contains, list_all, get_or_from_slice_get, slice_get_read, slice_get_within, is_rule_below, NumberedRule, members_of, AreApart, HasSoundRules, IsPolicy, Policy, PermitTheSame, AreReplaced}
use Rattle.std.proofs.Common.{replicate}
use Rattle.std.proofs.lemmas.List.{get_or_past, get_or-replicate, length-replicate}
use Rattle.cil_specs.specs.Rule.{of_set}
use Rattle.cil_matching.specs.Matching.{Matched}
use Rattle.cil_recorded.specs.Recorded.{State}
use Rattle.cil_resolve.specs.Numbers.{resolved_permissions_of}
use Rattle.cil_resolve.specs.declared.numbered.ResolvedPermissions.{ResolvedPermissions}
use Rattle.cil_resolve.specs.declared.numbered.ResolvedPermissions.TheVariants as permits
use Rattle.cil_rule_reach.proofs.NamedLemmas.{permits-alike}
use Rattle.cil_table_updates.specs.Moves.{AreWrittenAlike}
use Rattle.cil_table_updates.specs.Staying.{answer_at, set_in, AreAlikeAt, AreMatchedAlike, HasRule, PermitsAlike, StaysSet}
use Rattle.cil_table_updates.proofs.PlaceLemmas.{passes-at}

-- an item at a place is one of the list
pub there-at : {X : Type 0} (xs : List X) (i : ℕ) (x : X) → slice_get xs i ≡ Some x → Contains xs x
there-at xs i x at = (i, slice_get_within xs i x at, get_or_from_slice_get xs i x x at)

-- what holds of all items holds of one of the list
passes-in : {X : Type 0} (p : X → Bool) (xs : List X) (x : X) → list_all p xs ≡ true → Contains xs x → p x ≡ true
passes-in p xs x all has = passes-at p xs has.0 x all (slice_get_read xs (length xs) has.0 x refl has.1 (sym has.2))

-- rules of a policy whose permissions are written the same permit the same
pub policy-alike : {A : Type 0} (names : List (List ℕ)) (apart : AreApart names) (p : Policy A) → IsPolicy names p → HasSoundRules p → PermitsAlike p
policy-alike names apart p is sound rule other has other_has same c q =
    permits-alike p.resolved.now names p.numbering.now.symbols apart is.numbers (members_of p.members) is.members rule other c q
    (passes-in (is_rule_below (length p.resolved.now.names.items)) p.resolved.now.rules.items rule sound.below has)
    (passes-in (is_rule_below (length p.resolved.now.names.items)) p.resolved.now.rules.items other sound.below other_has) (sound.permitted rule has) (sound.permitted other other_has) same

-- permissions of the set of a number are written by its name
set-written : {A : Type 0} (names : List (List ℕ)) (q : ResolvedPermissions A) (n : ℕ) → set_in q ≡ Some n → resolved_permissions_of names q ≡ of_set (slice_index_or names n [])
set-written names (permits.OfClass p) n is = absurd (none-some n is)
set-written names (permits.OfSet s) n is = ap (λ m. of_set (slice_index_or names m [])) (same_Some s.set n is)

-- one pair of rules tells of all that name their set
pub learned : {A : Type 0} (old new : Policy A) (old_rule new_rule : NumberedRule A) (n : ℕ) → PermitsAlike old → PermitsAlike new → HasRule old old_rule → HasRule new new_rule → set_in new_rule.permissions ≡ Some n
    → AreWrittenAlike old old_rule new new_rule → PermitTheSame old old_rule new new_rule → StaysSet old new n
learned old new old_rule new_rule n old_alike new_alike here there is written same r s r_has s_has s_is s_written c p =
    let names = new.resolved.now.names.items in
    let one : resolved_permissions_of names s.permissions ≡ resolved_permissions_of names new_rule.permissions = set-written names s.permissions n s_is ∙ sym (set-written names new_rule.permissions n is) in
    old_alike r old_rule r_has here (s_written ∙ one ∙ sym written) c p ∙ same c p ∙ new_alike new_rule s there s_has (sym one) c p

-- rules that stand at such places
pub alike-at : {A : Type 0} (old : Policy A) (i : ℕ) (new : Policy A) (j : ℕ) → AreAlikeAt old i new j → (one other : NumberedRule A) → slice_get old.resolved.now.rules.items i ≡ Some one → slice_get new.resolved.now.rules.items j ≡ Some other
    → HasRule old one × HasRule new other × AreWrittenAlike old one new other
alike-at {A = A} old i new j are one other here there =
    let first = same_Some are.old_rule one (sym are.here ∙ here) in
    let second = same_Some are.new_rule other (sym are.there ∙ there) in (
      there-at old.resolved.now.rules.items i one here,
      there-at new.resolved.now.rules.items j other there,
      subst (λ (r : NumberedRule A). AreWrittenAlike old r new other) first (subst (λ (r : NumberedRule A). AreWrittenAlike old are.old_rule new r) second are.written),
    )

-- where nothing is known no answer is yes
pub none-known : (names n : ℕ) → answer_at (replicate names None) n ≡ Some true → ⊥
none-known names n is =
    elim (cases_lt n names) [
      | inl within ↦ none-some true (sym (get_or-replicate names n None None within) ∙ is)
      | inr past ↦ none-some true (sym (get_or_past (replicate names None) n None (let empty : Option Bool = None in let long = length-replicate names empty in omega (arith, past, long))) ∙ is)
    ]

pub only-none : (P : Option Bool → Type 0) → ((x : Bool) → P (Some x) → ⊥) → (o : Option Bool) → P o → o ≡ None
only-none P some None p = refl
only-none P some (Some x) p = absurd (some x p)

-- rules that replace others have permissions that are written the same
pub replaced-alike : {A : Type 0} (rows : State) (old new : Policy A) (m : Matched) → AreReplaced rows old new m → AreMatchedAlike old new m
replaced-alike rows old new m replaced i j at =
    let is = replaced i j at in
    record { old_rule = is.old_rule; new_rule = is.new_rule; here = is.here; there = is.there; written = is.written }
