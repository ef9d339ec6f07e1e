-- A policy by symbols, and the counters of its members.
use Rattle.cil_member_updates.proofs.Common.{◌≡◌, ◌+◌, ◌<◌, ◌≤◌, ℕ, List, length, Some, IsTrue, bytes_eq, slice_get, sym, ap, ◌∙◌, arith, AreInOrder, AreTheSame, HasSoundSets, SetStatement, IsSameSet, mentions, meaning_in, sets_in, Resolved, no_set, set_at, Matched, AreMatched, sum_below, gives, Tell, given_by, gone, stayed, given, AreCounts, Contains-get_or, HasStayed, Reads, an_attribute, count_before, count_now, counts_at, given_of, has_name, is_given, keeps_attribute, lowered, new_in, old_in, raised, set_of, was_given}
use Rattle.cil_member_updates.proofs.GivenLemmas.{count-sum, counts-tell, gives-other, none-behind, tell-same}
use Rattle.cil_member_updates.proofs.PassLemmas.{gone-all}
use Rattle.cil_member_updates.proofs.RenewLemmas.{places, same-attribute, settled-at}
use Rattle.cil_member_updates.proofs.MovedLemmas.{MovedBelow, moved-other, none-given}
use Rattle.cil_member_updates.proofs.NameLemmas.{mention-there}
use Rattle.cil_member_updates.proofs.SymbolLemmas.{symbol-of}
use Rattle.cil_recorded.specs.Recorded.{State}
use Rattle.cil_member_updates.specs.Policy.{IsSide}
use Rattle.cil_member_updates.specs.declared.side.Reading.{Reading}
use Rattle.cil_member_updates.specs.declared.side.Side.{Side}
use Rattle.cil_member_updates.specs.declared.side.Stayed.{Stayed}
use Rattle.cil_member_updates.specs.declared.when.When.{When}
use Rattle.cil_member_updates.specs.declared.when.When.TheVariants.{Before, Now}
use Rattle.cil_member_updates.proofs.WordLemmas.{gives-past}

-- an attribute that a set statement mentions has a symbol
pub mentioned-symbol : {A : Type 0} (symbols : List (List ℕ)) (side : Side A) → IsSide symbols side → (j : ℕ) → j < length (sets_in side.resolved.now) → HasSoundSets (meaning_in side.resolved.now)
    → AreTheSame (meaning_in side.resolved.now).sets (sets_in side.resolved.now)
    → ((n : List ℕ) → IsTrue (keeps_attribute (meaning_in side.resolved.now) n) → IsTrue (has_name side.resolved.now.names.items n))
    → (attribute : List ℕ) → IsTrue (mentions attribute (set_at side.resolved.now j).expr) → (a : ℕ) × (slice_get symbols a ≡ Some attribute)
mentioned-symbol symbols side is j within sound same kept attribute mentioned =
    let r = side.resolved.now in
    symbol-of symbols side.numbering.now.symbols r.names.items is.numbers attribute
    (kept attribute (sound.own.mentioned (set_at r j) (an_attribute attribute) ((same (set_at r j)).1 (Contains-get_or (sets_in r) j no_set within)) (mention-there attribute (set_at r j).expr mentioned)))

module _ {A : Type 0} (symbols : List (List ℕ)) (r : Resolved A) where
  -- each counter is a sum over the set statements
  pub counts-sum : (counts : ℕ → ℕ → ℕ) → AreCounts symbols r counts → (a t : ℕ) → counts a t ≡ sum_below (given_by symbols r a t) (length (sets_in r))
  unfolding given
  counts-sum counts are a t = are a t ∙ count-sum (gives symbols (meaning_in r) a t) no_set (sets_in r)

  pub sum-counts : (counts : ℕ → ℕ → ℕ) → ((a t : ℕ) → counts a t ≡ sum_below (given_by symbols r a t) (length (sets_in r))) → AreCounts symbols r counts
  unfolding given
  sum-counts counts are a t = are a t ∙ sym (count-sum (gives symbols (meaning_in r) a t) no_set (sets_in r))

  -- and they tell the members
  pub counts-members : HasSoundSets (meaning_in r) → AreTheSame (meaning_in r).sets (sets_in r) → (s : SetStatement) (counts : ℕ → ℕ → ℕ) → AreCounts symbols r counts → Tell symbols (meaning_in r) s counts
  counts-members sound same s counts are = counts-tell symbols (meaning_in r) sound (sets_in r) same s counts (λ a t attribute name at_a at_t mentioned. are a t)

  pub given-past : (i a t : ℕ) → length symbols ≤ t → given symbols r i a t ≡ 0
  unfolding given
  given-past i a t past = gives-past symbols (meaning_in r) (set_at r i) a t past

  -- a set statement gives nothing in the rows of what it mentions
  pub given-mentioned : AreInOrder (sets_in r) → (j : ℕ) → j < length (sets_in r) → (a t : ℕ) (attribute : List ℕ) → slice_get symbols a ≡ Some attribute → IsTrue (mentions attribute (set_at r j).expr) → given symbols r j a t ≡ 0
  unfolding given
  given-mentioned order j within a t attribute at mentioned =
      gives-other symbols (meaning_in r) a t attribute at (set_at r j) (none-behind (sets_in r) no_set order j j (omega arith) within attribute mentioned)

module _ {A B : Type 0} (symbols : List (List ℕ)) (old : Resolved A) (new : Resolved B) where
  -- nor did it in the old policy
  pub gave-mentioned : AreInOrder (sets_in new) → (i j : ℕ) → IsSameSet (set_at old i) (set_at new j) → j < length (sets_in new) → (a t : ℕ) (attribute : List ℕ) → slice_get symbols a ≡ Some attribute
      → IsTrue (mentions attribute (set_at new j).expr) → given symbols old i a t ≡ 0
  unfolding given
  gave-mentioned order i j same within a t attribute at mentioned =
      gives-other symbols (meaning_in old) a t attribute at (set_at old i)
      (ap (λ name. bytes_eq attribute name) (same-attribute (set_at old i) (set_at new j) same) ∙ none-behind (sets_in new) no_set order j j (omega arith) within attribute mentioned)

module _ {A B : Type 0} (symbols : List (List ℕ)) (old : Resolved A) (new : Resolved B) (matching : Matched) (matched : AreMatched IsSameSet (sets_in old) (sets_in new) matching) where
  -- behind the first pass
  pub stayed-all : (a t count : ℕ) → count + sum_below (gone symbols old matching a t) (length (sets_in old)) ≡ sum_below (given_by symbols old a t) (length (sets_in old))
      → count ≡ sum_below (stayed symbols old matching a t) (length (sets_in new))
  stayed-all a t count is = gone-all (given_by symbols old a t) (length (sets_in old)) matching.ahead matching.back (length (sets_in new)) (places (sets_in old) (sets_in new) no_set matching matched) count is

  -- within the second pass the members of what the next set statement mentions are known
  pub renewed-tell : HasSoundSets (meaning_in new) → AreTheSame (meaning_in new).sets (sets_in new) → AreInOrder (sets_in new) → (j : ℕ) → j < length (sets_in new) → (counts : ℕ → ℕ → ℕ)
      → ((a t : ℕ) → counts a t + sum_below (stayed symbols old matching a t) j ≡ sum_below (given_by symbols new a t) j + sum_below (stayed symbols old matching a t) (length (sets_in new)))
      → Tell symbols (meaning_in new) (set_at new j) counts
  unfolding given
  renewed-tell sound same order j within counts are =
      counts-tell symbols (meaning_in new) sound (sets_in new) same (set_at new j) counts
      (λ a t attribute name at_a at_t mentioned. settled-at (sets_in old) (sets_in new) no_set matching matched symbols (meaning_in old) a t attribute at_a order (meaning_in new) j within mentioned (counts a t) (are a t))

-- the counters still tell what they told, while those move that a set statement gives in
pub reads-still : {A : Type 0} (r : Reading A) → AreInOrder (sets_in r.side.now.resolved.now) → (rows more : State) → Reads r rows → ((a t : ℕ) → count_before more a t ≡ count_before rows a t)
    → (word : ℕ) → MovedBelow word (lowered r.when (given_of r)) (raised r.when (given_of r)) (count_now rows) (count_now more) → Reads r more
reads-still r order rows more reads before word moved = record {
  side = reads.side;
  within = reads.within;
  tell = tell-same r.symbols.now (meaning_in r.side.now.resolved.now) (set_of r) (counts_at r.when rows) (counts_at r.when more) reads.tell
      (λ a t attribute at mentioned. by r.when a t (moved-other (lowered r.when (given_of r)) (raised r.when (given_of r)) word (count_now rows) (count_now more) moved a t
      (none-given r.when (given_of r) a t (given-mentioned r.symbols.now r.side.now.resolved.now order r.place reads.within a t attribute at mentioned))));
}
  where
    by : (when : When) (a t : ℕ) → count_now more a t ≡ count_now rows a t → counts_at when more a t ≡ counts_at when rows a t
    by Before a t now = before a t
    by Now a t now = now

-- also of a set statement that stayed
pub stayed-still : {A : Type 0} (s : Stayed A) → AreInOrder (sets_in (new_in s.policies.now)) → (rows more : State) → HasStayed s rows → ((a t : ℕ) → count_before more a t ≡ count_before rows a t)
    → (word : ℕ) → MovedBelow word (was_given s) (is_given s) (count_now rows) (count_now more) → HasStayed s more
stayed-still s order rows more has before word moved =
    let p = s.policies.now in
    record {
      was = record {
        side = has.was.side;
        within = has.was.within;
        tell = tell-same p.symbols.now (meaning_in (old_in p)) (set_at (old_in p) s.i) (count_before rows) (count_before more) has.was.tell (λ a t attribute at mentioned. before a t);
      };
      is = record {
        side = has.is.side;
        within = has.is.within;
        tell = tell-same p.symbols.now (meaning_in (new_in p)) (set_at (new_in p) s.j) (count_now rows) (count_now more) has.is.tell
            (λ a t attribute at mentioned.
            moved-other (was_given s) (is_given s) word (count_now rows) (count_now more) moved a t
            (gave-mentioned p.symbols.now (old_in p) (new_in p) order s.i s.j has.same has.is.within a t attribute at mentioned
            ∙ sym (given-mentioned p.symbols.now (new_in p) order s.j has.is.within a t attribute at mentioned)));
      };
      same = has.same;
    }
