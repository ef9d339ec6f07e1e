-- The namespaces that blocks open, one after the other.
use Rattle.cil_lookup.proofs.Common.{◌≡◌, ◌⊎◌, inl, inr, ℕ, zero, suc, ◌-◌, ◌+◌, ◌<◌, ◌^◌, Bool, true, false, ◌&&◌, List, [], ◌∷◌, ◌++◌, length, get_or, Some, position, bytes_eq, nat_eq, fold, Contains, refl, sym, ap, ◌∙◌, subst, arith, true≢false, append_assoc, append-nil, if◌then◌else◌, list_any, IsDistinct, cases_order, nat_list_eq_equiv, length_push, get_or_append_left, get_or_default, get_or_push, Contains-push_cases, Any-from_list_any, list_any_at, position-Some, same_Some, slice_get-get_or, slice_get_within, first_true, second_true, Opens, with_block, spaces_of, AreInside, AreSpaces, Block}
use Rattle.std.proofs.Common.{slice_get}
use Rattle.std.specs.Cmp.{unsigned_Decides}
use Rattle.std.specs.Cmp.Derive.{both_true}
use Rattle.std.proofs.lemmas.List.Sums.{fold-append}
use Rattle.std.proofs.lemmas.Map.Keys.{IsDistinct-push, apart_from_distinct}
use Rattle.indexmap.specs.IndexSet.{insert_key}
use Rattle.cil_lookup.specs.contracts.namespaces.BlockPartialEq.TheImpl as block_eq
use Rattle.std.proofs.lemmas.Slice.Eq.{bytes_eq-Decides}

pub bytes_eq-refl : (xs : List ℕ) → bytes_eq xs xs ≡ true
bytes_eq-refl xs = (bytes_eq-Decides xs xs).1 refl

pub bytes_eq-true : (xs ys : List ℕ) → bytes_eq xs ys ≡ true → xs ≡ ys
bytes_eq-true xs ys e = (bytes_eq-Decides xs ys).0 e

-- of distinct namespaces no two places have the same
pub distinct-place : (spaces : List (List ℕ)) (i j : ℕ) → IsDistinct bytes_eq spaces → i < length spaces → j < length spaces → get_or spaces i [] ≡ get_or spaces j [] → i ≡ j
distinct-place spaces i j distinct low high same = by (cases_order i j)
  where
    apart : (k l : ℕ) → k < l → l < length spaces → get_or spaces k [] ≡ get_or spaces l [] → ⊥
    apart k l less within e =
        true≢false (sym (bytes_eq-refl (get_or spaces k [])) ∙ ap (bytes_eq (get_or spaces k [])) e ∙ apart_from_distinct bytes_eq spaces k l [] distinct less within)

    by : (i ≡ j) ⊎ ((i < j) ⊎ (j < i)) → i ≡ j
    by (inl e) = e
    by (inr (inl less)) = absurd (apart i j less high same)
    by (inr (inr more)) = absurd (apart j i more low (sym same))

-- the namespaces in front stay
spaces-more : (spaces : List (List ℕ)) (blocks : List Block) → (more : List (List ℕ)) × (fold with_block spaces blocks ≡ spaces ++ more)
spaces-more spaces [] = ([], sym (append-nil spaces))
spaces-more spaces (b ∷ blocks) =
    let rest = spaces-more (with_block spaces b) blocks in
    let space = b.word ∷ get_or spaces b.outer [] in
    (space ∷ rest.0, rest.1 ∙ append_assoc spaces (space ∷ []) rest.0)

space-front : (spaces : List (List ℕ)) (blocks : List Block) (i : ℕ) → i < length spaces → get_or (fold with_block spaces blocks) i [] ≡ get_or spaces i []
space-front spaces blocks i within =
    let more = spaces-more spaces blocks in
    ap (λ s. get_or s i []) more.1 ∙ get_or_append_left spaces more.0 [] i within

length-spaces : (spaces : List (List ℕ)) (blocks : List Block) → length (fold with_block spaces blocks) ≡ length spaces + length blocks
length-spaces spaces [] = omega arith
length-spaces spaces (b ∷ blocks) =
    let rest = length-spaces (with_block spaces b) blocks in
    let pushed = length_push spaces (b.word ∷ get_or spaces b.outer []) in
    rest ∙ (omega arith)

pub length-spaces_of : (blocks : List Block) → length (spaces_of blocks) ≡ length blocks + 1
length-spaces_of blocks = let all = length-spaces ([] ∷ []) blocks in omega arith

pub space-global : (blocks : List Block) → get_or (spaces_of blocks) 0 [] ≡ []
space-global blocks = space-front ([] ∷ []) blocks 0 (omega arith)

-- what a block opens
record IsOpened (spaces : List (List ℕ)) (n : ℕ) (b : Block) : Type 0 where
  outer : b.outer < n
  is : get_or spaces n [] ≡ b.word ∷ get_or spaces b.outer []

space-at : (spaces : List (List ℕ)) (blocks : List Block) (count : ℕ) → length spaces ≡ count → AreInside count blocks → (i : ℕ) (b : Block) → slice_get blocks i ≡ Some b
    → IsOpened (fold with_block spaces blocks) (count + i) b
space-at spaces [] count long inside i b e = cc
space-at spaces (x ∷ blocks) count long inside zero b e =
    let same : x ≡ b = same_Some x b e in
    let space = x.word ∷ get_or spaces x.outer [] in
    let pushed = length_push spaces space in
    let low : x.outer < length spaces = (let l = inside.0 in omega arith) in
    let here : get_or (fold with_block (with_block spaces x) blocks) (count + 0) [] ≡ space =
    ap (λ n. get_or (fold with_block (with_block spaces x) blocks) n []) (omega arith) ∙ space-front (with_block spaces x) blocks count (omega arith) ∙ get_or_push spaces space [] count long in
    let around : get_or (fold with_block (with_block spaces x) blocks) x.outer [] ≡ get_or spaces x.outer [] =
    space-front (with_block spaces x) blocks x.outer (omega arith) ∙ get_or_append_left spaces (space ∷ []) [] x.outer low in
    subst (IsOpened (fold with_block (with_block spaces x) blocks) (count + 0)) same
    (record { outer = omega arith; is = here ∙ ap (λ n. x.word ∷ n) (sym around) })
space-at spaces (x ∷ blocks) count long inside (suc i) b e =
    let pushed = length_push spaces (x.word ∷ get_or spaces x.outer []) in
    let rest = space-at (with_block spaces x) blocks (count + 1) (omega arith) inside.1 i b e in
    subst (λ n. IsOpened (fold with_block spaces (x ∷ blocks)) n b) (omega arith) rest

-- a block's own namespace, and the one around
pub space-of-block : (blocks : List Block) → AreSpaces blocks → (i : ℕ) (b : Block) → slice_get blocks i ≡ Some b
    → (b.outer < i + 1) × (get_or (spaces_of blocks) (i + 1) [] ≡ b.word ∷ get_or (spaces_of blocks) b.outer [])
space-of-block blocks are i b e =
    let opened = space-at ([] ∷ []) blocks 1 refl are.inside i b e in
    let turned : 1 + i ≡ i + 1 = omega arith in
    ((let l = opened.outer in omega arith), subst (λ n. get_or (spaces_of blocks) n [] ≡ b.word ∷ get_or (spaces_of blocks) b.outer []) turned opened.is)

-- the block that opens the namespace of a number
pub outer-of : (spaces : List (List ℕ)) (blocks read : List Block) (n : ℕ) (d : Block) → AreSpaces blocks → spaces_of blocks ≡ spaces → read ≡ blocks → (n ≡ 0 → ⊥) → n < length spaces
    → ((get_or read (n - 1) d).outer < n) × (get_or spaces n [] ≡ (get_or read (n - 1) d).word ∷ get_or spaces (get_or read (n - 1) d).outer [])
outer-of spaces blocks read n d are seen same some within =
    let long = length-spaces_of blocks in
    let all = ap length seen in
    let next : n - 1 + 1 ≡ n = omega arith in
    let b = get_or blocks (n - 1) d in
    let opened = space-of-block blocks are (n - 1) b (slice_get-get_or blocks (n - 1) d (omega arith)) in
    subst (λ bs. ((get_or bs (n - 1) d).outer < n) × (get_or spaces n [] ≡ (get_or bs (n - 1) d).word ∷ get_or spaces (get_or bs (n - 1) d).outer [])) (sym same) (
      subst (λ m. b.outer < m) next opened.0,
      subst (λ s. get_or s n [] ≡ b.word ∷ get_or s b.outer []) seen (subst (λ m. get_or (spaces_of blocks) m [] ≡ b.word ∷ get_or (spaces_of blocks) b.outer []) next opened.1),
    )

-- what the derived == of blocks computes
pub derived-eq : (a b : Block) → (block_eq.eq-value).it a b ≡ (nat_eq a.outer b.outer && nat_eq a.word b.word)
derived-eq a b = refl

pub block_eq-true : (a b : Block) → (block_eq.eq-value).it a b ≡ true → (a.outer ≡ b.outer) × (a.word ≡ b.word)
block_eq-true a b e =
    let both = sym (derived-eq a b) ∙ e in
    ((unsigned_Decides a.outer b.outer).0 (first_true (nat_eq a.outer b.outer) (nat_eq a.word b.word) both), (unsigned_Decides a.word b.word).0 (second_true (nat_eq a.outer b.outer) (nat_eq a.word b.word) both))

pub block_eq-same : (a b : Block) → a.outer ≡ b.outer → a.word ≡ b.word → (block_eq.eq-value).it a b ≡ true
block_eq-same a b outer word = derived-eq a b ∙ both_true ((unsigned_Decides a.outer b.outer).1 outer) ((unsigned_Decides a.word b.word).1 word)

-- a namespace that is there was opened by such a block
pub block-known : (blocks : List Block) → AreSpaces blocks → (b : Block) → b.outer < length (spaces_of blocks)
    → Contains (spaces_of blocks) (b.word ∷ get_or (spaces_of blocks) b.outer []) → list_any ((block_eq.eq-value).it b) blocks ≡ true
block-known blocks are b low (zero, within, is) = absurd (let e = sym (space-global blocks) ∙ get_or_default (spaces_of blocks) 0 [] _ within ∙ is in cc)
block-known blocks are b low (suc i, within, is) =
    let long = length-spaces_of blocks in
    let here : i < length blocks = omega arith in
    let x = get_or blocks i b in
    let opened = space-of-block blocks are i x (slice_get-get_or blocks i b here) in
    let next : i + 1 ≡ suc i = omega arith in
    let same : x.word ∷ get_or (spaces_of blocks) x.outer [] ≡ b.word ∷ get_or (spaces_of blocks) b.outer [] =
    sym opened.1 ∙ ap (λ n. get_or (spaces_of blocks) n []) next ∙ get_or_default (spaces_of blocks) (suc i) [] _ within ∙ is in
    let name : b.word ≡ x.word = cc in
    let around : get_or (spaces_of blocks) b.outer [] ≡ get_or (spaces_of blocks) x.outer [] = cc in
    let low_x : x.outer < length (spaces_of blocks) = (let l = opened.0 in omega arith) in
    list_any_at ((block_eq.eq-value).it b) blocks i b here (block_eq-same b x (distinct-place (spaces_of blocks) b.outer x.outer are.distinct low low_x around) name)

-- the namespace of the block that a look-up finds
pub block-found : (spaces : List (List ℕ)) (blocks : List Block) (b : Block) (i : ℕ) → AreSpaces blocks → spaces_of blocks ≡ spaces → position ((block_eq.eq-value).it b) blocks ≡ Some i
    → (i + 1 < length spaces) × (get_or spaces (i + 1) [] ≡ b.word ∷ get_or spaces b.outer [])
block-found spaces blocks b i are seen found =
    let at = position-Some ((block_eq.eq-value).it b) blocks i b found in
    let x = get_or blocks i b in
    let opened = space-of-block blocks are i x (slice_get-get_or blocks i b at.0) in
    let same = block_eq-true b x at.1 in
    let long = length-spaces_of blocks in
    subst (λ s. (i + 1 < length s) × (get_or s (i + 1) [] ≡ b.word ∷ get_or s b.outer [])) seen
    (omega arith, opened.1 ∙ (λ j. sym same.1 j ∷ get_or (spaces_of blocks) (sym same.0 j) []))

-- what no look-up finds is no namespace
pub block-absent : (spaces : List (List ℕ)) (blocks : List Block) (b : Block) → AreSpaces blocks → spaces_of blocks ≡ spaces → b.outer < length spaces
    → list_any ((block_eq.eq-value).it b) blocks ≡ false → Contains spaces (b.word ∷ get_or spaces b.outer []) → ⊥
block-absent spaces blocks b are seen low absent there =
    let low_here = subst (λ s. b.outer < length s) (sym seen) low in
    let there_here = subst (λ s. Contains s (b.word ∷ get_or s b.outer [])) (sym seen) there in
    true≢false (sym (block-known blocks are b low_here there_here) ∙ absent)

-- one more block
pub spaces_of-push : (blocks : List Block) (b : Block) → spaces_of (blocks ++ b ∷ []) ≡ with_block (spaces_of blocks) b
spaces_of-push blocks b = fold-append with_block ([] ∷ []) blocks (b ∷ [])

inside-push : (count : ℕ) (blocks : List Block) (b : Block) → AreInside count blocks → b.outer < count + length blocks → AreInside count (blocks ++ b ∷ [])
inside-push count [] b inside low = (omega arith, tt)
inside-push count (x ∷ blocks) b inside low = (inside.0, inside-push (count + 1) blocks b inside.1 (omega arith))

-- a new block of a namespace that is there opens a new one
pub spaces-push : (blocks : List Block) (b : Block) → AreSpaces blocks → b.outer < length (spaces_of blocks) → length blocks + 2 < 2 ^ 32 → list_any ((block_eq.eq-value).it b) blocks ≡ false → AreSpaces (blocks ++ b ∷ [])
spaces-push blocks b are low room absent =
    let long = length-spaces_of blocks in
    let pushed = length_push blocks b in
    record {
      inside = inside-push 1 blocks b are.inside (omega arith);
      distinct = subst (IsDistinct bytes_eq) (sym (spaces_of-push blocks b)) (IsDistinct-push nat_list_eq_equiv (spaces_of blocks) space are.distinct (new (list_any (bytes_eq space) (spaces_of blocks)) refl));
      few = omega arith;
    }
  where
    space : List ℕ
    space = b.word ∷ get_or (spaces_of blocks) b.outer []

    there : list_any (bytes_eq space) (spaces_of blocks) ≡ true → Contains (spaces_of blocks) space
    there any =
        let found = Any-from_list_any (bytes_eq space) (spaces_of blocks) any in
        (found.0, found.2, get_or_default (spaces_of blocks) found.0 space found.1 found.2 ∙ found.3 ∙ sym (bytes_eq-true space found.1 found.4))

    new : (r : Bool) → list_any (bytes_eq space) (spaces_of blocks) ≡ r → list_any (bytes_eq space) (spaces_of blocks) ≡ false
    new true e = absurd (true≢false (sym (block-known blocks are b low (there e)) ∙ absent))
    new false e = e

-- what a block that is put among others brings to the namespaces
pub record IsPut (old : List (List ℕ)) (new : List Block) (b : Block) (i : ℕ) : Type 0 where
  pub are : AreSpaces new
  pub within : i + 1 < length (spaces_of new)
  pub opened : get_or (spaces_of new) (i + 1) [] ≡ b.word ∷ get_or old b.outer []
  pub kept : (more : List (List ℕ)) × (spaces_of new ≡ old ++ more)
  pub exact : (space : List ℕ) → Contains (spaces_of new) space → Contains old space ⊎ (space ≡ b.word ∷ get_or old b.outer [])

pub put-block : (old : List (List ℕ)) (blocks new : List Block) (b : Block) (i : ℕ) → AreSpaces blocks → spaces_of blocks ≡ old → b.outer < length old → length blocks + 2 < 2 ^ 32
    → new ≡ insert_key (block_eq.eq-value).it blocks b → (x : Block) × (slice_get new i ≡ Some x) × ((block_eq.eq-value).it b x ≡ true) → IsPut old new b i
put-block old blocks new b i are seen low room keys stored = by (list_any ((block_eq.eq-value).it b) blocks) refl
  where
    space : List ℕ
    space = b.word ∷ get_or old b.outer []

    put : AreSpaces new → (more : List (List ℕ)) × (spaces_of new ≡ old ++ more)
        → ((n : List ℕ) → Contains (spaces_of new) n → Contains old n ⊎ (n ≡ space)) → IsPut old new b i
    put now kept exact =
        let long = length-spaces_of new in
        let here = slice_get_within new i stored.0 stored.1 in
        let opened = space-of-block new now i stored.0 stored.1 in
        let same = block_eq-true b stored.0 stored.2 in
        let around : get_or (spaces_of new) stored.0.outer [] ≡ get_or old b.outer [] =
        ap (λ n. get_or (spaces_of new) n []) (sym same.0) ∙ ap (λ s. get_or s b.outer []) kept.1 ∙ get_or_append_left old kept.0 [] b.outer low in
        record { are = now; within = omega arith; opened = opened.1 ∙ (λ j. sym same.1 j ∷ around j); kept = kept; exact = exact }

    by : (r : Bool) → list_any ((block_eq.eq-value).it b) blocks ≡ r → IsPut old new b i
    by true e =
        let same : new ≡ blocks = keys ∙ ap (λ r. if r then blocks else blocks ++ b ∷ []) e in
        let all : spaces_of new ≡ old = ap spaces_of same ∙ seen in
        put (subst AreSpaces (sym same) are) ([], all ∙ sym (append-nil old)) (λ n h. inl (subst (λ s. Contains s n) all h))
    by false e =
        let pushed : new ≡ blocks ++ b ∷ [] = keys ∙ ap (λ r. if r then blocks else blocks ++ b ∷ []) e in
        let all : spaces_of new ≡ old ++ space ∷ [] = ap spaces_of pushed ∙ spaces_of-push blocks b ∙ ap (λ s. with_block s b) seen in
        put (subst AreSpaces (sym pushed) (spaces-push blocks b are (subst (λ s. b.outer < length s) (sym seen) low) room e)) (space ∷ [], all)
        (λ n h. added n (Contains-push_cases old space n (subst (λ s. Contains s n) all h)))
      where
        added : (n : List ℕ) → Contains old n ⊎ (space ≡ n) → Contains old n ⊎ (n ≡ space)
        added n (inl h) = inl h
        added n (inr e) = inr (sym e)

pub no-blocks : AreSpaces []
unfolding IsDistinct
no-blocks = record { inside = tt; distinct = (tt, tt); few = omega arith }

-- what a block of a word opens
pub opens-some : (old new : List (List ℕ)) (namespace word n : ℕ) → n < length new → get_or new n [] ≡ word ∷ get_or old namespace [] → (more : List (List ℕ)) × (new ≡ old ++ more)
    → ((space : List ℕ) → Contains new space → Contains old space ⊎ (space ≡ word ∷ get_or old namespace [])) → (IsDistinct bytes_eq old → IsDistinct bytes_eq new) → Opens old new namespace (Some word) n
opens-some old new namespace word n within opened kept exact distinct = record {
  kept = kept;
  distinct = distinct;
  opened = λ w e. (within, opened ∙ ap (λ v. v ∷ get_or old namespace []) (same_Some word w e));
  exact = λ space there. by space (exact space there);
}
  where
    by : (space : List ℕ) → Contains old space ⊎ (space ≡ word ∷ get_or old namespace []) → Contains old space ⊎ ((w : ℕ) × (Some word ≡ Some w) × (space ≡ w ∷ get_or old namespace []))
    by space (inl there) = inl there
    by space (inr is) = inr (word, refl, is)
