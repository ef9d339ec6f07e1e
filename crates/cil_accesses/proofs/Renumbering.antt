-- Accesses whose numbers change.
use Rattle.cil_accesses.proofs.Common.{◌≡◌, ◌↔◌, ◌⊎◌, inl, inr, ℕ, suc, ◌<◌, ◌+◌, ◌*◌, ◌/◌, ◌%◌, ◌^◌, Bool, true, false, cond, List, [], ◌∷◌, ◌++◌, get_or, set, length, take, drop, Any, bit_or, refl, sym, ap, ◌∙◌, subst, arith, Contains, w64, bit_at, IsStrictlyIncreasing, IsStrictlySortedBy, nat_cmp, Equal, cases_eq, set_split, set-get_or, Contains-append_left, Contains-append_right, Contains-append_cases, bit_at_set_same, bit_at_set_other, bit_at-zero, equal-is, contains-cases, contains-first, AccessNumbers, Chunk, chunk_cmp, IsAccessOf, IsGiven, with_bits, of_one_key, taking_up, IsRenumbered, IsRenumberedAt, renumbered, has_bit, access_at}
use Rattle.std.specs.Bool.{MatchBool}
use Rattle.std.proofs.lemmas.Map.Keys.{sorted_from_strictly_increasing}
use Rattle.cil_accesses.proofs.Lists.{contains-none}
use Rattle.cil_accesses.proofs.Merging.{one-of-both, both-first, both-second}

-- ---- a fact of some element of two lists

module _ {X : Type 0} (P : X → Type 0) where
  pub any-left : (xs ys : List X) → Any P xs → Any P (xs ++ ys)
  any-left xs ys (k, x, within, is, fact) = let (j, inside, there) = Contains-append_left xs ys x (k, within, is) in (j, x, inside, there, fact)

  pub any-right : (xs ys : List X) → Any P ys → Any P (xs ++ ys)
  any-right xs ys (k, x, within, is, fact) = let (j, inside, there) = Contains-append_right xs ys x (k, within, is) in (j, x, inside, there, fact)

  pub any-cases : (xs ys : List X) → Any P (xs ++ ys) → Any P xs ⊎ Any P ys
  any-cases xs ys (k, x, within, is, fact) =
      elim (Contains-append_cases xs ys x (k, within, is)) [
        | inl left ↦ inl (left.0, x, left.1, left.2, fact)
        | inr right ↦ inr (right.0, x, right.1, right.2, fact)
      ]

  pub any-one : (x : X) → P x → Any P (x ∷ [])
  any-one x fact = let (k, within, is) = contains-first x [] in (k, x, within, is, fact)

  pub one-any : (x : X) → Any P (x ∷ []) → P x
  one-any x (k, y, within, is, fact) =
      elim (contains-cases x [] y (k, within, is)) [ inl same ↦ subst P (sym same) fact | inr none ↦ absurd (contains-none y none) ]

  -- one element more
  pub any-push : (xs : List X) (x : X) → Any P xs ⊎ P x → Any P (xs ++ x ∷ [])
  any-push xs x (inl before) = any-left xs (x ∷ []) before
  any-push xs x (inr last) = any-right xs (x ∷ []) (any-one x last)

  pub any-pushed : (xs : List X) (x : X) → Any P (xs ++ x ∷ []) → Any P xs ⊎ P x
  any-pushed xs x h = elim (any-cases xs (x ∷ []) h) [ inl before ↦ inl before | inr last ↦ inr (one-any x last) ]

-- an element in the place of another
any-changed : {X : Type 0} (P Q : X → Type 0) (R : Type 0) (xs ys : List X) (x y : X) → ((z : X) → P z → Q z) → (P x → Q y ⊎ R) → Any P (xs ++ x ∷ ys) → Any Q (xs ++ y ∷ ys) ⊎ R
any-changed P Q R xs ys x y same at h =
    elim (any-cases P xs (x ∷ ys) h) [
      | inl left ↦ inl (any-left Q xs (y ∷ ys) (left.0, left.1, left.2, left.3, same left.1 left.4))
      | inr right ↦ elim (any-cases P (x ∷ []) ys right) [
        | inl here ↦ elim (at (one-any P x here)) [
          | inl there ↦ inl (any-right Q xs (y ∷ ys) (any-left Q (y ∷ []) ys (any-one Q y there)))
          | inr other ↦ inr other
        ]
        | inr later ↦ inl (any-right Q xs (y ∷ ys) (any-right Q (y ∷ []) ys (later.0, later.1, later.2, later.3, same later.1 later.4)))
      ]
    ]

-- ---- a chunk that takes up another

module _ (chunks : List Chunk) (i : ℕ) (d chunk : Chunk) (within : i < length chunks) where
  abbrev last : Chunk
  last = get_or chunks i d

  abbrev both : Chunk
  both = with_bits last (bit_or last.bits chunk.bits)

  parts : chunks ≡ take i chunks ++ last ∷ drop (suc i) chunks
  parts = sym (set-get_or chunks i d) ∙ set_split chunks i last within

  parts-set : set chunks i both ≡ take i chunks ++ both ∷ drop (suc i) chunks
  parts-set = set_split chunks i both within

  added : chunk_cmp last chunk ≡ Equal → (a : AccessNumbers) → IsGiven (set chunks i both) a ↔ (IsGiven chunks a ⊎ IsAccessOf chunk a)
  added same a = (
    λ h. subst (λ l. IsGiven l a ⊎ IsAccessOf chunk a) (sym parts)
        (any-changed (λ c. IsAccessOf c a) (λ c. IsAccessOf c a) (IsAccessOf chunk a) (take i chunks) (drop (suc i) chunks) both last (λ c of. of) (one-of-both last chunk a same) (subst (λ l. IsGiven l a) parts-set h)),
    λ h. subst (λ l. IsGiven l a) (sym parts-set) (elim h [
      | inl given ↦ old (subst (λ l. IsGiven l a) parts given)
      | inr of ↦ any-right (λ c. IsAccessOf c a) (take i chunks) (both ∷ drop (suc i) chunks) (any-left (λ c. IsAccessOf c a) (both ∷ []) (drop (suc i) chunks) (any-one (λ c. IsAccessOf c a) both (both-second last chunk a same of)))
    ]),
  )
    where
      old : IsGiven (take i chunks ++ last ∷ drop (suc i) chunks) a → IsGiven (take i chunks ++ both ∷ drop (suc i) chunks) a
      old given =
          elim (any-changed (λ c. IsAccessOf c a) (λ c. IsAccessOf c a) ⊥ (take i chunks) (drop (suc i) chunks) last both (λ c of. of) (λ of. inl (both-first last chunk a of)) given) [
            | inl given ↦ given
            | inr none ↦ absurd none
          ]

  pub taken-up : (b : Bool) (left : Chunk) → b ≡ of_one_key last chunk → left ≡ taking_up last chunk
      → MatchBool b ((a : AccessNumbers) → IsGiven (set chunks i left) a ↔ (IsGiven chunks a ⊎ IsAccessOf chunk a)) (set chunks i left ≡ chunks)
  taken-up true left said is =
      let taken : left ≡ both = is ∙ ap (λ k. cond k both last) (sym said) in
      λ a. subst (λ c. IsGiven (set chunks i c) a ↔ (IsGiven chunks a ⊎ IsAccessOf chunk a)) (sym taken) (added (equal-is (chunk_cmp last chunk) (sym said)) a)
  taken-up false left said is = ap (set chunks i) (is ∙ ap (λ k. cond k both last) (sym said)) ∙ set-get_or chunks i d

-- ---- the chunk of one access

one-bit : (k j : ℕ) → k < 64 → bit_at (1 * 2 ^ k % 2 ^ 64) j ≡ 1 → j ≡ k
one-bit k j within set = by (cases_eq j k)
  where
    by : (j ≡ k) ⊎ (j ≡ k → ⊥) → j ≡ k
    by (inl same) = same
    by (inr other) = let unset = bit_at_set_other w64 0 k within j other in let zero = bit_at-zero j in absurd (omega (arith, set, unset, zero))

abbrev chunk-of : AccessNumbers → Chunk
chunk-of a = record { kind = a.kind; source = a.source; word = a.target / 64; class = a.class; permission = a.permission; bits = 1 * 2 ^ (a.target % 64) % 2 ^ 64 }

pub one-access : (access a : AccessNumbers) → IsAccessOf (chunk-of access) a ↔ (a ≡ access)
one-access access a = (to, λ e. subst (IsAccessOf (chunk-of access)) (sym e) own)
  where
    to : IsAccessOf (chunk-of access) a → a ≡ access
    to of =
        let word = of.word in
        let bit = one-bit (access.target % 64) (a.target % 64) (omega arith) of.bit in
        let target : a.target ≡ access.target = omega (arith, word, bit) in
        λ i. record { kind = of.kind i; source = of.source i; target = target i; class = of.the_class i; permission = of.permission i }

    own : IsAccessOf (chunk-of access) access
    own = record { kind = refl; source = refl; word = refl; the_class = refl; permission = refl; bit = bit_at_set_same w64 0 (access.target % 64) (omega arith) }

-- ---- the bits of a chunk in turn

module _ (numbers : List ℕ) (c : Chunk) where
  sooner : (n : ℕ) (a : AccessNumbers) → IsRenumbered numbers c n a → IsRenumbered numbers c (n + 1) a
  sooner n a r = let within = r.within in record { bit = r.bit; within = omega (arith, within); at = r.at }

  -- the last bit, or one before it
  at-last : (n : ℕ) (a : AccessNumbers) → IsRenumbered numbers c (n + 1) a → IsRenumbered numbers c n a ⊎ IsRenumberedAt numbers c n a
  at-last n a r =
      let within = r.within in
      elim (cases_eq r.bit n) [
        | inl same ↦ inr (subst (λ k. IsRenumberedAt numbers c k a) same r.at)
        | inr other ↦ inl (record { bit = r.bit; within = omega (arith, within, other); at = r.at })
      ]

  pub bit-added : (n : ℕ) (old mid new : List Chunk) → ((a : AccessNumbers) → IsGiven mid a ↔ (IsGiven old a ⊎ IsRenumbered numbers c n a)) → ((a : AccessNumbers) → IsGiven new a ↔ (IsGiven mid a ⊎ IsRenumberedAt numbers c n a))
      → (a : AccessNumbers) → IsGiven new a ↔ (IsGiven old a ⊎ IsRenumbered numbers c (n + 1) a)
  bit-added n old mid new so_far more a = (
    λ h. elim ((more a).0 h) [
      | inl before ↦ elim ((so_far a).0 before) [ inl given ↦ inl given | inr r ↦ inr (sooner n a r) ]
      | inr here ↦ inr (record { bit = n; within = omega arith; at = here })
    ],
    λ h. (more a).1 (elim h [
      | inl given ↦ inl ((so_far a).1 (inl given))
      | inr r ↦ elim (at-last n a r) [ inl before ↦ inl ((so_far a).1 (inr before)) | inr here ↦ inr here ]
    ]),
  )

  -- a bit that is set
  pub bit-set : (n : ℕ) (old new : List Chunk) (access : AccessNumbers) → has_bit n c ≡ true → access ≡ renumbered numbers (access_at n c) → ((a : AccessNumbers) → IsGiven new a ↔ (IsGiven old a ⊎ (a ≡ access)))
      → (a : AccessNumbers) → IsGiven new a ↔ (IsGiven old a ⊎ IsRenumberedAt numbers c n a)
  bit-set n old new access set is more a = (
    λ h. elim ((more a).0 h) [ inl before ↦ inl before | inr here ↦ inr (record { set = set; is = here ∙ is }) ],
    λ h. (more a).1 (elim h [ inl before ↦ inl before | inr here ↦ inr (here.is ∙ sym is) ]),
  )

-- ---- an access more

pub access-put : (old new : List Chunk) (chunk : Chunk) (access : AccessNumbers) → ((a : AccessNumbers) → IsAccessOf chunk a ↔ (a ≡ access)) → ((a : AccessNumbers) → IsGiven new a ↔ (IsGiven old a ⊎ IsAccessOf chunk a))
    → (a : AccessNumbers) → IsGiven new a ↔ (IsGiven old a ⊎ (a ≡ access))
access-put old new chunk access one more a = (
  λ h. elim ((more a).0 h) [ inl before ↦ inl before | inr here ↦ inr ((one a).0 here) ],
  λ h. (more a).1 (elim h [ inl before ↦ inl before | inr here ↦ inr ((one a).1 here) ]),
)

pub chunk-put : (old mid new : List Chunk) (chunk : Chunk) → mid ≡ old → new ≡ mid ++ chunk ∷ [] → (a : AccessNumbers) → IsGiven new a ↔ (IsGiven old a ⊎ IsAccessOf chunk a)
chunk-put old mid new chunk same is a =
    let whole : new ≡ old ++ chunk ∷ [] = is ∙ ap (λ l. l ++ chunk ∷ []) same in (
      λ h. any-pushed (λ c. IsAccessOf c a) old chunk (subst (λ l. IsGiven l a) whole h),
      λ h. subst (λ l. IsGiven l a) (sym whole) (any-push (λ c. IsAccessOf c a) old chunk h),
    )

-- ---- the chunks in turn

-- ---- numbers that rise keep the order

module _ (numbers : List ℕ) (rising : IsStrictlyIncreasing numbers) where
  ordered : IsStrictlySortedBy nat_cmp numbers
  ordered = sorted_from_strictly_increasing numbers rising
