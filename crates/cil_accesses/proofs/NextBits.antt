-- The bits of a chunk that are set, one after the other.
use Rattle.cil_accesses.proofs.Common.{◌≡◌, ◌↔◌, ◌⊎◌, inl, inr, ℕ, ◌<◌, ◌≤◌, ◌+◌, ◌-◌, ◌*◌, ◌/◌, ◌%◌, ◌^◌, ◌==◌, true, false, List, [], ◌∷◌, ◌++◌, bit_or, get_or, w64, refl, sym, ap, ◌∙◌, subst, arith, eq-eqb, div-le_self, bit_at, trailing_zeros, All, Equal, cases_eq, cases_lt, tied_itself, shr-shr, bit_at-zero, bit_at_above, bit_at-trailing_zeros, AccessNumbers, Chunk, chunk_cmp, IsAccessOf, IsGiven, with_bits, IsRenumbered, IsRenumberedAt, MovesUp, renumbered, access_at, has_bit, IsNextBit, NoBitFrom}
use Rattle.std.proofs.Common.{true≢false}
use Rattle.cil_accesses.proofs.Merging.{both-first, both-second, one-of-both}
use Rattle.cil_accesses.proofs.Order.{chunk_total, same-chunk_cmp, HaveOneKey}
use Rattle.cil_accesses.proofs.Renumbering.{access-put, any-left, any-push, any-pushed, bit-added, bit-set, chunk-put, one-access}

-- ---- the next bit

module _ (c : Chunk) (from : ℕ) where
  shifted : (b : ℕ) → from ≤ b → bit_at c.bits b ≡ bit_at (c.bits / 2 ^ from) (b - from)
  shifted b above =
      let place : b ≡ from + (b - from) = omega (arith, above) in
      ap (bit_at c.bits) place ∙ sym (ap (λ k. k % 2) (shr-shr c.bits from (b - from)))

  unset : (b : ℕ) → from ≤ b → bit_at (c.bits / 2 ^ from) (b - from) ≡ 0 → has_bit b c ≡ false
  unset b above none = ap (λ n. n == 1) (shifted b above ∙ none)

  pub no-next : c.bits / 2 ^ from ≡ 0 → NoBitFrom c from
  no-next none b above small = unset b above (ap (λ n. bit_at n (b - from)) none ∙ bit_at-zero (b - from))

  pub next-is : c.bits < 2 ^ 64 → 0 < c.bits / 2 ^ from → IsNextBit c from (from + trailing_zeros w64 (c.bits / 2 ^ from))
  next-is fits some =
      let small : c.bits / 2 ^ from < 2 ^ 64 = (let less = div-le_self c.bits (2 ^ from) in omega (arith, less, fits)) in
      let lowest = bit_at-trailing_zeros w64 (c.bits / 2 ^ from) some small in
      let z = trailing_zeros w64 (c.bits / 2 ^ from) in
      let set = is-set z lowest.1 in
      record {
        from_on = omega arith;
        within = inside (from + z) set (cases_lt (from + z) 64);
        set = eq-eqb (bit_at c.bits (from + z)) 1 set;
        first = λ b above below. unset b above (lowest.2 (b - from) (omega (arith, above, below)));
      }
    where
      is-set : (z : ℕ) → bit_at (c.bits / 2 ^ from) z ≡ 1 → bit_at c.bits (from + z) ≡ 1
      is-set z set = sym (ap (λ k. k % 2) (shr-shr c.bits from z)) ∙ set

      inside : (b : ℕ) → bit_at c.bits b ≡ 1 → (b < 64) ⊎ (64 ≤ b) → b < 64
      inside b set (inl below) = below
      inside b set (inr above) = let clear = bit_at_above c.bits 64 b fits above in absurd (omega (arith, set, clear))

-- ---- the accesses to the targets of the bits so far

module _ (numbers : List ℕ) (c : Chunk) where
  -- bits that are not set are passed over
  bits-passed : (m n : ℕ) (old mid : List Chunk) → m ≤ n → ((b : ℕ) → m ≤ b → b < n → has_bit b c ≡ false) → ((a : AccessNumbers) → IsGiven mid a ↔ (IsGiven old a ⊎ IsRenumbered numbers c m a))
      → (a : AccessNumbers) → IsGiven mid a ↔ (IsGiven old a ⊎ IsRenumbered numbers c n a)
  bits-passed m n old mid order none so_far a = (
    λ h. elim ((so_far a).0 h) [
      | inl given ↦ inl given
      | inr r ↦ inr (let within = r.within in record { bit = r.bit; within = omega (arith, within, order); at = r.at })
    ],
    λ h. (so_far a).1 (elim h [ inl given ↦ inl given | inr r ↦ inr (record { bit = r.bit; within = sooner r (cases_lt r.bit m); at = r.at }) ]),
  )
    where
      sooner : (r : IsRenumbered numbers c n a) → (r.bit < m) ⊎ (m ≤ r.bit) → r.bit < m
      sooner r (inl below) = below
      sooner r (inr above) = absurd (true≢false (sym r.at.set ∙ none r.bit above r.within))

  none-added : (old : List Chunk) (a : AccessNumbers) → IsGiven old a ↔ (IsGiven old a ⊎ IsRenumbered numbers c 0 a)
  none-added old a = (λ given. inl given, λ h. elim h [ inl given ↦ given | inr r ↦ let within = r.within in absurd (omega (arith, within)) ])

  next-added : (from bit : ℕ) (old mid new : List Chunk) → IsNextBit c from bit → ((a : AccessNumbers) → IsGiven mid a ↔ (IsGiven old a ⊎ IsRenumbered numbers c from a))
      → ((a : AccessNumbers) → IsGiven new a ↔ (IsGiven mid a ⊎ IsRenumberedAt numbers c bit a)) → (a : AccessNumbers) → IsGiven new a ↔ (IsGiven old a ⊎ IsRenumbered numbers c (bit + 1) a)
  next-added from bit old mid new next so_far more = bit-added numbers c bit old mid new (bits-passed from bit old mid next.from_on next.first so_far) more

-- ---- bits whose targets come to one word in turn

-- a chunk is of the kind, source, class and permission of another, by numbers
pub record IsByNumbers (numbers : List ℕ) (c d : Chunk) : Type 0 where
  pub kind : d.kind ≡ c.kind
  pub source : d.source ≡ get_or numbers c.source 0
  pub the_class : d.class ≡ get_or numbers c.class 0
  pub permission : d.permission ≡ get_or numbers c.permission 0

-- the chunk of one target, of the kind, source, class and permission of a chunk
abbrev pub to_target : Chunk → ℕ → Chunk
to_target d target = record { kind = d.kind; source = d.source; word = target / 64; class = d.class; permission = d.permission; bits = 1 * 2 ^ (target % 64) % 2 ^ 64 }

-- an held chunk behind others takes up another
taken : (made : List Chunk) (held next : Chunk) → chunk_cmp held next ≡ Equal → (a : AccessNumbers) → IsGiven (made ++ with_bits held (bit_or held.bits next.bits) ∷ []) a ↔ (IsGiven (made ++ held ∷ []) a ⊎ IsAccessOf next a)
taken made held next same a = (to, back)
  where
    both : Chunk
    both = with_bits held (bit_or held.bits next.bits)

    to : IsGiven (made ++ both ∷ []) a → IsGiven (made ++ held ∷ []) a ⊎ IsAccessOf next a
    to h =
        elim (any-pushed (λ c. IsAccessOf c a) made both h) [
          | inl before ↦ inl (any-left (λ c. IsAccessOf c a) made (held ∷ []) before)
          | inr of ↦ elim (one-of-both held next a same of) [ inl first ↦ inl (any-push (λ c. IsAccessOf c a) made held (inr first)) | inr second ↦ inr second ]
        ]

    back : IsGiven (made ++ held ∷ []) a ⊎ IsAccessOf next a → IsGiven (made ++ both ∷ []) a
    back (inl given) =
        elim (any-pushed (λ c. IsAccessOf c a) made held given) [
          | inl before ↦ any-left (λ c. IsAccessOf c a) made (both ∷ []) before
          | inr of ↦ any-push (λ c. IsAccessOf c a) made both (inr (both-first held next a of))
        ]
    back (inr of) = any-push (λ c. IsAccessOf c a) made both (inr (both-second held next a same of))

-- an held chunk is added, and another is held
closed : (made new : List Chunk) (held next : Chunk) → ((a : AccessNumbers) → IsGiven new a ↔ (IsGiven made a ⊎ IsAccessOf held a)) → (a : AccessNumbers) → IsGiven (new ++ next ∷ []) a ↔ (IsGiven (made ++ held ∷ []) a ⊎ IsAccessOf next a)
closed made new held next more a = (
  λ h. elim (any-pushed (λ c. IsAccessOf c a) new next h) [
    | inl before ↦ inl (any-push (λ c. IsAccessOf c a) made held ((more a).0 before))
    | inr of ↦ inr of
  ],
  λ h. any-push (λ c. IsAccessOf c a) new next (elim h [
    | inl given ↦ inl ((more a).1 (any-pushed (λ c. IsAccessOf c a) made held given))
    | inr of ↦ inr of
  ]),
)

module _ (numbers : List ℕ) (c : Chunk) where
  abbrev number : ℕ → ℕ
  number bit = get_or numbers (64 * c.word + bit) 0

  abbrev access : ℕ → AccessNumbers
  access bit = renumbered numbers (access_at bit c)

  -- the target of one bit
  one-target : (held : Chunk) → IsByNumbers numbers c held → (bit : ℕ) (a : AccessNumbers) → IsAccessOf (to_target held (number bit)) a ↔ (a ≡ access bit)
  one-target held key bit a = subst (λ k. IsAccessOf k a ↔ (a ≡ access bit)) same (one-access (access bit) a)
    where
      same : record { kind = c.kind; source = get_or numbers c.source 0; word = number bit / 64; class = get_or numbers c.class 0; permission = get_or numbers c.permission 0; bits = 1 * 2 ^ (number bit % 64) % 2 ^ 64 } ≡ to_target held (number bit)
      same i = record { kind = sym key.kind i; source = sym key.source i; word = number bit / 64; class = sym key.the_class i; permission = sym key.permission i; bits = 1 * 2 ^ (number bit % 64) % 2 ^ 64 }

  -- with the held chunk behind those that are added, the accesses to the targets of the bits below one
  pub record IsHeld (old : List Chunk) (n : ℕ) (made : List Chunk) (held : Chunk) : Type 0 where
    pub within : n ≤ 64
    pub word : held.word < 2 ^ 26
    pub words : All (λ k. k.word < 2 ^ 26) made
    pub key : IsByNumbers numbers c held
    pub same : (a : AccessNumbers) → IsGiven (made ++ held ∷ []) a ↔ (IsGiven old a ⊎ IsRenumbered numbers c n a)

  -- the first bit
  pub first-held : (old : List Chunk) (held : Chunk) (bit : ℕ) → held.word < 2 ^ 26 → All (λ k. k.word < 2 ^ 26) old → ((a : AccessNumbers) → IsAccessOf held a ↔ (a ≡ access bit)) → IsNextBit c 0 bit → IsHeld old (bit + 1) old held
  first-held old held bit word words one next = record {
    within = let within = next.within in omega (arith, within);
    word = word;
    words = words;
    key = let of = (one (access bit)).1 refl in record { kind = sym of.kind; source = sym of.source; the_class = sym of.the_class; permission = sym of.permission };
    same = next-added numbers c 0 bit old old (old ++ held ∷ []) next (none-added numbers c old)
        (bit-set numbers c bit old (old ++ held ∷ []) (access bit) next.set refl (access-put old (old ++ held ∷ []) held (access bit) one (chunk-put old old (old ++ held ∷ []) held refl refl)));
  }

  module _ (old made : List Chunk) (held : Chunk) (from bit : ℕ) (at : IsHeld old from made held) (next : IsNextBit c from bit) where
    one-more : (new : List Chunk) → ((a : AccessNumbers) → IsGiven new a ↔ (IsGiven (made ++ held ∷ []) a ⊎ IsAccessOf (to_target held (number bit)) a)) → (a : AccessNumbers) → IsGiven new a ↔ (IsGiven old a ⊎ IsRenumbered numbers c (bit + 1) a)
    one-more new more =
        next-added numbers c from bit old (made ++ held ∷ []) new next at.same
        (bit-set numbers c bit (made ++ held ∷ []) new (access bit) next.set refl (access-put (made ++ held ∷ []) new (to_target held (number bit)) (access bit) (one-target held at.key bit) more))

    -- a target in the word of the held chunk
    pub same-word : number bit / 64 ≡ held.word → IsHeld old (bit + 1) made (with_bits held (bit_or held.bits (1 * 2 ^ (number bit % 64) % 2 ^ 64)))
    same-word word = record {
      within = let within = next.within in omega (arith, within);
      word = at.word;
      words = at.words;
      key = record { kind = at.key.kind; source = at.key.source; the_class = at.key.the_class; permission = at.key.permission };
      same = one-more _ (taken made held (to_target held (number bit)) equal);
    }
      where
        key : HaveOneKey held (to_target held (number bit))
        key = record { run = record { kind = refl; source = refl; word = sym word }; the_class = refl; permission = refl }

        equal : chunk_cmp held (to_target held (number bit)) ≡ Equal
        equal = same-chunk_cmp held (to_target held (number bit)) key (to_target held (number bit)) ∙ tied_itself chunk_total (to_target held (number bit))

    -- and in another
    pub other-word : (new : List Chunk) → number bit < 2 ^ 32 → All (λ k. k.word < 2 ^ 26) new → ((a : AccessNumbers) → IsGiven new a ↔ (IsGiven made a ⊎ IsAccessOf held a)) → IsHeld old (bit + 1) new (to_target held (number bit))
    other-word new low words more = record {
      within = let within = next.within in omega (arith, within);
      word = omega (arith, low);
      words = words;
      key = record { kind = at.key.kind; source = at.key.source; the_class = at.key.the_class; permission = at.key.permission };
      same = one-more (new ++ to_target held (number bit) ∷ []) (closed made new held (to_target held (number bit)) more);
    }

  -- the held chunk is added at last
  pub last-added : (old made new : List Chunk) (held : Chunk) (from : ℕ) → IsHeld old from made held → NoBitFrom c from → ((a : AccessNumbers) → IsGiven new a ↔ (IsGiven made a ⊎ IsAccessOf held a))
      → (a : AccessNumbers) → IsGiven new a ↔ (IsGiven old a ⊎ IsRenumbered numbers c 64 a)
  last-added old made new held from at none more a =
      let all = bits-passed numbers c from 64 old (made ++ held ∷ []) at.within none at.same a in (
        λ h. all.0 (any-push (λ k. IsAccessOf k a) made held ((more a).0 h)),
        λ h. (more a).1 (any-pushed (λ k. IsAccessOf k a) made held (all.1 h)),
      )

-- ---- how far the targets of the bits so far move up

-- those of the bits below one move up by as much
abbrev pub MoveBelow : List ℕ → Chunk → ℕ → ℕ → Type 0
MoveBelow numbers c up n = (b : ℕ) → b < n → has_bit b c ≡ true → get_or numbers (64 * c.word + b) 0 ≡ 64 * c.word + b + up

module _ (numbers : List ℕ) (c : Chunk) (up : ℕ) where
  pub move-next : (from bit : ℕ) → IsNextBit c from bit → MoveBelow numbers c up from → get_or numbers (64 * c.word + bit) 0 ≡ 64 * c.word + bit + up → MoveBelow numbers c up (bit + 1)
  move-next from bit next so_far is b below set = by (cases_lt b from) (cases_eq b bit)
    where
      by : (b < from) ⊎ (from ≤ b) → (b ≡ bit) ⊎ (b ≡ bit → ⊥) → get_or numbers (64 * c.word + b) 0 ≡ 64 * c.word + b + up
      by (inl before) same = so_far b before set
      by (inr behind) (inl same) = subst (λ k. get_or numbers (64 * c.word + k) 0 ≡ 64 * c.word + k + up) (sym same) is
      by (inr behind) (inr other) = absurd (true≢false (sym set ∙ next.first b behind (omega (arith, below, other))))

  pub move-first : (bit : ℕ) → IsNextBit c 0 bit → get_or numbers (64 * c.word + bit) 0 ≡ 64 * c.word + bit + up → MoveBelow numbers c up (bit + 1)
  move-first bit next is = move-next 0 bit next (λ b below. absurd (omega (arith, below))) is

  pub move-all : (from : ℕ) → NoBitFrom c from → MoveBelow numbers c up from → MovesUp numbers c up
  move-all from none so_far b small set =
      elim (cases_lt b from) [ inl below ↦ so_far b below set | inr above ↦ absurd (true≢false (sym set ∙ none b above small)) ]

-- where no bit is set
pub move-none : (numbers : List ℕ) (c : Chunk) → NoBitFrom c 0 → MovesUp numbers c 0
move-none numbers c none = move-all numbers c 0 0 none (λ b below. absurd (omega (arith, below)))
