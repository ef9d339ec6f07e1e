-- Which needs each node can meet.
use Rattle.cil_needs.proofs.Common.{◌≡◌, ◌⊎◌, inl, inr, ℕ, ◌+◌, ◌<◌, ◌≤◌, zero, suc, false, true, ltb, leb, List, [], ◌∷◌, ◌++◌, length, get_or, Option, None, Some, slice_get, All, Contains, IfSome, refl, sym, ap, ◌∙◌, subst, arith, option_to_list, cases_lt, ltb-true, ltb-false, leb-true, leb-false, All-append, All-weaker, Contains-append_cases, Contains-append_left, Contains-append_right, Contains-push_cases, slice_get_within, slice_get-get_or, get_or_from_slice_get, same_Some, meeting, dependent, dependents_of_node, IsDependent, AreDependents, AreReopened, Dependent, Need}
use Rattle.std.specs.List.Sorted.{IsPartitionPoint}
use Rattle.std.proofs.Common.{length-append}
use Rattle.cil_specs.proofs.NamesLemmas.{contains-first}

-- what came behind others for a node is of its need
pub node-within : (old : List Dependent) (node : Option ℕ) (n o i : ℕ) → IsDependent (old ++ dependents_of_node node n) o i → IsDependent old o i ⊎ (i ≡ n)
node-within old node n o i is = elim (Contains-append_cases old (dependents_of_node node n) (dependent o i) is) [
  | inl before ↦ inl before
  | inr new ↦ inr (by node new)
]
  where
    by : (a : Option ℕ) → Contains (dependents_of_node a n) (dependent o i) → i ≡ n
    by None has = absurd (omega (arith, has.1))
    by (Some m) has = elim (Contains-push_cases [] (dependent m n) (dependent o i) has) [
      | inl none ↦ absurd (omega (arith, none.1))
      | inr same ↦ sym (ap (λ (d : Dependent). d.need) same)
    ]

-- the first node that can meet a need stands with it, and the second
pub node-first : (old more : List Dependent) (node : Option ℕ) (n : ℕ) → IfSome node (λ o. IsDependent ((old ++ dependents_of_node node n) ++ more) o n)
node-first old more None n = tt
node-first old more (Some o) n =
    Contains-append_left (old ++ dependent o n ∷ []) more (dependent o n) (Contains-append_right old (dependent o n ∷ []) (dependent o n) (contains-first (dependent o n) []))

pub node-second : (old : List Dependent) (node : Option ℕ) (n : ℕ) → IfSome node (λ o. IsDependent (old ++ dependents_of_node node n) o n)
node-second old None n = tt
node-second old (Some o) n = Contains-append_right old (dependent o n ∷ []) (dependent o n) (contains-first (dependent o n) [])

-- what holds of something, if it is there, holds of all there is
pub all-option : (P : ℕ → Type 0) (node : Option ℕ) → IfSome node P → All P (option_to_list node)
all-option P None is k d low = absurd (omega (arith, low))
all-option P (Some o) is zero d low = is
all-option P (Some o) is (suc k) d low = absurd (omega (arith, low))

-- an element of a list with one more at its end
pub got-push : {X : Type 0} (xs : List X) (y : X) (i : ℕ) (x : X) → slice_get (xs ++ y ∷ []) i ≡ Some x → (slice_get xs i ≡ Some x) ⊎ ((i ≡ length xs) × (y ≡ x))
got-push [] y zero x is = inr (refl, same_Some y x is)
got-push [] y (suc i) x is = absurd cc
got-push (z ∷ xs) y zero x is = inl is
got-push (z ∷ xs) y (suc i) x is = elim (got-push xs y i x is) [ inl before ↦ inl before | inr last ↦ inr (omega (arith, last.0), last.1) ]

-- the nodes of all needs up to one more
pub dependents-push : (old mid new : List Dependent) (needs : List Need) (need : Need) (n : ℕ) → n ≡ length needs → mid ≡ old ++ dependents_of_node need.first n → new ≡ mid ++ dependents_of_node need.second n
    → AreDependents old needs → AreDependents new (needs ++ need ∷ [])
dependents-push old mid new needs need n count first second are i other at = elim (got-push needs need i other at) [
  | inl before ↦ All-weaker (λ o. IsDependent old o i) (λ o. IsDependent new o i) (λ o is. grows o i is) (meeting other) (are i other before)
  | inr last ↦ subst (λ m. All (λ o. IsDependent new o i) (meeting m)) last.1 (subst (λ j. All (λ o. IsDependent new o j) (meeting need)) (count ∙ sym last.0) here)
]
  where
    whole : (old ++ dependents_of_node need.first n) ++ dependents_of_node need.second n ≡ new
    whole = ap (λ l. l ++ dependents_of_node need.second n) (sym first) ∙ sym second

    grows : (o j : ℕ) → IsDependent old o j → IsDependent new o j
    grows o j is = subst (λ l. IsDependent l o j) whole
        (Contains-append_left (old ++ dependents_of_node need.first n) (dependents_of_node need.second n) (dependent o j) (Contains-append_left old (dependents_of_node need.first n) (dependent o j) is))

    here : All (λ o. IsDependent new o n) (meeting need)
    here = All-append (λ o. IsDependent new o n) (option_to_list need.first) (option_to_list need.second)
        (all-option (λ o. IsDependent new o n) need.first (subst (λ l. IfSome need.first (λ o. IsDependent l o n)) whole (node-first old (dependents_of_node need.second n) need.first n)))
        (all-option (λ o. IsDependent new o n) need.second (subst (λ l. IfSome need.second (λ o. IsDependent l o n)) (sym second) (node-second mid need.second n)))

-- and they are of these needs
pub dependents-within : (old mid new : List Dependent) (need : Need) (n m : ℕ) → n < m → mid ≡ old ++ dependents_of_node need.first n → new ≡ mid ++ dependents_of_node need.second n
    → ((o i : ℕ) → IsDependent old o i → i < m) → (o i : ℕ) → IsDependent new o i → i < m
dependents-within old mid new need n m less first second within o i is = elim (node-within mid need.second n o i (subst (λ l. IsDependent l o i) second is)) [
  | inr same ↦ omega (arith, same, less)
  | inl before ↦ elim (node-within old need.first n o i (subst (λ l. IsDependent l o i) first before)) [
    | inr same ↦ omega (arith, same, less)
    | inl earlier ↦ within o i earlier
  ]
]

-- where the nodes below one end, and those up to it
abbrev pub IsStart : List Dependent → ℕ → ℕ → Type 0
IsStart dependents o n = IsPartitionPoint (λ (d : Dependent). ltb d.node o ≡ true) (λ (d : Dependent). ltb d.node o ≡ false) dependents n

abbrev pub IsEnd : List Dependent → ℕ → ℕ → Type 0
IsEnd dependents o n = IsPartitionPoint (λ (d : Dependent). leb d.node o ≡ true) (λ (d : Dependent). leb d.node o ≡ false) dependents n

-- behind those that wait stand the needs of some places
pub record AreOpenedTo (dependents : List Dependent) (start end place : ℕ) (old new : List ℕ) : Type 0 where
  pub more : List ℕ
  pub is : new ≡ old ++ more
  pub few : length more ≤ length dependents
  pub long : length more + start ≡ place
  pub each : (k : ℕ) (d : Dependent) → start ≤ k → k < place → slice_get dependents k ≡ Some d → Contains more d.need
  pub from : (i : ℕ) → Contains more i → (k : ℕ) × (d : Dependent) × (start ≤ k) × (k < end) × (slice_get dependents k ≡ Some d) × (d.need ≡ i)

pub opened-more : (dependents : List Dependent) (start end place : ℕ) (old mid new : List ℕ) (d : Dependent) → end ≤ length dependents → place < end → slice_get dependents place ≡ Some d → new ≡ mid ++ d.need ∷ []
    → AreOpenedTo dependents start end place old mid → AreOpenedTo dependents start end (place + 1) old new
opened-more dependents start end place old mid new d low before at last opened = record {
  more = opened.more ++ d.need ∷ [];
  is = last ∙ ap (λ l. l ++ d.need ∷ []) opened.is ∙ grouped old opened.more (d.need ∷ []);
  few = (let size = length-append opened.more (d.need ∷ []) in let long = opened.long in omega (arith, size, long, low, before));
  long = (let size = length-append opened.more (d.need ∷ []) in let long = opened.long in omega (arith, size, long));
  each = λ k e from below there. elim (cases_lt k place) [
    | inl earlier ↦ Contains-append_left opened.more (d.need ∷ []) e.need (opened.each k e from earlier there)
    | inr past ↦
        let same : k ≡ place = omega (arith, past, below) in
        let one : d ≡ e = same_Some d e (sym at ∙ ap (slice_get dependents) (sym same) ∙ there) in
        subst (λ (f : Dependent). Contains (opened.more ++ d.need ∷ []) f.need) one (Contains-append_right opened.more (d.need ∷ []) d.need (contains-first d.need []))
  ];
  from = λ i has. elim (Contains-push_cases opened.more d.need i has) [
    | inl earlier ↦ opened.from i earlier
    | inr same ↦ (let long = opened.long in (place, d, omega (arith, long), before, at, same))
  ];
}
  where
    grouped : (xs ys zs : List ℕ) → (xs ++ ys) ++ zs ≡ xs ++ (ys ++ zs)
    grouped [] ys zs = refl
    grouped (x ∷ xs) ys zs = ap (λ l. x ∷ l) (grouped xs ys zs)

-- a node and a need make one of these
pub dependent-is : (d : Dependent) (o i : ℕ) → d.node ≡ o → d.need ≡ i → d ≡ dependent o i
dependent-is d o i node need = λ k. record { node = node k; need = need k }

-- once all places of a node are gone over, all its needs wait
pub opened-all : (dependents : List Dependent) (o start end place : ℕ) (old new : List ℕ) → IsStart dependents o start → IsEnd dependents o end → end ≤ place → AreOpenedTo dependents start end place old new
    → AreReopened dependents o old new
opened-all dependents o start end place old new first last past opened = record {
  more = opened.more;
  is = opened.is;
  few = opened.few;
  all = λ i has. all i has.0 has.1 has.2;
  within = λ i has. (let (k, d, from, below, at, need) = opened.from i has in within i k d from below at need);
}
  where
    all : (i k : ℕ) → k < length dependents → get_or dependents k (dependent o i) ≡ dependent o i → Contains opened.more i
    all i k low is = opened.each k (dependent o i) from before (slice_get-get_or dependents k (dependent o i) low ∙ ap Some is)
      where
        node : (get_or dependents k (dependent o i)).node ≡ o
        node = ap (λ (d : Dependent). d.node) is

        from : start ≤ k
        from = elim (cases_lt k start) [
          | inl lower ↦ (let less = ltb-true (get_or dependents k (dependent o i)).node o (first.0 k (dependent o i) (omega arith) lower) in absurd (omega (arith, less, node)))
          | inr above ↦ above
        ]

        before : k < place
        before = elim (cases_lt k end) [
          | inl lower ↦ omega (arith, lower, past)
          | inr above ↦ (let more = leb-false (get_or dependents k (dependent o i)).node o (last.1 k (dependent o i) above low) in absurd (omega (arith, more, node)))
        ]

    within : (i k : ℕ) (d : Dependent) → start ≤ k → k < end → slice_get dependents k ≡ Some d → d.need ≡ i → IsDependent dependents o i
    within i k d from below at need = (k, low, is ∙ dependent-is d o i (omega (arith, least, most)) need)
      where
        low : k < length dependents
        low = slice_get_within dependents k d at

        is : get_or dependents k (dependent o i) ≡ d
        is = get_or_from_slice_get dependents k d (dependent o i) at

        least : o ≤ d.node
        least = subst (λ (e : Dependent). o ≤ e.node) is (ltb-false (get_or dependents k (dependent o i)).node o (first.1 k (dependent o i) from low))

        most : d.node ≤ o
        most = subst (λ (e : Dependent). e.node ≤ o) is (leb-true (get_or dependents k (dependent o i)).node o (last.0 k (dependent o i) (omega arith) below))
