-- Permissions that classes have, and those that they lack.
use Rattle.cil_check.proofs.Common.{◌≡◌, ℕ, ◌+◌, ◌<◌, ◌≤◌, zero, suc, not, ◌||◌, Bool, true, false, List, [], ◌∷◌, ◌++◌, length, map, filter, drop, cond, Option, Some, None, Contains, bytes_eq, get_or, refl, sym, ap, ◌∙◌, option_and_then, list_any, or-true, none-some, same_Some, slice_get-get_or, slice_get_within, get_or_from_slice_get, list_any-append, Word, Form, class_permission_set, rule, anonymous, leaves, Placed, classes, leads, holds_of, has_name, texts, listed_by, own_permissions, permissions_of, named_permissions, is_lacking, permissions_in, read, texts_of, NumberedWord, word_at, IsFirstOf, IsLead, IsOneName, IsNoted, list_at, names_listed, given_names, HasInherited, named_class, class_lead, lacking_words, is_listed, HaveListed, Seen, Listed}
use Rattle.std.proofs.Common.{flat_map, slice_get}
use Rattle.cil_check.specs.declared.checker.Checker.{Checker}
use Rattle.cil_check.proofs.PositionLemmas.{all-at}
use Rattle.cil_check.proofs.SeenLemmas.{there-at}
use Rattle.cil_check.proofs.PermissionLemmas.{word-read, one-name-at}
use Rattle.cil_check.proofs.AskedLemmas.{first_from, drop-at, drop-past}
use Rattle.cil_check.proofs.WordLemmas.{Led, led-at}

-- the permissions of a class are its own, and those that the commons noted for it list
pub all-permissions : (policy : List Placed) (noted : List ℕ × List (List ℕ)) (i : ℕ) (s : Placed) → HasInherited policy noted → slice_get policy i ≡ Some s → IsFirstOf classes policy i
    → permissions_of policy s ≡ texts (own_permissions s.form) ++ names_listed policy (list_at noted i)
all-permissions policy noted i s has at first = ap (λ l. texts (own_permissions s.form) ++ l) (sym (has.listed i s at first))

-- a class without a permission of its own has it by a common
pub has-inherited : (policy : List Placed) (noted : List ℕ × List (List ℕ)) (i : ℕ) (s : Placed) (name : List ℕ) → HasInherited policy noted → slice_get policy i ≡ Some s → IsFirstOf classes policy i
    → has_name (texts (own_permissions s.form)) name ≡ false → has_name (permissions_of policy s) name ≡ has_name (names_listed policy (drop 0 (list_at noted i))) name
has-inherited policy noted i s name has at first none =
    ap (λ l. has_name l name) (all-permissions policy noted i s has at first) ∙ list_any-append (bytes_eq name) (texts (own_permissions s.form)) (names_listed policy (list_at noted i))
    ∙ ap (λ b. b || has_name (names_listed policy (list_at noted i)) name) none

pub has-own : (policy : List Placed) (s : Placed) (name : List ℕ) → has_name (texts (own_permissions s.form)) name ≡ true → has_name (permissions_of policy s) name ≡ true
has-own policy s name is =
    list_any-append (bytes_eq name) (texts (own_permissions s.form)) (flat_map (given_names policy s) policy) ∙ ap (λ b. b || has_name (flat_map (given_names policy s) policy) name) is

-- a common at some index lists it
has-at : (policy : List Placed) (places : List ℕ) (i m : ℕ) (name : List ℕ) → slice_get places i ≡ Some m → has_name (listed_by (slice_get policy m)) name ≡ true → has_name (names_listed policy places) name ≡ true
has-at policy [] i m name at has = absurd (none-some m at)
has-at policy (p ∷ places) zero m name at has =
    list_any-append (bytes_eq name) (listed_by (slice_get policy p)) (names_listed policy places)
    ∙ ap (λ b. b || has_name (names_listed policy places) name) (ap (λ k. has_name (listed_by (slice_get policy k)) name) (same_Some p m at) ∙ has)
has-at policy (p ∷ places) (suc i) m name at has =
    list_any-append (bytes_eq name) (listed_by (slice_get policy p)) (names_listed policy places)
    ∙ ap (λ b. has_name (listed_by (slice_get policy p)) name || b) (has-at policy places i m name at has) ∙ or-true (has_name (listed_by (slice_get policy p)) name)

-- a class has what the common at some index lists
has-witness : (policy : List Placed) (noted : List ℕ × List (List ℕ)) (i : ℕ) (s : Placed) (at m : ℕ) (name : List ℕ) → HasInherited policy noted → slice_get policy i ≡ Some s → IsFirstOf classes policy i
    → slice_get (list_at noted i) at ≡ Some m → has_name (listed_by (slice_get policy m)) name ≡ true → has_name (permissions_of policy s) name ≡ true
has-witness policy noted i s at m name has is first there lists =
    ap (λ l. has_name l name) (all-permissions policy noted i s has is first) ∙ list_any-append (bytes_eq name) (texts (own_permissions s.form)) (names_listed policy (list_at noted i))
    ∙ ap (λ b. has_name (texts (own_permissions s.form)) name || b) (has-at policy (list_at noted i) at m name there lists) ∙ or-true (has_name (texts (own_permissions s.form)) name)

-- the common at an index, and those behind
pub has-listed-at : (policy : List Placed) (places : List ℕ) (i m : ℕ) (name : List ℕ) → slice_get places i ≡ Some m
    → has_name (names_listed policy (drop i places)) name ≡ (has_name (listed_by (slice_get policy m)) name || has_name (names_listed policy (drop (i + 1) places)) name)
has-listed-at policy places i m name at =
    ap (λ l. has_name (names_listed policy l) name) (drop-at places i m at) ∙ list_any-append (bytes_eq name) (listed_by (slice_get policy m)) (names_listed policy (drop (i + 1) places))

pub has-listed-past : (policy : List Placed) (places : List ℕ) (i : ℕ) (name : List ℕ) → length places ≤ i → has_name (names_listed policy (drop i places)) name ≡ false
has-listed-past policy places i name past = ap (λ l. has_name (names_listed policy l) name) (drop-past places i past)

pub common-has : (names : List (List ℕ)) (policy : List Placed) (keys : List Listed) (m n : ℕ) → HaveListed names policy keys → m < length policy → n < length names
    → list_any (is_listed m n) keys ≡ has_name (listed_by (slice_get policy m)) (word_at names n)
common-has names policy keys m n have within less =
    let (u, at) = there-at policy m within in
    have m u at n less ∙ ap (λ o. has_name (listed_by o) (word_at names n)) (sym at)

-- a class has what the common at an index is seen to list
pub has-seen : (names : List (List ℕ)) (policy : List Placed) (noted : List ℕ × List (List ℕ)) (keys : List Listed) (owner n i m : ℕ) (s : Placed) → HasInherited policy noted → HaveListed names policy keys
    → slice_get policy owner ≡ Some s → IsFirstOf classes policy owner → n < length names → slice_get (list_at noted owner) i ≡ Some m → list_any (is_listed m n) keys ≡ true
    → has_name (permissions_of policy s) (word_at names n) ≡ true
has-seen names policy noted keys owner n i m s has have is first less there told =
    has-witness policy noted owner s i m (word_at names n) has is first there
    (sym (common-has names policy keys m n have (all-at (λ k. k < length policy) (list_at noted owner) i m (has.within owner) there) less) ∙ told)

-- one common more that is looked at
pub has-step : (names : List (List ℕ)) (policy : List Placed) (noted : List ℕ × List (List ℕ)) (keys : List Listed) (items : List ℕ) (owner n i : ℕ) (found : Bool) → HasInherited policy noted → HaveListed names policy keys
    → items ≡ list_at noted owner → i < length items → n < length names → found ≡ list_any (is_listed (get_or items i 0) n) keys
    → has_name (names_listed policy (drop i (list_at noted owner))) (word_at names n) ≡ (found || has_name (names_listed policy (drop (i + 1) (list_at noted owner))) (word_at names n))
has-step names policy noted keys items owner n i found has have is within less told =
    ap (λ l. has_name (names_listed policy (drop i l)) name) (sym is) ∙ has-listed-at policy items i m name at
    ∙ ap (λ b. b || has_name (names_listed policy (drop (i + 1) items)) name) (sym (told ∙ common-has names policy keys m n have there less))
    ∙ ap (λ l. found || has_name (names_listed policy (drop (i + 1) l)) name) is
  where
    name : List ℕ
    name = word_at names n

    m : ℕ
    m = get_or items i 0

    at : slice_get items i ≡ Some m
    at = slice_get-get_or items i 0 within

    there : m < length policy
    there = all-at (λ k. k < length policy) (list_at noted owner) i m (has.within owner) (ap (λ l. slice_get l i) (sym is) ∙ at)

-- the permissions that a statement names of a class are all that it has
pub named-of : (form : Form) (word : Word) → named_class form ≡ Some word → named_permissions form ≡ map (λ w. (word, w)) (permissions_in form)
named-of (class_permission_set set the_class permissions) word is = ap (λ c. map (λ w. (c, w)) (leaves permissions)) (same_Some the_class word is)
named-of (rule kind source target (anonymous the_class permissions)) word is = ap (λ c. map (λ w. (c, w)) (leaves permissions)) (same_Some the_class word is)
named-of _ word is = absurd (none-some word is)

named-none : (form : Form) → named_class form ≡ None → named_permissions form ≡ []
named-none (class_permission_set set the_class permissions) is = absurd (none-some the_class (sym is))
named-none (rule kind source target (anonymous the_class permissions)) is = absurd (none-some the_class (sym is))
named-none _ is = refl

pub second-of : (p : Word × Word → Bool) (word : Word) (words : List Word) → map (λ r. r.1) (filter p (map (λ w. (word, w)) words)) ≡ filter (λ w. p (word, w)) words
second-of p word [] = refl
second-of p word (w ∷ words) = by (p (word, w)) (second-of p word words)
  where
    by : (b : Bool) → map (λ r. r.1) (filter p (map (λ v. (word, v)) words)) ≡ filter (λ v. p (word, v)) words
        → map (λ r. r.1) (cond b ((word, w) ∷ filter p (map (λ v. (word, v)) words)) (filter p (map (λ v. (word, v)) words))) ≡ cond b (w ∷ filter (λ v. p (word, v)) words) (filter (λ v. p (word, v)) words)
    by true more = ap (λ l. w ∷ l) more
    by false more = more

-- whether the class that a statement names lacks a permission
abbrev pub lacks : List Placed → Placed → Word → Word → Bool
lacks policy s word w = is_lacking policy s.namespace (word, w)

-- the first that is lacking, by the words that the statement lists
pub lacking-first : (policy : List Placed) (s : Placed) (word : Word) → named_class s.form ≡ Some word → slice_get (lacking_words policy s) 0 ≡ first_from (lacks policy s word) 0 (permissions_in s.form)
lacking-first policy s word is =
    ap (λ l. slice_get (map (λ p. p.1) (filter (is_lacking policy s.namespace) l)) 0) (named-of s.form word is) ∙ ap (λ l. slice_get l 0) (second-of (is_lacking policy s.namespace) word (permissions_in s.form))

-- the class that a statement names
pub class-named : (policy : List Placed) (s : Placed) (place : ℕ) → IsLead classes policy (Some place) (class_lead policy s) → (word : Word) × (named_class s.form ≡ Some word)
class-named policy s place led = by (named_class s.form) refl
  where
    there : Led classes policy place (class_lead policy s)
    there = led-at classes policy place (class_lead policy s) led

    by : (o : Option Word) → named_class s.form ≡ o → (word : Word) × (named_class s.form ≡ Some word)
    by None none = absurd (none-some there.s (sym (ap (option_and_then (λ w. leads policy classes s.namespace w.text)) none) ∙ there.is))
    by (Some word) is = (word, is)

-- a class that is found lacks a permission that isn't among its own
pub lacks-one : (policy : List Placed) (s : Placed) (place : ℕ) (word w : Word) (lead : Led classes policy place (class_lead policy s)) → named_class s.form ≡ Some word
    → lacks policy s word w ≡ not (has_name (permissions_of policy lead.s) w.text)
lacks-one policy s place word w lead is =
    ap (holds_of (λ u. not (has_name (permissions_of policy u) w.text))) (sym (ap (option_and_then (λ v. leads policy classes s.namespace v.text)) is) ∙ lead.is)

-- nothing is lacking where no class is found
pub lacks-none : (policy : List Placed) (s : Placed) → IsLead classes policy None (class_lead policy s) → lacking_words policy s ≡ []
lacks-none policy s led = by (named_class s.form) refl
  where
    by : (o : Option Word) → named_class s.form ≡ o → lacking_words policy s ≡ []
    by None none = ap (λ l. map (λ p. p.1) (filter (is_lacking policy s.namespace) l)) (named-none s.form none)
    by (Some word) is =
        ap (λ l. map (λ p. p.1) (filter (is_lacking policy s.namespace) l)) (named-of s.form word is) ∙ second-of (is_lacking policy s.namespace) word (permissions_in s.form)
        ∙ nothing (permissions_in s.form)
      where
        none : leads policy classes s.namespace word.text ≡ None
        none = sym (ap (option_and_then (λ v. leads policy classes s.namespace v.text)) is) ∙ sym led.is

        nothing : (words : List Word) → filter (lacks policy s word) words ≡ []
        nothing [] = refl
        nothing (w ∷ words) =
            ap (λ b. cond b (w ∷ filter (lacks policy s word) words) (filter (lacks policy s word) words)) (ap (holds_of (λ u. not (has_name (permissions_of policy u) w.text))) none) ∙ nothing words

-- a permission of a statement: its word, and whether its class lacks it
pub record IsAsked {A : Type 0} (seen : Seen A) (policy : List Placed) (s : Placed) (word : Word) (i : ℕ) (shown : NumberedWord) (has : Bool) : Type 0 where
  pub w : Word
  pub at : slice_get (permissions_in s.form) i ≡ Some w
  pub reads : read (texts_of seen.«module».now) shown ≡ Some w
  pub lacking : lacks policy s word w ≡ not has

pub asked-at : {A : Type 0} (checker : Checker A) (seen : Seen A) (policy : List Placed) (s : Placed) (word : Word) (place : ℕ) (shown : List NumberedWord) (i : ℕ) (d : NumberedWord) (number : ℕ) (has : Bool)
    → IsNoted checker policy → Contains policy s → map (read (texts_of seen.«module».now)) shown ≡ map Some (permissions_in s.form) → i < length shown → IsLead classes policy (Some place) (class_lead policy s)
    → named_class s.form ≡ Some word
    → ((w : Word) → read (texts_of seen.«module».now) (get_or shown i d) ≡ Some w → IsOneName w → slice_get checker.bound.policy.now.names number ≡ Some w.text)
    → ((u : Placed) → slice_get policy place ≡ Some u → IsFirstOf classes policy place → number < length checker.bound.policy.now.names
    → has ≡ has_name (permissions_of policy u) (word_at checker.bound.policy.now.names number))
    → IsAsked seen policy s word i (get_or shown i d) has
asked-at checker seen policy s word place shown i d number has noted contained are within led is numbered told =
    let names = checker.bound.policy.now.names in
    let found = word-read (texts_of seen.«module».now) shown (permissions_in s.form) i d are within in
    let w = found.0 in
    let at = numbered w found.2 (one-name-at (permissions_in s.form) i w (noted.is.spelt s contained).permissions found.1) in
    let lead = led-at classes policy place (class_lead policy s) led in
    record {
      w = w;
      at = found.1;
      reads = found.2;
      lacking = lacks-one policy s place word w lead is
          ∙ ap (λ n. not (has_name (permissions_of policy lead.s) n)) (sym (get_or_from_slice_get names number w.text [] at))
          ∙ ap not (sym (told lead.s lead.at lead.first (slice_get_within names number w.text at)));
    }
