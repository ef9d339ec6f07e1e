-- The batch of a session.
use Rattle.cil_session.proofs.Common.{◌≡◌, ◌++◌, ◌∷◌, [], ℕ, ◌+◌, ◌||◌, Bool, true, false, nat_le, List, length, take, min, nat_lt, Option, Some, None, Ok, Err, refl, ap, sym, ◌∙◌, subst, length-append, length-take, arith, sum_by, take_all, Edit, install, remove, enable, disable, held_bytes, is_too_long, Batch, all_held, IsHeld, holds, passes_the_limits, has_no_memory, held_as, name_of, behind_fault, given_up, held_of, opened, held_answer, CanHold, IsOpen, Adds, IsGiven, TooLong, Memory}
use Rattle.std.proofs.lemmas.Bool.{leb-true}
use Rattle.std.proofs.lemmas.Bool.Decides.{nat_tests}
use Rattle.std.proofs.lemmas.List.Sums.{sum_by-append, sum_by-cons}
use Rattle.cil_session.specs.declared.batch.NotHeld.{NotHeld}

-- a batch counts as much of an edit as it holds of it
pub held-size : (edit : Edit) → held_bytes (held_as edit) ≡ held_bytes edit
held-size (install name priority text) = omega (arith, length-take 16777217 text)
held-size (remove name priority) = refl
held-size (enable name) = refl
held-size (disable name) = refl

-- the first bytes of a text, which may be all
pub take-min : (text : List ℕ) (most : ℕ) → take (min (length text) most) text ≡ take most text
take-min text most = by (nat_le (length text) most) refl
  where
    by : (b : Bool) → nat_le (length text) most ≡ b → take (min (length text) most) text ≡ take most text
    by true e =
        let short = leb-true (length text) most e in
        ap (λ n. take n text) (let same : min (length text) most ≡ length text = omega (arith, short) in same) ∙ take_all (length text) text (omega arith) ∙ sym (take_all most text short)
    by false e = ap (λ n. take n text) (let same : min (length text) most ≡ most = grind (arith, e, nat_tests) in same)

-- and is as long with either
pub same-length : (edits : List Edit) (edit other : Edit) → held_bytes edit ≡ held_bytes other → is_too_long (edits ++ edit ∷ []) ≡ is_too_long (edits ++ other ∷ [])
same-length edits edit other same =
    let counts : length (edits ++ edit ∷ []) ≡ length (edits ++ other ∷ []) = length-append edits (edit ∷ []) ∙ sym (length-append edits (other ∷ [])) in
    let bytes : sum_by held_bytes (edits ++ edit ∷ []) ≡ sum_by held_bytes (edits ++ other ∷ []) =
    omega (arith, sum_by-append held_bytes edits (edit ∷ []), sum_by-append held_bytes edits (other ∷ []), sum_by-cons held_bytes edit [], sum_by-cons held_bytes other [], same) in
    λ i. nat_lt 8192 (counts i) || nat_lt 67108864 (bytes i)

-- a batch that is open, by its parts
pub record IsOpened (begin : Option ℕ) (fault : Option NotHeld) (edits : List Edit) (b : Batch) : Type 0 where
  pub line_feeds : ℕ
  pub begin_is : begin ≡ Some line_feeds
  pub is : b ≡ record { line = 1 + line_feeds; held = held_of fault edits }

pub opened-is : (begin : Option ℕ) (fault : Option NotHeld) (edits : List Edit) (b : Batch) → opened begin fault edits ≡ Some b → IsOpened begin fault edits b
opened-is None fault edits b is = absurd cc
opened-is (Some line_feeds) fault edits b is = record { line_feeds = line_feeds; begin_is = refl; is = cc (sym is) }

-- all edits are held where none wasn't
none-given_up : (fault : Option NotHeld) (edits es : List Edit) → held_of fault edits ≡ all_held es → (fault ≡ None) × (es ≡ edits)
none-given_up None edits es is = (refl, cc)
none-given_up (Some TooLong) edits es is = absurd cc
none-given_up (Some Memory) edits es is = absurd cc

-- where the list has room the open batch has
pub list-ok : (begin : Option ℕ) (fault : Option NotHeld) (edits : List Edit) (len : ℕ) → fault ≡ None → ((edit : Edit) → held_bytes edit ≡ len → is_too_long (edits ++ edit ∷ []) ≡ false) → CanHold (opened begin fault edits) len
list-ok begin fault edits len none ok b found = (edits, ap (λ c. c.held) (opened-is begin fault edits b found).is ∙ ap (λ f. held_of f edits) none, ok)

pub list-err : (begin : Option ℕ) (fault : Option NotHeld) (edits : List Edit) (len : ℕ) → fault ≡ None → ((edit : Edit) → held_bytes edit ≡ len → is_too_long (edits ++ edit ∷ []) ≡ true) → (b : Batch) (edit : Edit) → opened begin fault edits ≡ Some b → held_bytes edit ≡ len
    → IsHeld b.held edit (held_answer (Err TooLong) (name_of edit)) (given_up TooLong)
list-err begin fault edits len none err b edit found size = passes_the_limits edits (ap (λ c. c.held) (opened-is begin fault edits b found).is ∙ ap (λ f. held_of f edits) none) (err edit size) refl refl

-- An edit isn't added: it isn't held, or memory runs out for it.
pub not-added : (old new : Option Batch) (edit : Edit) (why : NotHeld) → new ≡ old → ((b : Batch) → old ≡ Some b → IsHeld b.held edit (held_answer (Err why) (name_of edit)) (given_up why)) → Adds old new edit (Err why)
not-added old new edit why same how = (same, how)

pub no-memory : (now : Option Batch) (edit : Edit) (len : ℕ) → held_bytes edit ≡ len → CanHold now len → (b : Batch) → now ≡ Some b → IsHeld b.held edit (held_answer (Err Memory) (name_of edit)) (given_up Memory)
no-memory now edit len size can b found = let c = can b found in has_no_memory c.0 c.1 (c.2 edit size) refl refl

-- the list has room where the open batch has
pub has-room : (begin : Option ℕ) (fault : Option NotHeld) (edits : List Edit) (held : Edit) (len : ℕ) → IsOpen (opened begin fault edits) → held_bytes held ≡ len → CanHold (opened begin fault edits) len → is_too_long (edits ++ held ∷ []) ≡ false
has-room begin fault edits held len (b, found) size can =
    let o = opened-is begin fault edits b found in
    let c = can b found in
    let none = none-given_up fault edits c.0 (sym (ap (λ d. d.held) o.is) ∙ c.1) in
    subst (λ es. is_too_long (es ++ held ∷ []) ≡ false) none.1 (c.2 held size)

pub added : (begin : Option ℕ) (fault : Option NotHeld) (edits after : List Edit) (edit held : Edit) (len : ℕ) (done : Unit {0}) → held_as edit ≡ held → held_bytes held ≡ len → CanHold (opened begin fault edits) len → after ≡ edits ++ held ∷ []
    → Adds (opened begin fault edits) (opened begin fault after) edit (Ok done)
added begin fault edits after edit held len done is size can same = λ b found.
    let o = opened-is begin fault edits b found in
    let c = can b found in
    let none = none-given_up fault edits c.0 (sym (ap (λ d. d.held) o.is) ∙ c.1) in
    let counted : held_bytes edit ≡ held_bytes held = sym (held-size edit) ∙ ap held_bytes is in (
      edits,
      c.1 ∙ ap all_held none.1,
      same-length edits edit held counted ∙ has-room begin fault edits held len (b, found) size can,
      (λ i. opened (o.begin_is i) (none.0 i) (same i)) ∙ (λ i. Some (record { line = (sym (ap (λ d. d.line) o.is)) i; held = all_held (edits ++ (sym is) i ∷ []) })),
    )

-- as many bytes are counted of an edit as it is held
pub kept-size : (edit held : Edit) (len : ℕ) → held_as edit ≡ held → held_bytes edit ≡ len → held_bytes held ≡ len
kept-size edit held len is size = ap held_bytes (sym is) ∙ held-size edit ∙ size

-- how many bytes are counted of an install
pub install-size : (edit : Edit) (name : List ℕ) (priority : ℕ) (text : List ℕ) → held_as edit ≡ install name priority text → held_bytes edit ≡ min (length text) 16777217
install-size edit name priority text is = sym (held-size edit) ∙ ap held_bytes is

-- What was given to an open batch was added; or what the batch holds was given up.
pub held-added : (old new : Option Batch) (edit : Edit) (done : Unit {0}) → Adds old new edit (Ok done) → IsGiven old new edit (Ok done)
held-added old new edit done adds b found =
    let a = adds b found in
    (all_held (a.0 ++ held_as edit ∷ []), a.3, holds a.0 a.1 a.2 refl refl)

pub held-given_up : (old mid new : Option Batch) (edit : Edit) (why : NotHeld) → Adds old mid edit (Err why) → new ≡ behind_fault why mid → IsGiven old new edit (Err why)
held-given_up old mid new edit why adds stops b found = (given_up why, stops ∙ ap (behind_fault why) (adds.0 ∙ found), adds.1 b found)
