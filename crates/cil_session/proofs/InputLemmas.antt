-- Bytes that are read one piece after another.
use Rattle.cil_session.proofs.Common.{IsTrue, Result, Ok, Err, IfOk, inl, inr, false, true, Bool, ◌≡◌, ◌≢◌, ℕ, ◌+◌, ◌-◌, ◌<◌, ◌≤◌, ◌^◌, min, nat_le, not, true≢false, List, [], ◌∷◌, ◌++◌, length, take, drop, OnErr, append-nil, length-take, length-drop, count_by, refl, ap, sym, ◌∙◌, subst, append_assoc, length-append, arith, list_all, take_all, take-append-le, take-append-drop, length-take-le, list_all-append, SourceFault, Account, Gives, HasEnded, has_ended, gains-both, gains-none, both_true, Held, Takes, Fits, HasRead, HasStopped, IsOther, IsWholeText, IsShort, stays}
use Rattle.std.proofs.lemmas.List.Sums.{sum_by-append, count_by-le-length}
use Rattle.std.proofs.lemmas.Bool.{eqb-true, le-leb, leb-true}
use Rattle.std.proofs.lemmas.Bool.Decides.{nat_tests}
use lib.Seq.{take-nil, drop-nil}
use Rattle.cil_specs.specs.Place.{is_line_feed}

gives-both : (was mid is : Account) (first second : List ℕ) → Gives was mid first → Gives mid is second → Gives was is (first ++ second)
gives-both was mid is first second a b = record {
  whole = b.whole ∙ a.whole;
  given = gains-both was.given mid.given is.given first second a.given b.given;
  count = omega (arith, a.count, b.count, length-append first second);
  ends = omega (arith, a.ends, b.ends);
}

gives-none : (now : Account) → Gives now now []
gives-none now = record { whole = refl; given = gains-none now.given; count = omega arith; ends = omega arith }

takes-both : (was mid is : Account) (before between held first second : List ℕ) → Takes was mid before first between → Takes mid is between second held → Takes was is before (first ++ second) held
takes-both was mid is before between held first second a b = record {
  fresh = a.fresh ++ b.fresh;
  gives = gives-both was mid is a.fresh b.fresh a.gives b.gives;
  same =
      sym (append_assoc before a.fresh b.fresh) ∙ ap (λ l. l ++ b.fresh) a.same ∙ append_assoc first between b.fresh
      ∙ ap (λ l. first ++ l) b.same ∙ sym (append_assoc first second held);
}

-- nothing was taken
takes-none : (now : Account) (held : List ℕ) → Takes now now held [] held
takes-none now held = record { fresh = []; gives = gives-none now; same = append-nil held }

pub count-both : (first second : List ℕ) → count_by is_line_feed (first ++ second) ≡ count_by is_line_feed first + count_by is_line_feed second
count-both first second = sum_by-append _ first second

either-some : (first second : List ℕ) → first ++ second ≢ [] → (P : Type 0) → (first ≢ [] → P) → (second ≢ [] → P) → P
either-some [] second some P f g = g some
either-some (b ∷ first) second some P f g = f (λ e. omega (arith, ap length e))

-- nothing was read
pub reads-none : (now : Account) (held : Held) → Fits now.count held → HasRead now now held held []
reads-none now held fits = record { takes = takes-none now held.bytes; line_feeds = omega arith; counts = omega arith; fits = fits; small = λ some. absurd (some refl) }

-- a source failed that gave nothing, when nothing was held back
pub stops-at_once : (old new : Account) (held kept : Held) → new ≡ record old { failures = new.failures } → held.bytes ≡ [] → held.line_feeds ≤ old.count → kept.bytes ≡ [] → kept.line_feeds ≡ held.line_feeds → HasStopped old new held kept []
stops-at_once old new held kept is none counted empty feeds = record {
  reads = record {
    takes = record {
      fresh = [];
      gives = record { whole = ap (λ a. a.whole) is; given = ap (λ a. a.given) is ∙ gains-none old.given; count = omega (arith, ap (λ a. a.count) is); ends = omega (arith, ap (λ a. a.ends) is) };
      same = append-nil held.bytes ∙ none ∙ sym empty;
    };
    line_feeds = omega (arith, feeds);
    counts = omega (arith, ap (λ a. a.count) is, ap length none, ap length empty);
    fits = record { within = omega (arith, counted, ap (λ a. a.count) is, feeds, ap length empty); small = λ some. absurd (some empty) };
    small = λ some. absurd (some refl);
  };
  none = empty;
}

-- bytes that were counted stay counted below the bound when no more were counted
still-small : (some all more held : ℕ) → some < 2 ^ 64 → all + more ≡ some + held → held ≡ 0 → all < 2 ^ 64
still-small some all more held small counts none = omega (arith, small, counts, none)

pub reads-both : (was mid is : Account) (old between new : Held) (first second : List ℕ) → HasRead was mid old between first → HasRead mid is between new second → HasRead was is old new (first ++ second)
reads-both was mid is old between new first second a b = record {
  takes = takes-both was mid is old.bytes between.bytes new.bytes first second a.takes b.takes;
  line_feeds = omega (arith, a.line_feeds, b.line_feeds, count-both first second);
  counts = omega (arith, a.counts, b.counts, length-append first second);
  fits = b.fits;
  small = λ there. either-some first second there (is.count < 2 ^ 64) (λ f. later f second refl new.bytes refl) b.small;
}
  where
    later : first ≢ [] → (l : List ℕ) → second ≡ l → (k : List ℕ) → new.bytes ≡ k → is.count < 2 ^ 64
    later f (c ∷ l) e k q = b.small (λ none. omega (arith, ap length (sym e ∙ none)))
    later f [] e (c ∷ k) q = b.fits.small (λ none. omega (arith, ap length (sym q ∙ none)))
    later f [] e [] q = still-small mid.count is.count (length between.bytes) (length second + length new.bytes) (a.small f) (omega (arith, b.counts)) (omega (arith, ap length e, ap length q))

pub reads-then_none : (was mid is : Account) (old between new : Held) (read : List ℕ) → HasRead was mid old between read → HasRead mid is between new [] → HasRead was is old new read
reads-then_none was mid is old between new read a b = subst (HasRead was is old new) (append-nil read) (reads-both was mid is old between new read [] a b)

-- where nothing is held back, the buffer's range is empty
pub empty-range : (bytes buffer : List ℕ) (start end : ℕ) → take (end - start) (drop start bytes) ≡ [] → end ≤ length bytes → take (end - start) (drop start buffer) ≡ []
empty-range bytes buffer start end none within = ap (λ n. take n (drop start buffer)) (let no : end - start ≡ 0 = omega (arith, within, ap length none, length-take (end - start) (drop start bytes), length-drop start bytes) in no)

-- what was read before the source failed, and then
pub stops-later : (was mid is : Account) (old between new : Held) (first second : List ℕ) → HasRead was mid old between first → HasStopped mid is between new second → HasStopped was is old new (first ++ second)
stops-later was mid is old between new first second a b = record { reads = reads-both was mid is old between new first second a b.reads; none = b.none }

pub stops-then_none : (was mid is : Account) (old between new : Held) (read : List ℕ) → HasRead was mid old between read → HasStopped mid is between new [] → HasStopped was is old new read
stops-then_none was mid is old between new read a b = subst (HasStopped was is old new) (append-nil read) (stops-later was mid is old between new read [] a b)

-- a beginning of a text was read before the source failed
pub stops-in_text : {E : Type 0} (r : Result Bool E) (was mid is : Account) (old between new : Held) (len : ℕ) (first : List ℕ) → HasRead was mid old between first → length first ≡ len
    → OnErr r (HasStopped mid is between new []) → OnErr r ((read : List ℕ) × HasStopped was is old new read × (length read ≤ len))
stops-in_text (Ok _) was mid is old between new len first a size b = tt
stops-in_text (Err _) was mid is old between new len first a size b = (first, stops-then_none was mid is old between new first a b, omega (arith, size))

-- a byte that is no line feed stays on its line
pub stays-byte : (b : ℕ) → (b ≡ 10 → ⊥) → stays b ≡ true
stays-byte b other = by (is_line_feed b) refl
  where
    by : (c : Bool) → is_line_feed b ≡ c → not (is_line_feed b) ≡ true
    by true e = absurd (other (eqb-true b 10 e))
    by false e = ap not e

pub stays-more : (line : List ℕ) (b : ℕ) → list_all stays line ≡ true → (b ≡ 10 → ⊥) → list_all stays (line ++ b ∷ []) ≡ true
stays-more line b all other = list_all-append stays line (b ∷ []) ∙ both_true (list_all stays line) (list_all stays (b ∷ [])) all (both_true (stays b) true (stays-byte b other) refl)

-- bytes that are held back are read with nothing taken
advances : (now : Account) (old new : Held) (n : ℕ) → Fits now.count old → n ≤ length old.bytes → new.bytes ≡ drop n old.bytes
    → new.line_feeds ≡ old.line_feeds + count_by is_line_feed (take n old.bytes) → HasRead now now old new (take n old.bytes)
advances now old new n fits within bytes feeds = record {
  takes = record {
    fresh = [];
    gives = gives-none now;
    same = append-nil old.bytes ∙ sym (take-append-drop n old.bytes) ∙ ap (λ l. take n old.bytes ++ l) (sym bytes);
  };
  line_feeds = feeds;
  counts = omega (arith, within, ap length bytes, length-drop n old.bytes, length-take-le n old.bytes within);
  fits = record {
    within = omega (arith, feeds, fits.within, ap length bytes, length-drop n old.bytes, length-take-le n old.bytes within, count_by-le-length is_line_feed (take n old.bytes));
    small = λ there. fits.small (λ none. there (bytes ∙ ap (drop n) none ∙ drop-nil n));
  };
  small = λ there. fits.small (λ none. there (ap (take n) none ∙ take-nil n));
}

-- what was read, then bytes that come, and then some of these read
pub reads-on : (was mid is : Account) (old between more new : Held) (read : List ℕ) (n : ℕ) → HasRead was mid old between read → HasRead mid is between more [] → n ≤ length more.bytes
    → new.bytes ≡ drop n more.bytes → new.line_feeds ≡ more.line_feeds + count_by is_line_feed (take n more.bytes) → HasRead was is old new (read ++ take n more.bytes)
reads-on was mid is old between more new read n a b within bytes feeds =
    reads-both was mid is old between new read (take n more.bytes) a
    (reads-both mid is is between more new [] (take n more.bytes) b (advances is more new n b.fits within bytes feeds))

-- the bytes of a text, and then what is no line feed
short-text : (len : ℕ) (first read : List ℕ) (ended : Bool) (held : List ℕ) → length first ≡ len → IsOther read ended held → IsShort len (first ++ read) ended held
short-text len first read ended held size (inl none) = inl (omega (arith, size, length-append first read, ap length none.0), none.1, none.2)
short-text len first read ended held size (inr other) = inr (first, other.0, ap (λ l. first ++ l) other.1, size, other.2)

-- the bytes of a text, and then its line feed, or not
pub text-then : (r : Result Bool SourceFault) (was mid now : Account) (old between new : Held) (len : ℕ) (first : List ℕ) (ended : Bool) → HasRead was mid old between first → length first ≡ len
    → IfOk r (λ is. IsTrue is → HasRead mid now between new (10 ∷ [])) → IfOk r (λ is. is ≡ false → (read : List ℕ) × HasRead mid now between new read × IsOther read ended new.bytes)
    → IfOk r (λ whole. (read : List ℕ) × HasRead was now old new read × IsWholeText whole len first read ended new.bytes)
text-then (Err _) was mid now old between new len first ended a size is_end is_other = tt
text-then (Ok true) was mid now old between new len first ended a size is_end is_other = (first ++ 10 ∷ [], reads-both was mid now old between new first (10 ∷ []) a (is_end refl), (refl, size))
text-then (Ok false) was mid now old between new len first ended a size is_end is_other =
    let other = is_other refl in
    (first ++ other.0, reads-both was mid now old between new first other.0 a other.1, short-text len first other.0 ended new.bytes size other.2)

-- an end was told once more
pub ended-within : (was old new is : Account) → was.ends ≤ old.ends → HasEnded old new → new.ends ≤ is.ends → HasEnded was is
ended-within was old new is before (inl rose) after = inl (omega (arith, before, rose, after))
ended-within was old new is before (inr greatest) after = inr (omega (arith, greatest, after))

pub ended-now : (old new : Account) → HasEnded old new → IsTrue (has_ended new)
ended-now old new (inl rose) = le-leb 1 new.ends (omega (arith, rose))
ended-now old new (inr greatest) = le-leb 1 new.ends (omega (arith, greatest))

no-bytes : (bytes : List ℕ) → length bytes ≡ 0 → bytes ≡ []
no-bytes [] e = refl
no-bytes (b ∷ bytes) e = absurd (omega (arith, e))

-- the first bytes of a text, of which some others come behind them
take-front : (len most : ℕ) (first others : List ℕ) → length first ≡ min len most → length others ≤ len - min len most → take most (first ++ others) ≡ first
take-front len most first others size more = by (nat_le len most) refl
  where
    by : (b : Bool) → nat_le len most ≡ b → take most (first ++ others) ≡ first
    by true e =
        let short = leb-true len most e in
        take_all most (first ++ others) (omega (arith, short, size, more, length-append first others)) ∙ ap (λ l. first ++ l) (no-bytes others (omega (arith, short, more))) ∙ append-nil first
    by false e =
        let all : length first ≡ most = grind (arith, e, size, nat_tests) in
        take-append-le most first others (omega (arith, all)) ∙ take_all most first (omega (arith, all))

-- the first bytes of a text came to a vector, and then the others were left aside
pub front-then : (r : Result Bool SourceFault) (was mid now : Account) (old between new : Held) (len most : ℕ) (first before after : List ℕ) (ended : Bool) → HasRead was mid old between first → length first ≡ min len most → after ≡ before ++ first
    → IfOk r (λ whole. (read : List ℕ) × (part : List ℕ) × HasRead mid now between new read × IsWholeText whole (len - min len most) part read ended new.bytes)
    → IfOk r (λ whole. (read : List ℕ) × (part : List ℕ) × HasRead was now old new read × IsWholeText whole len part read ended new.bytes × (whole ≡ true → after ≡ before ++ take most part))
front-then (Err _) was mid now old between new len most first before after ended a size is then = tt
front-then (Ok true) was mid now old between new len most first before after ended a size is (read, part, b, whole) = (
  first ++ read,
  first ++ part,
  reads-both was mid now old between new first read a b,
  (ap (λ l. first ++ l) whole.0 ∙ sym (append_assoc first part (10 ∷ [])), omega (arith, size, whole.1, length-append first part)),
  λ e. is ∙ ap (λ l. before ++ l) (sym (take-front len most first part size (omega (arith, whole.1)))),
)
front-then (Ok false) was mid now old between new len most first before after ended a size is (read, part, b, inl short) = (
  first ++ read,
  part,
  reads-both was mid now old between new first read a b,
  inl (omega (arith, size, short.0, length-append first read), short.1, short.2),
  λ e. absurd (true≢false (sym e)),
)
front-then (Ok false) was mid now old between new len most first before after ended a size is (read, part, b, inr other) = (
  first ++ read,
  part,
  reads-both was mid now old between new first read a b,
  inr (first ++ other.0, other.1, ap (λ l. first ++ l) other.2 ∙ sym (append_assoc first other.0 (other.1 ∷ [])), omega (arith, size, other.3, length-append first other.0), other.4),
  λ e. absurd (true≢false (sym e)),
)

-- the source failed behind the first bytes of a text
pub stops-behind_front : {E : Type 0} (r : Result Bool E) (was mid is : Account) (old between new : Held) (len most : ℕ) (first before after : List ℕ) → HasRead was mid old between first → length first ≡ min len most → after ≡ before ++ first
    → OnErr r ((read : List ℕ) × HasStopped mid is between new read × (length read ≤ len - min len most)) → OnErr r ((read : List ℕ) × HasStopped was is old new read × (length read ≤ len) × (after ≡ before ++ take most read))
stops-behind_front (Ok _) was mid is old between new len most first before after a size came b = tt
stops-behind_front (Err _) was mid is old between new len most first before after a size came (read, stops, within) = (
  first ++ read,
  stops-later was mid is old between new first read a stops,
  omega (arith, size, within, length-append first read),
  came ∙ ap (λ l. before ++ l) (sym (take-front len most first read size within)),
)

-- or in them
pub stops-in_front : (was is : Account) (old new : Held) (len most : ℕ) (read before after : List ℕ) → HasStopped was is old new read → after ≡ before ++ read → length read < min len most → (more : List ℕ) × HasStopped was is old new more × (length more ≤ len) × (after ≡ before ++ take most more)
stops-in_front was is old new len most read before after stops came within = (read, stops, omega (arith, within), came ∙ ap (λ l. before ++ l) (sym (take_all most read (omega (arith, within)))))
