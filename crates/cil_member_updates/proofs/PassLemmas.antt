-- Two passes over the set statements of two policies, at one attribute and type.
use Rattle.cil_member_updates.proofs.Common.{◌≡◌, ◌+◌, ◌<◌, ◌≤◌, ℕ, List, Option, arith, sum_below, alone, across, ArePlaces, sum-more, sum-most, sum-part, sum-rest, sum-sides, alone-most}

module _ (f : ℕ → ℕ) (n : ℕ) (ahead : List (Option ℕ)) where
  -- what a set statement that goes gave is still counted
  pub gone-counted : (count i : ℕ) → i < n → count + sum_below (alone f ahead) i ≡ sum_below f n → alone f ahead i ≤ count
  gone-counted count i within is =
      let part = sum-part (alone f ahead) i n within in
      let most = sum-most (alone f ahead) f n (λ k h. alone-most f ahead k) in
      omega (arith, part, most, is)

  pub gone-more : (count more i : ℕ) → count + sum_below (alone f ahead) i ≡ sum_below f n → more + alone f ahead i ≡ count → more + sum_below (alone f ahead) (i + 1) ≡ sum_below f n
  gone-more count more i is step = omega (arith, is, step, sum-more (alone f ahead) i)

  -- behind the last one those that stayed are counted, from the other side
  pub gone-all : (back : List (Option ℕ)) (m : ℕ) → ArePlaces n m ahead back → (count : ℕ) → count + sum_below (alone f ahead) n ≡ sum_below f n → count ≡ sum_below (across f back) m
  gone-all back m places count is = let sides = sum-sides f n ahead back m places in omega (arith, is, sides)

module _ (was is : ℕ → ℕ) (m : ℕ) where
  -- what a set statement gave that is looked at is still counted
  pub stayed-counted : (count j : ℕ) → j < m → count + sum_below was j ≡ sum_below is j + sum_below was m → was j ≤ count
  stayed-counted count j within e = let part = sum-part was j m within in omega (arith, part, e)

  pub renewed-more : (count more j : ℕ) → count + sum_below was j ≡ sum_below is j + sum_below was m → more + was j ≡ count + is j → more + sum_below was (j + 1) ≡ sum_below is (j + 1) + sum_below was m
  renewed-more count more j e step = omega (arith, e, step, sum-more was j, sum-more is j)

  -- where nothing is to come the count is that of the new policy
  pub settled : (count j : ℕ) → j ≤ m → count + sum_below was j ≡ sum_below is j + sum_below was m → ((k : ℕ) → j ≤ k → k < m → was k ≡ 0) → ((k : ℕ) → j ≤ k → k < m → is k ≡ 0) → count ≡ sum_below is m
  settled count j within e no_was no_is = omega (arith, e, sum-rest was j m within no_was, sum-rest is j m within no_is)
