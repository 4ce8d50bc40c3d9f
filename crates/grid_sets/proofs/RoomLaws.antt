-- Laws of the promises on counters in bytes: how many bytes there are, that the counters fit, and which are accepted. Assumes nothing.
use Prim.Native.Nat.{ℕ, ◌+◌, ◌^◌, ◌<◌, ◌≤◌}
use mathlib.Core.Path.{◌≡◌, refl, sym, ◌∙◌}
use mathlib.Core.Bool.{Bool, true, false, not, cond, ◌&&◌}
use mathlib.Core.List.{List}
use native.Mathlib.Omega.{arith}
use borrow.Author.Tests.{leb-true, ltb-true, eqb-true, eq-eqb, le-leb, lt-ltb, ltb-false}
use lib.Dec.{eqb, leb, ltb}
use lib.ListN.{get_or}
use lib.Pow.{pow_pos}
use Rattle.bits.specs.Bits.{has, Below}
use Rattle.bits.proofs.TestLaws.{and_in, and_left, and_right}
use Rattle.bits.proofs.BoundLaws.{none_below, sum_num_le}
use Rattle.rdis.specs.Packing.{width, bytes_for, in_order, counter, above}
use Rattle.rdis.proofs.PackingLaws.{in_order_below, bits_few}
use Rattle.grid_sets.specs.Sets.{times}
use Rattle.grid_sets.specs.Promises.{fit, roomy, packable}

-- ---- lengths

fit_few : (k n bytes : ℕ) → n ≤ 128 → eqb bytes (bytes_for (width k) n) ≡ fit k n bytes
unfolding fit
fit_few k n bytes h = rw (le-leb n 128 h)

fit_length : (k n bytes : ℕ) → fit k n bytes ≡ true → bytes ≡ bytes_for (width k) n
unfolding fit
fit_length k n bytes h = eqb-true bytes (bytes_for (width k) n) (and_right (leb n 128) _ h)

-- there are few lines, and as many bytes as their counters take
pub record Room (k m n bytes : ℕ) : Type 0 where
  pub rows : m ≤ 64
  pub columns : n ≤ 64
  pub size : bytes ≡ bytes_for (width k) (m + n)

pub lines_few : (m n : ℕ) → leb m 64 && leb n 64 ≡ true → (m ≤ 64) × (n ≤ 64)
lines_few m n h = (leb-true m 64 (and_left _ _ h), leb-true n 64 (and_right (leb m 64) _ h))

pub many_lines : (k m n bytes : ℕ) → leb m 64 && leb n 64 ≡ false → false ≡ roomy k m n bytes
unfolding roomy
many_lines k m n bytes h = rw h

pub few_lines : (k m n bytes : ℕ) → leb m 64 && leb n 64 ≡ true → fit k (m + n) bytes ≡ roomy k m n bytes
unfolding roomy
few_lines k m n bytes h = rw h

pub has_room : (k m n bytes : ℕ) → roomy k m n bytes ≡ true → Room k m n bytes
unfolding roomy
has_room k m n bytes h =
    let (hm, hn) = lines_few m n (and_left _ _ h) in
    record { rows = hm; columns = hn; size = fit_length k (m + n) bytes (and_right (leb m 64 && leb n 64) _ h) }

pub is_roomy_lem : (k m n bytes : ℕ) → Room k m n bytes → roomy k m n bytes ≡ true
is_roomy_lem k m n bytes r =
    sym (few_lines k m n bytes (and_in (le-leb m 64 r.rows) (le-leb n 64 r.columns)))
    ∙ sym (fit_few k (m + n) bytes (omega (arith, r.rows, r.columns))) ∙ eq-eqb bytes (bytes_for (width k) (m + n)) r.size

-- ---- from bytes to sets

-- counters that are accepted have no spare bit that is 1, and none is above k
pub accepts : (s a : Bool) → cond {A = ℕ} (not s) 3 (cond a 4 0) ≡ 0 → (s ≡ true) × (a ≡ false)
accepts true true e = absurd (omega arith)
accepts true false e = (refl, refl)
accepts false a e = absurd (omega arith)

pub none_above_k : (k n : ℕ) (bs : List ℕ) → above k n bs ≡ false → (t : ℕ) → t < n → counter (width k) bs t ≤ k
unfolding above
none_above_k k n bs h t l = omega (arith, ltb-false k (counter (width k) bs t) (none_below n (λ t. ltb k (counter (width k) bs t)) h t l))

-- ---- from sets to bytes

pub can_pack : (k m n used bytes : ℕ) → used < 2 ^ width k → Room k m n bytes → packable k m n used bytes ≡ true
unfolding packable
can_pack k m n used bytes h r = and_in (lt-ltb used (2 ^ width k) h) (is_roomy_lem k m n bytes r)

pub packs : (k m n used bytes : ℕ) → packable k m n used bytes ≡ true → (used < 2 ^ width k) × Room k m n bytes
unfolding packable
packs k m n used bytes h = (ltb-true used (2 ^ width k) (and_left _ _ h), has_room k m n bytes (and_right (ltb used (2 ^ width k)) _ h))

-- what a counter's bits hold is less than there is room for
pub levels_few : (k used : ℕ) → used < 2 ^ width k → used ≤ 8
levels_few k used h = omega (arith, bits_few k)

-- no counter is above the number of levels
pub times_few : (sets : List ℕ) (n i : ℕ) → times sets n i ≤ n
unfolding times
times_few sets n i = sum_num_le n (λ m. has (get_or sets m 0) i)

pub counters_fit : (k m n used : ℕ) (rows columns : List ℕ) → used < 2 ^ width k → Below (2 ^ width k) (in_order m n (times rows used) (times columns used))
counters_fit k m n used rows columns h =
    in_order_below m n (times rows used) (times columns used) (2 ^ width k) (pow_pos (width k)) (λ i _. omega (arith, times_few rows used i)) (λ j _. omega (arith, times_few columns used j))
