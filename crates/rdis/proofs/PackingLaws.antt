-- Counters in bytes, over any width: there and back, the only bytes, and where each bit is. Assumes nothing.
use Prim.Native.Nat.{ℕ, zero, suc, ◌+◌, ◌-◌, ◌*◌, ◌/◌, ◌%◌, ◌^◌, ◌≤◌, ◌<◌}
use mathlib.Core.Path.{◌≡◌, refl, sym, ap, subst, ◌∙◌}
use mathlib.Core.Bool.{Bool, true, false, cond}
use mathlib.Core.List.{List}
use mathlib.Core.Logic.{⊎_elim}
use native.Mathlib.Nat.{mod-lt, mod-eq_of_lt, div-eq_of_lt, div-add-mod, lt_of_lt_of_le, mul-le-mul_left}
use native.Mathlib.Omega.{arith}
use borrow.Author.Tests.{lt-ltb, ltb-true, le-leb, lt-leb}
use lib.Dec.{leb, lit<}
use lib.ListN.{length, get_or, length-append, get_or-append}
use lib.Pow.{pow_pos, pow_mono}
use lib.Seq.{get_or-append-add}
use Rattle.bits.specs.Bits.{list, has, number, digits, Below}
use Rattle.bits.proofs.TestLaws.{lt_or_le}
use Rattle.bits.proofs.BoundLaws.{length_list, get_or_list, list_get_or}
use Rattle.bits.proofs.BitLaws.{has_low, has_high, has_shr, none_high}
use Rattle.bits.proofs.ByteLaws.{below_all, is_bytes}
use Rattle.bits.proofs.DigitLaws.{number_lt, digits_number, number_digits, length_digits, digits_below, get_or_digits, digit_at, pow_mul, digit_bit_lem, byte_bit}
use Rattle.rdis.specs.Block.{Block}
use Rattle.rdis.specs.Packing.{width, bytes_for, in_order, packed, unpacked, counter, spare_clear}
use Rattle.rdis.specs.Cells.{stored}
use Rattle.rdis.specs.Theorems.{Masked, Packs, PackedOnly, FewestBytes, CounterBits, PackedBits, SpareBits, CountersBack, WidthHolds, old_width, OldWidthKept, ThreeBits, ReadBackPacked}
use Rattle.rdis.proofs.LevelLaws.{levels_by_chain}
use Rattle.rdis.proofs.CounterLaws.{counters_at_most}
use Rattle.rdis.proofs.CellLaws.{reading_ext, read_back}

-- ---- one number, in counters and in bytes

number_fits : (w n : ℕ) (cs : List ℕ) → length cs ≡ n → Below (2 ^ w) cs → number (2 ^ w) cs < 2 ^ (w * n)
number_fits w n cs l h = rw (pow_mul, l) at (number_lt (2 ^ w) cs h)

-- the bytes have room
room : (w n : ℕ) → 2 ^ (w * n) ≤ 256 ^ bytes_for w n
unfolding bytes_for
room w n = rw (pow_mul 8 ((w * n + 7) / 8)) (pow_mono (omega arith))

pub fewest_bytes : FewestBytes
unfolding bytes_for
fewest_bytes w n m = (λ h. omega arith, λ h. omega arith)

pub number_packed : (w : ℕ) (cs : List ℕ) → Below (2 ^ w) cs → number 256 (packed w cs) ≡ number (2 ^ w) cs
unfolding packed
number_packed w cs h = number_digits 256 (bytes_for w (length cs)) (number (2 ^ w) cs) (lit< tt) (lt_of_lt_of_le (number_fits w (length cs) cs refl h) (room w (length cs)))

-- the counters of bytes are the digits of their number
unpacked_digits : (w n : ℕ) (bs : List ℕ) → unpacked w n bs ≡ digits (2 ^ w) n (number 256 bs)
unfolding unpacked counter
unpacked_digits w n bs = sym (list_get_or n _ 0 (digits (2 ^ w) n (number 256 bs)) (length_digits (2 ^ w) n (number 256 bs)) (λ t l. get_or_digits (2 ^ w) n (number 256 bs) t l ∙ rw pow_mul))

pub unpack_pack : (w n : ℕ) (cs : List ℕ) → length cs ≡ n → Below (2 ^ w) cs → unpacked w n (packed w cs) ≡ cs
unpack_pack w n cs l h = unpacked_digits w n (packed w cs) ∙ rw (number_packed w cs h, ← l) (digits_number (2 ^ w) cs h)

-- the test gives the bound, and the other way round
pub clear_fits : (w n : ℕ) (bs : List ℕ) → spare_clear w n bs ≡ true → number 256 bs < 2 ^ (w * n)
unfolding spare_clear
clear_fits w n bs h = ltb-true (number 256 bs) (2 ^ (w * n)) h

fits_clear : (w n : ℕ) (bs : List ℕ) → number 256 bs < 2 ^ (w * n) → spare_clear w n bs ≡ true
unfolding spare_clear
fits_clear w n bs h = lt-ltb (number 256 bs) (2 ^ (w * n)) h

pub pack_unpack : (w n : ℕ) (bs : List ℕ) → length bs ≡ bytes_for w n → Below 256 bs → spare_clear w n bs ≡ true → packed w (unpacked w n bs) ≡ bs
unfolding packed
pack_unpack w n bs l h s =
    rw (unpacked_digits, length_digits, number_digits (2 ^ w) n (number 256 bs) (pow_pos w) (rw (← pow_mul w n) at (clear_fits w n bs s)), ← l) (digits_number 256 bs h)

packs : (w n : ℕ) (cs : List ℕ) → length cs ≡ n → Below (2 ^ w) cs → Packs w n cs (packed w cs)
unfolding packed
packs w n cs l h = record {
  size = length_digits 256 (bytes_for w (length cs)) (number (2 ^ w) cs) ∙ ap (bytes_for w) l;
  bytes = digits_below 256 (bytes_for w (length cs)) (number (2 ^ w) cs) (lit< tt);
  spare = fits_clear w n (packed w cs) (rw (number_packed w cs h) (number_fits w n cs l h));
  back = unpack_pack w n cs l h;
}

pub packed_only : PackedOnly
packed_only w n cs bs l h = (
  λ p. sym (pack_unpack w n bs p.size p.bytes p.spare) ∙ ap (packed w) p.back,
  λ e. subst (Packs w n cs) (sym e) (packs w n cs l h),
)

-- ---- bits

pub counter_bits : CounterBits
unfolding counter
counter_bits w t k bs h l = has_low w (number 256 bs / 2 ^ (w * t)) k l ∙ has_shr (number 256 bs) (w * t) k ∙ sym (byte_bit bs (w * t + k) h)

pub packed_bits : PackedBits
packed_bits w cs z h =
    let p = packs w (length cs) cs refl h in
    is_bytes (bytes_for w (length cs)) _ (packed w cs) p.size p.bytes
    (λ q _. byte_bit (packed w cs) q p.bytes ∙ ap (λ x. has x q) (number_packed w cs h) ∙ ap (has (number (2 ^ w) cs)) (sym (div-add-mod q w))
    ∙ sym (digit_bit_lem w (number (2 ^ w) cs) (q / w) (q % w) (mod-lt q z)) ∙ ap (λ x. has x (q % w)) (digit_at (2 ^ w) (q / w) cs h))

pub spare_bits : SpareBits
spare_bits w n bs h = (
  λ e p l. byte_bit bs p h ∙ has_high (w * n) (number 256 bs) p (clear_fits w n bs e) l,
  λ f. fits_clear w n bs (none_high (8 * length bs) (w * n) (number 256 bs) (rw (pow_mul 8 (length bs)) at (number_lt 256 bs h)) (λ p l. sym (byte_bit bs p h) ∙ f p l)),
)

-- ---- counters one by one

-- past the last of them, where no spare bit is 1, is 0
pub counter_past : (w n t : ℕ) (bs : List ℕ) → spare_clear w n bs ≡ true → n ≤ t → counter w bs t ≡ 0
unfolding counter
counter_past w n t bs h l =
    ap (λ x. x % 2 ^ w) (div-eq_of_lt (lt_of_lt_of_le (clear_fits w n bs h) (pow_mono (mul-le-mul_left w l)))) ∙ mod-eq_of_lt (pow_pos w)

-- the first n counters of bytes are as many
pub length_unpacked : (w n : ℕ) (bs : List ℕ) → length (unpacked w n bs) ≡ n
unfolding unpacked
length_unpacked w n bs = length_list n (counter w bs)

pub counter_unpacked : (w n t : ℕ) (bs : List ℕ) → t < n → get_or (unpacked w n bs) t 0 ≡ counter w bs t
unfolding unpacked
counter_unpacked w n t bs l = get_or_list n (counter w bs) 0 t l

pub counter_packed : (w t : ℕ) (cs : List ℕ) → Below (2 ^ w) cs → t < length cs → counter w (packed w cs) t ≡ get_or cs t 0
counter_packed w t cs h l = sym (counter_unpacked w (length cs) t (packed w cs) l) ∙ ap (λ ds. get_or ds t 0) (unpack_pack w (length cs) cs refl h)

module _ (m n : ℕ) (r c : ℕ → ℕ) where
  pub length_in_order : length (in_order m n r c) ≡ m + n
  length_in_order = simp (length-append, length_list)

  pub row_in_order : (i : ℕ) → i < m → get_or (in_order m n r c) i 0 ≡ r i
  row_in_order i h = get_or-append (list m r) (list n c) 0 i (rw length_list h) ∙ get_or_list m r 0 i h

  pub column_in_order : (j : ℕ) → j < n → get_or (in_order m n r c) (m + j) 0 ≡ c j
  column_in_order j h = subst (λ x. get_or (in_order m n r c) (x + j) 0 ≡ c j) (length_list m r) (get_or-append-add (list m r) (list n c) j 0 ∙ get_or_list n c 0 j h)

  pub in_order_below : (b : ℕ) → 0 < b → ((i : ℕ) → i < m → r i < b) → ((j : ℕ) → j < n → c j < b) → Below b (in_order m n r c)
  in_order_below b z h k = below_all (m + n) b (in_order m n r c) z length_in_order (λ t l. ⊎_elim (early t) (late t l) (lt_or_le t m))
    where
      early : (t : ℕ) → t < m → get_or (in_order m n r c) t 0 < b
      early t p = rw (row_in_order t p) (h t p)

      late : (t : ℕ) → t < m + n → m ≤ t → get_or (in_order m n r c) t 0 < b
      late t l p =
          let e : m + (t - m) ≡ t = omega arith in
          subst (λ x. get_or (in_order m n r c) x 0 < b) e (rw (column_in_order (t - m) (omega arith)) (k (t - m) (omega arith)))

  -- the counters of bytes, in their order
  pub in_order_unpacked : (w : ℕ) (bs : List ℕ) → ((i : ℕ) → i < m → r i ≡ counter w bs i) → ((j : ℕ) → j < n → c j ≡ counter w bs (m + j)) → in_order m n r c ≡ unpacked w (m + n) bs
  unfolding unpacked
  in_order_unpacked w bs rows columns = list_get_or (m + n) (counter w bs) 0 (in_order m n r c) length_in_order (λ t l. ⊎_elim
      (λ p. row_in_order t p ∙ rows t p)
      (λ p.
      let q : t - m < n = omega arith in
      let e : m + (t - m) ≡ t = omega arith in
      ap (λ x. get_or (in_order m n r c) x 0) (sym e) ∙ column_in_order (t - m) q ∙ columns (t - m) q ∙ ap (counter w bs) e)
      (lt_or_le t m))

pub counters_back : CountersBack
counters_back w m n r c h k =
    let below = in_order_below m n r c (2 ^ w) (pow_pos w) h k in
    let l = length_in_order m n r c in (
      λ i p. counter_packed w i (in_order m n r c) below (omega arith) ∙ row_in_order m n r c i p,
      λ j p. counter_packed w (m + j) (in_order m n r c) below (omega arith) ∙ column_in_order m n r c j p,
    )

-- ---- widths

width_by : (a b : Bool) → let w : ℕ = cond a 1 (cond b 2 3) in (1 ≤ w) × (w ≤ 3) × (2 ^ w ≤ 8)
width_by true b = (omega arith, omega arith, omega arith)
width_by false true = (omega arith, omega arith, omega arith)
width_by false false = (omega arith, omega arith, omega arith)

pub width_some : (k : ℕ) → 1 ≤ width k
unfolding width
width_some k = (width_by (leb k 1) (leb k 3)).0

pub width_few : (k : ℕ) → width k ≤ 3
unfolding width
width_few k = (width_by (leb k 1) (leb k 3)).1

pub bits_few : (k : ℕ) → 2 ^ width k ≤ 8
unfolding width
bits_few k = (width_by (leb k 1) (leb k 3)).2

pub three_bits : ThreeBits
unfolding width
three_bits k h = rw (lt-leb k 1 (omega arith), lt-leb k 3 (omega arith))

pub width_holds : WidthHolds
unfolding width
width_holds zero h = lit< tt
width_holds (suc zero) h = lit< tt
width_holds (suc (suc zero)) h = lit< tt
width_holds (suc (suc (suc zero))) h = lit< tt
width_holds (suc (suc (suc (suc k)))) h = rw (three_bits (suc (suc (suc (suc k)))) (omega arith)) (omega arith)

old_width_lem : (k : ℕ) → k ≤ 3 → width k ≡ old_width k
unfolding width
old_width_lem k h = rw (le-leb k 3 h)

pub old_width_kept : OldWidthKept
old_width_kept k h =
    let same = old_width_lem k h in
    record { bits = same; packs = λ cs. ap (λ w. packed w cs) same; unpacks = λ n bs. ap (λ w. unpacked w n bs) same; reads = λ m n bs cells. rw same }

-- ---- of a plan

module _ (b : Block) (k l : ℕ) (r c : ℕ → ℕ) (e : Masked b k l r c) where
  plan_lt : (v : ℕ) → k < v → ((i : ℕ) → r i < v) × ((j : ℕ) → c j < v)
  plan_lt v h =
      let (rs, cs) = counters_at_most b k l r c e in
      let most = (levels_by_chain b k l r c e).most in
      (λ i. omega (arith, rs i), λ j. omega (arith, cs j))

  pub plan_below : (v : ℕ) → k < v → Below v (in_order b.rows b.columns r c)
  plan_below v h = let (rs, cs) = plan_lt v h in in_order_below b.rows b.columns r c v (omega arith) (λ i _. rs i) (λ j _. cs j)

  -- the packed counters are as a read wants them
  pub plan_packs : (w : ℕ) → k < 2 ^ w → Packs w (b.rows + b.columns) (in_order b.rows b.columns r c) (packed w (in_order b.rows b.columns r c))
  plan_packs w h = packs w (b.rows + b.columns) (in_order b.rows b.columns r c) (length_in_order b.rows b.columns r c) (plan_below (2 ^ w) h)

  pub plan_counter : (w t : ℕ) → k < 2 ^ w → t < b.rows + b.columns → counter w (packed w (in_order b.rows b.columns r c)) t ≤ k
  plan_counter w t h p =
      omega
      (arith, counter_packed w t (in_order b.rows b.columns r c) (plan_below (2 ^ w) h) (omega (arith, length_in_order b.rows b.columns r c)), plan_below (suc k) (omega arith) t)

pub read_back_packed : ReadBackPacked
read_back_packed b k l r c w bs e h sized q =
    let (rs, cs) = plan_lt b k l r c e (2 ^ w) h in
    let (x, y) = counters_back w b.rows b.columns r c (λ i _. rs i) (λ j _. cs j) in
    rw q (reading_ext b.rows b.columns _ _ r c x y (stored b r c) ∙ read_back b k l r c e sized)
