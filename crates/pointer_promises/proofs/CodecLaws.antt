-- What is found in metadata that was encoded, and what is encoded of metadata that was found. Assumes nothing.
use mathlib.Core.Path.{◌≡◌, refl, sym, ap, ◌∙◌}
use mathlib.Core.Bool.{true, false, not, ◌&&◌}
use mathlib.Core.List.{List}
use mathlib.Core.Logic.{⊎_elim}
use Prim.Native.Nat.{ℕ, zero, suc, ◌+◌, ◌-◌, ◌*◌, ◌/◌, ◌%◌, ◌≤◌, ◌<◌}
use native.Mathlib.Nat.{eq-or-lt_of_le}
use native.Mathlib.Omega.{arith}
use borrow.Author.Tests.{le-leb, lt-leb, lt-ltb, le-ltb, eqb-true, eq-eqb, ne_eqb, not-false, eqb-false, not-true}
use lib.Dec.{eqb, ltb, leb}
use lib.ListN.{length, get_or}
use Rattle.bits.specs.Bits.{num, has, at, Below}
use Rattle.bits.proofs.TestLaws.{true_or_false, lt_or_le, eqb_same, clash, same_test}
use Rattle.bits.proofs.BoundLaws.{some_none, sum_ext, sum_below, list_get_or, some_out}
use Rattle.bits.proofs.BitLaws.{has_zero, has_ext, some_has}
use Rattle.bits.proofs.ByteLaws.{at_bytes, length_bytes, is_bytes, at_past}
use Rattle.pointer_promises.specs.Pointer.{size, entry, spare, active, unary, idle, formed, held, repeats, slot, metadata_bit, encode, verdict}
use Rattle.pointer_promises.specs.Refusals.{Spare}
use Rattle.pointer_promises.specs.Theorems.{Fits}
use Rattle.pointer_promises.proofs.MetadataLaws.{has_entry, entry_lt, has_unary, idle_lt, idle_last, idle_other, active_full, active_unary, active_part, length_held, get_or_held, formed_idle}
use Rattle.pointer_promises.proofs.FormedLaws.{spare_iff}

-- ---- the spare bits are one entry more, whose other bits lie past the end

pub spare_entry : (n : ℕ) (m : List ℕ) → length m ≡ size n → spare n m ≡ not (eqb (entry m n) 0)
spare_entry n m l = same_test (spare n m) (not (eqb (entry m n) 0)) (λ h. there ((spare_iff n m l).0 h)) back
  where
    there : Spare n m → not (eqb (entry m n) 0) ≡ true
    there (p, g, h) =
        let k : p < 8 * size n = ⊎_elim (λ k. k) (λ k. clash h (at_past m p (omega arith))) (lt_or_le p (8 * size n)) in
        let j : p - (1 + 10 * n) < 10 = omega arith in
        let e : 1 + 10 * n + (p - (1 + 10 * n)) ≡ p = omega arith in
        let b : has (entry m n) (p - (1 + 10 * n)) ≡ true = has_entry m n (p - (1 + 10 * n)) j ∙ ap (at m) e ∙ h in
        ap not (ne_eqb (entry m n) 0 (λ z. clash b (ap (λ x. has x (p - (1 + 10 * n))) z ∙ has_zero (p - (1 + 10 * n)))))

    back : not (eqb (entry m n) 0) ≡ true → spare n m ≡ true
    back h =
        let (k, q, b) = some_out 10 (has (entry m n)) ((some_has 10 (entry m n) (entry_lt m n)).1 (eqb-false (entry m n) 0 (not-true (eqb (entry m n) 0) h))) in
        (spare_iff n m l).1 (1 + 10 * n + k, omega arith, sym (has_entry m n k q) ∙ b)

-- ---- what stands in an entry's place

pub slot_in : (n : ℕ) (es : List ℕ) (e : ℕ) → e < length es → slot n es e ≡ get_or es e 0
unfolding slot
slot_in n es e h = rw (lt-ltb e (length es) h)

pub slot_idle : (n : ℕ) (es : List ℕ) (e : ℕ) → length es ≤ e → slot n es e ≡ idle n (length es) e
unfolding slot
slot_idle n es e h = rw (le-ltb e (length es) h)

pub slot_lt : (n : ℕ) (es : List ℕ) (e : ℕ) → Below 1024 es → slot n es e < 1024
slot_lt n es e b = ⊎_elim (λ h. rw (slot_in n es e h) (b e)) (λ h. rw (slot_idle n es e h) (idle_lt n (length es) e)) (lt_or_le e (length es))

pub length_encode : (n : ℕ) (es : List ℕ) → length (encode n es) ≡ size n
unfolding encode
length_encode n es = length_bytes (size n) (metadata_bit n es)

-- bit k of entry e
metadata_bit_lem : (n : ℕ) (es : List ℕ) (e k : ℕ) → k < 10 → metadata_bit n es (1 + 10 * e + k) ≡ has (slot n es e) k
unfolding metadata_bit
metadata_bit_lem n es e k h =
    let s : 1 + 10 * e + k ≡ suc (10 * e + k) = omega arith in
    let d : (10 * e + k) / 10 ≡ e = omega arith in
    let r : (10 * e + k) % 10 ≡ k = omega arith in
    ap (metadata_bit n es) s ∙ rw (d, r)

-- ---- what was encoded is found again

module _ (n : ℕ) (es : List ℕ) (s : Fits n es) where
  at_encode : (p : ℕ) → p < 8 * size n → at (encode n es) p ≡ metadata_bit n es p
  unfolding encode
  at_encode p h = at_bytes (size n) (metadata_bit n es) p h

  entry_slot : (e : ℕ) → e < n → entry (encode n es) e ≡ slot n es e
  entry_slot e h =
      has_ext 10 (entry (encode n es) e) (slot n es e) (entry_lt (encode n es) e) (slot_lt n es e s.small)
      (λ k q. has_entry (encode n es) e k q ∙ at_encode (1 + 10 * e + k) (omega arith) ∙ metadata_bit_lem n es e k q)

  pub entry_encode : (e : ℕ) → e < length es → entry (encode n es) e ≡ get_or es e 0
  entry_encode e h = entry_slot e (omega (arith, s.few)) ∙ slot_in n es e h

  full_encode : at (encode n es) 0 ≡ eqb (length es) n
  unfolding metadata_bit
  full_encode = at_encode 0 (omega (arith, s.range.0))

  pub active_encode : active n (encode n es) ≡ length es
  active_encode = ⊎_elim all part (eq-or-lt_of_le s.few)
    where
      all : length es ≡ n → active n (encode n es) ≡ length es
      all e = active_full n (encode n es) (full_encode ∙ eq-eqb (length es) n e) ∙ sym e

      part : length es < n → active n (encode n es) ≡ length es
      part l =
          let m = encode n es in
          let last : entry m (n - 1) ≡ unary (length es) = entry_slot (n - 1) (omega arith) ∙ slot_idle n es (n - 1) (omega arith) ∙ idle_last n (length es) (n - 1) (omega arith) in
          active_unary n m (full_encode ∙ ne_eqb (length es) n (omega arith))
          ∙ sum_ext (n - 1) (λ k. num (has (entry m (n - 1)) k)) (λ k. num (ltb k (length es)))
          (λ k h. ap num (ap (λ x. has x k) last ∙ has_unary (length es) k (omega (arith, s.range.1))))
          ∙ sum_below (n - 1) (length es) ∙ omega arith

  spare_encode : spare n (encode n es) ≡ false
  unfolding spare
  spare_encode = some_none (8 * size n) (λ p. leb (1 + 10 * n) p && at (encode n es) p) (λ p h. ⊎_elim (λ l. rw (lt-leb (1 + 10 * n) p l)) (past p h) (lt_or_le p (1 + 10 * n)))
    where
      past : (p : ℕ) → p < 8 * size n → 1 + 10 * n ≤ p → leb (1 + 10 * n) p && at (encode n es) p ≡ false
      past p h l =
          let e : p ≡ 1 + 10 * n + (p - (1 + 10 * n)) = omega arith in
          let z : slot n es n ≡ 0 = slot_idle n es n s.few ∙ idle_other n (length es) n (λ q. omega arith) in
          rw (le-leb (1 + 10 * n) p l)
          (at_encode p h ∙ ap (metadata_bit n es) e ∙ metadata_bit_lem n es n (p - (1 + 10 * n)) (omega arith)
          ∙ ap (λ x. has x (p - (1 + 10 * n))) z ∙ has_zero (p - (1 + 10 * n)))

  pub formed_encode : formed n (encode n es) ≡ true
  unfolding formed
  formed_encode = rw active_encode (ap not (some_none n (λ e. leb (length es) e && not (eqb (entry (encode n es) e) (idle n (length es) e))) right))
    where
      right : (e : ℕ) → e < n → leb (length es) e && not (eqb (entry (encode n es) e) (idle n (length es) e)) ≡ false
      right e h =
          ⊎_elim
          (λ l. rw (lt-leb (length es) e l))
          (λ l. rw (le-leb (length es) e l, entry_slot e h, slot_idle n es e l, eqb_same (idle n (length es) e)))
          (lt_or_le e (length es))

  pub held_encode : held n (encode n es) ≡ es
  unfolding held
  held_encode = rw active_encode (sym (list_get_or (length es) (entry (encode n es)) 0 es refl (λ e h. sym (entry_encode e h))))

  pub verdict_encode : repeats es ≡ false → verdict n (encode n es) ≡ 0
  unfolding verdict
  verdict_encode d = rw (spare_encode, formed_encode, held_encode, d)

-- ---- what was found is encoded again

module _ (n : ℕ) (m : List ℕ) (least : 1 ≤ n) (long : length m ≡ size n) (clean : spare n m ≡ false) (ok : formed n m ≡ true) where
  entry_held : (e : ℕ) → e ≤ n → entry m e ≡ slot n (held n m) e
  entry_held e h =
      ⊎_elim
      (λ l. sym (slot_in n (held n m) e (rw length_held l) ∙ get_or_held n m e l))
      (λ l. ⊎_elim last (λ k. formed_idle n m ok e l k) (eq-or-lt_of_le h) ∙ sym (slot_idle n (held n m) e (rw length_held l) ∙ ap (λ a. idle n a e) (length_held n m)))
      (lt_or_le e (active n m))
    where
      last : e ≡ n → entry m e ≡ idle n (active n m) e
      last q =
          ap (entry m) q ∙ eqb-true (entry m n) 0 (not-false (eqb (entry m n) 0) (sym (spare_entry n m long) ∙ clean))
          ∙ sym (idle_other n (active n m) e (λ z. omega arith))

  bit_held : (p : ℕ) → p < 8 * size n → at m p ≡ metadata_bit n (held n m) p
  unfolding metadata_bit
  bit_held zero h =
      ⊎_elim
      (λ t. t ∙ sym (eq-eqb (length (held n m)) n (length_held n m ∙ active_full n m t)))
      (λ t. t ∙ sym (ne_eqb (length (held n m)) n (omega (arith, length_held n m, active_part n m least t))))
      (true_or_false (at m 0))
  bit_held (suc p) h =
      let e : suc p ≡ 1 + 10 * (p / 10) + p % 10 = omega arith in
      ap (at m) e ∙ sym (has_entry m (p / 10) (p % 10) (omega arith)) ∙ ap (λ x. has x (p % 10)) (entry_held (p / 10) (omega arith))

  pub encode_held : Below 256 m → encode n (held n m) ≡ m
  unfolding encode
  encode_held b = sym (is_bytes (size n) (metadata_bit n (held n m)) m long b bit_held)
