-- The steps of encoding: the metadata's bits as digits of ten bits, and bytes cut out of them. Assumes nothing.
use mathlib.Core.Path.{◌≡◌, refl, sym, ap, ap₂, ◌∙◌}
use mathlib.Core.Bool.{Bool, true, false, cond}
use mathlib.Core.List.{List, [], ◌∷◌, ◌++◌, map}
use mathlib.Core.Logic.{◌≢◌, ⊎_elim}
use Prim.Native.Nat.{ℕ, zero, suc, ◌+◌, ◌-◌, ◌*◌, ◌/◌, ◌%◌, ◌^◌, ◌≤◌, ◌<◌}
use native.Mathlib.Nat.{mod-lt}
use native.Mathlib.Omega.{arith}
use native.Mathlib.Decide.{ℕ_discrete}
use borrow.Author.Tests.{eq-eqb, ne_eqb}
use lib.Dec.{eqb}
use lib.ListN.{length, get_or, take, set, replicate, length-append, length-map, length-set, length-replicate, get_or-append}
use lib.Seq.{get_or_at, get_or-set_same, get_or-set_other}
use Rattle.bits.specs.Bits.{num, list, has, at, bytes, number, Below}
use Rattle.bits.proofs.TestLaws.{num_eqb, lt_or_le}
use Rattle.bits.proofs.BitLaws.{is_word, one_shl}
use Rattle.bits.proofs.ByteLaws.{get_or_zeros, bytes_ext, bytes_more}
use Rattle.bits.proofs.DigitLaws.{window_bit}
use Rattle.pointer_promises.specs.Pointer.{size, unary, renewed, slot, metadata_bit, encode}
use Rattle.pointer.specs.Steps.{digit, digit_bit, Noted}
use Rattle.pointer_promises.proofs.EntryLaws.{get_or_renewed}
use Rattle.pointer_promises.proofs.MetadataLaws.{unary_ones, idle_last, idle_other}
use Rattle.pointer_promises.proofs.CodecLaws.{slot_in, slot_idle, slot_lt}

-- ---- entries

-- the bit of an entry from the byte in which it stands
pub renewed_cut : (wanted : List ℕ) (e x : ℕ) → x ≡ get_or wanted (e % 512 / 8) 0 → e % 512 + 512 * (x / 2 ^ (e % 512 % 8) % 2) ≡ renewed wanted e
unfolding renewed at has
renewed_cut wanted e x h = ap (λ y. e % 512 + 512 * y) (sym (num_eqb (x / 2 ^ (e % 512 % 8) % 2) (omega arith)) ∙ ap (λ y. num (eqb (y / 2 ^ (e % 512 % 8) % 2) 1)) h)

module _ (wanted : List ℕ) where
  pub noted_start : Noted wanted (replicate 12 0) []
  noted_start = record { long = length-replicate {A = ℕ} 12 0; first = get_or_zeros 12 0; entries = λ e h. absurd (omega arith); rest = λ e _. get_or_zeros 12 (suc e) }

  -- one entry more, which names p
  pub noted_more : (ds es : List ℕ) (a p v : ℕ) → length es ≡ a → a < 11 → v ≡ renewed wanted p → Noted wanted ds es → Noted wanted (set ds (a + 1) v) (es ++ (p ∷ []))
  noted_more ds es a p v l k h c =
      let n : length (es ++ (p ∷ [])) ≡ a + 1 = length-append es (p ∷ []) ∙ ap (λ x. x + 1) l in
      let d : length ds ≡ 12 = c.long in
      record {
        long = length-set ds (a + 1) v ∙ d;
        first = get_or-set_other ds (a + 1) 0 v 0 (λ q. absurd (omega arith)) ∙ c.first;
        entries = λ e b.
            ⊎_elim
            (λ o.
            get_or-set_other ds (a + 1) (suc e) v 0 (λ q. absurd (omega arith)) ∙ c.entries e (omega arith)
            ∙ ap (renewed wanted) (sym (get_or-append es (p ∷ []) 0 e (omega arith))))
            (λ o.
            let i : suc e ≡ a + 1 = omega arith in
            let j : length es ≡ e = omega arith in
            ap (λ x. get_or (set ds (a + 1) v) x 0) i ∙ get_or-set_same ds (a + 1) v 0 (omega arith) ∙ h ∙ ap (renewed wanted) (sym (get_or_at es p [] 0 e j)))
            (lt_or_le e a);
        rest = λ e b. get_or-set_other ds (a + 1) (suc e) v 0 (λ q. absurd (omega arith)) ∙ c.rest e (omega arith);
      }

-- ---- digits

module _ (n a : ℕ) (ds wanted es : List ℕ) (l : length es ≡ a) (c : Noted wanted ds es) where
  row : List ℕ
  row = map (renewed wanted) es

  length_row : length row ≡ a
  unfolding row
  length_row = length-map es (renewed wanted) ∙ l

  active : (e : ℕ) → e < a → get_or ds (suc e) 0 ≡ slot n row e
  unfolding row
  active e h = c.entries e (omega arith) ∙ sym (slot_in n row e (omega (arith, length_row)) ∙ get_or_renewed wanted es e (omega arith))

  after_these : (e : ℕ) → a ≤ e → e + 1 ≢ n → get_or ds (suc e) 0 ≡ slot n row e
  after_these e h d = c.rest e (omega arith) ∙ sym (slot_idle n row e (omega (arith, length_row)) ∙ idle_other n (length row) e d)

  pub digits_full : a ≡ n → (d : ℕ) → get_or (set ds 0 512) d 0 ≡ digit n (map (renewed wanted) es) d
  unfolding row digit
  digits_full f =
      let k : length ds ≡ 12 = c.long in
      elim [
        | zero ↦ get_or-set_same ds 0 512 0 (omega arith) ∙ sym (ap (λ t. cond t 512 0) (eq-eqb (length row) n (length_row ∙ f)))
        | suc e ↦ get_or-set_other ds 0 (suc e) 512 0 (λ q. absurd (omega arith)) ∙ ⊎_elim (active e) (λ h. after_these e h (λ q. absurd (omega arith))) (lt_or_le e a)
      ]

  pub digits_part : a ≢ n → a ≤ n → 1 ≤ n → n ≤ 10 → (d : ℕ) → get_or (set ds n (1 * 2 ^ a % 2 ^ 64 - 1)) d 0 ≡ digit n (map (renewed wanted) es) d
  unfolding row digit
  digits_part f g least most =
      let v : ℕ = 1 * 2 ^ a % 2 ^ 64 - 1 in
      let k : length ds ≡ 12 = c.long in
      elim [
        | zero ↦ get_or-set_other ds n 0 v 0 (λ q. absurd (omega arith)) ∙ c.first ∙ sym (ap (λ t. cond t 512 0) (ne_eqb (length row) n (λ q. f (sym length_row ∙ q))))
        | suc e ↦
            elim (ℕ_discrete (suc e) n) [
              | yes q ↦
                  ap (λ x. get_or (set ds n v) x 0) q ∙ get_or-set_same ds n v 0 (omega arith) ∙ ap (λ x. x - 1) (one_shl a (omega arith)) ∙ unary_ones a (omega arith)
                  ∙ sym (slot_idle n row e (omega (arith, length_row)) ∙ idle_last n (length row) e (omega arith) ∙ ap unary length_row)
              | no q ↦ get_or-set_other ds n (suc e) v 0 q ∙ ⊎_elim (active e) (λ h. after_these e h (λ r. q (omega arith))) (lt_or_le e a)
            ]
      ]

digit_lt : (n : ℕ) (es : List ℕ) (i : ℕ) → Below 1024 es → digit n es i < 1024
unfolding digit
digit_lt n es zero b = go (eqb (length es) n)
  where
    go : (t : Bool) → cond t 512 0 < 1024
    go true = omega arith
    go false = omega arith
digit_lt n es (suc i) b = slot_lt n es i b

pub digits_below : (n : ℕ) (es ds : List ℕ) → Below 1024 es → ((d : ℕ) → get_or ds d 0 ≡ digit n es d) → Below 1024 ds
digits_below n es ds b h d = rw (h d) (digit_lt n es d b)

-- ---- bytes

metadata_digit : (n : ℕ) (es : List ℕ) (p : ℕ) → metadata_bit n es p ≡ has (digit n es ((p + 9) / 10)) ((p + 9) % 10)
unfolding metadata_bit digit has
metadata_digit n es zero = go (eqb (length es) n)
  where
    go : (t : Bool) → t ≡ has (cond t 512 0) 9
    go true = refl
    go false = refl
metadata_digit n es (suc p) =
    let d : (suc p + 9) / 10 ≡ suc (p / 10) = omega arith in
    let r : (suc p + 9) % 10 ≡ p % 10 = omega arith in
    rw (d, r)

pub encoded : (n k : ℕ) (es ds m : List ℕ) → k ≡ size n → ((d : ℕ) → get_or ds d 0 ≡ digit n es d) → m ≡ bytes k (digit_bit ds) → m ≡ encode n es
unfolding encode
encoded n k es ds m e d h =
    h ∙ ap (λ x. bytes x (digit_bit ds)) e
    ∙ bytes_ext (size n) (digit_bit ds) (metadata_bit n es) (λ p _. ap (λ x. has x ((p + 9) % 10)) (d ((p + 9) / 10)) ∙ sym (metadata_digit n es p))

-- one byte of metadata more, from the two digits in which it lies
pub store_more : (ds m : List ℕ) (j : ℕ) → let d = (8 * j + 9) / 10 in Below 1024 ds → j < length m → take j m ≡ bytes j (digit_bit ds)
    → take (j + 1) (set m j ((get_or ds d 0 + 1024 * get_or ds (d + 1) 0) / 2 ^ ((8 * j + 9) % 10) % 256)) ≡ bytes (j + 1) (digit_bit ds)
unfolding list number
store_more ds m j b l h =
    let d : ℕ = (8 * j + 9) / 10 in
    let s : ℕ = (8 * j + 9) % 10 in
    let x : ℕ = get_or ds d 0 + 1024 * get_or ds (d + 1) 0 in
    let o : get_or ds (d + 0) 0 ≡ get_or ds d 0 = ap (λ i. get_or ds i 0) (omega arith) in
    let v : get_or ds d 0 + 1024 * get_or ds (d + 1) 0 ≡ number 1024 (list 2 (λ i. get_or ds (d + i) 0)) = omega arith in
    bytes_more j (digit_bit ds) (x / 2 ^ s % 256) m l h
    (is_word 8 (x / 2 ^ s % 256) (λ k. digit_bit ds (8 * j + k)) (mod-lt (x / 2 ^ s) (omega arith))
    (λ k q.
    let y : d + (s + k) / 10 ≡ (8 * j + k + 9) / 10 = omega arith in
    let z : (s + k) % 10 ≡ (8 * j + k + 9) % 10 = omega arith in
    ap (λ w. has (w / 2 ^ s % 256) k) v ∙ window_bit 10 2 d s 8 k (λ i. get_or ds i 0) (λ i _. b (d + i)) (omega arith) q (omega arith)
    ∙ ap₂ (λ i r. has (get_or ds i 0) r) y z))
