-- Encoding and decoding are inverse on well-formed metadata whose pointers differ, and zeros are a fresh row. Assumes nothing.
use mathlib.Core.Path.{◌≡◌, refl, sym, ap, ◌∙◌}
use mathlib.Core.Bool.{Bool, true, false, cond}
use mathlib.Core.List.{[]}
use Prim.Native.Nat.{ℕ, zero, suc, ◌+◌, ◌/◌, ◌%◌, ◌≤◌}
use native.Mathlib.Omega.{arith}
use borrow.Author.Tests.{ne_eqb}
use lib.Dec.{eqb}
use lib.ListN.{replicate, length-replicate}
use Rattle.bits.specs.Bits.{has, word}
use Rattle.bits.proofs.BitLaws.{has_zero}
use Rattle.bits.proofs.ByteLaws.{get_or_zeros, at_zeros, is_bytes}
use Rattle.pointer_promises.specs.Pointer.{size, unary, idle, repeats, metadata_bit, encode}
use Rattle.pointer_promises.specs.Theorems.{Fits, DecodeEncode, EncodeDecode, FreshRow}
use Rattle.pointer_promises.proofs.CodecLaws.{slot_idle, active_encode, held_encode, verdict_encode, encode_held}
use Rattle.pointer_promises.proofs.NumberLaws.{verdict_zero}

pub decode_encode : DecodeEncode
decode_encode n es s d = (verdict_encode n es s d, held_encode n es s)

pub encode_decode : EncodeDecode
encode_decode n m l s b v = let c = verdict_zero n m v in encode_held n m l s c.spares c.forms b

-- ---- a fresh row

idle_none : (n e : ℕ) → idle n 0 e ≡ 0
unfolding idle unary word
idle_none n e = go (eqb (e + 1) n)
  where
    go : (t : Bool) → cond t (unary 0) 0 ≡ 0
    go true = refl
    go false = refl

fresh_bit : (n p : ℕ) → 1 ≤ n → metadata_bit n [] p ≡ false
unfolding metadata_bit
fresh_bit n zero l = ne_eqb 0 n (omega arith)
fresh_bit n (suc p) l = ap (λ x. has x (p % 10)) (slot_idle n [] (p / 10) (omega arith) ∙ idle_none n (p / 10)) ∙ has_zero (p % 10)

-- zeros are the metadata of no active entry
encode_none : (n : ℕ) → 1 ≤ n → encode n [] ≡ replicate (size n) 0
unfolding encode
encode_none n l =
    sym
    (is_bytes (size n) (metadata_bit n []) (replicate (size n) 0) (length-replicate (size n) 0) (λ i. rw (get_or_zeros (size n) i) (omega arith))
    (λ p h. at_zeros (size n) p ∙ sym (fresh_bit n p l)))

pub fresh_row : FreshRow
unfolding repeats
fresh_row n range =
    let s : Fits n [] = record { range = range; few = omega arith; small = λ i. omega arith } in
    rw (← encode_none n range.0) (verdict_encode n [] s refl, active_encode n [] s)
