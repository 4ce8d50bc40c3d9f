-- What the steps of the code come to: lengths, the bytes of a lump, and the words of a block. Assumes nothing.
use Prim.Native.Nat.{ℕ, ◌+◌, ◌-◌, ◌*◌, ◌<◌, ◌≤◌}
use mathlib.Core.Path.{◌≡◌, sym, ap, subst, ◌∙◌}
use mathlib.Core.Bool.{cond}
use mathlib.Core.List.{List, ◌++◌, append_assoc}
use native.Mathlib.Omega.{arith}
use borrow.Author.Tests.{le-leb}
use lib.Dec.{leb, eqb}
use lib.ListN.{length-drop, length, take, drop, set}
use borrow.Rule.Slice.PartMut.{put_mid, mid_of}
use lib.Seq.{length-take-le, drop-drop, take-take}
use Rattle.bits.specs.Bits.{number, number_at}
use Rattle.bits.proofs.BoundLaws.{list_more}
use Rattle.rdis.specs.Packing.{width, bytes_for}
use Rattle.words.proofs.CopyLaws.{as_long_lem}
use Rattle.grid_promises.specs.Refusals.{InRange}
use Rattle.grid_promises.specs.Promises.{Read}
use Rattle.grid_promises.specs.declared.ReadAnswer.{ReadAnswer}
use Rattle.fragment_promises.specs.declared.Transfer.{Transfer}
use Rattle.fragment_promises.specs.Transfers.{counter_bytes, size, transfer, standing_of, size_of, counters_of, cells_of, words_from}
use Rattle.fragment_promises.specs.Promises.{Lump}
use Rattle.fragment_promises.proofs.StandingLaws.{size_most, well_good}
use Rattle.fragment_promises.proofs.StepLaws.{lump_stays, lump_taken}

-- ---- lengths

pub counted : (m n k : ℕ) → InRange m n k → cond (leb (m + n) 128) (bytes_for (width k) (m + n)) 0 ≡ counter_bytes m n k
counted m n k r = ap (λ b. cond b (bytes_for (width k) (m + n)) 0) (le-leb (m + n) 128 (omega (arith, r.rows.1, r.columns.1)))

pub whole_length : (m n k c : ℕ) (bs : List ℕ) → c ≡ counter_bytes m n k → length bs ≡ size m n k → length bs ≡ c + 8 * m
unfolding size
whole_length m n k c bs e f = omega arith

-- ---- a lump

-- what the record has noted, it notes again
pub lump_noted : (t : Transfer) (bs : List ℕ) (x : ℕ) → length t.bytes ≡ 560 → x ≡ standing_of t → 0 < x → Lump t bs x t
lump_noted t bs x room e l = rw e (lump_stays t bs room (rw (← e) l))

-- the bytes of a lump for which there is room end within the record
pub lump_end : (t : Transfer) (room n : ℕ) → 0 ≡ standing_of t → t.taken + room ≡ size_of t → n ≤ room → t.taken + n ≤ 560
lump_end t room n z e l = omega (arith, e, size_most t.rows t.columns t.k (well_good t (sym z)))

-- and are put behind those that it has
pub lump_put : (t : Transfer) (bs put : List ℕ) (room k : ℕ) → length t.bytes ≡ 560 → 0 ≡ standing_of t → t.taken + room ≡ size_of t → length bs ≤ room → put ≡ bs → k ≡ length bs
    → Lump t bs 0 (transfer t.rows t.columns t.k (t.taken + length bs) (put_mid t.taken k t.bytes put))
lump_put t bs put room k long z e l p q =
    let front : (take t.taken t.bytes ++ bs) ++ drop (t.taken + length bs) t.bytes ≡ take t.taken t.bytes ++ (bs ++ drop (length bs) (drop t.taken t.bytes)) =
    append_assoc (take t.taken t.bytes) bs (drop (t.taken + length bs) t.bytes) ∙ ap (λ x. take t.taken t.bytes ++ (bs ++ x)) (sym (drop-drop (length bs) t.taken t.bytes)) in
    rw (p, q, ← front) (lump_taken t bs long (sym z) (omega (arith, e)))

-- where they were copied into as many
pub lump_copied : (t : Transfer) (bs put : List ℕ) (room k : ℕ) → length t.bytes ≡ 560 → 0 ≡ standing_of t → t.taken + room ≡ size_of t → length bs ≤ room
    → put ≡ cond (eqb (length (mid_of t.taken k t.bytes)) (length bs)) bs (mid_of t.taken k t.bytes) → k ≡ length bs
    → Lump t bs 0 (transfer t.rows t.columns t.k (t.taken + length bs) (put_mid t.taken k t.bytes put))
lump_copied t bs put room k long z e l p q =
    let most : t.taken + length bs ≤ 560 = lump_end t room (length bs) z e l in
    let left : length (drop t.taken t.bytes) ≡ length t.bytes - t.taken = length-drop t.taken t.bytes in
    let many : length (mid_of t.taken k t.bytes) ≡ length bs = length-take-le k (drop t.taken t.bytes) (omega (arith, left, most)) ∙ q in
    lump_put t bs put room k long z e l (p ∙ sym (as_long_lem _ _ bs (mid_of t.taken k t.bytes) many)) q

-- ---- the words of a block

-- eight bytes cut out by themselves
pub cut_out : (q n : ℕ) (bs : List ℕ) → 8 ≤ n → number_at (take n (drop q bs)) 0 8 ≡ number_at bs q 8
unfolding number_at
cut_out q n bs l = ap (number 256) (take-take 8 n (drop q bs) l)

pub one_word_more : (c i v : ℕ) (bs xs : List ℕ) → i < length xs → take i xs ≡ words_from c i bs → v ≡ number_at bs (c + 8 * i) 8
    → take (i + 1) (set xs i v) ≡ words_from c (i + 1) bs
unfolding words_from number_at
one_word_more c i v bs xs l e h = list_more i _ v xs l e h

-- a read of a block's words and counters, cut by the code, is one of those that the definitions cut
pub same_read : (m n k c : ℕ) (bs ws out : List ℕ) (a : ReadAnswer) (after : List ℕ) → c ≡ counter_bytes m n k → ws ≡ words_from c m bs → Read m n k ws (take c bs) out a after
    → Read m n k (cells_of m n k bs) (counters_of m n k bs) out a after
same_read m n k c bs ws out a after e w r = subst (λ X. X) (λ i. Read m n k ((w ∙ ap (λ x. words_from x m bs) e) i) (take (e i) bs) out a after) r
