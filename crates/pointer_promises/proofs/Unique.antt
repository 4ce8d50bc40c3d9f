-- No second answer: two that keep the promises of a call, with their buffers, are equal. And what does not count: an output's or old cells' bytes, and a
-- value bit at a sound cell. Assumes nothing.
use mathlib.Core.Path.{◌≡◌, refl, sym, ap, ◌∙◌}
use mathlib.Core.Bool.{Bool, true, false, not, xor, cond, ◌&&◌}
use mathlib.Core.List.{List, ◌++◌, map}
use mathlib.Core.Logic.{◌⊎◌, inl, inr, ⊎_elim}
use Prim.Native.Nat.{ℕ, ◌<◌}
use native.Mathlib.Decide.{ℕ_discrete}
use lib.ListN.{length}
use Rattle.bits.specs.Bits.{num, at, bytes}
use Rattle.bits.proofs.BoundLaws.{sum_ext}
use Rattle.bits.proofs.ByteLaws.{bytes_ext}
use Rattle.pointer_promises.specs.Pointer.{held, names, unserved, renewed, after, active_after, stored, encode, read_number, needed, write_judged, write_number}
use Rattle.pointer_promises.specs.Promises.{Write}
use Rattle.pointer_promises.specs.Theorems.{ReadUnique, WritesAlike, WriteUnique, OutputMeasured, OldMeasured, SoundValues, WriteThenRead}
use Rattle.pointer_promises.specs.declared.WriteAnswer.{WriteAnswer}
use Rattle.pointer_promises.proofs.PositionLaws.{positions_ext}

pub output_measured : OutputMeasured
output_measured n cells m out out₂ a b o p e r s =
    let number : a.number ≡ b.number = r.number ∙ ap (read_number n (length cells) m) e ∙ sym s.number in
    (λ i. record { number = number i }, λ z. r.filled z ∙ sym (s.filled (sym number ∙ z)))

pub read_unique : ReadUnique
read_unique n cells m out a b o p r s =
    let (x, y) = output_measured n cells m out out a b o p refl r s in
    (x, elim (ℕ_discrete a.number 0) [ yes z ↦ y z | no z ↦ r.refused z ∙ sym (s.refused (λ h. z (ap (λ c. c.number) x ∙ h))) ])

-- over two calls whose definitions agree: with the same arguments they do
module _ (n : ℕ) (wanted mask values values₂ cells cells₂ m : List ℕ)
    (numbers : write_number n wanted mask values (length cells) m ≡ write_number n wanted mask values₂ (length cells₂) m)
    (stores : bytes 64 (stored wanted mask values) ≡ bytes 64 (stored wanted mask values₂))
    (entries : after wanted mask values (held n m) ≡ after wanted mask values₂ (held n m))
    (counts : needed wanted mask values (held n m) ≡ needed wanted mask values₂ (held n m)) where
  actives : active_after n wanted mask values m ≡ active_after n wanted mask values₂ m
  unfolding active_after
  actives = ap length entries

  -- the cells too, where they are stored or were the same before
  same : (a b : WriteAnswer) (c d k l : List ℕ) → Write n wanted mask values cells m a c k → Write n wanted mask values₂ cells₂ m b d l
      → (a ≡ b) × ((a.number ≡ 0) ⊎ (cells ≡ cells₂) → c ≡ d) × (k ≡ l)
  same a b c d k l r s = go (ℕ_discrete a.number 0)
    where
      number : a.number ≡ b.number
      number = r.number ∙ numbers ∙ sym s.number

      go : Dec (a.number ≡ 0) → (a ≡ b) × ((a.number ≡ 0) ⊎ (cells ≡ cells₂) → c ≡ d) × (k ≡ l)
      go (yes z) =
          let y : b.number ≡ 0 = sym number ∙ z in
          let active : a.active ≡ b.active = (r.counts z).0 ∙ actives ∙ sym (s.counts y).0 in
          let new : a.new ≡ b.new = (r.counts z).1 ∙ counts ∙ sym (s.counts y).1 in (
            λ i. record { number = number i; active = active i; new = new i },
            λ _. r.stores z ∙ stores ∙ sym (s.stores y),
            r.encodes z ∙ ap (encode n) entries ∙ sym (s.encodes y),
          )
      go (no z) =
          let (p, q, u, v) = r.refused z in
          let (p₂, q₂, u₂, v₂) = s.refused (λ y. z (number ∙ y)) in
          (λ i. record { number = number i; active = (p ∙ sym p₂) i; new = (q ∙ sym q₂) i }, ⊎_elim (λ y. absurd (z y)) (λ e. u ∙ e ∙ sym u₂), v ∙ sym v₂)

pub write_unique : WriteUnique
write_unique n wanted mask values cells m a b c d k l r s =
    let (x, y, z) = same n wanted mask values values cells cells m refl refl refl refl a b c d k l r s in (x, y (inr refl), z)

pub old_measured : OldMeasured
old_measured n wanted mask values m cells cells₂ a b c d k l e r s =
    let (x, y, z) = same n wanted mask values values cells cells₂ m (ap (λ g. write_number n wanted mask values g m) e) refl refl refl a b c d k l r s in
    (x, λ h. y (inl h), z)

-- ---- a write, then a read

pub write_then_read : WriteThenRead
write_then_read n wanted mask values cells m cells' m' out out' w r f z l g =
    let (e, o) = read_unique n cells' m' out r (record { number = 0 }) out' wanted g (f.reads z out l) in (ap (λ a. a.number) e, o)

-- ---- a value bit at a sound cell

module _ (n : ℕ) (wanted mask values values₂ cells m : List ℕ) (long : length values ≡ length values₂)
    (agree : (p : ℕ) → p < 512 → at mask p ≡ true → at values p ≡ at values₂ p) where
  unserved_same : (p : ℕ) → p < 512 → unserved wanted mask values (held n m) p ≡ unserved wanted mask values₂ (held n m) p
  unfolding unserved
  unserved_same p h = go (at mask p) refl
    where
      go : (t : Bool) → at mask p ≡ t → t && xor (at wanted p) (at values p) && not (names (held n m) p) ≡ t && xor (at wanted p) (at values₂ p) && not (names (held n m) p)
      go true e = ap (λ v. xor (at wanted p) v && not (names (held n m) p)) (agree p h e)
      go false e = refl

  stored_same : (p : ℕ) → p < 512 → stored wanted mask values p ≡ stored wanted mask values₂ p
  unfolding stored
  stored_same p h = go (at mask p) refl
    where
      go : (t : Bool) → at mask p ≡ t → cond t (at values p) (at wanted p) ≡ cond t (at values₂ p) (at wanted p)
      go true e = agree p h e
      go false e = refl

  needed_same : needed wanted mask values (held n m) ≡ needed wanted mask values₂ (held n m)
  unfolding needed
  needed_same =
      sum_ext 512 (λ p. num (unserved wanted mask values (held n m) p)) (λ p. num (unserved wanted mask values₂ (held n m) p)) (λ p h. ap num (unserved_same p h))

  number_same : write_number n wanted mask values (length cells) m ≡ write_number n wanted mask values₂ (length cells) m
  unfolding write_number write_judged
  number_same = rw (long, needed_same)

  entries_same : after wanted mask values (held n m) ≡ after wanted mask values₂ (held n m)
  unfolding after
  entries_same =
      ap (λ ps. map (renewed wanted) (held n m ++ ps)) (positions_ext 512 (unserved wanted mask values (held n m)) (unserved wanted mask values₂ (held n m)) unserved_same)

  same_where_stuck : WritesAlike (Write n wanted mask values cells m) (Write n wanted mask values₂ cells m)
  same_where_stuck a b c d k l r s =
      let (x, y, z) =
      same n wanted mask values values₂ cells cells m number_same (bytes_ext 64 (stored wanted mask values) (stored wanted mask values₂) stored_same) entries_same needed_same a b c
      d k l r s in
      (x, y (inr refl), z)

pub sound_values : SoundValues
sound_values = same_where_stuck
